-- A whole page: from the check to the open.
use Rattle.std.proofs.Common.{◌≡◌, ℕ, ◌+◌, ◌-◌, ◌≤◌, Bool, true, false, T, leb, List, [], ◌∷◌, length, take, drop, replicate, Some, None, Ok, Err, Option, sym, refl, ap, ◌∙◌, subst, zero-add, take_at}
use native.Mathlib.Nat.{sub-zero}
use Rattle.std.proofs.lemmas.Bool.{cond_both, leb-true}
use Rattle.column.specs.Coding.{page_of, unmade}
use Rattle.column.specs.Pages.{Reading, refused, opened, Waiting}
use Rattle.column.specs.Putting.{finished, fitting}
use Rattle.column.specs.States.{DecoderState, EncoderState, fresh}
use Rattle.column.specs.Taking.{Opening, shut}
use Rattle.column.specs.Trips.{Putting, after_call, after_calls}
use Rattle.column.specs.Working.{decoder_of, if_made, waiting_in}
use Rattle.column.specs.declared.declined.Declined.{Declined}
use Rattle.column.specs.declared.Refusal.{Refusal}
use Rattle.column.specs.declared.Refusal.TheVariants.{BadWidth, Full}
use Rattle.column.specs.declared.meaning.Meaning

pub some-none : {A : Type 0} {a : A} → ◌≡◌ {A = Option A} (Some a) None → ⊥
some-none e = cc

pub made-same : {A : Type 0} {u : Option Refusal} {x : A} → u ≡ None → (y : A) → x ≡ if_made u x y
made-same {x = x} e y = ap (λ v. if_made v x y) (sym e)

-- a page that opens is not shut
pub not-shut : (t : Bool) (r : Reading) (e : Declined) (w : Waiting) → T t → r ≡ opened w → shut t r ≡ Some e → ⊥
not-shut true (opened v) e w allowed is s = some-none (sym s)
not-shut true (refused f) e w allowed is s = cc
not-shut false r e w allowed is s = allowed

-- the page at the front of the buffer
pub page-front : (page : List ℕ) (room n : ℕ) (buffer : List ℕ) → n ≡ length page → buffer ≡ finished page room → take (n - 0) (drop 0 buffer) ≡ page
page-front page room n buffer long is =
    ap (λ k. take k buffer) (sub-zero n ∙ long) ∙ ap (take (length page)) is ∙ take_at page (replicate (room - length page) 0) (length page) refl

-- one function of three
pub at-three : {A X Y Z : Type 0} (f : X → Y → Z → A) {x x' : X} {y y' : Y} {z z' : Z} → x ≡ x' → y ≡ y' → z ≡ z' → f x y z ≡ f x' y' z'
at-three f {x} {x'} {y} {y'} {z} {z'} p q r = ap (λ a. f a y z) p ∙ ap (λ b. f x' b z) q ∙ ap (f x' y') r

module _ {C : Type 0} (code : Meaning.Ghosts C) where
  -- where an encoder is made, the width is allowed and the empty list fits
  pub was-made : (w room : ℕ) → unmade code w room ≡ None → T (code.allows w) × (code.need w [] ≤ room)
  was-made w room =
      cond_both (code.allows w) (fitting (code.need w []) room) (Some BadWidth) (λ u. u ≡ None → T (code.allows w) × (code.need w [] ≤ room))
      (λ allowed. cond_both (leb (code.need w []) room) None (Some Full) (λ u. u ≡ None → T (code.allows w) × (code.need w [] ≤ room))
      (λ fits e. (subst T (sym allowed) tt, leb-true (code.need w []) room fits))
      (λ full e. (cc)))
      (λ no e. (cc))

  -- calls change neither the width nor the room
  pub calls-width : (s : EncoderState) (cs : List Putting) → (after_calls code.need s cs).width ≡ s.width
  unfolding after_calls
  calls-width s [] = refl
  calls-width s (c ∷ cs) = calls-width (after_call code.need s c) cs

  pub calls-room : (s : EncoderState) (cs : List Putting) → (after_calls code.need s cs).room ≡ s.room
  unfolding after_calls
  calls-room s [] = refl
  calls-room s (c ∷ cs) = calls-room (after_call code.need s c) cs

  -- what finish answered, and how many values were put
  pub record Written (s : EncoderState) (n : ℕ) (buffer : List ℕ) (count : ℕ) : Type 0 where
    pub long : n ≡ length (page_of code s)
    pub bytes : buffer ≡ finished (page_of code s) s.room
    pub counted : count ≡ length s.accepted

  pub written : (w room : ℕ) (puts : List Putting) (start enc : EncoderState) (n count : ℕ) (buffer : List ℕ)
      → start ≡ fresh w room → enc ≡ after_calls code.need start puts → length start.accepted + count ≡ length enc.accepted
      → n ≡ length (page_of code enc) → buffer ≡ finished (page_of code enc) enc.room
      → Written (after_calls code.need (fresh w room) puts) n buffer count
  written w room puts start enc n count buffer first after counted long bytes =
      let is = after ∙ ap (λ s. after_calls code.need s puts) first in
      record {
        long = long ∙ ap (λ s. length (page_of code s)) is;
        bytes = bytes ∙ ap (λ s. finished (page_of code s) s.room) is;
        counted = sym (zero-add count) ∙ ap (λ (s : EncoderState). length s.accepted + count) (sym first) ∙ counted ∙ ap (λ (s : EncoderState). length s.accepted) is;
      }

  module _ (s : EncoderState) (w n count : ℕ) (buffer : List ℕ) (on : Written s n buffer count) (width : w ≡ s.width) where
    abbrev front : List ℕ
    front = take (n - 0) (drop 0 buffer)

    front-is : front ≡ page_of code s
    front-is = page-front (page_of code s) s.room n buffer on.long on.bytes

    reads-front : code.reads w count front ≡ code.reads s.width (length s.accepted) (page_of code s)
    reads-front = at-three code.reads width on.counted front-is

    -- the decoder that opens it
    pub opens-as : {D : Type 0} (state : D → DecoderState) (d : D) → Opening state (code.allows w) w front (code.reads w count front) (Ok d) → state d ≡ decoder_of code s
    opens-as state d opening =
        at-three (λ p v r. record { page = p; width = v; waiting = r }) (opening.2 ∙ front-is) (opening.3 ∙ width) (ap waiting_in (sym opening.1 ∙ reads-front))

    pub never-shut : {D : Type 0} (state : D → DecoderState) (e : Declined) (r : Waiting) → T (code.allows w) → code.reads s.width (length s.accepted) (page_of code s) ≡ opened r
        → Opening state (code.allows w) w front (code.reads w count front) (Err e) → ⊥
    never-shut state e r allowed opens = not-shut (code.allows w) (code.reads w count front) e r allowed (reads-front ∙ opens)
