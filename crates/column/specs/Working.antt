-- A page that is worked by code: which calls were made, and what each answered.
use Rattle.std.specs.Prelude.{◌≡◌, ℕ, ◌-◌, min, max, List, [], ◌∷◌, map, length, take, drop, Some, None, Ok, Err, Option, Result}
use Rattle.std.specs.Borrow.{Bor}
use Rattle.packed.specs.declared.element.Element
use Rattle.column.specs.Pages.{fault, Waiting, nothing, Reading, refused, opened}
use Rattle.column.specs.Coding.{page_of, unmade}
use Rattle.column.specs.Putting.{putting, finished}
use Rattle.column.specs.States.{DecoderState, EncoderState, fresh}
use Rattle.column.specs.Taking.{Taking, after_taking, cells_with, one_of}
use Rattle.column.specs.Trips.{kind_of, Putting, put, put_list, patterns, after_call, after_calls, Asking, get, get_batch, skip, taken_by, left_after, Returned}
use Rattle.column.specs.declared.meaning.Meaning
use Rattle.column.specs.declared.declined.Declined.{Declined}
use Rattle.column.specs.declared.declined.Declined.TheVariants.{Refused, Faulted}
use Rattle.column.specs.declared.Refusal.{Refusal}
use Rattle.column.specs.declared.putting.PutList.{PutList}
use Rattle.column.specs.declared.working.Step.{Step}
use Rattle.column.specs.declared.working.PutCall.{PutCall}
use Rattle.column.specs.declared.working.PutCall.TheVariants.{One, List as Many}
use Rattle.column.specs.declared.working.TakeCall.{TakeCall}
use Rattle.column.specs.declared.working.TakeCall.TheVariants.{Get, Batch, Skip}
use Rattle.column.specs.declared.working.TakeAnswer.{TakeAnswer}
use Rattle.column.specs.declared.working.TakeAnswer.TheVariants.{Got, Took}

-- ---- parts of a slice

-- Where a part of a slice of n begins and ends, cut to the slice.
abbrev pub cut_from : ℕ → ℕ → ℕ
cut_from from n = min from n

abbrev pub cut_to : ℕ → ℕ → ℕ → ℕ
cut_to from to n = max (min to n) (min from n)

abbrev pub cut_length : ℕ → ℕ → ℕ → ℕ
cut_length from to n = cut_to from to n - cut_from from n

abbrev pub part : {A : Type 0} → List A → ℕ → ℕ → List A
part xs from to = take (cut_length from to (length xs)) (drop (cut_from from (length xs)) xs)

-- ---- puts

-- A call that puts, with its answer.
abbrev pub Put : Type 0 → Type 0
Put E = Step (PutCall E) PutList

-- What a call puts.
abbrev pub put_of : {E : Type 0} → Element.Ghosts E → List E → PutCall E → Putting
put_of e values (One v) = put (kind_of e) (e.pattern v)
put_of e values (Many from to) = put_list (kind_of e) (map e.pattern (part values from to))

module _ {E : Type 0} (e : Element.Ghosts E) (values : List E) where
  abbrev pub puts_of : List (Put E) → List Putting
  puts_of cs = map (λ (c : Put E). put_of e values c.call) cs

  -- The calls, each with its answer.
  unfoldable pub puts_answered : (ℕ → List ℕ → ℕ) → EncoderState → List (Put E) → List (Put E)
  puts_answered need s [] = []
  puts_answered need s (c ∷ cs) =
      record { call = c.call; answer = Some (putting need s (patterns (put_of e values c.call))) }
      ∷ puts_answered need (after_call need s (put_of e values c.call)) cs

-- ---- takes

-- A call that takes, with its answer.
abbrev pub Take : Type 0 → Type 0
Take E = Step TakeCall (TakeAnswer E)

module _ {E : Type 0} (e : Element.Ghosts E) (n : ℕ) where
  -- What a call asks for; n is how many cells there are.
  abbrev pub ask_of : TakeCall → Asking
  ask_of Get = get (kind_of e)
  ask_of (Batch from to) = get_batch (kind_of e) (cut_length from to n)
  ask_of (Skip m) = skip m

  abbrev pub asks_of : List (Take E) → List Asking
  asks_of cs = map (λ (c : Take E). ask_of c.call) cs

  -- What a call takes.
  abbrev pub taken_from : DecoderState → TakeCall → Taking
  taken_from d call = taken_by d.width (ask_of call) d.waiting

  -- The decoder after calls.
  abbrev pub decoder_after : DecoderState → List (Take E) → DecoderState
  decoder_after d cs = record { page = d.page; width = d.width; waiting = left_after d.width d.waiting (asks_of cs) }

module _ {E : Type 0} (e : Element.Ghosts E) where
  -- What a call answers, by what it takes.
  abbrev pub answer_of : TakeCall → Taking → TakeAnswer E
  answer_of Get t = Got (one_of e t)
  answer_of (Batch from to) t = Took t.answer
  answer_of (Skip m) t = Took t.answer

  -- The cells after a call.
  abbrev pub cells_by : List E → TakeCall → Taking → List E
  cells_by cells Get t = cells
  cells_by cells (Batch from to) t = cells_with e cells (cut_from from (length cells)) t
  cells_by cells (Skip m) t = cells

  -- The cells after calls, and the calls, each with its answer.
  unfoldable pub cells_after : ℕ → DecoderState → List E → List (Take E) → List E
  cells_after n d cells [] = cells
  cells_after n d cells (c ∷ cs) =
      cells_after n (after_taking (taken_from e n d c.call) d) (cells_by cells c.call (taken_from e n d c.call)) cs

  unfoldable pub takes_answered : ℕ → DecoderState → List (Take E) → List (Take E)
  takes_answered n d [] = []
  takes_answered n d (c ∷ cs) =
      record { call = c.call; answer = Some (answer_of c.call (taken_from e n d c.call)) }
      ∷ takes_answered n (after_taking (taken_from e n d c.call) d) cs

-- ---- a whole page

-- What is so where an encoder was made, and where it was not.
abbrev pub if_made : {A : Type 0} → Option Refusal → A → A → A
if_made None x y = x
if_made (Some e) x y = y

-- What working a page answers: the page's length and the buffer after finish, or why no encoder was made.
abbrev pub Worked : Option Refusal → List ℕ → ℕ → Result (ℕ × Bor (List ℕ)) Declined → Type 0
Worked u page room (Ok p) = (u ≡ None) × (p.0 ≡ length page) × (p.1.now ≡ finished page room)
Worked u page room (Err (Refused e)) = u ≡ Some e
Worked u page room (Err (Faulted f k)) = ⊥

-- What waits when a page is opened.
abbrev pub waiting_in : Reading → Waiting
waiting_in (refused f) = nothing (fault f)
waiting_in (opened r) = r

-- A decoder of the page of a finished encoder, which was opened with the accepted number as count.
abbrev pub decoder_of : {C : Type 0} → Meaning.Ghosts C → EncoderState → DecoderState
decoder_of code s = record {
  page = page_of code s;
  width = s.width;
  waiting = waiting_in (code.reads s.width (length s.accepted) (page_of code s));
}

-- A page that was worked by one call, at a coding, an element type that is put and one that is taken.
module _ {C P E : Type 0} (code : Meaning.Ghosts C) (p : Element.Ghosts P) (e : Element.Ghosts E)
    (width room : ℕ) (values : List P) (puts : List (Put P)) (cells : List E) (takes : List (Take E)) where
  -- Why no encoder was made.
  abbrev refusal_is : Option Refusal
  refusal_is = unmade code width room

  -- The encoder when it is finished: all puts were made on a fresh one.
  abbrev encoder_is : EncoderState
  encoder_is = after_calls code.need (fresh width room) (puts_of p values puts)

  -- The page is that of the accepted list. The puts, the takes and the cells are as the calls answer; without an encoder they
  -- stay. What comes back is what was accepted.
  pub record PageWorked (puts' : List (Put P)) (cells' : List E) (takes' : List (Take E))
      (result : Result (ℕ × Bor (List ℕ)) Declined) : Type 0 where
    pub page : Worked refusal_is (page_of code encoder_is) room result
    pub puts_are : puts' ≡ if_made refusal_is (puts_answered p values code.need (fresh width room) puts) puts
    pub takes_are : takes' ≡ if_made refusal_is (takes_answered e (length cells) (decoder_of code encoder_is) takes) takes
    pub cells_are : cells' ≡ if_made refusal_is (cells_after e (length cells) (decoder_of code encoder_is) cells takes) cells
    pub returned : refusal_is ≡ None → Returned code encoder_is (asks_of e (length cells) takes)
