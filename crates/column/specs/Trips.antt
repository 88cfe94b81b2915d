-- The return trip, over whole runs of calls: puts and put lists on a fresh encoder, its finish, an open, and gets, get batches
-- and skips. Each call has an element type of its own.
use Rattle.std.specs.Prelude.{◌≡◌, ℕ, ◌+◌, ◌%◌, ◌^◌, ◌<◌, ◌≤◌, cond, T, List, [], ◌∷◌, ◌++◌, length, take, replicate, Ok, Err, Result, nat_lt}
use Rattle.std.specs.List.{AllByRecursion}
use Rattle.packed.specs.declared.element.Element
use Rattle.column.specs.Pages.{Waiting, opened}
use Rattle.column.specs.Coding.{page_of}
use Rattle.column.specs.Putting.{putting}
use Rattle.column.specs.States.{EncoderState, fresh, with_more}
use Rattle.column.specs.Taking.{Taking, taking, taking_as}
use Rattle.column.specs.declared.meaning.Meaning
use Rattle.column.specs.declared.declined.Declined.{Declined}
use Rattle.column.specs.declared.declined.Declined.TheVariants.{Refused, Faulted}

-- An element type as a column sees it: how many bits its patterns have, and the pattern of the value that a pattern makes.
pub record Kind : Type 0 where
  pub bits : ℕ
  pub again : ℕ → ℕ

-- An element type by its definitions.
abbrev pub kind_of : {E : Type 0} → Element.Ghosts E → Kind
kind_of e = record { bits = e.WIDTH; again = λ p. e.pattern (e.made p) }

abbrev pub Lawful : Kind → Type 0
Lawful k = (p : ℕ) → p < 2 ^ 64 → k.again p ≡ p % 2 ^ k.bits

-- ---- puts

-- A value goes by its pattern.
pub data Putting : Type 0 where
  put : Kind → ℕ → Putting
  put_list : Kind → List ℕ → Putting

abbrev pub patterns : Putting → List ℕ
patterns (put k p) = p ∷ []
patterns (put_list k ps) = ps

module _ (need : ℕ → List ℕ → ℕ) where
  -- An encoder after a call, and after calls: it accepted of each the values up to the first that is refused.
  abbrev pub after_call : EncoderState → Putting → EncoderState
  after_call s c = with_more s (take (putting need s (patterns c)).count (patterns c))

  unfoldable pub after_calls : EncoderState → List Putting → EncoderState
  after_calls s [] = s
  after_calls s (c ∷ cs) = after_calls (after_call s c) cs

-- ---- takes

pub data Asking : Type 0 where
  get : Kind → Asking
  get_batch : Kind → ℕ → Asking
  skip : ℕ → Asking

-- An answer that is no fault.
abbrev pub NoFault : Result ℕ Declined → Type 0
NoFault (Ok k) = Unit {0}
NoFault (Err (Refused e)) = Unit {0}
NoFault (Err (Faulted f k)) = ⊥

-- Each value that is made of these patterns has its pattern again.
abbrev pub SamePatterns : Kind → List ℕ → Type 0
SamePatterns k ps = Lawful k → AllByRecursion (λ p. k.again p ≡ p) ps

-- The same of the values that a call hands out; a skip hands out none.
abbrev pub HandedBy : Asking → List ℕ → Type 0
HandedBy (get k) ps = SamePatterns k ps
HandedBy (get_batch k m) ps = SamePatterns k ps
HandedBy (skip m) ps = Unit {0}

module _ (w : ℕ) where
  -- What a call takes.
  abbrev pub taken_by : Asking → Waiting → Taking
  taken_by (get k) r = taking_as k.bits w 1 r
  taken_by (get_batch k m) r = taking_as k.bits w m r
  taken_by (skip m) r = taking m r

  -- What waits after calls.
  unfoldable pub left_after : Waiting → List Asking → Waiting
  left_after r [] = r
  left_after r (c ∷ cs) = left_after (taken_by c r).left cs

  -- The patterns that calls take, in order.
  unfoldable pub taken : Waiting → List Asking → List ℕ
  taken r [] = []
  taken r (c ∷ cs) = (taken_by c r).values ++ taken (taken_by c r).left cs

  -- How many values calls ask for: none where the element is too narrow.
  abbrev pub asked_by : Asking → ℕ
  asked_by (get k) = cond (nat_lt k.bits w) 0 1
  asked_by (get_batch k m) = cond (nat_lt k.bits w) 0 m
  asked_by (skip m) = m

  unfoldable pub asked : List Asking → ℕ
  asked [] = 0
  asked (c ∷ cs) = asked_by c + asked cs

  -- No call meets a fault.
  unfoldable pub Faultless : Waiting → List Asking → Type 0
  Faultless r [] = Unit {0}
  Faultless r (c ∷ cs) = NoFault (taken_by c r).answer × Faultless (taken_by c r).left cs

  -- Every value that is handed out has the pattern that was taken.
  unfoldable pub Handed : Waiting → List Asking → Type 0
  Handed r [] = Unit {0}
  Handed r (c ∷ cs) = HandedBy c (taken_by c r).values × Handed (taken_by c r).left cs

-- What comes back of an accepted list: each pattern taken is the next accepted one, behind the last come at most seven zeros,
-- then the end, and no fault.
pub record ComesBack (w : ℕ) (l : List ℕ) (r : Waiting) (asks : List Asking) : Type 0 where
  pub zeros : ℕ
  pub few : zeros ≤ 7
  pub next : taken w r asks ≡ take (asked w asks) (l ++ replicate zeros 0)
  pub no_fault : Faultless w r asks
  pub handed : Handed w r asks

-- What comes back of an encoder that is finished: its page fits, opens, and comes back. Equal lists have equal pages.
pub record Returned {C : Type 0} (code : Meaning.Ghosts C) (s : EncoderState) (asks : List Asking) : Type 0 where
  pub waiting : Waiting
  pub fits : length (page_of code s) ≤ s.room
  pub opens : code.reads s.width (length s.accepted) (page_of code s) ≡ opened waiting
  pub back : ComesBack s.width s.accepted waiting asks
  pub same : (m : List ℕ) → m ≡ s.accepted → code.page s.width m ≡ page_of code s

-- So it is over every width that the coding has, every buffer, and every list of calls.
abbrev pub ReturnTrip : {C : Type 0} → Meaning.Ghosts C → Type 0
ReturnTrip code =
    (w room : ℕ) (puts : List Putting) (asks : List Asking) → T (code.allows w) → code.need w [] ≤ room
    → Returned code (after_calls code.need (fresh w room) puts) asks
