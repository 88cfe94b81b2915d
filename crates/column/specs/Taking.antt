-- Taking values from a page: what is answered, which values are taken, and what waits on.
use Rattle.std.specs.Prelude.{◌≡◌, ℕ, Bool, cond, List, [], ◌∷◌, map, length, take, drop, Some, None, Ok, Err, Option, Result, nat_lt}
use Rattle.packed.specs.Bytes.{overwrite}
use Rattle.packed.specs.declared.element.Element
use Rattle.column.specs.Pages.{Ending, end, fault, Waiting, Reading, refused, opened}
use Rattle.column.specs.States.{DecoderState}
use Rattle.column.specs.declared.declined.Declined.{Declined}
use Rattle.column.specs.declared.declined.Declined.TheVariants.{Refused, Faulted}
use Rattle.column.specs.declared.Refusal.TheVariants.{BadWidth, ElementTooNarrow}

-- What a call that takes gives: its answer, the patterns taken, and what waits on.
pub record Taking : Type 0 where
  pub answer : Result ℕ Declined
  pub values : List ℕ
  pub left : Waiting

-- The answer to a call that asked for more than the k values that waited.
abbrev pub short_by : Ending → ℕ → Result ℕ Declined
short_by end k = Ok k
short_by (fault f) k = Err (Faulted f k)

abbrev pub answer_to : ℕ → Waiting → Result ℕ Declined
answer_to m r = cond (nat_lt (length r.values) m) (short_by r.ending (length r.values)) (Ok m)

-- What waits behind the first m values.
abbrev pub behind : ℕ → Waiting → Waiting
behind m r = record { values = drop m r.values; ending = r.ending }

-- Taking m values, or those that wait if they are fewer.
abbrev pub taking : ℕ → Waiting → Taking
taking m r = record { answer = answer_to m r; values = take m r.values; left = behind m r }

-- The same, as elements of b bits from a column of w: a narrower element is refused.
abbrev pub taking_as : ℕ → ℕ → ℕ → Waiting → Taking
taking_as b w m r = cond (nat_lt b w) (record { answer = Err (Refused ElementTooNarrow); values = []; left = r }) (taking m r)

-- The same, from a decoder.
abbrev pub taking_from : {E : Type 0} → Element.Ghosts E → ℕ → DecoderState → Taking
taking_from e m d = taking_as e.WIDTH d.width m d.waiting

-- The decoder behind what was taken.
abbrev pub after_taking : Taking → DecoderState → DecoderState
after_taking t d = record { page = d.page; width = d.width; waiting = t.left }

-- The cells, with the values that the patterns taken make from a place on.
abbrev pub cells_with : {E : Type 0} → Element.Ghosts E → List E → ℕ → Taking → List E
cells_with e cells at t = overwrite cells at (map e.made t.values)

-- The answer to a call for one value, by what taking one gives: the value, none, or why not.
abbrev pub first_of : {A : Type 0} → (ℕ → A) → List ℕ → Option A
first_of f [] = None
first_of f (v ∷ vs) = Some (f v)

abbrev pub single : {A : Type 0} → (ℕ → A) → Result ℕ Declined → List ℕ → Result (Option A) Declined
single f (Ok k) vs = Ok (first_of f vs)
single f (Err d) vs = Err d

abbrev pub one_of : {E : Type 0} → Element.Ghosts E → Taking → Result (Option E) Declined
one_of e t = single e.made t.answer t.values

-- Why a page of a width does not open, by what it reads as.
abbrev pub head_fault : Reading → Option Declined
head_fault (refused f) = Some (Faulted f 0)
head_fault (opened r) = None

abbrev pub shut : Bool → Reading → Option Declined
shut allowed r = cond allowed (head_fault r) (Some (Refused BadWidth))

-- What opening a page answers: a decoder that waits on what the page reads as, or why not.
abbrev pub Opening : {D : Type 0} → (D → DecoderState) → Bool → ℕ → List ℕ → Reading → Result D Declined → Type 0
Opening state allowed w s r (Ok d) =
    (shut allowed r ≡ None) × (r ≡ opened (state d).waiting) × ((state d).page ≡ s) × ((state d).width ≡ w)
Opening state allowed w s r (Err e) = shut allowed r ≡ Some e
