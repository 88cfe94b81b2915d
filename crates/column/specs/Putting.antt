-- Putting values into a page: what is accepted, and what is refused.
use Rattle.std.specs.Prelude.{◌≡◌, ℕ, ◌+◌, ◌-◌, ◌^◌, ◌<◌, ◌≤◌, cond, List, [], ◌∷◌, ◌++◌, length, replicate, Some, None, Ok, Err, Option, Result, nat_le, nat_lt}
use Rattle.std.specs.List.{AllByRecursion}
use Rattle.column.specs.States.{EncoderState, with_more}
use Rattle.column.specs.declared.Refusal.{Refusal}
use Rattle.column.specs.declared.Refusal.TheVariants.{Full, PatternTooWide, ListTooLong}
use Rattle.column.specs.declared.putting.PutList.{PutList}

-- A list that a column of width w can hold.
pub record Column (w : ℕ) (l : List ℕ) : Type 0 where
  pub below : AllByRecursion (λ v. v < 2 ^ w) l
  pub count : length l ≤ 2147483647

-- A call that nothing refuses answers nothing else.
abbrev pub answered : Option Refusal → Result (Unit {0}) Refusal
answered None = Ok tt
answered (Some r) = Err r

-- The same, as the answer to a list of one value.
abbrev pub as_list : Result (Unit {0}) Refusal → PutList
as_list (Ok u) = record { count = 1; refusal = None }
as_list (Err r) = record { count = 0; refusal = Some r }

-- What is accepted after a call that added these values, or was refused.
abbrev pub accepting : Option Refusal → List ℕ → List ℕ → List ℕ
accepting None l vs = l ++ vs
accepting (Some r) l vs = l

-- Whether a list of this need fits a buffer.
abbrev pub fitting : ℕ → ℕ → Option Refusal
fitting need room = cond (nat_le need room) None (Some Full)

-- One value more before an answer, unless it was refused.
abbrev pub counted : Option Refusal → PutList → PutList
counted None r = record { count = 1 + r.count; refusal = r.refusal }
counted (Some e) r = record { count = 0; refusal = Some e }

module _ (need : ℕ → List ℕ → ℕ) where
  -- Why an encoder does not add a pattern.
  abbrev pub unput : EncoderState → ℕ → Option Refusal
  unput s p =
      cond (nat_lt p (2 ^ s.width))
      (cond (nat_lt (length s.accepted) 2147483647) (fitting (need s.width (s.accepted ++ p ∷ [])) s.room) (Some ListTooLong))
      (Some PatternTooWide)

  -- The encoder after it added a pattern, or refused it.
  abbrev pub after_put : EncoderState → ℕ → EncoderState
  after_put s p = record { width = s.width; room = s.room; accepted = accepting (unput s p) s.accepted (p ∷ []) }

  -- How many patterns, one after the other, are added before the first that is refused, and its refusal.
  unfoldable pub putting : EncoderState → List ℕ → PutList
  putting s [] = record { count = 0; refusal = None }
  putting s (p ∷ ps) = counted (unput s p) (putting (with_more s (p ∷ [])) ps)

-- A buffer after finish: the page at its front, and zeros behind it.
abbrev pub finished : List ℕ → ℕ → List ℕ
finished page room = page ++ replicate (room - length page) 0

-- All that is certain of a buffer whose encoder was dropped unfinished: it is as long as before.
pub record Unfinished (room : ℕ) (bytes : List ℕ) : Type 0 where
  pub long : length bytes ≡ room
