-- What is said of a declined call.
use Rattle.std.specs.Prelude.{ℕ}
use Rattle.packed.specs.Faults.{told}
use Rattle.column.specs.declared.declined.Declined.{Declined}
use Rattle.column.specs.declared.declined.Declined.TheVariants.{Refused, Faulted}
use Rattle.column.specs.declared.Refusal.{Refusal}
use Rattle.column.specs.declared.Refusal.TheVariants.{BadWidth, Full, PatternTooWide, ListTooLong, NoRepeatingRun, ElementTooNarrow, EmptyWindow}

-- The number of each refusal. A refused call changes nothing.
abbrev pub numbered : Refusal → ℕ
numbered BadWidth = 1
numbered Full = 2
numbered PatternTooWide = 3
numbered ListTooLong = 4
numbered NoRepeatingRun = 5
numbered ElementTooNarrow = 6
numbered EmptyWindow = 17

-- The number under which a call is declined, and how many values came all the same: before a fault those that were good.
abbrev pub said : Declined → ℕ × ℕ
said (Refused r) = (numbered r, 0)
said (Faulted f k) = ((told f.kind).0, k)
