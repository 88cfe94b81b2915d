-- What a page means: the values that wait in it, and how they end.
use Rattle.std.specs.Prelude.{List, [], ◌++◌, ℕ, replicate}
use Rattle.packed.specs.declared.faults.Fault.{Fault}

-- Endings and readings are types of their own, so that what a page means is stated without the answers of calls.
pub data Ending : Type 0 where
  end : Ending
  fault : Fault → Ending

pub record Waiting : Type 0 where
  pub values : List ℕ
  pub ending : Ending

abbrev pub nothing : Ending → Waiting
nothing e = record { values = []; ending = e }

-- Values in front of others.
abbrev pub before : List ℕ → Waiting → Waiting
before vs r = record { values = vs ++ r.values; ending = r.ending }

-- A list, zeros behind it, and then the end.
abbrev pub with_zeros : List ℕ → ℕ → Waiting
with_zeros l k = record { values = l ++ replicate k 0; ending = end }

-- A page reads as a fault in its head, or it opens.
pub data Reading : Type 0 where
  refused : Fault → Reading
  opened : Waiting → Reading
