-- The end of a page.
use Rattle.std.specs.Prelude.{◌≡◌, ℕ, ◌≤◌, List, ◌++◌, length, take, replicate}
use Rattle.column.specs.Putting.{Column, finished}
use Rattle.rle.specs.Hybrid.{Hybrid}
use Rattle.rle.specs.Runs.{page}

-- The page of a list stands at the front of a buffer, and takes `end` bytes.
pub record Ended (w : ℕ) (l : List ℕ) (end : ℕ) (out : List ℕ) : Type 0 where
  pub bytes : take end out ≡ page w l
  pub length_is : end ≡ length (page w l)

-- In the public format, bytes stand for a list and at most seven zeros behind it.
abbrev pub StandsFor : ℕ → List ℕ → List ℕ → Type 0
StandsFor w bytes l = (k : ℕ) × (k ≤ 7) × Hybrid w bytes (l ++ replicate k 0)

-- Zeros stand behind it too.
pub record Finished (w : ℕ) (l : List ℕ) (end room : ℕ) (out : List ℕ) : Type 0 where
  pub length_is : end ≡ length (page w l)
  pub bytes : out ≡ finished (page w l) room
  pub stands : StandsFor w (take end out) l
  pub column : Column w l
  pub fits : length (page w l) ≤ room
