-- What is proved of the pages of the RLE/bit-packed hybrid.
use Rattle.std.specs.Prelude.{◌≡◌, ℕ, ◌+◌, ◌*◌, ◌≤◌, List, ◌++◌, length, replicate}
use Rattle.column.specs.Pages.{end, opened}
use Rattle.column.specs.Putting.{Column}
use Rattle.rle.specs.Hybrid.{Bytes, Hybrid}
use Rattle.rle.specs.Lenient.{Lenient}
use Rattle.rle.specs.Reading.{reads, waiting_at}
use Rattle.rle.specs.Runs.{page}

-- A written page stands, in the public format, for its list and at most seven zeros behind it.
abbrev pub WrittenStands : Type 0
WrittenStands = (w : ℕ) (l : List ℕ) → Column w l → (k : ℕ) × (k ≤ 7) × Hybrid w (page w l) (l ++ replicate k 0)

-- Whatever stands in the public format is read as its values and then the end, and is not refused.
abbrev pub StandingIsRead : Type 0
StandingIsRead = (w : ℕ) (bytes vs : List ℕ) → Hybrid w bytes vs → reads w bytes ≡ opened (record { values = vs; ending = end })

-- A written page is read as its list, at most seven zeros behind it, and the end.
abbrev pub WrittenIsRead : Type 0
WrittenIsRead = (w : ℕ) (l : List ℕ) → Column w l → (k : ℕ) × (k ≤ 7) × (reads w (page w l) ≡ opened (record { values = l ++ replicate k 0; ending = end }))

-- The other way round, what is read without a fault stands in the public format, but for the named leniencies.
abbrev pub ReadStands : Type 0
ReadStands = (w : ℕ) (s vs : List ℕ) → Bytes s → waiting_at w s 0 ≡ record { values = vs; ending = end } → Lenient w s vs

-- A page takes at most nine bytes for each value, and 63.
abbrev pub WrittenIsShort : Type 0
WrittenIsShort = (w : ℕ) (l : List ℕ) → w ≤ 64 → Column w l → length (page w l) ≤ 63 + 9 * length l
