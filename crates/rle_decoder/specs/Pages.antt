-- What is proved of a page, whatever opening it answers.
use Rattle.std.specs.Prelude.{◌≡◌, ℕ, List}
use Rattle.column.specs.Pages.{end, opened}
use Rattle.rle.specs.Hybrid.{Hybrid}
use Rattle.rle.specs.Lenient.{Lenient}
use Rattle.rle.specs.Reading.{reads, waiting_at}

-- If it stands in the public format, it opens and reads as its values and then the end.
abbrev pub ReadsAsItStands : ℕ → List ℕ → Type 0
ReadsAsItStands w s = (vs : List ℕ) → Hybrid w s vs → reads w s ≡ opened (record { values = vs; ending = end })

-- If it is read without a fault, it stands in the format, but for the named leniencies.
abbrev pub ReadIsLenient : ℕ → List ℕ → Type 0
ReadIsLenient w s = (vs : List ℕ) → waiting_at w s 0 ≡ record { values = vs; ending = end } → Lenient w s vs
