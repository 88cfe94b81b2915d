-- What stands at a place of a page: how many values it has, where they end, and where the next run begins.
use Rattle.std.specs.Prelude.{ℕ, ◌+◌, ◌*◌, Some, None, Option}
use Rattle.rle.specs.Reading.{Stand, ended, stopped, repeats, packs}

-- How many values a run has.
abbrev pub count_of : Stand → ℕ
count_of ended = 0
count_of (stopped f) = 0
count_of (repeats n v next) = n
count_of (packs n start next) = n

-- The bit behind a packed run's last value.
abbrev pub bits_end : ℕ → Stand → ℕ
bits_end w ended = 0
bits_end w (stopped f) = 0
bits_end w (repeats n v next) = 0
bits_end w (packs n start next) = 8 * start + n * w

-- The value that a run repeats.
abbrev pub value_of : Stand → ℕ
value_of ended = 0
value_of (stopped f) = 0
value_of (repeats n v next) = v
value_of (packs n start next) = 0

-- Where the run behind another begins.
abbrev pub next_of : Stand → Option ℕ
next_of ended = None
next_of (stopped f) = None
next_of (repeats n v next) = Some next
next_of (packs n start next) = Some next
