-- How many bytes bits take.
use Rattle.std.specs.Prelude.{ℕ, ◌+◌, ◌*◌, ◌/◌}

-- How many whole bytes n bits reach into, and how many bytes of whole 64-bit words they fill.
abbrev pub bytes_for : ℕ → ℕ
bytes_for n = (n + 7) / 8

abbrev pub words_for : ℕ → ℕ
words_for n = 8 * (n / 64)
