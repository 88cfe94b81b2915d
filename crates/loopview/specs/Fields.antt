-- The fields of a reading: how each is called, and the range of its numbers.
use Rattle.std.specs.Prelude.{◌≡◌, ℕ, ◌<◌, ◌≤◌, List, ℤ, pos, negsuc, codes}
use Rattle.loopview.specs.declared.readings.Field.{Field}
use Rattle.loopview.specs.declared.readings.Field.TheVariants.{Address, Value, Tick}
use Rattle.loopview.specs.declared.readings.ParseError.{ParseError}
use Rattle.loopview.specs.declared.readings.ParseError.TheVariants.{Memory, BadLine}
use Rattle.loopview.specs.declared.readings.Reason.{Reason}
use Rattle.loopview.specs.declared.readings.Reason.TheVariants.{TooFewFields, TooManyFields, NoNumber, TooLow, TooHigh}

abbrev pub field_name : Field → List ℕ
field_name Address = codes "address"
field_name Value = codes "value"
field_name Tick = codes "tick"

-- The least number that a field may hold; a tick has 64 bits, with a sign.
abbrev pub least : Field → ℤ
least Address = pos 0
least Value = pos 0
least Tick = negsuc 9223372036854775807

-- The greatest number that a field may hold.
abbrev pub greatest : Field → ℤ
greatest Address = pos 127
greatest Value = pos 255
greatest Tick = pos 9223372036854775807

-- A reason that blames this field.
abbrev pub Blames : Field → Reason → Type 0
Blames field TooFewFields = ⊥
Blames field TooManyFields = ⊥
Blames field (NoNumber f text) = f ≡ field
Blames field (TooLow f text) = f ≡ field
Blames field (TooHigh f text) = f ≡ field

-- The line that an error blames, if it blames one, is one of at most n lines, counted from 1.
abbrev pub Within : ℕ → ParseError → Type 0
Within n Memory = Unit {0}
Within n (BadLine line reason) = (0 < line) × (line ≤ n)
