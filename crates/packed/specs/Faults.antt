-- What is said of each kind of fault: its number, and the layer that finds it.
use Rattle.std.specs.Prelude.{ℕ}
use Rattle.packed.specs.declared.faults.FaultKind.{FaultKind}
use Rattle.packed.specs.declared.faults.FaultKind.TheVariants.{VlqTooLarge, DataEnds, RunTooLong, RepeatedValueCut, BadBlockSize, BadMiniBlocks, TotalTooLarge, ValueOutOfRange, MiniWidthTooLarge, TooFewValues}
use Rattle.packed.specs.declared.faults.Layer.{Layer}
use Rattle.packed.specs.declared.faults.Layer.TheVariants.{Bits, Column, Count}

abbrev pub told : FaultKind → ℕ × Layer
told VlqTooLarge = (7, Bits)
told DataEnds = (8, Bits)
told RunTooLong = (9, Column)
told RepeatedValueCut = (10, Column)
told BadBlockSize = (11, Column)
told BadMiniBlocks = (12, Column)
told TotalTooLarge = (13, Column)
told ValueOutOfRange = (14, Column)
told MiniWidthTooLarge = (15, Column)
told TooFewValues = (16, Count)
