use Rattle.std.proofs.Common.{◌≡◌, ◌+◌, ◌*◌, take}
use Rattle.packed.specs.Bytes.{cells_at}
use Rattle.bit_reader.specs.Reader.{Moved, page, position}
use Rattle.bit_reader.proofs.BitReader.fill_singles.Given as goal

abbrev pub invariant-loop-cell : goal.invariant-loop-cell
invariant-loop-cell g l =
    (take l.cell-index l.cells ≡ cells_at g.T.Element.made (page l.initial.self) (position l.initial.self) l.num_bits l.cell-index)
    × Moved l.initial.self l.self (position l.initial.self + l.cell-index * l.num_bits)
