use Rattle.std.proofs.Common.{◌≡◌, take}
use Rattle.packed.specs.Bytes.{cells_at}
use Rattle.packed.proofs.bit_pack.unpack_narrow.Given as goal

abbrev pub invariant-loop-i : goal.invariant-loop-i
invariant-loop-i g l = take l.i l.cells ≡ cells_at g.T.Element.made l.input 0 l.num_bits l.i
