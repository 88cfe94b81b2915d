use Rattle.std.proofs.Common.{◌≡◌, ◌*◌, take}
use Rattle.packed.specs.Bytes.{cells_at}
use Rattle.packed.proofs.bit_pack.unpack.Given as goal

abbrev pub invariant-loop-group : goal.invariant-loop-group
invariant-loop-group g l = take (8 * l.group) l.output ≡ cells_at g.T.Element.made l.input 0 l.num_bits (8 * l.group)
