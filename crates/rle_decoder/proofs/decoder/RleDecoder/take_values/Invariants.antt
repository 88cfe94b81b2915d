use Rattle.std.proofs.Common.{◌≡◌, ◌-◌, ◌≤◌, length, map, take}
use Rattle.packed.specs.Bytes.{overwrite}
use Rattle.rle_decoder.specs.Decoder.{Took, waiting_of}
use Rattle.rle_decoder.proofs.decoder.RleDecoder.take_values.Given as goal

abbrev pub invariant-loop-taken : goal.invariant-loop-taken
invariant-loop-taken g l = record {
  took : Took l.initial.self l.self l.taken;
  most : l.taken ≤ length l.initial.cells;
  cells : l.cells ≡ overwrite l.initial.cells 0 (map g.E.Element.made (take l.taken (waiting_of l.initial.self).values));
}

abbrev pub decreases-loop-taken : goal.decreases-loop-taken
decreases-loop-taken g l = length l.initial.cells - l.taken
