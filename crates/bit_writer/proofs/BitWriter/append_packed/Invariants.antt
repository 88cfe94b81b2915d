use Rattle.std.proofs.Common.{◌*◌, ◌^◌, take}
use Rattle.packed.specs.Digits.{number}
use Rattle.bit_writer.specs.Writer.{PutBits}
use Rattle.bit_writer.proofs.BitWriter.append_packed.Given as goal

abbrev pub invariant-loop-v : goal.invariant-loop-v
invariant-loop-v l =
    PutBits l.initial.self l.self (number (2 ^ l.num_bits) (take l.v-index l.values)) (l.v-index * l.num_bits)
