-- The lead and the values so far are put, whole words of them into the buffer.
use Rattle.std.proofs.Common.{◌≡◌, ◌+◌, ◌*◌, ◌≤◌, length}
use Rattle.bit_writer.specs.Writer.{buffer}
use Rattle.bitcases.proofs.trials.put_values.Given as goal

abbrev pub invariant-loop-v : goal.invariant-loop-v
invariant-loop-v l =
    (8 * l.writer.byte_offset + l.writer.bit_offset ≡ l.layout.lead + l.v-index * l.layout.width)
    × (8 * length l.values + 8 ≤ length (buffer l.writer))
