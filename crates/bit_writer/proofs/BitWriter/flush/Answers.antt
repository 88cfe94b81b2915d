use Rattle.std.proofs.Common.{arith}
use Rattle.packed.proofs.Digits.{length_digits}
use Rattle.bit_writer.proofs.BitWriter.flush.Goals as goal

pub returns-clause-place : goal.returns-clause-place
returns-clause-place c =
    omega (arith, c.append_bytes.ensures.place, c.bytes_for-count.ensures, length_digits 256 c.bytes_for-count.result c.args.self.now.buffered_values)
