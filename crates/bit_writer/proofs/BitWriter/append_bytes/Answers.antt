use Rattle.std.proofs.Common.{rules}
use Rattle.packed.proofs.Digits.{length_digits}
use Rattle.bit_writer.proofs.BitWriter.append_bytes.Goals as goal

pub returns : goal.returns
returns c = let long = length_digits 256 c.args.count c.args.v in search rules
