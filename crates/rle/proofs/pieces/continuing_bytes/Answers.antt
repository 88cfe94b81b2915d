use Rattle.std.proofs.Common.{length, ap, sym, arith}
use Rattle.packed.proofs.VlqLaws.{vlq-last}
use Rattle.rle.proofs.VlqLength.{length_by_bits}
use Rattle.rle.proofs.pieces.continuing_bytes.Goals as goal

pub returns-then-n-lt128-clause-value : goal.returns-then-n-lt128-clause-value
returns-then-n-lt128-clause-value c = sym (ap length (vlq-last c.args.n c.if-n-lt128.true))

pub returns-clause-value : goal.returns-clause-value
returns-clause-value c =
    length_by_bits c.args.n c.args.n c.ilog2.result (omega (arith, c.if-n-lt128.false)) c.ilog2.ensures.power_le c.ilog2.ensures.next_power_gt
