use Rattle.std.proofs.Common.{◌-◌, ◌<◌, ap, ◌∙◌, arith}
use lib.Bits.{bit_and}
use Rattle.std.proofs.lemmas.Nat.{and_mask, one_shl}
use Rattle.packed.proofs.bit_pack.trailing_bits.Goals as goal

pub returns-else-num_bits-eq64 : goal.returns-else-num_bits-eq64
returns-else-num_bits-eq64 c =
    let below : c.args.num_bits < 64 = omega arith in
    ap (λ x. bit_and c.args.v (x - 1)) (one_shl c.args.num_bits 64 below) ∙ and_mask c.args.v c.args.num_bits
