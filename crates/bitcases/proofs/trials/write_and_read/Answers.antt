use Rattle.std.proofs.Common.{◌≤◌, length, arith}
use Rattle.packed.proofs.VlqLaws.{length-vlq}
use Rattle.packed.specs.Vlq.{vlq}
use Rattle.bitcases.proofs.trials.write_and_read.Goals as goal

pub write_vlq-taken-requires : goal.write_vlq-taken-requires
write_vlq-taken-requires c =
    let few : length (vlq c.args.n) ≤ 10 = length-vlq 9 c.args.n (omega arith) in
    omega (arith, c.in_ok-page.ensures.len)

pub overflow_add-taken : goal.overflow_add-taken
overflow_add-taken c =
    let few : length (vlq c.args.n) ≤ 10 = length-vlq 9 c.args.n (omega arith) in
    omega arith
