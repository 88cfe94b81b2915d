use Rattle.std.proofs.Common.{ℕ, ◌+◌, ◌*◌, ◌^◌, ◌≤◌, length, lt_of_lt_of_le, arith, lit≤}
use Rattle.packed.specs.Vlq.{vlq}
use Rattle.packed.proofs.VlqLaws.{length-vlq}
use Rattle.rle_encoder.proofs.Added.{own, run-facts}
use Rattle.rle_encoder.proofs.Lengths.{stands-run, stands-short}
use Rattle.rle_encoder.proofs.RleEncoder.length_of_run.Goals as goal

vlq-short : (n : ℕ) → n ≤ 8589934588 → length (vlq n) ≤ 10
vlq-short n h = length-vlq 9 n (lt_of_lt_of_le {m = 2 ^ 64} (omega arith) (lit≤ tt))

pub overflow_add-before : goal.overflow_add-before
overflow_add-before c = omega (arith, (run-facts c.args.self.now c.args.before c.requires.run).1, c.args.self.now.kept.short, c.requires.short)

pub overflow_mul-before : goal.overflow_mul-before
overflow_mul-before c = omega (arith, (run-facts c.args.self.now c.args.before c.requires.run).1, c.args.self.now.kept.short, c.requires.short)

pub overflow_add-run : goal.overflow_add-run
overflow_add-run c =
    let e = c.args.self.now in
    let most = (run-facts e c.args.before c.requires.run).1 in
    omega (arith, e.kept.narrow, c.vlq_length.ensures, c.value_bytes.ensures, vlq-short (2 * (c.args.before + c.args.count)) (omega (arith, e.kept.short, c.requires.short)))

pub overflow_add-result : goal.overflow_add-result
overflow_add-result c =
    let e = c.args.self.now in
    let most = (run-facts e c.args.before c.requires.run).1 in
    omega (arith, stands-short (own e), e.kept.short, e.kept.narrow, c.vlq_length.ensures, c.value_bytes.ensures, vlq-short (2 * (c.args.before + c.args.count)) (omega (arith, e.kept.short, c.requires.short)))

pub returns-clause-run : goal.returns-clause-run
returns-clause-run c =
    let e = c.args.self.now in
    omega (arith, c.vlq_length.ensures, c.value_bytes.ensures, stands-run (own e) c.args.before c.args.count c.requires.run)

pub returns-clause-small : goal.returns-clause-small
returns-clause-small c =
    let e = c.args.self.now in
    let most = (run-facts e c.args.before c.requires.run).1 in
    omega (arith, stands-short (own e), e.kept.short, e.kept.narrow, c.vlq_length.ensures, c.value_bytes.ensures, vlq-short (2 * (c.args.before + c.args.count)) (omega (arith, e.kept.short, c.requires.short)))
