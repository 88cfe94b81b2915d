use Rattle.std.proofs.Common.{◌≡◌, ℕ, ◌+◌, ◌-◌, ◌/◌, ◌%◌, ◌<◌, ◌≤◌, Bool, true, false, ltb, [], length, set, take, drop, Ok, sym, ap, ◌∙◌, arith}
use Rattle.std.proofs.lemmas.Bool.{ltb-true, ltb-false}
use Rattle.packed.proofs.Overwrite.{overwrite-set, overwrite-none, overwrite-rest}
use Rattle.packed.proofs.VlqLaws.{vlq-step, vlq-last, vlq-some, read-overwritten, read-fewest, length-rest}
use Rattle.packed.proofs.vlq.write_vlq.Goals as goal
use borrow.Rule.Slice.PartMut.{put_mid}
use Rattle.packed.specs.Bytes.{overwrite}
use Rattle.packed.specs.Vlq.{vlq, read_vlq}

-- what the test of a digit says
more : {n : ℕ} {b : Bool} → b ≡ ltb n 128 → b ≡ false → 128 ≤ n
more {n} e f = ltb-false n 128 (sym e ∙ f)

last-digit : {n : ℕ} {b : Bool} → b ≡ ltb n 128 → b ≡ true → n < 128
last-digit {n} e f = ltb-true n 128 (sym e ∙ f)

pub returns-then-is_last : goal.returns-then-is_last
returns-then-is_last c =
    let out = c.args.out.now in
    let at = c.args.at in
    let field = c.loop-i.field in
    let i = c.loop-i.i in
    let rest = c.loop-i.rest in
    let last = vlq-last rest (last-digit c.is_last.ensures c.if-is_last.true) in
    let whole : set field i rest ≡ overwrite (take (length out - at) (drop at out)) 0 (vlq c.args.v) =
    sym (overwrite-none (set field i rest) (i + 1))
    ∙ overwrite-set field i rest [] (omega arith)
    ∙ ap (overwrite field i) (sym last)
    ∙ c.loop-i.invariant.0 in
    let bytes = ap (put_mid at (length out - at) out) whole ∙ overwrite-rest out at (vlq c.args.v) in
    let taken : i + 1 ≡ length (vlq c.args.v) = omega (arith, c.loop-i.invariant.1, ap length last) in
    record {
      bytes = bytes;
      taken = taken;
      back =
          ap (λ s. read_vlq s at) bytes
          ∙ read-overwritten out at c.args.v c.requires c.ranges.v.fits
          ∙ ap (λ n. Ok (c.args.v, n)) (sym taken);
      fewest = λ s p n e. rw taken (read-fewest s p c.args.v n e);
    }

pub loop-i-preserved : goal.loop-i-preserved
loop-i-preserved c =
    let field = c.loop-i.field in
    let i = c.loop-i.i in
    let rest = c.loop-i.rest in
    let step = vlq-step rest (more c.is_last.ensures c.if-is_last.false) in (
      overwrite-set field i (128 + rest % 128) (vlq (rest / 128)) (omega arith)
          ∙ ap (overwrite field i) (sym step)
          ∙ c.loop-i.invariant.0,
      omega (arith, c.loop-i.invariant.1, ap length step),
    )

pub unreachable-requires : goal.unreachable-requires
unreachable-requires c = omega (arith, c.loop-i.invariant.1, vlq-some c.loop-i.rest, length-rest c.args.out.now c.args.at)
