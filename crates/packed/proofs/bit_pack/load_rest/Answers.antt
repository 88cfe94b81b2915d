use Rattle.std.proofs.Common.{◌≡◌, ◌+◌, ◌-◌, ◌*◌, length, get_or, drop, sym, ap, ◌∙◌, arith}
use Rattle.std.proofs.lemmas.List.{drop_all}
use Rattle.packed.specs.Digits.{number}
use Rattle.packed.proofs.Bytes.{rest_below, rest-is, rest_more}
use Rattle.packed.proofs.bit_pack.load_rest.Goals as goal

pub loop-i-init : goal.loop-i-init
unfolding number
loop-i-init c = sym (ap (number 256) (drop_all (length c.args.s.now) c.args.s.now (omega arith)))

pub overflow_mul-word : goal.overflow_mul-word
overflow_mul-word c =
    let small = rest_below c.args.s.now c.loop-i.i 6 (omega arith) in
    record { fits = omega (arith, c.loop-i.invariant, small) }

pub overflow_add-word : goal.overflow_add-word
overflow_add-word c =
    let small = rest_below c.args.s.now c.loop-i.i 6 (omega arith) in
    record { fits = omega (arith, c.loop-i.invariant, small, (c.type_inv.s (c.loop-i.i - 1)).fits) }

pub loop-i-preserved : goal.loop-i-preserved
loop-i-preserved c =
    let s = c.args.s.now in
    let i = c.loop-i.i - 1 in
    let same : i + 1 ≡ c.loop-i.i = omega arith in
    let inv : c.loop-i.word ≡ number 256 (drop (i + 1) s) = c.loop-i.invariant ∙ ap (λ k. number 256 (drop k s)) (sym same) in
    ap (λ x. x * 256 + get_or s i 0) inv ∙ sym (rest_more s i (omega arith) (c.type_inv.s i).fits)

pub returns : goal.returns
returns c =
    let all : c.loop-i.i ≡ 0 = omega arith in
    c.loop-i.invariant ∙ ap (λ k. number 256 (drop k c.args.s.now)) all ∙ rest-is c.args.s.now 0 (omega arith)
