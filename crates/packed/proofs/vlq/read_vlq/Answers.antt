use Rattle.std.proofs.Common.{◌≡◌, ℕ, ◌+◌, ◌^◌, ◌<◌, ◌≤◌, List, length, Ok, Err, Result, sym, ap, ◌∙◌, subst, arith}
use Rattle.packed.proofs.VlqLaws.{so-far-none, so_far_more, shifted, value-below, field-byte, length-rest, read_here, ends-here, read_below, read-within}
use Rattle.packed.specs.Vlq.{SoFar, read_vlq}
use Rattle.packed.specs.declared.faults.Fault.{Fault}
use Rattle.packed.proofs.vlq.read_vlq.Goals as goal

told : {r : Result (ℕ × ℕ) Fault} (s : List ℕ) (at : ℕ) → r ≡ read_vlq s at → record { value : r ≡ read_vlq s at; below : (n taken : ℕ) → r ≡ Ok (n, taken) → n < 2 ^ 64; within : (n taken : ℕ) → r ≡ Ok (n, taken) → at + taken ≤ length s }
told s at e =
    record {
      value = e;
      below = λ n taken f. read_below s at n taken (sym e ∙ f);
      within = λ n taken f. read-within s at n taken (sym e ∙ f);
    }

pub loop-i-init : goal.loop-i-init
loop-i-init c = (so-far-none c.args.page.now c.args.at c.requires, omega arith)

pub returns-then-i-eq9 : goal.returns-then-i-eq9
returns-then-i-eq9 c = told c.args.page.now c.args.at c.read_tenth.ensures

pub overflow_add-value : goal.overflow_add-value
overflow_add-value c =
    let room : c.args.at + c.loop-i.i < length c.args.page.now = omega arith in
    let turn : c.loop-i.i < 9 = omega arith in
    let e = shifted c.args.page.now c.args.at c.loop-i.i c.loop-i.value c.loop-i.invariant.0 room turn in
    let b = value-below c.args.page.now c.args.at c.loop-i.i c.loop-i.value c.loop-i.invariant.0 room turn in
    rw (field-byte c.args.page.now c.args.at c.loop-i.i) (record { fits = omega (arith, e, b) })

pub returns-then-byte-lt128 : goal.returns-then-byte-lt128
returns-then-byte-lt128 c =
    let s = c.args.page.now in
    let at = c.args.at in
    let i = c.loop-i.i in
    let room : at + i < length s = omega arith in
    let turn : i < 9 = omega arith in
    let e = shifted s at i c.loop-i.value c.loop-i.invariant.0 room turn in
    let b = field-byte s at i in
    told s at
    (rw b
    (ap (λ x. Ok (c.loop-i.value + x, i + 1)) e
    ∙ sym (read_here s at i c.loop-i.value c.loop-i.invariant.0 room (omega arith) (omega (arith, b, c.if-byte-lt128.true))
    (value-below s at i c.loop-i.value c.loop-i.invariant.0 room turn))))

pub loop-i-preserved : goal.loop-i-preserved
loop-i-preserved c =
    let s = c.args.page.now in
    let at = c.args.at in
    let i = c.loop-i.i in
    let room : at + i < length s = omega arith in
    let turn : i < 9 = omega arith in
    let e = shifted s at i c.loop-i.value c.loop-i.invariant.0 room turn in
    let b = field-byte s at i in (
      rw b
          (subst (λ x. SoFar s at (i + 1) (c.loop-i.value + x)) (sym e)
          (so_far_more s at i c.loop-i.value c.loop-i.invariant.0 room (omega (arith, b, c.if-byte-lt128.false)))),
      omega arith,
    )

pub returns : goal.returns
returns c =
    let s = c.args.page.now in
    let at = c.args.at in
    let end : length s ≤ at + c.loop-i.i = omega (arith, length-rest s at) in
    told s at
    (ap Err c.at.ensures ∙ sym (ends-here s at c.loop-i.i c.loop-i.value c.loop-i.invariant.0 end (omega (arith, c.loop-i.invariant.1))))
