use Rattle.std.proofs.Common.{◌≡◌, ℕ, false, rules, ◌+◌, ◌*◌, cond, eqb, length, sym, ap, ◌∙◌, add-zero, arith}
use Rattle.std.proofs.lemmas.Bool.{cond-true, cond-false}
use Rattle.packed.specs.Vlq.{vlq}
use Rattle.rle.specs.Runs.{value_bytes}
use Rattle.rle_encoder.specs.Encoder.{width}
use Rattle.rle_encoder.specs.Encoding.{alike_with, equals, joins}
use Rattle.rle_encoder.proofs.Added.{own}
use Rattle.rle_encoder.proofs.Lengths.{stands-gather, stands-other, stands-pack}
use Rattle.rle_encoder.proofs.RleEncoder.length_with.Goals as goal
use Rattle.rle_encoder.proofs.RleEncoder.length_with.Goals.{else-is_full-via-then-is_full+else-alike_with-2, else-is_full-via-else-is_full}

pub returns-in-Repeating-false : goal.returns-in-Repeating-false
returns-in-Repeating-false c =
    let e = c.args.self.now in
    let n = c.in-Repeating-false.count in
    let none = ap (λ (k : ℕ). length (vlq (2 * k))) (add-zero n) in
    let other : equals e.progress.same c.args.pattern ≡ false = search rules in
    omega (
      arith,
      none,
      c.length_of_run-in-Repeating-false.ensures.value,
      c.value_bytes-bytes.ensures,
      stands-other (own e) n c.args.pattern c.in-Repeating-false.is-0 other,
    )

pub returns-then-alike_with : goal.returns-then-alike_with
returns-then-alike_with c =
    let e = c.args.self.now in
    let alike = sym (c.if-alike_with.ensures ∙ ap (alike_with (length e.progress.gathered.items)) c.is_current.ensures) in
    omega (arith, c.value_bytes-bytes.ensures, stands-gather (own e) c.args.pattern c.in-Gathering-default.is-0, cond-true (joins e.progress c.args.pattern) (value_bytes (width e)) (width e) alike)

pub returns-else-alike_with : goal.returns-else-alike_with
returns-else-alike_with c =
    let e = c.args.self.now in
    let mixed = sym (c.if-alike_with.ensures ∙ ap (alike_with (length e.progress.gathered.items)) c.is_current.ensures) in
    omega (arith, stands-gather (own e) c.args.pattern c.in-Gathering-default.is-0, cond-false (joins e.progress c.args.pattern) (value_bytes (width e)) (width e) mixed)

pub returns-then-alike_with-2 : goal.returns-then-alike_with-2
returns-then-alike_with-2 c =
    let e = c.args.self.now in
    let n = length e.progress.gathered.items in
    let alike = sym (c.if-alike_with-2.ensures ∙ ap (alike_with n) c.is_current.ensures) in
    omega (
      arith,
      c.value_bytes-bytes.ensures,
      stands-pack (own e) c.in-Packing-default.header-0 c.in-Packing-default.groups-0 c.args.pattern c.in-Packing-default.is-0,
      cond-true (eqb n 7) (cond (joins e.progress c.args.pattern) (1 + value_bytes (width e)) (width e)) (width e) (sym c.if-is_full.ensures.value),
      cond-true (joins e.progress c.args.pattern) (1 + value_bytes (width e)) (width e) alike,
    )

pub returns-else-is_full : goal.returns-else-is_full
returns-else-is_full c =
    let e = c.args.self.now in
    let n = length e.progress.gathered.items in
    let packs = stands-pack (own e) c.in-Packing-default.header-0 c.in-Packing-default.groups-0 c.args.pattern c.in-Packing-default.is-0 in
    elim c.else-is_full.branch [
      | else-is_full-via-then-is_full+else-alike_with-2 w ↦ omega (
        arith,
        packs,
        cond-true (eqb n 7) (cond (joins e.progress c.args.pattern) (1 + value_bytes (width e)) (width e)) (width e) (sym w.if-is_full.ensures.value),
        cond-false (joins e.progress c.args.pattern) (1 + value_bytes (width e)) (width e) (sym (w.if-alike_with-2.ensures ∙ ap (alike_with n) c.is_current.ensures)),
      )
      | else-is_full-via-else-is_full w ↦ omega (
        arith,
        packs,
        cond-false (eqb n 7) (cond (joins e.progress c.args.pattern) (1 + value_bytes (width e)) (width e)) (width e) (sym w.if-is_full.ensures.value),
      )
    ]
