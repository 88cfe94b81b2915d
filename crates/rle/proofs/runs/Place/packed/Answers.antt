use Rattle.std.proofs.Common.{◌≡◌, ◌+◌, ◌-◌, ◌*◌, ◌/◌, ◌<◌, min, ltb, length, sym, refl, ap, ◌∙◌, ap₂, mul_assoc, arith}
use Rattle.std.proofs.lemmas.Bool.{lt-ltb, le-ltb, cond-true, cond-false}
use Rattle.bit_reader.specs.Reader.{readable}
use Rattle.bit_reader.proofs.Reading.{all_fit, some_fit, counted}
use Rattle.rle.specs.Reading.{packed_at, packs, stopped}
use Rattle.rle.proofs.runs.Place.packed.Goals as goal

pub returns-then-groups-gt-MAX_GROUPS : goal.returns-then-groups-gt-MAX_GROUPS
unfolding packed_at
returns-then-groups-gt-MAX_GROUPS c =
    ap stopped c.at.ensures ∙ sym (cond-true (ltb 2147483647 (8 * c.args.groups)) _ _ (lt-ltb 2147483647 (8 * c.args.groups) (omega arith)))

pub returns-then-left-groups : goal.returns-then-left-groups
unfolding packed_at
returns-then-left-groups c =
    let s = c.args.self.now.page.now in
    let g = c.args.groups in
    let w = c.args.self.now.width in
    let start = c.args.self.now.start in
    let bits : 8 * g * w ≡ 8 * (g * w) = mul_assoc 8 g w in
    let all : 8 * g ≡ readable s (8 * start) w (8 * g) =
    (counted s (8 * start) w (8 * g) (8 * g) (8 * length s - 8 * start) (omega arith) refl (all_fit (8 * length s - 8 * start) w (8 * g) (omega arith))).count in
    let next : start + g * w ≡ min (start + g * w) (length s) = omega arith in
    ap₂ (λ m n. packs m start n) all next ∙ sym (cond-false (ltb 2147483647 (8 * g)) _ _ (le-ltb 2147483647 (8 * g) (omega arith)))

pub returns : goal.returns
unfolding packed_at
returns c =
    let s = c.args.self.now.page.now in
    let g = c.args.groups in
    let w = c.args.self.now.width in
    let start = c.args.self.now.start in
    let bits : 8 * g * w ≡ 8 * (g * w) = mul_assoc 8 g w in
    let space = 8 * length s - 8 * start in
    let fewer : space < 8 * g * w = omega arith in
    let same : 8 * (length s - start) ≡ space = omega arith in
    let count : 8 * (length s - start) / w ≡ readable s (8 * start) w (8 * g) =
    ap (λ x. x / w) same ∙ (counted s (8 * start) w (8 * g) (space / w) space (omega arith) refl (some_fit space w (8 * g) fewer)).count in
    let next : length s ≡ min (start + g * w) (length s) = omega arith in
    ap₂ (λ m n. packs m start n) count next ∙ sym (cond-false (ltb 2147483647 (8 * g)) _ _ (le-ltb 2147483647 (8 * g) (omega arith)))
