use Rattle.std.proofs.Common.{◌+◌, ◌*◌, ltb, leb, length, sym, ap, ◌∙◌, ap₂, add-zero, arith}
use Rattle.std.proofs.lemmas.Bool.{lt-ltb, le-ltb, le-leb, lt-leb, cond-true, cond-false}
use Rattle.packed.specs.Bytes.{bits_at}
use Rattle.rle.specs.Reading.{repeated_at, repeats, stopped}
use Rattle.rle.specs.Runs.{value_bytes}
use Rattle.rle.proofs.runs.Place.repeated.Goals as goal

pub returns-then-count-gt-MAX_COUNT : goal.returns-then-count-gt-MAX_COUNT
unfolding repeated_at
returns-then-count-gt-MAX_COUNT c =
    ap stopped c.at.ensures ∙ sym (cond-true (ltb 2147483647 c.args.count) _ _ (lt-ltb 2147483647 c.args.count (omega arith)))

pub returns-then-self-bytes : goal.returns-then-self-bytes
unfolding repeated_at
returns-then-self-bytes c =
    let p = c.args.self.now in
    let past = p.start + value_bytes p.width in
    ap stopped c.at-then-self-bytes.ensures
    ∙ sym (cond-false (ltb 2147483647 c.args.count) _ _ (le-ltb 2147483647 c.args.count (omega arith))
    ∙ cond-false (leb past (length p.page.now)) _ _ (lt-leb past (length p.page.now) (omega (arith, c.value_bytes-bytes.ensures, p.inside))))

pub returns : goal.returns
unfolding repeated_at
returns c =
    let p = c.args.self.now in
    let past = p.start + value_bytes p.width in
    let value = c.bits_at-value.ensures ∙ ap₂ (λ from n. bits_at p.page.now from (8 * n)) (add-zero (8 * p.start)) c.value_bytes-bytes.ensures in
    ap₂ (λ v n. repeats c.args.count v (p.start + n)) value c.value_bytes-bytes.ensures
    ∙ sym (cond-false (ltb 2147483647 c.args.count) _ _ (le-ltb 2147483647 c.args.count (omega arith))
    ∙ cond-true (leb past (length p.page.now)) _ _ (le-leb past (length p.page.now) (omega (arith, c.value_bytes-bytes.ensures, p.inside))))
