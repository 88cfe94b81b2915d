use Rattle.std.proofs.Common.{◌≡◌, ℕ, ◌+◌, ◌-◌, ◌≤◌, List, map, length, take, drop, sym, refl, ap, ◌∙◌, zero-le, zero-add, take-add, arith}
use Rattle.std.proofs.lemmas.Grind.{common_steps}
use Rattle.std.proofs.lemmas.List.{length-map, length-take, map-append}
use borrow.Rule.Slice.PartMut.{put_mid}
use Rattle.column.proofs.Parts.{length-part, overwrite-part}
use Rattle.packed.specs.Bytes.{overwrite}
use Rattle.packed.proofs.Overwrite.{overwrite-none, overwrite-overwrite}
use Rattle.rle_decoder.specs.Decoder.{waiting_of}
use Rattle.rle_decoder.proofs.Taking.{took_none, took_more}
use Rattle.rle_decoder.proofs.decoder.RleDecoder.take_values.Goals as goal

pub returns-in_err-check_element-clause-cells : goal.returns-in_err-check_element-clause-cells
returns-in_err-check_element-clause-cells g c = grind (arith, common_steps, overwrite-none)

pub loop-taken-init : goal.loop-taken-init
loop-taken-init g c = record { took = took_none c.args.self.now; most = zero-le; cells = sym (overwrite-none c.args.cells.now 0) }

-- j values behind the first k
overwrite-more : {A : Type 0} (f : ℕ → A) (o now : List A) (vs : List ℕ) (k j : ℕ) → k ≤ length vs → now ≡ overwrite o 0 (map f (take k vs))
    → overwrite now k (map f (take j (drop k vs))) ≡ overwrite o 0 (map f (take (k + j) vs))
overwrite-more f o now vs k j some is =
    let xs = map f (take k vs) in
    let ys = map f (take j (drop k vs)) in
    let long : 0 + length xs ≡ k = zero-add (length xs) ∙ length-map (take k vs) f ∙ length-take k vs ∙ omega arith in
    ap (λ cells. overwrite cells k ys) is
    ∙ ap (λ n. overwrite (overwrite o 0 xs) n ys) (sym long)
    ∙ overwrite-overwrite o 0 xs ys zero-le
    ∙ ap (overwrite o 0) (sym (map-append f (take k vs) (take j (drop k vs))) ∙ ap (map f) (sym (take-add k j vs)))

pub loop-taken-preserved : goal.loop-taken-preserved
loop-taken-preserved g c =
    let a = c.args.self.now in
    let inv = c.loop-taken.invariant in
    let now = c.loop-taken.cells in
    let k = c.loop-taken.taken in
    let j = c.take_run-taken.result in
    let made = g.E.Element.made in
    let filled = took_more a c.loop-taken.self c.refill.new.self k 0 k (omega arith) inv.took c.refill.ensures.took in
    let fits : k ≤ length now = omega (arith, inv.most, c.loop-taken.auto.cells) in
    let left : (waiting_of c.refill.new.self).values ≡ drop k (waiting_of a).values = ap (λ r. r.values) filled.left in
    let new = map made (take j (waiting_of c.refill.new.self).values) in
    let short : length new ≤ length now - k = omega (arith, length-map (take j (waiting_of c.refill.new.self).values) made, length-take j (waiting_of c.refill.new.self).values, c.take_run-taken.ensures.count, length-part now k (length now - k) (omega arith)) in
    let took = took_more a c.refill.new.self c.take_run-taken.new.self k j (k + j) refl filled c.take_run-taken.ensures.took in
    record {
      took = took;
      most = omega (arith, inv.most, c.take_run-taken.ensures.count, c.loop-taken.auto.cells);
      cells =
          ap (put_mid k (length now - k) now) c.take_run-taken.ensures.cells
          ∙ overwrite-part now k (length now - k) (omega arith) new short
          ∙ ap (λ vs. overwrite now k (map made (take j vs))) left
          ∙ overwrite-more made c.args.cells.now now (waiting_of a).values k j inv.took.most inv.cells;
    }
