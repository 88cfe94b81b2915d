use Rattle.std.proofs.Common.{◌-◌, ap, ap₂, ◌∙◌, arith}
use borrow.Rule.Slice.PartMut.{put_mid}
use Rattle.column.specs.Taking.{cells_with, taking_from}
use Rattle.column.proofs.Parts.{part-taken}
use Rattle.column.proofs.working.take_call.Goals as goal

pub returns-in-Batch-clause-cells : goal.returns-in-Batch-clause-cells
returns-in-Batch-clause-cells g c =
    let e = g.E.Element in
    let cells = c.args.cells.now in
    let d = g.D.Decoder.state c.args.decoder.now in
    let start = c.cut-part.result.start in
    let k = c.cut-part.result.end - start in
    let part = c.cut-part.ensures in
    rw c.in-Batch.is
    (ap (put_mid start k cells) c.get_batch.ensures.cells
    ∙ part-taken e d cells start k (omega (arith, part.in_order, part.inside))
    ∙ ap₂ (λ i n. cells_with e cells i (taking_from e n d)) part.start (ap₂ (λ a b. a - b) part.end part.start))
