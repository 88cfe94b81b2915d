use Rattle.std.proofs.Common.{◌∷◌, ◌++◌, [], ap, ◌∙◌, refl, arith}
use Rattle.std.proofs.lemmas.Grind.{take-set_at}
use Rattle.std.proofs.lemmas.List.{replicate_more}
use Rattle.rle_decoder.proofs.decoder.fill_cells.Goals as goal

pub loop-cell-preserved : goal.loop-cell-preserved
loop-cell-preserved g c =
    take-set_at c.loop-cell.cells c.loop-cell.cell-index _ c.args.value refl (omega arith)
    ∙ ap (λ xs. xs ++ c.args.value ∷ []) c.loop-cell.invariant
    ∙ replicate_more c.loop-cell.cell-index c.args.value
