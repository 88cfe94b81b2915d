use Rattle.std.proofs.Common.{◌≡◌, replicate, take}
use Rattle.rle_decoder.proofs.decoder.fill_cells.Given as goal

abbrev pub invariant-loop-cell : goal.invariant-loop-cell
invariant-loop-cell g l = take l.cell-index l.cells ≡ replicate l.cell-index l.value
