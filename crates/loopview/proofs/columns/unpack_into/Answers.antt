use Rattle.loopview.proofs.Cells.{cells-all}
use Rattle.loopview.proofs.columns.unpack_into.Goals as goal

pub returns-clause-values : goal.returns-clause-values
returns-clause-values c =
    cells-all c.args.cells.now c.get_batch.new.batch _ c.args.bytes.now _ c.args.num_bits c.get_batch.result
    c.get_batch.ensures.cells c.new-reader.ensures.page c.new-reader.ensures.start
