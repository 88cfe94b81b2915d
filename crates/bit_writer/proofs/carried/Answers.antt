use Rattle.packed.proofs.Shifts.{shifted}
use Rattle.bit_writer.proofs.carried.Goals as goal

pub returns : goal.returns
returns c = shifted c.args.v c.args.taken _ c.ranges.v.fits c.requires c.unbounded_shr.ensures
