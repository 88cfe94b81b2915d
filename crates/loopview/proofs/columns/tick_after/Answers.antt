use Rattle.std.proofs.lemmas.Int.{wrapping_add_is}
use Rattle.std.proofs.Common.{w64}
use Rattle.loopview.proofs.columns.tick_after.Goals as goal

pub returns : goal.returns
returns c = wrapping_add_is w64 c.args.before c.args.difference c.ranges.before c.ranges.difference
