use Rattle.std.proofs.lemmas.Int.{wrapping_sub_is}
use Rattle.std.proofs.Common.{w64}
use Rattle.loopview.proofs.columns.difference.Goals as goal

pub returns : goal.returns
returns c = wrapping_sub_is w64 c.args.tick c.args.before c.ranges.tick c.ranges.before
