use Rattle.std.proofs.Common.{take}
use Rattle.loopview.proofs.Ticks.{WroteTicks}
use Rattle.loopview.proofs.columns.put_ticks.Given as goal

abbrev pub invariant-loop-reading : goal.invariant-loop-reading
invariant-loop-reading l = WroteTicks l.initial.writer l.writer (take l.reading-index l.readings) l.before
