use Rattle.std.proofs.Common.{◌≤◌}
use Rattle.packed.specs.Vlq.{SoFar}
use Rattle.packed.proofs.vlq.read_vlq.Given as goal

abbrev pub invariant-loop-i : goal.invariant-loop-i
invariant-loop-i l = SoFar l.page l.at l.i l.value × (l.i ≤ 9)
