use Rattle.std.proofs.Common.{◌≡◌, ◌+◌, length}
use Rattle.packed.proofs.vlq.write_vlq.Given as goal
use Rattle.packed.specs.Bytes.{overwrite}
use Rattle.packed.specs.Vlq.{vlq}

-- what is left to write ends as the whole number does
abbrev pub invariant-loop-i : goal.invariant-loop-i
invariant-loop-i l =
    (overwrite l.field l.i (vlq l.rest) ≡ overwrite l.initial.field 0 (vlq l.v))
    × (l.i + length (vlq l.rest) ≡ length (vlq l.v))
