use Rattle.std.proofs.Common.{◌≡◌, drop}
use Rattle.packed.proofs.bit_pack.load_rest.Given as goal
use Rattle.packed.specs.Digits.{number}

abbrev pub invariant-loop-i : goal.invariant-loop-i
invariant-loop-i l = l.word ≡ number 256 (drop l.i l.s)
