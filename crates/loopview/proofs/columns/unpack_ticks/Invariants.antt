use Rattle.std.proofs.Common.{◌≡◌, vec_len}
use Rattle.loopview.proofs.columns.unpack_ticks.Given as goal

abbrev pub invariant-loop-good : goal.invariant-loop-good
invariant-loop-good l = vec_len l.ticks ≡ l.good-counter
