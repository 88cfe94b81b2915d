-- No more readings than lines have been read, of which there are at most as many as bytes of text.
use Rattle.std.proofs.Common.{◌+◌, ◌≤◌, vec_len}
use Rattle.loopview.proofs.readings.parse.Given as goal

abbrev pub invariant-loop-index : goal.invariant-loop-index
invariant-loop-index l =
    vec_len l.readings + (goal.iterator-loop-index).remaining l.index-iterator ≤ (goal.iterator-loop-index).remaining l.initial.index-iterator
