-- The three columns have equally many cells left.
use Rattle.std.proofs.Common.{◌≡◌, ◌+◌, length, vec_len}
use Rattle.loopview.proofs.columns.join.Given as goal

abbrev pub invariant-loop-address : goal.invariant-loop-address
invariant-loop-address l =
    let left = length l.address-iterator.a.a.rest.now in
    (vec_len l.readings + left ≡ length l.addresses)
    × (length l.address-iterator.a.b.rest.now ≡ left)
    × (length l.address-iterator.b.rest.now ≡ left)
