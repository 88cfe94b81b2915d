use Rattle.std.proofs.Common.{map}
use Rattle.column.proofs.Puts.{PutsOn}
use Rattle.column.proofs.putting.put_each.Given as goal

abbrev pub invariant-loop-i : goal.invariant-loop-i
invariant-loop-i g l =
    PutsOn g.N.Code.Meaning.need (g.N.Encoder.state l.initial.encoder) (map g.E.Element.pattern l.values) l.i (g.N.Encoder.state l.encoder)
