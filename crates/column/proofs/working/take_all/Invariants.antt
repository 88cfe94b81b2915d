use Rattle.std.proofs.Common.{◌≡◌, length}
use Rattle.column.proofs.Worked.{TakesWorked}
use Rattle.column.proofs.working.take_all.Given as goal

abbrev pub invariant-loop-take : goal.invariant-loop-take
invariant-loop-take g l = record {
  worked : TakesWorked g.E.Element (length l.initial.cells) (g.D.Decoder.state l.initial.decoder) l.initial.cells l.initial.takes l.take-index (g.D.Decoder.state l.decoder) l.cells l.takes;
  length : length l.cells ≡ length l.initial.cells;
}
