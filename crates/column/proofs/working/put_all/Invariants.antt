use Rattle.std.proofs.Common.{◌≡◌, ◌+◌, ◌≤◌, length}
use Rattle.column.proofs.Worked.{PutsWorked}
use Rattle.column.proofs.working.put_all.Given as goal

abbrev pub invariant-loop-put : goal.invariant-loop-put
invariant-loop-put g l = record {
  worked : PutsWorked g.E.Element l.values g.N.Code.Meaning.need (g.N.Encoder.state l.initial.encoder) l.initial.puts l.put-index (g.N.Encoder.state l.encoder) l.puts;
  count : length (g.N.Encoder.state l.initial.encoder).accepted + l.count ≡ length (g.N.Encoder.state l.encoder).accepted;
  short : length (g.N.Encoder.state l.encoder).accepted ≤ 2147483647;
}
