use Rattle.std.proofs.Common.{ap, ◌∙◌}
use Rattle.column.specs.Putting.{as_list}
use Rattle.column.proofs.Puts.{one-added, one-put}
use Rattle.column.proofs.working.put_call.Goals as goal

pub returns-in-One-clause-answer : goal.returns-in-One-clause-answer
returns-in-One-clause-answer g c =
    rw c.in-One.is (c.from.ensures ∙ ap as_list c.put.ensures.answer ∙ one-put g.N.Code.Meaning.need (g.N.Encoder.state c.args.encoder.now) (g.E.Element.pattern c.in-One.v))

pub returns-in-One-clause-state : goal.returns-in-One-clause-state
returns-in-One-clause-state g c =
    rw c.in-One.is (c.put.ensures.state ∙ one-added g.N.Code.Meaning.need (g.N.Encoder.state c.args.encoder.now) (g.E.Element.pattern c.in-One.v))
