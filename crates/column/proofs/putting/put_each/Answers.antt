use Rattle.std.proofs.Common.{sym, ◌∙◌}
use Rattle.column.proofs.Puts.{all-put, put-more, put_refused}
use Rattle.column.proofs.putting.put_each.Goals as goal

pub returns-in-Err-clause-answer : goal.returns-in-Err-clause-answer
returns-in-Err-clause-answer g c =
    put_refused g.E.Element.pattern c.args.values.now g.N.Code.Meaning.need (g.N.Encoder.state c.args.encoder.now) c.loop-i.i (g.N.Encoder.state c.loop-i.encoder) c.loop-i.invariant
    c.index-values-i.result c.loop-i-test.true c.index-values-i.is c.in-Err.refusal (sym c.put.ensures.answer ∙ c.in-Err.is)

pub loop-i-preserved : goal.loop-i-preserved
loop-i-preserved g c =
    put-more g.E.Element.pattern c.args.values.now g.N.Code.Meaning.need (g.N.Encoder.state c.args.encoder.now) c.loop-i.i (g.N.Encoder.state c.loop-i.encoder) c.loop-i.invariant
    c.index-values-i.result c.loop-i-test.true c.index-values-i.is (g.N.Encoder.state c.put.new.self) (sym c.put.ensures.answer ∙ c.in_default.is) c.put.ensures.state

pub returns-clause-answer : goal.returns-clause-answer
returns-clause-answer g c =
    all-put g.E.Element.pattern c.args.values.now g.N.Code.Meaning.need (g.N.Encoder.state c.args.encoder.now) c.loop-i.i (g.N.Encoder.state c.loop-i.encoder) c.loop-i.invariant
    c.loop-i-test.false c.loop-i.auto.i-end
