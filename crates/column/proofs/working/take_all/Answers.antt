use Rattle.std.proofs.Common.{◌<◌, length, get_or, sym, ap, ◌∙◌, subst}
use Rattle.column.specs.Taking.{after_taking}
use Rattle.column.specs.Working.{answer_of, cells_by, taken_from}
use Rattle.column.proofs.Worked.{takes-more, takes_all}
use Rattle.column.proofs.working.take_all.Goals as goal

pub loop-take-preserved : goal.loop-take-preserved
loop-take-preserved g c =
    let inv = c.loop-take.invariant in
    let e = g.E.Element in
    let t = g.D.Decoder.state c.loop-take.decoder in
    let call = (get_or c.loop-take.takes c.loop-take.take-index c.take-item.result).call in
    let inside : c.loop-take.take-index < length c.loop-take.takes = subst (λ n. c.loop-take.take-index < n) (sym c.loop-take.auto.takes) c.loop-take-test.true in
    record {
      worked =
          takes-more e (length c.args.cells.now) (g.D.Decoder.state c.args.decoder.now) c.args.cells.now c.args.takes.now c.loop-take.take-index t c.loop-take.cells c.loop-take.takes inv.worked
          c.take-item.result c.set_answer.new.self c.take_call-answer.result (g.D.Decoder.state c.take_call-answer.new.decoder) c.take_call-answer.new.cells inside c.set_answer.ensures
          (c.take_call-answer.ensures.answer ∙ ap (λ n. answer_of e call (taken_from e n t call)) inv.length)
          (c.take_call-answer.ensures.cells ∙ ap (λ n. cells_by e c.loop-take.cells call (taken_from e n t call)) inv.length)
          (c.take_call-answer.ensures.state ∙ ap (λ n. after_taking (taken_from e n t call) t) inv.length);
      length = c.take_call-answer.ensures.length ∙ inv.length;
    }

pub returns-clause-answers : goal.returns-clause-answers
returns-clause-answers g c =
    (takes_all g.E.Element (length c.args.cells.now) (g.D.Decoder.state c.args.decoder.now) c.args.cells.now c.args.takes.now c.loop-take.take-index (g.D.Decoder.state c.loop-take.decoder) c.loop-take.cells c.loop-take.takes c.loop-take.invariant.worked c.loop-take-test.false).0

pub returns-clause-cells : goal.returns-clause-cells
returns-clause-cells g c =
    (takes_all g.E.Element (length c.args.cells.now) (g.D.Decoder.state c.args.decoder.now) c.args.cells.now c.args.takes.now c.loop-take.take-index (g.D.Decoder.state c.loop-take.decoder) c.loop-take.cells c.loop-take.takes c.loop-take.invariant.worked c.loop-take-test.false).1

pub returns-clause-state : goal.returns-clause-state
returns-clause-state g c =
    (takes_all g.E.Element (length c.args.cells.now) (g.D.Decoder.state c.args.decoder.now) c.args.cells.now c.args.takes.now c.loop-take.take-index (g.D.Decoder.state c.loop-take.decoder) c.loop-take.cells c.loop-take.takes c.loop-take.invariant.worked c.loop-take-test.false).2
