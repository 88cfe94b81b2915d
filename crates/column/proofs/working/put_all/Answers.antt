use Rattle.std.proofs.Common.{◌<◌, length, get_or, sym, ap, ◌∙◌, subst, arith}
use Rattle.column.specs.States.{EncoderState}
use Rattle.column.specs.Trips.{patterns}
use Rattle.column.specs.Working.{put_of}
use Rattle.column.specs.declared.putting.PutList.{PutList}
use Rattle.column.proofs.Puts.{put-bound, put-length}
use Rattle.column.proofs.Worked.{puts-all, puts-more}
use Rattle.column.proofs.working.put_all.Goals as goal

pub overflow_add-count : goal.overflow_add-count
overflow_add-count g c =
    let ps = patterns (put_of g.E.Element c.args.values.now (get_or c.loop-put.puts c.loop-put.put-index c.put-item.result).call) in
    let bound = put-bound g.N.Code.Meaning.need (g.N.Encoder.state c.loop-put.encoder) ps c.loop-put.invariant.short in
    let same = ap (λ (x : PutList). x.count) c.put_call-answer.ensures.answer in
    omega (arith, bound, same, c.loop-put.invariant.count)

pub loop-put-preserved : goal.loop-put-preserved
loop-put-preserved g c =
    let inv = c.loop-put.invariant in
    let need = g.N.Code.Meaning.need in
    let t = g.N.Encoder.state c.loop-put.encoder in
    let ps = patterns (put_of g.E.Element c.args.values.now (get_or c.loop-put.puts c.loop-put.put-index c.put-item.result).call) in
    let count = ap (λ (x : PutList). x.count) c.put_call-answer.ensures.answer in
    let long = ap (λ (s : EncoderState). length s.accepted) c.put_call-answer.ensures.state ∙ put-length need t ps in
    let bound = put-bound need t ps inv.short in
    let inside : c.loop-put.put-index < length c.loop-put.puts = subst (λ n. c.loop-put.put-index < n) (sym c.loop-put.auto.puts) c.loop-put-test.true in
    record {
      worked =
          puts-more g.E.Element c.args.values.now need (g.N.Encoder.state c.args.encoder.now) c.args.puts.now c.loop-put.put-index t c.loop-put.puts inv.worked
          c.put-item.result c.set_answer.new.self c.put_call-answer.result (g.N.Encoder.state c.put_call-answer.new.encoder) inside c.set_answer.ensures c.put_call-answer.ensures.answer c.put_call-answer.ensures.state;
      count = omega (arith, inv.count, long, count);
      short = omega (arith, long, bound);
    }

pub returns-clause-answers : goal.returns-clause-answers
returns-clause-answers g c =
    (puts-all g.E.Element c.args.values.now g.N.Code.Meaning.need (g.N.Encoder.state c.args.encoder.now) c.args.puts.now c.loop-put.put-index (g.N.Encoder.state c.loop-put.encoder) c.loop-put.puts c.loop-put.invariant.worked c.loop-put-test.false).0

pub returns-clause-state : goal.returns-clause-state
returns-clause-state g c =
    (puts-all g.E.Element c.args.values.now g.N.Code.Meaning.need (g.N.Encoder.state c.args.encoder.now) c.args.puts.now c.loop-put.put-index (g.N.Encoder.state c.loop-put.encoder) c.loop-put.puts c.loop-put.invariant.worked c.loop-put-test.false).1
