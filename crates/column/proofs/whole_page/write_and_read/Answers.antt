use Rattle.std.proofs.Common.{◌-◌, [], length, take, drop, sym, ap, ◌∙◌, subst}
use Rattle.column.specs.Coding.{Checking, page_of}
use Rattle.column.specs.Putting.{finished}
use Rattle.column.specs.States.{fresh}
use Rattle.column.specs.Taking.{Opening}
use Rattle.column.specs.Trips.{ReturnTrip, after_calls}
use Rattle.column.specs.Working.{asks_of, cells_after, puts_answered, puts_of, takes_answered}
use Rattle.column.proofs.Opening.{calls-room, calls-width, made-same, never-shut, opens-as, was-made, written}
use Rattle.column.proofs.Trip.{return-trip}
use Rattle.column.proofs.whole_page.write_and_read.Given as given
use Rattle.column.proofs.whole_page.write_and_read.Goals as goal

-- the law of whole runs, at this coding
trip : (g : given.Over) → ReturnTrip g.C.Code.Meaning
trip g = let met = g.met.C.Code.Meaning in return-trip g.C.Code.Meaning met.widths_are_narrow met.written_is_read met.page_within_need

pub returns-in_err-pass-clause-trip : goal.returns-in_err-pass-clause-trip
returns-in_err-pass-clause-trip g c = trip g

pub returns-in_err-decoder-clause-trip : goal.returns-in_err-decoder-clause-trip
returns-in_err-decoder-clause-trip g c = trip g

pub returns-clause-trip : goal.returns-clause-trip
returns-clause-trip g c = trip g

pub returns-in_err-decoder-clause-worked : goal.returns-in_err-decoder-clause-worked
returns-in_err-decoder-clause-worked g c =
    let code = g.C.Code.Meaning in
    let w = c.args.width in
    let room = length c.args.out.now in
    let ok = subst (Checking g.C.Permit.Pass code w room) c.in_ok-pass.was c.check.ensures in
    let puts = puts_of g.P.Element c.args.values.now c.args.puts.now in
    let s = after_calls code.need (fresh w room) puts in
    let n = c.finish-length.result.0 in
    let buffer = c.finish-length.result.1.now in
    let count = c.put_all-count.result in
    let on = written code w room puts (g.C.Enc.Encoder.state c.make-encoder.result) (g.C.Enc.Encoder.state c.put_all-count.new.encoder) n count buffer
    (c.make-encoder.ensures ∙ ap (λ x. fresh x room) ok.1) c.put_all-count.ensures.state c.put_all-count.ensures.count c.finish-length.ensures.length c.finish-length.ensures.bytes in
    let allowed = was-made code w room ok.0 in
    let back = trip g w room puts [] allowed.0 allowed.1 in
    let front = take (n - 0) (drop 0 buffer) in
    let shut = subst (Opening g.C.Dec.Decoder.state (code.allows w) w front (code.reads w count front)) c.in_err-decoder.was c.open.ensures in
    absurd (never-shut code s w n count buffer on (sym (calls-width code (fresh w room) puts)) g.C.Dec.Decoder.state c.in_err-decoder.field-0.0 back.waiting allowed.0 back.opens shut)

pub returns-clause-worked : goal.returns-clause-worked
returns-clause-worked g c =
    let code = g.C.Code.Meaning in
    let w = c.args.width in
    let room = length c.args.out.now in
    let ok = subst (Checking g.C.Permit.Pass code w room) c.in_ok-pass.was c.check.ensures in
    let puts = puts_of g.P.Element c.args.values.now c.args.puts.now in
    let s = after_calls code.need (fresh w room) puts in
    let n = c.finish-length.result.0 in
    let buffer = c.finish-length.result.1.now in
    let count = c.put_all-count.result in
    let start = c.make-encoder.ensures ∙ ap (λ x. fresh x room) ok.1 in
    let on = written code w room puts (g.C.Enc.Encoder.state c.make-encoder.result) (g.C.Enc.Encoder.state c.put_all-count.new.encoder) n count buffer
    start c.put_all-count.ensures.state c.put_all-count.ensures.count c.finish-length.ensures.length c.finish-length.ensures.bytes in
    let front = take (n - 0) (drop 0 buffer) in
    let opening = subst (Opening g.C.Dec.Decoder.state (code.allows w) w front (code.reads w count front)) c.in_ok-decoder.was c.open.ensures in
    let decoder = opens-as code s w n count buffer on (sym (calls-width code (fresh w room) puts)) g.C.Dec.Decoder.state c.in_ok-decoder.decoder opening in
    let cells = c.args.cells.now in
    let takes = c.args.takes.now in
    record {
      page = (ok.0, on.long, on.bytes ∙ ap (finished (page_of code s)) (calls-room code (fresh w room) puts));
      puts_are = c.put_all-count.ensures.answers ∙ ap (λ t. puts_answered g.P.Element c.args.values.now code.need t c.args.puts.now) start ∙ made-same ok.0 c.args.puts.now;
      takes_are = c.take_all.ensures.answers ∙ ap (λ d. takes_answered g.E.Element (length cells) d takes) decoder ∙ made-same ok.0 takes;
      cells_are = c.take_all.ensures.cells ∙ ap (λ d. cells_after g.E.Element (length cells) d cells takes) decoder ∙ made-same ok.0 cells;
      returned = λ made. let allowed = was-made code w room made in trip g w room puts (asks_of g.E.Element (length cells) takes) allowed.0 allowed.1;
    }
