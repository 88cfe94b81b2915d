use Rattle.std.proofs.Common.{◌≡◌, ◌+◌, ◌≤◌, ◌∷◌, [], ◌++◌, length, take, sym, ap, ◌∙◌, subst, arith, w64, SFits, to_z, of_z}
use Rattle.std.proofs.lemmas.List.{length-take-le, take_all, take_more}
use Rattle.std.proofs.lemmas.Int.{to_z-of_z}
use Rattle.packed.specs.Vlq.{vlq}
use Rattle.packed.specs.Zigzag.{zigzag_of}
use Rattle.bit_writer.specs.Writer.{Wrote, held_bytes}
use Rattle.loopview.specs.Columns.{difference_of}
use Rattle.loopview.proofs.Ticks.{WroteTicks, difference-short, wrote-none, wrote-push}
use Rattle.loopview.proofs.columns.put_ticks.Goals as goal

pub loop-reading-init : goal.loop-reading-init
loop-reading-init c = wrote-none c.args.writer.now c.requires.none

pub put_zigzag_vlq_int-requires : goal.put_zigzag_vlq_int-requires
put_zigzag_vlq_int-requires c =
    let written = c.loop-reading.invariant in
    let fits : SFits w64 c.difference.result = record { sfits = c.difference.type_inv } in
    let short : length (vlq (zigzag_of (to_z w64 (of_z w64 c.difference.result)))) ≤ 10 =
    subst (λ z. length (vlq (zigzag_of z)) ≤ 10) (sym (to_z-of_z w64 c.difference.result fits)) (difference-short c.difference.result fits) in
    omega (arith, written.bytes.place, written.bytes.count, written.bytes.room, written.short, length-take-le c.loop-reading.reading-index c.args.readings.now, c.requires.room, c.requires.none)

pub loop-reading-preserved : goal.loop-reading-preserved
loop-reading-preserved c =
    let i = c.loop-reading.reading-index in
    let rs = c.args.readings.now in
    let r = c.reading-item.result in
    let w = c.loop-reading.writer in
    let after = c.put_zigzag_vlq_int.new.self in
    let before = to_z w64 c.loop-reading.before-bits in
    let d = c.difference.result in
    let fits : SFits w64 d = record { sfits = c.difference.type_inv } in
    let tick : to_z w64 (of_z w64 c.tick-tick.result) ≡ r.tick = to_z-of_z w64 c.tick-tick.result (record { sfits = c.tick-tick.type_inv }) ∙ c.tick-tick.ensures in
    let put : Wrote w after (held_bytes w ++ vlq (zigzag_of d)) = subst (λ z. Wrote w after (held_bytes w ++ vlq (zigzag_of z))) (to_z-of_z w64 d fits) c.put_zigzag_vlq_int.ensures in
    let next : take (i + 1) rs ≡ take i rs ++ r ∷ [] = take_more rs i r (omega arith) ∙ ap (λ x. take i rs ++ x ∷ []) (sym c.reading-item.is) in
    let pushed = wrote-push c.args.writer.now w after (take i rs) before r d c.loop-reading.invariant
    (c.difference.ensures ∙ ap (difference_of before) tick) fits put in
    subst (λ z. WroteTicks c.args.writer.now after (take (i + 1) rs) z) (sym tick) (subst (λ l. WroteTicks c.args.writer.now after l r.tick) (sym next) pushed)

pub returns : goal.returns
returns c =
    let w = c.args.writer.now in
    let all : take c.loop-reading.reading-index c.args.readings.now ≡ c.args.readings.now = take_all c.loop-reading.reading-index c.args.readings.now (omega arith) in
    let before = to_z w64 c.loop-reading.before-bits in
    let written : WroteTicks w c.loop-reading.writer c.args.readings.now before =
    subst (λ l. WroteTicks w c.loop-reading.writer l before) all c.loop-reading.invariant in
    record { bytes = written.bytes; room = omega (arith, written.short, c.requires.room) }
