use Rattle.std.proofs.Common.{◌≡◌, ◌<◌, Some, sym, ap₂, ◌∙◌, subst, rules, arith}
use Rattle.rle.specs.Found.{found}
use Rattle.rle_decoder.specs.Run.{next_of}
use Rattle.rle_decoder.specs.Decoder.{page_of}
use Rattle.rle_decoder.proofs.Runs.{turns_left, turns-fall}
use Rattle.rle_decoder.proofs.Taking.{took_more, took_next}
use Rattle.rle_decoder.proofs.decoder.RleDecoder.refill.Goals as goal

pub loop-count-smaller : goal.loop-count-smaller
loop-count-smaller c =
    let d = c.loop-count.self in
    let loaded = c.load.ensures in
    let leads : next_of (found d.run) ≡ Some c.next_after.result = search rules in
    subst (λ n. n < turns_left (page_of d) (found d.run)) (sym (ap₂ turns_left loaded.page loaded.run))
    (turns-fall d.width (page_of d) (found d.run) c.next_after.result leads)

pub loop-count-preserved : goal.loop-count-preserved
loop-count-preserved c =
    let d = c.loop-count.self in
    let loaded = c.load.ensures in
    let leads : next_of (found d.run) ≡ Some c.next_after.result = search rules in
    took_more c.args.self.now d c.load.new.self 0 0 0 (omega arith) c.loop-count.invariant
    (took_next d c.load.new.self c.next_after.result loaded.page loaded.width loaded.run loaded.taken leads (sym c.left.ensures ∙ c.loop-count-test.true))
