use Rattle.std.proofs.Common.{◌≡◌, length, take, pos, ap, ◌∙◌, arith, rules}
use Rattle.bit_writer.specs.Writer.{buffer}
use Rattle.loopview.specs.Columns.{ticks_of}
use Rattle.bit_writer.proofs.Writing.{wrote_front}
use Rattle.loopview.proofs.columns.pack_ticks_into.Goals as goal

-- the bytes are the front of the buffer that was lent
pub returns : goal.returns
returns c =
    let w = c.new-writer.result in
    let wrote = c.put_ticks.ensures.bytes in
    let bytes = ticks_of (pos 0) c.args.readings.now in
    let used : c.bytes_written.result ≡ length bytes = omega (arith, c.bytes_written.ensures, wrote.place, wrote.count, c.new-writer.ensures.place) in
    let front : take c.bytes_written.result (buffer c.put_ticks.new.writer) ≡ bytes =
    ap (λ k. take k (buffer c.put_ticks.new.writer)) used ∙ wrote_front c.new-writer.ensures.place wrote in
    let lent = wrote.lent ∙ c.new-writer.ensures.lent in
    search rules
