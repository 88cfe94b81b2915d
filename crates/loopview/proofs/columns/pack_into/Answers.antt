use Rattle.std.proofs.Common.{◌≡◌, length, sym, ap, ◌∙◌, rules}
use Rattle.packed.proofs.Digits.{length_digits}
use Rattle.bit_writer.specs.Writer.{buffer, packed_bytes}
use Rattle.loopview.proofs.Ticks.{wrote-all}
use Rattle.loopview.proofs.columns.pack_into.Goals as goal

-- the bytes fill the buffer that was lent
pub returns : goal.returns
returns c =
    let w = c.new-writer.result in
    let bytes = packed_bytes c.args.num_bits c.args.patterns.now in
    let long : length (buffer w) ≡ length c.args.out.now = ap length c.new-writer.ensures.same in
    let filled : buffer c.put_packed.new.self ≡ bytes =
    wrote-all w c.put_packed.new.self bytes c.new-writer.ensures.place c.new-writer.ensures.count (length_digits 256 _ _ ∙ sym (long ∙ c.requires.filled)) c.put_packed.ensures.bytes in
    let lent = c.put_packed.ensures.bytes.lent ∙ c.new-writer.ensures.lent in
    search rules
