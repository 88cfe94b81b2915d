use Rattle.std.proofs.Common.{◌≡◌, ◌*◌, ◌^◌, ◌++◌, length, take, sym, ap, ◌∙◌, subst, arith, rules}
use Rattle.packed.specs.Digits.{digits, number}
use Rattle.packed.proofs.Digits.{length_digits}
use Rattle.bit_writer.specs.Sizes.{bytes_for}
use Rattle.bit_writer.specs.Writer.{Wrote, buffer, held_bytes}
use Rattle.bit_writer.proofs.Writing.{wrote_first, wrote_front}
use Rattle.rle.proofs.pieces.store_group.Goals as goal

-- eight values of w bits take w bytes, at the front of the buffer that was lent
pub returns : goal.returns
returns c =
    let a = c.new-writer.result in
    let b = c.put_packed.new.self in
    let new = c.new-writer.ensures in
    let w = c.args.width in
    let n = number (2 ^ w) c.args.values.now in
    let size : bytes_for (length c.args.values.now * w) ≡ w = ap (λ k. bytes_for (k * w)) c.requires.eight ∙ omega arith in
    let wrote = wrote_first new.count (subst (λ k. Wrote a b (held_bytes a ++ digits 256 k n)) size c.put_packed.ensures.bytes) in
    let front : take w (buffer b) ≡ digits 256 w n = ap (λ k. take k (buffer b)) (sym (length_digits 256 w n)) ∙ wrote_front new.place wrote in
    let lent = wrote.lent ∙ new.lent in
    search rules
