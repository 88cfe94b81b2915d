use Rattle.std.proofs.Common.{◌≡◌, ◌*◌, ◌++◌, ◌≤◌, length, take, ap, ◌∙◌, subst, arith, rules}
use Rattle.packed.specs.Digits.{digits}
use Rattle.packed.specs.Vlq.{vlq}
use Rattle.packed.proofs.VlqLaws.{length-vlq}
use Rattle.bit_writer.specs.Writer.{Wrote, buffer, held_bytes}
use Rattle.bit_writer.proofs.Writing.{wrote_first, wrote_front, wrote_next}
use Rattle.rle.specs.Runs.{bytes_of, repeated, value_bytes}
use Rattle.rle.proofs.pieces.store_repeated.Goals as goal

pub put_vlq_int-requires : goal.put_vlq_int-requires
put_vlq_int-requires c =
    let new = c.new-writer.ensures in
    let short : length (vlq (2 * c.args.count)) ≤ 5 = length-vlq 4 (2 * c.args.count) (omega arith) in
    omega (arith, new.place, new.count, ap length new.same, c.requires.room)

pub put_aligned-requires-clause-room : goal.put_aligned-requires-clause-room
put_aligned-requires-clause-room c =
    let new = c.new-writer.ensures in
    let short : length (vlq (2 * c.args.count)) ≤ 5 = length-vlq 4 (2 * c.args.count) (omega arith) in
    let header = wrote_first new.count c.put_vlq_int.ensures in
    omega (arith, new.place, header.place, header.count, header.room, ap length new.same, c.value_bytes.ensures, c.requires.width, c.requires.room)

pub returns : goal.returns
returns c =
    let b = c.put_vlq_int.new.self in
    let d = c.put_aligned.new.self in
    let new = c.new-writer.ensures in
    let bytes = bytes_of c.args.width (repeated c.args.count c.args.value) in
    let value = subst (λ k. Wrote b d (held_bytes b ++ digits 256 k c.args.value)) c.value_bytes.ensures c.put_aligned.ensures in
    let run : Wrote c.new-writer.result d bytes = wrote_next (digits 256 (value_bytes c.args.width) c.args.value) (wrote_first new.count c.put_vlq_int.ensures) value in
    let front : take c.bytes_written.result (buffer d) ≡ bytes =
    ap (λ k. take k (buffer d)) (omega (arith, c.bytes_written.ensures, run.place, run.count, new.place)) ∙ wrote_front new.place run in
    let lent = run.lent ∙ new.lent in
    search rules
