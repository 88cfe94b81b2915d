use Rattle.std.proofs.Common.{◌≡◌, length, replicate, sym, ap, ap₂, ◌∙◌, rules, arith}
use Rattle.packed.specs.Bytes.{cells_at}
use Rattle.rle.specs.Found.{found}
use Rattle.rle.specs.Reading.{packs, repeats}
use Rattle.rle_decoder.proofs.Taking.{packed_room, packed_next, repeated_next}
use Rattle.rle_decoder.proofs.decoder.RleDecoder.copy_run.Goals as goal

pub fill_batch-requires : goal.fill_batch-requires
fill_batch-requires g c =
    let d = c.args.self.now in
    let run = c.in-Ok-Some-Packed in
    let stands : found d.run ≡ packs run.field-0-0-0 run.start run.field-0-0-2 = search rules in
    let room = packed_room d run.field-0-0-0 run.start run.field-0-0-2 (length c.args.cells.now) stands c.requires in
    record { width = d.narrow; room = omega (arith, room, c.at.ensures.start, c.bit_from.ensures, ap length c.at.ensures.page) }

pub returns-in-Ok-Some-Packed : goal.returns-in-Ok-Some-Packed
returns-in-Ok-Some-Packed g c =
    let d = c.args.self.now in
    let run = c.in-Ok-Some-Packed in
    let n = length c.args.cells.now in
    let stands : found d.run ≡ packs run.field-0-0-0 run.start run.field-0-0-2 = search rules in
    c.fill_batch.ensures.cells
    ∙ ap₂ (λ s p. cells_at g.E.Element.made s p d.width n) c.at.ensures.page (c.at.ensures.start ∙ c.bit_from.ensures)
    ∙ sym (packed_next d run.field-0-0-0 run.start run.field-0-0-2 n stands c.requires g.E.Element.made)

pub returns-in-Ok-Some-Repeated : goal.returns-in-Ok-Some-Repeated
returns-in-Ok-Some-Repeated g c =
    let d = c.args.self.now in
    let run = c.in-Ok-Some-Repeated in
    let n = length c.args.cells.now in
    let stands : found d.run ≡ repeats run.field-0-0-0 run.value run.field-0-0-2 = search rules in
    c.fill_cells.ensures
    ∙ ap (replicate n) c.from_pattern.ensures
    ∙ sym (repeated_next d run.field-0-0-0 run.value run.field-0-0-2 n stands c.requires g.E.Element.made)
