use Rattle.std.proofs.Common.{◌≡◌, ◌+◌, ◌*◌, ◌/◌, ◌%◌, ◌∷◌, [], sym, ap, ◌∙◌, arith, rules}
use Rattle.packed.specs.Bytes.{bits_at}
use Rattle.rle.specs.Reading.{packs, repeats}
use Rattle.rle.specs.Found.{found}
use Rattle.rle_decoder.specs.Decoder.{page_of, waiting_of}
use Rattle.rle_decoder.proofs.Taking.{packed_next, repeated_next, first_is, cells-one}
use Rattle.rle_decoder.proofs.decoder.RleDecoder.first.Goals as goal

pub returns-in-Ok-Some-Packed : goal.returns-in-Ok-Some-Packed
returns-in-Ok-Some-Packed c =
    let d = c.args.self.now in
    let h = c.in-Ok-Some-Packed in
    let stands : found d.run ≡ packs h.field-0-0-0 h.start h.field-0-0-2 = search rules in
    let bit = c.bit_from-bit.result in
    let place : 8 * (bit / 8) + bit % 8 ≡ 8 * h.start + d.taken * d.width = omega (arith, c.bit_from-bit.ensures) in
    let is : bits_at (page_of d) (8 * h.start + d.taken * d.width) d.width ≡ c.bits_at.result =
    sym (c.bits_at.ensures ∙ ap (λ p. bits_at (page_of d) p d.width) place) in
    first_is (waiting_of d).values c.bits_at.result
    (packed_next d h.field-0-0-0 h.start h.field-0-0-2 1 stands c.requires (λ v. v)
    ∙ cells-one (page_of d) (8 * h.start + d.taken * d.width) d.width
    ∙ ap (λ v. v ∷ []) is)

pub returns-in-Ok-Some-Repeated : goal.returns-in-Ok-Some-Repeated
returns-in-Ok-Some-Repeated c =
    let d = c.args.self.now in
    let h = c.in-Ok-Some-Repeated in
    let stands : found d.run ≡ repeats h.field-0-0-0 h.value h.field-0-0-2 = search rules in
    first_is (waiting_of d).values h.value (repeated_next d h.field-0-0-0 h.value h.field-0-0-2 1 stands c.requires (λ v. v))
