use Rattle.std.proofs.Common.{take, ap, ◌∙◌, arith}
use Rattle.std.specs.Int.{from_le_bytes, w64}
use Rattle.packed.proofs.Bytes.{word_bytes, bits_at-take, take_fits}
use Rattle.packed.proofs.bit_pack.whole_word.Goals as goal

pub returns : goal.returns
returns c =
    let s = c.args.s.now in
    c.from_le_bytes.ensures
    ∙ ap (from_le_bytes w64) c.in-Some.ensures.cases.same
    ∙ word_bytes (take 8 s) (take_fits s 8 (λ i. (c.type_inv.s i).fits))
    ∙ bits_at-take s 8 0 64 (omega arith)
