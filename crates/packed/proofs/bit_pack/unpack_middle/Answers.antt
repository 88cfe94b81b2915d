use Rattle.std.proofs.Common.{◌≡◌, ◌+◌, ◌*◌, ◌/◌, ◌^◌, ◌%◌, ap, ◌∙◌, refl, arith}
use Rattle.packed.specs.Bytes.{bits_at, cells_at}
use Rattle.packed.proofs.Bytes.{bits_at-part, bits_at-rest, fill_more}
use Rattle.packed.proofs.bit_pack.unpack_middle.Goals as goal

pub loop-i-init : goal.loop-i-init
unfolding cells_at
loop-i-init g c = refl

pub loop-i-preserved : goal.loop-i-preserved
loop-i-preserved g c =
    let s = c.args.input.now in
    let w = c.args.num_bits in
    let from = c.loop-i.i * w in
    let place : 8 * (from / 8) + from % 8 ≡ 0 + from = omega arith in
    fill_more g.T.Element.made s 0 w c.loop-i.i c.word_bits.result c.loop-i.cells
    c.loop-i.invariant c.from_pattern.ensures
    (c.word_bits.ensures
    ∙ ap (λ x. x / 2 ^ (from % 8) % 2 ^ w) (c.whole_word-word.ensures ∙ bits_at-rest s (from / 8) 64)
    ∙ bits_at-part s (8 * (from / 8)) 64 (from % 8) w (omega arith)
    ∙ ap (λ p. bits_at s p w) place)
    (omega arith)
