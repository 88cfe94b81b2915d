use Rattle.std.proofs.Common.{◌*◌, ◌≤◌, ◌/◌, ◌^◌, ◌%◌, ap, ◌∙◌, refl, mul-le-mul, arith}
use Rattle.packed.specs.Bytes.{cells_at}
use Rattle.packed.proofs.Bytes.{bits_at-part, fill_more}
use Rattle.packed.proofs.bit_pack.unpack_narrow.Goals as goal

pub loop-i-init : goal.loop-i-init
unfolding cells_at
loop-i-init g c = refl

pub loop-i-preserved : goal.loop-i-preserved
loop-i-preserved g c =
    let w = c.args.num_bits in
    let i = c.loop-i.i in
    let turn : i ≤ 7 = omega arith in
    let inside : i * w ≤ 7 * 8 = mul-le-mul turn c.requires.width in
    fill_more g.T.Element.made c.args.input.now 0 w i c.word_bits.result c.loop-i.cells
    c.loop-i.invariant c.from_pattern.ensures
    (c.word_bits.ensures
    ∙ ap (λ x. x / 2 ^ (i * w) % 2 ^ w) c.load_word-word.ensures
    ∙ bits_at-part c.args.input.now 0 64 (i * w) w (omega arith))
    (omega arith)
