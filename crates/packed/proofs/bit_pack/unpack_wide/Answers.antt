use Rattle.std.proofs.Common.{◌≡◌, ◌+◌, ◌*◌, ◌/◌, ◌%◌, ap, ◌∙◌, refl, arith}
use Rattle.packed.specs.Bytes.{bits_at, cells_at}
use Rattle.packed.proofs.Bytes.{fill_more}
use Rattle.packed.proofs.bit_pack.unpack_wide.Goals as goal

pub loop-i-init : goal.loop-i-init
unfolding cells_at
loop-i-init g c = refl

pub loop-i-preserved : goal.loop-i-preserved
loop-i-preserved g c =
    let w = c.args.num_bits in
    let from = c.loop-i.i * w in
    let place : 8 * (from / 8) + from % 8 ≡ 0 + from = omega arith in
    fill_more g.T.Element.made c.args.input.now 0 w c.loop-i.i c.bits_at.result c.loop-i.cells
    c.loop-i.invariant c.from_pattern.ensures
    (c.bits_at.ensures ∙ ap (λ p. bits_at c.args.input.now p w) place)
    (omega arith)
