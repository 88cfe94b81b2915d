use Rattle.std.proofs.Common.{◌≡◌, ◌+◌, ◌*◌, refl, ap, ap₂, ◌∙◌, suc-mul, add-one, arith}
use Rattle.packed.specs.Bytes.{bits_at, cells_at}
use Rattle.packed.proofs.Bytes.{fill_more}
use Rattle.bit_reader.specs.Reader.{page, position}
use Rattle.bit_reader.proofs.BitReader.fill_singles.Goals as goal

pub loop-cell-init : goal.loop-cell-init
unfolding cells_at
loop-cell-init g c = (refl, record { same = refl; to = omega arith })

pub loop-cell-preserved : goal.loop-cell-preserved
loop-cell-preserved g c =
    let r = c.args.self.now in
    let w = c.args.num_bits in
    let k = c.loop-cell.cell-index in
    let moved = c.loop-cell.invariant.1 in
    let step : (k + 1) * w ≡ k * w + w = ap (λ x. x * w) (add-one k) ∙ suc-mul k w in (
      fill_more g.T.Element.made (page r) (position r) w k c.take_value.result c.loop-cell.cells
          c.loop-cell.invariant.0 c.from_pattern.ensures
          (c.take_value.ensures.value ∙ ap₂ (λ s p. bits_at s p w) moved.same moved.to)
          (omega arith),
      record { same = c.take_value.ensures.moved.same ∙ moved.same; to = omega (arith, moved.to, c.take_value.ensures.moved.to, step) },
    )
