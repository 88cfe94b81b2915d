use Rattle.std.proofs.Common.{◌*◌, length, ◌∙◌, arith}
use Rattle.packed.proofs.Bytes.{cells_at-rest, cells_from}
use Rattle.bit_reader.specs.Reader.{page, position}
use Rattle.bit_reader.proofs.BitReader.fill_groups.Goals as goal

pub returns-clause-cells : goal.returns-clause-cells
returns-clause-cells g c =
    let made = g.T.Element.made in
    let r = c.args.self.now in
    let n = length c.args.cells.now in
    c.unpack.ensures
    ∙ cells_at-rest made (page r) r.byte_offset c.args.num_bits n
    ∙ cells_from made (page r) (8 * r.byte_offset) (position r) c.args.num_bits n (λ some. omega (arith, c.requires.whole some))
