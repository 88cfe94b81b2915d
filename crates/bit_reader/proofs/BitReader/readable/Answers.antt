use Rattle.std.proofs.Common.{◌≡◌, ◌-◌, ◌*◌, length, arith}
use Rattle.bit_reader.specs.Reader.{page, position}
use Rattle.bit_reader.proofs.Reading.{all_fit, counted}
use Rattle.bit_reader.proofs.BitReader.readable.Goals as goal

pub returns-then-num_values-num_bits : goal.returns-then-num_values-num_bits
returns-then-num_values-num_bits c =
    let r = c.args.self.now in
    let left = (length (page r) - r.byte_offset) * 8 - r.bit_offset in
    let same : left ≡ 8 * length (page r) - position r = omega arith in
    counted (page r) (position r) c.args.num_bits c.args.num_values c.args.num_values left r.in_page same
    (all_fit left c.args.num_bits c.args.num_values c.if-num_values-num_bits.true)
