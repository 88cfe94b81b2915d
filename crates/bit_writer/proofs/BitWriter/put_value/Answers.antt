use Rattle.std.proofs.Common.{◌≡◌, ◌+◌, ◌-◌, ◌*◌, ◌/◌, ◌^◌, ◌<◌, sym, refl, ap, ◌∙◌, subst, div-one, arith}
use Rattle.packed.specs.Bytes.{overwrite}
use Rattle.packed.specs.Digits.{digits}
use Rattle.packed.proofs.Overwrite.{overwrite-none}
use Rattle.bit_writer.specs.Sizes.{words_for}
use Rattle.bit_writer.specs.Writer.{buffer}
use Rattle.bit_writer.proofs.Writing.{whole, word-is, word-whole, word-below, carry-is, carry-below, word-digits}
use Rattle.bit_writer.proofs.BitWriter.put_value.Goals as goal

pub invariant_of-self-clause-small : goal.invariant_of-self-clause-small
invariant_of-self-clause-small c =
    word-below c.args.self.now c.args.v c.args.num_bits c.requires.fits c.above.result c.above.ensures c.if-count-num_bits-lt64.true

pub returns-then-count-num_bits-lt64 : goal.returns-then-count-num_bits-lt64
unfolding digits
returns-then-count-num_bits-lt64 c =
    let w = c.args.self.now in
    let all = whole w c.args.v c.args.num_bits c.requires.fits in
    let none : words_for (w.bit_offset + c.args.num_bits) ≡ 0 = omega arith in
    record {
      buffer_is = sym (overwrite-none (buffer w) w.byte_offset) ∙ ap (λ k. overwrite (buffer w) w.byte_offset (digits 256 k all)) (sym none);
      place = omega arith;
      held =
          word-whole w c.args.v c.args.num_bits c.requires.fits c.above.result c.above.ensures c.if-count-num_bits-lt64.true
          ∙ sym (div-one all)
          ∙ ap (λ k. all / 2 ^ (8 * k)) (sym none);
      count = omega arith;
      room = refl;
      lent = refl;
    }

pub invariant_of-self-2-clause-small : goal.invariant_of-self-2-clause-small
invariant_of-self-2-clause-small c =
    let w = c.args.self.now in
    subst (λ x. x < 2 ^ (w.bit_offset + c.args.num_bits - 64)) (sym c.carried-self.ensures) (carry-below w c.args.v c.args.num_bits c.requires.fits c.if-count-num_bits-lt64.false)

pub returns : goal.returns
returns c =
    let w = c.args.self.now in
    let v = c.args.v in
    let n = c.args.num_bits in
    let all = whole w v n c.requires.fits in
    let one : words_for (w.bit_offset + n) ≡ 8 = omega (arith, w.few) in
    record {
      buffer_is =
          c.store_bytes.ensures
          ∙ ap (overwrite (buffer w) w.byte_offset) (ap (digits 256 8) (word-is w v n c.requires.fits c.above.result c.above.ensures) ∙ word-digits all ∙ ap (λ k. digits 256 k all) (sym one));
      place = omega arith;
      held = c.carried-self.ensures ∙ carry-is w v n c.requires.fits ∙ ap (λ k. all / 2 ^ (8 * k)) (sym one);
      count = omega (arith, w.few);
      room = c.store_bytes.auto.out;
      lent = refl;
    }
