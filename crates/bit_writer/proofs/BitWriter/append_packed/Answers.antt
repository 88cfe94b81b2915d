use Rattle.std.proofs.Common.{◌≡◌, ◌+◌, ◌*◌, ◌^◌, length, take, sym, ap, ◌∙◌, subst, zero-mul, arith}
use Rattle.std.proofs.lemmas.List.{take_all}
use Rattle.packed.specs.Bytes.{bits_at}
use Rattle.packed.specs.Digits.{number}
use Rattle.packed.proofs.Bytes.{packed-back}
use Rattle.bit_writer.specs.Sizes.{bytes_for}
use Rattle.bit_writer.specs.Writer.{PutBits, buffer}
use Rattle.bit_writer.proofs.Writing.{put_none, put-value-more, put-flushed}
use Rattle.bit_writer.proofs.BitWriter.append_packed.Goals as goal

pub loop-v-init : goal.loop-v-init
unfolding number
loop-v-init c =
    let w = c.args.self.now in
    subst (PutBits w w 0) (sym (zero-mul c.args.num_bits)) (put_none w c.requires.none)

pub loop-v-preserved : goal.loop-v-preserved
loop-v-preserved c =
    let i = c.loop-v.v-index in
    put-value-more c.args.self.now c.loop-v.self c.put_value.new.self c.args.values.now i c.args.num_bits
    c.loop-v.invariant (omega arith) (c.requires.fits i (omega arith)) c.put_value.ensures

pub returns : goal.returns
returns c =
    let e = c.args.self.now in
    let vs = c.args.values.now in
    let w = c.args.num_bits in
    let all : c.loop-v.v-index ≡ length vs = omega arith in
    let put : PutBits e c.loop-v.self (number (2 ^ w) vs) (length vs * w) =
    subst (λ l. PutBits e c.loop-v.self (number (2 ^ w) l) (length vs * w)) (take_all c.loop-v.v-index vs (omega arith))
    (subst (λ k. PutBits e c.loop-v.self (number (2 ^ w) (take c.loop-v.v-index vs)) (k * w)) all c.loop-v.invariant) in
    let bytes = put-flushed e c.loop-v.self c.flush.new.self (number (2 ^ w) vs) (length vs * w) put c.flush.ensures.bytes in
    record {
      bytes = bytes;
      back = λ i h.
          ap (λ s. bits_at s (8 * e.byte_offset + i * w) w) bytes.buffer_is
          ∙ packed-back (buffer e) vs e.byte_offset (bytes_for (length vs * w)) w i (omega arith) (omega arith) h (c.requires.fits i h);
    }
