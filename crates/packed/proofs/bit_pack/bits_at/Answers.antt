use Rattle.std.proofs.Common.{◌+◌, ◌*◌, ◌/◌, ◌%◌, ◌^◌, ◌<◌, sym, ap, ◌∙◌, subst}
use Rattle.packed.proofs.Bytes.{bits_at-part, bits_at-below, bits_at-narrow, bits_at-rest, ninth}
use Rattle.packed.proofs.bit_pack.bits_at.Goals as goal

pub returns-then-bit-num_bits-le64 : goal.returns-then-bit-num_bits-le64
returns-then-bit-num_bits-le64 c =
    c.word_bits.ensures
    ∙ ap (λ x. x / 2 ^ c.args.bit % 2 ^ c.args.num_bits) (c.load_word-word.ensures ∙ bits_at-rest c.args.s.now c.args.byte 64)
    ∙ bits_at-part c.args.s.now (8 * c.args.byte) 64 c.args.bit c.args.num_bits c.if-bit-num_bits-le64.true

pub overflow_add-word : goal.overflow_add-word
overflow_add-word c =
    let loaded = c.load_word-word.ensures ∙ bits_at-rest c.args.s.now c.args.byte 64 in
    let joined = ninth c.args.s.now c.args.byte c.args.bit c.load_word-word.result loaded c.requires.start (c.type_inv.s (c.args.byte + 8)).fits in
    record { fits = subst (λ x. x < 2 ^ 64) (sym joined) (bits_at-below c.args.s.now (8 * c.args.byte + c.args.bit) 64) }

pub returns : goal.returns
returns c =
    let loaded = c.load_word-word.ensures ∙ bits_at-rest c.args.s.now c.args.byte 64 in
    c.trailing_bits.ensures
    ∙ ap (λ x. x % 2 ^ c.args.num_bits)
    (ninth c.args.s.now c.args.byte c.args.bit c.load_word-word.result loaded c.requires.start (c.type_inv.s (c.args.byte + 8)).fits)
    ∙ bits_at-narrow c.args.s.now (8 * c.args.byte + c.args.bit) 64 c.args.num_bits c.requires.width
