use Rattle.std.proofs.Common.{◌≡◌, ◌+◌, ◌*◌, ◌%◌, ◌^◌, get_or, drop, Ok, Err, sym, ap, ◌∙◌, arith}
use Rattle.std.proofs.lemmas.Bool.{ltb-true, ltb-false}
use Rattle.packed.proofs.VlqLaws.{number_small, so_far_more, read_here, too-large-here, ten-continue, read-long, read-long-cut}
use Rattle.packed.proofs.vlq.read_tenth.Goals as goal
use Rattle.packed.proofs.vlq.read_tenth.Goals.{then-byte-lt128-via-then-byte-lt128, then-byte-lt128-via-else-byte-lt128+then-at-page}

pub overflow_add-result : goal.overflow_add-result
overflow_add-result c =
    let one = ltb-true (get_or c.args.page.now (c.args.at + 9) 0) 2 (sym c.fits_one_bit.ensures ∙ c.if-fits_one_bit.true) in
    record { fits = omega (arith, c.requires.nine.0, number_small (drop c.args.at c.args.page.now) 9) }

pub returns-then-fits_one_bit : goal.returns-then-fits_one_bit
returns-then-fits_one_bit c =
    let one = ltb-true (get_or c.args.page.now (c.args.at + 9) 0) 2 (sym c.fits_one_bit.ensures ∙ c.if-fits_one_bit.true) in
    let byte = get_or c.args.page.now (c.args.at + 9) 0 in
    let small = number_small (drop c.args.at c.args.page.now) 9 in
    let e : c.args.low + (byte * 2 ^ 63) % 2 ^ 64 ≡ c.args.low + byte % 128 * 2 ^ 63 = omega arith in
    ap (λ x. Ok (x, 10)) e
    ∙ sym (read_here c.args.page.now c.args.at 9 c.args.low c.requires.nine (omega arith) (omega arith) (omega arith) (omega (arith, c.requires.nine.0, small)))

pub returns-then-byte-lt128 : goal.returns-then-byte-lt128
returns-then-byte-lt128 c =
    let wide = ltb-false (get_or c.args.page.now (c.args.at + 9) 0) 2 (sym c.fits_one_bit.ensures ∙ c.if-fits_one_bit.false) in
    let so = c.requires.nine in
    ap Err c.at.ensures
    ∙ sym
    (elim c.then-byte-lt128.branch [
      | then-byte-lt128-via-then-byte-lt128 w ↦
          too-large-here c.args.page.now c.args.at 9 c.args.low so (omega arith) (omega arith) w.if-byte-lt128.true (omega arith)
      | then-byte-lt128-via-else-byte-lt128+then-at-page w ↦
          read-long c.args.page.now c.args.at
          (ten-continue c.args.page.now c.args.at _ (so_far_more c.args.page.now c.args.at 9 c.args.low so (omega arith) w.if-byte-lt128.false))
          (omega arith)
    ])

pub returns : goal.returns
returns c =
    ap Err c.at-2.ensures
    ∙ sym (read-long-cut c.args.page.now c.args.at
    (ten-continue c.args.page.now c.args.at _ (so_far_more c.args.page.now c.args.at 9 c.args.low c.requires.nine (omega arith) c.if-byte-lt128.false))
    (omega arith))
