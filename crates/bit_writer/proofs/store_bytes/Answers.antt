use Rattle.std.proofs.Common.{◌+◌, take, ap, ◌∙◌}
use Rattle.packed.specs.Digits.{digits}
use Rattle.packed.proofs.Digits.{length_digits}
use Rattle.bit_writer.proofs.Writing.{part-overwrite, low_bytes}
use Rattle.bit_writer.proofs.store_bytes.Goals as goal

pub returns : goal.returns
returns c =
    let v = c.args.v in
    let at = c.args.at in
    let count = c.args.count in
    let stored = c.copy_from_slice.ensures.after ∙ ap (take count) c.to_le_bytes.ensures ∙ low_bytes count v c.requires.bytes in
    part-overwrite c.args.out.now _ (digits 256 count v) at (at + count) stored (ap (λ n. at + n) (length_digits 256 count v))
