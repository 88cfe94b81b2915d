use Rattle.std.proofs.Common.{◌≡◌, ℕ, ◌+◌, List, length, replicate, ap, ◌∙◌, sym, arith, length-drop, length-take, rules}
use lib.ListN.{length-replicate}
use Rattle.bit_writer.proofs.Writing.{part-overwrite}
use Rattle.bit_writer.proofs.BitWriter.append_zeros.Goals as goal

pub returns : goal.returns
returns c =
    let w = c.args.self.now in
    let at = w.byte_offset in
    let count = c.args.count in
    let zeros : List ℕ = replicate count 0 in
    let long : length zeros ≡ count = length-replicate count 0 in
    let part : length c.fill.new.self ≡ count = c.fill.ensures.len ∙ simp (length-take, length-drop) (omega arith) in
    let filled : c.fill.new.self ≡ zeros = c.fill.ensures.after (λ y e. e) ∙ ap (λ n. replicate n 0) (sym c.fill.ensures.len ∙ part) in
    let stored = part-overwrite w.out.now c.fill.new.self zeros at (at + count) filled (ap (λ n. at + n) long) in
    search rules
