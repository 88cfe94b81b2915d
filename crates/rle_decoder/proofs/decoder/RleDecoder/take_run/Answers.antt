use Rattle.std.proofs.Common.{◌≡◌, ◌≤◌, ◌++◌, map, length, take, drop, sym, ap, ◌∙◌, arith}
use Rattle.std.proofs.lemmas.List.{length-take, length-map}
use Rattle.packed.proofs.Overwrite.{put_mid-overwrite}
use Rattle.rle_decoder.specs.Decoder.{waiting_of}
use Rattle.rle_decoder.proofs.decoder.RleDecoder.take_run.Goals as goal

pub returns-clause-cells : goal.returns-clause-cells
returns-clause-cells g c =
    let d = c.args.self.now in
    let o = c.args.cells.now in
    let made = g.E.Element.made in
    let vs = (waiting_of d).values in
    let k = c.pass_run.result in
    let n = c.min-count.result in
    let same : n ≡ k = omega (arith, c.pass_run.ensures.count, c.min-count.ensures, c.left.ensures) in
    let front : length (take n o) ≡ k = length-take n o ∙ omega (arith, same, c.min-count.ensures) in
    let some : k ≤ length vs = c.pass_run.ensures.took.most in
    let new = map made (take k vs) in
    let long : length new ≡ k = length-map (take k vs) made ∙ length-take k vs ∙ omega (arith, some) in
    ap (λ xs. xs ++ drop n o) (c.copy_run.ensures ∙ ap (λ m. map made (take m vs)) front)
    ∙ put_mid-overwrite o 0 n new (long ∙ sym same)
