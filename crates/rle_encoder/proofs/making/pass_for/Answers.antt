use Rattle.std.proofs.Common.{◌≡◌, ℕ, leb, [], length, Some, None, sym, refl, ap, ◌∙◌, zero-le}
use Rattle.std.proofs.lemmas.Bool.{cond-true, le-leb}
use Rattle.column.specs.Putting.{fitting}
use Rattle.column.specs.declared.Refusal.TheVariants.{BadWidth, Full}
use Rattle.rle.specs.Runs.{page}
use Rattle.rle_encoder.proofs.Lengths.{need-none}
use Rattle.rle_encoder.proofs.making.pass_for.Goals as goal

always-fits : (w room : ℕ) → fitting (length (page w [])) room ≡ None
always-fits w room = ap (λ n. fitting n room) (need-none w) ∙ cond-true (leb 0 room) None (Some Full) (le-leb 0 room zero-le)

pub returns : goal.returns
returns c =
    let w = c.args.width in
    (cond-true (leb w 64) (fitting (length (page w [])) c.args.room) (Some BadWidth) (sym c.if-not-has_width.ensures) ∙ always-fits w c.args.room, refl, refl)
