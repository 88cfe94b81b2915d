use Rattle.std.proofs.Common.{ℕ, ◌^◌, ◌<◌, [], ◌∷◌, ◌++◌, length, get_or, set, sym, ap, ◌∙◌, subst}
use Rattle.std.proofs.ByRecursion.{All-get_or, All-push}
use Rattle.rle.specs.Runs.{padded}
use Rattle.rle_encoder.specs.Encoding.{group_bytes}
use Rattle.rle_encoder.proofs.Added.{gathered-below, group-whole}
use Rattle.rle_encoder.proofs.RleEncoder.group_with.Goals as goal

pub group_bytes-requires-clause-fits : goal.group_bytes-requires-clause-fits
group_bytes-requires-clause-fits c =
    let e = c.args.self.now in
    let g = e.progress.gathered.items in
    let x = c.args.value in
    let whole = ap (λ l. set l 7 x) (c.padded_group-group.ensures ∙ ap padded c.as_slice.ensures.value) ∙ group-whole g x c.requires.eighth in
    let all = All-push (λ v. v < 2 ^ e.progress.width) g x (gathered-below e c.requires.calm) c.requires.takes.below in
    subst (λ l. (i : ℕ) → i < length l → get_or l i 0 < 2 ^ e.progress.width) (sym whole)
    (λ i inside. All-get_or (λ v. v < 2 ^ e.progress.width) (g ++ x ∷ []) i 0 inside all)

pub returns : goal.returns
returns c =
    let e = c.args.self.now in
    let g = e.progress.gathered.items in
    let x = c.args.value in
    let whole = ap (λ l. set l 7 x) (c.padded_group-group.ensures ∙ ap padded c.as_slice.ensures.value) ∙ group-whole g x c.requires.eighth in
    c.group_bytes.ensures ∙ ap (group_bytes e.progress.width) whole
