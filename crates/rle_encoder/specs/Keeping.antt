-- What is kept, as the column's trait asks for it.
use Rattle.std.specs.Prelude.{◌≡◌, ℕ, ◌^◌, ◌<◌, ◌≤◌, true, false, List, [], ◌∷◌}
use Rattle.std.specs.List.{AllByRecursion}
use Rattle.std.proofs.Common.{ltb, sym, refl, ◌∙◌, subst, ⊎_elim}
use Rattle.std.proofs.lemmas.Bool.{cases_Bool, both_ways, ltb-true, cond-true, cond-false}
use Rattle.column.specs.Putting.{Column}
use Rattle.rle_encoder.specs.Encoding.{Kept, accepted_of, all_below}
use Rattle.rle_encoder.specs.declared.progress.Progress.{Progress}

pub below_all : (w : ℕ) (l : List ℕ) → all_below w l ≡ true → AllByRecursion (λ v. v < 2 ^ w) l
below_all w [] e = tt
below_all w (v ∷ vs) e =
    ⊎_elim
    (λ small. (ltb-true v (2 ^ w) small, below_all w vs (sym (cond-true (ltb v (2 ^ w)) (all_below w vs) false small) ∙ e)))
    (λ large. absurd (both_ways false refl (sym (cond-false (ltb v (2 ^ w)) (all_below w vs) false large) ∙ e)))
    (cases_Bool (ltb v (2 ^ w)))

-- The list is one that a column of the width can hold.
pub kept-column : {p : Progress} {out : List ℕ} → Kept p out → Column p.width (accepted_of p out)
kept-column {p} {out} k = record { below = below_all p.width (accepted_of p out) k.below; count = subst (λ n. n ≤ 2147483647) k.counted k.short }
