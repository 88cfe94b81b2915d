-- A word shifted to the right by as many bits as it has, or fewer.
use Rattle.std.proofs.Common.{◌≡◌, ℕ, ◌+◌, ◌-◌, ◌/◌, ◌^◌, ◌<◌, ◌≤◌, cond, eqb, ltb, sym, ◌∙◌, ap, subst, ⊎_elim, le_antisymm, arith, pow_pos}
use native.Mathlib.Nat.{div-eq_of_lt, div-eq-sub-div}
use Rattle.std.proofs.lemmas.Bool.{cases_lt, cond-false, cond-true, eq-eqb, le-ltb, lt-ltb, ne_eqb}

-- past all its bits nothing is left
pub shifted : (v n r : ℕ) → v < 2 ^ 64 → n ≤ 64 → r ≡ cond (ltb n 64) (v / 2 ^ n) 0 → r ≡ v / 2 ^ n
shifted v n r word most is =
    ⊎_elim
    (λ few. is ∙ cond-true (ltb n 64) (v / 2 ^ n) 0 (lt-ltb n 64 few))
    (λ all.
    let whole : 64 ≡ n = le_antisymm all most in
    is ∙ cond-false (ltb n 64) (v / 2 ^ n) 0 (le-ltb n 64 all)
    ∙ sym (div-eq_of_lt (subst (λ k. v < 2 ^ k) whole word)))
    (cases_lt n 64)

-- nothing is left of a number above a power just where the number is below it
above : (p k : ℕ) → eqb (p / 2 ^ k) 0 ≡ ltb p (2 ^ k)
above p k =
    ⊎_elim
    (λ small. eq-eqb (p / 2 ^ k) 0 (div-eq_of_lt small) ∙ sym (lt-ltb p (2 ^ k) small))
    (λ large.
    let more : p / 2 ^ k ≡ (p - 2 ^ k) / 2 ^ k + 1 = div-eq-sub-div (pow_pos k) large in
    ne_eqb (p / 2 ^ k) 0 (λ e. omega arith) ∙ sym (le-ltb p (2 ^ k) large))
    (cases_lt p (2 ^ k))

-- so it is where what is left comes of a shift
pub none_left : (v n r : ℕ) → r ≡ cond (ltb n 64) (v / 2 ^ n) 0 → v < 2 ^ 64 → n ≤ 64 → eqb r 0 ≡ ltb v (2 ^ n)
none_left v n r is word most = ap (λ k. eqb k 0) (shifted v n r word most is) ∙ above v n
