-- A VLQ has a byte for each seven bits of its number.
use Rattle.std.proofs.Common.{◌≡◌, ℕ, zero, suc, ◌+◌, ◌-◌, ◌*◌, ◌/◌, ◌^◌, ◌<◌, ◌≤◌, max, length, sym, ap, ◌∙◌, ⊎_elim, arith, lit<, pow_mono, pow-add}
use Rattle.std.proofs.lemmas.Bool.{cases_lt}
use Rattle.packed.specs.Vlq.{vlq}
use Rattle.packed.proofs.VlqLaws.{vlq-ind, vlq-last, vlq-step}

below-seven : (n k : ℕ) → n < 128 → 2 ^ k ≤ n → k < 7
below-seven n k h low =
    ⊎_elim
    (λ few. few)
    (λ more. let most : 2 ^ 7 ≤ 2 ^ k = pow_mono more in omega (arith, most))
    (cases_lt k 7)

from-seven : (n k : ℕ) → 128 ≤ n → n < 2 * 2 ^ k → 7 ≤ k
from-seven n k h high =
    ⊎_elim
    (λ few. let most : 2 ^ k ≤ 2 ^ 6 = pow_mono {i = k} {j = 6} (omega (arith, few)) in omega (arith, most))
    (λ more. more)
    (cases_lt k 7)

-- the highest bit of a number that is not 0 is bit k
by-highest : (n k : ℕ) → 2 ^ k ≤ n → n < 2 * 2 ^ k → 1 + k / 7 ≡ length (vlq n)
by-highest n k low high =
    vlq-ind (λ n. (k : ℕ) → 2 ^ k ≤ n → n < 2 * 2 ^ k → 1 + k / 7 ≡ length (vlq n))
    (λ n h k low high. omega (arith, ap length (vlq-last n h), below-seven n k h low))
    (λ n h rest k low high.
    let some : 7 ≤ k = from-seven n k h high in
    let split : 2 ^ k ≡ 2 ^ (k - 7) * 128 = ap (λ x. 2 ^ x) (omega (arith, some)) ∙ pow-add 2 (k - 7) 7 in
    omega (arith, ap length (vlq-step n h), rest (k - 7) (omega (arith, split)) (omega (arith, split)), some))
    n k low high

at-least-one : (n : ℕ) → length (vlq (max n 1)) ≡ length (vlq n)
at-least-one zero = ap length (vlq-last 1 (lit< tt)) ∙ sym (ap length (vlq-last 0 (lit< tt)))
at-least-one (suc n) = ap (λ m. length (vlq m)) (omega arith)

-- 0 takes one byte, as 1 does
pub length_by_bits : (n m k : ℕ) → m ≡ max n 1 → 2 ^ k ≤ m → m < 2 * 2 ^ k → 1 + k / 7 ≡ length (vlq n)
length_by_bits n m k is low high = by-highest m k low high ∙ ap (λ x. length (vlq x)) is ∙ at-least-one n
