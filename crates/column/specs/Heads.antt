-- A head reading as a pattern of 16 bits: the address in the high byte, the value in the low one.
use Rattle.std.specs.Prelude.{◌≡◌, ℕ, ◌+◌, ◌*◌, ◌/◌, ◌%◌, ◌^◌, ◌<◌}
use Rattle.std.proofs.Common.{sym, ap, ◌∙◌, ap₂, mod-eq_of_lt}
use Rattle.std.proofs.Math.Arith.{digits_div, digits_mod, digits_lt}
use Rattle.std.proofs.lemmas.Nat.{mod-pow-add}
use Rattle.column.specs.declared.head_reading.HeadReading.{HeadReading}

abbrev pub IsReading : HeadReading → Type 0
IsReading v = (v.address < 256) × (v.value < 256)

abbrev pub pattern_of : HeadReading → ℕ
pattern_of v = v.address * 256 + v.value

abbrev pub reading_of : ℕ → HeadReading
reading_of p = record { address = (p / 256) % 256; value = p % 256 }

-- ---- the laws of such an element

pub reading_below : (v : HeadReading) → IsReading v → pattern_of v < 2 ^ 16
reading_below v is = digits_lt is.0 is.1

pub reading_makes : (v : HeadReading) → IsReading v → reading_of (pattern_of v) ≡ v
reading_makes v is =
    ap₂ (λ a b. record { address = a; value = b })
    (ap (λ n. n % 256) (digits_div v.address is.1) ∙ mod-eq_of_lt is.0)
    (digits_mod v.address is.1)

pub reading_wraps : (p : ℕ) → p < 2 ^ 64 → pattern_of (reading_of p) ≡ p % 2 ^ 16
reading_wraps p fits = sym (mod-pow-add p 8 8)
