-- Numbers as patterns of a width: unsigned ones by their lowest bits, signed ones by two's complement.
use Rattle.std.specs.Prelude.{◌≡◌, ℕ, ◌%◌, ◌^◌, ◌<◌, ℤ, FitsSigned}
use Rattle.std.specs.Int.{Width, cast_signed, cast_unsigned}
use Rattle.std.proofs.Common.{refl, ap, ◌∙◌, mod-lt, mod-eq_of_lt, pow_pos}
use Rattle.std.proofs.Math.Facts.{Fits-of_z}
use Rattle.std.proofs.lemmas.Int.{to_z-of_z, of_z-to_z}
use mir.Val.{bits}

-- An unsigned number of w bits, which is its own pattern.
abbrev pub IsUnsigned : ℕ → ℕ → Type 0
IsUnsigned w v = v < 2 ^ w

-- The unsigned number that a pattern makes: its w lowest bits.
abbrev pub low_bits : ℕ → ℕ → ℕ
low_bits w p = p % 2 ^ w

-- The signed number that they are.
abbrev pub signed_bits : Width → ℕ → ℕ → ℤ
signed_bits width w p = cast_signed width (low_bits w p)

-- ---- the laws of an element that is such a number

pub unsigned_below : (w v : ℕ) → IsUnsigned w v → v < 2 ^ w
unsigned_below w v fits = fits

pub unsigned_makes : (w v : ℕ) → IsUnsigned w v → low_bits w v ≡ v
unsigned_makes w v fits = mod-eq_of_lt fits

pub unsigned_wraps : (w p : ℕ) → p < 2 ^ 64 → low_bits w p ≡ p % 2 ^ w
unsigned_wraps w p fits = refl

pub signed_below : (width : Width) (v : ℤ) → FitsSigned width v → cast_unsigned width v < 2 ^ bits width
signed_below width v fits = (Fits-of_z {w = width} {z = v} fits).fits

pub signed_makes : (width : Width) (v : ℤ) → FitsSigned width v → signed_bits width (bits width) (cast_unsigned width v) ≡ v
signed_makes width v fits =
    ap (cast_signed width) (mod-eq_of_lt (signed_below width v fits)) ∙ to_z-of_z width v fits

pub signed_wraps : (width : Width) (p : ℕ) → p < 2 ^ 64 → cast_unsigned width (signed_bits width (bits width) p) ≡ p % 2 ^ bits width
signed_wraps width p fits = of_z-to_z width (p % 2 ^ bits width) (mod-lt p (pow_pos (bits width)))
