-- The values of a packed column.
use Rattle.std.proofs.Common.{◌≡◌, ℕ, ◌+◌, ◌*◌, ◌%◌, ◌^◌, ◌<◌, List, length, get_or, sym, ◌∙◌, subst, ap₂, lt_of_le_of_lt}
use native.Mathlib.Nat.{mod-le}
use Rattle.packed.specs.Bytes.{bits_at, cells_at, overwrite}
use Rattle.packed.proofs.Bytes.{bits_at-below, get_or-cells_at, length-cells_at}
use Rattle.packed.proofs.Overwrite.{overwrite-all}
use Rattle.loopview.specs.Columns.{unpacked_at}

-- what is unpacked has no more bits than were read
pub unpacked-below : (w k : ℕ) (bytes : List ℕ) (i : ℕ) → i < k → get_or (unpacked_at w k bytes) i 0 < 2 ^ w
unpacked-below w k bytes i h =
    subst (λ n. n < 2 ^ w) (sym (get_or-cells_at (λ v. v % 2 ^ 8) bytes 0 w k i 0 h))
    (lt_of_le_of_lt (mod-le (bits_at bytes (0 + i * w) w) (2 ^ 8)) (bits_at-below bytes (0 + i * w) w))

-- cells that were filled from the first bit of a page on
pub cells-all : (cells after page bytes : List ℕ) (p w k : ℕ) → after ≡ overwrite cells 0 (cells_at (λ v. v % 2 ^ 8) page p w k) → page ≡ bytes → p ≡ 0 → k ≡ length cells → after ≡ unpacked_at w k bytes
cells-all cells after page bytes p w k filled same start all =
    filled
    ∙ ap₂ (λ s q. overwrite cells 0 (cells_at (λ v. v % 2 ^ 8) s q w k)) same start
    ∙ overwrite-all cells (unpacked_at w k bytes) (length-cells_at (λ v. v % 2 ^ 8) bytes 0 w k ∙ all)
