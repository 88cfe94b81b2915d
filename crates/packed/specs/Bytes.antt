-- Bytes as one number: the bits of the first byte are the lowest.
use Rattle.std.specs.Prelude.{ℕ, zero, suc, ◌+◌, ◌/◌, ◌%◌, ◌^◌, List, [], ◌∷◌, ◌++◌, length, take, drop}
use Rattle.packed.specs.Digits.{number}

-- The w bits that begin at bit p. Past the last byte every bit is 0.
unfoldable pub bits_at : List ℕ → ℕ → ℕ → ℕ
bits_at s p w = number 256 s / 2 ^ p % 2 ^ w

-- The cells of the k values of w bits each that lie one behind the other from bit p on, each made by f.
unfoldable pub cells_at : {A : Type 0} → (ℕ → A) → List ℕ → ℕ → ℕ → ℕ → List A
cells_at f s p w zero = []
cells_at f s p w (suc k) = f (bits_at s p w) ∷ cells_at f s (p + w) w k

-- A list after others were written over it from a place on: what lies before and behind them stays.
unfoldable pub overwrite : {A : Type 0} → List A → ℕ → List A → List A
overwrite s at new = take at s ++ new ++ drop (at + length new) s
