-- Numbers by their digits, the lowest digit first. Bytes are digits to the base 256, values packed at a width of w
-- bits are digits to the base 2 ^ w, and the bytes of a VLQ carry digits to the base 128.
use Rattle.std.specs.Prelude.{ℕ, zero, suc, ◌+◌, ◌*◌, ◌/◌, ◌%◌, List, [], ◌∷◌}

-- The number that digits stand for. Of each digit only its remainder by the base counts.
unfoldable pub number : ℕ → List ℕ → ℕ
number b [] = 0
number b (d ∷ ds) = d % b + b * number b ds

-- The k lowest digits of n.
unfoldable pub digits : ℕ → ℕ → ℕ → List ℕ
digits b zero n = []
digits b (suc k) n = n % b ∷ digits b k (n / b)
