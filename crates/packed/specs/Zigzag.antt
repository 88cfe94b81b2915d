-- Zigzag: signed numbers as unsigned ones, 0, -1, 1, -2, 2 .. as 0, 1, 2, 3, 4 ..
use Rattle.std.specs.Prelude.{ℕ, ◌+◌, ◌*◌, ◌/◌, ◌%◌, cond, ℤ, pos, negsuc, ◌==◌}

-- 2 v for v ≥ 0, and -2 v - 1 below: `negsuc n` is -(n + 1).
abbrev pub zigzag_of : ℤ → ℕ
zigzag_of (pos n) = 2 * n
zigzag_of (negsuc n) = 2 * n + 1

-- The signed number that an unsigned one stands for.
abbrev pub unzigzag_of : ℕ → ℤ
unzigzag_of u = cond (u % 2 == 0) (pos (u / 2)) (negsuc (u / 2))
