-- What a reader takes beyond the public format, each leniency under a name.
use Rattle.std.specs.Prelude.{◌≡◌, ℕ, ◌+◌, ◌*◌, ◌/◌, ◌<◌, ◌≤◌, List, [], ◌++◌, length, replicate}
use Rattle.std.specs.List.{AllByRecursion}
use Rattle.packed.specs.Bytes.{cells_at}
use Rattle.packed.specs.Digits.{number}
use Rattle.rle.specs.Hybrid.{Header, Count}

-- The bytes from a place on stand for these values: runs as the format has them, but that
-- - data that ends before or inside a header ends the page,
-- - a header of 0 ends the page, whatever follows,
-- - a packed run of no groups is passed over,
-- - a repeated value keeps all bits of its bytes,
-- - a packed run that is cut gives its complete values, and ends the page.
pub data Lenient (w : ℕ) : List ℕ → List ℕ → Type 0 where
  cut_header : {bytes : List ℕ} → AllByRecursion (λ b. 128 ≤ b) bytes → length bytes ≤ 10 → Lenient w bytes []
  zero_header : {head : List ℕ} (rest : List ℕ) → Header head 0 → Lenient w (head ++ rest) []
  empty_run : {head rest vs : List ℕ} → Header head 1 → Lenient w rest vs → Lenient w (head ++ rest) vs
  repeated_run : {head rest vs : List ℕ} (n : ℕ) (value : List ℕ) → Header head (2 * n) → Count n → length value ≡ (w + 7) / 8
      → Lenient w rest vs → Lenient w (head ++ (value ++ rest)) (replicate n (number 256 value) ++ vs)
  packed_run : {head rest vs : List ℕ} (g : ℕ) (body values : List ℕ) → Header head (2 * g + 1) → Count (8 * g) → length body ≡ g * w
      → length values ≡ 8 * g → values ≡ cells_at (λ v. v) body 0 w (8 * g) → Lenient w rest vs → Lenient w (head ++ (body ++ rest)) (values ++ vs)
  cut_run : {head : List ℕ} (g : ℕ) (body : List ℕ) → Header head (2 * g + 1) → Count (8 * g) → length body < g * w
      → Lenient w (head ++ body) (cells_at (λ v. v) body 0 w (8 * length body / w))
