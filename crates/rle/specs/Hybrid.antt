-- What the public format says of a page of the RLE/bit-packed hybrid: which bytes stand for which values. Nothing of a
-- program is in it.
use Rattle.std.specs.Prelude.{◌≡◌, ℕ, ◌+◌, ◌*◌, ◌/◌, ◌^◌, ◌<◌, ◌≤◌, List, [], ◌∷◌, ◌++◌, length, replicate}
use Rattle.packed.specs.Digits.{number}
use Rattle.std.specs.List.{AllByRecursion}

-- ULEB128: seven bits to a byte, the lowest first; bit 7 is set on every byte but the last.
pub data Uleb : List ℕ → ℕ → Type 0 where
  last : {d : ℕ} → d < 128 → Uleb (d ∷ []) d
  more : {d n : ℕ} {bs : List ℕ} → d < 128 → Uleb bs n → Uleb ((128 + d) ∷ bs) (d + 128 * n)

-- A header is a number of at most 64 bits, so it takes at most ten bytes.
pub record Header (bytes : List ℕ) (n : ℕ) : Type 0 where
  pub value : Uleb bytes n
  pub short : length bytes ≤ 10

-- Runs of at least one value and at most 2^31 - 1.
abbrev pub Count : ℕ → Type 0
Count n = (0 < n) × (n ≤ 2147483647)

abbrev pub Bytes : List ℕ → Type 0
Bytes bs = AllByRecursion (λ b. b < 256) bs

-- A page is a sequence of runs. An even header 2 n: the value that follows in as many whole bytes as w bits take, the lowest
-- first, is repeated n times. An odd header 2 g + 1: g groups of eight values follow, packed at w bits each from the lowest
-- bit of each byte to its highest.
pub data Hybrid (w : ℕ) : List ℕ → List ℕ → Type 0 where
  none : Hybrid w [] []
  repeated_run : {head rest vs : List ℕ} (n : ℕ) (value : List ℕ) → Header head (2 * n) → Count n
      → length value ≡ (w + 7) / 8 → Bytes value → number 256 value < 2 ^ w
      → Hybrid w rest vs → Hybrid w (head ++ (value ++ rest)) (replicate n (number 256 value) ++ vs)
  packed_run : {head rest vs : List ℕ} (g : ℕ) (body values : List ℕ) → Header head (2 * g + 1) → Count (8 * g)
      → length body ≡ g * w → Bytes body → length values ≡ 8 * g → AllByRecursion (λ v. v < 2 ^ w) values → number 256 body ≡ number (2 ^ w) values
      → Hybrid w rest vs → Hybrid w (head ++ (body ++ rest)) (values ++ vs)
