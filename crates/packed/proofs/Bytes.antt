-- The laws of bits in bytes: where a field lies, how fields are cut and joined.
use Rattle.std.proofs.Common.{suc-le-suc, ◌≡◌, ℕ, zero, suc, ◌+◌, ◌-◌, ◌*◌, ◌/◌, ◌%◌, ◌^◌, ◌<◌, ◌≤◌, List, [], ◌∷◌, ◌++◌, length, get_or, take, drop, set, replicate, sym, refl, ap, ◌∙◌, subst, ap₂, zero-le, lt_of_lt_of_le, le_of_suc-le-suc, not-suc-le-zero, add-zero, add_assoc, mul-le-mul_right, mod-lt, mod-eq_of_lt, mul_assoc, suc-mul, mul_comm, add_comm, suc-add, pow-suc, mul-zero, zero-add, zero-mul, mul-suc, div-one, mul-div_cancel, add-one, arith, lit<, lit≤, length-drop, pow_pos, pow_mono, pow-add, shr-shr}
use lib.Pow.{field, mod-mod-pow, mod-pow-add}
use native.Mathlib.Nat.{pow-zero, mod-mod, div-eq_of_lt, pow-le-pow_right, mul-mod_left, add-mul-mod_self_left}
use Rattle.std.proofs.lemmas.List.{take_more_set, take_rest, drop_more}
use Rattle.std.specs.Int.{from_le_bytes, w64}
use Rattle.packed.specs.Digits.{number, digits}
use Rattle.packed.specs.Bytes.{bits_at, cells_at, overwrite}
use Rattle.packed.proofs.Overwrite.{drop-overwrite}
use Rattle.packed.proofs.Digits.{number-take, number-mod, number-drop, number-below, number_append, number-digit, number_digits, length_digits}

-- k digits of j bits each are j k bits
pub power-bits : (j k : ℕ) → (2 ^ j) ^ k ≡ 2 ^ (j * k)
power-bits j zero = pow-zero (2 ^ j) ∙ ap (λ x. 2 ^ x) (sym (mul-zero j))
power-bits j (suc k) = pow-suc (2 ^ j) k ∙ ap (λ x. x * 2 ^ j) (power-bits j k) ∙ sym (ap (λ x. 2 ^ x) (mul-suc j k) ∙ pow-add 2 (j * k) j)

pub bits_at-below : (s : List ℕ) (p w : ℕ) → bits_at s p w < 2 ^ w
unfolding bits_at
bits_at-below s p w = mod-lt (number 256 s / 2 ^ p) (pow_pos w)

-- bits of a number that lie inside its lowest m
pub bits_inside : (n p w m : ℕ) → p + w ≤ m → n % 2 ^ m / 2 ^ p % 2 ^ w ≡ n / 2 ^ p % 2 ^ w
bits_inside n p w m h =
    let d = m - p - w in
    let e : m ≡ (d + w) + p = omega arith in
    ap (λ x. n % 2 ^ x / 2 ^ p % 2 ^ w) e ∙ ap (λ x. x % 2 ^ w) (field n (d + w) p) ∙ mod-mod-pow (n / 2 ^ p) d w

-- a field inside a field
pub bits_at-part : (s : List ℕ) (p m c w : ℕ) → c + w ≤ m → bits_at s p m / 2 ^ c % 2 ^ w ≡ bits_at s (p + c) w
unfolding bits_at
bits_at-part s p m c w h = bits_inside (number 256 s / 2 ^ p) c w m h ∙ ap (λ x. x % 2 ^ w) (shr-shr (number 256 s) p c)

-- two fields side by side
pub bits_at-join : (s : List ℕ) (p j k : ℕ) → bits_at s p (j + k) ≡ bits_at s (p + j) k * 2 ^ j + bits_at s p j
unfolding bits_at
bits_at-join s p j k =
    let n = number 256 s / 2 ^ p in
    ap (λ x. n % 2 ^ x) (add_comm j k)
    ∙ mod-pow-add n k j
    ∙ ap (λ x. x % 2 ^ k * 2 ^ j + n % 2 ^ j) (shr-shr (number 256 s) p j)

pub bits_at-drop : (s : List ℕ) (j p w : ℕ) → bits_at (drop j s) p w ≡ bits_at s (8 * j + p) w
unfolding bits_at
bits_at-drop s j p w =
    ap (λ x. x / 2 ^ p % 2 ^ w) (number-drop 256 (lit< tt) j s ∙ ap (λ x. number 256 s / x) (power-bits 8 j))
    ∙ ap (λ x. x % 2 ^ w) (shr-shr (number 256 s) (8 * j) p)

-- the first bits of the bytes from j on
pub bits_at-rest : (s : List ℕ) (j w : ℕ) → bits_at (take (length s - j) (drop j s)) 0 w ≡ bits_at s (8 * j) w
bits_at-rest s j w =
    ap (λ l. bits_at l 0 w) (take_rest s j) ∙ bits_at-drop s j 0 w ∙ ap (λ p. bits_at s p w) (add-zero (8 * j))

-- past the last byte
pub bits_at-past : (s : List ℕ) (p w : ℕ) → 8 * length s ≤ p → bits_at s p w ≡ 0
unfolding bits_at
bits_at-past s p w h =
    let small : number 256 s < 2 ^ p = lt_of_lt_of_le (subst (λ x. number 256 s < x) (power-bits 8 (length s)) (number-below 256 (lit< tt) s)) (pow_mono h) in
    rw (div-eq_of_lt small) (mod-eq_of_lt (pow_pos w))

-- a byte where it lies
pub bits_at-byte : (s : List ℕ) (i : ℕ) → get_or s i 0 < 256 → bits_at s (8 * i) 8 ≡ get_or s i 0
unfolding bits_at
bits_at-byte [] i h = bits_at-past [] (8 * i) 8 (zero-le)
bits_at-byte (d ∷ ds) zero h = ap (λ x. x % 256) (div-one (number 256 (d ∷ ds))) ∙ number-mod 256 (lit< tt) d ds ∙ mod-eq_of_lt h
bits_at-byte (d ∷ ds) (suc i) h =
    let e : 8 * 1 + 8 * i ≡ 8 * suc i = omega arith in
    sym (bits_at-drop (d ∷ ds) 1 (8 * i) 8 ∙ ap (λ x. bits_at (d ∷ ds) x 8) e) ∙ bits_at-byte ds i h

-- the lowest bits of a field, and those above them
pub bits_at-narrow : (s : List ℕ) (p m w : ℕ) → w ≤ m → bits_at s p m % 2 ^ w ≡ bits_at s p w
bits_at-narrow s p m w h =
    sym (ap (λ x. x % 2 ^ w) (div-one (bits_at s p m)))
    ∙ bits_at-part s p m 0 w (omega arith)
    ∙ ap (λ x. bits_at s x w) (add-zero p)

pub bits_at-high : (s : List ℕ) (p q c : ℕ) → bits_at s p (q + c) / 2 ^ c ≡ bits_at s (p + c) q
unfolding bits_at
bits_at-high s p q c = field (number 256 s / 2 ^ p) q c ∙ ap (λ x. x % 2 ^ q) (shr-shr (number 256 s) p c)

-- bits of the first k bytes
pub bits_at-take : (s : List ℕ) (k p w : ℕ) → p + w ≤ 8 * k → bits_at (take k s) p w ≡ bits_at s p w
unfolding bits_at
bits_at-take s k p w room =
    ap (λ n. n / 2 ^ p % 2 ^ w) (number-take 256 (lit< tt) k s ∙ ap (λ x. number 256 s % x) (power-bits 8 k))
    ∙ bits_inside (number 256 s) p w (8 * k) room

number-zeros : (n : ℕ) → number 256 (replicate n 0) ≡ 0
unfolding number
number-zeros zero = refl
number-zeros (suc n) = rw (number-zeros n)

-- zeros behind the last byte
pub bits_at-zeros : (s : List ℕ) (n p w : ℕ) → bits_at (s ++ replicate n 0) p w ≡ bits_at s p w
unfolding bits_at
bits_at-zeros s n p w =
    ap (λ x. x / 2 ^ p % 2 ^ w)
    (number_append 256 (lit< tt) s (replicate n 0) ∙ rw (number-zeros n, mul-zero, add-zero))

-- the first k bytes are bytes, and so are zeros behind them
pub take_fits : (s : List ℕ) (k : ℕ) → ((i : ℕ) → get_or s i 0 < 256) → (i : ℕ) → get_or (take k s) i 0 < 256
take_fits s zero fits i = lit< tt
take_fits [] (suc k) fits i = lit< tt
take_fits (b ∷ bs) (suc k) fits zero = fits 0
take_fits (b ∷ bs) (suc k) fits (suc i) = take_fits bs k (λ j. fits (suc j)) i

pub zeros_fit : (s : List ℕ) (n : ℕ) → ((i : ℕ) → get_or s i 0 < 256) → (i : ℕ) → get_or (s ++ replicate n 0) i 0 < 256
zeros_fit [] zero fits i = lit< tt
zeros_fit [] (suc n) fits zero = lit< tt
zeros_fit [] (suc n) fits (suc i) = zeros_fit [] n fits i
zeros_fit (b ∷ bs) n fits zero = fits 0
zeros_fit (b ∷ bs) n fits (suc i) = zeros_fit bs n (λ j. fits (suc j)) i

-- ---- words

-- the bytes from i on, of which there are at most k
pub rest_below : (s : List ℕ) (i k : ℕ) → length s ≤ i + k → number 256 (drop i s) < 2 ^ (8 * k)
rest_below s i k h =
    lt_of_lt_of_le (number-below 256 (lit< tt) (drop i s))
    (subst (λ x. 256 ^ length (drop i s) ≤ x) (power-bits 8 k) (pow-le-pow_right (lit< tt) (simp length-drop (omega arith))))

pub rest-is : (s : List ℕ) (i : ℕ) → length s < i + 8 → number 256 (drop i s) ≡ bits_at s (8 * i) 64
unfolding bits_at
rest-is s i h =
    let small : number 256 (drop i s) < 2 ^ 56 = rest_below s i 7 (omega arith) in
    let e : number 256 (drop i s) ≡ number 256 s / 2 ^ (8 * i) = number-drop 256 (lit< tt) i s ∙ ap (λ x. number 256 s / x) (power-bits 8 i) in
    sym (mod-eq_of_lt (lt_of_lt_of_le small (lit≤ tt))) ∙ ap (λ x. x % 2 ^ 64) e

-- one byte more in front
pub rest_more : (s : List ℕ) (i : ℕ) → i < length s → get_or s i 0 < 256 → number 256 (drop i s) ≡ number 256 (drop (i + 1) s) * 256 + get_or s i 0
unfolding number
rest_more s i room fits =
    ap (number 256) (drop_more s i 0 room)
    ∙ ap₂ ◌+◌ (mod-eq_of_lt fits) (mul_comm 256 (number 256 (drop (i + 1) s)))
    ∙ add_comm (get_or s i 0) (number 256 (drop (i + 1) s) * 256)

byte_more : (s : List ℕ) (i j k : ℕ) → i + 1 ≡ j → get_or s i 0 < 256 → bits_at s (8 * i) (8 + k) ≡ bits_at s (8 * j) k * 256 + get_or s i 0
byte_more s i j k e fits =
    let next : 8 * i + 8 ≡ 8 * j = omega arith in
    bits_at-join s (8 * i) 8 k ∙ ap₂ (λ x y. bits_at s x k * 256 + y) next (bits_at-byte s i fits)

-- a word by its eight bytes
pub word_bytes : (s : List ℕ) → ((k : ℕ) → get_or s k 0 < 256) → from_le_bytes w64 s ≡ bits_at s 0 64
word_bytes s fits =
    let e0 = byte_more s 0 1 56 refl (fits 0) in
    let e1 = byte_more s 1 2 48 refl (fits 1) in
    let e2 = byte_more s 2 3 40 refl (fits 2) in
    let e3 = byte_more s 3 4 32 refl (fits 3) in
    let e4 = byte_more s 4 5 24 refl (fits 4) in
    let e5 = byte_more s 5 6 16 refl (fits 5) in
    let e6 = byte_more s 6 7 8 refl (fits 6) in
    let e7 = bits_at-byte s 7 (fits 7) in
    omega arith

-- a shift keeps the bits that stay inside
pub shl-cut : (a j k : ℕ) → (a * 2 ^ k) % 2 ^ (j + k) ≡ a % 2 ^ j * 2 ^ k
shl-cut a j k =
    mod-pow-add (a * 2 ^ k) j k
    ∙ ap₂ (λ x y. x % 2 ^ j * 2 ^ k + y) (mul-div_cancel a (pow_pos k)) (mul-mod_left a (2 ^ k))
    ∙ add-zero (a % 2 ^ j * 2 ^ k)

-- a value that reaches into a ninth byte
module _ (s : List ℕ) (byte bit word : ℕ) (loaded : word ≡ bits_at s (8 * byte) 64) (inside : bit < 8) (fits : get_or s (byte + 8) 0 < 256) where
  pub ninth : word / 2 ^ bit + (get_or s (byte + 8) 0 * 2 ^ (64 - bit)) % 2 ^ 64 ≡ bits_at s (8 * byte + bit) 64
  ninth =
      let q = 64 - bit in
      let whole : q + bit ≡ 64 = omega arith in
      let high : get_or s (byte + 8) 0 % 2 ^ bit ≡ bits_at s (8 * byte + bit + q) bit =
      ap (λ x. x % 2 ^ bit) (sym (bits_at-byte s (byte + 8) fits))
      ∙ bits_at-narrow s (8 * (byte + 8)) 8 bit (omega arith)
      ∙ ap (λ x. bits_at s x bit) (omega arith) in
      let low : word / 2 ^ bit ≡ bits_at s (8 * byte + bit) q =
      ap (λ x. x / 2 ^ bit) loaded ∙ ap (λ x. bits_at s (8 * byte) x / 2 ^ bit) (sym whole) ∙ bits_at-high s (8 * byte) q bit in
      let cut : (get_or s (byte + 8) 0 * 2 ^ q) % 2 ^ 64 ≡ bits_at s (8 * byte + bit + q) bit * 2 ^ q =
      ap (λ x. (get_or s (byte + 8) 0 * 2 ^ q) % 2 ^ x) (sym whole ∙ add_comm q bit)
      ∙ shl-cut (get_or s (byte + 8) 0) bit q
      ∙ ap (λ x. x * 2 ^ q) high in
      ap₂ ◌+◌ low cut
      ∙ add_comm (bits_at s (8 * byte + bit) q) (bits_at s (8 * byte + bit + q) bit * 2 ^ q)
      ∙ sym (bits_at-join s (8 * byte + bit) q bit)
      ∙ ap (bits_at s (8 * byte + bit)) whole

-- the bits of a number that was written over bytes
pub bits_at-written : (s : List ℕ) (at k n p w : ℕ) → at ≤ length s → p + w ≤ 8 * k → bits_at (overwrite s at (digits 256 k n)) (8 * at + p) w ≡ n / 2 ^ p % 2 ^ w
unfolding bits_at
bits_at-written s at k n p w inside room =
    let o = overwrite s at (digits 256 k n) in
    let rest = drop (at + length (digits 256 k n)) s in
    let long : 256 ^ length (digits 256 k n) ≡ 2 ^ (8 * k) = ap (λ x. 256 ^ x) (length_digits 256 k n) ∙ power-bits 8 k in
    let is : number 256 (drop at o) ≡ n % 2 ^ (8 * k) + 2 ^ (8 * k) * number 256 rest =
    ap (number 256) (drop-overwrite s at (digits 256 k n) inside)
    ∙ number_append 256 (lit< tt) (digits 256 k n) rest
    ∙ ap₂ (λ x y. x + y * number 256 rest) (number_digits 256 (lit< tt) k n ∙ ap (λ x. n % x) (power-bits 8 k)) long in
    let low : number 256 (drop at o) % 2 ^ (8 * k) ≡ n % 2 ^ (8 * k) =
    ap (λ x. x % 2 ^ (8 * k)) is ∙ add-mul-mod_self_left (n % 2 ^ (8 * k)) (2 ^ (8 * k)) (number 256 rest) ∙ mod-mod n (2 ^ (8 * k)) in
    sym (bits_at-drop o at p w)
    ∙ sym (bits_inside (number 256 (drop at o)) p w (8 * k) room)
    ∙ ap (λ x. x / 2 ^ p % 2 ^ w) low
    ∙ bits_inside n p w (8 * k) room

-- values that were packed at one width are there
pub packed-back : (s vs : List ℕ) (at k w i : ℕ) → at ≤ length s → length vs * w ≤ 8 * k → i < length vs → get_or vs i 0 < 2 ^ w → bits_at (overwrite s at (digits 256 k (number (2 ^ w) vs))) (8 * at + i * w) w ≡ get_or vs i 0
packed-back s vs at k w i inside room here fits =
    let some : suc i * w ≤ length vs * w = mul-le-mul_right w here in
    bits_at-written s at k (number (2 ^ w) vs) (i * w) w inside (omega (arith, suc-mul i w))
    ∙ ap (λ x. number (2 ^ w) vs / x % 2 ^ w) (ap (λ x. 2 ^ x) (mul_comm i w) ∙ sym (power-bits w i))
    ∙ number-digit (2 ^ w) (pow_pos w) vs i here
    ∙ mod-eq_of_lt fits

-- ---- values one behind the other

module _ {A : Type 0} (f : ℕ → A) (s : List ℕ) where
  pub length-cells_at : (p w k : ℕ) → length (cells_at f s p w k) ≡ k
  unfolding cells_at
  length-cells_at p w zero = refl
  length-cells_at p w (suc k) = ap suc (length-cells_at (p + w) w k)

  pub get_or-cells_at : (p w k i : ℕ) (d : A) → i < k → get_or (cells_at f s p w k) i d ≡ f (bits_at s (p + i * w) w)
  unfolding cells_at
  get_or-cells_at p w zero i d h = absurd (not-suc-le-zero h)
  get_or-cells_at p w (suc k) zero d h = ap (λ x. f (bits_at s x w)) (sym (add-zero p) ∙ ap (λ x. p + x) (sym (zero-mul w)))
  get_or-cells_at p w (suc k) (suc i) d h =
      get_or-cells_at (p + w) w k i d (le_of_suc-le-suc h)
      ∙ ap (λ x. f (bits_at s x w)) (add_assoc p w (i * w) ∙ ap (λ x. p + x) (add_comm w (i * w) ∙ sym (suc-mul i w)))

  pub cells_at-append : (p w j k : ℕ) → cells_at f s p w (j + k) ≡ cells_at f s p w j ++ cells_at f s (p + j * w) w k
  unfolding cells_at
  cells_at-append p w zero k = rw (zero-add, zero-mul, add-zero)
  cells_at-append p w (suc j) k =
      rw (suc-add, suc-mul, add_comm (j * w) w, ← add_assoc) (ap (λ vs. f (bits_at s p w) ∷ vs) (cells_at-append (p + w) w j k))

  pub cells_at-push : (p w k : ℕ) → cells_at f s p w (k + 1) ≡ cells_at f s p w k ++ f (bits_at s (p + k * w) w) ∷ []
  unfolding cells_at
  cells_at-push p w k = cells_at-append p w k 1

  -- a turn of a loop that fills one cell after the other
  pub fill_more : (p w k v : ℕ) (now : List A) {x : A} → take k now ≡ cells_at f s p w k → x ≡ f v → v ≡ bits_at s (p + k * w) w → k < length now → take (k + 1) (set now k x) ≡ cells_at f s p w (k + 1)
  fill_more p w k v now {x} filled is value room =
      take_more_set now k x room
      ∙ ap₂ (λ l y. l ++ y ∷ []) filled (is ∙ ap f value)
      ∙ sym (cells_at-push p w k)

pub cells_at-drop : {A : Type 0} (f : ℕ → A) (s : List ℕ) (j p w k : ℕ) → cells_at f (drop j s) p w k ≡ cells_at f s (8 * j + p) w k
unfolding cells_at
cells_at-drop f s j p w zero = refl
cells_at-drop f s j p w (suc k) =
    ap₂ ◌∷◌ (ap f (bits_at-drop s j p w)) (cells_at-drop f s j (p + w) w k ∙ ap (λ x. cells_at f s x w k) (sym (add_assoc (8 * j) p w)))

-- the first cells of the bytes from j on
pub cells_at-rest : {A : Type 0} (f : ℕ → A) (s : List ℕ) (j w k : ℕ) → cells_at f (take (length s - j) (drop j s)) 0 w k ≡ cells_at f s (8 * j) w k
cells_at-rest f s j w k =
    ap (λ l. cells_at f l 0 w k) (take_rest s j)
    ∙ cells_at-drop f s j 0 w k
    ∙ ap (λ p. cells_at f s p w k) (add-zero (8 * j))

-- where no cell is asked for, any place will do
pub cells_from : {A : Type 0} (f : ℕ → A) (s : List ℕ) (p q w k : ℕ) → (0 < k → p ≡ q) → cells_at f s p w k ≡ cells_at f s q w k
unfolding cells_at
cells_from f s p q w zero same = refl
cells_from f s p q w (suc k) same = ap (λ x. cells_at f s x w (suc k)) (same (suc-le-suc zero-le))

-- a whole group of eight lies inside
pub group_inside : (n w len group : ℕ) → 8 * (group + 1) ≤ n → n * w ≤ 8 * len → group * w + w ≤ len
group_inside n w len group h room =
    let some : 8 * (group + 1) * w ≤ n * w = mul-le-mul_right w h in
    let same : 8 * (group + 1) * w ≡ 8 * (group * w + w) = mul_assoc 8 (group + 1) w ∙ ap (λ x. 8 * x) (ap (λ x. x * w) (add-one group) ∙ suc-mul group w) in
    omega arith
