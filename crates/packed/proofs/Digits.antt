-- The laws of digits: a number and its digits determine each other.
use Rattle.std.proofs.Common.{◌≡◌, ℕ, zero, suc, ◌+◌, ◌*◌, ◌/◌, ◌%◌, ◌^◌, ◌<◌, List, [], ◌∷◌, ◌++◌, length, get_or, take, drop, sym, refl, ap, ◌∙◌, ap₂, suc-le-suc, zero-le, le_of_suc-le-suc, not-suc-le-zero, add-zero, add_assoc, mod-lt, mod-eq_of_lt, mul_assoc, mul_comm, add_comm, suc-add, mul-pos, one-mul, pow-suc, mul-zero, zero-add, mul-add, div-one, arith}
use lib.Arith.{digits_div, digits_mod, digits_lt, mod-mul}
use native.Mathlib.Nat.{pow-zero, pow-succ', mod-one, mod-mod, div-div-eq-div-mul, div-eq_of_lt}
use Rattle.std.specs.List.{AllByRecursion}
use Rattle.std.proofs.lemmas.List.{drop_more, length-take-le, take_more}
use Rattle.packed.specs.Digits.{number, digits}

pub power_pos : (b k : ℕ) → 0 < b → 0 < b ^ k
power_pos b zero h = rw pow-zero (suc-le-suc zero-le)
power_pos b (suc k) h = rw pow-suc (mul-pos (power_pos b k h) h)

pub length_digits : (b k n : ℕ) → length (digits b k n) ≡ k
unfolding digits
length_digits b zero n = refl
length_digits b (suc k) n = ap suc (length_digits b k (n / b))

module _ (b : ℕ) (base : 0 < b) where
  -- one digit and the rest
  pub number-mod : (d : ℕ) (ds : List ℕ) → number b (d ∷ ds) % b ≡ d % b
  unfolding number
  number-mod d ds = rw (add_comm (d % b) (b * number b ds), mul_comm b (number b ds)) (digits_mod (number b ds) (mod-lt d base))

  pub number-div : (d : ℕ) (ds : List ℕ) → number b (d ∷ ds) / b ≡ number b ds
  unfolding number
  number-div d ds = rw (add_comm (d % b) (b * number b ds), mul_comm b (number b ds)) (digits_div (number b ds) (mod-lt d base))

  pub number-below : (ds : List ℕ) → number b ds < b ^ length ds
  unfolding number
  number-below [] = rw pow-zero (suc-le-suc zero-le)
  number-below (d ∷ ds) =
      rw (pow-suc, add_comm (d % b) (b * number b ds), mul_comm b (number b ds)) (digits_lt (number-below ds) (mod-lt d base))

  -- the lowest digit and those above it, of the k + 1 lowest digits
  low_digit : (n k : ℕ) → n % b ^ suc k ≡ n % b + b * (n / b % b ^ k)
  low_digit n k =
      rw pow-suc (mod-mul n (power_pos b k base) base ∙ add_comm _ _ ∙ ap (λ x. n % b + x) (mul_comm _ _))

  low-low : (n k : ℕ) → n % b ≡ n % b ^ suc k % b
  low-low n k =
      sym (rw (low_digit n k, add_comm (n % b) (b * (n / b % b ^ k)), mul_comm b (n / b % b ^ k)) (digits_mod (n / b % b ^ k) (mod-lt n base)))

  high-low : (n k : ℕ) → n / b % b ^ k ≡ n % b ^ suc k / b
  high-low n k =
      sym (rw (low_digit n k, add_comm (n % b) (b * (n / b % b ^ k)), mul_comm b (n / b % b ^ k)) (digits_div (n / b % b ^ k) (mod-lt n base)))

  pub number_digits : (k n : ℕ) → number b (digits b k n) ≡ n % b ^ k
  unfolding number digits
  number_digits zero n = rw pow-zero (sym (mod-one n))
  number_digits (suc k) n =
      rw (number_digits k (n / b), mod-mod) (sym (low_digit n k))

  pub number_append : (xs ys : List ℕ) → number b (xs ++ ys) ≡ number b xs + b ^ length xs * number b ys
  unfolding number
  number_append [] ys = rw (pow-zero, one-mul, zero-add)
  number_append (x ∷ xs) ys = rw (number_append xs ys, pow-succ', mul-add, mul_assoc, add_assoc)

  pub number-drop : (j : ℕ) (ds : List ℕ) → number b (drop j ds) ≡ number b ds / b ^ j
  unfolding number
  number-drop zero ds = rw pow-zero (sym (div-one _))
  number-drop (suc j) [] = sym (div-eq_of_lt (power_pos b (suc j) base))
  number-drop (suc j) (d ∷ ds) =
      number-drop j ds
      ∙ ap (λ x. x / b ^ j) (sym (number-div d ds))
      ∙ div-div-eq-div-mul (number b (d ∷ ds)) b (b ^ j)
      ∙ ap (λ x. number b (d ∷ ds) / x) (sym (pow-succ' b j))

  pub number-take : (k : ℕ) (ds : List ℕ) → number b (take k ds) ≡ number b ds % b ^ k
  unfolding number
  number-take zero ds = rw pow-zero (sym (mod-one _))
  number-take (suc k) [] = sym (mod-eq_of_lt (power_pos b (suc k) base))
  number-take (suc k) (d ∷ ds) =
      ap (λ x. d % b + b * x) (number-take k ds)
      ∙ ap₂ (λ x y. x + b * (y % b ^ k)) (sym (number-mod d ds)) (sym (number-div d ds))
      ∙ sym (low_digit (number b (d ∷ ds)) k)

  pub digits_append : (j k n : ℕ) → digits b (j + k) n ≡ digits b j n ++ digits b k (n / b ^ j)
  unfolding digits
  digits_append zero k n = rw (zero-add, pow-zero, div-one)
  digits_append (suc j) k n =
      rw (suc-add, pow-succ', ← div-div-eq-div-mul) (ap (λ ds. n % b ∷ ds) (digits_append j k (n / b)))

  -- only the k lowest digits of a number matter to its k lowest digits
  pub digits_same : (k m n : ℕ) → m % b ^ k ≡ n % b ^ k → digits b k m ≡ digits b k n
  unfolding digits
  digits_same zero m n e = refl
  digits_same (suc k) m n e =
      ap₂ ◌∷◌
      (low-low m k ∙ ap (λ x. x % b) e ∙ sym (low-low n k))
      (digits_same k (m / b) (n / b) (high-low m k ∙ ap (λ x. x / b) e ∙ sym (high-low n k)))

  -- a digit of a number, where it stands
  pub get_or-digits : (k n i : ℕ) → i < k → get_or (digits b k n) i 0 ≡ n / b ^ i % b
  unfolding digits
  get_or-digits zero n i h = absurd (not-suc-le-zero h)
  get_or-digits (suc k) n zero h = rw (pow-zero, div-one)
  get_or-digits (suc k) n (suc i) h = get_or-digits k (n / b) i (le_of_suc-le-suc h) ∙ rw (pow-succ', ← div-div-eq-div-mul)

  -- digits below the base are the digits of their number
  pub digits_number : (ds : List ℕ) → AllByRecursion (λ d. d < b) ds → digits b (length ds) (number b ds) ≡ ds
  unfolding digits
  digits_number [] h = refl
  digits_number (d ∷ ds) h =
      ap₂ ◌∷◌ (number-mod d ds ∙ mod-eq_of_lt h.0) (rw (number-div d ds) (digits_number ds h.1))

  -- one digit more of a number that is read from its lowest digit on
  pub number_push : (ds : List ℕ) (i : ℕ) → i < length ds → number b (take (i + 1) ds) ≡ number b (take i ds) + get_or ds i 0 % b * b ^ i
  unfolding number
  number_push ds i room =
      ap (number b) (take_more ds i 0 room)
      ∙ number_append (take i ds) (get_or ds i 0 ∷ [])
      ∙ ap₂ (λ k x. number b (take i ds) + b ^ k * x) (length-take-le i ds (omega arith)) (rw (mul-zero, add-zero))
      ∙ ap (λ x. number b (take i ds) + x) (mul_comm (b ^ i) (get_or ds i 0 % b))

  -- a digit where it stands
  pub number-digit : (ds : List ℕ) (i : ℕ) → i < length ds → number b ds / b ^ i % b ≡ get_or ds i 0 % b
  number-digit ds i room =
      ap (λ x. x % b) (sym (number-drop i ds) ∙ ap (number b) (drop_more ds i 0 room))
      ∙ number-mod (get_or ds i 0) (drop (i + 1) ds)
