-- A written page stands in the public format's relation to its list.
use Rattle.std.proofs.Common.{◌≡◌, ℕ, zero, suc, ◌+◌, ◌*◌, ◌/◌, ◌%◌, ◌^◌, ◌<◌, ◌≤◌, List, [], ◌∷◌, ◌++◌, length, replicate, sym, ap, ◌∙◌, subst, ⊎_elim, zero-le, lt_of_lt_of_le, mod-lt, mod-eq_of_lt, mul_comm, mul-le-mul_left, mul_left_comm, arith, lit<, lit≤, T, leb, leb→le, length-append, pow_pos, pow_mono}
use lib.ListN.{length-replicate}
use Rattle.std.proofs.lemmas.Bool.{cases_lt}
use Rattle.std.specs.List.{flat_map, AllByRecursion}
use Rattle.std.proofs.lemmas.List.{append_assoc}
use Rattle.packed.specs.Digits.{digits, number}
use Rattle.column.specs.Putting.{Column}
use Rattle.packed.specs.Vlq.{vlq}
use Rattle.packed.proofs.Bytes.{power-bits}
use Rattle.packed.proofs.Digits.{length_digits, number_digits, number-below}
use Rattle.packed.proofs.VlqLaws.{length-vlq, vlq-ind, vlq-last, vlq-step}
use Rattle.rle.specs.Hybrid.{Uleb, last, more, Header, Bytes, Hybrid, none, repeated_run, packed_run}
use Rattle.rle.specs.Runs.{Run, repeated, packed, bytes_of, values_of, value_bytes, state, closing, page}
use Rattle.rle.proofs.Splitting.{RunOk, Below, values_in, state-sound, closing-sound, closing-values, state-few, state-held}

-- what is written of a number is its ULEB128
pub vlq-uleb : (n : ℕ) → Uleb (vlq n) n
vlq-uleb =
    vlq-ind (λ n. Uleb (vlq n) n)
    (λ n h. subst (λ bs. Uleb bs n) (sym (vlq-last n h)) (last h))
    (λ n h rest.
    let whole : n % 128 + 128 * (n / 128) ≡ n = omega arith in
    subst (λ bs. Uleb bs n) (sym (vlq-step n h)) (subst (Uleb ((128 + n % 128) ∷ vlq (n / 128))) whole (more (omega arith) rest)))

vlq-header : (n : ℕ) → n < 2 ^ 64 → Header (vlq n) n
vlq-header n h = record { value = vlq-uleb n; short = length-vlq 9 n (lt_of_lt_of_le h (lit≤ tt)) }

digits-bytes : (k n : ℕ) → Bytes (digits 256 k n)
unfolding digits
digits-bytes zero n = tt
digits-bytes (suc k) n = (mod-lt n (lit< tt), digits-bytes k (n / 256))

-- runs that the format allows stand for their values
pub runs-stand : (w m : ℕ) (rs : List Run) → m ≤ 2147483647 → AllByRecursion (RunOk w m) rs → Hybrid w (flat_map (bytes_of w) rs) (values_in rs)
runs-stand w m [] most ok = none
runs-stand w m (repeated n v ∷ rs) most ok =
    let head = vlq (2 * n) in
    let value = digits 256 (value_bytes w) v in
    let one = ok.0 in
    let small : v < 2 ^ (8 * value_bytes w) = lt_of_lt_of_le one.2 (pow_mono {i = w} {j = 8 * value_bytes w} (omega arith)) in
    let is : number 256 value ≡ v = number_digits 256 (lit< tt) (value_bytes w) v ∙ ap (λ x. v % x) (power-bits 8 (value_bytes w)) ∙ mod-eq_of_lt small in
    let rest = runs-stand w m rs most ok.1 in
    subst (λ bs. Hybrid w bs (replicate n v ++ values_in rs)) (sym (append_assoc head value (flat_map (bytes_of w) rs)))
    (subst (λ x. Hybrid w (head ++ (value ++ flat_map (bytes_of w) rs)) (replicate n x ++ values_in rs)) is
    (repeated_run n value (vlq-header (2 * n) (omega arith)) (one.0, omega arith) (length_digits 256 (value_bytes w) v) (digits-bytes (value_bytes w) v)
    (subst (λ x. x < 2 ^ w) (sym is) one.2) rest))
runs-stand w m (packed vs ∷ rs) most ok =
    let g = length vs / 8 in
    let one = ok.0 in
    let eight : 8 * g ≡ length vs = omega (arith, one.2) in
    let head = vlq (2 * g + 1) in
    let body = digits 256 (g * w) (number (2 ^ w) vs) in
    let bits : w * length vs ≡ 8 * (g * w) = ap (λ x. w * x) (sym eight) ∙ mul_left_comm w 8 g ∙ ap (λ x. 8 * x) (mul_comm w g) in
    let small : number (2 ^ w) vs < 2 ^ (8 * (g * w)) =
    subst (λ x. number (2 ^ w) vs < x) (power-bits w (length vs) ∙ ap (λ x. 2 ^ x) bits) (number-below (2 ^ w) (pow_pos w) vs) in
    let is : number 256 body ≡ number (2 ^ w) vs =
    number_digits 256 (lit< tt) (g * w) (number (2 ^ w) vs) ∙ ap (λ x. number (2 ^ w) vs % x) (power-bits 8 (g * w)) ∙ mod-eq_of_lt small in
    subst (λ bs. Hybrid w bs (vs ++ values_in rs)) (sym (append_assoc head body (flat_map (bytes_of w) rs)))
    (packed_run g body vs (vlq-header (2 * g + 1) (omega (arith, one.1))) (omega (arith, one.0), omega (arith, one.1)) (length_digits 256 (g * w) (number (2 ^ w) vs))
    (digits-bytes (g * w) (number (2 ^ w) vs)) (sym eight) one.3 is (runs-stand w m rs most ok.1))

-- a written page stands for its list, with at most seven zeros behind it
pub page-stands : (w : ℕ) (l : List ℕ) → Below w l → length l ≤ 2147483647 → (k : ℕ) × (k ≤ 7) × Hybrid w (page w l) (l ++ replicate k 0)
unfolding page
page-stands w l below most =
    let sound = state-sound w l below in
    let values = closing-values (state l) (state-few l) in (
      values.0,
      values.1,
      subst (Hybrid w (flat_map (bytes_of w) (closing (state l)))) (values.2 ∙ ap (λ x. x ++ replicate values.0 0) (state-held l))
          (runs-stand w (length l) (closing (state l)) most (closing-sound w (length l) (state l) sound)),
    )

-- ---- how long a page is

-- a run takes at most nine bytes for each of its values
run_short : (w m : ℕ) (run : Run) → w ≤ 64 → m ≤ 2147483647 → RunOk w m run → length (bytes_of w run) ≤ 9 * length (values_of run)
run_short w m (repeated n v) wide most ok =
    let size : length (vlq (2 * n) ++ digits 256 (value_bytes w) v) ≡ length (vlq (2 * n)) + value_bytes w = length-append (vlq (2 * n)) (digits 256 (value_bytes w) v) ∙ ap (λ k. length (vlq (2 * n)) + k) (length_digits 256 (value_bytes w) v) in
    let many : length (replicate n v) ≡ n = length-replicate n v in
    ⊎_elim
    (λ few. omega (arith, length-vlq 0 (2 * n) (omega arith), ok.0))
    (λ more. omega (arith, length-vlq 9 (2 * n) (lt_of_lt_of_le {m = 2 ^ 64} (omega (arith, ok.1)) (lit≤ tt))))
    (cases_lt n 64)
run_short w m (packed vs) wide most ok =
    let g = length vs / 8 in
    let size : length (vlq (2 * g + 1) ++ digits 256 (g * w) (number (2 ^ w) vs)) ≡ length (vlq (2 * g + 1)) + g * w = length-append (vlq (2 * g + 1)) (digits 256 (g * w) (number (2 ^ w) vs)) ∙ ap (λ k. length (vlq (2 * g + 1)) + k) (length_digits 256 (g * w) (number (2 ^ w) vs)) in
    let body : g * w ≤ g * 64 = mul-le-mul_left g wide in
    omega (arith, length-vlq 0 (2 * g + 1) (omega (arith, ok.1)), ok.0, ok.2)

runs-short : (w m : ℕ) (rs : List Run) → w ≤ 64 → m ≤ 2147483647 → AllByRecursion (RunOk w m) rs → length (flat_map (bytes_of w) rs) ≤ 9 * length (values_in rs)
runs-short w m [] wide most ok = zero-le
runs-short w m (r ∷ rs) wide most ok =
    let one = run_short w m r wide most ok.0 in
    let rest = runs-short w m rs wide most ok.1 in
    let a : length (bytes_of w r ++ flat_map (bytes_of w) rs) ≡ length (bytes_of w r) + length (flat_map (bytes_of w) rs) = length-append (bytes_of w r) (flat_map (bytes_of w) rs) in
    let b : length (values_of r ++ values_in rs) ≡ length (values_of r) + length (values_in rs) = length-append (values_of r) (values_in rs) in
    omega arith

-- the page of n values takes at most 9 n + 63 bytes
pub page-short : (w : ℕ) (l : List ℕ) → w ≤ 64 → Below w l → length l ≤ 2147483647 → length (page w l) ≤ 63 + 9 * length l
unfolding page
page-short w l wide below most =
    let rs = closing (state l) in
    let values = closing-values (state l) (state-few l) in
    let size : length (values_in rs) ≡ length l + values.0 =
    ap length (values.2 ∙ ap (λ x. x ++ replicate values.0 0) (state-held l)) ∙ length-append l (replicate values.0 0) ∙ ap (λ k. length l + k) (length-replicate values.0 0) in
    omega (arith, runs-short w (length l) rs wide most (closing-sound w (length l) (state l) (state-sound w l below)), values.1)

-- the same as a coding says it
pub need-bounded : (w : ℕ) (l : List ℕ) → T (leb w 64) → Column w l → length (page w l) ≤ 2080 + 9 * length l
need-bounded w l allowed column = omega (arith, page-short w l (leb→le w 64 allowed) column.below column.count)
