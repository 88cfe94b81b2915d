-- What stands in the public format's relation is read as its values, and then the end.
use Rattle.std.proofs.Common.{◌≡◌, ℕ, suc, ◌+◌, ◌-◌, ◌*◌, ◌/◌, ◌%◌, ◌^◌, ◌<◌, ◌≤◌, min, eqb, ltb, leb, List, [], ◌++◌, length, drop, replicate, Ok, sym, refl, ap, ◌∙◌, subst, ap₂, suc-le-suc, zero-le, add-zero, mul-le-mul_right, mod-eq_of_lt, mul_assoc, suc-mul, mul_comm, mul-zero, div-one, arith, lit<, pow_pos}
use native.Mathlib.Nat.{add-mul-mod_self_left}
use Rattle.std.specs.List.{AllByRecursion}
use Rattle.std.proofs.ByRecursion.{All-get_or}
use Rattle.std.proofs.lemmas.List.{append_assoc, length-append, drop_at, same_lists, get_or_default}
use Rattle.std.proofs.lemmas.Bool.{lt-ltb, le-ltb, cond-true, cond-false, eq-eqb, ne_eqb, le-leb}
use Rattle.packed.specs.Bytes.{bits_at, cells_at}
use Rattle.packed.specs.Digits.{number}
use Rattle.packed.specs.Vlq.{continuing, read_vlq}
use Rattle.packed.proofs.Bytes.{power-bits, bits_inside, bits_at-drop, length-cells_at, get_or-cells_at}
use Rattle.packed.proofs.Digits.{number_append, number-below, number-digit}
use Rattle.packed.proofs.VlqLaws.{read-field, read-cut}
use Rattle.bit_reader.specs.Reader.{readable}
use Rattle.bit_reader.proofs.Reading.{all_fit, counted}
use Rattle.rle.specs.Runs.{value_bytes}
use Rattle.rle.specs.Hybrid.{Uleb, last, more, Header, Count, Hybrid, none, repeated_run, packed_run}
use Rattle.rle.specs.Reading.{ended, repeats, packs, run_at, headed, repeated_at, packed_at, follow, values_from, waiting_at, opens, reads}
use Rattle.column.specs.Pages.{end, before, Waiting, opened}

-- ---- headers

uleb-number : {bs : List ℕ} {n : ℕ} → Uleb bs n → number 128 bs ≡ n
unfolding number
uleb-number (last h) = rw (mul-zero, add-zero) (mod-eq_of_lt h)
uleb-number (more {d} {n} h u) = rw (uleb-number u) (omega arith)

uleb-ends : {bs : List ℕ} {n : ℕ} (rest : List ℕ) → Uleb bs n → suc (continuing (bs ++ rest)) ≡ length bs
unfolding continuing
uleb-ends rest (last {d} h) = ap suc (cond-true (ltb d 128) 0 (suc (continuing rest)) (lt-ltb d 128 h))
uleb-ends rest (more {d} {n} {bs} h u) =
    ap suc (cond-false (ltb (128 + d) 128) 0 (suc (continuing (bs ++ rest))) (le-ltb (128 + d) 128 (omega arith)) ∙ uleb-ends rest u)

header-reads : (front rest : List ℕ) {head : List ℕ} {n : ℕ} → Header head n → n < 2 ^ 64 → read_vlq (front ++ (head ++ rest)) (length front) ≡ Ok (n, length head)
header-reads front rest {head} {n} h small = read-field front head rest n (uleb-number h.value) (uleb-ends rest h.value) h.short small

header-some : {head : List ℕ} {n : ℕ} → Uleb head n → 0 < length head
header-some (last h) = lit< tt
header-some (more h u) = suc-le-suc zero-le

-- ---- bytes where they stand

-- the bits of the bytes behind a front
bits-behind : (front bytes rest : List ℕ) (p w : ℕ) → p + w ≤ 8 * length bytes → bits_at (front ++ (bytes ++ rest)) (8 * length front + p) w ≡ number 256 bytes / 2 ^ p % 2 ^ w
unfolding bits_at
bits-behind front bytes rest p w room =
    let k = length bytes in
    let n = number 256 (bytes ++ rest) in
    let low : n % 2 ^ (8 * k) ≡ number 256 bytes =
    ap₂ (λ x y. x % y) (number_append 256 (lit< tt) bytes rest) (sym (power-bits 8 k))
    ∙ add-mul-mod_self_left (number 256 bytes) (256 ^ k) (number 256 rest)
    ∙ mod-eq_of_lt (number-below 256 (lit< tt) bytes) in
    sym (bits_at-drop (front ++ (bytes ++ rest)) (length front) p w)
    ∙ ap (λ s. number 256 s / 2 ^ p % 2 ^ w) (drop_at front (bytes ++ rest) (length front) refl)
    ∙ sym (bits_inside n p w (8 * k) room)
    ∙ ap (λ x. x / 2 ^ p % 2 ^ w) low

number_behind : (front bytes rest : List ℕ) → bits_at (front ++ (bytes ++ rest)) (8 * length front) (8 * length bytes) ≡ number 256 bytes
number_behind front bytes rest =
    let k = length bytes in
    let small : number 256 bytes < 2 ^ (8 * k) = subst (λ x. number 256 bytes < x) (power-bits 8 k) (number-below 256 (lit< tt) bytes) in
    ap (λ p. bits_at (front ++ (bytes ++ rest)) p (8 * k)) (sym (add-zero (8 * length front)))
    ∙ bits-behind front bytes rest 0 (8 * k) (omega arith)
    ∙ ap (λ x. x % 2 ^ (8 * k)) (div-one (number 256 bytes))
    ∙ mod-eq_of_lt small

-- packed values behind a front
cells-behind : (front body rest values : List ℕ) (w : ℕ) → number 256 body ≡ number (2 ^ w) values → length values * w ≤ 8 * length body → AllByRecursion (λ v. v < 2 ^ w) values → cells_at (λ v. v) (front ++ (body ++ rest)) (8 * length front) w (length values) ≡ values
cells-behind front body rest values w same room below =
    let s = front ++ (body ++ rest) in
    let m = length values in
    same_lists (cells_at (λ v. v) s (8 * length front) w m) values (length-cells_at (λ v. v) s (8 * length front) w m)
    (λ i d h'.
    let h : i < m = subst (λ x. i < x) (length-cells_at (λ v. v) s (8 * length front) w m) h' in
    let some : suc i * w ≤ m * w = mul-le-mul_right w h in
    get_or-cells_at (λ v. v) s (8 * length front) w m i d h
    ∙ bits-behind front body rest (i * w) w (omega (arith, suc-mul i w))
    ∙ ap₂ (λ x y. x / y % 2 ^ w) same (ap (λ x. 2 ^ x) (mul_comm i w) ∙ sym (power-bits w i))
    ∙ number-digit (2 ^ w) (pow_pos w) values i h
    ∙ mod-eq_of_lt (All-get_or (λ v. v < 2 ^ w) values i 0 h below)
    ∙ get_or_default values i 0 d h)

-- ---- runs

-- the end of the data
end-stands : (w : ℕ) (front : List ℕ) → run_at w (front ++ []) (length front) ≡ ended
unfolding headed continuing
end-stands w front =
    let s = front ++ [] in
    let d : drop (length front) s ≡ [] = drop_at front [] (length front) refl in
    let k : continuing (drop (length front) s) ≡ 0 = ap continuing d in
    let long : length s ≡ length front = length-append front [] ∙ add-zero (length front) in
    ap (headed w s (length front)) (read-cut s (length front) (omega arith) (omega arith))

module _ (w : ℕ) (front head rest : List ℕ) where
  -- where the bytes behind a header begin
  start_is : length front + length head ≡ length (front ++ head)
  start_is = sym (length-append front head)

  behind-header : (bytes : List ℕ) → front ++ (head ++ (bytes ++ rest)) ≡ (front ++ head) ++ (bytes ++ rest)
  behind-header bytes = sym (append_assoc front head (bytes ++ rest))

  long-page : (bytes : List ℕ) → length (front ++ (head ++ (bytes ++ rest))) ≡ length front + length head + length bytes + length rest
  long-page bytes = simp length-append (omega arith)

  repeated-stands : (n : ℕ) (value : List ℕ) → Header head (2 * n) → Count n → length value ≡ value_bytes w
      → run_at w (front ++ (head ++ (value ++ rest))) (length front) ≡ repeats n (number 256 value) (length (front ++ (head ++ value)))
  unfolding headed repeated_at
  repeated-stands n value h count long =
      let s = front ++ (head ++ (value ++ rest)) in
      let at = length front in
      let start = at + length head in
      let half : 2 * n / 2 ≡ n = omega arith in
      let page = long-page value in
      let is : bits_at s (8 * start) (8 * value_bytes w) ≡ number 256 value =
      ap₂ (λ x y. bits_at x (8 * y) (8 * value_bytes w)) (behind-header value) start_is
      ∙ ap (λ k. bits_at ((front ++ head) ++ (value ++ rest)) (8 * length (front ++ head)) (8 * k)) (sym long)
      ∙ number_behind (front ++ head) value rest in
      let next : start + value_bytes w ≡ length (front ++ (head ++ value)) = simp length-append (omega arith) in
      ap (headed w s at) (header-reads front (value ++ rest) h (omega (arith, count.1)))
      ∙ cond-false (eqb (2 * n) 0) _ _ (ne_eqb (2 * n) 0 (λ e. omega (arith, count.0)))
      ∙ cond-true (eqb (2 * n % 2) 0) _ _ (eq-eqb (2 * n % 2) 0 (omega arith))
      ∙ ap (repeated_at w s at start) half
      ∙ cond-false (ltb 2147483647 n) _ _ (le-ltb 2147483647 n count.1)
      ∙ cond-true (leb (start + value_bytes w) (length s)) _ _ (le-leb (start + value_bytes w) (length s) (omega arith))
      ∙ ap₂ (repeats n) is next

  packed-stands : (g : ℕ) (body : List ℕ) → Header head (2 * g + 1) → Count (8 * g) → length body ≡ g * w
      → run_at w (front ++ (head ++ (body ++ rest))) (length front) ≡ packs (8 * g) (length (front ++ head)) (length (front ++ (head ++ body)))
  unfolding headed packed_at
  packed-stands g body h count long =
      let s = front ++ (head ++ (body ++ rest)) in
      let at = length front in
      let start = at + length head in
      let half : (2 * g + 1) / 2 ≡ g = omega arith in
      let page = long-page body in
      let bits : 8 * g * w ≡ 8 * (g * w) = mul_assoc 8 g w in
      let all : 8 * g ≡ readable s (8 * start) w (8 * g) =
      (counted s (8 * start) w (8 * g) (8 * g) (8 * length s - 8 * start) (omega arith) refl (all_fit (8 * length s - 8 * start) w (8 * g) (omega arith))).count in
      let next : min (start + g * w) (length s) ≡ length (front ++ (head ++ body)) = simp length-append (omega arith) in
      ap (headed w s at) (header-reads front (body ++ rest) h (omega (arith, count.1)))
      ∙ cond-false (eqb (2 * g + 1) 0) _ _ (ne_eqb (2 * g + 1) 0 (λ e. omega arith))
      ∙ cond-false (eqb ((2 * g + 1) % 2) 0) _ _ (ne_eqb ((2 * g + 1) % 2) 0 (λ e. omega arith))
      ∙ ap (packed_at w s at start) half
      ∙ cond-false (ltb 2147483647 (8 * g)) _ _ (le-ltb 2147483647 (8 * g) count.1)
      ∙ ap₂ (λ x y. packs x start y) (sym all) next
      ∙ ap (λ x. packs (8 * g) x (length (front ++ (head ++ body)))) start_is

-- whatever stands in the relation is read as its values, and then the end
pub hybrid-reads : (w : ℕ) {bytes vs : List ℕ} → Hybrid w bytes vs → (front : List ℕ) (extra : ℕ) → values_from (suc (length bytes + extra)) w (front ++ bytes) (length front) ≡ record { values = vs; ending = end }
unfolding values_from
hybrid-reads w none front extra = ap (follow w (front ++ []) (λ next. values_from (0 + extra) w (front ++ []) next)) (end-stands w front)
hybrid-reads w (repeated_run {head} {rest} {vs} n value h count long bytes below others) front extra =
    let s = front ++ (head ++ (value ++ rest)) in
    let f = length (head ++ (value ++ rest)) + extra in
    let more = length head + length value + extra - 1 in
    let behind : s ≡ (front ++ (head ++ value)) ++ rest = ap (λ x. front ++ x) (sym (append_assoc head value rest)) ∙ sym (append_assoc front (head ++ value) rest) in
    let size : length (head ++ (value ++ rest)) ≡ length head + (length value + length rest) = simp length-append in
    let fuel : f ≡ suc (length rest + more) = omega (arith, header-some h.value) in
    ap (follow w s (λ next. values_from f w s next)) (repeated-stands w front head rest n value h count long)
    ∙ ap (before (replicate n (number 256 value)))
    (ap₂ (λ k x. values_from k w x (length (front ++ (head ++ value)))) fuel behind
    ∙ hybrid-reads w others (front ++ (head ++ value)) more)
hybrid-reads w (packed_run {head} {rest} {vs} g body values h count long bytes many below same others) front extra =
    let s = front ++ (head ++ (body ++ rest)) in
    let f = length (head ++ (body ++ rest)) + extra in
    let more = length head + length body + extra - 1 in
    let behind : s ≡ (front ++ (head ++ body)) ++ rest = ap (λ x. front ++ x) (sym (append_assoc head body rest)) ∙ sym (append_assoc front (head ++ body) rest) in
    let size : length (head ++ (body ++ rest)) ≡ length head + (length body + length rest) = simp length-append in
    let fuel : f ≡ suc (length rest + more) = omega (arith, header-some h.value) in
    let bits : length values * w ≡ 8 * length body = ap (λ x. x * w) many ∙ mul_assoc 8 g w ∙ ap (λ x. 8 * x) (sym long) in
    let cells : cells_at (λ v. v) s (8 * length (front ++ head)) w (8 * g) ≡ values =
    ap₂ (λ x k. cells_at (λ v. v) x (8 * length (front ++ head)) w k) (behind-header w front head rest body) (sym many)
    ∙ cells-behind (front ++ head) body rest values w same (omega arith) below in
    ap (follow w s (λ next. values_from f w s next)) (packed-stands w front head rest g body h count long)
    ∙ ap₂ before cells
    (ap₂ (λ k x. values_from k w x (length (front ++ (head ++ body)))) fuel behind
    ∙ hybrid-reads w others (front ++ (head ++ body)) more)

-- its first run is no fault
first-stands : (w : ℕ) {bytes vs : List ℕ} → Hybrid w bytes vs → (r : Waiting) → opens (run_at w bytes 0) r ≡ opened r
first-stands w none r = ap (λ x. opens x r) (end-stands w [])
first-stands w (repeated_run {head} {rest} n value h count long bytes below others) r = ap (λ x. opens x r) (repeated-stands w [] head rest n value h count long)
first-stands w (packed_run {head} {rest} g body values h count long bytes many below same others) r = ap (λ x. opens x r) (packed-stands w [] head rest g body h count long)

-- what stands in the relation opens, and reads as its values and the end
pub hybrid-opens : (w : ℕ) {bytes vs : List ℕ} → Hybrid w bytes vs → reads w bytes ≡ opened (record { values = vs; ending = end })
hybrid-opens w {bytes} {vs} h =
    first-stands w h (waiting_at w bytes 0)
    ∙ ap opened (ap (λ k. values_from (suc k) w bytes 0) (sym (add-zero (length bytes))) ∙ hybrid-reads w h [] 0)
