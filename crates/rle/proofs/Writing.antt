-- How a page is written value by value: the states of a list, the bytes of each, and how long its page is.
use Rattle.std.proofs.Common.{◌≡◌, ℕ, zero, suc, ◌+◌, ◌*◌, ◌/◌, ◌%◌, ◌^◌, ◌<◌, ◌≤◌, Bool, true, false, cond, eqb, ltb, List, [], ◌∷◌, ◌++◌, length, drop, set, replicate, sym, refl, ap, ◌∙◌, subst, ap₂, ⊎_elim, suc-le-suc, zero-le, le_refl, not-suc-le-zero, add-zero, add_assoc, suc-mul, mul_comm, one-mul, zero-add, mul_left_comm, add-one, arith, lit<, lit≤, pow_pos}
use lib.Arith.{lt_of_le-ne}
use native.Mathlib.Nat.{add-mul-mod_self_left, add-mul-div_left, div-eq_of_lt}
use Rattle.packed.specs.Digits.{digits, number}
use Rattle.packed.specs.Vlq.{vlq}
use Rattle.packed.proofs.Bytes.{power-bits}
use Rattle.packed.proofs.Digits.{power_pos, length_digits, number_append, number-below, digits_append, digits_same}
use Rattle.packed.proofs.VlqLaws.{vlq-last}
use Rattle.std.specs.List.{flat_map, AllByRecursion}
use Rattle.std.proofs.ByRecursion.{All-push}
use Rattle.std.proofs.lemmas.List.{append_assoc, length-append, length_push, set_at}
use Rattle.std.proofs.lemmas.Bool.{cases_Bool, cases_lt, cases_eq, lt-ltb, le-ltb, eq-eqb, ne_eqb, eqb-true, eqb-false, cond-true, cond-false, cond_both}
use Rattle.column.specs.Putting.{Column}
use Rattle.rle.specs.Hybrid.{Hybrid}
use Rattle.rle.specs.Reading.{values_from, waiting_at}
use Rattle.rle.specs.Runs.{Run, repeated, packed, State, gathering, packing, repeating, values_of, bytes_of, all_equal, head, close, collecting, pack_group, settle, step, steps, state, padded, closing, page, value_bytes}
use Rattle.rle.specs.Writing.{runs_in, written, pending, recalled, page_length}
use Rattle.rle.proofs.ReadBack.{hybrid-reads}
use Rattle.rle.proofs.Splitting.{RunOk, Sound, values_in, held, joined-push, state-held, state-sound, steps-push, length-padded}
use Rattle.rle.proofs.Standing.{runs-stand}

-- ---- what is written and what is pending make up the list

runs-in-sound : (w m : ℕ) (s : State) → Sound w m s → AllByRecursion (RunOk w m) (runs_in s)
runs-in-sound w m (gathering rs g) ok = ok.0
runs-in-sound w m (packing rs p g) ok = All-push (RunOk w m) rs (packed p) ok.0 (ok.1, omega (arith, ok.2), ok.3, ok.4)
runs-in-sound w m (repeating rs n v) ok = ok.0

runs-and-pending : (s : State) → values_in (runs_in s) ++ pending s ≡ held s
runs-and-pending (gathering rs g) = refl
runs-and-pending (packing rs p g) = ap (λ l. l ++ g) (joined-push values_of rs (packed p)) ∙ append_assoc (values_in rs) p g
runs-and-pending (repeating rs n v) = refl

pub recalls : (w : ℕ) (l : List ℕ) → w ≤ 64 → Column w l → recalled w (written w (state l)) (pending (state l)) ≡ l
recalls w l wide column =
    let s = state l in
    let bytes = written w s in
    let stands : Hybrid w bytes (values_in (runs_in s)) = runs-stand w (length l) (runs_in s) column.count (runs-in-sound w (length l) s (state-sound w l column.below)) in
    let read : (waiting_at w bytes 0).values ≡ values_in (runs_in s) =
    ap (λ k. (values_from (suc k) w bytes 0).values) (sym (add-zero (length bytes))) ∙ ap (λ r. r.values) (hybrid-reads w stands [] 0) in
    ap (λ vs. vs ++ pending s) read ∙ runs-and-pending s ∙ state-held l

-- ---- one step

pub state-push : (l : List ℕ) (x : ℕ) → state (l ++ x ∷ []) ≡ step (state l) x
state-push l x = steps-push (gathering [] []) l x

steps-append : (s : State) (l vs : List ℕ) → steps s (l ++ vs) ≡ steps (steps s l) vs
unfolding steps
steps-append s [] vs = refl
steps-append s (x ∷ l) vs = steps-append (step s x) l vs

pub state-append : (l vs : List ℕ) → state (l ++ vs) ≡ steps (state l) vs
state-append l vs = steps-append (gathering [] []) l vs

settle-few : (rs : List Run) (p g : List ℕ) → length g < 8 → settle rs p g ≡ collecting rs p g
unfolding settle
settle-few rs p g few = cond-true (ltb (length g) 8) _ _ (lt-ltb (length g) 8 few)

settle-equal : (rs : List Run) (p g : List ℕ) → length g ≡ 8 → all_equal (head g) g ≡ true → settle rs p g ≡ repeating (close rs p) 8 (head g)
unfolding settle
settle-equal rs p g eight equal = cond-false (ltb (length g) 8) _ _ (le-ltb (length g) 8 (omega arith)) ∙ cond-true (all_equal (head g) g) _ _ equal

settle-mixed : (rs : List Run) (p g : List ℕ) → length g ≡ 8 → all_equal (head g) g ≡ false → settle rs p g ≡ pack_group rs (p ++ g)
unfolding settle
settle-mixed rs p g eight mixed = cond-false (ltb (length g) 8) _ _ (le-ltb (length g) 8 (omega arith)) ∙ cond-false (all_equal (head g) g) _ _ mixed

pack-open : (rs : List Run) (p : List ℕ) → (length p ≡ 504 → ⊥) → pack_group rs p ≡ packing rs p []
unfolding pack_group
pack-open rs p more = cond-false (eqb (length p) 504) _ _ (ne_eqb (length p) 504 more)

pack-full : (rs : List Run) (p : List ℕ) → length p ≡ 504 → pack_group rs p ≡ gathering (rs ++ packed p ∷ []) []
unfolding pack_group
pack-full rs p full = cond-true (eqb (length p) 504) _ _ (eq-eqb (length p) 504 full)

open-collecting : (rs : List Run) (p g : List ℕ) → 0 < length p → collecting rs p g ≡ packing rs p g
open-collecting rs [] g some = absurd (not-suc-le-zero some)
open-collecting rs (p ∷ ps) g some = refl

open-close : (rs : List Run) (p : List ℕ) → 0 < length p → close rs p ≡ rs ++ packed p ∷ []
open-close rs [] some = absurd (not-suc-le-zero some)
open-close rs (p ∷ ps) some = refl

module _ (rs : List Run) (g : List ℕ) (x : ℕ) where
  pub gathering-few : length g < 7 → step (gathering rs g) x ≡ gathering rs (g ++ x ∷ [])
  unfolding step
  gathering-few few = settle-few rs [] (g ++ x ∷ []) (rw length_push (omega arith))

  pub gathering-equal : length g ≡ 7 → all_equal (head (g ++ x ∷ [])) (g ++ x ∷ []) ≡ true → step (gathering rs g) x ≡ repeating rs 8 (head (g ++ x ∷ []))
  unfolding step
  gathering-equal seven equal = settle-equal rs [] (g ++ x ∷ []) (rw length_push (omega arith)) equal

  pub gathering-mixed : length g ≡ 7 → all_equal (head (g ++ x ∷ [])) (g ++ x ∷ []) ≡ false → step (gathering rs g) x ≡ packing rs (g ++ x ∷ []) []
  unfolding step
  gathering-mixed seven mixed =
      let eight : length (g ++ x ∷ []) ≡ 8 = rw length_push (omega arith) in
      settle-mixed rs [] (g ++ x ∷ []) eight mixed ∙ pack-open rs (g ++ x ∷ []) (λ e. omega arith)

module _ (rs : List Run) (p g : List ℕ) (x : ℕ) where
  pub packing-few : 0 < length p → length g < 7 → step (packing rs p g) x ≡ packing rs p (g ++ x ∷ [])
  unfolding step
  packing-few some few = settle-few rs p (g ++ x ∷ []) (rw length_push (omega arith)) ∙ open-collecting rs p (g ++ x ∷ []) some

  pub packing-equal : 0 < length p → length g ≡ 7 → all_equal (head (g ++ x ∷ [])) (g ++ x ∷ []) ≡ true → step (packing rs p g) x ≡ repeating (rs ++ packed p ∷ []) 8 (head (g ++ x ∷ []))
  unfolding step
  packing-equal some seven equal =
      settle-equal rs p (g ++ x ∷ []) (rw length_push (omega arith)) equal ∙ ap (λ r. repeating r 8 (head (g ++ x ∷ []))) (open-close rs p some)

  pub packing-mixed : length g ≡ 7 → all_equal (head (g ++ x ∷ [])) (g ++ x ∷ []) ≡ false → (length p ≡ 496 → ⊥) → step (packing rs p g) x ≡ packing rs (p ++ (g ++ x ∷ [])) []
  unfolding step
  packing-mixed seven mixed more =
      let eight : length (g ++ x ∷ []) ≡ 8 = rw length_push (omega arith) in
      let both : length (p ++ (g ++ x ∷ [])) ≡ length p + length (g ++ x ∷ []) = length-append p (g ++ x ∷ []) in
      settle-mixed rs p (g ++ x ∷ []) eight mixed ∙ pack-open rs (p ++ (g ++ x ∷ [])) (λ e. more (omega arith))

  pub packing-full : length g ≡ 7 → all_equal (head (g ++ x ∷ [])) (g ++ x ∷ []) ≡ false → length p ≡ 496 → step (packing rs p g) x ≡ gathering (rs ++ packed (p ++ (g ++ x ∷ [])) ∷ []) []
  unfolding step
  packing-full seven mixed full =
      let eight : length (g ++ x ∷ []) ≡ 8 = rw length_push (omega arith) in
      let both : length (p ++ (g ++ x ∷ [])) ≡ length p + length (g ++ x ∷ []) = length-append p (g ++ x ∷ []) in
      settle-mixed rs p (g ++ x ∷ []) eight mixed ∙ pack-full rs (p ++ (g ++ x ∷ [])) (omega arith)

module _ (rs : List Run) (n v : ℕ) where
  pub repeating-same : (x : ℕ) → x ≡ v → step (repeating rs n v) x ≡ repeating rs (n + 1) v
  unfolding step
  repeating-same x same = cond-true (eqb x v) _ _ (eq-eqb x v same)

  pub repeating-other : (x : ℕ) → (x ≡ v → ⊥) → step (repeating rs n v) x ≡ gathering (rs ++ repeated n v ∷ []) (x ∷ [])
  unfolding step
  repeating-other x other = cond-false (eqb x v) _ _ (ne_eqb x v other)

-- the value of a repeating run, k times more
pub repeating-more : (rs : List Run) (n v k : ℕ) → steps (repeating rs n v) (replicate k v) ≡ repeating rs (n + k) v
unfolding steps
repeating-more rs n v zero = ap (λ m. repeating rs m v) (sym (add-zero n))
repeating-more rs n v (suc k) =
    let more : n + 1 + k ≡ n + suc k = omega arith in
    ap (λ s. steps s (replicate k v)) (repeating-same rs n v v refl) ∙ repeating-more rs (n + 1) v k ∙ ap (λ m. repeating rs m v) more

-- ---- whether collected values are all equal

pub head-push : (g : List ℕ) (x : ℕ) → 0 < length g → head (g ++ x ∷ []) ≡ head g
head-push [] x some = absurd (not-suc-le-zero some)
head-push (y ∷ g) x some = refl

pub one-equal : (x : ℕ) → all_equal x (x ∷ []) ≡ true
one-equal x = cond-true (eqb x x) true false (eq-eqb x x refl)

equal-push : (v : ℕ) (g : List ℕ) (x : ℕ) → all_equal v (g ++ x ∷ []) ≡ cond (all_equal v g) (eqb x v) false
equal-push v [] x = keep (eqb x v)
  where
    keep : (b : Bool) → cond b true false ≡ b
    keep true = refl
    keep false = refl
equal-push v (y ∷ g) x = ap (λ b. cond (eqb y v) b false) (equal-push v g x) ∙ both (eqb y v) (all_equal v g) (eqb x v)
  where
    both : (a b c : Bool) → cond a (cond b c false) false ≡ cond (cond a b false) c false
    both true b c = refl
    both false b c = refl

pub group-equal-first : (g : List ℕ) (x : ℕ) → length g ≡ 0 → all_equal (head (g ++ x ∷ [])) (g ++ x ∷ []) ≡ true
group-equal-first [] x none = one-equal x
group-equal-first (y ∷ g) x none = absurd (let z : suc (length g) ≡ 0 = none in omega arith)

pub group-equal-more : (g : List ℕ) (x : ℕ) → 0 < length g → all_equal (head (g ++ x ∷ [])) (g ++ x ∷ []) ≡ cond (all_equal (head g) g) (eqb x (head g)) false
group-equal-more g x some = ap (λ v. all_equal v (g ++ x ∷ [])) (head-push g x some) ∙ equal-push (head g) g x

-- ---- the bytes of packed groups

-- a packed run of at most 63 groups has a header of one byte
pub packed-bytes : (w k : ℕ) (p : List ℕ) → length p ≡ 8 * k → k ≤ 63 → bytes_of w (packed p) ≡ (2 * k + 1) ∷ digits 256 (k * w) (number (2 ^ w) p)
packed-bytes w k p long most =
    let groups : length p / 8 ≡ k = omega arith in
    ap (λ j. vlq (2 * j + 1) ++ digits 256 (j * w) (number (2 ^ w) p)) groups
    ∙ ap (λ bs. bs ++ digits 256 (k * w) (number (2 ^ w) p)) (vlq-last (2 * k + 1) (omega arith))

pub first_group : (w : ℕ) (g : List ℕ) → length g ≡ 8 → bytes_of w (packed g) ≡ 3 ∷ digits 256 w (number (2 ^ w) g)
first_group w g eight = packed-bytes w 1 g eight (lit≤ tt) ∙ ap (λ k. 3 ∷ digits 256 k (number (2 ^ w) g)) (one-mul w)

module _ (w k : ℕ) (p g : List ℕ) (long : length p ≡ 8 * k) where
  -- the bytes of whole groups do not reach into each other
  groups-append : digits 256 ((k + 1) * w) (number (2 ^ w) (p ++ g)) ≡ digits 256 (k * w) (number (2 ^ w) p) ++ digits 256 w (number (2 ^ w) g)
  groups-append =
      let n = number (2 ^ w) (p ++ g) in
      let low = number (2 ^ w) p in
      let high = number (2 ^ w) g in
      let base = 256 ^ (k * w) in
      let bits : w * length p ≡ 8 * (k * w) = ap (λ x. w * x) long ∙ mul_left_comm w 8 k ∙ ap (λ x. 8 * x) (mul_comm w k) in
      let power : (2 ^ w) ^ length p ≡ base = power-bits w (length p) ∙ ap (λ x. 2 ^ x) bits ∙ sym (power-bits 8 (k * w)) in
      let is : n ≡ low + base * high = number_append (2 ^ w) (pow_pos w) p g ∙ ap (λ x. low + x * high) power in
      let small : low < base = subst (λ x. low < x) power (number-below (2 ^ w) (pow_pos w) p) in
      let rest : n / base ≡ high =
      ap (λ x. x / base) is
      ∙ add-mul-div_left low high (power_pos 256 (k * w) (lit< tt))
      ∙ ap (λ x. x + high) (div-eq_of_lt small)
      ∙ zero-add high in
      ap (λ x. digits 256 x n) (ap (λ x. x * w) (add-one k) ∙ suc-mul k w)
      ∙ digits_append 256 (lit< tt) (k * w) w n
      ∙ ap₂ ◌++◌ (digits_same 256 (lit< tt) (k * w) n low (ap (λ x. x % base) is ∙ add-mul-mod_self_left low base high)) (ap (digits 256 w) rest)

  pub group-written : (rs : List Run) → length g ≡ 8 → k + 1 ≤ 63 → flat_map (bytes_of w) (rs ++ packed (p ++ g) ∷ []) ≡ set (flat_map (bytes_of w) (rs ++ packed p ∷ [])) (length (flat_map (bytes_of w) rs)) (2 * (k + 1) + 1) ++ digits 256 w (number (2 ^ w) g)
  group-written rs eight most =
      let front = flat_map (bytes_of w) rs in
      let header = 2 * (k + 1) + 1 in
      let body = digits 256 (k * w) (number (2 ^ w) p) in
      let new = digits 256 w (number (2 ^ w) g) in
      let both : length (p ++ g) ≡ length p + length g = length-append p g in
      let before : flat_map (bytes_of w) (rs ++ packed p ∷ []) ≡ front ++ (2 * k + 1) ∷ body = joined-push (bytes_of w) rs (packed p) ∙ ap (λ bs. front ++ bs) (packed-bytes w k p long (omega arith)) in
      joined-push (bytes_of w) rs (packed (p ++ g))
      ∙ ap (λ bs. front ++ bs) (packed-bytes w (k + 1) (p ++ g) (omega arith) most ∙ ap (λ ds. header ∷ ds) groups-append)
      ∙ sym (append_assoc front (header ∷ body) new)
      ∙ ap (λ bs. bs ++ new) (sym (ap (λ bs. set bs (length front) header) before ∙ set_at front (2 * k + 1) body header (length front) refl))

pub first-group-written : (w : ℕ) (rs : List Run) (g : List ℕ) → length g ≡ 8 → flat_map (bytes_of w) (rs ++ packed g ∷ []) ≡ flat_map (bytes_of w) rs ++ 3 ∷ digits 256 w (number (2 ^ w) g)
first-group-written w rs g eight = joined-push (bytes_of w) rs (packed g) ∙ ap (λ bs. flat_map (bytes_of w) rs ++ bs) (first_group w g eight)

-- ---- what ends a page, and how long the page is

gathering-closes : (rs : List Run) (g : List ℕ) → 0 < length g → closing (gathering rs g) ≡ rs ++ cond (all_equal (head g) g) (repeated (length g) (head g)) (packed (padded g)) ∷ []
unfolding closing
gathering-closes rs [] some = absurd (not-suc-le-zero some)
gathering-closes rs (x ∷ g) some = refl

packing-closes : (rs : List Run) (p g : List ℕ) → 0 < length g → closing (packing rs p g) ≡ rs ++ packed (p ++ padded g) ∷ []
unfolding closing
packing-closes rs p [] some = absurd (not-suc-le-zero some)
packing-closes rs p (x ∷ g) some = refl

module _ (w : ℕ) (rs : List Run) where
  pub closed-nothing : flat_map (bytes_of w) (closing (gathering rs [])) ≡ flat_map (bytes_of w) rs
  unfolding closing
  closed-nothing = refl

  pub closed-equal : (g : List ℕ) → 0 < length g → all_equal (head g) g ≡ true → flat_map (bytes_of w) (closing (gathering rs g)) ≡ flat_map (bytes_of w) rs ++ bytes_of w (repeated (length g) (head g))
  closed-equal g some equal =
      ap (flat_map (bytes_of w)) (gathering-closes rs g some ∙ ap (λ r. rs ++ r ∷ []) (cond-true (all_equal (head g) g) _ _ equal))
      ∙ joined-push (bytes_of w) rs (repeated (length g) (head g))

  pub closed-mixed : (g : List ℕ) → 0 < length g → length g < 8 → all_equal (head g) g ≡ false → flat_map (bytes_of w) (closing (gathering rs g)) ≡ flat_map (bytes_of w) rs ++ 3 ∷ digits 256 w (number (2 ^ w) (padded g))
  closed-mixed g some few mixed =
      ap (flat_map (bytes_of w)) (gathering-closes rs g some ∙ ap (λ r. rs ++ r ∷ []) (cond-false (all_equal (head g) g) _ _ mixed))
      ∙ first-group-written w rs (padded g) (length-padded g few)

  pub closed-packed : (p : List ℕ) → flat_map (bytes_of w) (closing (packing rs p [])) ≡ flat_map (bytes_of w) (rs ++ packed p ∷ [])
  unfolding closing
  closed-packed p = refl

  pub closed-padded : (k : ℕ) (p g : List ℕ) → length p ≡ 8 * k → k + 1 ≤ 63 → 0 < length g → length g < 8 → flat_map (bytes_of w) (closing (packing rs p g)) ≡ set (flat_map (bytes_of w) (rs ++ packed p ∷ [])) (length (flat_map (bytes_of w) rs)) (2 * (k + 1) + 1) ++ digits 256 w (number (2 ^ w) (padded g))
  closed-padded k p g long most some few =
      ap (flat_map (bytes_of w)) (packing-closes rs p g some) ∙ group-written w k p (padded g) long rs (length-padded g few) most

  pub closed-repeating : (n v : ℕ) → flat_map (bytes_of w) (closing (repeating rs n v)) ≡ flat_map (bytes_of w) rs ++ bytes_of w (repeated n v)
  unfolding closing
  closed-repeating n v = joined-push (bytes_of w) rs (repeated n v)

pub length-repeated : (w n v : ℕ) → length (bytes_of w (repeated n v)) ≡ length (vlq (2 * n)) + value_bytes w
length-repeated w n v = length-append (vlq (2 * n)) (digits 256 (value_bytes w) v) ∙ ap (λ k. length (vlq (2 * n)) + k) (length_digits 256 (value_bytes w) v)

pub length-packed : (w k : ℕ) (p : List ℕ) → length p ≡ 8 * k → k ≤ 63 → length (bytes_of w (packed p)) ≡ 1 + k * w
length-packed w k p long most = ap length (packed-bytes w k p long most) ∙ ap suc (length_digits 256 (k * w) (number (2 ^ w) p)) ∙ omega arith

length-joined : (w : ℕ) (rs : List Run) (r : Run) → length (flat_map (bytes_of w) (rs ++ r ∷ [])) ≡ length (flat_map (bytes_of w) rs) + length (bytes_of w r)
length-joined w rs r = ap length (joined-push (bytes_of w) rs r) ∙ length-append (flat_map (bytes_of w) rs) (bytes_of w r)

module _ (w : ℕ) (rs : List Run) where
  short-repeated : (n v : ℕ) → n < 64 → length (flat_map (bytes_of w) (rs ++ repeated n v ∷ [])) ≡ length (flat_map (bytes_of w) rs) + 1 + value_bytes w
  short-repeated n v few =
      let one : length (vlq (2 * n)) ≡ 1 = ap length (vlq-last (2 * n) (omega arith)) in
      length-joined w rs (repeated n v) ∙ omega (arith, length-repeated w n v)

  one-packed : (g : List ℕ) → length g ≡ 8 → length (flat_map (bytes_of w) (rs ++ packed g ∷ [])) ≡ length (flat_map (bytes_of w) rs) + 1 + w
  one-packed g eight = length-joined w rs (packed g) ∙ omega (arith, length-packed w 1 g eight (lit≤ tt))

  more-packed : (k : ℕ) (p g : List ℕ) → length p ≡ 8 * k → k + 1 ≤ 63 → length g ≡ 8 → length (flat_map (bytes_of w) (rs ++ packed (p ++ g) ∷ [])) ≡ length (flat_map (bytes_of w) (rs ++ packed p ∷ [])) + w
  more-packed k p g long most eight =
      let both : length (p ++ g) ≡ length p + length g = length-append p g in
      let before = length-joined w rs (packed p) in
      let after = length-joined w rs (packed (p ++ g)) in
      let more : (k + 1) * w ≡ k * w + w = ap (λ x. x * w) (add-one k) ∙ suc-mul k w in
      omega (arith, length-packed w k p long (omega arith), length-packed w (k + 1) (p ++ g) (omega arith) most)

  -- a page that ends with collected values
  pub gathered-length : (g : List ℕ) → 0 < length g → length g < 8 → page_length w (gathering rs g) ≡ length (flat_map (bytes_of w) rs) + 1 + cond (all_equal (head g) g) (value_bytes w) w
  gathered-length g some few =
      ⊎_elim
      (λ equal. ap length (closed-equal w rs g some equal ∙ sym (joined-push (bytes_of w) rs (repeated (length g) (head g))))
      ∙ short-repeated (length g) (head g) (omega arith)
      ∙ ap (λ k. length (flat_map (bytes_of w) rs) + 1 + k) (sym (cond-true (all_equal (head g) g) _ _ equal)))
      (λ mixed. ap length (closed-mixed w rs g some few mixed ∙ sym (first-group-written w rs (padded g) (length-padded g few)))
      ∙ one-packed (padded g) (length-padded g few)
      ∙ ap (λ k. length (flat_map (bytes_of w) rs) + 1 + k) (sym (cond-false (all_equal (head g) g) _ _ mixed)))
      (cases_Bool (all_equal (head g) g))

  -- the page after one value more
  pub gathering-length : (g : List ℕ) (x : ℕ) → length g < 8 → page_length w (step (gathering rs g) x) ≡ length (flat_map (bytes_of w) rs) + 1 + cond (all_equal (head (g ++ x ∷ [])) (g ++ x ∷ [])) (value_bytes w) w
  unfolding closing
  gathering-length g x few =
      let group = g ++ x ∷ [] in
      let size : length group ≡ length g + 1 = length_push g x in
      ⊎_elim
      (λ fewer. ap (page_length w) (gathering-few rs g x fewer) ∙ gathered-length group (omega arith) (omega arith))
      (λ seven. ⊎_elim
      (λ equal. ap (page_length w) (gathering-equal rs g x (omega arith) equal)
      ∙ short-repeated 8 (head group) (lit< tt)
      ∙ ap (λ k. length (flat_map (bytes_of w) rs) + 1 + k) (sym (cond-true (all_equal (head group) group) _ _ equal)))
      (λ mixed. ap (page_length w) (gathering-mixed rs g x (omega arith) mixed)
      ∙ one-packed group (omega arith)
      ∙ ap (λ k. length (flat_map (bytes_of w) rs) + 1 + k) (sym (cond-false (all_equal (head group) group) _ _ mixed)))
      (cases_Bool (all_equal (head group) group)))
      (cases_lt (length g) 7)

  pub repeated-length : (n v : ℕ) → page_length w (repeating rs n v) ≡ length (flat_map (bytes_of w) rs) + length (vlq (2 * n)) + value_bytes w
  unfolding closing
  repeated-length n v = length-joined w rs (repeated n v) ∙ omega (arith, length-repeated w n v)

pub repeating-other-length : (w : ℕ) (rs : List Run) (n v x : ℕ) → (x ≡ v → ⊥) → page_length w (step (repeating rs n v) x) ≡ length (flat_map (bytes_of w) rs) + length (vlq (2 * n)) + value_bytes w + 1 + value_bytes w
repeating-other-length w rs n v x other =
    let before = length-joined w rs (repeated n v) in
    let one : cond (all_equal x (x ∷ [])) (value_bytes w) w ≡ value_bytes w = cond-true (all_equal x (x ∷ [])) _ _ (one-equal x) in
    ap (page_length w) (repeating-other rs n v x other)
    ∙ gathered-length w (rs ++ repeated n v ∷ []) (x ∷ []) (lit< tt) (lit< tt)
    ∙ omega (arith, length-repeated w n v)

-- behind an open packed run of whole groups
module _ (w : ℕ) (rs : List Run) (p : List ℕ) (some : 0 < length p) (most : length p < 504) (groups : length p % 8 ≡ 0) where
  group-longer : (g : List ℕ) → length g ≡ 8 → length (flat_map (bytes_of w) (rs ++ packed (p ++ g) ∷ [])) ≡ length (flat_map (bytes_of w) (rs ++ packed p ∷ [])) + w
  group-longer g eight = more-packed w rs (length p / 8) p g (omega arith) (omega arith) eight

  pub padded-length : (g : List ℕ) → 0 < length g → length g < 8 → page_length w (packing rs p g) ≡ length (flat_map (bytes_of w) (rs ++ packed p ∷ [])) + w
  padded-length g any few = ap (λ r. length (flat_map (bytes_of w) r)) (packing-closes rs p g any) ∙ group-longer (padded g) (length-padded g few)

  pub packing-few-length : (g : List ℕ) (x : ℕ) → length g < 7 → page_length w (step (packing rs p g) x) ≡ length (flat_map (bytes_of w) (rs ++ packed p ∷ [])) + w
  packing-few-length g x few =
      let size : length (g ++ x ∷ []) ≡ length g + 1 = length_push g x in
      ap (page_length w) (packing-few rs p g x some few) ∙ padded-length (g ++ x ∷ []) (omega arith) (omega arith)

  pub packing-equal-length : (g : List ℕ) (x : ℕ) → length g ≡ 7 → all_equal (head (g ++ x ∷ [])) (g ++ x ∷ []) ≡ true → page_length w (step (packing rs p g) x) ≡ length (flat_map (bytes_of w) (rs ++ packed p ∷ [])) + (1 + value_bytes w)
  unfolding closing
  packing-equal-length g x seven equal =
      ap (page_length w) (packing-equal rs p g x some seven equal)
      ∙ short-repeated w (rs ++ packed p ∷ []) 8 (head (g ++ x ∷ [])) (lit< tt)
      ∙ add_assoc (length (flat_map (bytes_of w) (rs ++ packed p ∷ []))) 1 (value_bytes w)

  pub packing-mixed-length : (g : List ℕ) (x : ℕ) → length g ≡ 7 → all_equal (head (g ++ x ∷ [])) (g ++ x ∷ []) ≡ false → page_length w (step (packing rs p g) x) ≡ length (flat_map (bytes_of w) (rs ++ packed p ∷ [])) + w
  unfolding closing
  packing-mixed-length g x seven mixed =
      let size : length (g ++ x ∷ []) ≡ length g + 1 = length_push g x in
      ⊎_elim
      (λ full. ap (page_length w) (packing-full rs p g x seven mixed full) ∙ group-longer (g ++ x ∷ []) (omega arith))
      (λ more. ap (page_length w) (packing-mixed rs p g x seven mixed more) ∙ group-longer (g ++ x ∷ []) (omega arith))
      (cases_eq (length p) 496)

  pub packing-length : (g : List ℕ) (x : ℕ) → length g < 8 → page_length w (step (packing rs p g) x) ≡ length (flat_map (bytes_of w) (rs ++ packed p ∷ [])) + cond (eqb (length g) 7) (cond (all_equal (head (g ++ x ∷ [])) (g ++ x ∷ [])) (1 + value_bytes w) w) w
  packing-length g x few =
      let all = all_equal (head (g ++ x ∷ [])) (g ++ x ∷ []) in
      let before = length (flat_map (bytes_of w) (rs ++ packed p ∷ [])) in
      cond_both (eqb (length g) 7) (cond all (1 + value_bytes w) w) w (λ k. page_length w (step (packing rs p g) x) ≡ before + k)
      (λ seven. cond_both all (1 + value_bytes w) w (λ k. page_length w (step (packing rs p g) x) ≡ before + k)
      (packing-equal-length g x (eqb-true (length g) 7 seven))
      (packing-mixed-length g x (eqb-true (length g) 7 seven)))
      (λ less. packing-few-length g x (lt_of_le-ne (omega arith) (eqb-false (length g) 7 less)))

-- ---- the page of a list

pub page-length : (w : ℕ) (l : List ℕ) → length (page w l) ≡ page_length w (state l)
unfolding page
page-length w l = refl

-- what is written is no longer than the page
pub written-short : (w m : ℕ) (s : State) → Sound w m s → length (written w s) ≤ page_length w s
unfolding closing
written-short w m (gathering rs []) ok = le_refl _
written-short w m (gathering rs (x ∷ g)) ok = subst (λ n. length (flat_map (bytes_of w) rs) ≤ n) (sym (gathered-length w rs (x ∷ g) (suc-le-suc zero-le) ok.3)) (omega arith)
written-short w m (packing rs p []) ok = le_refl _
written-short w m (packing rs p (x ∷ g)) ok =
    subst (λ n. length (flat_map (bytes_of w) (rs ++ packed p ∷ [])) ≤ n) (sym (padded-length w rs p ok.1 ok.2 ok.3 (x ∷ g) (suc-le-suc zero-le) ok.6)) (omega arith)
written-short w m (repeating rs n v) ok = subst (λ k. length (flat_map (bytes_of w) rs) ≤ k) (sym (repeated-length w rs n v)) (omega arith)
