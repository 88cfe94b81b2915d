-- How many values are left, and that they are as many as single reads give.
use Rattle.std.proofs.Common.{◌≡◌, ℕ, zero, suc, ◌+◌, ◌-◌, ◌*◌, ◌/◌, ◌<◌, ◌≤◌, min, eqb, leb, List, ◌++◌, length, take, drop, length-take-le, sym, ap, ◌∙◌, subst, ap₂, ⊎_elim, suc-le-suc, zero-le, le_refl, add-zero, mul-le-mul_right, suc-mul, div-lt_iff_lt-mul, add-mul, mul-zero, le-div_iff_mul-le, div-mul-le_self, arith}
use native.Mathlib.Nat.{lt-div-mul-add}
use Rattle.std.proofs.lemmas.Bool.{cond-true, cond-false, le-leb, lt-leb, cases_lt, ne_eqb}
use Rattle.packed.specs.Bytes.{cells_at, overwrite}
use Rattle.packed.proofs.Bytes.{cells_at-append, length-cells_at}
use Rattle.packed.proofs.Overwrite.{put_mid-overwrite}
use Rattle.bit_reader.specs.Reader.{readable, Counted, Moved, page, position}
use Rattle.bit_reader.specs.declared.BitReader.{BitReader}

-- what k of m values keep, in bits that are left
pub record FitsIn (left w m k : ℕ) : Type 0 where
  pub within : k * w ≤ left
  pub bound : k ≤ m
  pub next : k < m → left < k * w + w

pub all_fit : (left w m : ℕ) → m * w ≤ left → FitsIn left w m m
all_fit left w m h = record { within = h; bound = omega arith; next = λ k. omega arith }

not-lt-zero : {n : ℕ} → n < 0 → ⊥
not-lt-zero h = omega arith

pub some_fit : (left w m : ℕ) → left < m * w → FitsIn left w m (left / w)
some_fit left zero m h = absurd (not-lt-zero (subst (λ x. left < x) (mul-zero m) h))
some_fit left (suc w) m h =
    let fewer : left / suc w < m = (div-lt_iff_lt-mul (suc-le-suc zero-le)).1 h in
    record { within = div-mul-le_self left (suc w); bound = omega arith; next = λ k. lt-div-mul-add (suc-le-suc zero-le) }

readable-is : (s : List ℕ) (p w m k : ℕ) → FitsIn (8 * length s - p) w m k → k ≡ readable s p w m
readable-is s p zero m k f =
    ⊎_elim (λ fewer. absurd (not-lt-zero (subst (λ x. 8 * length s - p < x) (add-zero (k * 0) ∙ mul-zero k) (f.next fewer)))) (λ all. omega (arith, f.bound)) (cases_lt k m)
readable-is s p (suc w) m k f =
    let left = 8 * length s - p in
    let most : k ≤ left / suc w = (le-div_iff_mul-le (suc-le-suc zero-le)).1 f.within in
    let fewest : k ≡ min m (left / suc w) =
    ⊎_elim
    (λ fewer.
    let least : left / suc w < suc k = (div-lt_iff_lt-mul (suc-le-suc zero-le)).1 (subst (λ x. left < x) (sym (suc-mul k (suc w))) (f.next fewer)) in
    omega arith)
    (λ all. omega (arith, f.bound))
    (cases_lt k m) in
    fewest ∙ sym (cond-false (eqb (suc w) 0) m (min m (left / suc w)) (ne_eqb (suc w) 0 (λ e. not-lt-zero (subst (λ x. w < x) e (suc-le-suc (le_refl w))))))

pub counted : (s : List ℕ) (p w m k left : ℕ) → p ≤ 8 * length s → left ≡ 8 * length s - p → FitsIn left w m k → Counted s p w m k
counted s p w m k left inside e g =
    let f : FitsIn (8 * length s - p) w m k = subst (λ x. FitsIn x w m k) e g in
    record {
      count = readable-is s p w m k f;
      within = omega (arith, f.within);
      bound = f.bound;
      each = λ i h.
          let a : suc i * w ≤ k * w = mul-le-mul_right w h in
          cond-true (leb (p + i * w + w) (8 * length s)) _ _ (le-leb (p + i * w + w) (8 * length s) (omega (arith, f.within, suc-mul i w)));
      next = λ h. cond-false (leb (p + k * w + w) (8 * length s)) _ _ (lt-leb (p + k * w + w) (8 * length s) (omega (arith, f.next h)));
    }

-- ---- cells that were filled while a reader went on

-- cells of k values behind those of j
pub cells_joined : {A : Type 0} (made : ℕ → A) (w : ℕ) (a b : BitReader) (xs ys : List A) (j k n : ℕ)
    → xs ≡ cells_at made (page a) (position a) w j → Moved a b (position a + j * w)
    → ys ≡ cells_at made (page b) (position b) w k → n ≡ j + k
    → xs ++ ys ≡ cells_at made (page a) (position a) w n
cells_joined made w a b xs ys j k n first moved then all =
    ap₂ ◌++◌ first (then ∙ ap₂ (λ s p. cells_at made s p w k) moved.same moved.to)
    ∙ sym (cells_at-append made (page a) (position a) w j k)
    ∙ ap (cells_at made (page a) (position a) w) (sym all)

-- the bits of k values behind those of j
pub bits_joined : (w j k n : ℕ) → n ≡ j + k → n * w ≡ j * w + k * w
bits_joined w j k n all = ap (λ x. x * w) all ∙ add-mul j k w

-- cells of k values at the front of a batch
pub cells_in_front : {A : Type 0} (made : ℕ → A) (s : List ℕ) (p w k : ℕ) (batch front : List A)
    → front ≡ cells_at made s p w (length (take k batch)) → k ≤ length batch
    → front ++ drop k batch ≡ overwrite batch 0 (cells_at made s p w k)
cells_in_front made s p w k batch front filled room =
    let cells : front ≡ cells_at made s p w k = filled ∙ ap (cells_at made s p w) (length-take-le k batch room) in
    put_mid-overwrite batch 0 k front (ap length cells ∙ length-cells_at made s p w k) ∙ ap (overwrite batch 0) cells
