-- One step of the state, and what the fields show after it.
use Rattle.std.proofs.Common.{◌≡◌, ℕ, suc, ◌+◌, ◌*◌, ◌/◌, ◌^◌, ◌<◌, ◌≤◌, true, false, cond, eqb, List, [], ◌∷◌, ◌++◌, length, set, replicate, Option, Some, None, sym, refl, ap, ◌∙◌, subst, ap₂, ⊎_elim, arith, length-append}
use lib.ListN.{length-replicate}
use Rattle.std.specs.List.{flat_map, AllByRecursion}
use Rattle.std.proofs.lemmas.List.{append-nil, length_push, nil_from_length}
use Rattle.std.proofs.lemmas.Bool.{both_ways, cases_Bool, cases_eq, eq-eqb, ne_eqb, eqb-true, eqb-false, cond-true, cond-false, cond_both}
use Rattle.rle.specs.Runs.{repeated, packed, State, gathering, packing, repeating, bytes_of, all_equal, head, steps, step}
use Rattle.rle.specs.Writing.{pending}
use Rattle.rle.proofs.Splitting.{Sound, joined-push}
use Rattle.rle.proofs.Writing.{repeating-more, gathering-few, gathering-equal, gathering-mixed, packing-few, packing-equal, packing-mixed, packing-full, repeating-other, head-push, one-equal, group-equal-first, group-equal-more, first-group-written, group-written, length-packed}
use Rattle.rle_encoder.specs.Encoder.{repeats}
use Rattle.rle_encoder.specs.Encoding.{alike_with, equals, group_bytes, held_in, shared}
use Rattle.rle_encoder.specs.Extending.{or_zero}
use Rattle.rle_encoder.specs.declared.phase.Phase.{Phase}
use Rattle.rle_encoder.specs.declared.phase.Phase.TheVariants.{Gathering, Packing, Repeating}
use Rattle.rle_encoder.proofs.Keeping.{Shows}

-- ---- the value that values share

-- one more is equal to all of these or not
pub shared-more : (g : List ℕ) (x : ℕ) → alike_with (length g) (equals (shared g) x) ≡ all_equal (head (g ++ x ∷ [])) (g ++ x ∷ [])
shared-more [] x = sym (group-equal-first [] x refl)
shared-more (y ∷ g) x =
    cond-false (eqb (suc (length g)) 0) true (equals (shared (y ∷ g)) x) (ne_eqb (suc (length g)) 0 (λ e. omega arith))
    ∙ cond_both (all_equal y (y ∷ g)) (Some y) None (λ o. equals o x ≡ all_equal y (y ∷ g ++ x ∷ []))
    (λ all. sym (more ∙ cond-true (all_equal y (y ∷ g)) (eqb x y) false all))
    (λ mixed. sym (more ∙ cond-false (all_equal y (y ∷ g)) (eqb x y) false mixed))
  where
    more : all_equal y (y ∷ g ++ x ∷ []) ≡ cond (all_equal y (y ∷ g)) (eqb x y) false
    more = group-equal-more (y ∷ g) x (let n : 0 < suc (length g) = omega arith in n)

-- and then they share it, or none
pub shared-push : (g : List ℕ) (x : ℕ) → cond (alike_with (length g) (equals (shared g) x)) (Some x) None ≡ shared (g ++ x ∷ [])
shared-push [] x = sym (cond-true (all_equal x (x ∷ [])) (Some x) None (one-equal x))
shared-push (y ∷ g) x =
    ap (λ b. cond b (Some x) None) (shared-more (y ∷ g) x)
    ∙ cond_both (all_equal y (y ∷ g ++ x ∷ [])) (Some x) None (λ o. o ≡ cond (all_equal y (y ∷ g ++ x ∷ [])) (Some y) None)
    (λ all. sym (cond-true (all_equal y (y ∷ g ++ x ∷ [])) (Some y) None all ∙ ap Some (sym (eqb-true x y (last all)))))
    (λ mixed. sym (cond-false (all_equal y (y ∷ g ++ x ∷ [])) (Some y) None mixed))
  where
    last : all_equal y (y ∷ g ++ x ∷ []) ≡ true → eqb x y ≡ true
    last all =
        let is : cond (all_equal y (y ∷ g)) (eqb x y) false ≡ true = sym (group-equal-more (y ∷ g) x (let n : 0 < suc (length g) = omega arith in n)) ∙ all in
        ⊎_elim
        (λ old. sym (cond-true (all_equal y (y ∷ g)) (eqb x y) false old) ∙ is)
        (λ new. absurd (both_ways false refl (sym (cond-false (all_equal y (y ∷ g)) (eqb x y) false new) ∙ is)))
        (cases_Bool (all_equal y (y ∷ g)))

-- values that share one are equal to it
pub shared-all : (g : List ℕ) (v : ℕ) → shared g ≡ Some v → (0 < length g) × (all_equal (head g) g ≡ true) × (head g ≡ v)
shared-all [] v is = let z : ◌≡◌ {A = ℕ} 0 1 = cc is in absurd (omega arith)
shared-all (y ∷ g) v is =
    ⊎_elim
    (λ all. (let n : 0 < suc (length g) = omega arith in n, all, let same : Some y ≡ Some v = sym (cond-true (all_equal y (y ∷ g)) (Some y) None all) ∙ is in cc same))
    (λ mixed. let none : None ≡ Some v = sym (cond-false (all_equal y (y ∷ g)) (Some y) None mixed) ∙ is in let z : ◌≡◌ {A = ℕ} 0 1 = cc none in absurd (omega arith))
    (cases_Bool (all_equal y (y ∷ g)))

pub shared-mixed : (g : List ℕ) → 0 < length g → shared g ≡ None → all_equal (head g) g ≡ false
shared-mixed [] some is = absurd (omega (arith, some))
shared-mixed (y ∷ g) some is =
    ⊎_elim
    (λ all. let none : Some y ≡ None = sym (cond-true (all_equal y (y ∷ g)) (Some y) None all) ∙ is in let z : ◌≡◌ {A = ℕ} 0 1 = cc none in absurd (omega arith))
    (λ mixed. mixed)
    (cases_Bool (all_equal y (y ∷ g)))

-- ---- the group that is collected

pub held-collected : (phase : Phase) (same : Option ℕ) (gathered : List ℕ) → repeats phase ≡ false → held_in phase same gathered ≡ gathered
held-collected Gathering same gathered calm = refl
held-collected (Packing header groups) same gathered calm = refl
held-collected (Repeating count) same gathered calm = absurd (both_ways true calm refl)

calm-gathering : {phase : Phase} → phase ≡ Gathering → repeats phase ≡ false
calm-gathering e = ap repeats e

calm-packing : {phase : Phase} {header groups : ℕ} → phase ≡ Packing header groups → repeats phase ≡ false
calm-packing e = ap repeats e

-- the value that all share is the last one
begun-value : (g : List ℕ) (x : ℕ) → 0 < length g → all_equal (head (g ++ x ∷ [])) (g ++ x ∷ []) ≡ true → head (g ++ x ∷ []) ≡ x
begun-value g x some all =
    ⊎_elim
    (λ old. head-push g x some ∙ sym (eqb-true x (head g) (sym (cond-true (all_equal (head g) g) (eqb x (head g)) false old) ∙ sym (group-equal-more g x some) ∙ all)))
    (λ new. absurd (both_ways false refl (sym (cond-false (all_equal (head g) g) (eqb x (head g)) false new) ∙ sym (group-equal-more g x some) ∙ all)))
    (cases_Bool (all_equal (head g) g))

-- beside a run that repeats, nothing is collected
run-alone : {phase : Phase} (same : Option ℕ) {gathered : List ℕ} (n k v : ℕ) → phase ≡ Repeating n → k ≡ n → held_in phase same gathered ≡ replicate k v → gathered ≡ []
run-alone {phase} same {gathered} n k v is count held =
    let whole : replicate n (or_zero same) ++ gathered ≡ replicate k v = sym (ap (λ q. held_in q same gathered) is) ∙ held in
    let sum : length (replicate n (or_zero same)) + length gathered ≡ length (replicate k v) = sym (length-append (replicate n (or_zero same)) gathered) ∙ ap length whole in
    nil_from_length gathered (omega (arith, sum, length-replicate n (or_zero same), length-replicate k v))

module _ (w m : ℕ) {phase : Phase} {same : Option ℕ} {gathered : List ℕ} {front : List ℕ} where
  pub group-is : (s : State) → Shows w phase same gathered front s → repeats phase ≡ false → gathered ≡ pending s
  group-is s sh calm = sym (held-collected phase same gathered calm) ∙ sh.held

  pub group-below : (s : State) → Sound w m s → Shows w phase same gathered front s → repeats phase ≡ false → AllByRecursion (λ v. v < 2 ^ w) gathered
  group-below s ok sh calm = subst (AllByRecursion (λ v. v < 2 ^ w)) (sym (group-is s sh calm)) (below s ok sh)
    where
      below : (t : State) → Sound w m t → Shows w phase same gathered front t → AllByRecursion (λ v. v < 2 ^ w) (pending t)
      below (gathering rs g) sound shown = sound.2
      below (packing rs p g) sound shown = sound.5
      below (repeating rs n v) sound shown = absurd (both_ways (repeats phase) calm (ap repeats shown.phase_is))

  -- ---- the value that repeats, k times more
  pub extended-shows : (n k : ℕ) (s : State) → phase ≡ Repeating n → Shows w phase same gathered front s → Shows w (Repeating (n + k)) same gathered front (steps s (replicate k (or_zero same)))
  extended-shows n k (gathering rs g) is sh = let z : ◌≡◌ {A = ℕ} 0 1 = cc (is, sh.phase_is) in absurd (omega arith)
  extended-shows n k (packing rs p g) is sh = let z : ◌≡◌ {A = ℕ} 0 1 = cc (is, sh.phase_is) in absurd (omega arith)
  extended-shows n k (repeating rs j v) is sh =
      let count : j ≡ n = cc (is, sh.phase_is) in
      let value : or_zero same ≡ v = ap or_zero sh.same_is in
      let after : steps (repeating rs j v) (replicate k (or_zero same)) ≡ repeating rs (n + k) v =
      ap (λ x. steps (repeating rs j v) (replicate k x)) value ∙ repeating-more rs j v k ∙ ap (λ x. repeating rs (x + k) v) count in
      let none : gathered ≡ [] = run-alone same n j v is count sh.held in
      subst (Shows w (Repeating (n + k)) same gathered front) (sym after)
      (record {
        bytes = sh.bytes;
        held = ap₂ (λ a b. replicate (n + k) a ++ b) value none ∙ append-nil (replicate (n + k) v);
        phase_is = refl;
        same_is = sh.same_is;
      })

  -- what holds of the run that repeats
  pub run-bounds : (n : ℕ) (s : State) → Sound w m s → phase ≡ Repeating n → Shows w phase same gathered front s → (1 ≤ n) × (n ≤ m) × (or_zero same < 2 ^ w)
  run-bounds n (gathering rs g) ok is sh = let z : ◌≡◌ {A = ℕ} 0 1 = cc (is, sh.phase_is) in absurd (omega arith)
  run-bounds n (packing rs p g) ok is sh = let z : ◌≡◌ {A = ℕ} 0 1 = cc (is, sh.phase_is) in absurd (omega arith)
  run-bounds n (repeating rs k v) ok is sh =
      let count : k ≡ n = cc (is, sh.phase_is) in
      (omega (arith, ok.1), omega (arith, ok.2), subst (λ y. y < 2 ^ w) (sym (ap or_zero sh.same_is)) ok.3)

  pub run-only : (n : ℕ) (s : State) → phase ≡ Repeating n → Shows w phase same gathered front s → gathered ≡ []
  run-only n (gathering rs g) is sh = let z : ◌≡◌ {A = ℕ} 0 1 = cc (is, sh.phase_is) in absurd (omega arith)
  run-only n (packing rs p g) is sh = let z : ◌≡◌ {A = ℕ} 0 1 = cc (is, sh.phase_is) in absurd (omega arith)
  run-only n (repeating rs k v) is sh = run-alone same n k v is (let count : k ≡ n = cc (is, sh.phase_is) in count) sh.held

  -- ---- another value closes the run
  pub closed-shows : (n x : ℕ) (s : State) → phase ≡ Repeating n → equals same x ≡ false → Shows w phase same gathered front s
      → {front' : List ℕ} → front' ≡ front ++ bytes_of w (repeated n (or_zero same)) → Shows w Gathering (Some x) (gathered ++ x ∷ []) front' (step s x)
  closed-shows n x (gathering rs g) is other sh now = let z : ◌≡◌ {A = ℕ} 0 1 = cc (is, sh.phase_is) in absurd (omega arith)
  closed-shows n x (packing rs p g) is other sh now = let z : ◌≡◌ {A = ℕ} 0 1 = cc (is, sh.phase_is) in absurd (omega arith)
  closed-shows n x (repeating rs k v) is other sh {front'} now =
      let count : k ≡ n = cc (is, sh.phase_is) in
      let differs : eqb x v ≡ false = sym (ap (λ o. equals o x) sh.same_is) ∙ other in
      let none : gathered ≡ [] = run-alone same n k v is count sh.held in
      subst (Shows w Gathering (Some x) (gathered ++ x ∷ []) front') (sym (repeating-other rs k v x (λ e. eqb-false x v differs e)))
      (record {
        bytes = now ∙ ap₂ ◌++◌ sh.bytes (ap₂ (λ a b. bytes_of w (repeated a b)) (sym count) (ap or_zero sh.same_is)) ∙ sym (joined-push (bytes_of w) rs (repeated k v));
        held = ap (λ g. g ++ x ∷ []) none;
        phase_is = refl;
        same_is = sym (cond-true (all_equal x (x ∷ [])) (Some x) None (one-equal x));
      })

  module _ (x : ℕ) where
    -- ---- one value more of a group
    alike-is : (s : State) → Shows w phase same gathered front s → repeats phase ≡ false → (g : List ℕ) → g ≡ gathered → same ≡ shared g → alike_with (length gathered) (equals same x) ≡ all_equal (head (g ++ x ∷ [])) (g ++ x ∷ [])
    alike-is s sh calm g is equal = ap₂ (λ a b. alike_with (length a) (equals b x)) (sym is) equal ∙ shared-more g x

    pub collected-shows : (s : State) → Sound w m s → Shows w phase same gathered front s → repeats phase ≡ false → length gathered < 7
        → Shows w phase (cond (alike_with (length gathered) (equals same x)) (Some x) None) (gathered ++ x ∷ []) front (step s x)
    collected-shows (gathering rs g) ok sh calm less =
        let is = group-is (gathering rs g) sh calm in
        subst (Shows w phase (cond (alike_with (length gathered) (equals same x)) (Some x) None) (gathered ++ x ∷ []) front) (sym (gathering-few rs g x (omega (arith, ap length is))))
        (record {
          bytes = sh.bytes;
          held = held-collected phase (cond (alike_with (length gathered) (equals same x)) (Some x) None) (gathered ++ x ∷ []) calm ∙ ap (λ y. y ++ x ∷ []) is;
          phase_is = sh.phase_is;
          same_is = ap₂ (λ a b. cond (alike_with (length a) (equals b x)) (Some x) None) is sh.same_is ∙ shared-push g x;
        })
    collected-shows (packing rs p g) ok sh calm less =
        let is = group-is (packing rs p g) sh calm in
        subst (Shows w phase (cond (alike_with (length gathered) (equals same x)) (Some x) None) (gathered ++ x ∷ []) front) (sym (packing-few rs p g x ok.1 (omega (arith, ap length is))))
        (record {
          bytes = sh.bytes;
          held = held-collected phase (cond (alike_with (length gathered) (equals same x)) (Some x) None) (gathered ++ x ∷ []) calm ∙ ap (λ y. y ++ x ∷ []) is;
          phase_is = sh.phase_is;
          same_is = ap₂ (λ a b. cond (alike_with (length a) (equals b x)) (Some x) None) is sh.same_is ∙ shared-push g x;
        })
    collected-shows (repeating rs n v) ok sh calm less = absurd (both_ways (repeats phase) calm (ap repeats sh.phase_is))

    -- ---- eight equal values
    pub begun-shows : (s : State) → Sound w m s → Shows w phase same gathered front s → repeats phase ≡ false → length gathered ≡ 7 → alike_with (length gathered) (equals same x) ≡ true
        → Shows w (Repeating 8) (Some x) [] front (step s x)
    begun-shows (gathering rs g) ok sh calm seven equal =
        let is = group-is (gathering rs g) sh calm in
        let all = sym (alike-is (gathering rs g) sh calm g (sym is) sh.same_is) ∙ equal in
        subst (Shows w (Repeating 8) (Some x) [] front) (sym (gathering-equal rs g x (omega (arith, ap length is)) all ∙ ap (repeating rs 8) (begun-value g x (omega (arith, ap length is)) all)))
        (record { bytes = sh.bytes; held = refl; phase_is = refl; same_is = refl })
    begun-shows (packing rs p g) ok sh calm seven equal =
        let is = group-is (packing rs p g) sh calm in
        let all = sym (alike-is (packing rs p g) sh calm g (sym is) sh.same_is) ∙ equal in
        subst (Shows w (Repeating 8) (Some x) [] front) (sym (packing-equal rs p g x ok.1 (omega (arith, ap length is)) all ∙ ap (repeating (rs ++ packed p ∷ []) 8) (begun-value g x (omega (arith, ap length is)) all)))
        (record { bytes = sh.bytes; held = refl; phase_is = refl; same_is = refl })
    begun-shows (repeating rs n v) ok sh calm seven equal = absurd (both_ways (repeats phase) calm (ap repeats sh.phase_is))

    -- ---- eight other values
    pub opened-shows : (s : State) → Sound w m s → Shows w phase same gathered front s → phase ≡ Gathering → length gathered ≡ 7 → alike_with (length gathered) (equals same x) ≡ false
        → {front' : List ℕ} → front' ≡ front ++ 3 ∷ group_bytes w (gathered ++ x ∷ []) → Shows w (Packing (length front) 1) None [] front' (step s x)
    opened-shows (gathering rs g) ok sh is seven mixed {front'} now =
        let group = group-is (gathering rs g) sh (calm-gathering is) in
        let all = sym (alike-is (gathering rs g) sh (calm-gathering is) g (sym group) sh.same_is) ∙ mixed in
        let size : length (g ++ x ∷ []) ≡ 8 = length_push g x ∙ omega (arith, ap length group) in
        subst (Shows w (Packing (length front) 1) None [] front') (sym (gathering-mixed rs g x (omega (arith, ap length group)) all))
        (record {
          bytes = now ∙ ap₂ (λ a b. a ++ 3 ∷ group_bytes w (b ++ x ∷ [])) sh.bytes group ∙ sym (first-group-written w rs (g ++ x ∷ []) size);
          held = refl;
          phase_is = ap₂ Packing (ap length sh.bytes) (sym (ap (λ n. n / 8) size));
          same_is = refl;
        })
    opened-shows (packing rs p g) ok sh is seven mixed now = let z : ◌≡◌ {A = ℕ} 0 1 = cc (is, sh.phase_is) in absurd (omega arith)
    opened-shows (repeating rs n v) ok sh is seven mixed now = let z : ◌≡◌ {A = ℕ} 0 1 = cc (is, sh.phase_is) in absurd (omega arith)

    pub grown-shows : (header groups : ℕ) (s : State) → Sound w m s → Shows w phase same gathered front s → phase ≡ Packing header groups → length gathered ≡ 7 → alike_with (length gathered) (equals same x) ≡ false
        → {front' : List ℕ} → front' ≡ set front header (2 * (groups + 1) + 1) ++ group_bytes w (gathered ++ x ∷ [])
        → Shows w (cond (eqb (groups + 1) 63) Gathering (Packing header (groups + 1))) None [] front' (step s x)
    grown-shows header groups (gathering rs g) ok sh is seven mixed now = let z : ◌≡◌ {A = ℕ} 0 1 = cc (is, sh.phase_is) in absurd (omega arith)
    grown-shows header groups (packing rs p g) ok sh is seven mixed {front'} now =
        let group = group-is (packing rs p g) sh (calm-packing is) in
        let long : length gathered ≡ length g = ap length group in
        let all = sym (alike-is (packing rs p g) sh (calm-packing is) g (sym group) sh.same_is) ∙ mixed in
        let size : length (g ++ x ∷ []) ≡ 8 = length_push g x ∙ omega arith in
        let place : header ≡ length (flat_map (bytes_of w) rs) = cc (is, sh.phase_is) in
        let count : groups ≡ length p / 8 = cc (is, sh.phase_is) in
        let eights : length p ≡ 8 * groups = omega (arith, ok.3) in
        let both : length (p ++ (g ++ x ∷ [])) ≡ length p + length (g ++ x ∷ []) = length-append p (g ++ x ∷ []) in
        let next = cond (eqb (groups + 1) 63) Gathering (Packing header (groups + 1)) in
        let rest : held_in next None [] ≡ [] = held-collected next None [] (cond_both (eqb (groups + 1) 63) Gathering (Packing header (groups + 1)) (λ q. repeats q ≡ false) (λ e. refl) (λ e. refl)) in
        let stands : front' ≡ flat_map (bytes_of w) (rs ++ packed (p ++ (g ++ x ∷ [])) ∷ []) =
        now
        ∙ ap₂ (λ a b. set a header (2 * (groups + 1) + 1) ++ group_bytes w (b ++ x ∷ [])) sh.bytes group
        ∙ ap (λ h. set (flat_map (bytes_of w) (rs ++ packed p ∷ [])) h (2 * (groups + 1) + 1) ++ group_bytes w (g ++ x ∷ [])) place
        ∙ sym (group-written w groups p (g ++ x ∷ []) eights rs size (omega (arith, ok.2))) in
        ⊎_elim
        (λ full.
        subst (Shows w next None [] front') (sym (packing-full rs p g x (omega arith) all (omega arith)))
        (record {
          bytes = stands;
          held = rest;
          phase_is = cond-true (eqb (groups + 1) 63) Gathering (Packing header (groups + 1)) (eq-eqb (groups + 1) 63 full);
          same_is = refl;
        }))
        (λ more.
        subst (Shows w next None [] front') (sym (packing-mixed rs p g x (omega arith) all (λ e. more (omega arith))))
        (record {
          bytes = stands;
          held = rest;
          phase_is =
              cond-false (eqb (groups + 1) 63) Gathering (Packing header (groups + 1)) (ne_eqb (groups + 1) 63 more)
              ∙ ap₂ Packing place (let n : groups + 1 ≡ length (p ++ (g ++ x ∷ [])) / 8 = omega arith in n);
          same_is = refl;
        }))
        (cases_eq (groups + 1) 63)
    grown-shows header groups (repeating rs n v) ok sh is seven mixed now = let z : ◌≡◌ {A = ℕ} 0 1 = cc (is, sh.phase_is) in absurd (omega arith)

  -- the open run's header stands in what is written, and there is room for a group
  pub header-bounds : (header groups : ℕ) (s : State) → Sound w m s → Shows w phase same gathered front s → phase ≡ Packing header groups → (header < length front) × (groups + 1 ≤ 63)
  header-bounds header groups (gathering rs g) ok sh is = let z : ◌≡◌ {A = ℕ} 0 1 = cc (is, sh.phase_is) in absurd (omega arith)
  header-bounds header groups (packing rs p g) ok sh is =
      let place : header ≡ length (flat_map (bytes_of w) rs) = cc (is, sh.phase_is) in
      let count : groups ≡ length p / 8 = cc (is, sh.phase_is) in
      let long : length front ≡ length (flat_map (bytes_of w) rs) + length (bytes_of w (packed p)) =
      ap length (sh.bytes ∙ joined-push (bytes_of w) rs (packed p)) ∙ length-append (flat_map (bytes_of w) rs) (bytes_of w (packed p)) in
      let some : 1 + length p / 8 * w ≡ length (bytes_of w (packed p)) = sym (length-packed w (length p / 8) p (omega (arith, ok.3)) (omega (arith, ok.2))) in
      (omega arith, omega (arith, ok.2, ok.3))
  header-bounds header groups (repeating rs n v) ok sh is = let z : ◌≡◌ {A = ℕ} 0 1 = cc (is, sh.phase_is) in absurd (omega arith)
