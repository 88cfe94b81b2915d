-- The runs of a list stand for the list, with at most seven zeros behind it.
use Rattle.std.proofs.Common.{◌≡◌, ℕ, zero, suc, ◌+◌, ◌-◌, ◌%◌, ◌^◌, ◌<◌, ◌≤◌, true, false, cond, eqb, ltb, List, [], ◌∷◌, ◌++◌, length, replicate, sym, refl, ap, ◌∙◌, subst, ap₂, ⊎_elim, suc-le-suc, zero-le, not-suc-le-zero, add-zero, zero-add, arith, lit<, lit≤, length-append, pow_pos}
use lib.ListN.{length-replicate}
use Rattle.std.specs.List.{flat_map, AllByRecursion}
use Rattle.std.proofs.lemmas.Grind.{flat_map-append}
use Rattle.std.proofs.lemmas.List.{append_assoc, append-nil, length_push, replicate_more}
use Rattle.std.proofs.ByRecursion.{All-push, All-append, All-weaker}
use lib.Arith.{lt_of_le-ne}
use Rattle.std.proofs.lemmas.Bool.{cases_Bool, eqb-true, eqb-false, ltb-true, ltb-false, cond-true, cond-false, cond_both, both_ways}
use Rattle.rle.specs.Runs.{Run, repeated, packed, State, gathering, packing, repeating, values_of, all_equal, head, close, collecting, pack_group, settle, step, steps, state, padded, closing}

-- ---- the values that a state holds

abbrev pub values_in : List Run → List ℕ
values_in rs = flat_map values_of rs

abbrev pub held : State → List ℕ
held (gathering rs g) = values_in rs ++ g
held (packing rs p g) = values_in rs ++ (p ++ g)
held (repeating rs n v) = values_in rs ++ replicate n v

pub joined-push : {X A : Type 0} (f : X → List A) (xs : List X) (x : X) → flat_map f (xs ++ x ∷ []) ≡ flat_map f xs ++ f x
joined-push f xs x = flat_map-append f xs (x ∷ []) ∙ ap (λ l. flat_map f xs ++ l) (append-nil (f x))

-- a group of equal values is its value repeated
equal-group : (v : ℕ) (g : List ℕ) → all_equal v g ≡ true → g ≡ replicate (length g) v
equal-group v [] e = refl
equal-group v (x ∷ g) e =
    ⊎_elim
    (λ same. ap₂ ◌∷◌ (eqb-true x v same) (equal-group v g (sym (cond-true (eqb x v) (all_equal v g) false same) ∙ e)))
    (λ apart. absurd (both_ways false (refl) (sym (cond-false (eqb x v) (all_equal v g) false apart) ∙ e)))
    (cases_Bool (eqb x v))

close-values : (rs : List Run) (p : List ℕ) → values_in (close rs p) ≡ values_in rs ++ p
close-values rs [] = sym (append-nil (values_in rs))
close-values rs (p ∷ ps) = joined-push values_of rs (packed (p ∷ ps))

collecting-held : (rs : List Run) (p g : List ℕ) → held (collecting rs p g) ≡ values_in rs ++ (p ++ g)
collecting-held rs [] g = refl
collecting-held rs (p ∷ ps) g = refl

pack-held : (rs : List Run) (p : List ℕ) → held (pack_group rs p) ≡ values_in rs ++ p
unfolding pack_group
pack-held rs p =
    cond_both (eqb (length p) 504) (gathering (rs ++ packed p ∷ []) []) (packing rs p []) (λ s. held s ≡ values_in rs ++ p)
    (λ full. append-nil (values_in (rs ++ packed p ∷ [])) ∙ joined-push values_of rs (packed p))
    (λ more. ap (λ l. values_in rs ++ l) (append-nil p))

settle-held : (rs : List Run) (p g : List ℕ) → length g ≤ 8 → held (settle rs p g) ≡ values_in rs ++ (p ++ g)
unfolding settle
settle-held rs p g h =
    cond_both (ltb (length g) 8) (collecting rs p g) (cond (all_equal (head g) g) (repeating (close rs p) 8 (head g)) (pack_group rs (p ++ g))) (λ s. held s ≡ values_in rs ++ (p ++ g))
    (λ few. collecting-held rs p g)
    (λ full.
    cond_both (all_equal (head g) g) (repeating (close rs p) 8 (head g)) (pack_group rs (p ++ g)) (λ s. held s ≡ values_in rs ++ (p ++ g))
    (λ equal.
    let eight : length g ≡ 8 = omega (arith, ltb-false (length g) 8 full) in
    ap₂ ◌++◌ (close-values rs p) (ap (λ n. replicate n (head g)) (sym eight) ∙ sym (equal-group (head g) g equal))
    ∙ append_assoc (values_in rs) p g)
    (λ mixed. pack-held rs (p ++ g)))

-- fewer than eight values are collected
abbrev pub Few : State → Type 0
Few (gathering rs g) = length g < 8
Few (packing rs p g) = length g < 8
Few (repeating rs n v) = Unit {0}

pub step-held : (s : State) (x : ℕ) → Few s → held (step s x) ≡ held s ++ x ∷ []
unfolding step
step-held (gathering rs g) x few =
    settle-held rs [] (g ++ x ∷ []) (rw length_push (omega arith)) ∙ sym (append_assoc (values_in rs) g (x ∷ []))
step-held (packing rs p g) x few =
    settle-held rs p (g ++ x ∷ []) (rw length_push (omega arith))
    ∙ ap (λ l. values_in rs ++ l) (sym (append_assoc p g (x ∷ [])))
    ∙ sym (append_assoc (values_in rs) (p ++ g) (x ∷ []))
step-held (repeating rs n v) x few =
    cond_both (eqb x v) (repeating rs (n + 1) v) (gathering (rs ++ repeated n v ∷ []) (x ∷ [])) (λ s. held s ≡ held (repeating rs n v) ++ x ∷ [])
    (λ same.
    ap (λ l. values_in rs ++ l) (sym (replicate_more n v) ∙ ap (λ y. replicate n v ++ y ∷ []) (sym (eqb-true x v same)))
    ∙ sym (append_assoc (values_in rs) (replicate n v) (x ∷ [])))
    (λ apart. ap (λ l. l ++ x ∷ []) (joined-push values_of rs (repeated n v)))

settle-few : (rs : List Run) (p g : List ℕ) → Few (settle rs p g)
unfolding settle pack_group
settle-few rs p g =
    cond_both (ltb (length g) 8) (collecting rs p g) (cond (all_equal (head g) g) (repeating (close rs p) 8 (head g)) (pack_group rs (p ++ g))) Few
    (λ few. collecting-few p few)
    (λ full. cond_both (all_equal (head g) g) (repeating (close rs p) 8 (head g)) (pack_group rs (p ++ g)) Few (λ equal. tt)
    (λ mixed. cond_both (eqb (length (p ++ g)) 504) (gathering (rs ++ packed (p ++ g) ∷ []) []) (packing rs (p ++ g) []) Few (λ full2. lit< tt) (λ more. lit< tt)))
  where
    collecting-few : (q : List ℕ) → ltb (length g) 8 ≡ true → Few (collecting rs q g)
    collecting-few [] few = ltb-true (length g) 8 few
    collecting-few (q ∷ qs) few = ltb-true (length g) 8 few

pub step-few : (s : State) (x : ℕ) → Few (step s x)
unfolding step
step-few (gathering rs g) x = settle-few rs [] (g ++ x ∷ [])
step-few (packing rs p g) x = settle-few rs p (g ++ x ∷ [])
step-few (repeating rs n v) x =
    cond_both (eqb x v) (repeating rs (n + 1) v) (gathering (rs ++ repeated n v ∷ []) (x ∷ [])) Few (λ same. tt) (λ apart. lit< tt)

pub steps-held : (s : State) (l : List ℕ) → Few s → held (steps s l) ≡ held s ++ l
unfolding steps
steps-held s [] few = sym (append-nil (held s))
steps-held s (x ∷ l) few =
    steps-held (step s x) l (step-few s x) ∙ ap (λ y. y ++ l) (step-held s x few) ∙ append_assoc (held s) (x ∷ []) l

pub steps-few : (s : State) (l : List ℕ) → Few s → Few (steps s l)
unfolding steps
steps-few s [] few = few
steps-few s (x ∷ l) few = steps-few (step s x) l (step-few s x)

-- the state of a list holds the list
pub state-held : (l : List ℕ) → held (state l) ≡ l
state-held l = steps-held (gathering [] []) l (lit< tt)

pub steps-push : (s : State) (l : List ℕ) (x : ℕ) → steps s (l ++ x ∷ []) ≡ step (steps s l) x
unfolding steps
steps-push s [] x = refl
steps-push s (y ∷ l) x = steps-push (step s y) l x

-- ---- what ends a page

closed-values : (rs : List Run) (run : Run) (front : List ℕ) (k : ℕ) → values_of run ≡ front ++ replicate k 0 → values_in (rs ++ run ∷ []) ≡ values_in rs ++ front ++ replicate k 0
closed-values rs run front k e = joined-push values_of rs run ∙ ap (λ l. values_in rs ++ l) e ∙ sym (append_assoc (values_in rs) front (replicate k 0))

-- the runs stand for the values that the state holds, with at most seven zeros behind them
pub closing-values : (s : State) → Few s → (k : ℕ) × (k ≤ 7) × (values_in (closing s) ≡ held s ++ replicate k 0)
unfolding closing
closing-values (gathering rs []) few = (0, lit≤ tt, sym (append-nil (values_in rs)) ∙ sym (append-nil (values_in rs ++ [])))
closing-values (gathering rs (x ∷ g)) few =
    cond_both (all_equal x (x ∷ g)) (repeated (length (x ∷ g)) x) (packed (padded (x ∷ g)))
    (λ run. (k : ℕ) × (k ≤ 7) × (values_in (rs ++ run ∷ []) ≡ held (gathering rs (x ∷ g)) ++ replicate k 0))
    (λ equal. (0, lit≤ tt, closed-values rs (repeated (length (x ∷ g)) x) (x ∷ g) 0 (sym (equal-group x (x ∷ g) equal) ∙ sym (append-nil (x ∷ g)))))
    (λ mixed. (8 - length (x ∷ g), omega arith, closed-values rs (packed (padded (x ∷ g))) (x ∷ g) (8 - length (x ∷ g)) refl))
closing-values (packing rs p []) few =
    (0, lit≤ tt, closed-values rs (packed p) (p ++ []) 0 (sym (append-nil p) ∙ sym (append-nil (p ++ []))))
closing-values (packing rs p (x ∷ g)) few =
    (8 - length (x ∷ g), omega arith, closed-values rs (packed (p ++ padded (x ∷ g))) (p ++ x ∷ g) (8 - length (x ∷ g)) (sym (append_assoc p (x ∷ g) (replicate (8 - length (x ∷ g)) 0))))
closing-values (repeating rs n v) few = (0, lit≤ tt, closed-values rs (repeated n v) (replicate n v) 0 (sym (append-nil (replicate n v))))

pub state-few : (l : List ℕ) → Few (state l)
state-few l = steps-few (gathering [] []) l (lit< tt)

-- ---- every run is one that the format allows

-- a run of values below 2 ^ w: repeated at least once and at most m times, or packed in 1 to 63 groups
abbrev pub RunOk : ℕ → ℕ → Run → Type 0
RunOk w m (repeated n v) = (0 < n) × (n ≤ m) × (v < 2 ^ w)
RunOk w m (packed vs) = (0 < length vs) × (length vs ≤ 504) × (length vs % 8 ≡ 0) × AllByRecursion (λ v. v < 2 ^ w) vs

abbrev pub Below : ℕ → List ℕ → Type 0
Below w l = AllByRecursion (λ v. v < 2 ^ w) l

abbrev pub Sound : ℕ → ℕ → State → Type 0
Sound w m (gathering rs g) = AllByRecursion (RunOk w m) rs × (length g ≤ m) × Below w g × (length g < 8)
Sound w m (packing rs p g) = AllByRecursion (RunOk w m) rs × (0 < length p) × (length p < 504) × (length p % 8 ≡ 0) × Below w p × Below w g × (length g < 8) × (length g ≤ m)
Sound w m (repeating rs n v) = AllByRecursion (RunOk w m) rs × (8 ≤ n) × (n ≤ m) × (v < 2 ^ w)

run_more : (w m : ℕ) (run : Run) → RunOk w m run → RunOk w (m + 1) run
run_more w m (repeated n v) ok = (ok.0, omega (arith, ok.1), ok.2)
run_more w m (packed vs) ok = ok

runs-more : (w m : ℕ) (rs : List Run) → AllByRecursion (RunOk w m) rs → AllByRecursion (RunOk w (m + 1)) rs
runs-more w m rs ok = All-weaker (RunOk w m) (RunOk w (m + 1)) (run_more w m) rs ok

pack-sound : (w m : ℕ) (rs : List Run) (p : List ℕ) → AllByRecursion (RunOk w m) rs → 0 < length p → length p ≤ 504 → length p % 8 ≡ 0 → Below w p → Sound w m (pack_group rs p)
unfolding pack_group
pack-sound w m rs p ok some most groups below =
    cond_both (eqb (length p) 504) (gathering (rs ++ packed p ∷ []) []) (packing rs p []) (Sound w m)
    (λ full. (All-push (RunOk w m) rs (packed p) ok (some, most, groups, below), zero-le, tt, lit< tt))
    (λ more. (ok, some, lt_of_le-ne most (eqb-false (length p) 504 more), groups, below, tt, lit< tt, zero-le))

-- an open run, empty or of whole groups
abbrev Open : ℕ → List ℕ → Type 0
Open w p = (length p < 504) × (length p % 8 ≡ 0) × Below w p

close-sound : (w m : ℕ) (rs : List Run) (p : List ℕ) → AllByRecursion (RunOk w m) rs → Open w p → AllByRecursion (RunOk w m) (close rs p)
close-sound w m rs [] ok o = ok
close-sound w m rs (p ∷ ps) ok o = All-push (RunOk w m) rs (packed (p ∷ ps)) ok (suc-le-suc zero-le, omega (arith, o.0), o.1, o.2)

collecting-sound : (w m : ℕ) (rs : List Run) (p g : List ℕ) → AllByRecursion (RunOk w m) rs → Open w p → length g ≤ m → Below w g → length g < 8 → Sound w m (collecting rs p g)
collecting-sound w m rs [] g ok o long below few = (ok, long, below, few)
collecting-sound w m rs (p ∷ ps) g ok o long below few = (ok, suc-le-suc zero-le, o.0, o.1, o.2, below, few, long)

settle-sound : (w m : ℕ) (rs : List Run) (p g : List ℕ) → AllByRecursion (RunOk w m) rs → Open w p → 0 < length g → length g ≤ 8 → length g ≤ m → Below w g → Sound w m (settle rs p g)
unfolding settle
settle-sound w m rs p g ok o some most long below =
    cond_both (ltb (length g) 8) (collecting rs p g) (cond (all_equal (head g) g) (repeating (close rs p) 8 (head g)) (pack_group rs (p ++ g))) (Sound w m)
    (λ few. collecting-sound w m rs p g ok o long below (ltb-true (length g) 8 few))
    (λ full.
    let eight : length g ≡ 8 = omega (arith, ltb-false (length g) 8 full) in
    cond_both (all_equal (head g) g) (repeating (close rs p) 8 (head g)) (pack_group rs (p ++ g)) (Sound w m)
    (λ equal. (close-sound w m rs p ok o, lit≤ tt, omega arith, head-below g some below))
    (λ mixed.
    let both : length (p ++ g) ≡ length p + 8 = length-append p g ∙ ap (λ n. length p + n) eight in
    pack-sound w m rs (p ++ g) ok (omega arith) (omega (arith, o.0, o.1)) (omega (arith, o.1)) (All-append (λ v. v < 2 ^ w) p g o.2 below)))
  where
    head-below : (l : List ℕ) → 0 < length l → Below w l → head l < 2 ^ w
    head-below [] h b = absurd (not-suc-le-zero h)
    head-below (x ∷ l) h b = b.0

pub step-sound : (w m : ℕ) (s : State) (x : ℕ) → x < 2 ^ w → Sound w m s → Sound w (m + 1) (step s x)
unfolding step
step-sound w m (gathering rs g) x fits ok =
    settle-sound w (m + 1) rs [] (g ++ x ∷ []) (runs-more w m rs ok.0) (lit< tt, refl, tt)
    (rw length_push (omega arith)) (rw length_push (omega (arith, ok.3))) (rw length_push (omega (arith, ok.1))) (All-push (λ v. v < 2 ^ w) g x ok.2 fits)
step-sound w m (packing rs p g) x fits ok =
    settle-sound w (m + 1) rs p (g ++ x ∷ []) (runs-more w m rs ok.0) (ok.2, ok.3, ok.4)
    (rw length_push (omega arith)) (rw length_push (omega (arith, ok.6))) (rw length_push (omega (arith, ok.7))) (All-push (λ v. v < 2 ^ w) g x ok.5 fits)
step-sound w m (repeating rs n v) x fits ok =
    cond_both (eqb x v) (repeating rs (n + 1) v) (gathering (rs ++ repeated n v ∷ []) (x ∷ [])) (Sound w (m + 1))
    (λ same. (runs-more w m rs ok.0, omega (arith, ok.1), omega (arith, ok.2), ok.3))
    (λ apart. (
      All-push (RunOk w (m + 1)) rs (repeated n v) (runs-more w m rs ok.0) (omega (arith, ok.1), omega (arith, ok.2), ok.3),
      omega arith,
      (fits, tt),
      lit< tt,
    ))

pub steps-sound : (w m : ℕ) (s : State) (l : List ℕ) → Below w l → Sound w m s → Sound w (m + length l) (steps s l)
unfolding steps
steps-sound w m s [] below ok = rw add-zero ok
steps-sound w m s (x ∷ l) below ok =
    subst (λ n. Sound w n (steps (step s x) l)) (omega arith) (steps-sound w (m + 1) (step s x) l below.1 (step-sound w m s x below.0 ok))

pub state-sound : (w : ℕ) (l : List ℕ) → Below w l → Sound w (length l) (state l)
state-sound w l below =
    subst (λ n. Sound w n (state l)) (zero-add (length l)) (steps-sound w 0 (gathering [] []) l below (tt, zero-le, tt, lit< tt))

pub zeros-below : (w k : ℕ) → Below w (replicate k 0)
zeros-below w zero = tt
zeros-below w (suc k) = (pow_pos w, zeros-below w k)

pub length-padded : (g : List ℕ) → length g < 8 → length (padded g) ≡ 8
length-padded g few = simp (length-append, length-replicate) (omega arith)

padded-below : (w : ℕ) (g : List ℕ) → Below w g → Below w (padded g)
padded-below w g below = All-append (λ v. v < 2 ^ w) g (replicate (8 - length g) 0) below (zeros-below w (8 - length g))

pub closing-sound : (w m : ℕ) (s : State) → Sound w m s → AllByRecursion (RunOk w m) (closing s)
unfolding closing
closing-sound w m (gathering rs []) ok = ok.0
closing-sound w m (gathering rs (x ∷ g)) ok =
    let eight = length-padded (x ∷ g) ok.3 in
    All-push (RunOk w m) rs (cond (all_equal x (x ∷ g)) (repeated (length (x ∷ g)) x) (packed (padded (x ∷ g)))) ok.0
    (cond_both (all_equal x (x ∷ g)) (repeated (length (x ∷ g)) x) (packed (padded (x ∷ g))) (RunOk w m)
    (λ equal. (suc-le-suc zero-le, ok.1, ok.2.0))
    (λ mixed. (suc-le-suc zero-le, omega arith, ap (λ n. n % 8) eight, padded-below w (x ∷ g) ok.2)))
closing-sound w m (packing rs p []) ok = All-push (RunOk w m) rs (packed p) ok.0 (ok.1, omega (arith, ok.2), ok.3, ok.4)
closing-sound w m (packing rs p (x ∷ g)) ok =
    let eight = length-padded (x ∷ g) ok.6 in
    let both : length (p ++ padded (x ∷ g)) ≡ length p + 8 = length-append p (padded (x ∷ g)) ∙ ap (λ n. length p + n) eight in
    All-push (RunOk w m) rs (packed (p ++ padded (x ∷ g))) ok.0
    (omega arith, omega (arith, ok.2, ok.3), omega (arith, ok.3), All-append (λ v. v < 2 ^ w) p (padded (x ∷ g)) ok.4 (padded-below w (x ∷ g) ok.5))
closing-sound w m (repeating rs n v) ok = All-push (RunOk w m) rs (repeated n v) ok.0 (omega (arith, ok.1), ok.2, ok.3)
