-- The return trip.
use Rattle.std.proofs.Common.{◌≡◌, ℕ, zero, suc, ◌^◌, ◌<◌, ◌≤◌, Bool, true, false, cond, T, ltb, List, [], ◌∷◌, ◌++◌, length, take, drop, replicate, Ok, Err, sym, refl, ap, ◌∙◌, subst, ap₂, zero-le, mod-eq_of_lt, arith, take-add, pow_pos, pow_mono}
use Rattle.std.specs.List.{AllByRecursion}
use Rattle.std.proofs.ByRecursion.{All-append, All-drop, All-take, All-weaker}
use Rattle.std.proofs.lemmas.Bool.{cond_both, ltb-false}
use Rattle.column.specs.Pages.{end, Waiting, opened, with_zeros}
use Rattle.column.specs.Coding.{Holds}
use Rattle.column.specs.Putting.{Column}
use Rattle.column.specs.States.{EncoderState, fresh}
use Rattle.column.specs.Taking.{Taking, taking, taking_as, short_by, behind}
use Rattle.column.specs.Trips.{Kind, Lawful, Putting, patterns, after_call, after_calls, Asking, get, get_batch, skip, taken_by, taken, asked_by, asked, NoFault, Faultless, SamePatterns, HandedBy, Handed, ComesBack, Returned, ReturnTrip}
use Rattle.column.specs.declared.meaning.Meaning
use Rattle.column.specs.declared.declined.Declined.TheVariants.{Refused}
use Rattle.column.specs.declared.Refusal.TheVariants.{ElementTooNarrow}
use Rattle.column.proofs.Puts.{put_holds}

-- ---- what was accepted fits

module _ {C : Type 0} (code : Meaning.Ghosts C) where
  pub calls-hold : (s : EncoderState) (cs : List Putting) → Holds code s → Holds code (after_calls code.need s cs)
  unfolding after_calls
  calls-hold s [] h = h
  calls-hold s (c ∷ cs) h = calls-hold (after_call code.need s c) cs (put_holds code s (patterns c) h)

-- ---- what is taken

abbrev refusing : Waiting → Taking
refusing r = record { answer = Err (Refused ElementTooNarrow); values = []; left = r }

-- by whether the element is too narrow
one-values : (t : Bool) (m : ℕ) (r : Waiting) → (cond t (refusing r) (taking m r)).values ≡ take (cond t 0 m) r.values
one-values true m r = refl
one-values false m r = refl

one_left : (t : Bool) (m : ℕ) (r : Waiting) → (cond t (refusing r) (taking m r)).left ≡ behind (cond t 0 m) r
one_left true m r = refl
one_left false m r = refl

by_values : (w : ℕ) (c : Asking) (r : Waiting) → (taken_by w c r).values ≡ take (asked_by w c) r.values
by_values w (get k) r = one-values (ltb k.bits w) 1 r
by_values w (get_batch k m) r = one-values (ltb k.bits w) m r
by_values w (skip m) r = refl

by_left : (w : ℕ) (c : Asking) (r : Waiting) → (taken_by w c r).left ≡ behind (asked_by w c) r
by_left w (get k) r = one_left (ltb k.bits w) 1 r
by_left w (get_batch k m) r = one_left (ltb k.bits w) m r
by_left w (skip m) r = refl

taken-all : (w : ℕ) (r : Waiting) (cs : List Asking) → taken w r cs ≡ take (asked w cs) r.values
unfolding taken asked
taken-all w r [] = refl
taken-all w r (c ∷ cs) =
    ap₂ (λ x y. x ++ taken w y cs) (by_values w c r) (by_left w c r)
    ∙ ap (λ y. take (asked_by w c) r.values ++ y) (taken-all w (behind (asked_by w c) r) cs)
    ∙ sym (take-add (asked_by w c) (asked w cs) r.values)

-- ---- no fault before the end

short-sound : (t : Bool) (m k : ℕ) → NoFault (cond t (short_by end k) (Ok m))
short-sound true m k = tt
short-sound false m k = tt

one-sound : (t : Bool) (m : ℕ) (vs : List ℕ) → NoFault (cond t (refusing (record { values = vs; ending = end })) (taking m (record { values = vs; ending = end }))).answer
one-sound true m vs = tt
one-sound false m vs = short-sound (ltb (length vs) m) m (length vs)

by-sound : (w : ℕ) (c : Asking) (vs : List ℕ) → NoFault (taken_by w c (record { values = vs; ending = end })).answer
by-sound w (get k) vs = one-sound (ltb k.bits w) 1 vs
by-sound w (get_batch k m) vs = one-sound (ltb k.bits w) m vs
by-sound w (skip m) vs = short-sound (ltb (length vs) m) m (length vs)

all_sound : (w : ℕ) (vs : List ℕ) (cs : List Asking) → Faultless w (record { values = vs; ending = end }) cs
unfolding Faultless
all_sound w vs [] = tt
all_sound w vs (c ∷ cs) =
    (by-sound w c vs, subst (λ r. Faultless w r cs) (sym (by_left w c (record { values = vs; ending = end }))) (all_sound w (drop (asked_by w c) vs) cs))

-- ---- every value handed out has its pattern

abbrev Below : ℕ → List ℕ → Type 0
Below w vs = AllByRecursion (λ p. p < 2 ^ w) vs

module _ (w : ℕ) (narrow : w ≤ 64) where
  again-same : (k : Kind) → Lawful k → w ≤ k.bits → (p : ℕ) → p < 2 ^ w → k.again p ≡ p
  again-same k lawful wide p below =
      let small : p < 2 ^ 64 = omega (arith, pow_mono narrow) in
      let fits : p < 2 ^ k.bits = omega (arith, pow_mono wide) in
      lawful p small ∙ mod-eq_of_lt fits

  one_same : (k : Kind) (m : ℕ) (r : Waiting) → Below w r.values → SamePatterns k (taking_as k.bits w m r).values
  one_same k m r below lawful =
      cond_both (ltb k.bits w) (refusing r) (taking m r) (λ t. AllByRecursion (λ p. k.again p ≡ p) t.values)
      (λ short. tt)
      (λ wide.
      All-weaker (λ p. p < 2 ^ w) (λ p. k.again p ≡ p) (again-same k lawful (ltb-false k.bits w wide)) (take m r.values) (All-take (λ p. p < 2 ^ w) m r.values below))

  by-same : (c : Asking) (r : Waiting) → Below w r.values → HandedBy c (taken_by w c r).values
  by-same (get k) r below = one_same k 1 r below
  by-same (get_batch k m) r below = one_same k m r below
  by-same (skip m) r below = tt

  all_same : (r : Waiting) (cs : List Asking) → Below w r.values → Handed w r cs
  unfolding Handed
  all_same r [] below = tt
  all_same r (c ∷ cs) below = (
    by-same c r below,
    subst (λ x. Handed w x cs) (sym (by_left w c r)) (all_same (behind (asked_by w c) r) cs (All-drop (λ p. p < 2 ^ w) (asked_by w c) r.values below)),
  )

zeros-below : (w k : ℕ) → Below w (replicate k 0)
zeros-below w zero = tt
zeros-below w (suc k) = (pow_pos w, zeros-below w k)

pub comes_back : (w : ℕ) (l : List ℕ) (k : ℕ) (asks : List Asking) → w ≤ 64 → Below w l → k ≤ 7 → ComesBack w l (with_zeros l k) asks
comes_back w l k asks narrow below few =
    let r = with_zeros l k in
    record {
      zeros = k;
      few = few;
      next = taken-all w r asks;
      no_fault = all_sound w (l ++ replicate k 0) asks;
      handed = all_same w narrow r asks (All-append (λ p. p < 2 ^ w) l (replicate k 0) below (zeros-below w k));
    }

-- ---- over every coding that keeps the laws

module _ {C : Type 0} (code : Meaning.Ghosts C)
    (narrow : (w : ℕ) → T (code.allows w) → w ≤ 64)
    (back : (w : ℕ) (l : List ℕ) → T (code.allows w) → Column w l → (k : ℕ) × (k ≤ 7) × (code.reads w (length l) (code.page w l) ≡ opened (with_zeros l k)))
    (within : (w : ℕ) (l : List ℕ) → T (code.allows w) → Column w l → length (code.page w l) ≤ code.need w l) where
  pub returned : (s : EncoderState) (asks : List Asking) → Holds code s → Returned code s asks
  returned s asks h =
      let b = back s.width s.accepted h.allowed h.column in
      record {
        waiting = with_zeros s.accepted b.0;
        fits = omega (arith, within s.width s.accepted h.allowed h.column, h.fits);
        opens = b.2;
        back = comes_back s.width s.accepted b.0 asks (narrow s.width h.allowed) h.column.below b.1;
        same = λ m e. ap (code.page s.width) e;
      }

  pub return-trip : ReturnTrip code
  return-trip w room puts asks allowed fits =
      returned (after_calls code.need (fresh w room) puts) asks
      (calls-hold code (fresh w room) puts (record { column = record { below = tt; count = zero-le }; allowed = allowed; fits = fits }))
