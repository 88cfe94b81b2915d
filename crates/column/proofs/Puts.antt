-- Puts, one after another.
use Rattle.std.proofs.Common.{◌≡◌, ℕ, suc, ◌+◌, ◌^◌, ◌<◌, ◌≤◌, cond, ltb, leb, List, [], ◌∷◌, ◌++◌, length, get_or, map, take, drop, Some, None, Ok, Err, Option, sym, refl, ap, ◌∙◌, subst, zero-le, add-zero, add_assoc, arith}
use Rattle.std.proofs.ByRecursion.{All-push}
use Rattle.std.proofs.lemmas.List.{append-nil, append_assoc, drop_more, drop_all, get_or-map, length-append, length-map, length_push, length-take-le, take_more}
use Rattle.std.proofs.lemmas.Bool.{cond_both, leb-true, ltb-true}
use Rattle.column.specs.Coding.{Holds}
use Rattle.column.specs.Putting.{accepting, after_put, answered, as_list, counted, fitting, putting, unput}
use Rattle.column.specs.States.{EncoderState, with_more}
use Rattle.column.specs.declared.Refusal.{Refusal}
use Rattle.column.specs.declared.Refusal.TheVariants.{Full, PatternTooWide, ListTooLong}
use Rattle.column.specs.declared.meaning.Meaning
use Rattle.column.specs.declared.putting.PutList.{PutList}

-- an answer with i accepted values before it
abbrev pub shifted : ℕ → PutList → PutList
shifted i r = record { count = i + r.count; refusal = r.refusal }

-- an encoder with another list
abbrev pub with_list : EncoderState → List ℕ → EncoderState
with_list s l = record { width = s.width; room = s.room; accepted = l }

-- the first i patterns were added, and the others are put on
pub record PutsOn (need : ℕ → List ℕ → ℕ) (s : EncoderState) (ps : List ℕ) (i : ℕ) (now : EncoderState) : Type 0 where
  pub added : now ≡ with_more s (take i ps)
  pub rest : putting need s ps ≡ shifted i (putting need now (drop i ps))

pub not-refused : (u : Option Refusal) {t : Unit {0}} → answered u ≡ Ok t → u ≡ None
not-refused None e = refl
not-refused (Some r) e = (cc)

pub was-refused : (u : Option Refusal) {r : Refusal} → answered u ≡ Err r → u ≡ Some r
was-refused None {r} e = (cc)
was-refused (Some q) {r} e = (cc)

module _ (need : ℕ → List ℕ → ℕ) (s : EncoderState) (ps : List ℕ)
    (i : ℕ) (now : EncoderState) (on : PutsOn need s ps i now) where
  -- the next pattern, by whether it is refused
  next-put : (p : ℕ) (u : Option Refusal) → i < length ps → get_or ps i 0 ≡ p → unput need now p ≡ u
      → putting need s ps ≡ shifted i (counted u (putting need (with_more now (p ∷ [])) (drop (i + 1) ps)))
  unfolding putting
  next-put p u h is e =
      on.rest
      ∙ ap (λ xs. shifted i (putting need now xs)) (drop_more ps i 0 h)
      ∙ ap (λ q. shifted i (putting need now (q ∷ drop (i + 1) ps))) is
      ∙ ap (λ x. shifted i (counted x (putting need (with_more now (p ∷ [])) (drop (i + 1) ps)))) e

  refused-at : (p : ℕ) (e : Refusal) → i < length ps → get_or ps i 0 ≡ p → unput need now p ≡ Some e → record { count = i; refusal = Some e } ≡ putting need s ps
  refused-at p e h is u = ap (λ n. record { count = n; refusal = Some e }) (sym (add-zero i)) ∙ sym (next-put p (Some e) h is u)

  more-at : (p : ℕ) → i < length ps → get_or ps i 0 ≡ p → unput need now p ≡ None → PutsOn need s ps (i + 1) (with_more now (p ∷ []))
  more-at p h is u = record {
    added =
        ap (λ n. with_more n (p ∷ [])) on.added
        ∙ ap (with_list s)
        (append_assoc s.accepted (take i ps) (p ∷ [])
        ∙ ap (λ q. s.accepted ++ (take i ps ++ q ∷ [])) (sym is)
        ∙ ap (λ xs. s.accepted ++ xs) (sym (take_more ps i 0 h)));
    rest =
        next-put p None h is u
        ∙ ap (λ n. record { count = n; refusal = (putting need (with_more now (p ∷ [])) (drop (i + 1) ps)).refusal }) (sym (add_assoc i 1 (putting need (with_more now (p ∷ [])) (drop (i + 1) ps)).count));
  }

  all-at : length ps ≤ i → record { count = i; refusal = None } ≡ putting need s ps
  unfolding putting
  all-at h = sym (on.rest ∙ ap (λ xs. shifted i (putting need now xs)) (drop_all i ps h) ∙ ap (λ n. record { count = n; refusal = None }) (add-zero i))

-- the same of values with their patterns, by what their puts answered
module _ {E : Type 0} (f : E → ℕ) (values : List E) (need : ℕ → List ℕ → ℕ) (s : EncoderState) (i : ℕ) (now : EncoderState) (on : PutsOn need s (map f values) i now) where
  module _ (v : E) (inside : i < length values) (is : v ≡ get_or values i v) where
    inside-patterns : i < length (map f values)
    inside-patterns = subst (λ n. i < n) (sym (length-map values f)) inside

    pattern-is : get_or (map f values) i 0 ≡ f v
    pattern-is = get_or-map f values i v 0 inside ∙ ap f (sym is)

    pub put_refused : (e : Refusal) → answered (unput need now (f v)) ≡ Err e → record { count = i; refusal = Some e } ≡ putting need s (map f values)
    put_refused e answer = refused-at need s (map f values) i now on (f v) e inside-patterns pattern-is (was-refused (unput need now (f v)) answer)

    pub put-more : (t : EncoderState) {u : Unit {0}} → answered (unput need now (f v)) ≡ Ok u → t ≡ after_put need now (f v) → PutsOn need s (map f values) (i + 1) t
    put-more t answer after =
        let added = not-refused (unput need now (f v)) answer in
        subst (PutsOn need s (map f values) (i + 1)) (sym (after ∙ ap (λ u. with_list now (accepting u now.accepted (f v ∷ []))) added))
        (more-at need s (map f values) i now on (f v) inside-patterns pattern-is added)

  pub all-put : length values ≤ i → i ≤ length values → record { count = length values; refusal = None } ≡ putting need s (map f values)
  all-put most least =
      let all : length values ≡ i = omega arith in
      ap (λ n. record { count = n; refusal = None }) all ∙ all-at need s (map f values) i now on (subst (λ n. n ≤ i) (sym (length-map values f)) most)

-- one pattern is put as a list of it
module _ (need : ℕ → List ℕ → ℕ) (s : EncoderState) (p : ℕ) where
  pub one-put : as_list (answered (unput need s p)) ≡ putting need s (p ∷ [])
  unfolding putting
  one-put = go (unput need s p)
    where
      go : (u : Option Refusal) → as_list (answered u) ≡ counted u (record { count = 0; refusal = None })
      go None = refl
      go (Some e) = refl

  pub one-added : after_put need s p ≡ with_more s (take (putting need s (p ∷ [])).count (p ∷ []))
  unfolding putting
  one-added = go (unput need s p)
    where
      go : (u : Option Refusal) → with_list s (accepting u s.accepted (p ∷ [])) ≡ with_more s (take (counted u (record { count = 0; refusal = None })).count (p ∷ []))
      go None = refl
      go (Some e) = ap (with_list s) (sym (append-nil s.accepted))

-- a pattern that nothing refuses is below the width, the list is not full, and the longer list fits
pub record Fits (need : ℕ → List ℕ → ℕ) (s : EncoderState) (p : ℕ) : Type 0 where
  pub below : p < 2 ^ s.width
  pub short : length s.accepted < 2147483647
  pub room_is : need s.width (s.accepted ++ p ∷ []) ≤ s.room

module _ (need : ℕ → List ℕ → ℕ) where
  pub unrefused : (s : EncoderState) (p : ℕ) → unput need s p ≡ None → Fits need s p
  unrefused s p =
      let full = fitting (need s.width (s.accepted ++ p ∷ [])) s.room in
      let counts = cond (ltb (length s.accepted) 2147483647) full (Some ListTooLong) in
      cond_both (ltb p (2 ^ s.width)) counts (Some PatternTooWide) (λ u. u ≡ None → Fits need s p)
      (λ below. cond_both (ltb (length s.accepted) 2147483647) full (Some ListTooLong) (λ u. u ≡ None → Fits need s p)
      (λ short. cond_both (leb (need s.width (s.accepted ++ p ∷ [])) s.room) None (Some Full) (λ u. u ≡ None → Fits need s p)
      (λ fits e. record { below = ltb-true p (2 ^ s.width) below; short = ltb-true (length s.accepted) 2147483647 short; room_is = leb-true (need s.width (s.accepted ++ p ∷ [])) s.room fits })
      (λ full e. (cc)))
      (λ long e. (cc)))
      (λ wide e. (cc))

  pub putting-count : (s : EncoderState) (ps : List ℕ) → (putting need s ps).count ≤ length ps
  unfolding putting
  putting-count s [] = zero-le
  putting-count s (p ∷ ps) = go (putting-count (with_more s (p ∷ [])) ps) (unput need s p)
    where
      go : (putting need (with_more s (p ∷ [])) ps).count ≤ length ps → (u : Option Refusal) → (counted u (putting need (with_more s (p ∷ [])) ps)).count ≤ suc (length ps)
      go on (Some e) = zero-le
      go on None = omega (arith, on)

  -- how long the list is afterwards
  pub put-length : (s : EncoderState) (ps : List ℕ) → length (s.accepted ++ take (putting need s ps).count ps) ≡ length s.accepted + (putting need s ps).count
  put-length s ps =
      length-append s.accepted (take (putting need s ps).count ps)
      ∙ ap (λ n. length s.accepted + n) (length-take-le (putting need s ps).count ps (putting-count s ps))

  pub put-bound : (s : EncoderState) (ps : List ℕ) → length s.accepted ≤ 2147483647 → length s.accepted + (putting need s ps).count ≤ 2147483647
  unfolding putting
  put-bound s [] h = omega arith
  put-bound s (p ∷ ps) h = go (put-bound (with_more s (p ∷ [])) ps) (unput need s p) refl
    where
      go : (length (s.accepted ++ p ∷ []) ≤ 2147483647 → length (s.accepted ++ p ∷ []) + (putting need (with_more s (p ∷ [])) ps).count ≤ 2147483647)
          → (u : Option Refusal) → unput need s p ≡ u → length s.accepted + (counted u (putting need (with_more s (p ∷ [])) ps)).count ≤ 2147483647
      go on (Some e) is = omega arith
      go on None is =
          let short : length s.accepted < 2147483647 = (unrefused s p is).short in
          let long = length_push s.accepted p in
          omega (arith, on (omega arith))

-- what an encoder keeps, after more patterns were put
module _ {C : Type 0} (code : Meaning.Ghosts C) where
  pub put_holds : (s : EncoderState) (ps : List ℕ) → Holds code s → Holds code (with_more s (take (putting code.need s ps).count ps))
  unfolding putting
  put_holds s [] h = subst (λ l. Holds code (with_list s l)) (sym (append-nil s.accepted)) h
  put_holds s (p ∷ ps) h = go (put_holds (with_more s (p ∷ [])) ps) (unput code.need s p) refl
    where
      rest : ℕ
      rest = (putting code.need (with_more s (p ∷ [])) ps).count

      go : (Holds code (with_more s (p ∷ [])) → Holds code (with_more (with_more s (p ∷ [])) (take rest ps)))
          → (u : Option Refusal) → unput code.need s p ≡ u → Holds code (with_more s (take (counted u (putting code.need (with_more s (p ∷ [])) ps)).count (p ∷ ps)))
      go on (Some e) is = subst (λ l. Holds code (with_list s l)) (sym (append-nil s.accepted)) h
      go on None is =
          let f = unrefused code.need s p is in
          let one : Holds code (with_more s (p ∷ [])) = record {
            column = record {
              below = All-push (λ v. v < 2 ^ s.width) s.accepted p h.column.below f.below;
              count = rw length_push (omega (arith, f.short));
            };
            allowed = h.allowed;
            fits = f.room_is;
          } in
          let more : suc rest ≡ 1 + rest = omega arith in
          subst (λ l. Holds code (with_list s l)) (append_assoc s.accepted (p ∷ []) (take rest ps) ∙ ap (λ n. s.accepted ++ take n (p ∷ ps)) more) (on one)
