-- What an encoder's fields show, and what follows for the list that it accepted.
use Rattle.std.proofs.Common.{◌≡◌, ℕ, ◌+◌, ◌*◌, ◌^◌, ◌<◌, ◌≤◌, true, false, ltb, List, [], ◌∷◌, ◌++◌, length, take, set, Option, sym, refl, ap, ◌∙◌, subst, ap₂, arith, lit≤, length-append, length-set, length-take-le, set-set}
use lib.Seq.{take-set-le, take-set-lt}
use Rattle.std.specs.List.{AllByRecursion}
use Rattle.std.proofs.ByRecursion.{All-append}
use Rattle.std.proofs.lemmas.Bool.{lt-ltb, cond-true}
use Rattle.arrayvec.specs.ArrayVec.{array_vec_len}
use Rattle.column.specs.Putting.{Column}
use Rattle.rle.specs.Runs.{State, steps, state, page, closing}
use Rattle.rle.specs.Writing.{written, pending, recalled}
use Rattle.rle.proofs.Splitting.{Sound, state-sound}
use Rattle.rle.proofs.Writing.{recalls, state-append}
use Rattle.rle_encoder.specs.Encoding.{Kept, accepted_of, all_below, front_of, held_in, nothing, phase_of, same_of}
use Rattle.rle_encoder.specs.Keeping.{kept-column}
use Rattle.rle_encoder.specs.declared.phase.Phase.{Phase}
use Rattle.rle_encoder.specs.declared.phase.Phase.TheVariants.{Gathering, Packing, Repeating}
use Rattle.rle_encoder.specs.declared.progress.Progress.{Progress}

-- ---- every value is below 2 ^ w

pub all-below : (w : ℕ) (l : List ℕ) → AllByRecursion (λ v. v < 2 ^ w) l → all_below w l ≡ true
all-below w [] a = refl
all-below w (v ∷ vs) a = cond-true (ltb v (2 ^ w)) (all_below w vs) false (lt-ltb v (2 ^ w) a.0) ∙ all-below w vs a.1

-- ---- the bytes that are written

pub front_length : (phase : Phase) (place : ℕ) (out : List ℕ) → place ≤ length out → length (front_of phase place out) ≡ place
front_length Gathering place out inside = length-take-le place out inside
front_length (Packing header groups) place out inside = length-set (take place out) header (2 * groups + 1) ∙ length-take-le place out inside
front_length (Repeating count) place out inside = length-take-le place out inside

-- what has the same bytes in front has the same front
pub front_same : (phase : Phase) (place : ℕ) (s t : List ℕ) → take place s ≡ take place t → front_of phase place s ≡ front_of phase place t
front_same Gathering place s t e = e
front_same (Packing header groups) place s t e = ap (λ l. set l header (2 * groups + 1)) e
front_same (Repeating count) place s t e = e

pub front-set : (phase : Phase) (place : ℕ) (out : List ℕ) (i b : ℕ) → place ≤ i → front_of phase place (set out i b) ≡ front_of phase place out
front-set phase place out i b behind = front_same phase place (set out i b) out (take-set-le place out i b behind)

-- the header's own byte does not count
pub front-header : (header groups place : ℕ) (out : List ℕ) (b : ℕ) → header < place → front_of (Packing header groups) place (set out header b) ≡ front_of (Packing header groups) place out
front-header header groups place out b before =
    ap (λ l. set l header (2 * groups + 1)) (take-set-lt place out header b before) ∙ set-set (take place out) header b (2 * groups + 1)

pub front-under : {phase : Phase} {header groups : ℕ} (place byte : ℕ) (s : List ℕ) → phase ≡ Packing header groups → header < place → front_of phase place (set s header byte) ≡ front_of phase place s
front-under {header = header} {groups = groups} place byte s is early =
    ap (λ q. front_of q place (set s header byte)) is ∙ front-header header groups place s byte early ∙ ap (λ q. front_of q place s) (sym is)

-- ---- the state that the fields show

-- `front` is what is written
pub record Shows (w : ℕ) (phase : Phase) (same : Option ℕ) (gathered : List ℕ) (front : List ℕ) (s : State) : Type 0 where
  pub bytes : front ≡ written w s
  pub held : held_in phase same gathered ≡ pending s
  pub phase_is : phase ≡ phase_of w s
  pub same_is : same ≡ same_of s

-- the fields show the state of the list l
pub record Stands (p : Progress) (out : List ℕ) (l : List ℕ) : Type 0 where
  pub narrow : p.width ≤ 64
  pub inside : p.written ≤ length out
  pub few : array_vec_len p.gathered ≤ 7
  pub shows : Shows p.width p.phase p.same p.gathered.items (front_of p.phase p.written out) (state l)
  pub column : Column p.width l
  pub counted : p.length ≡ length l
  pub fits : length (page p.width l) ≤ length out

module _ {p : Progress} {out : List ℕ} where
  pub kept-stands : Kept p out → Stands p out (accepted_of p out)
  kept-stands k =
      record {
        narrow = k.narrow;
        inside = k.inside;
        few = k.few;
        shows = record { bytes = k.bytes; held = k.held; phase_is = k.shown; same_is = k.same };
        column = kept-column k;
        counted = k.counted;
        fits = k.fits;
      }

  pub stands-accepted : {l : List ℕ} → Stands p out l → accepted_of p out ≡ l
  unfolding accepted_of
  stands-accepted {l} s = ap₂ (recalled p.width) s.shows.bytes s.shows.held ∙ recalls p.width l s.narrow s.column

  pub stands-kept : {l : List ℕ} → Stands p out l → Kept p out
  stands-kept {l} s =
      let e : l ≡ accepted_of p out = sym (stands-accepted s) in
      record {
        narrow = s.narrow;
        short = omega (arith, s.counted, s.column.count);
        inside = s.inside;
        few = s.few;
        bytes = subst (λ x. front_of p.phase p.written out ≡ written p.width (state x)) e s.shows.bytes;
        held = subst (λ x. held_in p.phase p.same p.gathered.items ≡ pending (state x)) e s.shows.held;
        shown = subst (λ x. p.phase ≡ phase_of p.width (state x)) e s.shows.phase_is;
        same = subst (λ x. p.same ≡ same_of (state x)) e s.shows.same_is;
        counted = subst (λ x. p.length ≡ length x) e s.counted;
        below = subst (λ x. all_below p.width x ≡ true) e (all-below p.width l s.column.below);
        fits = subst (λ x. length (page p.width x) ≤ length out) e s.fits;
      }

  -- what holds of the state
  pub stands-sound : {l : List ℕ} → Stands p out l → Sound p.width (length l) (state l)
  stands-sound {l} s = state-sound p.width l s.column.below

  pub stands-place : {l : List ℕ} → Stands p out l → length (written p.width (state l)) ≡ p.written
  stands-place s = ap length (sym s.shows.bytes) ∙ front_length p.phase p.written out s.inside

  -- other bytes with the same front change nothing of this
  pub stands-front : {l : List ℕ} → Stands p out l → (new : List ℕ) → length new ≡ length out → front_of p.phase p.written new ≡ front_of p.phase p.written out → Stands p new l
  stands-front {l} s new size same =
      record {
        narrow = s.narrow;
        inside = omega (arith, s.inside);
        few = s.few;
        shows = subst (λ f. Shows p.width p.phase p.same p.gathered.items f (state l)) (sym same) s.shows;
        column = s.column;
        counted = s.counted;
        fits = omega (arith, s.fits);
      }

  -- values more
  pub stands-more : {l : List ℕ} → Stands p out l
      → (vs : List ℕ) → AllByRecursion (λ v. v < 2 ^ p.width) vs → p.length + length vs ≤ 2147483647
      → {q : Progress} {new : List ℕ} → q.width ≡ p.width → q.length ≡ p.length + length vs → q.written ≤ length new → array_vec_len q.gathered ≤ 7
      → length (page p.width (l ++ vs)) ≤ length new
      → Shows p.width q.phase q.same q.gathered.items (front_of q.phase q.written new) (steps (state l) vs)
      → Stands q new (l ++ vs)
  stands-more {l} s vs below most {q} {new} w e inside few fits sh =
      let both : length (l ++ vs) ≡ length l + length vs = length-append l vs in
      record {
        narrow = omega (arith, s.narrow);
        inside = inside;
        few = few;
        shows = subst (λ a. Shows a q.phase q.same q.gathered.items (front_of q.phase q.written new) (state (l ++ vs))) (sym w)
            (subst (Shows p.width q.phase q.same q.gathered.items (front_of q.phase q.written new)) (sym (state-append l vs)) sh);
        column = record {
          below = subst (λ a. AllByRecursion (λ v. v < 2 ^ a) (l ++ vs)) (sym w) (All-append (λ v. v < 2 ^ p.width) l vs s.column.below below);
          count = omega (arith, s.counted);
        };
        counted = omega (arith, s.counted);
        fits = subst (λ a. length (page a (l ++ vs)) ≤ length new) (sym w) fits;
      }

pub kept-front : {p : Progress} {out : List ℕ} → Kept p out → (new : List ℕ) → length new ≡ length out → front_of p.phase p.written new ≡ front_of p.phase p.written out → Kept p new
kept-front k new size same = stands-kept (stands-front (kept-stands k) new size same)

pub accepted-front : {p : Progress} {out : List ℕ} → Kept p out → (new : List ℕ) → length new ≡ length out → front_of p.phase p.written new ≡ front_of p.phase p.written out → accepted_of p new ≡ accepted_of p out
accepted-front k new size same = stands-accepted (stands-front (kept-stands k) new size same)

-- nor does a byte behind the front, or the header of an open packed run
pub kept-behind : {p : Progress} {out : List ℕ} (i b : ℕ) → Kept p out → p.written ≤ i → Kept p (set out i b)
kept-behind {p} {out} i b k behind = kept-front k (set out i b) (length-set out i b) (front-set p.phase p.written out i b behind)

pub kept-header : {p : Progress} {out : List ℕ} {header groups : ℕ} (b : ℕ) → Kept p out → p.phase ≡ Packing header groups → header < p.written → Kept p (set out header b)
kept-header {p} {out} {header = header} b k is early = kept-front k (set out header b) (length-set out header b) (front-under p.written b out is early)

-- ---- a new encoder

pub new-stands : (w : ℕ) (out : List ℕ) → w ≤ 64 → Stands (nothing w) out []
unfolding page closing steps
new-stands w out narrow =
    record {
      narrow = narrow;
      inside = omega arith;
      few = lit≤ tt;
      shows = record { bytes = refl; held = refl; phase_is = refl; same_is = refl };
      column = record { below = tt; count = lit≤ tt };
      counted = refl;
      fits = omega arith;
    }
