-- How long the page is with one value more.
use Rattle.std.proofs.Common.{◌≡◌, ℕ, ◌+◌, ◌*◌, ◌≤◌, false, cond, eqb, List, [], ◌∷◌, ◌++◌, length, replicate, Option, sym, refl, ap, ◌∙◌, ap₂, arith}
use Rattle.std.specs.List.{flat_map}
use Rattle.std.proofs.lemmas.Bool.{eqb-false}
use Rattle.packed.specs.Vlq.{vlq}
use Rattle.rle.specs.Runs.{State, gathering, packing, repeating, bytes_of, value_bytes, closing, steps, step, state, page}
use Rattle.rle.specs.Writing.{written, page_length}
use Rattle.rle.proofs.Splitting.{Sound}
use Rattle.rle.proofs.Standing.{page-short}
use Rattle.rle.proofs.Writing.{state-append, state-push, repeating-more, repeated-length, repeating-other-length, gathering-length, packing-length, page-length, written-short}
use Rattle.rle_encoder.specs.Encoder.{repeats}
use Rattle.rle_encoder.specs.Encoding.{alike_with, equals, joins}
use Rattle.rle_encoder.specs.Extending.{or_zero}
use Rattle.rle_encoder.specs.declared.progress.Progress.{Progress}
use Rattle.rle_encoder.specs.declared.phase.Phase.{Phase}
use Rattle.rle_encoder.specs.declared.phase.Phase.TheVariants.{Gathering, Packing, Repeating}
use Rattle.rle_encoder.proofs.Keeping.{Shows, Stands, stands-sound, stands-place}
use Rattle.rle_encoder.proofs.Steps.{group-is, shared-more}

module _ (w m : ℕ) {phase : Phase} {same : Option ℕ} {gathered : List ℕ} {front : List ℕ} where
  run_length : (n k : ℕ) (s : State) → phase ≡ Repeating n → Shows w phase same gathered front s → page_length w (steps s (replicate k (or_zero same))) ≡ length (written w s) + length (vlq (2 * (n + k))) + value_bytes w
  run_length n k (gathering rs g) is sh = let z : ◌≡◌ {A = ℕ} 0 1 = cc (is, sh.phase_is) in absurd (omega arith)
  run_length n k (packing rs p g) is sh = let z : ◌≡◌ {A = ℕ} 0 1 = cc (is, sh.phase_is) in absurd (omega arith)
  run_length n k (repeating rs j v) is sh =
      let count : j ≡ n = cc (is, sh.phase_is) in
      ap (page_length w) (ap (λ x. steps (repeating rs j v) (replicate k x)) (ap or_zero sh.same_is) ∙ repeating-more rs j v k ∙ ap (λ x. repeating rs (x + k) v) count)
      ∙ repeated-length w rs (n + k) v

  other_length : (n x : ℕ) (s : State) → phase ≡ Repeating n → equals same x ≡ false → Shows w phase same gathered front s → page_length w (step s x) ≡ length (written w s) + length (vlq (2 * n)) + value_bytes w + 1 + value_bytes w
  other_length n x (gathering rs g) is other sh = let z : ◌≡◌ {A = ℕ} 0 1 = cc (is, sh.phase_is) in absurd (omega arith)
  other_length n x (packing rs p g) is other sh = let z : ◌≡◌ {A = ℕ} 0 1 = cc (is, sh.phase_is) in absurd (omega arith)
  other_length n x (repeating rs j v) is other sh =
      let count : j ≡ n = cc (is, sh.phase_is) in
      let differs : eqb x v ≡ false = sym (ap (λ o. equals o x) sh.same_is) ∙ other in
      repeating-other-length w rs j v x (λ e. eqb-false x v differs e)
      ∙ ap (λ a. length (flat_map (bytes_of w) rs) + length (vlq (2 * a)) + value_bytes w + 1 + value_bytes w) count

  module _ (x : ℕ) (few : length gathered ≤ 7) where
    gather-length : (s : State) → phase ≡ Gathering → Shows w phase same gathered front s → page_length w (step s x) ≡ length (written w s) + 1 + cond (alike_with (length gathered) (equals same x)) (value_bytes w) w
    gather-length (gathering rs g) is sh =
        let group = group-is w m (gathering rs g) sh (ap repeats is) in
        gathering-length w rs g x (omega (arith, ap length group))
        ∙ ap (λ b. length (flat_map (bytes_of w) rs) + 1 + cond b (value_bytes w) w) (sym (ap₂ (λ a b. alike_with (length a) (equals b x)) group sh.same_is ∙ shared-more g x))
    gather-length (packing rs p g) is sh = let z : ◌≡◌ {A = ℕ} 0 1 = cc (is, sh.phase_is) in absurd (omega arith)
    gather-length (repeating rs n v) is sh = let z : ◌≡◌ {A = ℕ} 0 1 = cc (is, sh.phase_is) in absurd (omega arith)

    pack-length : (header groups : ℕ) (s : State) → Sound w m s → phase ≡ Packing header groups → Shows w phase same gathered front s → page_length w (step s x) ≡ length (written w s) + cond (eqb (length gathered) 7) (cond (alike_with (length gathered) (equals same x)) (1 + value_bytes w) w) w
    pack-length header groups (gathering rs g) ok is sh = let z : ◌≡◌ {A = ℕ} 0 1 = cc (is, sh.phase_is) in absurd (omega arith)
    pack-length header groups (packing rs p g) ok is sh =
        let group = group-is w m (packing rs p g) sh (ap repeats is) in
        packing-length w rs p ok.1 ok.2 ok.3 g x (omega (arith, ap length group))
        ∙ ap₂ (λ a b. length (written w (packing rs p g)) + cond (eqb a 7) (cond b (1 + value_bytes w) w) w) (sym (ap length group)) (sym (ap₂ (λ a b. alike_with (length a) (equals b x)) group sh.same_is ∙ shared-more g x))
    pack-length header groups (repeating rs n v) ok is sh = let z : ◌≡◌ {A = ℕ} 0 1 = cc (is, sh.phase_is) in absurd (omega arith)

module _ {p : Progress} {out l : List ℕ} (st : Stands p out l) where
  longer : (vs : List ℕ) → length (page p.width (l ++ vs)) ≡ page_length p.width (steps (state l) vs)
  longer vs = page-length p.width (l ++ vs) ∙ ap (page_length p.width) (state-append l vs)

  pub stands-run : (n k : ℕ) → p.phase ≡ Repeating n → length (page p.width (l ++ replicate k (or_zero p.same))) ≡ p.written + length (vlq (2 * (n + k))) + value_bytes p.width
  stands-run n k is =
      longer (replicate k (or_zero p.same))
      ∙ run_length p.width (length l) n k (state l) is st.shows
      ∙ ap (λ a. a + length (vlq (2 * (n + k))) + value_bytes p.width) (stands-place st)

  one_more : (x : ℕ) → length (page p.width (l ++ x ∷ [])) ≡ page_length p.width (step (state l) x)
  one_more x = page-length p.width (l ++ x ∷ []) ∙ ap (page_length p.width) (state-push l x)

  pub stands-other : (n x : ℕ) → p.phase ≡ Repeating n → equals p.same x ≡ false → length (page p.width (l ++ x ∷ [])) ≡ p.written + length (vlq (2 * n)) + value_bytes p.width + 1 + value_bytes p.width
  stands-other n x is other =
      one_more x
      ∙ other_length p.width (length l) n x (state l) is other st.shows
      ∙ ap (λ a. a + length (vlq (2 * n)) + value_bytes p.width + 1 + value_bytes p.width) (stands-place st)

  pub stands-gather : (x : ℕ) → p.phase ≡ Gathering → length (page p.width (l ++ x ∷ [])) ≡ p.written + 1 + cond (joins p x) (value_bytes p.width) p.width
  stands-gather x is =
      one_more x
      ∙ gather-length p.width (length l) x st.few (state l) is st.shows
      ∙ ap (λ a. a + 1 + cond (joins p x) (value_bytes p.width) p.width) (stands-place st)

  pub stands-pack : (header groups x : ℕ) → p.phase ≡ Packing header groups → length (page p.width (l ++ x ∷ [])) ≡ p.written + cond (eqb (length p.gathered.items) 7) (cond (joins p x) (1 + value_bytes p.width) p.width) p.width
  stands-pack header groups x is =
      one_more x
      ∙ pack-length p.width (length l) x st.few header groups (state l) (stands-sound st) is st.shows
      ∙ ap (λ a. a + cond (eqb (length p.gathered.items) 7) (cond (joins p x) (1 + value_bytes p.width) p.width) p.width) (stands-place st)

  -- what is written is short
  pub stands-short : p.written ≤ 63 + 9 * p.length
  stands-short =
      omega (arith, written-short p.width (length l) (state l) (stands-sound st), page-length p.width l, page-short p.width l st.narrow st.column.below st.column.count, stands-place st, st.counted)

-- the empty list needs no byte
pub need-none : (w : ℕ) → length (page w []) ≡ 0
unfolding page closing steps
need-none w = refl
