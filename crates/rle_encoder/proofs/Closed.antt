-- How a page ends: what comes behind the bytes that are written.
use Rattle.std.proofs.Common.{◌≡◌, ℕ, suc, ◌+◌, ◌-◌, ◌*◌, ◌/◌, ◌^◌, ◌<◌, ◌≤◌, true, false, eqb, List, [], ◌∷◌, ◌++◌, length, take, drop, set, replicate, Option, Some, None, sym, refl, ap, ◌∙◌, subst, ap₂, arith, length-append, length-set, length-take-le, take-take, take_at, set-set, pow_pos}
use borrow.Rule.Slice.PartMut.{put_mid}
use lib.Seq.{take-append-le, take-set-lt}
use Rattle.std.specs.List.{flat_map, AllByRecursion}
use Rattle.std.specs.Option.{is_some}
use Rattle.std.proofs.ByRecursion.{All-append}
use Rattle.std.proofs.lemmas.List.{append-nil, drop_all, length-drop, length-replicate}
use Rattle.std.proofs.lemmas.Bool.{both_ways, eqb-false}
use Rattle.packed.specs.Bytes.{overwrite}
use Rattle.packed.proofs.Overwrite.{overwrite-set, take-overwrite}
use Rattle.rle.specs.Hybrid.{Hybrid}
use Rattle.rle.specs.Runs.{repeated, State, gathering, packing, repeating, bytes_of, state, padded, closing, page}
use Rattle.rle.proofs.Splitting.{Sound}
use Rattle.rle.proofs.Standing.{page-stands}
use Rattle.rle.proofs.Writing.{closed-nothing, closed-equal, closed-mixed, closed-packed, closed-padded, closed-repeating, page-length, written-short}
use Rattle.rle_encoder.specs.Encoder.{repeats}
use Rattle.rle_encoder.specs.Encoding.{Kept, accepted_of, group_bytes, run_bytes}
use Rattle.rle_encoder.specs.Extending.{or_zero}
use Rattle.rle_encoder.specs.Finishing.{Ended, Finished}
use Rattle.rle_encoder.specs.declared.phase.Phase.{Phase}
use Rattle.rle_encoder.specs.declared.phase.Phase.TheVariants.{Gathering, Packing, Repeating}
use Rattle.rle_encoder.specs.declared.progress.Progress.{Progress}
use Rattle.rle_encoder.proofs.Added.{copied, front-gathering, front-packing, front-run, length-group, replicated}
use Rattle.rle_encoder.proofs.Keeping.{Shows, Stands, front_length, front_same, kept-front, kept-stands, stands-place, stands-sound}
use Rattle.rle_encoder.proofs.Steps.{group-below, group-is, header-bounds, run-bounds, shared-all, shared-mixed}

-- ---- the page, by what is held

module _ (w m : ℕ) {phase : Phase} {same : Option ℕ} {gathered : List ℕ} {front : List ℕ} where
  repeating-end : (n : ℕ) (s : State) → phase ≡ Repeating n → Shows w phase same gathered front s → flat_map (bytes_of w) (closing s) ≡ front ++ bytes_of w (repeated n (or_zero same))
  repeating-end n (gathering rs g) is sh = let z : ◌≡◌ {A = ℕ} 0 1 = cc (is, sh.phase_is) in absurd (omega arith)
  repeating-end n (packing rs p g) is sh = let z : ◌≡◌ {A = ℕ} 0 1 = cc (is, sh.phase_is) in absurd (omega arith)
  repeating-end n (repeating rs k v) is sh =
      let count : k ≡ n = cc (is, sh.phase_is) in
      closed-repeating w rs k v ∙ ap₂ ◌++◌ (sym sh.bytes) (ap₂ (λ a b. bytes_of w (repeated a b)) count (sym (ap or_zero sh.same_is)))

  empty-end : (s : State) → repeats phase ≡ false → length gathered ≡ 0 → Shows w phase same gathered front s → flat_map (bytes_of w) (closing s) ≡ front
  empty-end (gathering rs []) calm none sh = closed-nothing w rs ∙ sym sh.bytes
  empty-end (gathering rs (x ∷ g)) calm none sh = absurd (let long : length gathered ≡ suc (length g) = ap length (group-is w m (gathering rs (x ∷ g)) sh calm) in omega arith)
  empty-end (packing rs p []) calm none sh = closed-packed w rs p ∙ sym sh.bytes
  empty-end (packing rs p (x ∷ g)) calm none sh = absurd (let long : length gathered ≡ suc (length g) = ap length (group-is w m (packing rs p (x ∷ g)) sh calm) in omega arith)
  empty-end (repeating rs n v) calm none sh = absurd (both_ways (repeats phase) calm (ap repeats sh.phase_is))

  equal-end : (s : State) (v : ℕ) → phase ≡ Gathering → same ≡ Some v → Shows w phase same gathered front s → flat_map (bytes_of w) (closing s) ≡ front ++ bytes_of w (repeated (length gathered) (or_zero same))
  equal-end (gathering rs g) v is one sh =
      let group = group-is w m (gathering rs g) sh (ap repeats is) in
      let all = shared-all g v (sym sh.same_is ∙ one) in
      closed-equal w rs g all.0 all.1 ∙ ap₂ ◌++◌ (sym sh.bytes) (ap₂ (λ a b. bytes_of w (repeated (length a) b)) (sym group) (all.2 ∙ sym (ap or_zero one)))
  equal-end (packing rs p g) v is one sh = let z : ◌≡◌ {A = ℕ} 0 1 = cc (is, sh.phase_is) in absurd (omega arith)
  equal-end (repeating rs n u) v is one sh = let z : ◌≡◌ {A = ℕ} 0 1 = cc (is, sh.phase_is) in absurd (omega arith)

  module _ (few : length gathered ≤ 7) where
    mixed-end : (s : State) → phase ≡ Gathering → 0 < length gathered → same ≡ None → Shows w phase same gathered front s → flat_map (bytes_of w) (closing s) ≡ front ++ 3 ∷ group_bytes w (padded gathered)
    mixed-end (gathering rs g) is some none sh =
        let group = group-is w m (gathering rs g) sh (ap repeats is) in
        let long : length gathered ≡ length g = ap length group in
        closed-mixed w rs g (omega arith) (omega arith) (shared-mixed g (omega arith) (sym sh.same_is ∙ none))
        ∙ ap₂ (λ a b. a ++ 3 ∷ group_bytes w (padded b)) (sym sh.bytes) (sym group)
    mixed-end (packing rs p g) is some none sh = let z : ◌≡◌ {A = ℕ} 0 1 = cc (is, sh.phase_is) in absurd (omega arith)
    mixed-end (repeating rs n v) is some none sh = let z : ◌≡◌ {A = ℕ} 0 1 = cc (is, sh.phase_is) in absurd (omega arith)

    packed-end : (header groups : ℕ) (s : State) → Sound w m s → phase ≡ Packing header groups → 0 < length gathered → Shows w phase same gathered front s
        → flat_map (bytes_of w) (closing s) ≡ set front header (2 * (groups + 1) + 1) ++ group_bytes w (padded gathered)
    packed-end header groups (gathering rs g) ok is some sh = let z : ◌≡◌ {A = ℕ} 0 1 = cc (is, sh.phase_is) in absurd (omega arith)
    packed-end header groups (packing rs p g) ok is some sh =
        let group = group-is w m (packing rs p g) sh (ap repeats is) in
        let long : length gathered ≡ length g = ap length group in
        let place : header ≡ length (flat_map (bytes_of w) rs) = cc (is, sh.phase_is) in
        let count : groups ≡ length p / 8 = cc (is, sh.phase_is) in
        closed-padded w rs groups p g (omega (arith, ok.3)) (omega (arith, ok.2, ok.3)) (omega arith) (omega arith)
        ∙ ap₂ (λ a b. set a b (2 * (groups + 1) + 1) ++ group_bytes w (padded g)) (sym sh.bytes) (sym place)
        ∙ ap (λ b. set front header (2 * (groups + 1) + 1) ++ group_bytes w (padded b)) (sym group)
    packed-end header groups (repeating rs n v) ok is some sh = let z : ◌≡◌ {A = ℕ} 0 1 = cc (is, sh.phase_is) in absurd (omega arith)

-- bytes behind a front are the page's end
ended_by : (w : ℕ) (l s : List ℕ) (place : ℕ) (bytes : List ℕ) → place ≤ length s → page w l ≡ take place s ++ bytes → (place + length bytes ≡ length (page w l)) × (length (page w l) ≤ length s → Ended w l (place + length bytes) (overwrite s place bytes))
ended_by w l s place bytes inside is =
    let size : length (page w l) ≡ place + length bytes = ap length is ∙ length-append (take place s) bytes ∙ ap (λ n. n + length bytes) (length-take-le place s inside) in
    (sym size, λ room. record { bytes = take-overwrite s place bytes inside ∙ sym is; length_is = sym size })

module _ {p : Progress} {out l : List ℕ} (st : Stands p out l) where
  page-is : page p.width l ≡ flat_map (bytes_of p.width) (closing (state l))
  unfolding page
  page-is = refl

  -- a run, of the value that repeats or of collected values
  run_ends : (n : ℕ) → page p.width l ≡ take p.written out ++ run_bytes p n
      → (p.written + length (run_bytes p n) ≤ length out)
      × ((end : ℕ) (s : List ℕ) → end ≡ p.written + length (run_bytes p n) → s ≡ overwrite out p.written (run_bytes p n) → Ended p.width l end s)
  run_ends n is =
      let b = ended_by p.width l out p.written (run_bytes p n) st.inside is in
      (omega (arith, b.0, st.fits), λ end s e f. subst (λ x. Ended p.width l x s) (sym e) (subst (Ended p.width l (p.written + length (run_bytes p n))) (sym f) (b.1 st.fits)))

  pub repeating-ends : (n : ℕ) → p.phase ≡ Repeating n
      → (p.written + length (run_bytes p n) ≤ length out)
      × ((end : ℕ) (s : List ℕ) → end ≡ p.written + length (run_bytes p n) → s ≡ overwrite out p.written (run_bytes p n) → Ended p.width l end s)
  repeating-ends n is =
      run_ends n (page-is ∙ repeating-end p.width (length l) n (state l) is st.shows ∙ ap (λ f. f ++ run_bytes p n) (front-run p.written out is))

  pub equal-ends : (n v : ℕ) → n ≡ length p.gathered.items → p.phase ≡ Gathering → p.same ≡ Some v
      → (p.written + length (run_bytes p n) ≤ length out)
      × ((end : ℕ) (s : List ℕ) → end ≡ p.written + length (run_bytes p n) → s ≡ overwrite out p.written (run_bytes p n) → Ended p.width l end s)
  equal-ends n v count is one =
      run_ends n
      (page-is ∙ equal-end p.width (length l) (state l) v is one st.shows ∙ ap₂ (λ f k. f ++ run_bytes p k) (front-gathering p.written out is) (sym count))

  pub empty-ends : p.phase ≡ Gathering → length p.gathered.items ≡ 0 → Ended p.width l p.written out
  empty-ends is none =
      let whole = page-is ∙ empty-end p.width (length l) (state l) (ap repeats is) none st.shows ∙ front-gathering p.written out is in
      record { bytes = sym whole; length_is = sym (ap length whole ∙ length-take-le p.written out st.inside) }

  pub open-ends : (header groups : ℕ) → p.phase ≡ Packing header groups
      → (header < p.written) × (groups + 1 ≤ 63) × (length p.gathered.items ≡ 0 → (byte : ℕ) → byte ≡ 2 * groups + 1 → Ended p.width l p.written (set out header byte))
  open-ends header groups is =
      let bounds = header-bounds p.width (length l) header groups (state l) (stands-sound st) st.shows is in
      let early : header < p.written = omega (arith, bounds.0, front_length p.phase p.written out st.inside) in (
        early,
        bounds.1,
        λ none byte byte-is.
            let whole = page-is
            ∙ empty-end p.width (length l) (state l) (ap repeats is) none st.shows
            ∙ front-packing p.written out is
            ∙ ap (set (take p.written out) header) (sym byte-is)
            ∙ sym (take-set-lt p.written out header byte early) in
            let size : length (set out header byte) ≡ length out = length-set out header byte in
            record { bytes = sym whole; length_is = sym (ap length whole ∙ length-take-le p.written (set out header byte) (omega (arith, st.inside))) },
      )

  pub padded-values : repeats p.phase ≡ false → AllByRecursion (λ v. v < 2 ^ p.width) (padded p.gathered.items)
  padded-values calm =
      All-append (λ v. v < 2 ^ p.width) p.gathered.items (replicate (8 - length p.gathered.items) 0) (group-below p.width (length l) (state l) (stands-sound st) st.shows calm) (replicated p.width (8 - length p.gathered.items) 0 (pow_pos p.width))

  pub mixed-ends : p.phase ≡ Gathering → 0 < length p.gathered.items → p.same ≡ None
      → (p.written + 1 + p.width ≤ length out)
      × ((end byte : ℕ) (s : List ℕ) → end ≡ p.written + 1 + p.width → byte ≡ 3 → s ≡ overwrite (set out p.written byte) (p.written + 1) (group_bytes p.width (padded p.gathered.items)) → Ended p.width l end s)
  mixed-ends is some none =
      let bytes = group_bytes p.width (padded p.gathered.items) in
      let long : length bytes ≡ p.width = length-group p.width (padded p.gathered.items) in
      let whole : length (3 ∷ bytes) ≡ 1 + p.width = omega arith in
      let b = ended_by p.width l out p.written (3 ∷ bytes) st.inside
      (page-is
      ∙ mixed-end p.width (length l) st.few (state l) is some none st.shows
      ∙ ap (λ f. f ++ 3 ∷ bytes) (front-gathering p.written out is)) in
      let room : p.written + 1 + p.width ≤ length out = omega (arith, b.0, st.fits) in (
        room,
        λ end byte s e three f.
            subst (λ x. Ended p.width l x s) (let n : p.written + length (3 ∷ bytes) ≡ end = omega arith in n)
            (subst (Ended p.width l (p.written + length (3 ∷ bytes))) (sym (f ∙ ap (λ y. overwrite (set out p.written y) (p.written + 1) bytes) three ∙ overwrite-set out p.written 3 bytes (omega arith))) (b.1 st.fits)),
      )

  pub packed_ends : (header groups : ℕ) → p.phase ≡ Packing header groups → 0 < length p.gathered.items
      → (p.written + p.width ≤ length out)
      × ((end byte : ℕ) (s : List ℕ) → end ≡ p.written + p.width → byte ≡ 2 * (groups + 1) + 1 → s ≡ overwrite (set out header byte) p.written (group_bytes p.width (padded p.gathered.items)) → Ended p.width l end s)
  packed_ends header groups is some =
      let bytes = group_bytes p.width (padded p.gathered.items) in
      let long : length bytes ≡ p.width = length-group p.width (padded p.gathered.items) in
      let early : header < p.written = (open-ends header groups is).0 in
      let byte = 2 * (groups + 1) + 1 in
      let size : length (set out header byte) ≡ length out = length-set out header byte in
      let b = ended_by p.width l (set out header byte) p.written bytes (omega (arith, st.inside))
      (page-is
      ∙ packed-end p.width (length l) st.few header groups (state l) (stands-sound st) is some st.shows
      ∙ ap (λ f. set f header byte ++ bytes) (front-packing p.written out is)
      ∙ ap (λ f. f ++ bytes) (set-set (take p.written out) header (2 * groups + 1) byte)
      ∙ ap (λ a. a ++ bytes) (sym (take-set-lt p.written out header byte early))) in (
        omega (arith, b.0, st.fits),
        λ end found s e h f.
            subst (λ x. Ended p.width l x s) (let n : p.written + length bytes ≡ end = omega arith in n)
            (subst (Ended p.width l (p.written + length bytes)) (sym (f ∙ ap (λ y. overwrite (set out header y) p.written bytes) h)) (b.1 (omega (arith, st.fits)))),
      )

  pub count-bound : (n : ℕ) → p.phase ≡ Repeating n → n ≤ 2147483647
  count-bound n is = omega (arith, (run-bounds p.width (length l) n (state l) (stands-sound st) is st.shows).1, st.column.count)

  -- what is written is no longer than the page
  pub place-before : p.written ≤ length (page p.width l)
  place-before = omega (arith, written-short p.width (length l) (state l) (stands-sound st), page-length p.width l, stands-place st)

-- ---- the page, and zeros behind it

pub cleared : (s part : List ℕ) (end : ℕ) → end ≤ length s → part ≡ replicate (length (take (length s - end) (drop end s))) 0 → put_mid end (length s - end) s part ≡ take end s ++ replicate (length s - end) 0
unfolding overwrite
cleared s part end inside is =
    let rest = length s - end in
    let zeros = replicate {A = ℕ} rest 0 in
    let all : length (take rest (drop end s)) ≡ rest = length-take-le rest (drop end s) (omega (arith, length-drop end s)) in
    let long : length zeros ≡ rest = length-replicate rest 0 in
    copied s part zeros end rest (is ∙ ap (λ n. replicate n 0) all) long
    ∙ ap (λ l. take end s ++ zeros ++ l) (drop_all (end + length zeros) s (omega arith))
    ∙ append-nil (take end s ++ zeros)

pub all_finished : {p : Progress} {out : List ℕ} → Kept p out → {mid exit : List ℕ} {end : ℕ} → Ended p.width (accepted_of p out) end mid → Kept p mid → length mid ≡ length out
    → exit ≡ take end mid ++ replicate (length mid - end) 0 → Finished p.width (accepted_of p out) end (length out) exit × Kept p exit
all_finished {p} {out} k {mid} {exit} {end} ended still size is =
    let st = kept-stands k in
    let l = accepted_of p out in
    let zeros = replicate {A = ℕ} (length mid - end) 0 in
    let long : length zeros ≡ length mid - end = length-replicate (length mid - end) 0 in
    let most : end ≤ length mid = omega (arith, ended.length_is, st.fits) in
    let front : length (take end mid) ≡ end = length-take-le end mid most in
    let whole : length exit ≡ length mid = ap length is ∙ length-append (take end mid) zeros ∙ omega arith in
    let count : length mid - end ≡ length out - length (page p.width l) = omega (arith, ended.length_is) in
    let stands = page-stands p.width l st.column.below st.column.count in
    let kept : page p.width l ≡ take end exit = sym (ap (take end) is ∙ take_at (take end mid) zeros end front ∙ ended.bytes) in (
      record {
        length_is = ended.length_is;
        bytes = is ∙ ap₂ (λ a n. a ++ replicate n 0) ended.bytes count;
        stands = (stands.0, stands.1, subst (λ b. Hybrid p.width b (l ++ replicate stands.0 0)) kept stands.2);
        column = st.column;
        fits = st.fits;
      },
      kept-front still exit whole
          (front_same p.phase p.written exit mid
          (ap (take p.written) is
          ∙ take-append-le p.written (take end mid) zeros (omega (arith, place-before st, ended.length_is))
          ∙ take-take p.written end mid (omega (arith, place-before st, ended.length_is)))),
    )

-- ---- whether collected values share one

pub some-value : (o : Option ℕ) → true ≡ is_some o → (v : ℕ) × (o ≡ Some v)
some-value None is = absurd (both_ways true is refl)
some-value (Some v) is = (v, refl)

pub no-value : (o : Option ℕ) → false ≡ is_some o → o ≡ None
no-value None is = refl
no-value (Some v) is = absurd (both_ways true (sym is) refl)

pub positive : (n : ℕ) → false ≡ eqb n 0 → 0 < n
positive n is = let ne = eqb-false n 0 (sym is) in omega (arith, ne)
