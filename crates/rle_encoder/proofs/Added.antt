-- An encoder after a value was added: what its fields stand for.
use Rattle.std.proofs.Common.{◌≡◌, ℕ, zero, suc, ◌+◌, ◌-◌, ◌*◌, ◌^◌, ◌<◌, ◌≤◌, Bool, true, false, cond, eqb, List, [], ◌∷◌, ◌++◌, length, get_or, take, drop, set, replicate, Option, Some, None, sym, refl, ap, ◌∙◌, subst, ap₂, arith, lit≤, length-append, length-set, length-take-le, take-take, take_all, set-set}
use borrow.Rule.Slice.PartMut.{put_mid}
use lib.ListN.{length-replicate}
use lib.Seq.{take-append-le, take-set-lt, set-append_left, set_at}
use Rattle.std.specs.List.{AllByRecursion}
use Rattle.std.proofs.lemmas.List.{append_assoc, length_push, take_more}
use Rattle.std.proofs.lemmas.Slice.{put_mid-paste}
use Rattle.std.proofs.lemmas.Bool.{cond_both, cond-true, cond-false, eq-eqb}
use Rattle.packed.specs.Bytes.{overwrite}
use Rattle.packed.proofs.Digits.{length_digits}
use Rattle.packed.proofs.Overwrite.{length-overwrite, take-overwrite}
use Rattle.packed.specs.Digits.{number}
use Rattle.rle.specs.Runs.{value_bytes, padded, steps, step, state}
use Rattle.rle.proofs.Writing.{length-repeated}
use Rattle.rle_encoder.specs.Encoder.{Fills, RoomFor, Takes, Unmoved, accepted, more, repeats, width}
use Rattle.rle_encoder.specs.Encoding.{Kept, accepted_of, collected, equals, front_of, group_bytes, group_with, grouped, joins, run_bytes}
use Rattle.rle_encoder.specs.Extending.{or_zero}
use Rattle.rle_encoder.specs.declared.RleEncoder.{RleEncoder}
use Rattle.rle_encoder.specs.declared.phase.Phase.{Phase}
use Rattle.rle_encoder.specs.declared.phase.Phase.TheVariants.{Gathering, Packing, Repeating}
use Rattle.rle_encoder.specs.declared.progress.Progress.{Progress}
use Rattle.rle_encoder.proofs.Keeping.{Shows, Stands, accepted-front, front_length, front_same, kept-front, kept-stands, stands-more, stands-sound}
use Rattle.rle_encoder.proofs.Lengths.{stands-other, stands-gather, stands-pack}
use Rattle.rle_encoder.proofs.Steps.{extended-shows, run-bounds, run-only, closed-shows, collected-shows, begun-shows, group-below, opened-shows, grown-shows, header-bounds}

-- what an encoder's own fields stand for
pub own : (e : RleEncoder) → Stands e.progress e.out.now (accepted e)
own e = kept-stands e.kept

-- a value that is small enough, as often as one likes
pub replicated : (w k v : ℕ) → v < 2 ^ w → AllByRecursion (λ y. y < 2 ^ w) (replicate k v)
replicated w zero v small = tt
replicated w (suc k) v small = (small, replicated w k v small)

pub front-run : {phase : Phase} {n : ℕ} (place : ℕ) (out : List ℕ) → phase ≡ Repeating n → front_of phase place out ≡ take place out
front-run place out is = ap (λ q. front_of q place out) is

pub front-gathering : {phase : Phase} (place : ℕ) (out : List ℕ) → phase ≡ Gathering → front_of phase place out ≡ take place out
front-gathering place out is = ap (λ q. front_of q place out) is

pub front-packing : {phase : Phase} {header groups : ℕ} (place : ℕ) (out : List ℕ) → phase ≡ Packing header groups → front_of phase place out ≡ set (take place out) header (2 * groups + 1)
front-packing place out is = ap (λ q. front_of q place out) is

-- what stands up to the end of bytes that were written at a place
front-more : (s t : List ℕ) (place n : ℕ) (bytes : List ℕ) → place ≤ length s → t ≡ overwrite s place bytes → length bytes ≡ n → take (place + n) t ≡ take place s ++ bytes
front-more s t place n bytes inside is long =
    ap₂ (λ k u. take (place + k) u) (sym long) is ∙ take-overwrite s place bytes inside

one-step : {w : ℕ} {phase : Phase} {same : Option ℕ} {gathered front : List ℕ} (l : List ℕ) (x : ℕ) → Shows w phase same gathered front (step (state l) x) → Shows w phase same gathered front (steps (state l) (x ∷ []))
unfolding steps
one-step l x sh = sh

-- ---- a group of eight

-- seven values and one more are the group with that one at its end
pub group-whole : (g : List ℕ) (x : ℕ) → length g ≡ 7 → set (padded g) 7 x ≡ g ++ x ∷ []
group-whole g x seven = ap (λ n. set (g ++ replicate (8 - n) 0) 7 x) seven ∙ set_at g 0 [] x 7 seven

pub length-group : (w : ℕ) (l : List ℕ) → length (group_bytes w l) ≡ w
length-group w l = length_digits 256 w (number (2 ^ w) l)

module _ (e : RleEncoder) where
  -- ---- the value that repeats
  pub run-facts : (n : ℕ) → e.progress.phase ≡ Repeating n → (1 ≤ n) × (n ≤ e.progress.length) × (or_zero e.progress.same < 2 ^ width e)
  run-facts n is =
      let st = own e in
      let b = run-bounds (width e) (length (accepted e)) n (state (accepted e)) (stands-sound st) is st.shows in
      (b.0, omega (arith, b.1, st.counted), b.2)

  -- beside it nothing is collected
  pub only-run : (n : ℕ) → e.progress.phase ≡ Repeating n → e.progress.gathered.items ≡ []
  only-run n is = run-only (width e) (length (accepted e)) n (state (accepted e)) is (own e).shows

  pub extended : (n k : ℕ) → e.progress.phase ≡ Repeating n → RoomFor e (more e k)
      → Stands (record e.progress { length = e.progress.length + k; phase = Repeating (n + k) }) e.out.now (accepted e ++ more e k)
  extended n k is room =
      let st = own e in
      let long : length (more e k) ≡ k = length-replicate k (or_zero e.progress.same) in
      stands-more st (more e k) (replicated (width e) k (or_zero e.progress.same) (run-facts n is).2) room.count
      refl (let sum : e.progress.length + k ≡ e.progress.length + length (more e k) = omega arith in sum) st.inside st.few room.fits
      (subst (λ f. Shows (width e) (Repeating (n + k)) e.progress.same e.progress.gathered.items f (steps (state (accepted e)) (more e k))) (front-run e.progress.written e.out.now is)
      (extended-shows (width e) (length (accepted e)) n k (state (accepted e)) is st.shows))

  pub header-inside : (header groups : ℕ) → e.progress.phase ≡ Packing header groups → (header < e.progress.written) × (groups + 1 ≤ 63)
  header-inside header groups is =
      let st = own e in
      let b = header-bounds (width e) (length (accepted e)) header groups (state (accepted e)) (stands-sound st) st.shows is in
      (omega (arith, b.0, front_length e.progress.phase e.progress.written e.out.now st.inside), b.1)

  pub gathered-below : repeats e.progress.phase ≡ false → AllByRecursion (λ v. v < 2 ^ width e) e.progress.gathered.items
  gathered-below calm = group-below (width e) (length (accepted e)) (state (accepted e)) (stands-sound (own e)) (own e).shows calm

  -- ---- another value
  module _ (x : ℕ) (takes : Takes e x) where
    next : (q : Progress) (new : List ℕ) → q.width ≡ width e → q.length ≡ e.progress.length + 1 → q.written ≤ length new → length q.gathered.items ≤ 7 → length new ≡ length e.out.now
        → Shows (width e) q.phase q.same q.gathered.items (front_of q.phase q.written new) (step (state (accepted e)) x) → Stands q new (accepted e ++ x ∷ [])
    next q new w count inside few size sh =
        stands-more (own e) (x ∷ []) (takes.below, tt) takes.room_for.count w count inside few (omega (arith, takes.room_for.fits)) (one-step (accepted e) x sh)

    pub close-room : (n : ℕ) → e.progress.phase ≡ Repeating n → equals e.progress.same x ≡ false → e.progress.written + length (run_bytes e.progress n) ≤ length e.out.now
    close-room n is other = omega (arith, takes.room_for.fits, stands-other (own e) n x is other, length-repeated (width e) n (or_zero e.progress.same))

    pub closed : (n : ℕ) {end : ℕ} {bytes : List ℕ} (f : RleEncoder) {q : Progress} → e.progress.phase ≡ Repeating n → equals e.progress.same x ≡ false
        → bytes ≡ run_bytes e.progress n → end ≡ e.progress.written + length bytes → f.out.now ≡ overwrite e.out.now e.progress.written bytes → Unmoved e f
        → q ≡ collected (record f.progress { written = end; phase = Gathering }) x true → Stands q f.out.now (accepted e ++ x ∷ [])
    closed n {end} {bytes} f is other run long wrote unmoved now =
        let st = own e in
        let place = e.progress.written in
        let front : take end f.out.now ≡ front_of e.progress.phase place e.out.now ++ run_bytes e.progress n =
        ap (λ k. take k f.out.now) long
        ∙ front-more e.out.now f.out.now place (length bytes) bytes st.inside wrote refl
        ∙ ap₂ ◌++◌ (sym (front-run e.progress.written e.out.now is)) run in
        let one : length (e.progress.gathered.items ++ x ∷ []) ≡ 1 = ap (λ l. length (l ++ x ∷ [])) (only-run n is) in
        subst (λ p. Stands p f.out.now (accepted e ++ x ∷ [])) (sym (now ∙ ap (λ p. collected (record p { written = end; phase = Gathering }) x true) unmoved.progress_is))
        (next (collected (record e.progress { written = end; phase = Gathering }) x true) f.out.now refl refl
        (omega (arith, close-room n is other, ap length run, unmoved.room_is)) (omega (arith, one)) unmoved.room_is
        (closed-shows (width e) (length (accepted e)) n x (state (accepted e)) is other st.shows front))

    pub collected-one : (alike : Bool) {q : Progress} → repeats e.progress.phase ≡ false → length e.progress.gathered.items < 7 → alike ≡ joins e.progress x
        → q ≡ collected e.progress x alike → Stands q e.out.now (accepted e ++ x ∷ [])
    collected-one alike calm less equal now =
        let st = own e in
        let long : length (e.progress.gathered.items ++ x ∷ []) ≡ length e.progress.gathered.items + 1 = length_push e.progress.gathered.items x ∙ omega arith in
        subst (λ p. Stands p e.out.now (accepted e ++ x ∷ [])) (sym now)
        (next (collected e.progress x alike) e.out.now refl refl st.inside (omega arith) refl
        (subst (λ b. Shows (width e) e.progress.phase (cond b (Some x) None) (e.progress.gathered.items ++ x ∷ []) (front_of e.progress.phase e.progress.written e.out.now) (step (state (accepted e)) x)) (sym equal)
        (collected-shows (width e) (length (accepted e)) x (state (accepted e)) (stands-sound st) st.shows calm less)))

  -- ---- the eighth value of a group
  pub begun : (x : ℕ) (f : RleEncoder) {q : Progress} → Fills e x true → take e.progress.written f.out.now ≡ front_of e.progress.phase e.progress.written e.out.now → Unmoved e f → q ≡ grouped f.progress (Repeating 8) (Some x) → Stands q f.out.now (accepted e ++ x ∷ [])
  begun x f fills whole unmoved now =
      let st = own e in
      subst (λ p. Stands p f.out.now (accepted e ++ x ∷ [])) (sym (now ∙ ap (λ p. grouped p (Repeating 8) (Some x)) unmoved.progress_is))
      (next x fills.takes (grouped e.progress (Repeating 8) (Some x)) f.out.now refl refl (omega (arith, st.inside, unmoved.room_is)) (lit≤ tt) unmoved.room_is
      (subst (λ y. Shows (width e) (Repeating 8) (Some x) [] y (step (state (accepted e)) x)) (sym whole)
      (begun-shows (width e) (length (accepted e)) x (state (accepted e)) (stands-sound st) st.shows fills.calm fills.eighth fills.joined)))

  module _ (x : ℕ) (fills : Fills e x false) where
    pub open-room : e.progress.phase ≡ Gathering → e.progress.written + 1 + width e ≤ length e.out.now
    open-room is = omega (arith, fills.takes.room_for.fits, stands-gather (own e) x is, cond-false (joins e.progress x) (value_bytes (width e)) (width e) fills.joined)

    pub opened : {bytes : List ℕ} {end : ℕ} (f : RleEncoder) {q : Progress} → e.progress.phase ≡ Gathering → bytes ≡ group_with e.progress x → end ≡ e.progress.written + 1 + length bytes → f.out.now ≡ overwrite e.out.now (e.progress.written + 1) bytes → Unmoved e f
        → q ≡ grouped (record f.progress { written = end }) (Packing e.progress.written 1) None → Stands q f.out.now (accepted e ++ x ∷ [])
    opened {bytes} f is group count wrote unmoved now =
        let st = own e in
        let place = e.progress.written in
        let long : length bytes ≡ width e = ap length group ∙ length-group (width e) (e.progress.gathered.items ++ x ∷ []) in
        let room_for = open-room is in
        let before : length (take place e.out.now) ≡ place = length-take-le place e.out.now st.inside in
        let byte = get_or e.out.now place 0 in
        let front : set (take (place + 1 + width e) f.out.now) place 3 ≡ front_of e.progress.phase place e.out.now ++ 3 ∷ group_with e.progress x =
        ap (λ l. set l place 3)
        (front-more e.out.now f.out.now (place + 1) (width e) bytes (omega arith) wrote long
        ∙ ap (λ l. l ++ bytes) (take_more e.out.now place 0 (omega arith))
        ∙ append_assoc (take place e.out.now) (byte ∷ []) bytes)
        ∙ set_at (take place e.out.now) byte bytes 3 place before
        ∙ ap₂ (λ a b. a ++ 3 ∷ b) (sym (front-gathering place e.out.now is)) group in
        let at : length (front_of e.progress.phase place e.out.now) ≡ place = front_length e.progress.phase place e.out.now st.inside in
        subst (λ p. Stands p f.out.now (accepted e ++ x ∷ [])) (sym (now ∙ ap₂ (λ p k. grouped (record p { written = k }) (Packing place 1) None) unmoved.progress_is (count ∙ ap (λ k. place + 1 + k) long)))
        (next x fills.takes (grouped (record e.progress { written = place + 1 + width e }) (Packing place 1) None) f.out.now refl refl
        (omega (arith, unmoved.room_is)) (lit≤ tt) unmoved.room_is
        (subst (λ h. Shows (width e) (Packing h 1) None [] (set (take (place + 1 + width e) f.out.now) place 3) (step (state (accepted e)) x)) at
        (opened-shows (width e) (length (accepted e)) x (state (accepted e)) (stands-sound st) st.shows is fills.eighth fills.joined front)))

    module _ (header groups : ℕ) (is : e.progress.phase ≡ Packing header groups) where
      pub grow-room : e.progress.written + width e ≤ length e.out.now
      grow-room =
          omega (
            arith,
            fills.takes.room_for.fits,
            stands-pack (own e) header groups x is,
            cond-true (eqb (length e.progress.gathered.items) 7) (cond (joins e.progress x) (1 + value_bytes (width e)) (width e)) (width e) (eq-eqb (length e.progress.gathered.items) 7 fills.eighth),
            cond-false (joins e.progress x) (1 + value_bytes (width e)) (width e) fills.joined,
          )

      pub grown : {bytes : List ℕ} {end : ℕ} (f : RleEncoder) {q : Progress} → bytes ≡ group_with e.progress x → end ≡ e.progress.written + length bytes → f.out.now ≡ overwrite e.out.now e.progress.written bytes → Unmoved e f
          → {byte : ℕ} → byte ≡ 2 * (groups + 1) + 1 → {phase : Phase} → phase ≡ cond (eqb (groups + 1) 63) Gathering (Packing header (groups + 1))
          → q ≡ grouped (record f.progress { written = end }) phase None → Stands q (set f.out.now header byte) (accepted e ++ x ∷ [])
      grown {bytes} f group count wrote unmoved {byte} byte-is {phase} phase_is now =
          let st = own e in
          let place = e.progress.written in
          let whole = place + width e in
          let later = 2 * (groups + 1) + 1 in
          let early : header < place = (header-inside header groups is).0 in
          let long : length bytes ≡ width e = ap length group ∙ length-group (width e) (e.progress.gathered.items ++ x ∷ []) in
          let size : length (set f.out.now header byte) ≡ length e.out.now = length-set f.out.now header byte ∙ unmoved.room_is in
          let before : length (take place e.out.now) ≡ place = length-take-le place e.out.now st.inside in
          let joined : take whole (set f.out.now header byte) ≡ set (take place e.out.now) header later ++ group_with e.progress x =
          take-set-lt whole f.out.now header byte (omega arith)
          ∙ ap₂ (λ l b. set l header b) (front-more e.out.now f.out.now place (width e) bytes st.inside wrote long) byte-is
          ∙ set-append_left (take place e.out.now) bytes header later (omega arith)
          ∙ ap (λ b. set (take place e.out.now) header later ++ b) group in
          let own-front : set (front_of e.progress.phase place e.out.now) header later ≡ set (take place e.out.now) header later =
          ap (λ l. set l header later) (front-packing place e.out.now is) ∙ set-set (take place e.out.now) header (2 * groups + 1) later in
          let again : (q : Phase) → q ≡ cond (eqb (groups + 1) 63) Gathering (Packing header (groups + 1)) → front_of q whole (set f.out.now header byte) ≡ take whole (set f.out.now header byte) =
          λ q q-is. ap (λ y. front_of y whole (set f.out.now header byte)) q-is ∙ cond_both (eqb (groups + 1) 63) Gathering (Packing header (groups + 1)) (λ y. front_of y whole (set f.out.now header byte) ≡ take whole (set f.out.now header byte))
          (λ full. refl)
          (λ open_still.
          ap (λ l. set l header later) (take-set-lt whole f.out.now header byte (omega arith))
          ∙ set-set (take whole f.out.now) header byte later
          ∙ ap (set (take whole f.out.now) header) (sym byte-is)
          ∙ sym (take-set-lt whole f.out.now header byte (omega arith))) in
          let front : front_of phase whole (set f.out.now header byte) ≡ set (front_of e.progress.phase place e.out.now) header later ++ group_with e.progress x =
          again phase phase_is ∙ joined ∙ ap (λ l. l ++ group_with e.progress x) (sym own-front) in
          subst (λ p. Stands p (set f.out.now header byte) (accepted e ++ x ∷ [])) (sym (now ∙ ap₂ (λ p k. grouped (record p { written = k }) phase None) unmoved.progress_is (count ∙ ap (λ k. place + k) long)))
          (next x fills.takes (grouped (record e.progress { written = whole }) phase None) (set f.out.now header byte) refl refl
          (omega (arith, grow-room, size)) (lit≤ tt) size
          (subst (λ q. Shows (width e) q None [] (front_of phase whole (set f.out.now header byte)) (step (state (accepted e)) x)) (sym phase_is)
          (grown-shows (width e) (length (accepted e)) x header groups (state (accepted e)) (stands-sound st) st.shows is fills.eighth fills.joined front)))

-- ---- bytes behind those that are written

pub take-before : (s new : List ℕ) (n at : ℕ) → n ≤ at → at ≤ length s → take n (overwrite s at new) ≡ take n s
unfolding overwrite
take-before s new n at before inside =
    let long : length (take at s) ≡ at = length-take-le at s inside in
    let longer : length (take at s ++ new) ≡ length (take at s) + length new = length-append (take at s) new in
    take-append-le n (take at s ++ new) (drop (at + length new) s) (omega arith) ∙ take-append-le n (take at s) new (omega arith) ∙ take-take n at s before

-- they leave what is written as it is
pub front-behind : (phase : Phase) (place at : ℕ) (bytes s : List ℕ) → place ≤ at → at ≤ length s → front_of phase place (overwrite s at bytes) ≡ front_of phase place s
front-behind phase place at bytes s before inside = front_same phase place (overwrite s at bytes) s (take-before s bytes place at before inside)

-- a part of a slice that was copied over
pub copied : (s new bytes : List ℕ) (at k : ℕ) → new ≡ bytes → length bytes ≡ k → put_mid at k s new ≡ overwrite s at bytes
unfolding overwrite
copied s new bytes at k is long =
    put_mid-paste at k s new bytes k is refl (sym long)
    ∙ ap₂ (λ l n. take at s ++ l ++ drop (at + n) s) (take_all k bytes (omega (arith, long))) (sym long)

-- bytes behind those that are written change nothing of what is kept
pub kept-over : {p : Progress} {out : List ℕ} (at : ℕ) (bytes : List ℕ) {new : List ℕ} → Kept p out → new ≡ overwrite out at bytes → p.written ≤ at → at + length bytes ≤ length out → Kept p new
kept-over {p} {out} at bytes k is behind fits =
    subst (Kept p) (sym is) (kept-front k (overwrite out at bytes) (length-overwrite out at bytes fits) (front-behind p.phase p.written at bytes out behind (omega (arith, fits))))

pub accepted-over : {p : Progress} {out : List ℕ} (at : ℕ) (bytes : List ℕ) {new : List ℕ} → Kept p out → new ≡ overwrite out at bytes → p.written ≤ at → at + length bytes ≤ length out → accepted_of p new ≡ accepted_of p out
accepted-over {p} {out} at bytes k is behind fits =
    ap (accepted_of p) is ∙ accepted-front k (overwrite out at bytes) (length-overwrite out at bytes fits) (front-behind p.phase p.written at bytes out behind (omega (arith, fits)))
