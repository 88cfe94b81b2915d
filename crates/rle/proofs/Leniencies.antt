-- What is read without a fault stands in the format's relation, but for the leniencies.
use Rattle.std.proofs.Common.{◌≡◌, ℕ, zero, suc, ◌+◌, ◌-◌, ◌*◌, ◌/◌, ◌%◌, ◌^◌, ◌<◌, ◌≤◌, min, Bool, true, false, cond, eqb, ltb, leb, List, [], ◌∷◌, ◌++◌, length, take, drop, replicate, Ok, Err, Result, sym, refl, ap, ◌∙◌, subst, ap₂, subst₂, ⊎_elim, zero-le, le_of_suc-le-suc, not-suc-le-zero, add-zero, mul-le-mul_right, mul_assoc, suc-mul, zero-add, zero-mul, arith, lit<}
use Rattle.std.specs.List.{AllByRecursion}
use Rattle.std.proofs.ByRecursion.{All-drop}
use Rattle.std.proofs.lemmas.List.{append-nil, drop_all, drop-drop, length-drop, length-take, take-append-drop, same_lists}
use Rattle.std.proofs.lemmas.Bool.{cases_lt, cases_Bool, cases_eq, ltb-true, ltb-false, leb-true, eqb-true, eqb-false, cond-true, cond-false, both_ways}
use Rattle.packed.specs.Bytes.{bits_at, cells_at}
use Rattle.packed.specs.Digits.{number}
use Rattle.packed.specs.Vlq.{continuing, read_vlq, fault}
use Rattle.packed.specs.declared.faults.Fault.{Fault}
use Rattle.packed.proofs.VlqLaws.{was_read, read-within, read_some, read_number, read-large, read-long}
use Rattle.packed.proofs.Bytes.{power-bits, bits_inside, bits_at-drop, cells_at-drop, length-cells_at, get_or-cells_at}
use Rattle.packed.proofs.Digits.{number-take, number-drop}
use Rattle.bit_reader.specs.Reader.{readable}
use Rattle.bit_reader.proofs.Reading.{all_fit, some_fit, counted}
use Rattle.rle.proofs.Later.{past-values}
use Rattle.rle.specs.Hybrid.{Uleb, last, more, Header, Bytes}
use Rattle.rle.specs.Lenient.{Lenient, cut_header, zero_header, empty_run, repeated_run, packed_run, cut_run}
use Rattle.rle.specs.Reading.{ends_page, Stand, ended, stopped, repeats, packs, stop, headed, repeated_at, packed_at, follow, values_from}
use Rattle.column.specs.Pages
use Rattle.column.specs.Pages.{Waiting, Ending, end, nothing, before}
use Rattle.packed.specs.declared.faults.FaultKind.TheVariants.{VlqTooLarge, RunTooLong, RepeatedValueCut}
use Rattle.rle.specs.Runs.{value_bytes}

-- ---- headers

-- bytes that all continue
all-continue : (d : List ℕ) → length d ≤ continuing d → AllByRecursion (λ b. 128 ≤ b) d
unfolding continuing
all-continue [] h = tt
all-continue (b ∷ bs) h =
    ⊎_elim
    (λ small. absurd (not-suc-le-zero (subst (λ k. suc (length bs) ≤ k) (cond-true (ltb b 128) 0 (suc (continuing bs)) small) h)))
    (λ large. (ltb-false b 128 large, all-continue bs (le_of_suc-le-suc (subst (λ k. suc (length bs) ≤ k) (cond-false (ltb b 128) 0 (suc (continuing bs)) large) h))))
    (cases_Bool (ltb b 128))

-- bytes up to the first that does not continue
uleb-front : (d : List ℕ) → Bytes d → continuing d < length d → Uleb (take (suc (continuing d)) d) (number 128 (take (suc (continuing d)) d))
unfolding continuing number
uleb-front [] bytes h = absurd (not-suc-le-zero h)
uleb-front (b ∷ bs) bytes h =
    ⊎_elim
    (λ small.
    let stop : continuing (b ∷ bs) ≡ 0 = cond-true (ltb b 128) 0 (suc (continuing bs)) small in
    let is : b % 128 + 128 * 0 ≡ b = omega (arith, ltb-true b 128 small) in
    subst (λ k. Uleb (take (suc k) (b ∷ bs)) (number 128 (take (suc k) (b ∷ bs)))) (sym stop)
    (subst (Uleb (b ∷ [])) (sym is) (last (ltb-true b 128 small))))
    (λ large.
    let go : continuing (b ∷ bs) ≡ suc (continuing bs) = cond-false (ltb b 128) 0 (suc (continuing bs)) large in
    let n = number 128 (take (suc (continuing bs)) bs) in
    let rest = uleb-front bs bytes.1 (le_of_suc-le-suc (subst (λ k. k < suc (length bs)) go h)) in
    let byte : 128 + (b - 128) ≡ b = omega (arith, ltb-false b 128 large) in
    let is : (b - 128) + 128 * n ≡ b % 128 + 128 * n = omega (arith, ltb-false b 128 large, bytes.0) in
    subst (λ k. Uleb (take (suc k) (b ∷ bs)) (number 128 (take (suc k) (b ∷ bs)))) (sym go)
    (subst (λ x. Uleb (x ∷ take (suc (continuing bs)) bs) (b % 128 + 128 * n)) byte
    (subst (Uleb ((128 + (b - 128)) ∷ take (suc (continuing bs)) bs)) is (more (omega (arith, bytes.0)) rest))))
    (cases_Bool (ltb b 128))

-- a field that was read is a header
read-header : (s : List ℕ) (at n k : ℕ) → Bytes s → read_vlq s at ≡ Ok (n, k) → Header (take k (drop at s)) n
read-header s at n k bytes e =
    let w = was_read s at n k e in
    let d = drop at s in
    let inside : continuing d < length d = simp length-drop (omega (arith, w.inside)) in
    record {
      value = subst (λ x. Uleb (take x d) n) (sym w.taken_is) (subst (Uleb (take (suc (continuing d)) d)) (sym w.number_is) (uleb-front d (All-drop (λ b. b < 256) at s bytes) inside));
      short = subst (λ x. x ≤ 10) (sym (length-take k d)) (omega (arith, w.few, w.taken_is));
    }

-- a header that was cut
header-cut : (s : List ℕ) (at : ℕ) (f : Fault) → read_vlq s at ≡ Err f → ends_page f.kind ≡ true → AllByRecursion (λ b. 128 ≤ b) (drop at s) × (length (drop at s) ≤ 10)
header-cut s at f e ends =
    ⊎_elim
    (λ (few : c < 10). ⊎_elim
    (λ inside. ⊎_elim
    (λ small. absurd (found (sym (read_number s at few inside small) ∙ e)))
    (λ large. absurd (too_large (sym (read-large s at few inside large) ∙ e)))
    (cases_lt (number 128 (take (suc c) (drop at s))) (2 ^ 64)))
    (λ (past : length s ≤ at + c). ended (simp length-drop (omega arith)) (simp length-drop (omega arith)))
    (cases_lt (at + c) (length s)))
    (λ (many : 10 ≤ c). ⊎_elim
    (λ long. absurd (too_large (sym (read-long s at many long) ∙ e)))
    (λ (short : length s ≤ at + 10). ended (simp length-drop (omega arith)) (simp length-drop (omega arith)))
    (cases_lt (at + 10) (length s)))
    (cases_lt c 10)
  where
    c : ℕ
    c = continuing (drop at s)

    ended : length (drop at s) ≤ c → length (drop at s) ≤ 10 → AllByRecursion (λ b. 128 ≤ b) (drop at s) × (length (drop at s) ≤ 10)
    ended all short = (all-continue (drop at s) all, short)

    found : {r : ℕ × ℕ} → ◌≡◌ {A = Result (ℕ × ℕ) Fault} (Ok r) (Err f) → ⊥
    found q = let z : ◌≡◌ {A = ℕ} 0 1 = (cc) in omega arith

    too_large : fault VlqTooLarge at ≡ Err f → ⊥
    too_large q =
        let g : ◌≡◌ {A = Fault} (record { kind = VlqTooLarge; place = at }) f = (cc) in
        both_ways (ends_page f.kind) (sym (ap (λ x. ends_page x.kind) g)) ends

-- ---- runs

abbrev Ends : List ℕ → Waiting → Type 0
Ends vs r = r ≡ record { values = vs; ending = end }

-- no fault
not-fault : {f : Fault} {vs : List ℕ} → Ends vs (nothing (Pages.fault f)) → ⊥
not-fault {f} {vs} q = let g : ◌≡◌ {A = Ending} (Pages.fault f) end = ap (λ r. r.ending) q in let z : ◌≡◌ {A = ℕ} 0 1 = (cc) in omega arith

no_cells : (s : List ℕ) (p w : ℕ) → cells_at (λ v. v) s p w 0 ≡ []
unfolding cells_at
no_cells s p w = refl

-- values in front, and how the others end
ends-behind : {vs : List ℕ} (front : List ℕ) (r : Waiting) → Ends vs (before front r) → (vs ≡ front ++ r.values) × Ends r.values r
ends-behind front r q = (sym (ap (λ x. x.values) q), ap (λ e. record { values = r.values; ending = e }) (ap (λ x. x.ending) q))

ends-none : {vs : List ℕ} → Ends vs (nothing end) → vs ≡ []
ends-none q = sym (ap (λ x. x.values) q)

-- bits inside the front of some bytes
bits_at-take : (s : List ℕ) (k p w : ℕ) → p + w ≤ 8 * k → bits_at (take k s) p w ≡ bits_at s p w
unfolding bits_at
bits_at-take s k p w room =
    ap (λ x. x / 2 ^ p % 2 ^ w) (number-take 256 (lit< tt) k s ∙ ap (λ x. number 256 s % x) (power-bits 8 k)) ∙ bits_inside (number 256 s) p w (8 * k) room

-- packed values, by the bytes that hold them alone
cells-alone : (s : List ℕ) (start k w m : ℕ) → m * w ≤ 8 * k → cells_at (λ v. v) s (8 * start) w m ≡ cells_at (λ v. v) (take k (drop start s)) 0 w m
cells-alone s start k w m room =
    same_lists (cells_at (λ v. v) s (8 * start) w m) (cells_at (λ v. v) body 0 w m) (length-cells_at (λ v. v) s (8 * start) w m ∙ sym (length-cells_at (λ v. v) body 0 w m))
    (λ i d h'.
    let h : i < m = subst (λ x. i < x) (length-cells_at (λ v. v) s (8 * start) w m) h' in
    let some : suc i * w ≤ m * w = mul-le-mul_right w h in
    get_or-cells_at (λ v. v) s (8 * start) w m i d h
    ∙ sym (bits_at-drop s start (i * w) w)
    ∙ sym (bits_at-take (drop start s) k (i * w) w (omega (arith, suc-mul i w)))
    ∙ ap (λ p. bits_at body p w) (sym (zero-add (i * w)))
    ∙ sym (get_or-cells_at (λ v. v) body 0 w m i d h))
  where
    body : List ℕ
    body = take k (drop start s)

number-alone : (s : List ℕ) (start k : ℕ) → bits_at s (8 * start) (8 * k) ≡ number 256 (take k (drop start s))
unfolding bits_at
number-alone s start k =
    sym (number-take 256 (lit< tt) k (drop start s)
    ∙ ap₂ (λ x y. x % y) (number-drop 256 (lit< tt) start s ∙ ap (λ x. number 256 s / x) (power-bits 8 start)) (power-bits 8 k))

-- the bytes from a place on, cut in two and in three
split-two : (s : List ℕ) (at k : ℕ) → drop at s ≡ take k (drop at s) ++ drop (at + k) s
split-two s at k = sym (take-append-drop k (drop at s)) ∙ ap (λ x. take k (drop at s) ++ x) (drop-drop k at s)

split-three : (s : List ℕ) (at k j : ℕ) → drop at s ≡ take k (drop at s) ++ (take j (drop (at + k) s) ++ drop (at + k + j) s)
split-three s at k j = split-two s at k ∙ ap (λ x. take k (drop at s) ++ x) (split-two s (at + k) j)

-- ---- the runs that were read

module _ (w : ℕ) (s : List ℕ) (bytes : Bytes s) (f at : ℕ) (vs : List ℕ) (ih : (next : ℕ) (us : List ℕ) → at < next → Ends us (values_from f w s next) → Lenient w (drop next s) us) where
  -- what follows from what stands at the place
  abbrev After : Stand → Type 0
  After st = Ends vs (follow w s (λ next. values_from f w s next) st)

  -- one way of a test
  took : (b : Bool) (x y : Stand) → b ≡ true → After (cond b x y) → After x
  took b x y e q = subst After (cond-true b x y e) q

  left : (b : Bool) (x y : Stand) → b ≡ false → After (cond b x y) → After y
  left b x y e q = subst After (cond-false b x y e) q

  module _ (h k : ℕ) (read : read_vlq s at ≡ Ok (h, k)) where
    header : Header (take k (drop at s)) h
    header = read-header s at h k bytes read

    inside : at + k ≤ length s
    inside = read-within s at h k read

    moved : 0 < k
    moved = read_some s at h k read

    read-repeated : (n : ℕ) → 0 < n → h ≡ 2 * n → After (repeated_at w s at (at + k) n) → Lenient w (drop at s) vs
    unfolding repeated_at
    read-repeated n some twice q =
        let start = at + k in
        let vb = value_bytes w in
        let value = take vb (drop start s) in
        let run = repeats n (bits_at s (8 * start) (8 * vb)) (start + vb) in
        ⊎_elim (λ long. absurd (not-fault (took (ltb 2147483647 n) (stop RunTooLong at) (cond (leb (start + vb) (length s)) run (stop RepeatedValueCut start)) long q)))
        (λ short.
        let q₂ = left (ltb 2147483647 n) (stop RunTooLong at) (cond (leb (start + vb) (length s)) run (stop RepeatedValueCut start)) short q in
        ⊎_elim
        (λ there.
        let q₃ = took (leb (start + vb) (length s)) run (stop RepeatedValueCut start) there q₂ in
        let parts = ends-behind (replicate n (bits_at s (8 * start) (8 * vb))) (values_from f w s (start + vb)) q₃ in
        let room = leb-true (start + vb) (length s) there in
        let long : length value ≡ vb = length-take vb (drop start s) ∙ ap (λ x. min vb x) (length-drop start s) ∙ omega arith in
        let rest = ih (start + vb) (values_from f w s (start + vb)).values (omega (arith, moved)) parts.1 in
        subst₂ (Lenient w) (sym (split-three s at k vb))
        (ap (λ x. replicate n x ++ (values_from f w s (start + vb)).values) (sym (number-alone s start vb)) ∙ sym parts.0)
        (repeated_run n value (subst (Header (take k (drop at s))) twice header) (some, ltb-false 2147483647 n short) long rest))
        (λ cut. absurd (not-fault (left (leb (start + vb) (length s)) run (stop RepeatedValueCut start) cut q₂)))
        (cases_Bool (leb (start + vb) (length s))))
        (cases_Bool (ltb 2147483647 n))

    read-packed : (g : ℕ) → h ≡ 2 * g + 1 → After (packed_at w s at (at + k) g) → Lenient w (drop at s) vs
    unfolding packed_at
    read-packed g twice q =
        let start = at + k in
        let m = readable s (8 * start) w (8 * g) in
        let next = min (start + g * w) (length s) in
        let bits : 8 * g * w ≡ 8 * (g * w) = mul_assoc 8 g w in
        let odd = subst (Header (take k (drop at s))) twice header in
        ⊎_elim (λ long. absurd (not-fault (took (ltb 2147483647 (8 * g)) (stop RunTooLong at) (packs m start next) long q)))
        (λ short.
        let most = ltb-false 2147483647 (8 * g) short in
        let parts = ends-behind (cells_at (λ v. v) s (8 * start) w m) (values_from f w s next) (left (ltb 2147483647 (8 * g)) (stop RunTooLong at) (packs m start next) short q) in
        ⊎_elim
        (λ (cut : length s < start + g * w).
        let body = drop start s in
        let size : length body ≡ length s - start = length-drop start s in
        let space = 8 * length s - 8 * start in
        let fewer : space < 8 * g * w = omega (arith, inside) in
        let count : m ≡ 8 * length body / w =
        sym (counted s (8 * start) w (8 * g) (space / w) space (omega (arith, inside)) refl (some_fit space w (8 * g) fewer)).count
        ∙ ap (λ x. x / w) (omega (arith, inside)) in
        let last-values : (values_from f w s next).values ≡ [] = ap (λ r. r.values) (past-values w s f next (omega arith)) in
        let cells : cells_at (λ v. v) s (8 * start) w m ≡ cells_at (λ v. v) body 0 w (8 * length body / w) =
        ap (λ p. cells_at (λ v. v) s p w m) (sym (add-zero (8 * start))) ∙ sym (cells_at-drop (λ v. v) s start 0 w m) ∙ ap (cells_at (λ v. v) body 0 w) count in
        subst₂ (Lenient w) (sym (split-two s at k)) (sym (parts.0 ∙ ap₂ ◌++◌ cells last-values ∙ append-nil (cells_at (λ v. v) body 0 w (8 * length body / w))))
        (cut_run g body odd (some-groups g (omega (arith, inside)), most) (omega (arith, inside))))
        (λ (whole : start + g * w ≤ length s).
        let all : 8 * g ≡ m = (counted s (8 * start) w (8 * g) (8 * g) (8 * length s - 8 * start) (omega arith) refl (all_fit (8 * length s - 8 * start) w (8 * g) (omega arith))).count in
        let to : next ≡ start + g * w = omega arith in
        let us = (values_from f w s next).values in
        let rest : Lenient w (drop (start + g * w) s) us = subst (λ x. Lenient w (drop x s) us) to (ih next us (omega (arith, moved)) parts.1) in
        let body = take (g * w) (drop start s) in
        let values = cells_at (λ v. v) s (8 * start) w m in
        let long : length body ≡ g * w = length-take (g * w) (drop start s) ∙ ap (λ x. min (g * w) x) (length-drop start s) ∙ omega arith in
        let alone : values ≡ cells_at (λ v. v) body 0 w (8 * g) = ap (cells_at (λ v. v) s (8 * start) w) (sym all) ∙ cells-alone s start (g * w) w (8 * g) (omega arith) in
        let many : length values ≡ 8 * g = length-cells_at (λ v. v) s (8 * start) w m ∙ sym all in
        ⊎_elim
        (λ (none_of : g ≡ 0).
        let empty : values ≡ [] = ap (cells_at (λ v. v) s (8 * start) w) (sym all ∙ ap (λ x. 8 * x) none_of) ∙ no_cells s (8 * start) w in
        let here : start + g * w ≡ start = ap (λ x. start + x * w) none_of ∙ ap (λ x. start + x) (zero-mul w) ∙ add-zero start in
        subst₂ (Lenient w) (sym (split-two s at k)) (sym (parts.0 ∙ ap (λ x. x ++ us) empty))
        (empty_run (subst (λ x. Header (take k (drop at s)) (2 * x + 1)) none_of odd) (subst (λ x. Lenient w (drop x s) us) here rest)))
        (λ some.
        subst₂ (Lenient w) (sym (split-three s at k (g * w))) (sym parts.0)
        (packed_run g body values odd (omega arith, most) long many alone rest))
        (cases_eq g 0))
        (cases_lt (length s) (start + g * w)))
        (cases_Bool (ltb 2147483647 (8 * g)))
      where
        some-groups : (g : ℕ) → 0 < g * w → 0 < 8 * g
        some-groups zero h = absurd (not-suc-le-zero (subst (λ x. 0 < x) (zero-mul w) h))
        some-groups (suc g) h = omega arith

  read-headed : (r : Result (ℕ × ℕ) Fault) → read_vlq s at ≡ r → After (headed w s at r) → Lenient w (drop at s) vs
  unfolding headed
  read-headed (Err e) read q =
      ⊎_elim
      (λ ends.
      let cut = header-cut s at e read ends in
      subst (Lenient w (drop at s)) (sym (ends-none (took (ends_page e.kind) ended (stopped e) ends q))) (cut_header cut.0 cut.1))
      (λ stops. absurd (not-fault (left (ends_page e.kind) ended (stopped e) stops q)))
      (cases_Bool (ends_page e.kind))
  read-headed (Ok r) read q =
      let start = at + r.1 in
      let even = repeated_at w s at start (r.0 / 2) in
      let odd = packed_at w s at start (r.0 / 2) in
      ⊎_elim
      (λ zero-head.
      subst₂ (Lenient w) (sym (split-two s at r.1)) (sym (ends-none (took (eqb r.0 0) ended (cond (eqb (r.0 % 2) 0) even odd) zero-head q)))
      (zero_header (drop start s) (subst (Header (take r.1 (drop at s))) (eqb-true r.0 0 zero-head) (read-header s at r.0 r.1 bytes read))))
      (λ some.
      let q₂ = left (eqb r.0 0) ended (cond (eqb (r.0 % 2) 0) even odd) some q in
      ⊎_elim
      (λ e. read-repeated r.0 r.1 read (r.0 / 2) (omega (arith, eqb-false r.0 0 some, eqb-true (r.0 % 2) 0 e)) (omega (arith, eqb-true (r.0 % 2) 0 e)) (took (eqb (r.0 % 2) 0) even odd e q₂))
      (λ o. read-packed r.0 r.1 read (r.0 / 2) (omega (arith, eqb-false (r.0 % 2) 0 o)) (left (eqb (r.0 % 2) 0) even odd o q₂))
      (cases_Bool (eqb (r.0 % 2) 0)))
      (cases_Bool (eqb r.0 0))

-- a page that is read without a fault stands for its values, but for the leniencies
pub lenient-from : (w : ℕ) (s : List ℕ) → Bytes s → (f at : ℕ) (vs : List ℕ) → length s < f + at → Ends vs (values_from f w s at) → Lenient w (drop at s) vs
unfolding values_from
lenient-from w s bytes zero at vs hf q = subst₂ (Lenient w) (sym (drop_all at s (omega arith))) (sym (ends-none q)) (cut_header tt zero-le)
lenient-from w s bytes (suc f) at vs hf q =
    read-headed w s bytes f at vs (λ next us later e. lenient-from w s bytes f next us (omega arith) e) (read_vlq s at) refl q
