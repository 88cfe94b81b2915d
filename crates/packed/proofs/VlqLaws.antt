-- The laws of VLQ: a step of writing, a step of reading, and that each undoes the other.
use Rattle.std.proofs.Common.{◌≡◌, ℕ, zero, suc, ◌+◌, ◌-◌, ◌*◌, ◌/◌, ◌%◌, ◌^◌, ◌<◌, ◌≤◌, ◌⊎◌, List, [], ◌∷◌, ◌++◌, length, get_or, take, drop, Ok, Result, sym, refl, ap, ◌∙◌, subst, ap₂, inl, inr, ⊎_elim, suc-le-suc, zero-le, le_refl, lt_of_lt_of_le, not-suc-le-zero, add-zero, add_assoc, div-lt_iff_lt-mul, pow-suc, zero-add, add-one, arith, lit<, lit≤, pow_mono}
use native.Mathlib.Nat.{pow-le-pow_right}
use Rattle.packed.specs.Digits.{number}
use Rattle.packed.specs.Bytes.{overwrite}
use Rattle.packed.specs.Vlq.{vlq_by, vlq, continuing, read_vlq, fault, SoFar}
use Rattle.packed.specs.declared.faults.FaultKind.TheVariants.{VlqTooLarge, DataEnds}
use Rattle.packed.proofs.Bytes.{power-bits}
use Rattle.packed.proofs.Digits.{number_push, number-below}
use Rattle.std.proofs.lemmas.Nat.{shl_whole}
use Rattle.std.proofs.lemmas.List.{append_assoc, drop_at, take_at, length-append, length-drop, length-take, get_or-drop, length-take-le, drop_more, drop_all, take_rest}
use Rattle.packed.specs.declared.faults.Fault.{Fault}
use Rattle.packed.specs.declared.faults.FaultKind.{FaultKind}
use Rattle.std.proofs.lemmas.Bool.{lt-ltb, le-ltb, cases_lt}

-- ---- writing

vlq_by-last : (f n : ℕ) → n < 128 → vlq_by f n ≡ n ∷ []
unfolding vlq_by
vlq_by-last zero n h = refl
vlq_by-last (suc f) n h = rw (vlq_by, lt-ltb n 128 h)

vlq_by-step : (f n : ℕ) → 128 ≤ n → vlq_by (suc f) n ≡ (128 + n % 128) ∷ vlq_by f (n / 128)
unfolding vlq_by
vlq_by-step f n h = rw (vlq_by, le-ltb n 128 h)

-- more turns than the number asks for change nothing
vlq_by-turns : (f g n : ℕ) → n ≤ f → n ≤ g → vlq_by f n ≡ vlq_by g n
vlq_by-turns zero g n hf hg = vlq_by-last zero n (omega arith) ∙ sym (vlq_by-last g n (omega arith))
vlq_by-turns (suc f) zero n hf hg = vlq_by-last (suc f) n (omega arith) ∙ sym (vlq_by-last zero n (omega arith))
vlq_by-turns (suc f) (suc g) n hf hg = pick (cases_lt n 128) (λ h. vlq_by-turns f g (n / 128) (omega arith) (omega arith))
  where
    pick : (n < 128) ⊎ (128 ≤ n) → (128 ≤ n → vlq_by f (n / 128) ≡ vlq_by g (n / 128)) → vlq_by (suc f) n ≡ vlq_by (suc g) n
    pick (inl h) rest = vlq_by-last (suc f) n h ∙ sym (vlq_by-last (suc g) n h)
    pick (inr h) rest = vlq_by-step f n h ∙ ap (λ bs. (128 + n % 128) ∷ bs) (rest h) ∙ sym (vlq_by-step g n h)

pub vlq-last : (n : ℕ) → n < 128 → vlq n ≡ n ∷ []
unfolding vlq
vlq-last n h = vlq_by-last n n h

pub vlq-step : (n : ℕ) → 128 ≤ n → vlq n ≡ (128 + n % 128) ∷ vlq (n / 128)
unfolding vlq
vlq-step zero h = absurd (not-suc-le-zero h)
vlq-step (suc n) h = vlq_by-step n (suc n) h ∙ ap (λ bs. (128 + suc n % 128) ∷ bs) (vlq_by-turns n (suc n / 128) (suc n / 128) (omega arith) (le_refl _))

pub vlq-some : (n : ℕ) → 1 ≤ length (vlq n)
vlq-some n = ⊎_elim (λ h. rw (vlq-last n h) (le_refl 1)) (λ h. rw (vlq-step n h) (suc-le-suc zero-le)) (cases_lt n 128)

-- ---- reading

module _ (s : List ℕ) (at : ℕ) where
  -- one byte more of those that continue
  pub continuing-more : at < length s → 128 ≤ get_or s at 0 → continuing (drop at s) ≡ suc (continuing (drop (at + 1) s))
  unfolding continuing
  continuing-more room h = rw (drop_more s at 0 room, le-ltb (get_or s at 0) 128 h)

  -- the first byte that does not
  pub continuing-stop : at < length s → get_or s at 0 < 128 → continuing (drop at s) ≡ 0
  unfolding continuing
  continuing-stop room h = rw (drop_more s at 0 room, lt-ltb (get_or s at 0) 128 h)

  pub continuing-end : length s ≤ at → continuing (drop at s) ≡ 0
  unfolding continuing
  continuing-end h = rw (drop_all at s h)

  pub read-cut : continuing (drop at s) < 10 → length s ≤ at + continuing (drop at s) → read_vlq s at ≡ fault DataEnds at
  unfolding read_vlq
  read-cut k h =
      let long : length (drop at s) ≤ continuing (drop at s) = simp length-drop (omega arith) in
      rw (lt-ltb (continuing (drop at s)) 10 k, le-ltb (continuing (drop at s)) (length (drop at s)) long)

  pub read_number : continuing (drop at s) < 10 → at + continuing (drop at s) < length s → number 128 (take (suc (continuing (drop at s))) (drop at s)) < 2 ^ 64 → read_vlq s at ≡ Ok (number 128 (take (suc (continuing (drop at s))) (drop at s)), suc (continuing (drop at s)))
  unfolding read_vlq
  read_number k h n =
      let long : continuing (drop at s) < length (drop at s) = simp length-drop (omega arith) in
      rw (lt-ltb (continuing (drop at s)) 10 k, lt-ltb (continuing (drop at s)) (length (drop at s)) long, lt-ltb (number 128 (take (suc (continuing (drop at s))) (drop at s))) (2 ^ 64) n)

  pub read-large : continuing (drop at s) < 10 → at + continuing (drop at s) < length s → 2 ^ 64 ≤ number 128 (take (suc (continuing (drop at s))) (drop at s)) → read_vlq s at ≡ fault VlqTooLarge at
  unfolding read_vlq
  read-large k h n =
      let long : continuing (drop at s) < length (drop at s) = simp length-drop (omega arith) in
      rw (lt-ltb (continuing (drop at s)) 10 k, lt-ltb (continuing (drop at s)) (length (drop at s)) long, le-ltb (number 128 (take (suc (continuing (drop at s))) (drop at s))) (2 ^ 64) n)

  pub read-long : 10 ≤ continuing (drop at s) → at + 10 < length s → read_vlq s at ≡ fault VlqTooLarge at
  unfolding read_vlq
  read-long k h =
      let long : 10 < length (drop at s) = simp length-drop (omega arith) in
      rw (le-ltb (continuing (drop at s)) 10 k, lt-ltb 10 (length (drop at s)) long)

  pub read-long-cut : 10 ≤ continuing (drop at s) → length s ≤ at + 10 → read_vlq s at ≡ fault DataEnds at
  unfolding read_vlq
  read-long-cut k h =
      let long : length (drop at s) ≤ 10 = simp length-drop (omega arith) in
      rw (le-ltb (continuing (drop at s)) 10 k, le-ltb 10 (length (drop at s)) long)

-- a byte of the field that begins at a place
pub field-byte : (s : List ℕ) (at i : ℕ) → get_or (take (length s - at) (drop at s)) i 0 ≡ get_or s (at + i) 0
field-byte s at i = ap (λ l. get_or l i 0) (take_rest s at) ∙ get_or-drop at s i 0

pub length-rest : (s : List ℕ) (at : ℕ) → length (take (length s - at) (drop at s)) ≡ length s - at
length-rest s at = ap length (take_rest s at) ∙ length-drop at s

-- one digit more of the number so far
number_more : (s : List ℕ) (at i : ℕ) → at + i < length s → number 128 (take (i + 1) (drop at s)) ≡ number 128 (take i (drop at s)) + get_or s (at + i) 0 % 128 * 2 ^ (7 * i)
number_more s at i room =
    number_push 128 (lit< tt) (drop at s) i (simp length-drop (omega arith))
    ∙ ap₂ (λ x y. number 128 (take i (drop at s)) + x % 128 * y) (get_or-drop at s i 0) (power-bits 7 i)

-- i digits are below 2 ^ (7 i)
pub number_small : (s : List ℕ) (i : ℕ) → number 128 (take i s) < 2 ^ (7 * i)
number_small s i =
    lt_of_lt_of_le (number-below 128 (lit< tt) (take i s))
    (subst (λ x. 128 ^ length (take i s) ≤ x) (power-bits 7 i) (pow-le-pow_right (lit< tt) (simp length-take (omega arith))))

pub so-far-none : (s : List ℕ) (at : ℕ) → at ≤ length s → SoFar s at 0 0
unfolding number
so-far-none s at h = (refl, zero-add (continuing (drop (at + 0) s)) ∙ ap (λ x. continuing (drop x s)) (add-zero at), omega arith)

module _ (s : List ℕ) (at i v : ℕ) (so : SoFar s at i v) (room : at + i < length s) where
  -- the shift of the next digit loses nothing, if it is one of the first nine
  pub shifted : i < 9 → (get_or s (at + i) 0 % 128 * 2 ^ (7 * i)) % 2 ^ 64 ≡ get_or s (at + i) 0 % 128 * 2 ^ (7 * i)
  shifted h = shl_whole (get_or s (at + i) 0 % 128) 7 (7 * i) 64 (omega arith) (omega arith)

  pub value-more : v + get_or s (at + i) 0 % 128 * 2 ^ (7 * i) ≡ number 128 (take (i + 1) (drop at s))
  value-more = ap (λ x. x + get_or s (at + i) 0 % 128 * 2 ^ (7 * i)) so.0 ∙ sym (number_more s at i room)

  pub value-below : i < 9 → v + get_or s (at + i) 0 % 128 * 2 ^ (7 * i) < 2 ^ 64
  value-below h =
      rw value-more (lt_of_lt_of_le (number_small (drop at s) (i + 1)) (pow_mono {i = 7 * (i + 1)} {j = 64} (omega arith)))

  pub so_far_more : 128 ≤ get_or s (at + i) 0 → SoFar s at (i + 1) (v + get_or s (at + i) 0 % 128 * 2 ^ (7 * i))
  so_far_more h =
      let e = continuing-more s (at + i) room h in
      let f : continuing (drop (at + i + 1) s) ≡ continuing (drop (at + (i + 1)) s) = ap (λ x. continuing (drop x s)) (add_assoc at i 1) in
      (value-more, omega (arith, so.1, e, f), omega arith)

  -- the last byte of a field
  pub field-ends : get_or s (at + i) 0 < 128 → continuing (drop at s) ≡ i
  field-ends h = sym so.1 ∙ ap (λ x. i + x) (continuing-stop s (at + i) room h) ∙ add-zero i

  pub read_here : i < 10 → get_or s (at + i) 0 < 128 → v + get_or s (at + i) 0 % 128 * 2 ^ (7 * i) < 2 ^ 64 → read_vlq s at ≡ Ok (v + get_or s (at + i) 0 % 128 * 2 ^ (7 * i), i + 1)
  read_here h stop small =
      let k = field-ends stop in
      let e : take (suc (continuing (drop at s))) (drop at s) ≡ take (i + 1) (drop at s) = ap (λ x. take x (drop at s)) (ap suc k ∙ sym (add-one i)) in
      let n : number 128 (take (suc (continuing (drop at s))) (drop at s)) ≡ v + get_or s (at + i) 0 % 128 * 2 ^ (7 * i) = ap (number 128) e ∙ sym value-more in
      read_number s at (omega arith) (omega arith) (omega arith)
      ∙ ap₂ (λ x y. Ok (x, y)) n (ap suc k ∙ sym (add-one i))

  pub too-large-here : i < 10 → get_or s (at + i) 0 < 128 → 2 ^ 64 ≤ v + get_or s (at + i) 0 % 128 * 2 ^ (7 * i) → read_vlq s at ≡ fault VlqTooLarge at
  too-large-here h stop large =
      let k = field-ends stop in
      let e : take (suc (continuing (drop at s))) (drop at s) ≡ take (i + 1) (drop at s) = ap (λ x. take x (drop at s)) (ap suc k ∙ sym (add-one i)) in
      let n : number 128 (take (suc (continuing (drop at s))) (drop at s)) ≡ v + get_or s (at + i) 0 % 128 * 2 ^ (7 * i) = ap (number 128) e ∙ sym value-more in
      read-large s at (omega arith) (omega arith) (omega arith)

pub ends-here : (s : List ℕ) (at i v : ℕ) → SoFar s at i v → length s ≤ at + i → i < 10 → read_vlq s at ≡ fault DataEnds at
ends-here s at i v so end h =
    let k = continuing-end s (at + i) end in
    read-cut s at (omega (arith, so.1)) (omega (arith, so.1))

-- ten bytes that all continue
pub ten-continue : (s : List ℕ) (at v : ℕ) → SoFar s at 10 v → 10 ≤ continuing (drop at s)
ten-continue s at v so = omega (arith, so.1)

-- ---- what is written is read

-- induction on the bytes of a number
pub vlq-ind : (P : ℕ → Type 0) → ((n : ℕ) → n < 128 → P n) → ((n : ℕ) → 128 ≤ n → P (n / 128) → P n) → (n : ℕ) → P n
vlq-ind P last step n = go n n (le_refl n)
  where
    pick : (m : ℕ) → (m < 128) ⊎ (128 ≤ m) → (128 ≤ m → P (m / 128)) → P m
    pick m (inl h) rest = last m h
    pick m (inr h) rest = step m h (rest h)

    go : (f m : ℕ) → m ≤ f → P m
    go zero m h = last m (omega arith)
    go (suc f) m h = pick m (cases_lt m 128) (λ large. go f (m / 128) (omega arith))

pub number-vlq : (n : ℕ) → number 128 (vlq n) ≡ n
unfolding number
number-vlq =
    vlq-ind (λ n. number 128 (vlq n) ≡ n)
    (λ n h. rw (vlq-last n h) (omega arith))
    (λ n h e. rw (vlq-step n h, e) (omega arith))

pub continuing-vlq : (rest : List ℕ) (n : ℕ) → suc (continuing (vlq n ++ rest)) ≡ length (vlq n)
unfolding continuing
continuing-vlq rest =
    vlq-ind (λ n. suc (continuing (vlq n ++ rest)) ≡ length (vlq n))
    (λ n h. rw (vlq-last n h, lt-ltb n 128 h))
    (λ n h e. rw (vlq-step n h, le-ltb (128 + n % 128) 128 (omega arith), e))

pub length-vlq : (k n : ℕ) → n < 128 ^ suc k → length (vlq n) ≤ suc k
length-vlq zero n h = rw (vlq-last n h) (le_refl 1)
length-vlq (suc k) n h =
    ⊎_elim
    (λ small. rw (vlq-last n small) (suc-le-suc zero-le))
    (λ large. rw (vlq-step n large) (suc-le-suc (length-vlq k (n / 128) ((div-lt_iff_lt-mul (lit< tt)).1 (rw (← pow-suc 128 (suc k)) h)))))
    (cases_lt n 128)

-- a field of at most ten bytes, of which just the last does not continue, is read as its number, whatever stands around it
pub read-field : (front field rest : List ℕ) (n : ℕ) → number 128 field ≡ n → suc (continuing (field ++ rest)) ≡ length field → length field ≤ 10 → n < 2 ^ 64 → read_vlq (front ++ (field ++ rest)) (length front) ≡ Ok (n, length field)
read-field front field rest n is ends short h =
    let s = front ++ (field ++ rest) in
    let d : drop (length front) s ≡ field ++ rest = drop_at front (field ++ rest) (length front) refl in
    let k : suc (continuing (drop (length front) s)) ≡ length field = ap (λ x. suc (continuing x)) d ∙ ends in
    let t : take (suc (continuing (drop (length front) s))) (drop (length front) s) ≡ field = ap₂ take k d ∙ take_at field rest (length field) refl in
    let v : number 128 (take (suc (continuing (drop (length front) s))) (drop (length front) s)) ≡ n = ap (number 128) t ∙ is in
    let long : length s ≡ length front + (length field + length rest) = simp length-append in
    read_number s (length front) (omega arith) (omega arith) (omega arith) ∙ ap₂ (λ x y. Ok (x, y)) v k

-- reading what was written gives the number back and how many bytes it took
pub read-written : (front : List ℕ) (n : ℕ) (rest : List ℕ) → n < 2 ^ 64 → read_vlq (front ++ (vlq n ++ rest)) (length front) ≡ Ok (n, length (vlq n))
read-written front n rest h =
    read-field front (vlq n) rest n (number-vlq n) (continuing-vlq rest n) (length-vlq 9 n (lt_of_lt_of_le h (lit≤ tt))) h

-- what a number that was read is
pub record WasRead (s : List ℕ) (at n k : ℕ) : Type 0 where
  pub few : continuing (drop at s) < 10
  pub inside : at + continuing (drop at s) < length s
  pub number_is : n ≡ number 128 (take (suc (continuing (drop at s))) (drop at s))
  pub taken_is : k ≡ suc (continuing (drop at s))
  pub below : n < 2 ^ 64

pub was_read : (s : List ℕ) (at n k : ℕ) → read_vlq s at ≡ Ok (n, k) → WasRead s at n k
was_read s at n k e =
    ⊎_elim
    (λ few. ⊎_elim
    (λ inside. ⊎_elim
    (λ small. found few inside small (sym e ∙ read_number s at few inside small))
    (λ large. absurd (refused (sym (read-large s at few inside large) ∙ e)))
    (cases_lt (number 128 (take (suc c) d)) (2 ^ 64)))
    (λ past. absurd (refused (sym (read-cut s at few past) ∙ e)))
    (cases_lt (at + c) (length s)))
    (λ many. ⊎_elim
    (λ long. absurd (refused (sym (read-long s at many long) ∙ e)))
    (λ short. absurd (refused (sym (read-long-cut s at many short) ∙ e)))
    (cases_lt (at + 10) (length s)))
    (cases_lt c 10)
  where
    d : List ℕ
    d = drop at s

    c : ℕ
    c = continuing (drop at s)

    refused : {kind : FaultKind} → fault kind at ≡ Ok (n, k) → ⊥
    refused f = let z : ◌≡◌ {A = ℕ} 0 1 = (cc) in omega arith

    found : c < 10 → at + c < length s → number 128 (take (suc c) d) < 2 ^ 64 → ◌≡◌ {A = Result (ℕ × ℕ) Fault} (Ok (n, k)) (Ok (number 128 (take (suc c) d), suc c)) → WasRead s at n k
    found few inside small f =
        let both : ◌≡◌ {A = ℕ × ℕ} (n, k) (number 128 (take (suc c) d), suc c) = (cc) in
        let is : n ≡ number 128 (take (suc c) d) = ap (λ x. x.0) both in
        record { few = few; inside = inside; number_is = is; taken_is = ap (λ x. x.1) both; below = omega arith }

-- no shorter bytes are read as the number
pub read-fewest : (s : List ℕ) (at n k : ℕ) → read_vlq s at ≡ Ok (n, k) → length (vlq n) ≤ k
read-fewest s at n k e =
    let w = was_read s at n k e in
    let c = continuing (drop at s) in
    let below = number-below 128 (lit< tt) (take (suc c) (drop at s)) in
    let long : length (take (suc c) (drop at s)) ≡ suc c = length-take-le (suc c) (drop at s) (simp length-drop (omega (arith, w.inside))) in
    rw w.taken_is (length-vlq c n (subst (λ l. n < 128 ^ l) long (subst (λ x. x < 128 ^ length (take (suc c) (drop at s))) (sym w.number_is) below)))

pub read_below : (s : List ℕ) (at n k : ℕ) → read_vlq s at ≡ Ok (n, k) → n < 2 ^ 64
read_below s at n k e = (was_read s at n k e).below

pub read_some : (s : List ℕ) (at n k : ℕ) → read_vlq s at ≡ Ok (n, k) → 0 < k
read_some s at n k e = let w = was_read s at n k e in omega (arith, w.taken_is)

pub read-within : (s : List ℕ) (at n k : ℕ) → read_vlq s at ≡ Ok (n, k) → at + k ≤ length s
read-within s at n k e = let w = was_read s at n k e in omega (arith, w.inside, w.taken_is)

pub read-overwritten : (s : List ℕ) (at n : ℕ) → at + length (vlq n) ≤ length s → n < 2 ^ 64 → read_vlq (overwrite s at (vlq n)) at ≡ Ok (n, length (vlq n))
unfolding overwrite
read-overwritten s at n room h =
    let front : length (take at s) ≡ at = length-take-le at s (omega arith) in
    ap₂ read_vlq (append_assoc (take at s) (vlq n) (drop (at + length (vlq n)) s)) (sym front)
    ∙ read-written (take at s) n (drop (at + length (vlq n)) s) h
