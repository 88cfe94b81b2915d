-- The laws of writing over a part of a list.
use Rattle.std.proofs.Common.{◌≡◌, ℕ, suc, ◌+◌, ◌-◌, ◌<◌, ◌≤◌, min, List, [], ◌∷◌, ◌++◌, length, take, drop, set, sym, ap, ◌∙◌, ap₂, append_assoc, append-nil, add-zero, zero-add, add_assoc, add-one, one-add, arith, length-append, length-drop, take-append-drop, length-take, length-take-le, drop-drop, take-suc-set, take_at, drop-set-lt, drop_at}
use borrow.Rule.Slice.PartMut.{put_mid}
use Rattle.packed.specs.Bytes.{overwrite}
use Rattle.std.proofs.lemmas.List.{drop_all, take_rest}

module _ {A : Type 0} (s : List A) (at : ℕ) where
  pub overwrite-none : overwrite s at [] ≡ s
  unfolding overwrite
  overwrite-none = rw (add-zero, append-nil) (take-append-drop at s)

  pub length-overwrite : (new : List A) → at + length new ≤ length s → length (overwrite s at new) ≡ length s
  unfolding overwrite
  length-overwrite new room = simp (length-append, length-drop, length-take) (omega arith)

  -- a write that reaches no further than the list begins inside it
  pub overwrite-inside : (new : List A) → at + length new ≤ length (overwrite s at new) → at ≤ length s
  unfolding overwrite
  overwrite-inside new h =
      let long : length (take at s ++ new ++ drop (at + length new) s) ≡ min at (length s) + length new + (length s - (at + length new)) = simp (length-append, length-drop, length-take) in
      omega arith

  -- two writes, the second right behind the first, are one
  pub overwrite-overwrite : (xs ys : List A) → at ≤ length s → overwrite (overwrite s at xs) (at + length xs) ys ≡ overwrite s at (xs ++ ys)
  unfolding overwrite
  overwrite-overwrite xs ys room =
      let e : length (take at s ++ xs) ≡ at + length xs = simp (length-append, length-take) (omega arith) in
      ap₂ (λ x y. x ++ ys ++ y)
      (take_at (take at s ++ xs) (drop (at + length xs) s) (at + length xs) e)
      (sym (drop-drop (length ys) (at + length xs) (take at s ++ xs ++ drop (at + length xs) s))
      ∙ ap (drop (length ys)) (drop_at (take at s ++ xs) (drop (at + length xs) s) (at + length xs) e)
      ∙ drop-drop (length ys) (at + length xs) s)
      ∙ rw (length-append, append_assoc (take at s) xs ys, add_assoc)

  -- one element and then the rest
  pub overwrite-set : (x : A) (xs : List A) → at < length s → overwrite (set s at x) (at + 1) xs ≡ overwrite s at (x ∷ xs)
  unfolding overwrite
  overwrite-set x xs room =
      ap₂ (λ y z. y ++ xs ++ z)
      (ap (λ n. take n (set s at x)) (add-one at) ∙ take-suc-set s at x room)
      (ap (λ n. drop n (set s at x)) (add_assoc at 1 (length xs) ∙ ap (λ n. at + n) (one-add (length xs))) ∙ drop-set-lt (at + suc (length xs)) s at x (omega arith))
      ∙ rw (append_assoc, append_assoc, append_assoc)

  pub take-overwrite : (new : List A) → at ≤ length s → take (at + length new) (overwrite s at new) ≡ take at s ++ new
  unfolding overwrite
  take-overwrite new room =
      take_at (take at s ++ new) (drop (at + length new) s) (at + length new) (simp (length-append, length-take) (omega arith))

  pub drop-overwrite : (new : List A) → at ≤ length s → drop at (overwrite s at new) ≡ new ++ drop (at + length new) s
  unfolding overwrite
  drop-overwrite new room =
      ap (drop at) (append_assoc (take at s) new (drop (at + length new) s))
      ∙ drop_at (take at s) (new ++ drop (at + length new) s) at (length-take-le at s room)

-- a write to a part of a slice
pub put_mid-overwrite : {A : Type 0} (s : List A) (at k : ℕ) (new : List A) → length new ≡ k → put_mid at k s new ≡ overwrite s at new
unfolding overwrite
put_mid-overwrite s at k new e =
    sym (append_assoc (take at s) new (drop k (drop at s)))
    ∙ ap (λ rest. take at s ++ new ++ rest) (drop-drop k at s ∙ ap (λ n. drop (at + n) s) (sym e))

-- a write from the start of the part from a place on
pub overwrite-rest : {A : Type 0} (s : List A) (at : ℕ) (new : List A) → put_mid at (length s - at) s (overwrite (take (length s - at) (drop at s)) 0 new) ≡ overwrite s at new
unfolding overwrite
overwrite-rest s at new =
    let behind : drop (0 + length new) (take (length s - at) (drop at s)) ≡ drop (at + length new) s =
    rw (take_rest s at, zero-add) (drop-drop (length new) at s) in
    let none : drop (length s - at) (drop at s) ≡ [] = drop_all (length s - at) (drop at s) (simp length-drop (omega arith)) in
    ap₂ (λ x y. take at s ++ (new ++ x ++ y)) behind none
    ∙ ap (λ x. take at s ++ x) (append-nil (new ++ drop (at + length new) s))
    ∙ sym (append_assoc (take at s) new (drop (at + length new) s))

-- a write over the whole list
pub overwrite-all : {A : Type 0} (s new : List A) → length new ≡ length s → overwrite s 0 new ≡ new
unfolding overwrite
overwrite-all s new e = ap (λ rest. new ++ rest) (drop_all (0 + length new) s (omega arith)) ∙ append-nil new
