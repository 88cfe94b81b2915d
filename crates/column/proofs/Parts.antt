-- A write to the front of a part of a list is one to the list.
use Rattle.std.proofs.Common.{◌≡◌, ℕ, ◌+◌, ◌≤◌, min, map, ltb, List, [], ◌++◌, length, take, drop, Err, sym, ap, ◌∙◌, subst, append_assoc, zero-add, zero-le, arith}
use borrow.Rule.Slice.PartMut.{put_mid}
use Rattle.std.proofs.lemmas.Bool.{cond_both}
use Rattle.std.proofs.lemmas.List.{drop-append-le, drop-drop, length-drop, length-map, length-take, take-append-drop}
use Rattle.packed.specs.Bytes.{overwrite}
use Rattle.packed.specs.declared.element.Element
use Rattle.column.specs.States.{DecoderState}
use Rattle.column.specs.Taking.{cells_with, taking, taking_from}
use Rattle.column.specs.declared.declined.Declined.TheVariants.{Refused}
use Rattle.column.specs.declared.Refusal.TheVariants.{ElementTooNarrow}

module _ {A : Type 0} (s : List A) (from k : ℕ) (room : from + k ≤ length s) where
  pub length-part : length (take k (drop from s)) ≡ k
  length-part = length-take k (drop from s) ∙ ap (min k) (length-drop from s) ∙ omega arith

  pub overwrite-part : (new : List A) → length new ≤ k → put_mid from k s (overwrite (take k (drop from s)) 0 new) ≡ overwrite s from new
  unfolding overwrite
  overwrite-part new short =
      let d = drop from s in
      let n = length new in
      ap (λ xs. take from s ++ xs)
      (append_assoc new (drop (0 + n) (take k d)) (drop k d)
      ∙ ap (λ xs. new ++ xs)
      (ap (λ j. drop j (take k d) ++ drop k d) (zero-add n)
      ∙ sym (drop-append-le n (take k d) (drop k d) (subst (λ j. n ≤ j) (sym length-part) short))
      ∙ ap (drop n) (take-append-drop k d)
      ∙ drop-drop n from s))
      ∙ sym (append_assoc (take from s) new (drop (from + n) s))

module _ {E : Type 0} (e : Element.Ghosts E) (d : DecoderState) where
  -- no more values than were asked for
  taken-most : (m : ℕ) → length (taking_from e m d).values ≤ m
  taken-most m =
      cond_both (ltb e.WIDTH d.width) (record { answer = Err (Refused ElementTooNarrow); values = []; left = d.waiting }) (taking m d.waiting) (λ t. length t.values ≤ m)
      (λ narrow. zero-le)
      (λ wide. rw length-take (omega arith))

  -- taking as many values as a part has cells, into that part
  pub part-taken : (cells : List E) (from k : ℕ) → from + k ≤ length cells
      → put_mid from k cells (cells_with e (take k (drop from cells)) 0 (taking_from e (length (take k (drop from cells))) d)) ≡ cells_with e cells from (taking_from e k d)
  part-taken cells from k room =
      let new = map e.made (taking_from e k d).values in
      ap (λ n. put_mid from k cells (cells_with e (take k (drop from cells)) 0 (taking_from e n d))) (length-part cells from k room)
      ∙ overwrite-part cells from k room new (subst (λ n. n ≤ k) (sym (length-map (taking_from e k d).values e.made)) (taken-most k))
