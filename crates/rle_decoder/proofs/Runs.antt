-- A run: it lies in the page, it leads on to a later one, and what its values are.
use Rattle.std.proofs.Common.{◌≡◌, ℕ, zero, suc, ◌+◌, ◌-◌, ◌*◌, ◌/◌, ◌^◌, ◌<◌, ◌≤◌, List, ◌∷◌, ◌++◌, map, length, take, drop, replicate, Some, sym, refl, ap, ◌∙◌, subst, ⊎_elim, suc-le-suc, zero-le, pow_mono, arith}
use lib.ListN.{length-replicate}
use Rattle.std.proofs.lemmas.List.{take_at, drop_at, drop-append-le, take-append-le, drop-replicate, take-replicate, length-append, length-drop}
use Rattle.std.proofs.lemmas.Bool.{cases_lt}
use Rattle.packed.specs.Bytes.{bits_at, cells_at}
use Rattle.packed.specs.Vlq.{read_vlq}
use Rattle.packed.proofs.Bytes.{bits_at-below, length-cells_at, cells_at-append}
use Rattle.packed.proofs.VlqLaws.{read-within, read_some}
use Rattle.bit_reader.specs.Reader.{readable}
use Rattle.bit_reader.proofs.Reading.{all_fit, some_fit, counted}
use Rattle.column.specs.Pages.{Waiting}
use Rattle.column.specs.Taking.{behind}
use Rattle.rle.proofs.Headers.{headed-cases}
use Rattle.rle.specs.Runs.{value_bytes}
use Rattle.rle.specs.Reading.{Stand, ended, stopped, repeats, packs, run_at, follow}
use Rattle.rle_decoder.specs.Run.{count_of, bits_end, next_of, value_of}

-- ---- a run that was read

readable-within : (s : List ℕ) (p w m : ℕ) → p ≤ 8 * length s → p + readable s p w m * w ≤ 8 * length s
readable-within s p w m inside =
    let left = 8 * length s - p in
    let at : (k : ℕ) → k ≡ readable s p w m → p + k * w ≤ 8 * length s → p + readable s p w m * w ≤ 8 * length s = λ k e h. subst (λ x. p + x * w ≤ 8 * length s) e h in
    ⊎_elim
    (λ fewer. let c = counted s p w m (left / w) left inside refl (some_fit left w m fewer) in at (left / w) c.count c.within)
    (λ all. let c = counted s p w m m left inside refl (all_fit left w m all) in at m c.count c.within)
    (cases_lt left (m * w))

-- the page has its values
pub run_in_page : (w : ℕ) (s : List ℕ) (at : ℕ) (st : Stand) → st ≡ run_at w s at → bits_end w st ≤ 8 * length s
run_in_page w s at st is =
    subst (λ x. bits_end w x ≤ 8 * length s) (sym is)
    (headed-cases w s at (λ x. bits_end w x ≤ 8 * length s) zero-le (λ f. zero-le) (read_vlq s at)
    (λ h k n read there. zero-le)
    (λ h k g read. let inside = read-within s at h k read in readable-within s (8 * (at + k)) w (8 * g) (omega arith)))

-- the value that it repeats has 64 bits
pub run_fits : (w : ℕ) (s : List ℕ) (at : ℕ) (st : Stand) → w ≤ 64 → st ≡ run_at w s at → value_of st < 2 ^ 64
run_fits w s at st narrow is =
    let few : 8 * value_bytes w ≤ 64 = omega arith in
    let most : 2 ^ (8 * value_bytes w) ≤ 2 ^ 64 = pow_mono few in
    let zero : 0 < 2 ^ 64 = omega arith in
    subst (λ x. value_of x < 2 ^ 64) (sym is)
    (headed-cases w s at (λ x. value_of x < 2 ^ 64) zero (λ f. zero) (read_vlq s at)
    (λ h k n read there. omega (arith, bits_at-below s (8 * (at + k)) (8 * value_bytes w)))
    (λ h k g read. zero))

-- ---- the runs behind one

-- how many runs can come behind one
abbrev pub turns_left : List ℕ → Stand → ℕ
turns_left s ended = 0
turns_left s (stopped f) = 0
turns_left s (repeats n v next) = suc (suc (length s) - next)
turns_left s (packs n start next) = suc (suc (length s) - next)

turns_at : (s : List ℕ) (st : Stand) (next : ℕ) → next_of st ≡ Some next → turns_left s st ≡ suc (suc (length s) - next)
turns_at s ended next e = cc
turns_at s (stopped f) next e = cc
turns_at s (repeats n v next') next e = let same : next' ≡ next = cc in ap (λ x. suc (suc (length s) - x)) same
turns_at s (packs n start next') next e = let same : next' ≡ next = cc in ap (λ x. suc (suc (length s) - x)) same

-- fewer come behind the next
pub turns-fall : (w : ℕ) (s : List ℕ) (st : Stand) (next : ℕ) → next_of st ≡ Some next → turns_left s (run_at w s next) < turns_left s st
turns-fall w s st next leads =
    let none : 0 < suc (suc (length s) - next) = suc-le-suc zero-le in
    subst (λ n. turns_left s (run_at w s next) < n) (sym (turns_at s st next leads))
    (headed-cases w s next (λ x. turns_left s x < suc (suc (length s) - next)) none (λ f. none) (read_vlq s next)
    (λ h k n read there. let some = read_some s next h k read in omega arith)
    (λ h k g read. let some = read_some s next h k read in let inside = read-within s next h k read in omega arith))

-- ---- the values of a run

module _ (w : ℕ) (s : List ℕ) (on : ℕ → Waiting) where
  -- a run that is used up leads on to what waits behind it
  pub spent : (st : Stand) (t next : ℕ) → next_of st ≡ Some next → t ≡ count_of st → behind t (follow w s on st) ≡ on next
  spent ended t next leads all = cc
  spent (stopped f) t next leads all = cc
  spent (repeats n v next') t next leads all =
      let same : next' ≡ next = cc in
      let long : t ≡ length (replicate n v) = all ∙ sym (length-replicate n v) in
      ap (λ vs. record { values = vs; ending = (on next').ending }) (drop_at (replicate n v) (on next').values t (sym long)) ∙ ap on same
  spent (packs n start next') t next leads all =
      let same : next' ≡ next = cc in
      let long : t ≡ length (cells_at (λ v. v) s (8 * start) w n) = all ∙ sym (length-cells_at (λ v. v) s (8 * start) w n) in
      ap (λ vs. record { values = vs; ending = (on next').ending }) (drop_at (cells_at (λ v. v) s (8 * start) w n) (on next').values t (sym long)) ∙ ap on same

  pub counted-values : (st : Stand) → count_of st ≤ length (follow w s on st).values
  counted-values ended = zero-le
  counted-values (stopped f) = zero-le
  counted-values (repeats n v next) = omega (arith, length-append (replicate n v) (on next).values, length-replicate n v)
  counted-values (packs n start next) = omega (arith, length-append (cells_at (λ v. v) s (8 * start) w n) (on next).values, length-cells_at (λ v. v) s (8 * start) w n)

module _ {A : Type 0} (f : ℕ → A) (s : List ℕ) (p w k n : ℕ) (some : k ≤ n) where
  cells-parts : cells_at f s p w n ≡ cells_at f s p w k ++ cells_at f s (p + k * w) w (n - k)
  cells-parts =
      let all : n ≡ k + (n - k) = omega arith in
      ap (cells_at f s p w) all ∙ cells_at-append f s p w k (n - k)

  cells-take : take k (cells_at f s p w n) ≡ cells_at f s p w k
  cells-take = ap (take k) cells-parts ∙ take_at (cells_at f s p w k) (cells_at f s (p + k * w) w (n - k)) k (length-cells_at f s p w k)

  cells-drop : drop k (cells_at f s p w n) ≡ cells_at f s (p + k * w) w (n - k)
  cells-drop = ap (drop k) cells-parts ∙ drop_at (cells_at f s p w k) (cells_at f s (p + k * w) w (n - k)) k (length-cells_at f s p w k)

map-cells : {A : Type 0} (f : ℕ → A) (s : List ℕ) (p w k : ℕ) → map f (cells_at (λ v. v) s p w k) ≡ cells_at f s p w k
unfolding cells_at
map-cells f s p w zero = refl
map-cells f s p w (suc k) = ap (λ vs. f (bits_at s p w) ∷ vs) (map-cells f s (p + w) w k)

map-replicate : {A : Type 0} (f : ℕ → A) (k v : ℕ) → map f (replicate k v) ≡ replicate k (f v)
map-replicate f zero v = refl
map-replicate f (suc k) v = ap (λ vs. f v ∷ vs) (map-replicate f k v)

-- k values behind t of a list that others follow
middle : (xs rest : List ℕ) (t k : ℕ) → t + k ≤ length xs → take k (drop t (xs ++ rest)) ≡ take k (drop t xs)
middle xs rest t k some =
    let long : length (drop t xs) ≡ length xs - t = search (arith, length-drop) in
    ap (take k) (drop-append-le t xs rest (omega arith)) ∙ take-append-le k (drop t xs) rest (omega arith)

-- the next k values of a packed run
pub packed-values : {A : Type 0} (f : ℕ → A) (s : List ℕ) (w n start t k : ℕ) (rest : List ℕ) → t + k ≤ n
    → map f (take k (drop t (cells_at (λ v. v) s (8 * start) w n ++ rest))) ≡ cells_at f s (8 * start + t * w) w k
packed-values f s w n start t k rest some =
    let p = 8 * start in
    let xs = cells_at (λ v. v) s p w n in
    ap (map f)
    (middle xs rest t k (omega (arith, length-cells_at (λ v. v) s p w n))
    ∙ ap (take k) (cells-drop (λ v. v) s p w t n (omega arith))
    ∙ cells-take (λ v. v) s (p + t * w) w k (n - t) (omega arith))
    ∙ map-cells f s (p + t * w) w k

-- the next k values of a run that repeats one
pub repeated-values : {A : Type 0} (f : ℕ → A) (n v t k : ℕ) (rest : List ℕ) → t + k ≤ n → map f (take k (drop t (replicate n v ++ rest))) ≡ replicate k (f v)
repeated-values f n v t k rest some =
    ap (map f)
    (middle (replicate n v) rest t k (omega (arith, length-replicate n v))
    ∙ ap (take k) (drop-replicate t n v)
    ∙ take-replicate k (n - t) v (omega arith))
    ∙ map-replicate f k v
