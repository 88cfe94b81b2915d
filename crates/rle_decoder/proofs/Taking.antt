-- A decoder that took values.
use Rattle.std.proofs.Common.{◌≡◌, ℕ, ◌+◌, ◌-◌, ◌*◌, ◌≤◌, List, [], ◌∷◌, map, length, take, drop, replicate, Some, sym, refl, ap, ◌∙◌, ap₂, zero-le, add-mul, mul-le-mul_right, arith}
use Rattle.std.proofs.lemmas.List.{length-drop, drop-drop}
use Rattle.column.specs.Taking.{behind, first_of}
use Rattle.packed.specs.Bytes.{bits_at, cells_at}
use Rattle.rle.specs.Reading.{repeats, packs, run_at, follow, waiting_at}
use Rattle.rle.proofs.Later.{waiting-step}
use Rattle.rle.specs.Found.{found}
use Rattle.rle_decoder.specs.Run.{count_of, bits_end, next_of}
use Rattle.rle_decoder.specs.Decoder.{page_of, waiting_of, left_of, Took}
use Rattle.rle_decoder.specs.declared.decoder.RleDecoder.{RleDecoder}
use Rattle.rle_decoder.proofs.Runs.{spent, counted-values, packed-values, repeated-values}

pub took_none : (a : RleDecoder) → Took a a 0
took_none a = record { page = refl; width = refl; most = zero-le; left = refl }

pub took_more : (a b c : RleDecoder) (k j n : ℕ) → k + j ≡ n → Took a b k → Took b c j → Took a c n
took_more a b c k j n sum first next =
    let size : length (waiting_of b).values ≡ length (waiting_of a).values - k = ap (λ r. length r.values) first.left ∙ length-drop k (waiting_of a).values in
    record {
      page = next.page ∙ first.page;
      width = next.width ∙ first.width;
      most = omega (arith, first.most, next.most, size);
      left =
          next.left
          ∙ ap (behind j) first.left
          ∙ ap (λ vs. record { values = vs; ending = (waiting_of a).ending }) (drop-drop j k (waiting_of a).values)
          ∙ ap (λ m. behind m (waiting_of a)) sum;
    }

-- no more wait in the run than wait at all
pub left_wait : (a : RleDecoder) → left_of a ≤ length (waiting_of a).values
left_wait a =
    let all = follow a.width (page_of a) (waiting_at a.width (page_of a)) (found a.run) in
    let long : count_of (found a.run) ≤ length all.values = counted-values a.width (page_of a) (waiting_at a.width (page_of a)) (found a.run) in
    omega (arith, long, length-drop a.taken all.values)

-- k values of the current run
pub took_run : (a b : RleDecoder) (k : ℕ) → page_of b ≡ page_of a → b.width ≡ a.width → b.run ≡ a.run → b.taken ≡ a.taken + k → k ≤ left_of a → Took a b k
took_run a b k page width run taken some =
    let all = follow a.width (page_of a) (waiting_at a.width (page_of a)) (found a.run) in
    let same : follow b.width (page_of b) (waiting_at b.width (page_of b)) (found b.run) ≡ all =
    ap₂ (λ w s. follow w s (waiting_at w s) (found b.run)) width page ∙ ap (λ r. follow a.width (page_of a) (waiting_at a.width (page_of a)) (found r)) run in
    record {
      page = page;
      width = width;
      most = omega (arith, some, left_wait a);
      left = ap₂ behind taken same ∙ ap (λ vs. record { values = vs; ending = all.ending }) (sym (drop-drop k a.taken all.values));
    }

-- the next run, where the current one is used up
pub took_next : (a b : RleDecoder) (next : ℕ) → page_of b ≡ page_of a → b.width ≡ a.width → found b.run ≡ run_at a.width (page_of a) next → b.taken ≡ 0
    → next_of (found a.run) ≡ Some next → left_of a ≡ 0 → Took a b 0
took_next a b next page width run taken leads none =
    let w = a.width in
    let s = page_of a in
    let used : a.taken ≡ count_of (found a.run) = omega (arith, none, a.counted) in
    record {
      page = page;
      width = width;
      most = zero-le;
      left =
          ap₂ (λ w s. behind b.taken (follow w s (waiting_at w s) (found b.run))) width page
          ∙ ap₂ (λ t st. behind t (follow w s (waiting_at w s) st)) taken run
          ∙ sym (waiting-step w s next)
          ∙ sym (spent w s (waiting_at w s) (found a.run) a.taken next leads used);
    }

-- ---- the next values of the current run

module _ (d : RleDecoder) (n start next k : ℕ) (stands : found d.run ≡ packs n start next) (some : k ≤ left_of d) where
  room : d.taken + k ≤ n
  room =
      let all : count_of (found d.run) ≡ n = ap count_of stands in
      omega (arith, all, d.counted)

  -- they lie in the page
  pub packed_room : 8 * start + d.taken * d.width + k * d.width ≤ 8 * length (page_of d)
  packed_room =
      let w = d.width in
      let some_bits : (d.taken + k) * w ≤ n * w = mul-le-mul_right w room in
      let ends : bits_end w (found d.run) ≡ 8 * start + n * w = ap (bits_end w) stands in
      omega (arith, some_bits, add-mul d.taken k w, ends, d.in_page)

  pub packed_next : {A : Type 0} (f : ℕ → A) → map f (take k (waiting_of d).values) ≡ cells_at f (page_of d) (8 * start + d.taken * d.width) d.width k
  packed_next f =
      let w = d.width in
      let s = page_of d in
      ap (λ st. map f (take k (drop d.taken (follow w s (waiting_at w s) st).values))) stands
      ∙ packed-values f s w n start d.taken k (waiting_at w s next).values room

pub repeated_next : (d : RleDecoder) (n v next k : ℕ) → found d.run ≡ repeats n v next → k ≤ left_of d → {A : Type 0} (f : ℕ → A)
    → map f (take k (waiting_of d).values) ≡ replicate k (f v)
repeated_next d n v next k stands some f =
    let w = d.width in
    let s = page_of d in
    let all : count_of (found d.run) ≡ n = ap count_of stands in
    ap (λ st. map f (take k (drop d.taken (follow w s (waiting_at w s) st).values))) stands
    ∙ repeated-values f n v d.taken k (waiting_at w s next).values (omega (arith, all, d.counted))

pub first_is : (vs : List ℕ) (v : ℕ) → map (λ x. x) (take 1 vs) ≡ v ∷ [] → first_of (λ x. x) vs ≡ Some v
first_is [] v e = cc
first_is (x ∷ xs) v e = let same : x ≡ v = cc in ap Some same

pub cells-one : (s : List ℕ) (p w : ℕ) → cells_at (λ x. x) s p w 1 ≡ bits_at s p w ∷ []
unfolding cells_at
cells-one s p w = refl
