-- What stands behind a header.
use Rattle.std.proofs.Common.{◌≡◌, ℕ, ◌+◌, ◌*◌, ◌/◌, ◌%◌, ◌≤◌, min, Bool, true, false, cond, eqb, ltb, leb, List, length, Some, None, Ok, Err, Option, Result, refl, ap, ◌∙◌}
use Rattle.std.proofs.lemmas.Bool.{cond_both, leb-true}
use Rattle.packed.specs.Bytes.{bits_at}
use Rattle.packed.specs.Vlq.{read_vlq}
use Rattle.packed.specs.declared.faults.Fault.{Fault}
use Rattle.packed.specs.declared.faults.FaultKind.TheVariants.{RunTooLong, RepeatedValueCut}
use Rattle.bit_reader.specs.Reader.{readable}
use Rattle.rle.specs.Found.{header_of}
use Rattle.rle.specs.Reading.{Stand, ended, stopped, repeats, packs, stop, ends_page, headed, headed_at, repeated_at, packed_at, run_at}
use Rattle.rle.specs.Runs.{value_bytes}

-- by the header, if there is one
abbrev pub headed_by : ℕ → List ℕ → ℕ → Result (Option (ℕ × ℕ)) Fault → Stand
headed_by w s at (Ok (Some r)) = headed_at w s at (at + r.1) r.0
headed_by w s at (Ok None) = ended
headed_by w s at (Err f) = stopped f

cut-or-fault : (w : ℕ) (s : List ℕ) (at : ℕ) (f : Fault) (t : Bool) → cond t ended (stopped f) ≡ headed_by w s at (cond t (Ok None) (Err f))
cut-or-fault w s at f true = refl
cut-or-fault w s at f false = refl

headed_of : (w : ℕ) (s : List ℕ) (at : ℕ) (r : Result (ℕ × ℕ) Fault) → headed w s at r ≡ headed_by w s at (header_of r)
unfolding headed
headed_of w s at (Ok r) = refl
headed_of w s at (Err f) = cut-or-fault w s at f (ends_page f.kind)

pub run-by-header : (w : ℕ) (s : List ℕ) (at : ℕ) {h : Result (Option (ℕ × ℕ)) Fault} → header_of (read_vlq s at) ≡ h → run_at w s at ≡ headed_by w s at h
run-by-header w s at is = headed_of w s at (read_vlq s at) ∙ ap (headed_by w s at) is

-- a fact of whatever can stand behind a header
module _ (w : ℕ) (s : List ℕ) (at : ℕ) (P : Stand → Type 0) (end : P ended) (fault : (f : Fault) → P (stopped f)) where
  headed-at-cases : (start h : ℕ)
      → ((n : ℕ) → start + value_bytes w ≤ length s → P (repeats n (bits_at s (8 * start) (8 * value_bytes w)) (start + value_bytes w)))
      → ((g : ℕ) → P (packs (readable s (8 * start) w (8 * g)) start (min (start + g * w) (length s))))
      → P (headed_at w s at start h)
  unfolding repeated_at packed_at
  headed-at-cases start h one eight =
      let n = h / 2 in
      let run = repeats n (bits_at s (8 * start) (8 * value_bytes w)) (start + value_bytes w) in
      let groups = packs (readable s (8 * start) w (8 * n)) start (min (start + n * w) (length s)) in
      let even = repeated_at w s at start n in
      let odd = packed_at w s at start n in
      cond_both (eqb h 0) ended (cond (eqb (h % 2) 0) even odd) P (λ _. end)
      (λ _. cond_both (eqb (h % 2) 0) even odd P
      (λ _. cond_both (ltb 2147483647 n) (stop RunTooLong at) (cond (leb (start + value_bytes w) (length s)) run (stop RepeatedValueCut start)) P (λ _. fault _)
      (λ _. cond_both (leb (start + value_bytes w) (length s)) run (stop RepeatedValueCut start) P (λ there. one n (leb-true (start + value_bytes w) (length s) there)) (λ _. fault _)))
      (λ _. cond_both (ltb 2147483647 (8 * n)) (stop RunTooLong at) groups P (λ _. fault _) (λ _. eight n)))

  pub headed-cases : (r : Result (ℕ × ℕ) Fault)
      → ((h k n : ℕ) → r ≡ Ok (h, k) → at + k + value_bytes w ≤ length s → P (repeats n (bits_at s (8 * (at + k)) (8 * value_bytes w)) (at + k + value_bytes w)))
      → ((h k g : ℕ) → r ≡ Ok (h, k) → P (packs (readable s (8 * (at + k)) w (8 * g)) (at + k) (min (at + k + g * w) (length s))))
      → P (headed w s at r)
  unfolding headed
  headed-cases (Err f) one eight = cond_both (ends_page f.kind) ended (stopped f) P (λ _. end) (λ _. fault f)
  headed-cases (Ok r) one eight = headed-at-cases (at + r.1) r.0 (λ n. one r.0 r.1 n refl) (λ g. eight r.0 r.1 g refl)
