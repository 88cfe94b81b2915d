-- A run leads on to a later place, so that the number of runs does not matter once it is large enough.
use Rattle.std.proofs.Common.{◌≡◌, ℕ, zero, suc, ◌+◌, ◌<◌, ◌≤◌, List, length, drop, sym, refl, ap, arith}
use Rattle.std.proofs.lemmas.List.{drop_all}
use Rattle.packed.specs.Vlq.{continuing, read_vlq}
use Rattle.packed.proofs.VlqLaws.{read-cut, read-within, read_some}
use Rattle.column.specs.Pages.{Waiting, end, nothing, before}
use Rattle.rle.proofs.Headers.{headed-cases}
use Rattle.rle.specs.Reading.{Stand, ended, stopped, repeats, packs, headed, run_at, follow, values_from, waiting_at}

-- the next run, if there is one, begins later
abbrev Later : ℕ → Stand → Type 0
Later at ended = Unit {0}
Later at (stopped f) = Unit {0}
Later at (repeats n v next) = at < next
Later at (packs n start next) = at < next

pub run-later : (w : ℕ) (s : List ℕ) (at : ℕ) → Later at (run_at w s at)
run-later w s at =
    headed-cases w s at (Later at) tt (λ f. tt) (read_vlq s at)
    (λ h k n read there. let some = read_some s at h k read in omega arith)
    (λ h k g read. let some = read_some s at h k read in let inside = read-within s at h k read in omega arith)

follow-same : (w : ℕ) (s : List ℕ) (at : ℕ) (j k : ℕ → Waiting) (st : Stand) → Later at st → ((next : ℕ) → at < next → j next ≡ k next) → follow w s j st ≡ follow w s k st
follow-same w s at j k ended later same = refl
follow-same w s at j k (stopped f) later same = refl
follow-same w s at j k (repeats n v next) later same = ap (before _) (same next later)
follow-same w s at j k (packs n start next) later same = ap (before _) (same next later)

-- nothing stands behind the data
pub past-stands : (w : ℕ) (s : List ℕ) (at : ℕ) → length s ≤ at → run_at w s at ≡ ended
unfolding headed continuing
past-stands w s at past =
    let k : continuing (drop at s) ≡ 0 = ap continuing (drop_all at s past) in
    ap (headed w s at) (read-cut s at (omega arith) (omega arith))

pub turns : (w : ℕ) (s : List ℕ) (f g at : ℕ) → length s < f + at → length s < g + at → values_from f w s at ≡ values_from g w s at
unfolding values_from
turns w s zero zero at hf hg = refl
turns w s zero (suc g) at hf hg = sym (ap (follow w s (λ next. values_from g w s next)) (past-stands w s at (omega arith)))
turns w s (suc f) zero at hf hg = ap (follow w s (λ next. values_from f w s next)) (past-stands w s at (omega arith))
turns w s (suc f) (suc g) at hf hg =
    follow-same w s at (λ next. values_from f w s next) (λ next. values_from g w s next) (run_at w s at) (run-later w s at) (λ next later. turns w s f g next (omega arith) (omega arith))

-- the values from a place on are those of what stands there, and those from the next place on
pub waiting-step : (w : ℕ) (s : List ℕ) (at : ℕ) → waiting_at w s at ≡ follow w s (waiting_at w s) (run_at w s at)
unfolding values_from
waiting-step w s at =
    follow-same w s at (λ next. values_from (length s) w s next) (waiting_at w s) (run_at w s at) (run-later w s at) (λ next later. turns w s (length s) (suc (length s)) next (omega arith) (omega arith))

-- no values wait behind the data
pub past-values : (w : ℕ) (s : List ℕ) (f at : ℕ) → length s ≤ at → values_from f w s at ≡ nothing end
unfolding values_from
past-values w s zero at past = refl
past-values w s (suc f) at past = ap (follow w s (λ next. values_from f w s next)) (past-stands w s at past)
