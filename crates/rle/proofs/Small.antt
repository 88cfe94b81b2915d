-- Every value that is read is below 2 ^ 64.
use Rattle.std.proofs.Common.{ℕ, zero, suc, ◌+◌, ◌*◌, ◌^◌, ◌<◌, ◌≤◌, List, replicate, arith, pow_mono}
use Rattle.std.specs.List.{AllByRecursion}
use Rattle.std.proofs.ByRecursion.{All-append}
use Rattle.packed.specs.Bytes.{cells_at}
use Rattle.packed.specs.Vlq.{read_vlq}
use Rattle.packed.proofs.Bytes.{bits_at-below}
use Rattle.rle.proofs.Headers.{headed-cases}
use Rattle.rle.specs.Runs.{value_bytes}
use Rattle.rle.specs.Reading.{Stand, ended, stopped, repeats, packs, run_at, follow, values_from}

abbrev pub Small : List ℕ → Type 0
Small vs = AllByRecursion (λ p. p < 2 ^ 64) vs

pub small-cells : (s : List ℕ) (p w n : ℕ) → w ≤ 64 → Small (cells_at (λ v. v) s p w n)
unfolding cells_at
small-cells s p w zero narrow = tt
small-cells s p w (suc n) narrow =
    let most : 2 ^ w ≤ 2 ^ 64 = pow_mono narrow in
    (omega (arith, bits_at-below s p w), small-cells s (p + w) w n narrow)

pub small-replicate : (n v : ℕ) → v < 2 ^ 64 → Small (replicate n v)
small-replicate zero v h = tt
small-replicate (suc n) v h = (h, small-replicate n v h)

-- the value of a run that repeats one
abbrev SmallRun : Stand → Type 0
SmallRun ended = Unit {0}
SmallRun (stopped f) = Unit {0}
SmallRun (repeats n v next) = v < 2 ^ 64
SmallRun (packs n start next) = Unit {0}

small-run : (w : ℕ) (s : List ℕ) (at : ℕ) → w ≤ 64 → SmallRun (run_at w s at)
small-run w s at narrow =
    let few : 8 * value_bytes w ≤ 64 = omega arith in
    let most : 2 ^ (8 * value_bytes w) ≤ 2 ^ 64 = pow_mono few in
    headed-cases w s at SmallRun tt (λ f. tt) (read_vlq s at)
    (λ h k n read there. omega (arith, bits_at-below s (8 * (at + k)) (8 * value_bytes w)))
    (λ h k g read. tt)

small-follow : (w f : ℕ) (s : List ℕ) (st : Stand) → w ≤ 64 → SmallRun st → ((next : ℕ) → Small (values_from f w s next).values) → Small (follow w s (λ next. values_from f w s next) st).values
small-follow w f s ended narrow run rest = tt
small-follow w f s (stopped x) narrow run rest = tt
small-follow w f s (repeats n v next) narrow run rest = All-append (λ p. p < 2 ^ 64) (replicate n v) (values_from f w s next).values (small-replicate n v run) (rest next)
small-follow w f s (packs n start next) narrow run rest =
    All-append (λ p. p < 2 ^ 64) (cells_at (λ v. v) s (8 * start) w n) (values_from f w s next).values (small-cells s (8 * start) w n narrow) (rest next)

pub small-values : (f w : ℕ) (s : List ℕ) (at : ℕ) → w ≤ 64 → Small (values_from f w s at).values
unfolding values_from
small-values zero w s at narrow = tt
small-values (suc f) w s at narrow =
    small-follow w f s (run_at w s at) narrow (small-run w s at narrow) (λ next. small-values f w s next narrow)
