-- The law of a decoder: every value that waits in it is below 2 ^ 64.
use Rattle.std.proofs.Common.{ℕ, suc, ◌*◌, ◌^◌, ◌<◌, ◌≤◌, List, length, replicate}
use Rattle.std.proofs.ByRecursion.{All-append, All-drop}
use Rattle.packed.specs.Bytes.{cells_at}
use Rattle.rle.proofs.Small.{Small, small-cells, small-replicate, small-values}
use Rattle.rle.specs.Found.{found}
use Rattle.rle.specs.Reading.{Stand, ended, stopped, repeats, packs, follow, waiting_at}
use Rattle.rle_decoder.specs.Decoder.{page_of, waiting_of}
use Rattle.rle_decoder.specs.Run.{value_of}
use Rattle.rle_decoder.specs.declared.decoder.RleDecoder.{RleDecoder}

follow-small : (w : ℕ) (s : List ℕ) (st : Stand) → w ≤ 64 → value_of st < 2 ^ 64 → Small (follow w s (waiting_at w s) st).values
follow-small w s ended narrow fits = tt
follow-small w s (stopped f) narrow fits = tt
follow-small w s (repeats n v next) narrow fits =
    All-append (λ p. p < 2 ^ 64) (replicate n v) (waiting_at w s next).values (small-replicate n v fits) (small-values (suc (length s)) w s next narrow)
follow-small w s (packs n start next) narrow fits =
    All-append (λ p. p < 2 ^ 64) (cells_at (λ v. v) s (8 * start) w n) (waiting_at w s next).values (small-cells s (8 * start) w n narrow) (small-values (suc (length s)) w s next narrow)

-- the values that wait in a decoder
pub waiting_small : (d : RleDecoder) → Small (waiting_of d).values
waiting_small d =
    let all = follow d.width (page_of d) (waiting_at d.width (page_of d)) (found d.run) in
    All-drop (λ p. p < 2 ^ 64) d.taken all.values (follow-small d.width (page_of d) (found d.run) d.narrow d.value_fits)
