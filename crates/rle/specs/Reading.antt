-- What a page of the RLE/bit-packed hybrid reads as, run by run.
use Rattle.std.specs.Prelude.{ℕ, zero, suc, ◌+◌, ◌*◌, ◌/◌, ◌%◌, min, Bool, true, false, cond, List, length, replicate, Ok, Err, Result, ◌==◌, nat_le, nat_lt}
use Rattle.packed.specs.Bytes.{bits_at, cells_at}
use Rattle.packed.specs.Vlq.{read_vlq}
use Rattle.packed.specs.declared.faults.Fault.{Fault}
use Rattle.packed.specs.declared.faults.FaultKind.{FaultKind}
use Rattle.packed.specs.declared.faults.FaultKind.TheVariants.{VlqTooLarge, DataEnds, RunTooLong, RepeatedValueCut, BadBlockSize, BadMiniBlocks, TotalTooLarge, ValueOutOfRange, MiniWidthTooLarge, TooFewValues}
use Rattle.bit_reader.specs.Reader.{readable}
use Rattle.column.specs.Pages.{end, fault, Waiting, nothing, before, Reading, refused, opened}
use Rattle.rle.specs.Runs.{value_bytes}

-- What stands at a place: the end, a fault, or a run and the place of the next. A packed run has as many values as are whole;
-- where it is cut, nothing follows it. It is no answer of the code, so that the reading is stated without it.
pub data Stand : Type 0 where
  ended : Stand
  stopped : Fault → Stand
  repeats : ℕ → ℕ → ℕ → Stand
  packs : ℕ → ℕ → ℕ → Stand

abbrev pub stop : FaultKind → ℕ → Stand
stop kind place = stopped (record { kind = kind; place = place })

-- A header that is cut ends the page.
abbrev pub ends_page : FaultKind → Bool
ends_page DataEnds = true
ends_page VlqTooLarge = false
ends_page RunTooLong = false
ends_page RepeatedValueCut = false
ends_page BadBlockSize = false
ends_page BadMiniBlocks = false
ends_page TotalTooLarge = false
ends_page ValueOutOfRange = false
ends_page MiniWidthTooLarge = false
ends_page TooFewValues = false

-- The value that n says is repeated begins at `start`.
unfoldable pub repeated_at : ℕ → List ℕ → ℕ → ℕ → ℕ → Stand
repeated_at w s at start n =
    cond (nat_lt 2147483647 n) (stop RunTooLong at)
    (cond (nat_le (start + value_bytes w) (length s)) (repeats n (bits_at s (8 * start) (8 * value_bytes w)) (start + value_bytes w)) (stop RepeatedValueCut start))

-- The g groups of eight begin at `start`.
unfoldable pub packed_at : ℕ → List ℕ → ℕ → ℕ → ℕ → Stand
packed_at w s at start g =
    cond (nat_lt 2147483647 (8 * g)) (stop RunTooLong at) (packs (readable s (8 * start) w (8 * g)) start (min (start + g * w) (length s)))

-- Header 0 ends the page; an even one repeats a value, an odd one packs groups.
abbrev pub headed_at : ℕ → List ℕ → ℕ → ℕ → ℕ → Stand
headed_at w s at start h = cond (h == 0) ended (cond (h % 2 == 0) (repeated_at w s at start (h / 2)) (packed_at w s at start (h / 2)))

unfoldable pub headed : ℕ → List ℕ → ℕ → Result (ℕ × ℕ) Fault → Stand
headed w s at (Err f) = cond (ends_page f.kind) ended (stopped f)
headed w s at (Ok r) = headed_at w s at (at + r.1) r.0

abbrev pub run_at : ℕ → List ℕ → ℕ → Stand
run_at w s at = headed w s at (read_vlq s at)

-- The values of what stands at a place, and behind a run those from the next place on.
abbrev pub follow : ℕ → List ℕ → (ℕ → Waiting) → Stand → Waiting
follow w s on ended = nothing end
follow w s on (stopped f) = nothing (fault f)
follow w s on (repeats n v next) = before (replicate n v) (on next)
follow w s on (packs n start next) = before (cells_at (λ v. v) s (8 * start) w n) (on next)

-- The values from a place on, and how they end, in at most f runs. A header takes a byte, so there are never more runs than
-- bytes.
unfoldable pub values_from : ℕ → ℕ → List ℕ → ℕ → Waiting
values_from zero w s at = nothing end
values_from (suc f) w s at = follow w s (λ next. values_from f w s next) (run_at w s at)

abbrev pub waiting_at : ℕ → List ℕ → ℕ → Waiting
waiting_at w s at = values_from (suc (length s)) w s at

-- The head is the first run's header, with the value that it repeats: a fault there keeps the page shut.
abbrev pub opens : Stand → Waiting → Reading
opens ended r = opened r
opens (stopped f) r = refused f
opens (repeats n v next) r = opened r
opens (packs n start next) r = opened r

abbrev pub reads : ℕ → List ℕ → Reading
reads w s = opens (run_at w s 0) (waiting_at w s 0)
