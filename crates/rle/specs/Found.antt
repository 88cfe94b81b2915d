-- What a run that was read says.
use Rattle.std.specs.Prelude.{ℕ, cond, Some, None, Ok, Err, Option, Result}
use Rattle.packed.specs.declared.faults.Fault.{Fault}
use Rattle.rle.specs.declared.runs.Found.{Found}
use Rattle.rle.specs.declared.runs.Found.TheVariants.{Repeated, Packed}
use Rattle.rle.specs.Reading.{ends_page, Stand, ended, stopped, repeats, packs}

abbrev pub found : Result (Option Found) Fault → Stand
found (Ok None) = ended
found (Ok (Some (Repeated count value next))) = repeats count value next
found (Ok (Some (Packed count start next))) = packs count start next
found (Err f) = stopped f

-- A header, by what is read at its place: none where the data ends.
abbrev pub header_of : Result (ℕ × ℕ) Fault → Result (Option (ℕ × ℕ)) Fault
header_of (Ok r) = Ok (Some r)
header_of (Err f) = cond (ends_page f.kind) (Ok None) (Err f)
