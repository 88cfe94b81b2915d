-- Adding a value that repeats already.
use Rattle.std.specs.Prelude.{ℕ, ◌+◌, cond, List, ◌++◌, length, replicate, Some, None, Option, nat_le}
use Rattle.column.specs.Putting.{fitting}
use Rattle.column.specs.declared.Refusal.{Refusal}
use Rattle.column.specs.declared.Refusal.TheVariants.{ListTooLong, NoRepeatingRun}
use Rattle.rle.specs.Runs.{State, gathering, packing, repeating, state, page}

-- The value that repeats at the end of a list, if one does.
abbrev pub repeats_in : State → Option ℕ
repeats_in (gathering rs g) = None
repeats_in (packing rs p g) = None
repeats_in (repeating rs n v) = Some v

-- That value, or 0.
abbrev pub or_zero : Option ℕ → ℕ
or_zero None = 0
or_zero (Some v) = v

-- Why a value that repeats at the end of a list is not added `count` times more.
abbrev pub unextended_by : ℕ → ℕ → List ℕ → ℕ → Option ℕ → Option Refusal
unextended_by w room l count None = Some NoRepeatingRun
unextended_by w room l count (Some v) =
    cond (nat_le (length l + count) 2147483647) (fitting (length (page w (l ++ replicate count v))) room) (Some ListTooLong)

-- Why whatever repeats at the end of a list is not added `count` times more.
abbrev pub unextended : ℕ → ℕ → List ℕ → ℕ → Option Refusal
unextended w room l count = unextended_by w room l count (repeats_in (state l))
