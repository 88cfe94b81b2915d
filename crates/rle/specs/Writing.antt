-- What stands in the buffer while a page is written, and what is not in it yet.
use Rattle.std.specs.Prelude.{ℕ, List, [], ◌∷◌, ◌++◌, length, replicate}
use Rattle.std.specs.List.{flat_map}
use Rattle.rle.specs.Reading.{waiting_at}
use Rattle.rle.specs.Runs.{Run, packed, State, gathering, packing, repeating, bytes_of, closing}

-- The runs whose bytes stand in the buffer; an open packed run's header always counts the groups it has.
abbrev pub runs_in : State → List Run
runs_in (gathering rs g) = rs
runs_in (packing rs p g) = rs ++ packed p ∷ []
runs_in (repeating rs n v) = rs

abbrev pub written : ℕ → State → List ℕ
written w s = flat_map (bytes_of w) (runs_in s)

-- The values that are in no written run yet.
abbrev pub pending : State → List ℕ
pending (gathering rs g) = g
pending (packing rs p g) = g
pending (repeating rs n v) = replicate n v

-- The list that written bytes and pending values stand for.
abbrev pub recalled : ℕ → List ℕ → List ℕ → List ℕ
recalled w front rest = (waiting_at w front 0).values ++ rest

-- How long the page is if no other value comes.
abbrev pub page_length : ℕ → State → ℕ
page_length w s = length (flat_map (bytes_of w) (closing s))
