-- How a list of values is cut into runs, and the bytes of each run.
use Rattle.std.specs.Prelude.{ℕ, ◌+◌, ◌-◌, ◌*◌, ◌/◌, ◌^◌, Bool, true, false, cond, List, [], ◌∷◌, ◌++◌, length, replicate, ◌==◌, nat_lt}
use Rattle.std.specs.List.{flat_map}
use Rattle.packed.specs.Digits.{digits, number}
use Rattle.packed.specs.Vlq.{vlq}

-- A value repeated, or values of whole groups of eight packed one behind the other.
pub data Run : Type 0 where
  repeated : ℕ → ℕ → Run
  packed : List ℕ → Run

abbrev pub values_of : Run → List ℕ
values_of (repeated n v) = replicate n v
values_of (packed vs) = vs

-- How many bytes a repeated value takes.
abbrev pub value_bytes : ℕ → ℕ
value_bytes w = (w + 7) / 8

-- A header, and the repeated value or the packed ones.
abbrev pub bytes_of : ℕ → Run → List ℕ
bytes_of w (repeated n v) = vlq (2 * n) ++ digits 256 (value_bytes w) v
bytes_of w (packed vs) = vlq (2 * (length vs / 8) + 1) ++ digits 256 (length vs / 8 * w) (number (2 ^ w) vs)

-- Between two values: the runs that are closed, and what is not in one yet. Fewer than eight values are collected, with or
-- without an open packed run; or one value repeats.
pub data State : Type 0 where
  gathering : List Run → List ℕ → State
  packing : List Run → List ℕ → List ℕ → State
  repeating : List Run → ℕ → ℕ → State

abbrev pub all_equal : ℕ → List ℕ → Bool
all_equal v [] = true
all_equal v (x ∷ xs) = cond (x == v) (all_equal v xs) false

abbrev pub head : List ℕ → ℕ
head [] = 0
head (x ∷ xs) = x

-- The runs, with an open packed one closed behind them.
abbrev pub close : List Run → List ℕ → List Run
close rs [] = rs
close rs (p ∷ ps) = rs ++ packed (p ∷ ps) ∷ []

-- Values that are collected behind the open run p, if it holds any.
abbrev pub collecting : List Run → List ℕ → List ℕ → State
collecting rs [] g = gathering rs g
collecting rs (p ∷ ps) g = packing rs (p ∷ ps) g

-- Eight values join the open run, which closes at 63 groups.
unfoldable pub pack_group : List Run → List ℕ → State
pack_group rs p = cond (length p == 504) (gathering (rs ++ packed p ∷ []) []) (packing rs p [])

-- Eight equal values close the open run and start to repeat; any other eight are packed.
unfoldable pub settle : List Run → List ℕ → List ℕ → State
settle rs p g =
    cond (nat_lt (length g) 8) (collecting rs p g)
    (cond (all_equal (head g) g) (repeating (close rs p) 8 (head g)) (pack_group rs (p ++ g)))

unfoldable pub step : State → ℕ → State
step (gathering rs g) x = settle rs [] (g ++ x ∷ [])
step (packing rs p g) x = settle rs p (g ++ x ∷ [])
step (repeating rs n v) x = cond (x == v) (repeating rs (n + 1) v) (gathering (rs ++ repeated n v ∷ []) (x ∷ []))

unfoldable pub steps : State → List ℕ → State
steps s [] = s
steps s (x ∷ xs) = steps (step s x) xs

abbrev pub state : List ℕ → State
state l = steps (gathering [] []) l

-- Values filled up with zeros to a whole group.
abbrev pub padded : List ℕ → List ℕ
padded g = g ++ replicate (8 - length g) 0

-- What ends a page: collected values that are all equal, with no packed run open, are repeated; others are packed.
unfoldable pub closing : State → List Run
closing (gathering rs []) = rs
closing (gathering rs (x ∷ g)) = rs ++ cond (all_equal x (x ∷ g)) (repeated (length (x ∷ g)) x) (packed (padded (x ∷ g))) ∷ []
closing (packing rs p []) = rs ++ packed p ∷ []
closing (packing rs p (x ∷ g)) = rs ++ packed (p ++ padded (x ∷ g)) ∷ []
closing (repeating rs n v) = rs ++ repeated n v ∷ []

unfoldable pub page : ℕ → List ℕ → List ℕ
page w l = flat_map (bytes_of w) (closing (state l))
