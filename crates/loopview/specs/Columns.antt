-- The columns that readings are packed into.
use Rattle.std.specs.Prelude.{◌≡◌, ℕ, ◌%◌, ◌^◌, ◌<◌, List, [], ◌∷◌, ◌++◌, map, length, ℤ, pos, ◌-ℤ◌, vec_items}
use Rattle.std.specs.Int.{int_wrap, w64}
use Rattle.packed.specs.Bytes.{cells_at}
use Rattle.packed.specs.Vlq.{vlq}
use Rattle.packed.specs.Zigzag.{zigzag_of}
use Rattle.bit_writer.specs.Writer.{packed_bytes}
use Rattle.loopview.specs.declared.readings.Reading.{Reading}
use Rattle.loopview.specs.declared.columns.PackedColumn.{PackedColumn}
use Rattle.loopview.specs.declared.columns.PackedColumn.TheVariants.{Address, Value}
use Rattle.loopview.specs.declared.columns.Columns.{Columns}
use Rattle.loopview.specs.declared.columns.ReadError.{ReadError}
use Rattle.loopview.specs.declared.columns.ReadError.TheVariants.{Memory, Faulty}

-- How many bits a value of the column has.
abbrev pub width_of : PackedColumn → ℕ
width_of Address = 7
width_of Value = 8

-- What the column holds of a reading.
abbrev pub pattern_of : PackedColumn → Reading → ℕ
pattern_of Address r = r.address
pattern_of Value r = r.value

abbrev pub packed_of : PackedColumn → List Reading → List ℕ
packed_of c rs = packed_bytes (width_of c) (map (pattern_of c) rs)

-- The k values of w bits that lie one behind the other from the first bit on, in cells of a byte each.
abbrev pub unpacked_at : ℕ → ℕ → List ℕ → List ℕ
unpacked_at w k bytes = cells_at (λ v. v % 2 ^ 8) bytes 0 w k

abbrev pub unpacked_of : PackedColumn → ℕ → List ℕ → List ℕ
unpacked_of c k bytes = unpacked_at (width_of c) k bytes

-- Each tick as its difference to the tick before, which wraps in 64 bits.
abbrev pub difference_of : ℤ → ℤ → ℤ
difference_of before tick = int_wrap w64 (tick -ℤ before)

unfoldable pub ticks_of : ℤ → List Reading → List ℕ
ticks_of before [] = []
ticks_of before (r ∷ rs) = vlq (zigzag_of (difference_of before r.tick)) ++ ticks_of r.tick rs

-- The tick of the last reading, or that before the first.
unfoldable pub last_tick : ℤ → List Reading → ℤ
last_tick before [] = before
last_tick before (r ∷ rs) = last_tick r.tick rs

-- The columns hold these readings, and nothing else.
pub record Packs (c : Columns) (rs : List Reading) : Type 0 where
  pub count : c.count ≡ length rs
  pub addresses : vec_items c.addresses ≡ packed_of Address rs
  pub values : vec_items c.values ≡ packed_of Value rs
  pub ticks : vec_items c.ticks ≡ ticks_of (pos 0) rs

-- A fault, if it is one, comes before all of n readings were good.
abbrev pub Before : ℕ → ReadError → Type 0
Before n Memory = Unit {0}
Before n (Faulty fault good) = good < n
