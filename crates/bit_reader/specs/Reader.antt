-- A reader of packed values: where it stands, and what it finds there.
use Rattle.std.specs.Prelude.{◌≡◌, ℕ, ◌+◌, ◌-◌, ◌*◌, ◌/◌, ◌<◌, ◌≤◌, min, cond, List, length, Some, None, Option, Result, ◌==◌, nat_le}
use Rattle.packed.specs.Bytes.{bits_at, cells_at}
use Rattle.packed.specs.Vlq.{read_vlq}
use Rattle.packed.specs.declared.faults.Fault.{Fault}
use Rattle.bit_reader.specs.declared.BitReader.{BitReader}

abbrev pub page : BitReader → List ℕ
page r = r.buffer.now

-- The next bit, counted from the page's first.
abbrev pub position : BitReader → ℕ
position r = 8 * r.byte_offset + r.bit_offset

-- There are k values of w bits from where a reader stands.
abbrev pub HasValues : BitReader → ℕ → ℕ → Type 0
HasValues r w k = position r + k * w ≤ 8 * length (page r)

-- A reader that stands at bit p of the same page now.
pub record Moved (before after : BitReader) (p : ℕ) : Type 0 where
  pub same : page after ≡ page before
  pub to : position after ≡ p

-- The first byte of which no bit was read.
abbrev pub next_byte : BitReader → ℕ
next_byte r = (position r + 7) / 8

-- The cells of the next k values of w bits.
abbrev pub next_cells : {A : Type 0} → (ℕ → A) → BitReader → ℕ → ℕ → List A
next_cells made r w k = cells_at made (page r) (position r) w k

-- The field that begins at the next whole byte.
abbrev pub next_vlq : BitReader → Result (ℕ × ℕ) Fault
next_vlq r = read_vlq (page r) (next_byte r)

-- A single read of w bits at bit p: none where fewer are left.
abbrev pub read_one : List ℕ → ℕ → ℕ → Option ℕ
read_one s p w = cond (nat_le (p + w) (8 * length s)) (Some (bits_at s p w)) None

-- How many of m values of w bits there are from bit p on.
abbrev pub readable : List ℕ → ℕ → ℕ → ℕ → ℕ
readable s p w m = cond (w == 0) m (min m ((8 * length s - p) / w))

-- k is how many of m values there are: as many as single reads give one after the other, each of which gives one, and
-- with fewer than m the next gives none.
pub record Counted (s : List ℕ) (p w m k : ℕ) : Type 0 where
  pub count : k ≡ readable s p w m
  pub within : p + k * w ≤ 8 * length s
  pub bound : k ≤ m
  pub each : (i : ℕ) → i < k → read_one s (p + i * w) w ≡ Some (bits_at s (p + i * w) w)
  pub next : k < m → read_one s (p + k * w) w ≡ None
