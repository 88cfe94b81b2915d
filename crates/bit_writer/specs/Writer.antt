-- A writer of packed values: which bytes it has written, and which bits it holds behind them.
use Rattle.std.specs.Prelude.{◌≡◌, ℕ, ◌+◌, ◌*◌, ◌/◌, ◌%◌, ◌^◌, ◌<◌, ◌≤◌, List, length, slice_index}
use Rattle.packed.specs.Bytes.{overwrite}
use Rattle.packed.specs.Digits.{digits, number}
use Rattle.bit_writer.specs.Sizes.{bytes_for, words_for}
use Rattle.bit_writer.specs.declared.BitWriter.{BitWriter}

abbrev pub buffer : BitWriter → List ℕ
buffer w = w.out.now

-- How many bytes a writer has written, with the one that is begun.
abbrev pub written : BitWriter → ℕ
written w = w.byte_offset + bytes_for w.bit_offset

-- Behind them the buffer has at least n bytes more.
abbrev pub HasRoom : BitWriter → ℕ → Type 0
HasRoom w n = written w + n ≤ length (buffer w)

-- No bits are held, so that bytes go right behind those that were written.
abbrev pub HoldsNone : BitWriter → Type 0
HoldsNone w = w.bit_offset ≡ 0

-- The bytes of the bits that a writer holds, filled up with zero bits.
abbrev pub held_bytes : BitWriter → List ℕ
held_bytes w = digits 256 (bytes_for w.bit_offset) w.buffered_values

-- Each of these values has at most n bits.
abbrev pub AllFit : ℕ → List ℕ → Type 0
AllFit n vs = (i : ℕ) → i < length vs → slice_index vs i < 2 ^ n

-- The bytes of values of n bits each, one behind the other; the last byte is filled up with zero bits.
abbrev pub packed_bytes : ℕ → List ℕ → List ℕ
packed_bytes n vs = digits 256 (bytes_for (length vs * n)) (number (2 ^ n) vs)

-- After these bytes were written from the writer's place on, and no bit is held. What lies before and behind them stays,
-- and so does the loan of the buffer.
pub record Wrote (before after : BitWriter) (bytes : List ℕ) : Type 0 where
  pub buffer_is : buffer after ≡ overwrite (buffer before) before.byte_offset bytes
  pub place : after.byte_offset ≡ before.byte_offset + length bytes
  pub held : after.buffered_values ≡ 0
  pub count : after.bit_offset ≡ 0
  pub room : length (buffer after) ≡ length (buffer before)
  pub lent : after.out.ghost_name ≡ before.out.ghost_name

-- After n bits, the number v, were put from the writer's place on: their whole words stand in the buffer, and the
-- writer holds those behind. What lies before and behind the words stays, and so does the loan of the buffer.
pub record PutBits (before after : BitWriter) (v n : ℕ) : Type 0 where
  pub buffer_is : buffer after ≡ overwrite (buffer before) before.byte_offset (digits 256 (words_for n) v)
  pub place : after.byte_offset ≡ before.byte_offset + words_for n
  pub held : after.buffered_values ≡ v / 2 ^ (8 * words_for n)
  pub count : after.bit_offset ≡ n % 64
  pub room : length (buffer after) ≡ length (buffer before)
  pub lent : after.out.ghost_name ≡ before.out.ghost_name

-- The writer's place, the bits that it holds and the loan of its buffer stay.
pub record SamePlace (before after : BitWriter) : Type 0 where
  pub place : after.byte_offset ≡ before.byte_offset
  pub held : after.buffered_values ≡ before.buffered_values
  pub count : after.bit_offset ≡ before.bit_offset
  pub lent : after.out.ghost_name ≡ before.out.ghost_name
