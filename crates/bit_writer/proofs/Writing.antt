-- How what a writer puts joins what it put before.
use Rattle.std.proofs.Common.{zero-add, zero-le, drop, drop-drop, append_assoc, refl, zero, suc, ◌∷◌, pow-suc, div-one, not-suc-le-zero, le_of_suc-le-suc, ◌≡◌, ℕ, ◌+◌, ◌-◌, ◌*◌, ◌/◌, ◌%◌, ◌^◌, ◌<◌, ◌≤◌, List, ◌++◌, length, get_or, take, sym, ap, ◌∙◌, subst, ap₂, lt_of_lt_of_le, mod-eq_of_lt, mul_assoc, suc-mul, mul_comm, add_comm, mul-add, add-one, arith, lit<, pow_pos, pow_mono, pow-add, shr-shr, shr_lt}
use borrow.Rule.Slice.PartMut.{put_mid}
use lib.Pow.{high, low, mod-pow-add}
use lib.Arith.{digits_lt}
use lib.Bits.{bit_or, or_shifted_r}
use native.Mathlib.Nat.{div-div-eq-div-mul, pow-zero, add-mul-div_right, add-mul-mod_self_right, mod-mod}
use Rattle.std.proofs.lemmas.List.{length-append}
use Rattle.std.specs.Int.{byte_at, bytes_low_first, to_le_bytes, w64}
use Rattle.packed.specs.Bytes.{overwrite}
use Rattle.packed.specs.Digits.{digits, number}
use Rattle.bit_writer.specs.Sizes.{bytes_for, words_for}
use Rattle.bit_writer.specs.Writer.{HoldsNone, PutBits, Wrote, buffer, held_bytes}
use Rattle.bit_writer.specs.declared.BitWriter.{BitWriter}
use Rattle.packed.proofs.Bytes.{power-bits, shl-cut}
use Rattle.packed.proofs.Digits.{length_digits, number_push, digits_append, digits_same}
use Rattle.packed.proofs.Overwrite.{overwrite-none, overwrite-overwrite, put_mid-overwrite, take-overwrite}

-- ---- a part of a buffer

-- what `s[at..end]` holds after a write to it is written over s
pub part-overwrite : (s part new : List ℕ) (at end : ℕ) → part ≡ new → at + length new ≡ end → put_mid at (end - at) s part ≡ overwrite s at new
part-overwrite s part new at end is long =
    ap (put_mid at (end - at) s) is ∙ put_mid-overwrite s at (end - at) new (omega arith)

-- the lowest bytes of a word
byte-at : (i n : ℕ) → byte_at i n ≡ n / 256 ^ i % 256
byte-at zero n = rw (pow-zero, div-one)
byte-at (suc i) n = refl

le_bytes-digits : (k i n : ℕ) → bytes_low_first i k n ≡ digits 256 k (n / 256 ^ i)
unfolding digits
le_bytes-digits zero i n = refl
le_bytes-digits (suc k) i n =
    ap₂ ◌∷◌ (byte-at i n) (le_bytes-digits k (suc i) n ∙ ap (digits 256 k) (ap (λ x. n / x) (pow-suc 256 i) ∙ sym (div-div-eq-div-mul n (256 ^ i) 256)))

take-digits : (k m n : ℕ) → k ≤ m → take k (digits 256 m n) ≡ digits 256 k n
unfolding digits
take-digits zero m n h = refl
take-digits (suc k) zero n h = absurd (not-suc-le-zero h)
take-digits (suc k) (suc m) n h = ap (λ ds. n % 256 ∷ ds) (take-digits k m (n / 256) (le_of_suc-le-suc h))

pub low_bytes : (k n : ℕ) → k ≤ 8 → take k (to_le_bytes w64 n) ≡ digits 256 k n
low_bytes k n h =
    ap (take k) (le_bytes-digits 8 0 n ∙ ap (digits 256 8) (rw (pow-zero, div-one))) ∙ take-digits k 8 n h

-- ---- a word

-- a value of n bits above those that a writer holds; `above` is the value as far as it reaches into the word
module _ (w : BitWriter) (v n : ℕ) (fits : v < 2 ^ n) where
  abbrev held : ℕ
  held = w.buffered_values

  abbrev count : ℕ
  count = w.bit_offset

  abbrev pub whole : ℕ
  whole = w.buffered_values + v * 2 ^ w.bit_offset

  swap : whole ≡ v * 2 ^ count + held
  swap = add_comm held (v * 2 ^ count)

  -- the word that they fill, as far as it reaches
  pub word-is : (above : ℕ) → above ≡ (v * 2 ^ count) % 2 ^ 64 → bit_or held above ≡ whole % 2 ^ 64
  word-is above is =
      let inside : count < 64 = w.few in
      let rest : (64 - count) + count ≡ 64 = omega arith in
      ap (bit_or held) (is ∙ ap (λ x. (v * 2 ^ count) % 2 ^ x) (sym rest) ∙ shl-cut v (64 - count) count)
      ∙ or_shifted_r (v % 2 ^ (64 - count)) count held w.small
      ∙ sym (ap₂ (λ x y. x % 2 ^ (64 - count) * 2 ^ count + y) (high v count w.small) (low v count w.small))
      ∙ sym (mod-pow-add (v * 2 ^ count + held) (64 - count) count)
      ∙ ap₂ (λ x y. x % 2 ^ y) (sym swap) rest

  put-below : whole < 2 ^ (count + n)
  put-below =
      subst (λ x. x < 2 ^ (count + n)) (sym swap)
      (subst (λ x. v * 2 ^ count + held < x) (sym (pow-add 2 n count) ∙ ap (λ x. 2 ^ x) (add_comm n count)) (digits_lt fits w.small))

  -- fewer than 64 bits are held as they are
  pub word-whole : (above : ℕ) → above ≡ (v * 2 ^ count) % 2 ^ 64 → count + n < 64 → bit_or held above ≡ whole
  word-whole above is h =
      word-is above is ∙ mod-eq_of_lt (lt_of_lt_of_le put-below (pow_mono {i = count + n} {j = 64} (omega arith)))

  pub word-below : (above : ℕ) → above ≡ (v * 2 ^ count) % 2 ^ 64 → count + n < 64 → bit_or held above < 2 ^ (count + n)
  word-below above is h = subst (λ x. x < 2 ^ (count + n)) (sym (word-whole above is h)) put-below

  -- what goes on into the next word
  pub carry-is : v / 2 ^ (64 - count) ≡ whole / 2 ^ 64
  carry-is =
      let inside : count < 64 = w.few in
      let rest : count + (64 - count) ≡ 64 = omega arith in
      ap (λ x. x / 2 ^ (64 - count)) (sym (high v count w.small))
      ∙ shr-shr (v * 2 ^ count + held) count (64 - count)
      ∙ ap₂ (λ x y. x / 2 ^ y) (sym swap) rest

  pub carry-below : 64 ≤ count + n → v / 2 ^ (64 - count) < 2 ^ (count + n - 64)
  carry-below h =
      let rest : count + n ≡ (count + n - 64) + 64 = omega arith in
      subst (λ x. x < 2 ^ (count + n - 64)) (sym carry-is) (shr_lt (count + n - 64) 64 (subst (λ x. whole < 2 ^ x) rest put-below))

-- the eight bytes of a word are the lowest of the number
pub word-digits : (n : ℕ) → digits 256 8 (n % 2 ^ 64) ≡ digits 256 8 n
word-digits n = digits_same 256 (lit< tt) 8 (n % 2 ^ 64) n (mod-mod n (2 ^ 64))

-- ---- a writer

-- bytes right behind those that were written
module _ {a b c : BitWriter} {front more : List ℕ} (w : Wrote a b front) (v : Wrote b c more) where
  pub wrote_buffer : buffer c ≡ overwrite (buffer a) a.byte_offset (front ++ more)
  wrote_buffer =
      let inside : a.byte_offset ≤ length (buffer a) = a.inside in
      v.buffer_is
      ∙ ap₂ (λ l i. overwrite l i more) w.buffer_is w.place
      ∙ overwrite-overwrite (buffer a) a.byte_offset front more inside

  pub wrote_place : c.byte_offset ≡ a.byte_offset + length (front ++ more)
  wrote_place = simp (length-append) (omega (arith, w.place, v.place))

  pub wrote_then : Wrote a c (front ++ more)
  wrote_then =
      record {
        buffer_is = wrote_buffer;
        place = wrote_place;
        held = v.held;
        count = v.count;
        room = v.room ∙ w.room;
        lent = v.lent ∙ w.lent;
      }

-- no bits are the number 0
pub none_held : (w : BitWriter) → HoldsNone w → w.buffered_values ≡ 0
none_held w none = omega (arith, subst (λ n. w.buffered_values < 2 ^ n) none w.small)

-- a writer that holds no bits writes none before its next bytes
pub held_none : (w : BitWriter) (more : List ℕ) → HoldsNone w → held_bytes w ++ more ≡ more
unfolding digits
held_none w more none = ap (λ n. digits 256 (bytes_for n) w.buffered_values ++ more) none

pub wrote_first : {a b : BitWriter} {bytes : List ℕ} → HoldsNone a → Wrote a b (held_bytes a ++ bytes) → Wrote a b bytes
wrote_first {a = a} {b = b} {bytes = bytes} none w = subst (Wrote a b) (held_none a bytes none) w

pub wrote_next : {a b c : BitWriter} {front : List ℕ} (more : List ℕ) → Wrote a b front → Wrote b c (held_bytes b ++ more) → Wrote a c (front ++ more)
wrote_next more w v = wrote_then w (wrote_first w.count v)

-- what a writer wrote from the first byte on is the front of its buffer
pub wrote_front : {a b : BitWriter} {bytes : List ℕ} → a.byte_offset ≡ 0 → Wrote a b bytes → take (length bytes) (buffer b) ≡ bytes
wrote_front {a = a} {b = b} {bytes = bytes} start w =
    ap₂ take (sym (zero-add (length bytes))) (w.buffer_is ∙ ap (λ at. overwrite (buffer a) at bytes) start)
    ∙ take-overwrite (buffer a) 0 bytes zero-le

-- no bits yet
pub put_none : (w : BitWriter) → HoldsNone w → PutBits w w 0 0
unfolding digits
put_none w none =
    record {
      buffer_is = sym (overwrite-none (buffer w) w.byte_offset);
      place = omega arith;
      held = none_held w none;
      count = none;
      room = refl;
      lent = refl;
    }

-- k bits, the number x, behind n bits
pub put-more : (a b c : BitWriter) (v n x k : ℕ)
    → PutBits a b v n
    → PutBits b c (b.buffered_values + x * 2 ^ b.bit_offset) (b.bit_offset + k)
    → PutBits a c (v + x * 2 ^ n) (n + k)
put-more a b c v n x k p q =
    let at = a.byte_offset in
    let inside : at ≤ length (buffer a) = a.inside in
    let m = b.bit_offset + k in
    let first = words_for n in
    let second = words_for m in
    let all : first + second ≡ words_for (n + k) = omega (arith, p.count) in
    let bits : b.bit_offset + 8 * first ≡ n = omega (arith, p.count) in
    -- the bits that were held, and x above them, are what lies above the first words
    let above : b.buffered_values + x * 2 ^ b.bit_offset ≡ (v + x * 2 ^ n) / 2 ^ (8 * first) =
    ap (λ y. y + x * 2 ^ b.bit_offset) p.held
    ∙ sym (add-mul-div_right v (x * 2 ^ b.bit_offset) (pow_pos (8 * first)))
    ∙ ap (λ y. (v + y) / 2 ^ (8 * first)) (mul_assoc x (2 ^ b.bit_offset) (2 ^ (8 * first)) ∙ ap (λ y. x * y) (sym (pow-add 2 b.bit_offset (8 * first)) ∙ ap (λ y. 2 ^ y) bits)) in
    let same : (v + x * 2 ^ n) % 2 ^ (8 * first) ≡ v % 2 ^ (8 * first) =
    ap (λ y. (v + y) % 2 ^ (8 * first)) (ap (λ y. x * 2 ^ y) (sym bits) ∙ ap (λ y. x * y) (pow-add 2 b.bit_offset (8 * first)) ∙ sym (mul_assoc x (2 ^ b.bit_offset) (2 ^ (8 * first))))
    ∙ add-mul-mod_self_right v (x * 2 ^ b.bit_offset) (2 ^ (8 * first)) in
    let low : digits 256 first v ≡ digits 256 first (v + x * 2 ^ n) =
    digits_same 256 (lit< tt) first v (v + x * 2 ^ n) (ap (λ y. v % y) (power-bits 8 first) ∙ sym same ∙ ap (λ y. (v + x * 2 ^ n) % y) (sym (power-bits 8 first))) in
    let high : digits 256 second (b.buffered_values + x * 2 ^ b.bit_offset) ≡ digits 256 second ((v + x * 2 ^ n) / 256 ^ first) =
    ap (digits 256 second) (above ∙ ap (λ y. (v + x * 2 ^ n) / y) (sym (power-bits 8 first))) in
    record {
      buffer_is =
          q.buffer_is
          ∙ ap₂ (λ l i. overwrite l i (digits 256 second (b.buffered_values + x * 2 ^ b.bit_offset))) p.buffer_is (p.place ∙ ap (λ y. at + y) (sym (length_digits 256 first v)))
          ∙ overwrite-overwrite (buffer a) at (digits 256 first v) (digits 256 second (b.buffered_values + x * 2 ^ b.bit_offset)) inside
          ∙ ap (overwrite (buffer a) at) (ap₂ ◌++◌ low high ∙ sym (digits_append 256 (lit< tt) first second (v + x * 2 ^ n)) ∙ ap (λ y. digits 256 y (v + x * 2 ^ n)) all);
      place = omega (arith, q.place, p.place, all);
      held =
          q.held
          ∙ ap (λ y. y / 2 ^ (8 * second)) above
          ∙ shr-shr (v + x * 2 ^ n) (8 * first) (8 * second)
          ∙ ap (λ y. (v + x * 2 ^ n) / 2 ^ y) (sym (mul-add 8 first second) ∙ ap (λ y. 8 * y) all);
      count = q.count ∙ omega (arith, p.count);
      room = q.room ∙ p.room;
      lent = q.lent ∙ p.lent;
    }

-- the bits that are held at the end fill whole bytes
pub put-flushed : (a b c : BitWriter) (v n : ℕ) → PutBits a b v n → Wrote b c (held_bytes b) → Wrote a c (digits 256 (bytes_for n) v)
put-flushed a b c v n p q =
    let at = a.byte_offset in
    let inside : at ≤ length (buffer a) = a.inside in
    let first = words_for n in
    let rest = bytes_for b.bit_offset in
    let all : first + rest ≡ bytes_for n = omega (arith, p.count) in
    let high : held_bytes b ≡ digits 256 rest (v / 256 ^ first) = ap (digits 256 rest) (p.held ∙ ap (λ y. v / y) (sym (power-bits 8 first))) in
    record {
      buffer_is =
          q.buffer_is
          ∙ ap₂ (λ l i. overwrite l i (held_bytes b)) p.buffer_is (p.place ∙ ap (λ y. at + y) (sym (length_digits 256 first v)))
          ∙ overwrite-overwrite (buffer a) at (digits 256 first v) (held_bytes b) inside
          ∙ ap (overwrite (buffer a) at) (ap (λ y. digits 256 first v ++ y) high ∙ sym (digits_append 256 (lit< tt) first rest v) ∙ ap (λ y. digits 256 y v) all);
      place = omega (arith, q.place, p.place, all, length_digits 256 rest b.buffered_values, length_digits 256 (bytes_for n) v);
      held = q.held;
      count = q.count;
      room = q.room ∙ p.room;
      lent = q.lent ∙ p.lent;
    }

-- one value more of those that are put at one width
pub put-value-more : (a b c : BitWriter) (vs : List ℕ) (i w : ℕ)
    → PutBits a b (number (2 ^ w) (take i vs)) (i * w) → i < length vs → get_or vs i 0 < 2 ^ w
    → PutBits b c (b.buffered_values + get_or vs i 0 * 2 ^ b.bit_offset) (b.bit_offset + w)
    → PutBits a c (number (2 ^ w) (take (i + 1) vs)) ((i + 1) * w)
put-value-more a b c vs i w p here fits q =
    let x = get_or vs i 0 in
    let more : number (2 ^ w) (take i vs) + x * 2 ^ (i * w) ≡ number (2 ^ w) (take (i + 1) vs) =
    sym (number_push (2 ^ w) (pow_pos w) vs i here
    ∙ ap₂ (λ y z. number (2 ^ w) (take i vs) + y * z) (mod-eq_of_lt fits) (power-bits w i ∙ ap (λ y. 2 ^ y) (mul_comm w i))) in
    let long : i * w + w ≡ (i + 1) * w = sym (ap (λ y. y * w) (add-one i) ∙ suc-mul i w) in
    subst (λ y. PutBits a c y ((i + 1) * w)) more
    (subst (PutBits a c (number (2 ^ w) (take i vs) + x * 2 ^ (i * w))) long (put-more a b c (number (2 ^ w) (take i vs)) (i * w) x w p q))
