-- How the bytes of the ticks grow, one reading after the other.
use Rattle.std.proofs.Common.{◌≡◌, ℕ, ◌*◌, ◌^◌, ◌<◌, ◌≤◌, List, [], ◌∷◌, ◌++◌, length, take, ℤ, pos, negsuc, sym, refl, ap, ◌∙◌, subst, ap₂, zero-le, lt_of_lt_of_le, zero-add, arith, lit≤, w64, SFits}
use Rattle.std.proofs.lemmas.List.{append_assoc, append-nil, length-append}
use Rattle.packed.specs.Bytes.{overwrite}
use Rattle.packed.specs.Digits.{digits}
use Rattle.packed.specs.Vlq.{vlq}
use Rattle.packed.specs.Zigzag.{zigzag_of}
use Rattle.packed.proofs.Overwrite.{overwrite-all, overwrite-none, take-overwrite}
use Rattle.packed.proofs.VlqLaws.{length-vlq}
use Rattle.bit_writer.specs.Sizes.{bytes_for}
use Rattle.bit_writer.specs.Writer.{Wrote, buffer, held_bytes}
use Rattle.bit_writer.specs.declared.BitWriter.{BitWriter}
use Rattle.bit_writer.proofs.Writing.{held_none, none_held, wrote_next}
use Rattle.loopview.specs.Columns.{difference_of, last_tick, ticks_of}
use Rattle.loopview.specs.declared.readings.Reading.{Reading}

pub ticks-push : (before : ℤ) (rs : List Reading) (r : Reading) → ticks_of before (rs ++ r ∷ []) ≡ ticks_of before rs ++ vlq (zigzag_of (difference_of (last_tick before rs) r.tick))
unfolding ticks_of last_tick
ticks-push before [] r = append-nil (vlq (zigzag_of (difference_of before r.tick)))
ticks-push before (x ∷ rs) r =
    ap (λ l. vlq (zigzag_of (difference_of before x.tick)) ++ l) (ticks-push x.tick rs r)
    ∙ sym (append_assoc (vlq (zigzag_of (difference_of before x.tick))) (ticks_of x.tick rs) (vlq (zigzag_of (difference_of (last_tick x.tick rs) r.tick))))

pub last-push : (before : ℤ) (rs : List Reading) (r : Reading) → last_tick before (rs ++ r ∷ []) ≡ r.tick
unfolding last_tick
last-push before [] r = refl
last-push before (x ∷ rs) r = last-push x.tick rs r

zigzag-below : (z : ℤ) → SFits w64 z → zigzag_of z < 2 ^ 64
zigzag-below (pos n) f = omega (arith, f.sfits)
zigzag-below (negsuc n) f = omega (arith, f.sfits)

-- a number of 64 bits takes at most ten bytes
pub difference-short : (z : ℤ) → SFits w64 z → length (vlq (zigzag_of z)) ≤ 10
difference-short z f = length-vlq 9 (zigzag_of z) (lt_of_lt_of_le (zigzag-below z f) (lit≤ tt))

-- bytes that fill a writer's buffer are all that it holds
pub wrote-all : (a b : BitWriter) (bytes : List ℕ) → a.byte_offset ≡ 0 → a.bit_offset ≡ 0 → length bytes ≡ length (buffer a) → Wrote a b (held_bytes a ++ bytes) → buffer b ≡ bytes
wrote-all a b bytes start none long w =
    w.buffer_is ∙ ap₂ (overwrite (buffer a)) start (held_none a bytes none) ∙ overwrite-all (buffer a) bytes long

-- The ticks of these readings are written, the last of them is known, and each took at most ten bytes.
pub record WroteTicks (start now : BitWriter) (rs : List Reading) (last : ℤ) : Type 0 where
  pub bytes : Wrote start now (ticks_of (pos 0) rs)
  pub short : length (ticks_of (pos 0) rs) ≤ length rs * 10
  pub tick : last ≡ last_tick (pos 0) rs

-- none are written yet
pub wrote-none : (w : BitWriter) → w.bit_offset ≡ 0 → WroteTicks w w [] (pos 0)
unfolding ticks_of last_tick
wrote-none w none =
    record {
      bytes = record {
        buffer_is = sym (overwrite-none (buffer w) w.byte_offset);
        place = omega arith;
        held = none_held w none;
        count = none;
        room = refl;
        lent = refl;
      };
      short = omega arith;
      tick = refl;
    }

-- the tick of one reading more
pub wrote-push : (start w after : BitWriter) (rs : List Reading) (last : ℤ) (r : Reading) (d : ℤ) → WroteTicks start w rs last
    → d ≡ difference_of last r.tick → SFits w64 d → Wrote w after (held_bytes w ++ vlq (zigzag_of d)) → WroteTicks start after (rs ++ r ∷ []) r.tick
wrote-push start w after rs last r d before is fits put =
    let more = vlq (zigzag_of d) in
    let next : ticks_of (pos 0) rs ++ more ≡ ticks_of (pos 0) (rs ++ r ∷ []) =
    ap (λ z. ticks_of (pos 0) rs ++ vlq (zigzag_of z)) (is ∙ ap (λ t. difference_of t r.tick) before.tick) ∙ sym (ticks-push (pos 0) rs r) in
    let all : Wrote start after (ticks_of (pos 0) rs ++ more) = wrote_next more before.bytes put in
    record {
      bytes = subst (Wrote start after) next all;
      short = subst (λ l. length l ≤ length (rs ++ r ∷ []) * 10) next
          (omega (arith, length-append (ticks_of (pos 0) rs) more, length-append rs (r ∷ []), before.short, difference-short d fits));
      tick = sym (last-push (pos 0) rs r);
    }
