-- What an encoder has accepted, and what it refuses.
use Rattle.std.specs.Prelude.{◌≡◌, ℕ, ◌+◌, ◌^◌, ◌<◌, ◌≤◌, Bool, true, false, List, [], ◌∷◌, ◌++◌, length, replicate, Some, None, Ok, Err, Option, Result}
use Rattle.arrayvec.specs.ArrayVec.{array_vec_len}
use Rattle.column.specs.Putting.{unput}
use Rattle.column.specs.States.{EncoderState}
use Rattle.column.specs.declared.Refusal.{Refusal}
use Rattle.rle.specs.Runs.{state, page}
use Rattle.rle_encoder.specs.Encoding.{accepted_of, front_of, joins}
use Rattle.rle_encoder.specs.Extending.{or_zero, repeats_in, unextended}
use Rattle.rle_encoder.specs.declared.RleEncoder.{RleEncoder}
use Rattle.rle_encoder.specs.declared.phase.Phase.{Phase}
use Rattle.rle_encoder.specs.declared.phase.Phase.TheVariants.{Gathering, Packing, Repeating}

-- The list of the patterns that an encoder accepted.
abbrev pub accepted : RleEncoder → List ℕ
accepted e = accepted_of e.progress e.out.now

-- The bytes that are written.
abbrev pub front : RleEncoder → List ℕ
front e = front_of e.progress.phase e.progress.written e.out.now

-- How many bits its values have at most.
abbrev pub width : RleEncoder → ℕ
width e = e.progress.width

-- The buffer's length.
abbrev pub room : RleEncoder → ℕ
room e = length e.out.now

-- Where an encoder stands.
abbrev pub state_of : RleEncoder → EncoderState
state_of e = record { width = width e; room = room e; accepted = accepted e }

-- How many bytes the page of a list takes.
abbrev pub need : ℕ → List ℕ → ℕ
need w l = length (page w l)

-- Why a pattern is not added.
abbrev pub refusal : RleEncoder → ℕ → Option Refusal
refusal e p = unput need (state_of e) p

-- Why the value that repeats is not added `count` times more.
abbrev pub run_refusal : RleEncoder → ℕ → Option Refusal
run_refusal e count = unextended (width e) (room e) (accepted e) count

-- `count` times the value that repeats.
abbrev pub again : RleEncoder → ℕ → List ℕ
again e count = replicate count (or_zero (repeats_in (state (accepted e))))

-- The same, by the encoder's own fields.
abbrev pub more : RleEncoder → ℕ → List ℕ
more e count = replicate count (or_zero e.progress.same)

-- Whether a value repeats.
abbrev pub repeats : Phase → Bool
repeats Gathering = false
repeats (Packing header groups) = false
repeats (Repeating count) = true

-- The list with these values behind it is not too long, and its page fits the buffer.
pub record RoomFor (e : RleEncoder) (vs : List ℕ) : Type 0 where
  pub count : e.progress.length + length vs ≤ 2147483647
  pub fits : length (page (width e) (accepted e ++ vs)) ≤ room e

-- A value can be added: it has the encoder's width, and there is room for it.
pub record Takes (e : RleEncoder) (x : ℕ) : Type 0 where
  pub below : x < 2 ^ width e
  pub room_for : RoomFor e (x ∷ [])

-- It is the eighth of a group, whose values are then all equal or not.
pub record Fills (e : RleEncoder) (x : ℕ) (alike : Bool) : Type 0 where
  pub takes : Takes e x
  pub calm : repeats e.progress.phase ≡ false
  pub eighth : array_vec_len e.progress.gathered ≡ 7
  pub joined : joins e.progress x ≡ alike

-- A pattern is refused, or it can be added.
abbrev pub Admits : RleEncoder → ℕ → Result (Unit {0}) Refusal → Type 0
Admits e p (Ok u) = (refusal e p ≡ None) × Takes e p
Admits e p (Err x) = refusal e p ≡ Some x

-- Likewise the value that repeats, `count` times more.
abbrev pub AdmitsRun : RleEncoder → ℕ → Result (Unit {0}) Refusal → Type 0
AdmitsRun e count (Ok u) =
    (run_refusal e count ≡ None) × (repeats e.progress.phase ≡ true) × (again e count ≡ more e count) × RoomFor e (again e count)
AdmitsRun e count (Err x) = run_refusal e count ≡ Some x

-- After these values were added.
pub record Added (before after : RleEncoder) (vs : List ℕ) : Type 0 where
  pub accepted_is : accepted after ≡ accepted before ++ vs
  pub width_is : width after ≡ width before
  pub room_is : room after ≡ room before
  pub lent_is : after.out.ghost_name ≡ before.out.ghost_name

-- After a write to the buffer that changes nothing of what an encoder holds and has accepted.
pub record Unmoved (before after : RleEncoder) : Type 0 where
  pub progress_is : after.progress ≡ before.progress
  pub accepted_is : accepted after ≡ accepted before
  pub room_is : room after ≡ room before
  pub lent_is : after.out.ghost_name ≡ before.out.ghost_name
