-- What the fields of an encoder stand for.
use Rattle.std.specs.Prelude.{◌≡◌, ℕ, ◌+◌, ◌*◌, ◌/◌, ◌^◌, ◌≤◌, Bool, true, false, cond, List, [], ◌∷◌, ◌++◌, length, take, replicate, Some, None, Option, ◌==◌, nat_lt, slice_set}
use Rattle.std.specs.List.{flat_map}
use Rattle.arrayvec.specs.ArrayVec.{array_vec_len}
use Rattle.packed.specs.Digits.{digits, number}
use Rattle.rle.specs.Runs.{repeated, bytes_of, State, gathering, packing, repeating, all_equal, state, page}
use Rattle.rle.specs.Writing.{written, pending, recalled}
use Rattle.rle_encoder.specs.Extending.{or_zero}
use Rattle.rle_encoder.specs.declared.phase.Phase.{Phase}
use Rattle.rle_encoder.specs.declared.phase.Phase.TheVariants.{Gathering, Packing, Repeating}
use Rattle.rle_encoder.specs.declared.progress.Progress.{Progress}

-- The values that are in no written run yet: those of the run that repeats, and the collected ones.
abbrev pub held_in : Phase → Option ℕ → List ℕ → List ℕ
held_in Gathering same gathered = gathered
held_in (Packing header groups) same gathered = gathered
held_in (Repeating count) same gathered = replicate count (or_zero same) ++ gathered

-- The bytes that are written, with the header that an open packed run has so far: its byte is right when the run closes.
abbrev pub front_of : Phase → ℕ → List ℕ → List ℕ
front_of Gathering place out = take place out
front_of (Packing header groups) place out = slice_set (take place out) header (2 * groups + 1)
front_of (Repeating count) place out = take place out

-- The list that was accepted, by the bytes that are written and the values that are held.
unfoldable pub accepted_of : Progress → List ℕ → List ℕ
accepted_of p out = recalled p.width (front_of p.phase p.written out) (held_in p.phase p.same p.gathered.items)

abbrev pub phase_of : ℕ → State → Phase
phase_of w (gathering rs g) = Gathering
phase_of w (packing rs p g) = Packing (length (flat_map (bytes_of w) rs)) (length p / 8)
phase_of w (repeating rs n v) = Repeating n

-- The value that all of these have, if there are any and they are equal.
abbrev pub shared : List ℕ → Option ℕ
shared [] = None
shared (x ∷ xs) = cond (all_equal x (x ∷ xs)) (Some x) None

-- The value that repeats, or that all collected values have.
abbrev pub same_of : State → Option ℕ
same_of (gathering rs g) = shared g
same_of (packing rs p g) = shared g
same_of (repeating rs n v) = Some v

-- Whether a value is the one that repeats, or that all collected values have.
abbrev pub equals : Option ℕ → ℕ → Bool
equals None x = false
equals (Some v) x = x == v

-- Whether collected values are all equal with one more: by how many there were, and whether the new one equals them all.
abbrev pub alike_with : ℕ → Bool → Bool
alike_with count same = cond (count == 0) true same

abbrev pub joins : Progress → ℕ → Bool
joins p x = alike_with (array_vec_len p.gathered) (equals p.same x)

-- Whether all values are below 2 ^ w.
abbrev pub all_below : ℕ → List ℕ → Bool
all_below w [] = true
all_below w (v ∷ vs) = cond (nat_lt v (2 ^ w)) (all_below w vs) false

-- What an encoder and its buffer always fulfil: they show the state of the list that was accepted, and its page fits the
-- buffer.
pub record Kept (p : Progress) (out : List ℕ) : Type 0 where
  pub narrow : p.width ≤ 64
  pub short : p.length ≤ 2147483647
  pub inside : p.written ≤ length out
  pub few : array_vec_len p.gathered ≤ 7
  pub bytes : front_of p.phase p.written out ≡ written p.width (state (accepted_of p out))
  pub held : held_in p.phase p.same p.gathered.items ≡ pending (state (accepted_of p out))
  pub shown : p.phase ≡ phase_of p.width (state (accepted_of p out))
  pub same : p.same ≡ same_of (state (accepted_of p out))
  pub counted : p.length ≡ length (accepted_of p out)
  pub below : all_below p.width (accepted_of p out) ≡ true
  pub fits : length (page p.width (accepted_of p out)) ≤ length out

-- An encoder of a width that has accepted nothing.
abbrev pub nothing : ℕ → Progress
nothing w = record { width = w; length = 0; written = 0; phase = Gathering; same = None; gathered = record { items = [] } }

-- After one more value was collected, equal to all the others or not.
abbrev pub collected : Progress → ℕ → Bool → Progress
collected p x alike =
    record p { length = p.length + 1; same = cond alike (Some x) None; gathered = record { items = p.gathered.items ++ x ∷ [] } }

-- After the collected values and one more made a group.
abbrev pub grouped : Progress → Phase → Option ℕ → Progress
grouped p phase same = record p { length = p.length + 1; phase = phase; same = same; gathered = record { items = [] } }

-- The bytes of a run of the value that repeats, or that all collected values have.
abbrev pub run_bytes : Progress → ℕ → List ℕ
run_bytes p count = bytes_of p.width (repeated count (or_zero p.same))

-- The bytes of a packed group, behind its run's header.
abbrev pub group_bytes : ℕ → List ℕ → List ℕ
group_bytes w values = digits 256 w (number (2 ^ w) values)

-- Those of the collected values and one more.
abbrev pub group_with : Progress → ℕ → List ℕ
group_with p x = group_bytes p.width (p.gathered.items ++ x ∷ [])
