-- What a decoder means: the values that wait in its page, and how they end.
use Rattle.std.specs.Prelude.{◌≡◌, ℕ, ◌-◌, ◌<◌, ◌≤◌, Bool, true, false, List, length, Ok, Err, Result}
use Rattle.column.specs.Pages.{end, fault, Waiting, nothing}
use Rattle.column.specs.States.{DecoderState}
use Rattle.column.specs.Taking.{behind}
use Rattle.column.specs.declared.declined.Declined.{Declined}
use Rattle.column.specs.declared.declined.Declined.TheVariants.{Refused, Faulted}
use Rattle.rle.specs.Found.{found}
use Rattle.rle.specs.Reading.{follow, waiting_at}
use Rattle.rle_decoder.specs.Run.{count_of}
use Rattle.rle_decoder.specs.declared.decoder.RleDecoder.{RleDecoder}

abbrev pub page_of : RleDecoder → List ℕ
page_of d = d.page.now

-- The values of the current run that were not taken, and what waits behind the run.
abbrev pub waiting_of : RleDecoder → Waiting
waiting_of d = behind d.taken (follow d.width (page_of d) (waiting_at d.width (page_of d)) (found d.run))

abbrev pub state_of : RleDecoder → DecoderState
state_of d = record { page = page_of d; width = d.width; waiting = waiting_of d }

-- How many values of the current run are left.
abbrev pub left_of : RleDecoder → ℕ
left_of d = count_of (found d.run) - d.taken

-- A decoder that took k of the values that waited.
pub record Took (before after : RleDecoder) (k : ℕ) : Type 0 where
  pub page : page_of after ≡ page_of before
  pub width : after.width ≡ before.width
  pub most : k ≤ length (waiting_of before).values
  pub left : waiting_of after ≡ behind k (waiting_of before)

-- Whether a run with values follows: if not, nothing waits, and the answer says how the page ends behind k values.
abbrev pub Refilled : RleDecoder → ℕ → Result Bool Declined → Type 0
Refilled d k (Ok true) = 0 < left_of d
Refilled d k (Ok false) = waiting_of d ≡ nothing end
Refilled d k (Err (Faulted f n)) = (n ≡ k) × (waiting_of d ≡ nothing (fault f))
Refilled d k (Err (Refused r)) = ⊥
