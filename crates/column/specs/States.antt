-- Where an encoder and a decoder stand between two calls.
use Rattle.std.specs.Prelude.{ℕ, List, [], ◌++◌}
use Rattle.column.specs.Pages.{Waiting}

-- Where an encoder stands: its column's width, its buffer's length, and the list of the patterns that it accepted.
pub record EncoderState : Type 0 where
  pub width : ℕ
  pub room : ℕ
  pub accepted : List ℕ

-- An encoder that has accepted nothing.
abbrev pub fresh : ℕ → ℕ → EncoderState
fresh w room = record { width = w; room = room; accepted = [] }

-- An encoder that accepted these patterns too.
abbrev pub with_more : EncoderState → List ℕ → EncoderState
with_more s ps = record { width = s.width; room = s.room; accepted = s.accepted ++ ps }

-- Where a decoder stands: its page and its width as they were opened, and what waits.
pub record DecoderState : Type 0 where
  pub page : List ℕ
  pub width : ℕ
  pub waiting : Waiting
