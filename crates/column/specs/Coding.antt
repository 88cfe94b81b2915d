-- A coding by its definitions: what an encoder of it keeps, and when one is made.
use Rattle.std.specs.Prelude.{◌≡◌, ℕ, ◌≤◌, T, cond, List, [], Some, None, Ok, Err, Option, Result}
use Rattle.column.specs.Putting.{Column, fitting}
use Rattle.column.specs.States.{EncoderState}
use Rattle.column.specs.declared.Refusal.{Refusal}
use Rattle.column.specs.declared.Refusal.TheVariants.{BadWidth}
use Rattle.column.specs.declared.meaning.Meaning
use Rattle.column.specs.declared.pass.Pass

-- The page that an encoder writes when it is finished.
abbrev pub page_of : {C : Type 0} → Meaning.Ghosts C → EncoderState → List ℕ
page_of code s = code.page s.width s.accepted

-- What an encoder always keeps: its list is a column of its width, the coding has the width, and what the list needs fits
-- the buffer.
pub record Holds {C : Type 0} (code : Meaning.Ghosts C) (s : EncoderState) : Type 0 where
  pub column : Column s.width s.accepted
  pub allowed : T (code.allows s.width)
  pub fits : code.need s.width s.accepted ≤ s.room

-- Why no encoder of a width is made over a buffer.
abbrev pub unmade : {C : Type 0} → Meaning.Ghosts C → ℕ → ℕ → Option Refusal
unmade code w room = cond (code.allows w) (fitting (code.need w []) room) (Some BadWidth)

-- What checking a width and a buffer answers: a pass for both, or why not.
abbrev pub Checking : {P C : Type 0} → Pass.Ghosts P → Meaning.Ghosts C → ℕ → ℕ → Result P Refusal → Type 0
Checking pass code w room (Ok p) = (unmade code w room ≡ None) × (pass.width p ≡ w) × (pass.room p ≡ room)
Checking pass code w room (Err e) = unmade code w room ≡ Some e
