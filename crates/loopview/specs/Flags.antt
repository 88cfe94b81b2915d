-- How the words of the command line are written.
use Rattle.std.specs.Prelude.{◌≡◌, ℕ, List, codes, IfOk, Ok, Result}
use Rattle.loopview.specs.declared.Flag.{Flag}
use Rattle.loopview.specs.declared.Flag.TheVariants.{All, Help}
use Rattle.loopview.specs.declared.NoFlag.{NoFlag}

abbrev pub spelling : Flag → List ℕ
spelling All = codes "--all"
spelling Help = codes "--help"

-- A word gives the flag that it spells, if it spells one.
pub record Spells (word : List ℕ) (r : Result Flag NoFlag) : Type 0 where
  pub known : IfOk r (λ flag. word ≡ spelling flag)
  pub all : (flag : Flag) → word ≡ spelling flag → r ≡ Ok flag
