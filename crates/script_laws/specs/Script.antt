-- How far a script was read.
use Rattle.std.specs.Prelude.{◌≡◌, ℕ, List, length, Option}
use Rattle.domain_script.specs.declared.event.Event.{Event}
use Rattle.domain_script.specs.NamesState.{NamesState}
use Rattle.domain_script.specs.ScriptEvents.{AllSpell, no_names}
use Rattle.domain_script.specs.ScriptLines.{LinesTaken}

-- these lines were read from the front of what a source gives, and spell these events
pub record ReadSoFar (start left : Option (List ℕ)) (events : List Event) (names : NamesState) (count : ℕ) : Type 0 where
  pub texts : List (List ℕ)
  pub taken : LinesTaken start left texts
  pub spell : AllSpell texts no_names events names
  pub counts : count ≡ length texts
