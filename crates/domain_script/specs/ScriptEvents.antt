-- The events of a script, line after line.
use Rattle.std.specs.Prelude.{◌≡◌, ℕ, false, List, [], ◌∷◌}
use Rattle.domain_script.specs.declared.event.Event.{Event}
use Rattle.domain_script.specs.NamesState.{NamesState, noted}
use Rattle.domain_script.specs.Spells.{Spells}

-- nothing is declared
abbrev pub no_names : NamesState
no_names = record { disks = []; ports = []; ended = false }

-- each line spells its event, given the names that those before it declared
abbrev pub AllSpell : List (List ℕ) → NamesState → List Event → NamesState → Type 0
AllSpell [] names [] after = after ≡ names
AllSpell [] names (event ∷ events) after = ⊥
AllSpell (text ∷ texts) names [] after = ⊥
AllSpell (text ∷ texts) names (event ∷ events) after = Spells text names event × AllSpell texts (noted names event) events after
