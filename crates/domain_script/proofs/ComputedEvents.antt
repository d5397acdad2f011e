-- The events that are computed of lines are those that they spell.
use Rattle.std.proofs.Common.{◌≡◌, ℕ, List, [], ◌∷◌, Option, Some, None, IfSome, refl}
use Rattle.std.specs.Option.{option_and_then}
use Rattle.domain_script.specs.declared.event.Event.{Event}
use Rattle.domain_script.specs.declared.event.LineFault.{LineFault}
use Rattle.domain_script.specs.Computed.{event_of, events_of, faultless_event, in_front, unless_faulty}
use Rattle.domain_script.specs.Faults.{first_fault}
use Rattle.domain_script.specs.NamesState.{NamesState, noted}
use Rattle.domain_script.specs.ScriptEvents.{AllSpell}
use Rattle.domain_script.specs.Spells.{Spells}
use Rattle.domain_script.proofs.Faultless.{without_fault}

unless : (found : Option LineFault) (event : Event) (P : Event → Type 0) → (found ≡ None → P event) → IfSome (unless_faulty found event) P
unless None event P holds = holds refl
unless (Some which) event P holds = tt

-- the event of a line
pub event_spelled : (line : List ℕ) (names : NamesState) → IfSome (event_of line names) (Spells line names)
event_spelled line names = unless (first_fault line names) (faultless_event line names) (Spells line names) (without_fault line names)

-- Lines spell the events that are computed of them. Where the bytes of a script are known this computes to `AllSpell` of
-- its events: `events_spelled (script_lines bytes) no_names`, in a lemma that unfolds `digits` and `count_ones`.
pub events_spelled : (lines : List (List ℕ)) (names : NamesState) → IfSome (events_of lines names) (λ all. AllSpell lines names all.0 all.1)
events_spelled [] names = refl
events_spelled (line ∷ lines) names = first (event_of line names) (event_spelled line names) (λ event. events_spelled lines (noted names event))
  where
    behind : (event : Event) (others : Option (List Event × NamesState)) → Spells line names event → IfSome others (λ all. AllSpell lines (noted names event) all.0 all.1) → IfSome (in_front event others) (λ all. AllSpell (line ∷ lines) names all.0 all.1)
    behind event None spells rest = tt
    behind event (Some others) spells rest = (spells, rest)

    first : (o : Option Event) → IfSome o (Spells line names) → ((event : Event) → IfSome (events_of lines (noted names event)) (λ all. AllSpell lines (noted names event) all.0 all.1)) → IfSome (option_and_then (λ event. in_front event (events_of lines (noted names event))) o) (λ all. AllSpell (line ∷ lines) names all.0 all.1)
    first None spells others = tt
    first (Some event) spells others = behind event (events_of lines (noted names event)) spells (others event)
