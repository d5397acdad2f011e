-- Lines that spell events, each with its line feed, are the lines of the script that they make.
use Rattle.std.proofs.Common.{◌≡◌, ℕ, ◌≤◌, Bool, true, false, List, [], ◌∷◌, not, refl, ap, ◌∙◌, arith}
use Rattle.std.specs.List.{list_all}
use Rattle.std.proofs.lemmas.Bool.{and_parts, leb-true}
use Rattle.domain_script.specs.declared.event.Event.{Event}
use Rattle.domain_script.specs.declared.event.LineFault.TheVariants as line_fault
use Rattle.domain_script.specs.NamesState.{NamesState, noted}
use Rattle.script_words.specs.Words.{is_printable}
use Rattle.script_words.specs.Pieces.{HasNoFeed}
use Rattle.domain_script.specs.ScriptEvents.{AllSpell}
use Rattle.domain_script.specs.ScriptLines.{fed, script_lines}
use Rattle.domain_script.specs.Spells.{Spells}
use Rattle.domain_script.proofs.FaultLemmas.{faultless}
use Rattle.domain_script.proofs.ScriptLemmas.{lines_feed}

from_not : (b : Bool) → not b ≡ false → b ≡ true
from_not true off = refl
from_not false off = absurd (cc off)

printable_no_feed : (bytes : List ℕ) → list_all is_printable bytes ≡ true → HasNoFeed bytes
printable_no_feed [] all = tt
printable_no_feed (b ∷ bs) all =
    let parts = and_parts _ _ all in
    let low : 32 ≤ b = leb-true 32 b (and_parts _ _ parts.0).0 in
    (λ feed. omega (arith, low, feed), printable_no_feed bs parts.1)

-- a line that spells an event has no line feed
pub spelled_no_feed : (line : List ℕ) (names : NamesState) (event : Event) → Spells line names event → HasNoFeed line
spelled_no_feed line names event spells =
    printable_no_feed line (from_not (list_all is_printable line) (faultless line names event spells line_fault.Byte))

pub fed_lines : (texts : List (List ℕ)) (names : NamesState) (events : List Event) (after : NamesState) → AllSpell texts names events after → script_lines (fed texts) ≡ texts
fed_lines [] names events after spell = refl
fed_lines (text ∷ texts) names [] after spell = absurd spell
fed_lines (text ∷ texts) names (event ∷ events) after spell =
    lines_feed text (fed texts) (spelled_no_feed text names event spell.0)
    ∙ ap (λ (ls : List (List ℕ)). text ∷ ls) (fed_lines texts (noted names event) events after spell.1)
