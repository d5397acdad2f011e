-- The lines of a script are read in one way.
use Rattle.std.proofs.Common.{◌≡◌, ℕ, List, [], ◌∷◌, ◌++◌, length, sym, ◌∙◌, ap, subst, arith, Option, Some, None}
use Rattle.std.specs.Io.KnownBytes.{IsAtEnd}
use Rattle.std.proofs.lemmas.List.{append-nil}
use Rattle.domain_script.specs.declared.event.Event.{Event}
use Rattle.domain_script.specs.NamesState.{NamesState, noted}
use Rattle.domain_script.specs.ScriptLines.{script_lines, TakesLines}
use Rattle.domain_script.specs.Spells.{Spells}
use Rattle.domain_script.proofs.OneEvent.{one_spelled}
use Rattle.domain_script.specs.ScriptEvents.{AllSpell}

pub one_reading : (texts : List (List ℕ)) (names a b : NamesState) (es fs : List Event) → AllSpell texts names es a → AllSpell texts names fs b → (es ≡ fs) × (a ≡ b)
one_reading (x ∷ xs) names a b (e ∷ es) (f ∷ fs) first second =
    let same : e ≡ f = one_spelled x names e f first.0 second.0 in
    let rest = one_reading xs (noted names f) a b es fs (subst (λ (n : Event). AllSpell xs (noted names n) es a) same first.1) second.1 in
    (ap (λ (n : Event). n ∷ es) same ∙ ap (λ (l : List Event). f ∷ l) rest.0, rest.1)
one_reading texts names a b es fs first second = grind arith

pub as_many : (texts : List (List ℕ)) (names after : NamesState) (events : List Event) → AllSpell texts names events after → length events ≡ length texts
as_many (x ∷ xs) names after (e ∷ es) spell = omega (arith, as_many xs (noted names e) after es spell.1)
as_many texts names after events spell = grind arith

-- the line after those that were read spells an event
pub next_spells : (texts more : List (List ℕ)) (text : List ℕ) (first middle after : NamesState) (es fs : List Event) → AllSpell texts first es middle → AllSpell (texts ++ text ∷ more) first fs after → (e : Event) × Spells text middle e
next_spells [] more text first middle after [] (f ∷ fs) read all = (f, subst (λ (n : NamesState). Spells text n f) (sym read) all.0)
next_spells (x ∷ xs) more text first middle after (e ∷ es) (f ∷ fs) read all =
    let same : f ≡ e = one_spelled x first f e all.0 read.0 in
    next_spells xs more text (noted first e) middle after es fs read.1 (subst (λ (n : Event). AllSpell (xs ++ text ∷ more) (noted first n) fs after) same all.1)
next_spells texts more text first middle after es fs read all = grind arith

-- at the end all lines were read
pub all_read : (bytes : List ℕ) (left : Option (List ℕ)) (texts : List (List ℕ)) → IsAtEnd left → TakesLines (Some bytes) left texts → script_lines bytes ≡ texts
all_read bytes None texts end taken = absurd taken
all_read bytes (Some rest) texts end taken = taken.0 ∙ ap (λ (l : List ℕ). texts ++ script_lines l) end ∙ append-nil texts

-- the lines after those that were read spell events
pub rest_spells : (texts more : List (List ℕ)) (first middle after : NamesState) (es fs : List Event) → AllSpell texts first es middle → AllSpell (texts ++ more) first fs after → (gs : List Event) × AllSpell more middle gs after
rest_spells (x ∷ xs) more first middle after (e ∷ es) (f ∷ fs) read all =
    let same : f ≡ e = one_spelled x first f e all.0 read.0 in
    rest_spells xs more (noted first e) middle after es fs read.1 (subst (λ (n : Event). AllSpell (xs ++ more) (noted first n) fs after) same all.1)
rest_spells texts more first middle after es fs read all = grind arith
