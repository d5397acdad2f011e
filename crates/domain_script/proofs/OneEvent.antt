-- A line spells at most one event.
use Rattle.std.proofs.Common.{◌≡◌, ℕ, List, [], ◌∷◌, Option, Some, None, inl, inr, sym, ◌∙◌, ap, subst, arith}
use Rattle.std.specs.List.{onto_first}
use Rattle.domain_script.specs.declared.event.Event.{Event}
use Rattle.domain_script.specs.declared.rows.RowKind.{RowKind}
use Rattle.domain_script.specs.NamesState.{NamesState}
use Rattle.domain_script.specs.Rows.{row_named}
use Rattle.domain_script.specs.Spells.{IsBlank, Spells, SpellsFound, SpellsWords}
use Rattle.script_words.specs.Words.{words}
use Rattle.domain_script.proofs.RowLemmas.{one_of_row}
use Rattle.script_words.proofs.WordLemmas.{words_cons}

-- the first word of a comment begins with #
pub words_of_hash : (b : ℕ) (bs : List ℕ) → b ≡ 35 → words (b ∷ bs) ≡ onto_first 35 (words bs)
words_of_hash b bs hash = words_cons b bs (λ space. omega (arith, hash, space)) ∙ ap (λ (c : ℕ). onto_first c (words bs)) hash

-- no row's word does
no_row_of_hash : (line : List (List ℕ)) (names : NamesState) (event : Event) → SpellsWords (onto_first 35 line) names event → ⊥
no_row_of_hash [] names event spells = spells
no_row_of_hash (word ∷ line) names event spells = spells

-- a blank line's words spell nothing
pub blank_alone : (line : List ℕ) (names : NamesState) (event : Event) → IsBlank line → SpellsWords (words line) names event → ⊥
blank_alone [] names event blank spells = spells
blank_alone (b ∷ bs) names event blank spells =
    no_row_of_hash (words bs) names event (subst (λ (l : List (List ℕ)). SpellsWords l names event) (words_of_hash b bs blank.0) spells)

one_found : (found : Option RowKind) (line : List (List ℕ)) (names : NamesState) (a b : Event)
    → SpellsFound found line names a → SpellsFound found line names b → a ≡ b
one_found None line names a b first second = absurd first
one_found (Some kind) line names a b first second = one_of_row kind line names a b first second

-- the same words: the same event
pub one_event : (line : List (List ℕ)) (names : NamesState) (a b : Event) → SpellsWords line names a → SpellsWords line names b → a ≡ b
one_event [] names a b first second = absurd first
one_event (word ∷ line) names a b first second = one_found (row_named word) line names a b first second

-- the same for a line
pub one_spelled : (line : List ℕ) (names : NamesState) (a b : Event) → Spells line names a → Spells line names b → a ≡ b
one_spelled line names a b (inl first) (inl second) = first.1 ∙ sym second.1
one_spelled line names a b (inl first) (inr second) = absurd (blank_alone line names b first.0 second)
one_spelled line names a b (inr first) (inl second) = absurd (blank_alone line names a second.0 first)
one_spelled line names a b (inr first) (inr second) = one_event (words line) names a b first second
