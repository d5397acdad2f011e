-- Where an element of two lists, one after the other, stands; and where an entry of a script's lines does.
use Rattle.std.proofs.Common.{◌≡◌, ◌⊎◌, inl, inr, List, [], ◌∷◌, ◌++◌, refl, sym, ap, ◌∙◌, subst, append_assoc, arith}
use Rattle.world_parts.specs.world_laws.Settle.{SettleEntry}
use Rattle.world_parts.specs.domain_laws.Lines.{Line, entries_of_lines}

pub no_place : {X : Type 0} (before : List X) (x : X) (behind : List X) → [] ≡ before ++ x ∷ behind → ⊥
no_place {X} [] x behind is = absurd (cc is)
no_place {X} (y ∷ before) x behind is = absurd (cc is)

-- IN THE FIRST of two lists, with more of it after
pub record InFirst {X : Type 0} (one two before : List X) (x : X) (behind : List X) : Type 0 where
  pub rest : List X
  pub is : one ≡ before ++ x ∷ rest
  pub others : rest ++ two ≡ behind

-- or in the second
pub record InSecond {X : Type 0} (one two before : List X) (x : X) (behind : List X) : Type 0 where
  pub later : List X
  pub before_is : before ≡ one ++ later
  pub is : two ≡ later ++ x ∷ behind

abbrev pub InEither : {X : Type 0} → List X → List X → List X → X → List X → Type 0
InEither one two before x behind = InFirst one two before x behind ⊎ InSecond one two before x behind

one_further : {X : Type 0} (y : X) (one two before : List X) (x : X) (behind : List X)
    → InEither one two before x behind → InEither (y ∷ one) two (y ∷ before) x behind
one_further y one two before x behind given = grind arith

pub place_in : {X : Type 0} (one two before : List X) (x : X) (behind : List X) → one ++ two ≡ before ++ x ∷ behind
    → InEither one two before x behind
place_in {X} (y ∷ one) two (z ∷ before) x behind is =
    let same : y ≡ z = cc is in
    let rest : one ++ two ≡ before ++ x ∷ behind = cc is in
    subst (λ (v : X). InEither (y ∷ one) two (v ∷ before) x behind) same
    (one_further y one two before x behind (place_in one two before x behind rest))
place_in one two before x behind is = grind arith

-- IN A LINE of a script, after so much of its part
pub record InLine (lines : List (Line × List SettleEntry)) (before : List SettleEntry) (entry : SettleEntry)
    (behind : List SettleEntry) : Type 0 where
  pub front : List (Line × List SettleEntry)
  pub line : Line × List SettleEntry
  pub later : List (Line × List SettleEntry)
  pub lines_are : lines ≡ front ++ line ∷ later
  pub so_far : List SettleEntry
  pub before_is : before ≡ entries_of_lines front ++ so_far
  pub place : InFirst line.1 (entries_of_lines later) so_far entry behind

line_further : (first : Line × List SettleEntry) (lines : List (Line × List SettleEntry))
    (before past : List SettleEntry) (entry : SettleEntry) (behind : List SettleEntry) → before ≡ first.1 ++ past
    → InLine lines past entry behind → InLine (first ∷ lines) before entry behind
line_further first lines before past entry behind is at = record {
  front = first ∷ at.front;
  line = at.line;
  later = at.later;
  lines_are = ap (λ (l : List (Line × List SettleEntry)). first ∷ l) at.lines_are;
  so_far = at.so_far;
  before_is = is ∙ ap (λ (l : List SettleEntry). first.1 ++ l) at.before_is
      ∙ sym (append_assoc first.1 (entries_of_lines at.front) at.so_far);
  place = at.place;
}

-- it stands in the part of the first line, or in those of the others
by_place : (first : Line × List SettleEntry) (lines : List (Line × List SettleEntry)) (before : List SettleEntry)
    (entry : SettleEntry) (behind : List SettleEntry)
    → ((past : List SettleEntry) → entries_of_lines lines ≡ past ++ entry ∷ behind → InLine lines past entry behind)
    → InEither first.1 (entries_of_lines lines) before entry behind → InLine (first ∷ lines) before entry behind
by_place first lines before entry behind others (inl at) =
    record { front = []; line = first; later = lines; lines_are = refl; so_far = before; before_is = refl; place = at }
by_place first lines before entry behind others (inr at) =
    line_further first lines before at.later entry behind at.before_is (others at.later at.is)

pub line_with : (lines : List (Line × List SettleEntry)) (before : List SettleEntry) (entry : SettleEntry)
    (behind : List SettleEntry) → entries_of_lines lines ≡ before ++ entry ∷ behind → InLine lines before entry behind
line_with [] before entry behind is = absurd (no_place before entry behind is)
line_with (first ∷ lines) before entry behind is =
    by_place first lines before entry behind
    (λ (past : List SettleEntry) (at : entries_of_lines lines ≡ past ++ entry ∷ behind). line_with lines past entry behind at)
    (place_in first.1 (entries_of_lines lines) before entry behind is)
