-- What becomes of a piece, and of the line before it.
use Rattle.std.proofs.Common.{◌≡◌, ℕ, ◌+◌, ◌<◌, ◌≤◌, true, eqb, List, ◌∷◌, ◌++◌, length, get_or, take, drop, Ok, Err, refl, sym, ◌∙◌, ap, subst, arith, append_assoc}
use Rattle.std.proofs.lemmas.List.{length-append}
use Rattle.domain_script.specs.Pieces.{HasNoFeed}
use Rattle.domain_script.proofs.Feeds.{cut_at, has_no_append, has_no_take}
use Rattle.script_reader.specs.declared.lines.LinesFault.{LinesFault}
use Rattle.script_reader.specs.declared.lines.LinesFault.TheVariants.{Source, Long, Many}
use Rattle.script_reader.specs.Parts.{Extends, MovesPart}

-- the bytes up to the line feed at n were moved
pub part_moved : (piece line line_after : List ℕ) (n : ℕ) → n < length piece → eqb (get_or piece n 0) 10 ≡ true
    → ((k : ℕ) → 0 ≤ k → k < n → eqb (get_or piece k 0) 10 ≡ true → ⊥) → HasNoFeed line → Extends line (take n piece) (Ok tt) line_after
    → MovesPart piece line (Ok true) (drop (n + 1) piece) line_after
part_moved piece line line_after n lt is none clean extends = (
  ap (λ (l : List ℕ). line ++ l) (cut_at 10 piece n lt is)
      ∙ sym (append_assoc line (take n piece) (10 ∷ drop (n + 1) piece))
      ∙ ap (λ (l : List ℕ). l ++ 10 ∷ drop (n + 1) piece) (sym extends.0),
  subst (λ (l : List ℕ). HasNoFeed l) (sym extends.0) (has_no_append 10 line (take n piece) clean (has_no_take 10 piece n none)),
  extends.1,
)

-- a part of a piece was refused: its bytes stand at the front of the piece, and none of them is a line feed
pub part_refused : (piece line part behind line_after : List ℕ) (fault : LinesFault) → piece ≡ part ++ behind → HasNoFeed line → HasNoFeed part
    → Extends line part (Err fault) line_after → MovesPart piece line (Err fault) piece line_after
part_refused piece line part behind line_after Long is clean clean_part extends = (
  refl,
  extends.0,
  record {
    front = line ++ part;
    behind = behind;
    is = ap (λ (l : List ℕ). line ++ l) is ∙ sym (append_assoc line part behind);
    no_feed = has_no_append 10 line part clean clean_part;
    long = omega (arith, extends.1, length-append line part);
  },
)
part_refused piece line part behind line_after Source is clean clean_part extends = absurd extends
part_refused piece line part behind line_after Many is clean clean_part extends = absurd extends
