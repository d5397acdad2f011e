-- The names of the lanes of a kind, by their numbers.
use Rattle.std.specs.Prelude.{ℕ, List, [], ◌∷◌, map}
use Rattle.domain_script.specs.Declarations.{Declared}
use Rattle.domain_script.specs.LaneKinds.{lane_at}
use Rattle.domain_script.specs.declared.fields.LaneKind.{LaneKind}
use Rattle.line_words.specs.LineNames.{lane_name}

-- those of the eight that can be declared, nothing for one that isn't
abbrev pub lane_names : LaneKind → Declared → List (List ℕ)
lane_names kind declared = map (λ (k : ℕ). lane_name declared (lane_at kind k)) (0 ∷ 1 ∷ 2 ∷ 3 ∷ 4 ∷ 5 ∷ 6 ∷ 7 ∷ [])
