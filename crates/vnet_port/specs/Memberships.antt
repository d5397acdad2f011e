-- What comes of the list of groups, by the answers of the code.
use Rattle.std.specs.Prelude.{◌≡◌, ℕ, true, false, Bool, List, Option, Some, None}
use Rattle.lane_models.specs.NetEndState.{NetEndState}

-- the list is this one now, or the message is refused and it stays
abbrev pub SetsGroups : Bool → Option (List (List ℕ)) → NetEndState → NetEndState → Type 0
SetsGroups true (Some groups) s t = t ≡ record s { groups = groups }
SetsGroups false None s t = t ≡ s
SetsGroups _ _ s t = ⊥
