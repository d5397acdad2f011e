-- The entries of a round in which all lanes of a kind were quiet are of calm events.
use Rattle.std.proofs.Common.{◌≡◌, ℕ, ◌+◌, true, List, ◌∷◌, arith}
use Rattle.lane_kinds.proofs.EntriesEach.{entry_has}
use Rattle.lane_kinds.proofs.LaneFronts.{of_both}
use Rattle.lane_kinds.proofs.Sums.{and_left, and_right}
use Rattle.lane_kinds.specs.Lanes.{EachOf, Entries, LaneKind, all_calm, are_still, round_entries, turn_entries}

module _ {S V E : Type 0} (K : LaneKind S V) (N : Entries V E) (P : E → Type 0)
    (calm : (k : ℕ) (event : V) → K.is_calm event ≡ true → P (N.of_lane k event)) where
  calm_turn : (k : ℕ) (events : List V) → all_calm K events ≡ true → EachOf P (turn_entries K N k events)
  calm_turn k (event ∷ events) quiet =
      grind (arith, of_both, entry_has, and_left, and_right, calm_turn k events (and_right (K.is_calm event) (all_calm K events) quiet))
  calm_turn k events quiet = grind arith

  pub calm_entries : (k : ℕ) (turns : List (List V)) → are_still K turns ≡ true → EachOf P (round_entries K N k turns)
  calm_entries k (r ∷ turns) quiet =
      grind (arith, of_both, calm_turn, and_left, and_right, calm_entries (k + 1) turns (and_right (all_calm K r) (are_still K turns) quiet))
  calm_entries k turns quiet = grind arith
