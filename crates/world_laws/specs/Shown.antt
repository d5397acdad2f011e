-- What of a journal a short report shows.
use Rattle.std.specs.Prelude.{Bool, true, false, List, [], ◌∷◌, ◌++◌}
use Rattle.lane_models.specs.WireEvent.{Reset}
use Rattle.lane_models.specs.DiskEvent.{Asks, Done, Full, OnWire, Refused, Works}
use Rattle.world_laws.specs.Settle.{OfLane, SettleEntry}

-- a request that doesn't wait, a completion, a reset of an end, and the answer of a settle
abbrev pub is_shown : SettleEntry → Bool
is_shown (OfLane k (Asks (Full request))) = true
is_shown (OfLane k (Asks (Refused why request))) = true
is_shown (OfLane k (Works (Done id operation status bytes))) = true
is_shown (OfLane k (OnWire (Reset e cause packet lost))) = true
is_shown (OfLane k event) = false
is_shown _ = true

abbrev pub shown_if : Bool → SettleEntry → List SettleEntry
shown_if true x = x ∷ []
shown_if false x = []

abbrev pub shown : List SettleEntry → List SettleEntry
shown [] = []
shown (x ∷ part) = shown_if (is_shown x) x ++ shown part
