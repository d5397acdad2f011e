-- How many requests a journal says were accepted, and what the lanes of a world count.
use Rattle.std.specs.Prelude.{ℕ, ◌+◌, List, [], ◌∷◌}
use Rattle.lane_models.specs.DiskEvent.{Accepted, Asks, DiskEvent}
use Rattle.lane_models.specs.LaneState.{LaneState}
use Rattle.world_laws.specs.Settle.{OfLane, SettleEntry}

abbrev pub accepts : DiskEvent → ℕ
accepts (Asks (Accepted id request)) = 1
accepts _ = 0

-- over all lanes
abbrev pub accepted_in : List SettleEntry → ℕ
accepted_in [] = 0
accepted_in (OfLane k event ∷ entries) = accepts event + accepted_in entries
accepted_in (x ∷ entries) = accepted_in entries

-- the sum of the next ids of lanes
abbrev pub next_ids : List LaneState → ℕ
next_ids [] = 0
next_ids (s ∷ lanes) = s.client.next_id + next_ids lanes
