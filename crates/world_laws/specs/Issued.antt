-- The ids that clients gave to requests: an event gives one where it accepts a request.
use Rattle.std.specs.Prelude.{ℕ, ◌+◌, List, [], ◌∷◌}
use Rattle.lane_models.specs.DiskEvent.{Accepted, Asks, DiskEvent}
use Rattle.lane_models.specs.LaneState.{LaneState}

-- the client's next id after an event
abbrev pub next_behind : DiskEvent → ℕ → ℕ
next_behind (Asks (Accepted id request)) next = next + 1
next_behind event next = next

-- how many ids all lanes gave
abbrev pub issued_on : List LaneState → ℕ
issued_on [] = 0
issued_on (s ∷ lanes) = s.client.next_id + issued_on lanes
