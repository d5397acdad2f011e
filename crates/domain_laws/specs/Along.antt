-- What a journal says happened to a port, and what an entry of one lane leaves of all others.
use Rattle.std.specs.Prelude.{◌≡◌, ◌≢◌, ℕ, ◌==◌, List, [], length, slice_get, ⊤}
use Rattle.lane_models.specs.LaneState.{LaneState}
use Rattle.lane_kinds.specs.Lanes as lanes
use Rattle.switch_laws.specs.Events.{SwitchEvent}
use Rattle.switch_laws.specs.Ports.{gets}
use Rattle.switch_laws.specs.Run.{LeavesOthers}
use Rattle.world_laws.specs.Settle.{OfLane, OfPort, SettleEntry}
use Rattle.domain_laws.specs.Domain.{DomainState}

-- its own events, and the frames that others gave it
abbrev pub port_said : ℕ → SettleEntry → List SwitchEvent
port_said j (OfPort k event) = lanes.own_or (j == k) event (gets j event)
port_said j _ = []

abbrev pub port_happened : ℕ → List SettleEntry → List SwitchEvent
port_happened = lanes.happened port_said

-- AN ENTRY of a disk, and one of a port
pub record LeavesDisks (k : ℕ) (before behind : List LaneState) : Type 0 where
  pub many : length behind ≡ length before
  pub others : (j : ℕ) → j ≢ k → slice_get behind j ≡ slice_get before j

pub record OnlyDisk (k : ℕ) (w v : DomainState) : Type 0 where
  pub disks : LeavesDisks k w.first.lanes v.first.lanes
  pub switch_stays : v.second ≡ w.second

pub record OnlyPort (k : ℕ) (event : SwitchEvent) (w v : DomainState) : Type 0 where
  pub disks_stay : v.first ≡ w.first
  pub ports : LeavesOthers k w.second event v.second

-- entries of one disk's lane alone, or of one port alone
abbrev pub IsOfDisk : ℕ → SettleEntry → Type 0
IsOfDisk k (OfLane j event) = j ≡ k
IsOfDisk k _ = ⊥

abbrev pub IsOfPort : ℕ → SettleEntry → Type 0
IsOfPort k (OfPort j event) = j ≡ k
IsOfPort k _ = ⊥
