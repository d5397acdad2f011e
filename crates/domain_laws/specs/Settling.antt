-- What stands of the lanes before a settle over disks and ports, and behind one.
use Rattle.std.specs.Prelude.{◌≡◌, ◌⊎◌, ℕ, ◌≤◌, Bool, true, is_some, List, [], length}
use Rattle.lane_models.specs.Reached as disk
use Rattle.lane_kinds.specs.Lanes.{EachAt, EachOf}
use Rattle.lane_kinds.specs.Stuck.{sum_over}
use Rattle.lane_models.specs.NetLaneStep.{is_finished}
use Rattle.lane_models.specs.PortState.{PortState}
use Rattle.switch_laws.specs.PortCounts as switch
use Rattle.switch_laws.specs.Ports as switch_ports
use Rattle.switch_laws.specs.Reached as port
use Rattle.world_laws.specs.Settle.{OfPort, SettleEntry}
use Rattle.world_laws.specs.Sums as forging
use Rattle.domain_laws.specs.Domain.{Lanes}

-- EACH LANE was reached by a run of its own; nobody forged one; and there are at most eight of each kind
pub record AreReached (w : Lanes) : Type 0 where
  pub of_disks : EachOf disk.IsReached w.first
  pub of_ports : EachOf port.IsReached w.second

pub record AreUnforged (w : Lanes) : Type 0 where
  pub of_disks : EachOf forging.IsUnforged w.first
  pub of_ports : EachOf port.IsUnforged w.second

pub record AreFew (w : Lanes) : Type 0 where
  pub of_disks : length w.first ≤ 8
  pub of_ports : length w.second ≤ 8

-- A PORT AT REST: its guest is in session, and no frame is held, at neither end nor in the out queue
pub record HoldsNoFrame (t : PortState) : Type 0 where
  pub in_session : is_some t.lane.guest.session ≡ true
  pub guest : t.lane.guest.frames ≡ []
  pub switch_end : t.lane.hub.frames ≡ []
  pub queue : t.queue ≡ []

-- the ticks of the port in a part
abbrev pub port_ticks : ℕ → SettleEntry → ℕ
port_ticks k (OfPort j event) = switch.port_ticks k (switch_ports.OfPort j event)
port_ticks k _ = 0

abbrev pub port_ticks_in : ℕ → List SettleEntry → ℕ
port_ticks_in k part = sum_over (port_ticks k) part

-- behind a settle that ends settled it is finished, or had its tick; and where nobody forged it, it is at rest
pub record PortEndsIn (part : List SettleEntry) (k : ℕ) (t : PortState) : Type 0 where
  pub ticked : (is_finished t.lane (length t.queue) ≡ true) ⊎ (port_ticks_in k part ≡ 1)
  pub finished : port.IsUnforged t → is_finished t.lane (length t.queue) ≡ true
  pub rests : port.IsUnforged t → HoldsNoFrame t

abbrev pub PortsEnd : List SettleEntry → List PortState → Type 0
PortsEnd part behind = EachAt (PortEndsIn part) 0 behind
