-- What holds of each port along a script's lines, and at their end.
use Rattle.std.specs.Prelude.{◌≡◌, ◌↔◌, ℕ, List, [], ◌∷◌, ◌++◌, map, Some, slice_get}
use Rattle.runs.specs.Run.{Run}
use Rattle.ldc_queue.specs.declared.end.End.{End}
use Rattle.ldc_queue.specs.declared.end.End.TheVariants.{A, B}
use Rattle.world_parts.specs.lane_models.WireAt.{IsUp}
use Rattle.world_parts.specs.port_laws.InOrder.{InOrder}
use Rattle.world_parts.specs.port_laws.Lost.{frames_lost}
use Rattle.world_parts.specs.lane_models.NetLaneState.{NetShape}
use Rattle.world_parts.specs.lane_models.PortMay.{IsLawfulPort}
use Rattle.world_parts.specs.lane_models.PortState.{PortState, PortStep, fresh_port}
use Rattle.world_parts.specs.switch_laws.Events.{Switched}
use Rattle.world_parts.specs.switch_laws.Forwards.{Forwards}
use Rattle.world_parts.specs.switch_laws.Reached.{IsUnforged}
use Rattle.world_parts.specs.world_laws.Settle.{OfPort as PortEntry, SettleEntry, Settled}
use Rattle.world_parts.specs.domain_laws.Along.{port_happened}
use Rattle.world_parts.specs.domain_laws.Domain.{PortsStep}
use Rattle.world_parts.specs.domain_laws.Forged.{NobodyForgesPort}
use Rattle.world_parts.specs.domain_laws.Frames.{frames_arrived, frames_put, frames_queued, frames_switched, port_events}
use Rattle.world_parts.specs.domain_laws.Settling.{HoldsNoFrame}
use Rattle.world_parts.specs.WorldEvents.{told_of}
use Rattle.script_laws.specs.Lanes.{HearsAFront}
use Rattle.script_laws.specs.Told.{port_log_at}

-- BEHIND A SETTLE the port came to a state, by what happened to it, from which what is left of the entries led to the last
-- one; where nobody forged it, its guest is in session, and no frame is held. The entries are those of which these are
-- told.
pub record RestsBehind (shape : NetShape) (k : ℕ) (before real : List SettleEntry) (s : PortState) : Type 0 where
  pub past : List SettleEntry
  pub later : List SettleEntry
  pub is : real ≡ past ++ later
  pub told_is : before ≡ map told_of past
  pub at : PortState
  pub run : Run PortStep (fresh_port shape) (port_events k past) at
  pub leads : Run PortStep at (port_events k later) s
  pub rests : IsUnforged at → HoldsNoFrame at

-- OF EACH PORT, by its number: what happened to it led it here, and is lawful, forged or not. What is told says whether
-- somebody forged it. As far as nobody did, an end that is up heard a front of what the other said, and its frames arrive
-- in order, each at most once; and where the script ends settled and none is said to be lost, all of them. Behind each
-- settle it is at rest.
pub record OfPort (shape : NetShape) (k : ℕ) (entries real : List SettleEntry) (s : PortState) : Type 0 where
  pub run : Run PortStep (fresh_port shape) (port_events k real) s
  pub lawful : IsLawfulPort shape (port_events k real)
  pub forged : (IsUnforged s) ↔ NobodyForgesPort (port_happened k entries)
  pub hears : (front behind : List SettleEntry) → entries ≡ front ++ behind → NobodyForgesPort (port_happened k front)
      → (e : End) → IsUp e (port_log_at shape k front).wire.wire → HearsAFront e (port_log_at shape k front).transcript
  pub to_switch : (front behind : List SettleEntry) → entries ≡ front ++ behind
      → NobodyForgesPort (port_happened k front) → InOrder 0 (frames_switched k front) (frames_queued k front)
  pub to_guest : (front behind : List SettleEntry) → entries ≡ front ++ behind
      → NobodyForgesPort (port_happened k front) → InOrder 0 (frames_arrived k front) (frames_put k front)
  pub all_to_switch : (front : List SettleEntry) → entries ≡ front ++ Settled ∷ [] → IsUnforged s
      → frames_lost A (port_events k real) ≡ 0 → frames_switched k entries ≡ frames_queued k entries
  pub all_to_guest : (front : List SettleEntry) → entries ≡ front ++ Settled ∷ [] → IsUnforged s
      → frames_lost B (port_events k real) ≡ 0 → frames_arrived k entries ≡ frames_put k entries
  pub rests : (before behind : List SettleEntry) → entries ≡ before ++ Settled ∷ behind
      → RestsBehind shape k before real s

-- A FRAME THAT WAS SWITCHED went to one set of ports and missed another, whose out queues were full: together they are
-- the other ports in session that its destination names. So it was by the states of all ports, to which the entries before
-- it led, and from which it and those after it led to the last ones; the entries are those of which these are told.
pub record GoesByStates (nets : List NetShape) (before : List SettleEntry) (k : ℕ) (frame : List ℕ) (out full : ℕ)
    (real : List SettleEntry) (ports : List PortState) : Type 0 where
  pub past : List SettleEntry
  pub later : List SettleEntry
  pub is : real ≡ past ++ later
  pub told_is : before ≡ map told_of past
  pub at : List PortState
  pub run : Run PortsStep (map fresh_port nets) past at
  pub leads : Run PortsStep at later ports
  pub forwards : Forwards at k frame out full

-- OF ALL PORTS, by the entries of which these are told
pub record PortsStand (nets : List NetShape) (entries : List SettleEntry) (ports : List PortState) : Type 0 where
  pub real : List SettleEntry
  pub told_is : entries ≡ map told_of real
  pub each : (k : ℕ) (shape : NetShape) (s : PortState) → slice_get nets k ≡ Some shape → slice_get ports k ≡ Some s
      → OfPort shape k entries real s
  pub forwards : (before : List SettleEntry) (k : ℕ) (frame : List ℕ) (out full : ℕ) (behind : List SettleEntry)
      → entries ≡ before ++ PortEntry k (Switched frame out full) ∷ behind
      → GoesByStates nets before k frame out full real ports
