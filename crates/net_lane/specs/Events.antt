-- The events of a port's lane, by the answers of its calls, and what they come to.
use Rattle.std.specs.Prelude.{◌≡◌, ℕ, ◌+◌, ◌<◌, ◌≤◌, Bool, true, false, List, length, Option, Some, None, Result, Ok, Err}
use Rattle.vio_bytes.specs.Place.{put_at}
use Rattle.ldc_queue.specs.Wire.{configured, state_of}
use Rattle.ldc_queue.specs.declared.end.End.{End}
use Rattle.ldc_queue.specs.declared.end.PutFault.{PutFault}
use Rattle.ldc_queue.specs.declared.end.PutFault.TheVariants as put
use Rattle.vnet_port.specs.WireEvent.{InjectedFull, NotInjected, NothingLost, PokeRefused}
use Rattle.vnet_port.specs.WireLog.{lossy_behind}
use Rattle.lane_models.specs.NetEndState.{joined_net_end}
use Rattle.lane_models.specs.NetLaneState.{NetLaneState, net_end, role_at, with_net_end}
use Rattle.lane_models.specs.NetEvent.{CalmTick, Declines, Injects, Loses, NetEvent, Pokes, Ticked}

abbrev pub lost_event : End → Option (List ℕ) → NetEvent
lost_event e (Some packet) = Loses e packet
lost_event e None = Declines (NothingLost e)

abbrev pub injected_event : {U : Type 0} → End → List ℕ → Result U PutFault → NetEvent
injected_event e packet (Ok done) = Injects e packet
injected_event e packet (Err put.NotUp) = Declines (NotInjected e packet)
injected_event e packet (Err put.Full) = Declines (InjectedFull e packet)

-- a poke stays in the end's memory, or is refused
abbrev pub poked_event : End → ℕ → List ℕ → Bool → NetEvent
poked_event e at bytes true = Pokes e at bytes
poked_event e at bytes false = Declines (PokeRefused e at (length bytes))

-- a tick resets the guest's end, by which so many frames are lost; or the port is finished
abbrev pub ticked_event : ℕ → Option ℕ → NetEvent
ticked_event queued (Some lost) = Ticked queued lost
ticked_event queued None = CalmTick queued

-- a lane one of whose ends began anew
abbrev pub begun_anew : End → NetLaneState → NetLaneState
begun_anew e s = record (with_net_end e (joined_net_end (role_at e) (net_end e s)) s) {
  wire = record s.wire { wire = configured e s.wire.wire; lossy = lossy_behind (state_of e s.wire.wire) s.wire.lossy };
}

-- the id of an end's next frame behind what came of a frame that it was given: one more where that is held
abbrev pub next_behind : {U : Type 0} → Result ℕ U → ℕ → ℕ
next_behind (Ok id) next = next + 1
next_behind (Err fault) next = next

-- the next ids of both ends stay
pub record SameIds (s t : NetLaneState) : Type 0 where
  pub guest : t.guest.next_id ≡ s.guest.next_id
  pub hub : t.hub.next_id ≡ s.hub.next_id

-- bytes are written that lie within a memory; or they don't, and nothing changes
abbrev pub PutsWithin : Bool → ℕ → List ℕ → List ℕ → List ℕ → Type 0
PutsWithin true at bytes memory new = (at + length bytes ≤ length memory) × (new ≡ put_at at bytes memory)
PutsWithin false at bytes memory new = (length memory < at + length bytes) × (new ≡ memory)
