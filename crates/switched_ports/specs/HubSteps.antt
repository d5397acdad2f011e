-- A step of the switch's end of a port, with what the switch does for it.
use Rattle.std.specs.Prelude.{◌≡◌, ◌≢◌, ℕ, ◌+◌, ◌==◌, if◌then◌else◌, List, length, take, Option, Some, None, option_map, slice_get, IfSome, IsBitSet, ⊤}
use Rattle.ldc_queue.specs.declared.end.End.TheVariants.{B}
use Rattle.net_lane.specs.NetLaneState.{NetLaneState}
use Rattle.net_lane.specs.Stepping.{net_answer}
use Rattle.net_lane.specs.net_out.NetOut.{NetOut}
use Rattle.net_lane.specs.net_out.NetOut.TheVariants as out
use Rattle.port_laws.specs.NetEvent.{Steps}
use Rattle.port_laws.specs.PortState.{OnLane, PortState, PortStep, moved}
use Rattle.std.specs.Int.{bit_at}
use Rattle.switch_laws.specs.Forwards.{port_view}
use Rattle.switched_ports.specs.States.{state_of}
use Rattle.net_lane.specs.Frames.{IsFrame}
use Rattle.vnet_switch.specs.Forward.{GetsFrame, PortIs}
use Rattle.vnet_switch.specs.PortSet.{IsSetOf}
use Rattle.vnet_switch.specs.PortView.{PortView}
use Rattle.vnet_switch.specs.Queues.{ChangesAt, QueueHasRoom, IsFull, waiting_for, with_last}
use Rattle.vnet_switch.specs.declared.forwarding.Switched.{Switched as Sets}

abbrev pub Known : Type 0
Known = List (PortView (List ℕ))

-- the port with this number, of a lane, as the switch keeps its queue
abbrev pub port_at : ℕ → NetLaneState → Known → PortState
port_at k lane known = state_of lane (waiting_for k known)

-- THE FRAME THAT MOVES: what the switch knows is as it was, but for that queue
abbrev pub with_queue : List (List ℕ) → PortView (List ℕ) → PortView (List ℕ)
with_queue queue port = record port { queue = queue }

pub record HandsOver (k : ℕ) (s : NetLaneState) (old : Known) (t : NetLaneState) (new : Known) : Type 0 where
  pub moves : port_at k t new ≡ moved (port_at k s old)
  pub known : ChangesAt (λ j. j ≡ k) (with_queue (waiting_for k new)) old new

-- A FRAME THAT WAS TAKEN is put into the queues of its forwarding set
pub record GoesTo (k : ℕ) (frame : List ℕ) (known : Known) (sets : Sets) : Type 0 where
  pub gets : IsSetOf sets.out (λ j. GetsFrame known (take 6 frame) k j × PortIs known j QueueHasRoom)
  pub lacks : IsSetOf sets.full (λ j. GetsFrame known (take 6 frame) k j × PortIs known j IsFull)

abbrev pub HandsOn : ℕ → List ℕ → Known → Option Sets → Known → Type 0
HandsOn k frame old (Some sets) new = GoesTo k frame old sets × ChangesAt (IsBitSet sets.out) (with_last frame) old new
HandsOn k frame old None new = new ≡ old

-- the bytes of the last frame are those of one, where one was taken
abbrev pub TakesFrame : NetOut → List ℕ → Type 0
TakesFrame (out.Frame len) last = IsFrame last
TakesFrame _ last = ⊤

-- THE STEP with all of it: the port's own, and what the switch knows of it and of others then
abbrev pub given_by : Option Sets → List ℕ → ℕ → PortView (List ℕ) → PortView (List ℕ)
given_by None frame j port = port
given_by (Some sets) frame j port = if bit_at sets.out j == 1 then with_last frame port else port

pub record HubSteps (k : ℕ) (s : NetLaneState) (old : Known) (answer : NetOut) (sets : Option Sets) (t : NetLaneState)
    (new : Known) : Type 0 where
  pub step : PortStep (port_at k s old) (OnLane (Steps B (net_answer answer t.hub.last))) (port_at k t new)
  pub goes : IfSome sets (GoesTo k t.hub.last old)
  pub told : slice_get new k ≡ Some (port_view (port_at k t new))
  pub others : (j : ℕ) → j ≢ k → slice_get new j ≡ option_map (given_by sets t.hub.last j) (slice_get old j)
  pub shape : t.shape ≡ s.shape
  pub guest_ids : t.guest.next_id ≡ s.guest.next_id
  pub hub_ids : t.hub.next_id + length (waiting_for k new) ≡ s.hub.next_id + length (waiting_for k old)
