-- Each event of a port stands where the states of its ends and its queues let it, and what changes nothing is answered rightly.
use Rattle.std.proofs.Common.{◌≡◌, ℕ, ◌+◌, ◌*◌, ◌≤◌, List, length, subst, arith}
use Rattle.ldc_link.specs.declared.phase.Role.TheVariants.{Initiator, Responder}
use Rattle.ldc_queue.specs.declared.end.End.{End}
use Rattle.ldc_queue.specs.Wire.{peer_of, waiting_for}
use Rattle.runs.specs.Lawful.{Lawful, log_of}
use Rattle.runs.specs.Run.{Run}
use Rattle.vnet_msg.specs.Frames.{memory_pages}
use Rattle.lane_models.specs.WireAt.{WireAnswersAt, WireTableAt}
use Rattle.lane_models.specs.WireLog.{WireLog}
use Rattle.lane_models.proofs.Sessions.{converse_knows}
use Rattle.lane_models.specs.CoreLog as core
use Rattle.lane_models.specs.LaneCore.{CoreStands}
use Rattle.lane_models.proofs.Ruling.{says_of}
use Rattle.lane_models.specs.NetEvent.{NetEvent}
use Rattle.lane_models.specs.NetLaneState.{IsNetShape, NetLaneState, NetShape}
use Rattle.lane_models.specs.NetLaneStep.{NetLaneStep, sizes_of}
use Rattle.lane_models.specs.Offers.{port_offer}
use Rattle.lane_models.specs.PortLog.{PortLog, after, no_events}
use Rattle.lane_models.specs.PortMay.{OfWire, sizes_in}
use Rattle.lane_models.specs.PortState.{OnLane, PortEvent, PortState, PortStep, before, fresh_port}
use Rattle.port_laws.specs.NetCore.{core_event}
use Rattle.port_laws.specs.PortCore.{port_core, port_events}
use Rattle.port_laws.proofs.CoreLaws.{sizes_fit}
use Rattle.port_laws.proofs.MemoryLong.{KeptLong, port_long}
use Rattle.port_laws.proofs.PortCounts.{before_wire}
use Rattle.port_laws.proofs.PortRuns.{fresh_port_core, lawful_on_lane, logs_same, port_fits_behind, port_step_core}
use Rattle.port_laws.proofs.LaneMoves.{up_of}
use Rattle.port_laws.proofs.RingActs.{seen_state}

-- THE SIZES of the log are those of the lane
record SameSizes (s : NetLaneState) (l : PortLog) : Type 0 where
  wire : s.wire ≡ l.wire
  entries : s.shape.entries ≡ l.shape.entries
  guest : length s.guest_memory ≡ 8192 * memory_pages l.shape.slots
  hub : length s.hub_memory ≡ 8192 * memory_pages l.shape.slots
  room_a : length l.wire.wire.to_a + 1 ≤ l.shape.entries
  room_b : length l.wire.wire.to_b + 1 ≤ l.shape.entries

sizes_are : (s : NetLaneState) (l : PortLog) → SameSizes s l → (e : End) → sizes_of e s ≡ sizes_in l
sizes_are s l same e = grind arith

same_sizes : (shape : NetShape) (events : List PortEvent) (s : PortState) → IsNetShape shape → Run PortStep (fresh_port shape) events s → SameSizes s.lane (log_of after (no_events shape) events)
same_sizes shape events s is run =
    let l : PortLog = log_of after (no_events shape) events in
    let had : KeptLong shape s l = port_long shape events s is run in
    let logs = logs_same shape events in
    let now : core.CoreLog = log_of core.after (core.nothing_yet shape.entries) (port_events events) in
    let knows = converse_knows shape.entries (port_offer Initiator shape.address shape.slots) (port_offer Responder shape.address shape.slots) (port_events events) (port_core s) (sizes_fit shape is)
    (fresh_port_core shape events s run) in
    grind arith

-- A STEP, by what stands on the channel
full_at : (e : End) (l : PortLog) (s : NetLaneState) → SameSizes s l → l.shape.entries ≤ length (waiting_for (peer_of e) l.wire.wire) + 1 → length (waiting_for (peer_of e) l.wire.wire) + 1 ≡ l.shape.entries
full_at e l s same full = grind arith

-- THE TABLE
table_event : (s : PortState) (l : PortLog) (event : NetEvent) (t : NetLaneState) → SameSizes s.lane l → CoreStands l.shape.entries l.wire (core_event event)
    → NetLaneStep (before event s).lane event t → OfWire (WireTableAt (sizes_in l) l.wire) (OnLane event)
table_event s l event t same stands step = grind (arith, full_at, says_of, seen_state, up_of, before_wire, sizes_are)

pub port_table : (shape : NetShape) (events : List PortEvent) (s : PortState) → IsNetShape shape → Run PortStep (fresh_port shape) events s
    → Lawful (λ (l : PortLog) (event : PortEvent). OfWire (WireTableAt (sizes_in l) l.wire) event) after (no_events shape) events
port_table shape events s is run =
    lawful_on_lane shape (λ (l : PortLog) (event : PortEvent). OfWire (WireTableAt (sizes_in l) l.wire) event) (λ l frame. tt) here events s run
  where
    here : (events : List PortEvent) (s : PortState) (event : NetEvent) (t : PortState) → Run PortStep (fresh_port shape) events s → PortStep s (OnLane event) t
        → OfWire (WireTableAt (sizes_in (log_of after (no_events shape) events)) (log_of after (no_events shape) events).wire) (OnLane event)
    here events s event t run step =
        let l : PortLog = log_of after (no_events shape) events in
        let same = same_sizes shape events s is run in
        let stands = (port_step_core s (OnLane event) t (port_fits_behind shape events s run) step).stands in
        let there : CoreStands l.shape.entries l.wire (core_event event) =
        subst (λ (n : ℕ). CoreStands n l.wire (core_event event)) same.entries (subst (λ (w : WireLog). CoreStands s.lane.shape.entries w (core_event event)) same.wire stands) in
        table_event s l event t.lane same there step.1

-- THE ANSWERS
answers_event : (s : PortState) (l : PortLog) (event : NetEvent) (t : NetLaneState) → SameSizes s.lane l → NetLaneStep (before event s).lane event t
    → OfWire (WireAnswersAt (sizes_in l) l.wire) (OnLane event)
answers_event s l event t same step = grind (arith, sizes_are)

pub port_answers : (shape : NetShape) (events : List PortEvent) (s : PortState) → IsNetShape shape → Run PortStep (fresh_port shape) events s
    → Lawful (λ (l : PortLog) (event : PortEvent). OfWire (WireAnswersAt (sizes_in l) l.wire) event) after (no_events shape) events
port_answers shape events s is run =
    lawful_on_lane shape (λ (l : PortLog) (event : PortEvent). OfWire (WireAnswersAt (sizes_in l) l.wire) event) (λ l frame. tt)
    (λ xs x event y ran step. answers_event x _ event y.lane (same_sizes shape xs x is ran) step.1) events s run
