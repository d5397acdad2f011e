-- Along every run of a port that nobody forged the ring of each end holds its frames.
use Rattle.std.proofs.Common.{◌≡◌, ℕ, false, Option, Some, None, List, [], ◌∷◌, ◌++◌, sym, ap, ◌∙◌, subst, arith}
use Rattle.std.specs.Prelude.{⊤}
use Rattle.ldc_link.specs.declared.phase.Role.TheVariants.{Initiator}
use Rattle.ldc_queue.specs.declared.end.ChannelState.{ChannelState}
use Rattle.ldc_queue.specs.declared.end.ChannelState.TheVariants.{Up}
use Rattle.ldc_queue.specs.declared.end.End.{End}
use Rattle.ldc_queue.specs.declared.end.End.TheVariants.{A, B}
use Rattle.ldc_queue.specs.Wire.{peer_behind}
use Rattle.runs.specs.Lawful.{log_of, run_lawful}
use Rattle.runs.specs.Run.{Run}
use Rattle.lane_models.specs.WireLog.{WireLog}
use Rattle.lane_models.specs.LaneCore.{LaneCore}
use Rattle.lane_models.proofs.Moving.{before_keeps}
use Rattle.lane_models.proofs.Refuting.{true_false}
use Rattle.lane_models.specs.EndLog.{SessionLog}
use Rattle.lane_models.specs.NetEndState.{NetEndState, NetSession}
use Rattle.lane_models.specs.NetEndStep.{Given, Joining, NetGives, NetJoins, Queued}
use Rattle.lane_models.specs.NetEvent.{Asked, Gives, Injects, Joins, Loses, NetEvent, Pokes, Steps, Ticked, on_wire}
use Rattle.lane_models.specs.NetLaneState.{IsNetShape, NetLaneState, NetShape}
use Rattle.lane_models.specs.NetLaneStep.{NetLaneStep, Resets, moved_on}
use Rattle.lane_models.specs.PortLog.{PortLog, after, after_given, no_events}
use Rattle.lane_models.specs.PortState.{OfQueue, OnLane, PortEvent, PortState, PortStep, Receives, before, fresh_port}
use Rattle.port_laws.specs.NetCore.{lane_core}
use Rattle.port_laws.specs.RingStands.{RingIn, RingStands, taken_by}
use Rattle.port_laws.proofs.LogsStand.{LogsStand, TablesStand, fresh_logs, logs_event, logs_received, tables_event}
use Rattle.port_laws.proofs.MemoryLong.{room_behind}
use Rattle.port_laws.proofs.MemoryRoom.{before_room}
use Rattle.port_laws.proofs.PortCounts.{PortCounts, before_queue, counts_step, port_counts, ready_before}
use Rattle.port_laws.proofs.PortRuns.{before_core}
use Rattle.port_laws.proofs.PortTwoEnds.{PortTwoEnds, port_two_ends}
use Rattle.port_laws.proofs.RingActs.{Finds, Rings, steps_rings}
use Rattle.port_laws.proofs.RingEvents.{none_down, peer_up}
use Rattle.port_laws.proofs.RingMoves.{ring_given}
use Rattle.port_laws.proofs.SessionsHeard.{SpokeIn}

-- A FRAME THAT MOVES from the queue is held last
more_frames : (slots taken : ℕ) (session : Option NetSession) (frames more : List (List ℕ)) (memory : List ℕ) → RingIn slots taken session frames memory → RingIn slots taken session (frames ++ more) memory
more_frames slots taken None frames more memory ring = tt
more_frames slots taken (Some p) frames more memory ring = ring_given slots p.seen taken p.published frames more memory ring

before_rings : (event : NetEvent) (s : PortState) (l : PortLog) → Rings s.lane l → Rings (before event s).lane l
before_rings event s l rings =
    before_keeps (λ (x : PortState). Rings x.lane l) event s (λ frame frames. record {
      guest_spoke = rings.guest_spoke;
      hub_spoke = rings.hub_spoke;
      guest_ring = rings.guest_ring;
      hub_ring = λ up. more_frames l.shape.slots (taken_by s.lane.wire.wire.end_a l.guest.session) s.lane.hub.session s.lane.hub.frames (frame ∷ []) s.lane.hub_memory (rings.hub_ring up);
    }) rings

before_tables : (event : NetEvent) (shape : NetShape) (s : PortState) → TablesStand shape s.lane → TablesStand shape (before event s).lane
before_tables event shape s tables = before_keeps (λ (x : PortState). TablesStand shape x.lane) event s (λ frame frames. record { guest = tables.guest; hub = tables.hub }) tables

-- WHAT ISN'T A STEP
begun_ring : (slots : ℕ) (x y : ChannelState) (log : Option SessionLog) (session : Option NetSession) (frames : List (List ℕ)) (memory : List ℕ)
    → (y ≡ Up → RingIn slots (taken_by x log) session frames memory) → peer_behind x y ≡ Up → RingIn slots 0 session frames memory
begun_ring slots x y log session frames memory ring up = grind (arith, peer_up, none_down)

asked_rings : (e : End) (u : NetLaneState) (l : PortLog) (lost : ℕ) (t : NetLaneState) → Resets e (Asked e lost) u lost t → Rings u l → Rings t (after l (OnLane (Asked e lost)))
asked_rings e u l lost t resets rings = grind (arith, begun_ring)

given_ring : (slots taken : ℕ) (memory : List ℕ) (s : NetEndState) (given : Given) (t : NetEndState) → NetGives s given t → RingIn slots taken s.session s.frames memory
    → RingIn slots taken t.session t.frames memory
given_ring slots taken memory s given t gives ring = grind (arith, more_frames)

joined_ring : (slots taken : ℕ) (memory : List ℕ) (s : NetEndState) (joining : Joining) (t : NetEndState) → NetJoins s joining t → RingIn slots taken s.session s.frames memory
    → RingIn slots taken t.session t.frames memory
joined_ring slots taken memory s joining t joins ring = grind arith

-- AN EVENT, where nobody forged
lane_rings : (shape : NetShape) (u t : PortState) (l : PortLog) (event : NetEvent) → OfQueue u event → Finds shape u l → NetLaneStep u.lane event t.lane → (moved_on l.wire (on_wire event)).forged ≡ false
    → PortCounts shape t (after l (OnLane event)) → PortTwoEnds shape (lane_core t.lane) (after l (OnLane event)) → Rings t.lane (after l (OnLane event))
lane_rings shape u t l (Steps e answer) of_queue finds step clean counts two_ends = steps_rings shape e u t l answer finds step counts two_ends
lane_rings shape u t l (Asked e lost) of_queue finds step clean counts two_ends = asked_rings e u.lane l lost t.lane step finds.rings
lane_rings shape u t l (Ticked queued lost) of_queue finds step clean counts two_ends = asked_rings A u.lane l lost t.lane step.1 finds.rings
lane_rings shape u t l (Gives A given) of_queue finds step clean counts two_ends =
    grind (arith, given_spoke, given_other, given_ring)
  where
    given_spoke : (given : Given) → SpokeIn Initiator l.transcript.a (after_given given l.guest).session
    given_spoke given = grind arith

    given_other : (given : Given) → u.lane.wire.wire.end_b ≡ Up
        → RingIn l.shape.slots (taken_by u.lane.wire.wire.end_a (after_given given l.guest).session) u.lane.hub.session u.lane.hub.frames u.lane.hub_memory
    given_other (Queued id frame) up = finds.rings.hub_ring up
    given_other _ up = finds.rings.hub_ring up
lane_rings shape u t l (Gives B given) of_queue finds step clean counts two_ends = absurd of_queue
lane_rings shape u t l (Joins joining) of_queue finds step clean counts two_ends =
    subst (λ (x : NetLaneState). Rings x (after l (OnLane (Joins joining)))) (sym step.1)
    (record {
      guest_spoke = finds.rings.guest_spoke;
      hub_spoke = finds.rings.hub_spoke;
      guest_ring = λ up. joined_ring l.shape.slots (taken_by u.lane.wire.wire.end_b l.hub.session) u.lane.guest_memory u.lane.guest joining t.lane.guest step.0 (finds.rings.guest_ring up);
      hub_ring = finds.rings.hub_ring;
    })
lane_rings shape u t l (Injects e packet) of_queue finds step clean counts two_ends = true_false clean
lane_rings shape u t l (Pokes e at bytes) of_queue finds step clean counts two_ends = true_false clean
lane_rings shape u t l (Loses A packet) of_queue finds step clean counts two_ends =
    subst (λ (x : NetLaneState). Rings x (after l (OnLane (Loses A packet)))) (sym step.1)
    (record { guest_spoke = finds.rings.guest_spoke; hub_spoke = finds.rings.hub_spoke; guest_ring = finds.rings.guest_ring; hub_ring = finds.rings.hub_ring })
lane_rings shape u t l event of_queue finds step clean counts two_ends =
    subst (λ (x : NetLaneState). Rings x (after l (OnLane event))) (sym step.1)
    (record { guest_spoke = finds.rings.guest_spoke; hub_spoke = finds.rings.hub_spoke; guest_ring = finds.rings.guest_ring; hub_ring = finds.rings.hub_ring })

-- nobody had forged before
pub was_clean : (w : WireLog) (event : NetEvent) → (moved_on w (on_wire event)).forged ≡ false → w.forged ≡ false
was_clean w event clean = grind (arith, true_false)

-- ALONG EVERY RUN
pub record Kept (shape : NetShape) (s : PortState) (l : PortLog) : Type 0 where
  pub counts : PortCounts shape s l
  pub logs : LogsStand l
  pub tables : TablesStand shape s.lane
  pub rings : l.wire.forged ≡ false → Rings s.lane l

-- what an event finds
pub finds_before : (shape : NetShape) (s : PortState) (l : PortLog) (event : NetEvent) → IsNetShape shape → Kept shape s l → l.wire.forged ≡ false → Finds shape (before event s) l
finds_before shape s l event is kept clean =
    let wire : s.lane.wire.forged ≡ false = ap (λ (w : WireLog). w.forged) kept.counts.wire ∙ clean in
    record {
      ready = ready_before shape s l event is kept.counts;
      room = before_room shape.slots event s (room_behind shape kept.counts.events s is kept.counts.run);
      logs = kept.logs;
      tables = before_tables event shape s kept.tables;
      two_ends = subst (λ (c : LaneCore). PortTwoEnds shape c l) (sym (before_core event s)) (port_two_ends shape s l is kept.counts wire);
      rings = before_rings event s l (kept.rings clean);
    }

pub kept_step : (shape : NetShape) → IsNetShape shape → (s : PortState) (l : PortLog) (event : PortEvent) (t : PortState) → Kept shape s l → PortStep s event t → Kept shape t (after l event)
kept_step shape is s l (OnLane event) t kept step =
    let counts : PortCounts shape t (after l (OnLane event)) = counts_step shape is s l (OnLane event) t kept.counts step in
    record {
      counts = counts;
      logs = logs_event (before event s).lane l event t.lane step.1 kept.logs;
      tables = tables_event shape (before event s).lane event t.lane step.1 (before_tables event shape s kept.tables);
      rings = λ clean.
          let wire : t.lane.wire.forged ≡ false = ap (λ (w : WireLog). w.forged) counts.wire ∙ clean in
          lane_rings shape (before event s) t l event (before_queue event s step.0) (finds_before shape s l event is kept (was_clean l.wire event clean)) step.1 clean counts
          (port_two_ends shape t (after l (OnLane event)) is counts wire);
    }
kept_step shape is s l (Receives frame) t kept step =
    let lane : t.lane ≡ s.lane = ap (λ (x : PortState). x.lane) step.2 in
    record {
      counts = counts_step shape is s l (Receives frame) t kept.counts step;
      logs = logs_received l frame step.0 kept.logs;
      tables = subst (TablesStand shape) (sym lane) kept.tables;
      rings = grind arith;
    }

pub fresh_kept : (shape : NetShape) → IsNetShape shape → Kept shape (fresh_port shape) (no_events shape)
fresh_kept shape is = grind (arith, port_counts, fresh_logs)

pub port_kept : (shape : NetShape) (events : List PortEvent) (s : PortState) → IsNetShape shape → Run PortStep (fresh_port shape) events s → Kept shape s (log_of after (no_events shape) events)
port_kept shape events s is run =
    (run_lawful PortStep (λ (l : PortLog) (e : PortEvent). ⊤) after (Kept shape) (λ (x : PortState) (l : PortLog) (e : PortEvent) (y : PortState) kept step. (tt, kept_step shape is x l e y kept step))
    (fresh_port shape) s (no_events shape) events (fresh_kept shape is) run).1

-- the ring of each end
pub rings_stand : (shape : NetShape) (events : List PortEvent) (s : PortState) (e : End) → IsNetShape shape → Run PortStep (fresh_port shape) events s
    → (log_of after (no_events shape) events).wire.forged ≡ false → RingStands e s.lane (log_of after (no_events shape) events)
rings_stand shape events s A is run clean = ((port_kept shape events s is run).rings clean).guest_ring
rings_stand shape events s B is run clean = ((port_kept shape events s is run).rings clean).hub_ring
