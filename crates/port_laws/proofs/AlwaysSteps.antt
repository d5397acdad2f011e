-- An end of a port that some events led to has a next step.
use Rattle.std.proofs.Common.{◌≡◌, ◌≢◌, Bool, true, false, Option, None, List, refl, sym, subst, arith}
use Rattle.std.specs.Prelude.{is_some}
use Rattle.ldc_link.specs.declared.phase.Role.{Role}
use Rattle.ldc_link.specs.LinkState.{is_up}
use Rattle.ldc_queue.specs.declared.end.End.{End}
use Rattle.ldc_queue.specs.declared.end.End.TheVariants.{A, B}
use Rattle.ldc_queue.specs.Transcript.{Utterance}
use Rattle.lane_models.proofs.CoreLaws.{stands_a, stands_b}
use Rattle.lane_models.specs.LaneCore.{CoreEvent, CoreStep}
use Rattle.lane_models.specs.Standing.{EndStands}
use Rattle.lane_models.proofs.Moving.{before_keeps}
use Rattle.lane_models.proofs.Refuting.{true_false}
use Rattle.runs.specs.Run.{Run}
use Rattle.lane_models.proofs.SomeStep.{always_step}
use Rattle.lane_models.specs.NetEndState.{NetEndState, NetSession}
use Rattle.lane_models.specs.NetEndStep.{Idle, NetAnswer, NetEndStep, NetLeft}
use Rattle.lane_models.specs.NetEvent.{Steps}
use Rattle.lane_models.specs.NetLaneState.{IsNetShape, NetLaneState, NetShape, memory_of, net_end, reach_of, role_at, seen_at, with_left}
use Rattle.lane_models.specs.NetLaneStep.{NetLaneStep, net_wire}
use Rattle.lane_models.specs.NetReached.{NetReached}
use Rattle.lane_models.specs.PortState.{OfQueue, OnLane, PortEvent, PortState, PortStep, before, fresh_port}
use Rattle.lane_models.specs.StepStands.{CanStep, IsPacket}
use Rattle.port_laws.specs.NetCore.{core_events, fresh_net_core, lane_core, net_core_at}
use Rattle.port_laws.specs.PortCore.{port_events}
use Rattle.port_laws.proofs.CoreLaws.{sizes_fit}
use Rattle.port_laws.proofs.LaneMoves.{fresh_run_core}
use Rattle.port_laws.proofs.PortRuns.{before_core, fresh_port_core}

owed_up : (role : Role) (begun : Bool) (s : NetEndState) (turns : List Utterance) → EndStands role (net_core_at role begun s) turns → (up : Bool) → is_up s.link ≡ up → s.handshake.owed ≢ None → is_up s.link ≡ true
owed_up role begun s turns stands up is some = grind arith

some_of : (session : Option NetSession) → session ≢ None → is_some session ≡ true
some_of session some = grind arith

open_up : (role : Role) (begun : Bool) (s : NetEndState) (turns : List Utterance) → EndStands role (net_core_at role begun s) turns → (up : Bool) → is_up s.link ≡ up → s.session ≢ None → is_up s.link ≡ true
open_up role begun s turns stands true is some = is
open_up role begun s turns stands false is some = grind (arith, true_false, some_of)

can_step : (role : Role) (begun : Bool) (s : NetEndState) (turns : List Utterance) (e : End) (l : NetLaneState) → EndStands role (net_core_at role begun s) turns → IsPacket (seen_at e l).first → CanStep s (seen_at e l)
can_step role begun s turns e l stands first = record {
  owed = owed_up role begun s turns stands (is_up s.link) refl;
  opened = open_up role begun s turns stands (is_up s.link) refl;
  first = first;
}

-- where events of the channel led to the lane
can_core : (shape : NetShape) → IsNetShape shape → (moves : List CoreEvent) (u : NetLaneState) → Run CoreStep (fresh_net_core shape) moves (lane_core u) → (e : End) → IsPacket (seen_at e u).first
    → CanStep (net_end e u) (seen_at e u)
can_core shape is moves u run A first = can_step _ _ _ _ A u (stands_a _ _ _ _ _ (sizes_fit _ is) run) first
can_core shape is moves u run B first = grind (arith, can_step, stands_b, sizes_fit)

pub reached_steps : (s : NetLaneState) (e : End) → NetReached s → IsPacket (seen_at e s).first
    → (answer : NetAnswer) × (left : NetLeft) × NetEndStep (role_at e) (net_end e s) (seen_at e s) (memory_of e s) (reach_of e s) answer left
reached_steps s e reached first =
    always_step (role_at e) (net_end e s) (seen_at e s) (memory_of e s) (reach_of e s)
    (can_core reached.shape reached.sound (core_events reached.events) s (fresh_run_core reached.shape reached.events s reached.run) e first)

-- and so has a port with its out queue, behind the frame that moves
before_step : (e : End) (one other : NetAnswer) (s : PortState) → before (Steps e one) s ≡ before (Steps e other) s
before_step e one other s = grind arith

before_first : (e : End) (s : PortState) → (seen_at e (before (Steps e Idle) s).lane).first ≡ (seen_at e s.lane).first
before_first e s = grind (arith, before_keeps)

pub port_steps : (shape : NetShape) (events : List PortEvent) (s : PortState) (e : End) → IsNetShape shape → Run PortStep (fresh_port shape) events s → IsPacket (seen_at e s.lane).first
    → (answer : NetAnswer) × (t : PortState) × PortStep s (OnLane (Steps e answer)) t
port_steps shape events s e is run first =
    let u : PortState = before (Steps e Idle) s in
    let moved_run = subst (Run CoreStep (fresh_net_core shape) (port_events events)) (sym (before_core (Steps e Idle) s)) (fresh_port_core shape events s run) in
    let some = always_step (role_at e) (net_end e u.lane) (seen_at e u.lane) (memory_of e u.lane) (reach_of e u.lane)
    (can_core shape is (port_events events) u.lane moved_run e (subst IsPacket (sym (before_first e s)) first)) in
    let lane : NetLaneState = record (with_left e some.1 u.lane) { wire = net_wire (Steps e some.0) u.lane } in
    let t : PortState = record { lane = lane; queue = u.queue } in (
      some.0,
      t,
      subst (λ (x : PortState). OfQueue s (Steps e some.0) × NetLaneStep x.lane (Steps e some.0) lane × (u.queue ≡ x.queue)) (before_step e Idle some.0 s)
          (tt, record { left = some.1; step = some.2; is = refl }, refl),
    )
