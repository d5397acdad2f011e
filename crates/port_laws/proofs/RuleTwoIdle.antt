-- Where an end of a port is idle directly after the other, where nobody forged and nothing was lost, both sessions are open.
use Rattle.std.proofs.Common.{◌≡◌, ◌≢◌, false, Some, None, List, sym, subst, arith}
use Rattle.std.specs.Prelude.{⊤}
use Rattle.ldc_link.specs.declared.phase.Role.TheVariants.{Initiator, Responder}
use Rattle.ldc_queue.specs.declared.end.End.{End}
use Rattle.ldc_queue.specs.declared.end.End.TheVariants.{A, B}
use Rattle.runs.specs.Lawful.{Lawful, log_of, run_lawful}
use Rattle.runs.specs.Run.{Run}
use Rattle.lane_models.proofs.EndsAtRest.{none_waits, two_at_rest_open}
use Rattle.lane_models.specs.EndsAtRest.{IsEndAtRest}
use Rattle.lane_models.proofs.Refuting.{none_some}
use Rattle.lane_models.proofs.Ruling.{says_of}
use Rattle.lane_models.specs.NetEndRule.{Idles, port_rule}
use Rattle.lane_models.specs.NetEndStep.{Idle}
use Rattle.lane_models.specs.NetEvent.{CalmTick, NetEvent, Steps}
use Rattle.lane_models.specs.NetLaneState.{IsNetShape, NetLaneState, NetShape, net_end, role_at, seen_at}
use Rattle.lane_models.specs.NetLaneStep.{EndSteps, NetLaneStep}
use Rattle.lane_models.specs.PortLog.{PortLog, after, no_events}
use Rattle.lane_models.specs.PortState.{OnLane, PortEvent, PortState, PortStep, before, fresh_port}
use Rattle.lane_models.specs.RestLaws.{TwoIdleAt}
use Rattle.port_laws.specs.NetCore.{lane_core}
use Rattle.port_laws.proofs.CoreLaws.{offers_match, sizes_fit}
use Rattle.port_laws.proofs.EndCounting.{open_counts}
use Rattle.port_laws.proofs.PortCounts.{PortCounts, Ready, ready_before}
use Rattle.port_laws.proofs.PortRuns.{before_core, fresh_port_core}
use Rattle.port_laws.proofs.RuleFrames.{along}
use Rattle.port_laws.proofs.PutCounts.{some_of}
use Rattle.port_laws.proofs.LaneMoves.{up_of}

-- AN END AT REST, as its channel sees it
idle_rests : (e : End) (u : NetLaneState) → port_rule (role_at e) (net_end e u) (seen_at e u) ≡ Idles → IsEndAtRest e (lane_core u)
idle_rests A u idles =
    let says = says_of Initiator u.guest (seen_at A u) Idles idles in
    record { up = up_of u.wire.wire.end_a says.0.up; quiet = says.0.quiet; owed = says.0.owed; waits = none_waits u.wire.wire.to_a says.1 }
idle_rests B u idles =
    let says = says_of Responder u.hub (seen_at B u) Idles idles in
    record { up = up_of u.wire.wire.end_b says.0.up; quiet = says.0.quiet; owed = says.0.owed; waits = none_waits u.wire.wire.to_b says.1 }

-- THE END that was idle last has nothing to do
pub record IdlesKept (s : PortState) (l : PortLog) : Type 0 where
  pub idles : (e : End) → l.last_idle ≡ Some e → port_rule (role_at e) (net_end e s.lane) (seen_at e s.lane) ≡ Idles

idle_stays : (e : End) (u t : NetLaneState) → EndSteps e u Idle t → port_rule (role_at e) (net_end e t) (seen_at e t) ≡ Idles
idle_stays e u t step = grind arith

idles_step : (s : PortState) (l : PortLog) (event : PortEvent) (t : PortState) → IdlesKept s l → PortStep s event t → IdlesKept t (after l event)
idles_step s l event t kept step = grind (arith, idle_stays, none_some)

pub idles_kept : (shape : NetShape) (events : List PortEvent) (s : PortState) → Run PortStep (fresh_port shape) events s → IdlesKept s (log_of after (no_events shape) events)
idles_kept shape events s run =
    (run_lawful PortStep (λ (l : PortLog) (e : PortEvent). ⊤) after IdlesKept (λ (x : PortState) (l : PortLog) (e : PortEvent) (y : PortState) kept step. (tt, idles_step x l e y kept step))
    (fresh_port shape) s (no_events shape) events (record { idles = λ e is. none_some e is }) run).1

-- BOTH AT REST
two_idle : (shape : NetShape) (s : PortState) (l : PortLog) → PortCounts shape s l → Ready shape s l → IsEndAtRest A (lane_core s.lane) → IsEndAtRest B (lane_core s.lane) → l.wire.forged ≡ false → l.wire.lossy ≡ false
    → (l.guest.session ≢ None) × (l.hub.session ≢ None)
two_idle shape s l counts ready one other clean whole = grind (arith, two_at_rest_open, sizes_fit, offers_match, fresh_port_core, some_of, open_counts, none_some)

pub two_idle_event : (shape : NetShape) (s : PortState) (l : PortLog) (event : NetEvent) (t : PortState) → PortCounts shape s l → Ready shape s l → NetLaneStep (before event s).lane event t.lane → TwoIdleAt l (OnLane event)
two_idle_event shape s l (Steps A Idle) t counts ready step = λ last clean whole.
    let kept : IdlesKept s l = subst (IdlesKept s) (sym counts.log) (idles_kept shape counts.events s counts.run) in
    two_idle shape s l counts ready (idle_rests A s.lane step.step.0) (idle_rests B s.lane (kept.idles B last)) clean whole
two_idle_event shape s l (Steps B Idle) t counts ready step = λ last clean whole.
    let kept : IdlesKept s l = subst (IdlesKept s) (sym counts.log) (idles_kept shape counts.events s counts.run) in
    two_idle shape s l counts ready (idle_rests A s.lane (kept.idles A last))
    (subst (IsEndAtRest B) (before_core (Steps B Idle) s) (idle_rests B (before (Steps B Idle) s).lane step.step.0)) clean whole
two_idle_event shape s l _ t counts ready step = tt

pub port_two_idle : (shape : NetShape) (events : List PortEvent) (s : PortState) → IsNetShape shape → Run PortStep (fresh_port shape) events s → Lawful TwoIdleAt after (no_events shape) events
port_two_idle shape events s is run =
    along shape TwoIdleAt is (λ x l event t counts ready step. two_idle_event shape x l event t counts (ready_before shape x l (CalmTick 0) is counts) step.1) (λ l frame. tt) events s run
