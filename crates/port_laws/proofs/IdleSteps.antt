-- A step of the switch's end that is idle leaves the whole port as it was: a frame that moves to the end from the out queue is published.
use Rattle.std.proofs.Common.{◌≡◌, ℕ, ◌≤◌, Bool, true, false, Some, List, [], ◌∷◌, length, refl, arith, length-append}
use Rattle.std.specs.Prelude.{is_some, nat_lt}
use Rattle.std.proofs.lemmas.Bool.{and_parts}
use Rattle.ldc_link.specs.declared.phase.Role.TheVariants.{Responder}
use Rattle.ldc_queue.specs.declared.end.End.TheVariants.{B}
use Rattle.runs.specs.Lawful.{log_of}
use Rattle.runs.specs.Run.{Run}
use Rattle.lane_models.proofs.Ruling.{says_of}
use Rattle.lane_models.specs.FramesStand.{FramesStand}
use Rattle.lane_models.specs.NetEndRule.{Idles, port_rule}
use Rattle.lane_models.specs.NetEndState.{NetSession, unseen_in}
use Rattle.lane_models.specs.NetEndStep.{Idle}
use Rattle.lane_models.specs.NetEvent.{CalmTick, Steps}
use Rattle.lane_models.specs.NetLaneState.{IsNetShape, NetShape, seen_at}
use Rattle.lane_models.specs.PortLog.{PortLog, after, no_events}
use Rattle.lane_models.specs.PortState.{OnLane, PortEvent, PortState, PortStep, fresh_port, moves_first, takes_more}
use Rattle.port_laws.proofs.PortCounts.{ready_before}
use Rattle.port_laws.proofs.StepCounts.{counts_stand}
use Rattle.port_laws.proofs.RingRuns.{port_kept}
use Rattle.port_laws.proofs.RuleFrames.{end_stood}
use Rattle.port_laws.proofs.RuleIdle.{past_end, rule_left}
use Rattle.port_laws.proofs.PutCounts.{some_of}

-- an idle end in session published all that it holds
idle_long : (s : PortState) (p : NetSession) → port_rule Responder s.lane.hub (seen_at B s.lane) ≡ Idles → s.lane.hub.session ≡ Some p → length s.lane.hub.frames ≤ unseen_in p
idle_long s p idles is = grind (arith, says_of, past_end, rule_left)

moves_none : (b : Bool) (queue : List (List ℕ)) (s : PortState) → takes_more s.lane.hub ≡ b → s.queue ≡ queue → FramesStand s.lane.hub
    → port_rule Responder (moves_first b queue s).lane.hub (seen_at B (moves_first b queue s).lane) ≡ Idles → moves_first b queue s ≡ s
moves_none true [] s takes is stands idles = refl
moves_none true (frame ∷ frames) s takes is stands idles =
    let session = some_of s.lane.hub.session (and_parts (is_some s.lane.hub.session) (nat_lt (length s.lane.hub.frames) s.lane.hub.slots) takes).0 in
    let held = (counts_stand s.lane.hub session.0 stands session.1).held in
    let long = idle_long (moves_first true (frame ∷ frames) s) session.0 idles session.1 in
    absurd (omega (arith, held, long, length-append s.lane.hub.frames (frame ∷ [])))
moves_none false queue s takes is stands idles = refl

pub idle_stays : (shape : NetShape) (events : List PortEvent) (s t : PortState) → IsNetShape shape → Run PortStep (fresh_port shape) events s → PortStep s (OnLane (Steps B Idle)) t → t ≡ s
idle_stays shape events s t is run step =
    let l : PortLog = log_of after (no_events shape) events in
    let stands : FramesStand s.lane.hub = end_stood shape B s l (ready_before shape s l (CalmTick 0) is (port_kept shape events s is run).counts) in
    grind (arith, moves_none)
