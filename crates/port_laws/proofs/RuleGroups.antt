-- The switch's end has the list of groups that its session told it; what an end says of groups stands by what it joined and took.
use Rattle.std.proofs.Common.{◌≡◌, ℕ, Option, Some, List, arith}
use Rattle.ldc_link.specs.declared.phase.Role.TheVariants.{Responder}
use Rattle.runs.specs.Lawful.{Lawful, log_of}
use Rattle.runs.specs.Run.{Run}
use Rattle.lane_models.specs.Messages.{ended_by}
use Rattle.lane_models.specs.Sayings.{half_said}
use Rattle.lane_models.specs.TranscriptLog.{transcript_of}
use Rattle.lane_models.specs.EndLog.{EndLog, SessionLog}
use Rattle.lane_models.specs.FrameLaws.{GroupsSaidAt, IfMessage, SpeaksOfGroups}
use Rattle.lane_models.specs.NetEndState.{NetEndState}
use Rattle.lane_models.specs.NetEndStep.{Sent}
use Rattle.lane_models.specs.NetEvent.{NetEvent, Steps}
use Rattle.lane_models.specs.NetLaneState.{IsNetShape, NetLaneState, NetShape}
use Rattle.lane_models.specs.NetLaneStep.{NetLaneStep}
use Rattle.lane_models.specs.PortLog.{PortLog, after, log_of_end, no_events}
use Rattle.lane_models.specs.PortState.{OnLane, PortEvent, PortState, PortStep, before, fresh_port}
use Rattle.lane_models.specs.Spoken.{Spoken, spoken}
use Rattle.port_laws.specs.Counted.{EndCounts, SaysRightly}
use Rattle.port_laws.specs.GroupsTold.{told_in}
use Rattle.port_laws.proofs.EndCounting.{open_counts, shut_counts}
use Rattle.port_laws.proofs.PortCounts.{Ready, port_counts}
use Rattle.port_laws.proofs.RuleFrames.{along, if_session, sent_said}

-- WHAT THE SWITCH'S END KNOWS
pub hub_told : (slots : ℕ) (queue : List (List ℕ)) (s : NetEndState) (l : EndLog) → EndCounts Responder slots queue s l → s.groups ≡ told_in l.session
hub_told slots queue s l counts = grind (arith, shut_counts, open_counts)

pub port_told : (shape : NetShape) (events : List PortEvent) (s : PortState) → IsNetShape shape → Run PortStep (fresh_port shape) events s
    → s.lane.hub.groups ≡ told_in (log_of after (no_events shape) events).hub.session
port_told shape events s is run = let counts = port_counts shape events s is run in hub_told shape.slots s.queue s.lane.hub (log_of after (no_events shape) events).hub counts.hub

-- WHAT IT SAYS of groups
of_groups : (k : Spoken) (slots : ℕ) (groups : List (List ℕ)) (v : SessionLog) (message : List ℕ) → SaysRightly slots groups v message k → SpeaksOfGroups k v message
of_groups k slots groups v message right = grind arith

if_message : (ended : Option (List ℕ)) (P : List ℕ → Type 0) → ((message : List ℕ) → ended ≡ Some message → P message) → IfMessage ended P
if_message ended P holds = grind arith

groups_event : (shape : NetShape) (u : PortState) (l : PortLog) (event : NetEvent) (t : NetLaneState) → Ready shape u l → NetLaneStep u.lane event t → GroupsSaidAt l (OnLane event)
groups_event shape u l (Steps e (Sent packet opens)) t ready step =
    if_session (log_of_end e l).session _ (λ v log.
    if_message (ended_by (half_said (transcript_of e l.transcript)) packet) _ (λ message ended.
    of_groups (spoken message) shape.slots step.step.held.groups v message (sent_said shape e u l packet opens t ready step message v ended log)))
groups_event shape u l _ t ready step = tt

pub port_groups_said : (shape : NetShape) (events : List PortEvent) (s : PortState) → IsNetShape shape → Run PortStep (fresh_port shape) events s → Lawful GroupsSaidAt after (no_events shape) events
port_groups_said shape events s is run =
    along shape GroupsSaidAt is (λ x l event t counts ready step. groups_event shape (before event x) l event t.lane ready step.1) (λ l frame. tt) events s run
