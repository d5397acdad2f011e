-- The groups of a guest are those that it joined.
use Rattle.std.proofs.Common.{◌≡◌, ℕ, Bool, Option, Some, List, refl, ap, ◌∙◌, arith}
use Rattle.ldc_link.specs.declared.phase.Role.TheVariants.{Initiator}
use Rattle.runs.specs.Lawful.{Lawful, run_lawful}
use Rattle.runs.specs.Run.{Run}
use Rattle.lane_models.specs.Seeing.{Seen}
use Rattle.cookie_copy.specs.Reach.{Reach}
use Rattle.lane_models.specs.Fetching.{Fetched}
use Rattle.lane_models.specs.FrameLaws.{JoiningAt, MayJoin}
use Rattle.lane_models.specs.NetEndPutting.{answers, net_holds, net_opens, opened_by_put}
use Rattle.lane_models.specs.NetEndRule.{NetRule, port_rule}
use Rattle.lane_models.specs.NetEndState.{Activity, NetEndState, NetSession}
use Rattle.lane_models.specs.NetEndStep.{Blocked, Frame, Given, Idle, Joining, NetAnswer, NetEndStep, NetGives, NetJoins, NetLeft, Published, Sent, Took}
use Rattle.lane_models.specs.NetEndTaking.{GoesOn}
use Rattle.lane_models.specs.NetEvent.{NetEvent}
use Rattle.lane_models.specs.NetLaneState.{NetLaneState, NetShape}
use Rattle.lane_models.specs.NetLaneStep.{NetLaneStep}
use Rattle.lane_models.specs.PortLog.{PortLog, after, members_after, no_events}
use Rattle.lane_models.specs.PortState.{PortEvent, PortState, PortStep, fresh_port}
use Rattle.lane_models.proofs.Refuting.{none_some, of_some}
use Rattle.port_laws.specs.NetFits.{NetFits}
use Rattle.port_laws.proofs.EndMoves.{packet_goes}
use Rattle.port_laws.proofs.Fitting.{BothFit}
use Rattle.port_laws.proofs.LaneMoves.{fresh_fits}
use Rattle.port_laws.proofs.PortRuns.{PortFits, before_fits, before_guest, port_fits}

-- A STEP of a guest leaves them
abbrev Same : NetEndState → NetEndState → Type 0
Same s t = t.groups ≡ s.groups

slot_same : (s : NetEndState) (p : NetSession) (activity : Activity) (last : Option ℕ) (found : Fetched) (held : NetEndState) → answers s p activity last found ≡ Some held → Same s held
slot_same s p activity last found held same = grind (arith, of_some, none_some)

held_same : (s : NetEndState) (reach : Reach) (rule : NetRule) (held : NetEndState) → net_holds rule s reach ≡ Some held → Same s held
held_same s reach rule held same = grind (arith, of_some, slot_same, none_some)

opened_same : (opens : Bool) (s : NetEndState) → Same s (opened_by_put Initiator opens s)
opened_same opens s = grind arith

step_same : (s : NetEndState) (at : Seen) (memory : List ℕ) (reach : Reach) (answer : NetAnswer) (t : NetLeft) → NetFits Initiator s → NetEndStep Initiator s at memory reach answer t → Same s t.end
step_same s at memory reach (Took packet opens) t fits step = (packet_goes Initiator s memory packet (GoesOn t.end opens t.own) fits step.1).groups refl
step_same s at memory reach (Sent packet opens) t fits step =
    ap (λ (x : NetLeft). x.end.groups) step.is ∙ opened_same (net_opens step.held) _ ∙ held_same s reach (port_rule Initiator s at) step.held step.holds
step_same s at memory reach Blocked t fits step = held_same s reach (port_rule Initiator s at) t.end step.0
step_same s at memory reach Idle t fits step = ap (λ (x : NetLeft). x.end.groups) step.1
step_same s at memory reach (Published id) t fits step = ap (λ (x : NetLeft). x.end.groups) step.is
step_same s at memory reach (Frame frame) t fits step = ap (λ (x : NetLeft). x.end.groups) step.is
step_same s at memory reach _ t fits step = ap (λ (x : NetLeft). x.end.groups) step.2

-- AN EVENT leaves them, or joins one
abbrev pub GroupsAre : NetLaneState → List (List ℕ) → Type 0
GroupsAre s members = s.guest.groups ≡ members

gives_same : (s : NetEndState) (given : Given) (t : NetEndState) → NetGives s given t → Same s t
gives_same s given t gives = grind arith

pub event_groups : (s : NetLaneState) (event : NetEvent) (t : NetLaneState) (members : List (List ℕ)) → BothFit s → NetLaneStep s event t → GroupsAre s members → GroupsAre t (members_after event members)
event_groups s event t members given step are = grind (arith, step_same, gives_same)

-- A JOIN stands by them
may_join : (members : List (List ℕ)) (s t : NetEndState) (joining : Joining) → s.groups ≡ members → NetJoins s joining t → MayJoin members joining
may_join members s t joining are joins = grind arith

-- THE PORT
record Agrees (s : PortState) (l : PortLog) : Type 0 where
  fits : PortFits s
  groups : GroupsAre s.lane l.members

port_joins_step : (s : PortState) (l : PortLog) (event : PortEvent) (t : PortState) → Agrees s l → PortStep s event t → JoiningAt l event × Agrees t (after l event)
port_joins_step s l event t agrees step = grind (arith, may_join, port_fits, event_groups, before_fits, before_guest)

pub port_joins : (shape : NetShape) (events : List PortEvent) (s : PortState) → Run PortStep (fresh_port shape) events s → Lawful JoiningAt after (no_events shape) events
port_joins shape events s run =
    (run_lawful PortStep JoiningAt after Agrees port_joins_step (fresh_port shape) s (no_events shape) events (record { fits = fresh_fits shape; groups = refl }) run).0
