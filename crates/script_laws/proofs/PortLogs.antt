-- What a port's log says of it: whether it is finished, as its state is; and what calm steps leave of it.
use Rattle.std.proofs.Common.{◌≡◌, ℕ, Bool, true, false, Option, List, [], ◌∷◌, ◌++◌, length, map, refl, sym, ap, ◌∙◌, arith}
use Rattle.runs.specs.Lawful.{lawful_split, log_of}
use Rattle.runs.specs.Run.{Run, run_push}
use Rattle.ldc_queue.specs.declared.end.End.{End}
use Rattle.ldc_queue.specs.declared.end.End.TheVariants.{A}
use Rattle.lane_kinds.specs.Lanes.{EachOf, own_or}
use Rattle.world_parts.proofs.port_laws.EveryRun.{every_run}
use Rattle.world_parts.proofs.port_laws.PortWire.{port_wire}
use Rattle.world_parts.specs.lane_models.FrameLaws.{IsFinished}
use Rattle.world_parts.specs.lane_models.NetEndState.{joined_net_end, unseen}
use Rattle.world_parts.specs.lane_models.NetEvent.{CalmTick, NetEvent, Ticked}
use Rattle.world_parts.specs.lane_models.NetLaneState.{IsNetShape, NetShape, role_at, with_net_end}
use Rattle.world_parts.specs.lane_models.NetLaneStep.{is_finished, net_wire}
use Rattle.world_parts.specs.lane_models.PortLog.{PortLog, after, no_events}
use Rattle.world_parts.specs.lane_models.PortMay.{PortMay}
use Rattle.world_parts.specs.lane_models.PortState.{OnLane, PortEvent, PortState, PortStep, fresh_port}
use Rattle.world_parts.specs.switch_laws.Events.{OnPort, SwitchEvent, at_port}
use Rattle.world_parts.specs.switch_laws.Ports.{is_calm}
use Rattle.world_parts.specs.world_laws.Settle.{OfPort, SettleEntry}
use Rattle.world_parts.specs.domain_laws.Frames.{port_events}
use Rattle.world_parts.specs.WorldEvents.{told_net}
use Rattle.script_laws.proofs.Untold.{all_told}

-- WHAT IS TOLD makes the log of the real entries
behind_log : (one xs ys : List SwitchEvent)
    → ((l : PortLog) → log_of after l (map at_port xs) ≡ log_of after l (map at_port ys)) → (l : PortLog)
    → log_of after l (map at_port (one ++ xs)) ≡ log_of after l (map at_port (one ++ ys))
behind_log [] xs ys same l = same l
behind_log (event ∷ one) xs ys same l = behind_log one xs ys same (after l (at_port event))

own_log : (c : Bool) (event : NetEvent) (xs ys : List SwitchEvent)
    → ((l : PortLog) → log_of after l (map at_port xs) ≡ log_of after l (map at_port ys)) → (l : PortLog)
    → log_of after l (map at_port (own_or c (OnPort (OnLane (told_net event))) [] ++ xs))
    ≡ log_of after l (map at_port (own_or c (OnPort (OnLane event)) [] ++ ys))
own_log c event xs ys same l = grind arith

pub told_log : (k : ℕ) (part : List SettleEntry) (l : PortLog)
    → log_of after l (port_events k (all_told part)) ≡ log_of after l (port_events k part)
told_log k (OfPort j event ∷ part) l = grind (arith, own_log, behind_log, told_log k part)
told_log k (entry ∷ part) l = told_log k part l
told_log k part l = grind arith

-- A RUN of a port, and its log: what is on the wire is the same
step_wire : (s : PortState) (l : PortLog) (event : PortEvent) (t : PortState) → s.lane.wire ≡ l.wire → PortStep s event t
    → t.lane.wire ≡ (after l event).wire
step_wire s l event t same step = grind (arith, port_wire)

run_wire : (s : PortState) (l : PortLog) (events : List PortEvent) (t : PortState) → s.lane.wire ≡ l.wire → Run PortStep s events t
    → t.lane.wire ≡ (log_of after l events).wire
run_wire s l [] t same run = sym (ap (λ (x : PortState). x.lane.wire) run) ∙ same
run_wire s l (event ∷ events) t same run =
    run_wire run.0 (after l event) events t (step_wire s l event run.0 same run.1) run.2

module _ (shape : NetShape) (sound : IsNetShape shape) (events : List PortEvent) (s : PortState)
    (run : Run PortStep (fresh_port shape) events s) where
  abbrev Log : PortLog
  Log = log_of after (no_events shape) events

  pub same_wire : s.lane.wire ≡ Log.wire
  same_wire = run_wire (fresh_port shape) (no_events shape) events s refl run

  -- what may happen next
  pub next_may : (event : PortEvent) (t : PortState) → PortStep s event t → PortMay Log event
  next_may event t step =
      let whole = run_push PortStep (fresh_port shape) s t events event run step in
      (lawful_split PortMay after (no_events shape) events (event ∷ []) (every_run shape (events ++ event ∷ []) t sound whole)).1.0

  -- finished, or not, as a tick would find it
  pub finished_by : is_finished s.lane (length s.queue) ≡ true → IsFinished Log
  finished_by is = (next_may (OnLane (CalmTick (length s.queue))) s (refl, (is, refl), refl)).tick

  pub unfinished_by : is_finished s.lane (length s.queue) ≡ false → IsFinished Log → ⊥
  unfinished_by is =
      let lost : ℕ = unseen s.lane.guest.session in
      let event : NetEvent = Ticked (length s.queue) lost in
      let t : PortState = record {
        lane = record (with_net_end A (joined_net_end (role_at A) s.lane.guest) s.lane) { wire = net_wire event s.lane };
        queue = s.queue;
      } in
      (next_may (OnLane event) t (refl, (is, (refl, refl)), refl)).tick

-- CALM EVENTS leave all of a log but which end was idle last
abbrev pub idle_last : Option End → PortLog → PortLog
idle_last o l = record l { last_idle = o }

pub record LastIdle (l m : PortLog) : Type 0 where
  pub last : Option End
  pub is : m ≡ idle_last last l

abbrev pub IsCalm : SwitchEvent → Type 0
IsCalm event = is_calm event ≡ true

calm_after : (l : PortLog) (event : SwitchEvent) → is_calm event ≡ true → LastIdle l (after l (at_port event))
calm_after l event calm = grind arith

pub calm_log : (events : List SwitchEvent) (l : PortLog) → EachOf IsCalm events → LastIdle l (log_of after l (map at_port events))
calm_log [] l calm = record { last = l.last_idle; is = refl }
calm_log (event ∷ events) l calm =
    let one : LastIdle l (after l (at_port event)) = calm_after l event calm.0 in
    let more : LastIdle (after l (at_port event)) (log_of after (after l (at_port event)) (map at_port events)) =
    calm_log events (after l (at_port event)) calm.1 in
    record { last = more.last; is = more.is ∙ ap (idle_last more.last) one.is }

pub finished_as : (o p : Option End) (l : PortLog) → IsFinished (idle_last o l) → IsFinished (idle_last p l)
finished_as o p l at = record { told = at.told; guest = at.guest; hub = at.hub }
