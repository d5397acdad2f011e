-- Behind a quiet round both ends of a port are still by its log, whose entries leave out its idle steps; and a port that
-- waits then and that nobody forged lost a packet.
use Rattle.std.proofs.Common.{◌≡◌, ◌⊎◌, inl, inr, ℕ, ◌+◌, ◌≤◌, Bool, true, false, Option, List, [], ◌∷◌, ◌++◌, length, map, refl, sym, ap, ◌∙◌, subst, arith, append_assoc}
use Rattle.std.specs.Prelude.{not, ⊤}
use Rattle.std.proofs.lemmas.Bool.{eq-eqb, eqb-true}
use Rattle.runs.specs.Lawful.{log_append, log_of}
use Rattle.runs.specs.Run.{Run, run_append, run_push}
use Rattle.world_parts.specs.lane_models.WireLog.{WireLog}
use Rattle.ldc_queue.specs.declared.end.End.{End}
use Rattle.ldc_queue.specs.declared.end.End.TheVariants.{A, B}
use Rattle.ldc_queue.specs.Wire.{peer_of, waiting_for}
use Rattle.lane_kinds.proofs.EntriesEach.{said_each}
use Rattle.lane_kinds.proofs.LaneFronts.{of_both}
use Rattle.lane_kinds.proofs.Moving.{happened_both}
use Rattle.lane_kinds.proofs.Places.{map_both}
use Rattle.lane_kinds.proofs.Sums.{and_left, and_right}
use Rattle.lane_kinds.specs.Lanes.{CalmTurn, EachOf, all_calm}
use Rattle.world_parts.specs.port_laws.RemainingSteps.{IsCalm as IsCalmAnswer}
use Rattle.world_parts.specs.lane_models.FrameLaws.{IsFinished}
use Rattle.world_parts.specs.lane_models.NetEndStep.{Blocked, Idle, NetAnswer}
use Rattle.world_parts.specs.lane_models.NetEvent.{Steps}
use Rattle.world_parts.specs.lane_models.NetLaneState.{IsNetShape, NetShape}
use Rattle.world_parts.specs.lane_models.NetLaneStep.{is_finished}
use Rattle.world_parts.specs.lane_models.PortLog.{PortLog, after, no_events}
use Rattle.world_parts.specs.lane_models.PortMay.{PortMay}
use Rattle.world_parts.specs.lane_models.PortState.{OnLane, PortEvent, PortState, PortStep, fresh_port}
use Rattle.world_parts.proofs.switch_laws.Resting.{TwoCalm, finishes, two_calm}
use Rattle.world_parts.proofs.switch_laws.Steps.{run_on_port}
use Rattle.world_parts.proofs.switch_laws.PortTurns.{calm_gives}
use Rattle.world_parts.specs.switch_laws.Events.{OnPort, SwitchEvent, SwitchStep, at_port}
use Rattle.world_parts.specs.switch_laws.Ports.{is_calm, ports}
use Rattle.world_parts.specs.world_laws.Settle.{OfPort, SettleEntry}
use Rattle.world_parts.proofs.domain_laws.LineEntries.{EachEntry}
use Rattle.world_parts.specs.domain_laws.Along.{port_happened, port_said}
use Rattle.world_parts.specs.domain_laws.Frames.{port_events}
use Rattle.world_parts.specs.domain_laws.Settling.{port_ticks, port_ticks_in}
use Rattle.script_laws.proofs.PortLogs.{IsCalm, LastIdle, calm_log, finished_as, finished_by, idle_last, next_may, same_wire}
use Rattle.script_laws.specs.PortSettles.{is_port_tick}
use Rattle.script_laws.specs.Still.{IsPortStill, IsPortStillBy}

-- ENTRIES OF CALM EVENTS of ports, and ticks of them
abbrev pub IsCalmOfPorts : SettleEntry → Type 0
IsCalmOfPorts (OfPort k event) = is_calm event ≡ true
IsCalmOfPorts _ = ⊤

abbrev pub IsTickOfPorts : SettleEntry → Type 0
IsTickOfPorts (OfPort k event) = is_port_tick event ≡ true
IsTickOfPorts _ = ⊤

said_calm : (k : ℕ) (entry : SettleEntry) → IsCalmOfPorts entry → EachOf IsCalm (port_said k entry)
said_calm k entry calm = grind (arith, calm_gives)

calm_happened : (k : ℕ) (part : List SettleEntry) → EachEntry IsCalmOfPorts part → EachOf IsCalm (port_happened k part)
calm_happened k part calm = said_each port_said IsCalmOfPorts IsCalm k (said_calm k) part calm

-- a tick of another port says nothing of it
tick_said : (k j : ℕ) (event : SwitchEvent) → is_port_tick event ≡ true → port_ticks k (OfPort j event) ≡ 0 → port_said k (OfPort j event) ≡ []
tick_said k j event is none = grind (arith, eq-eqb, eqb-true)

first_none : (a b : ℕ) → a + b ≡ 0 → a ≡ 0
first_none a b none = omega (arith, none)

later_none : (a b : ℕ) → a + b ≡ 0 → b ≡ 0
later_none a b none = omega (arith, none)

pub ticks_said : (k : ℕ) (part : List SettleEntry) → EachEntry IsTickOfPorts part → port_ticks_in k part ≡ 0 → port_happened k part ≡ []
ticks_said k (OfPort j event ∷ part) each none =
    grind (arith, tick_said, first_none, later_none, ticks_said k part each.1 (later_none (port_ticks k (OfPort j event)) (port_ticks_in k part) none))
ticks_said k (entry ∷ part) each none = ticks_said k part each.1 (later_none (port_ticks k entry) (port_ticks_in k part) none)
ticks_said k part each none = grind arith

-- AFTER SO MUCH OF A PART, the last round before which was quiet, and behind which others alone had ticks
pub record QuietAt (k : ℕ) (so_far : List SettleEntry) (s : PortState) : Type 0 where
  pub past : List SettleEntry
  pub round : List SettleEntry
  pub ticks : List SettleEntry
  pub is : so_far ≡ past ++ (round ++ ticks)
  pub before : PortState
  pub led : Run SwitchStep s (port_happened k past) before
  pub turn : List SwitchEvent
  pub behind : PortState
  pub made : CalmTurn ports before turn behind
  pub calm : EachEntry IsCalmOfPorts round
  pub are_ticks : EachEntry IsTickOfPorts ticks

-- WHICH END WAS IDLE LAST is nothing to an end that is still
still_as : (e : End) (o p : Option End) (l : PortLog) → IsPortStillBy e (idle_last o l) → IsPortStillBy e (idle_last p l)
still_as e o p l given = grind arith

-- AN END THAT MAKES A CALM STEP is still
full_most : (n m : ℕ) → n + 1 ≡ m → m ≤ n + 1
full_most n m is = omega (arith, is)

calm_still : (e : End) (l : PortLog) (answer : NetAnswer) → IsCalmAnswer answer → PortMay l (OnLane (Steps e answer)) → IsPortStillBy e l
calm_still e l Idle calm may = record { up = may.table; still = inl may.idle }
calm_still e l Blocked calm may = record {
  up = may.table.0;
  still = inr (full_most (length (waiting_for (peer_of e) l.wire.wire)) l.shape.entries may.table.1);
}
calm_still e l _ calm may = absurd calm

calm_step : (l : PortLog) (answer : NetAnswer) → IsCalmAnswer answer → IsCalm (OnPort (OnLane (Steps A answer)))
calm_step l answer calm = grind arith

-- BOTH ENDS, before a calm turn
both_still : (shape : NetShape) (sound : IsNetShape shape) (events : List PortEvent) (s t : PortState) → Run PortStep (fresh_port shape) events s
    → TwoCalm s t → IsPortStill (log_of after (no_events shape) events)
both_still shape sound events s t run turn =
    let l : PortLog = log_of after (no_events shape) events in
    let one : PortEvent = OnLane (Steps A turn.one) in
    let m : PortState = turn.between in
    let first : LastIdle l (after l one) =
    calm_log (OnPort one ∷ []) l (calm_step l turn.one turn.one_calm, tt) in
    let on : Run PortStep (fresh_port shape) (events ++ one ∷ []) m = run_push PortStep (fresh_port shape) s m events one run turn.first in
    let may : PortMay (log_of after (no_events shape) (events ++ one ∷ [])) (OnLane (Steps B turn.two)) =
    next_may shape sound (events ++ one ∷ []) m on (OnLane (Steps B turn.two)) t turn.second in
    let there : PortMay (idle_last first.last l) (OnLane (Steps B turn.two)) =
    subst (λ (x : PortLog). PortMay x (OnLane (Steps B turn.two))) (log_append after (no_events shape) events (one ∷ []) ∙ first.is) may in
    record {
      guest = calm_still A l turn.one turn.one_calm (next_may shape sound events s run one m turn.first);
      switch_end = still_as B first.last l.last_idle l (calm_still B (idle_last first.last l) turn.two turn.two_calm there);
    }

all_calm_each : (events : List SwitchEvent) → all_calm ports events ≡ true → EachOf IsCalm events
all_calm_each [] calm = tt
all_calm_each (event ∷ events) calm =
    (and_left (is_calm event) (all_calm ports events) calm, all_calm_each events (and_right (is_calm event) (all_calm ports events) calm))

finished_where : (b : Bool) → not b ≡ false → b ≡ true
finished_where true is = refl
finished_where false is = absurd (cc is)

either_way : (b : Bool) → (b ≡ true) ⊎ (b ≡ false)
either_way true = inl refl
either_way false = inr refl

-- WHAT A QUIET ROUND SAYS of a port that was led there, where no tick of it came so far
module _ (shape : NetShape) (sound : IsNetShape shape) (k : ℕ) (front so_far : List SettleEntry) (s : PortState)
    (run : Run PortStep (fresh_port shape) (port_events k front) s) (at : QuietAt k so_far s) (none : port_ticks_in k at.ticks ≡ 0) where
  abbrev before_events : List PortEvent
  before_events = port_events k (front ++ at.past)

  abbrev before_log : PortLog
  before_log = log_of after (no_events shape) before_events

  abbrev later : List SettleEntry
  later = at.round ++ at.ticks

  events_both : (one two : List SettleEntry) → port_events k (one ++ two) ≡ port_events k one ++ port_events k two
  events_both one two =
      ap (map at_port) (happened_both port_said k one two) ∙ map_both at_port (port_happened k one) (port_happened k two)

  led_before : Run PortStep (fresh_port shape) before_events at.before
  led_before =
      subst (λ (l : List PortEvent). Run PortStep (fresh_port shape) l at.before) (sym (events_both front at.past))
      (run_append PortStep (fresh_port shape) s at.before (port_events k front) (port_events k at.past) run
      (run_on_port s (port_happened k at.past) at.before at.led))

  later_calm : EachOf IsCalm (port_happened k later)
  later_calm = grind (arith, happened_both, of_both, calm_happened, ticks_said)

  now : LastIdle before_log (log_of after (no_events shape) (port_events k (front ++ so_far)))
  now =
      let calm : LastIdle before_log (log_of after before_log (port_events k later)) =
      calm_log (port_happened k later) before_log later_calm in
      let whole : port_events k (front ++ so_far) ≡ before_events ++ port_events k later =
      ap (λ (l : List SettleEntry). port_events k (front ++ l)) at.is
      ∙ ap (port_events k) (sym (append_assoc front at.past later)) ∙ events_both (front ++ at.past) later in
      record {
        last = calm.last;
        is = ap (log_of after (no_events shape)) whole ∙ log_append after (no_events shape) before_events (port_events k later) ∙ calm.is;
      }

  pub quiet_still : IsPortStill (log_of after (no_events shape) (port_events k (front ++ so_far)))
  quiet_still =
      let still : IsPortStill before_log =
      both_still shape sound before_events at.before at.behind led_before (two_calm at.before at.turn at.behind at.made) in
      subst IsPortStill (sym now.is) (record {
        guest = still_as A before_log.last_idle now.last before_log still.guest;
        switch_end = still_as B before_log.last_idle now.last before_log still.switch_end;
      })

  -- a turn that finishes it would show
  turn_finishes : (is_finished at.behind.lane (length at.behind.queue) ≡ true) → IsFinished (log_of after (no_events shape) (port_events k (front ++ so_far)))
  turn_finishes is =
      let turn_events : List PortEvent = map at_port at.turn in
      let on : Run PortStep (fresh_port shape) (before_events ++ turn_events) at.behind =
      run_append PortStep (fresh_port shape) at.before at.behind before_events turn_events led_before
      (run_on_port at.before at.turn at.behind at.made.run) in
      let calm : LastIdle before_log (log_of after before_log turn_events) = calm_log at.turn before_log (all_calm_each at.turn at.made.calm) in
      let finished : IsFinished (idle_last calm.last before_log) =
      subst IsFinished (log_append after (no_events shape) before_events turn_events ∙ calm.is)
      (finished_by shape sound (before_events ++ turn_events) at.behind on is) in
      subst IsFinished (sym now.is) (finished_as calm.last now.last before_log finished)

  pub quiet_lost : (IsFinished (log_of after (no_events shape) (port_events k (front ++ so_far))) → ⊥)
      → (log_of after (no_events shape) (port_events k (front ++ so_far))).wire.forged ≡ false
      → (log_of after (no_events shape) (port_events k (front ++ so_far))).wire.lossy ≡ true
  quiet_lost waits clean =
      let wire : (log_of after (no_events shape) (port_events k (front ++ so_far))).wire ≡ at.before.lane.wire =
      ap (λ (l : PortLog). l.wire) now.is ∙ sym (same_wire shape sound before_events at.before led_before) in
      elim (either_way at.before.lane.wire.lossy) [
        | inl lossy ↦ ap (λ (w : WireLog). w.lossy) wire ∙ lossy
        | inr whole ↦
            absurd
            (waits
            (turn_finishes
            (finished_where (is_finished at.behind.lane (length at.behind.queue))
            (finishes at.before at.turn at.behind (record { shape = shape; sound = sound; events = before_events; run = led_before })
            (ap (λ (w : WireLog). w.forged) (sym wire) ∙ clean) whole at.made))))
      ]
