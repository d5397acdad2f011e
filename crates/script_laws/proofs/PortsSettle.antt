-- What each settle of a script's lines comes to for each port: its ticks, its names and its answer.
use Rattle.std.proofs.Common.{◌≡◌, ◌⊎◌, ◌↔◌, inl, inr, ℕ, ◌+◌, ◌≤◌, ◌<◌, Bool, true, false, List, [], ◌∷◌, ◌++◌, length, map, slice_get, Some, refl, sym, ap, ◌∙◌, subst, arith, append-nil}
use Rattle.std.proofs.lemmas.Bool.{eq-eqb}
use Rattle.std.proofs.lemmas.Option.{slice_get_within}
use Rattle.std.specs.Prelude.{not, ⊤}
use Rattle.runs.specs.Lawful.{log_of}
use Rattle.runs.specs.Run.{Run, run_append, run_split}
use Rattle.world_parts.specs.lane_models.WireLog.{WireLog}
use Rattle.disk_law.specs.ListState.{ImageState}
use Rattle.domain_script.specs.declared.event.DiskDecl.{DiskDecl}
use Rattle.domain_script.specs.declared.event.Event.{Event}
use Rattle.domain_script.specs.declared.event.Event.TheVariants.{Settle}
use Rattle.lane_kinds.proofs.EntryRuns.{names_each}
use Rattle.lane_kinds.proofs.Moving.{both_move, happened_both}
use Rattle.lane_kinds.proofs.Places.{get_within, map_both}
use Rattle.lane_kinds.proofs.Stuck.{sum_both}
use Rattle.lane_kinds.specs.Both.{Two}
use Rattle.lane_kinds.specs.Fronts.{SettleFront}
use Rattle.lane_kinds.specs.LaneCounts.{once}
use Rattle.lane_kinds.specs.Settles.{RunsOut, SettlePart, Settles, begin, entries_of_rounds}
use Rattle.world_parts.specs.lane_models.FrameLaws.{IsFinished}
use Rattle.world_parts.specs.lane_models.NetEvent.{CalmTick, NetEvent, Ticked}
use Rattle.world_parts.specs.lane_models.NetLaneState.{IsNetShape, NetShape}
use Rattle.world_parts.specs.lane_models.NetLaneStep.{is_finished}
use Rattle.world_parts.specs.lane_models.PortLog.{PortLog, after, no_events}
use Rattle.world_parts.specs.lane_models.PortState.{OnLane, PortEvent, PortState, PortStep, Receives, fresh_port}
use Rattle.world_parts.proofs.switch_laws.Steps.{run_on_port}
use Rattle.world_parts.proofs.switch_laws.PortTurns.{silent_calm}
use Rattle.world_parts.specs.switch_laws.Events.{OnPort, SwitchEvent, SwitchStep, Switched, at_port}
use Rattle.world_parts.specs.switch_laws.Ports.{is_calm, ports, waits_on}
use Rattle.world_parts.specs.lane_models.LaneState.{LaneState}
use Rattle.world_parts.specs.world_laws.DiskKind.{disk_kind}
use Rattle.world_parts.specs.world_laws.Rounds.{LaneRound}
use Rattle.world_parts.specs.world_laws.Settle.{OfPort, SettleEntry, Settled, Unsettled, UnsettledPort, disk_entries, disks}
use Rattle.world_parts.proofs.domain_laws.Arriving.{at_there, sound_at}
use Rattle.world_parts.proofs.domain_laws.LineEntries.{AllRound, EachEntry, each_in}
use Rattle.world_parts.proofs.domain_laws.Resting.{port_ticks_begun, port_ticks_once, ports_end}
use Rattle.world_parts.proofs.domain_laws.Running.{fresh_many, port_runs, ports_run}
use Rattle.world_parts.specs.domain_laws.Along.{port_happened, port_said}
use Rattle.world_parts.specs.domain_laws.Domain.{DomainState, DomainStep, Lanes, PortsStep, lanes, lanes_in, port_entries, switch}
use Rattle.world_parts.specs.domain_laws.Frames.{port_events}
use Rattle.world_parts.specs.domain_laws.Lines.{entries_of_lines, fronts}
use Rattle.world_parts.specs.domain_laws.Settling.{PortEndsIn, PortsEnd, port_ticks, port_ticks_in}
use Rattle.ldom_entries.specs.declared.entry.Entry.{Entry}
use Rattle.script_laws.proofs.DeclaredWorlds.{as_lines}
use Rattle.script_laws.proofs.Entries.{IsName}
use Rattle.script_laws.proofs.ExactNames.{port_named, port_why}
use Rattle.script_laws.proofs.LedLanes.{real_run}
use Rattle.script_laws.proofs.LeftNames.{MovedBy, WaitsBy, moved_left, moved_right, named}
use Rattle.script_laws.proofs.NamesAt.{LastRound, NamesAt, last_round, names_at}
use Rattle.script_laws.proofs.Places.{InEither, place_in}
use Rattle.script_laws.proofs.PortLogs.{finished_by, next_may, same_wire, told_log, unfinished_by}
use Rattle.script_laws.proofs.PortRounds.{AnswerAt, PortMoved, PortsMove, answer_behind_quiet, names_move_ports, part_moves_ports, port_moved_to, rounds_move_ports, ticks_behind_quiet}
use Rattle.script_laws.proofs.PortStill.{QuietAt, quiet_lost, quiet_still}
use Rattle.script_laws.proofs.PortWords.{OwnStep, own_step}
use Rattle.script_laws.proofs.ReachedLanes.{AreLanes}
use Rattle.script_laws.proofs.SettleEntries.{none_behind, settled_last}
use Rattle.script_laws.proofs.SettleLines.{EachSettles, SettlesBehind}
use Rattle.script_laws.proofs.SettleRests.{settles_if}
use Rattle.script_laws.proofs.Settling.{reached_events}
use Rattle.script_laws.proofs.Untold.{Untold, all_told, real_settled, real_unsettled, real_unsettled_port, told_port_ticks, untold}
use Rattle.script_laws.specs.Settled.{EndsUnsettled}
use Rattle.script_laws.specs.PortSettles.{NamesPort, PortEndsSo, PortMovedIn, PortNeedsTick, PortSettles, is_port_tick}
use Rattle.script_laws.specs.Told.{port_log_at, told, told_by}
use Rattle.world_parts.specs.Declared.{world_of}
use Rattle.world_parts.specs.WorldEvents.{told_net, told_of}

-- A TICK AS IT IS TOLD is told of one
same_tick : (event : NetEvent) → is_port_tick (OnPort (OnLane (told_net event))) ≡ is_port_tick (OnPort (OnLane event))
same_tick (Ticked queued lost) = refl
same_tick (CalmTick queued) = refl
same_tick event = refl

record RealTick (k : ℕ) (real : SettleEntry) : Type 0 where
  event : SwitchEvent
  is : real ≡ OfPort k event
  ticks : is_port_tick event ≡ true

real_tick : (k : ℕ) (event : SwitchEvent) (real : SettleEntry) → is_port_tick event ≡ true → OfPort k event ≡ told_of real → RealTick k real
real_tick k event (OfPort j (OnPort (OnLane own))) ticks is =
    let number : j ≡ k = cc is in
    let same : event ≡ OnPort (OnLane (told_net own)) = cc is in
    record {
      event = OnPort (OnLane own);
      is = ap (λ (n : ℕ). OfPort n (OnPort (OnLane own))) number;
      ticks = sym (same_tick own) ∙ sym (ap is_port_tick same) ∙ ticks;
    }
real_tick k event (OfPort j (OnPort (Receives frame))) ticks is =
    let same : event ≡ OnPort (Receives frame) = cc is in
    let both : false ≡ true = sym (ap is_port_tick same) ∙ ticks in
    absurd (cc both)
real_tick k event (OfPort j (Switched frame out full)) ticks is =
    let same : event ≡ Switched frame out full = cc is in
    let both : false ≡ true = sym (ap is_port_tick same) ∙ ticks in
    absurd (cc both)
real_tick k event _ ticks is = absurd (cc is)

-- it comes only where the port isn't finished
tick_waits : (shape : NetShape) (sound : IsNetShape shape) (front : List SettleEntry) (k : ℕ) (s : PortState) (event : SwitchEvent) (t : PortState)
    → Run PortStep (fresh_port shape) (port_events k front) s → is_port_tick event ≡ true → SwitchStep s event t
    → IsFinished (log_of after (no_events shape) (port_events k front)) → ⊥
tick_waits shape sound front k s (OnPort (OnLane (Ticked queued lost))) t run is step =
    (next_may shape sound (port_events k front) s run (OnLane (Ticked queued lost)) t step.1).tick
tick_waits shape sound front k s _ t run is step = absurd (cc is)

-- IN A PART with one tick at most of the port there is none before that, nor in what comes before
no_more : (a b c : ℕ) → a ≡ b + c → a ≤ 1 → 1 ≤ c → b ≡ 0
no_more a b c sum most one = omega (arith, sum, most, one)

some_sum : (a b c : ℕ) → a ≡ b + c → b ≡ 1 → 1 ≤ a
some_sum a b c sum one = omega (arith, sum, one)

none_later : (a b c : ℕ) → a ≡ 0 → a ≡ b + c → c ≡ 0
none_later a b c none sum = omega (arith, none, sum)

sum_parts : (k : ℕ) (one two : List SettleEntry) → port_ticks_in k (one ++ two) ≡ port_ticks_in k one + port_ticks_in k two
sum_parts k one two = sum_both (port_ticks k) one two

part_once : (start : Lanes) (part : List SettleEntry) (behind : Lanes) (k : ℕ)
    → SettlePart lanes start part behind ⊎ SettleFront lanes fronts start part behind → port_ticks_in k part ≤ 1
part_once start part behind k (inl settle) = port_ticks_once start part behind k settle
part_once start part behind k (inr at) = port_ticks_begun start part behind k at

within : (k n m : ℕ) → k < n → m ≡ n → k < m
within k n m less is = omega (arith, less, is)

own_place : (k : ℕ) → k ≡ 0 + k
own_place k = omega (arith)

-- A NAME of a port is among those of ports
abbrev IsDiskName : SettleEntry → Type 0
IsDiskName (Unsettled k) = ⊤
IsDiskName _ = ⊥

disk_names : (r : List LaneRound) (w : List LaneState) → EachEntry IsDiskName (disks.names r w)
disk_names r w = names_each disk_kind disk_entries IsDiskName (λ k. tt) 0 r w

of_ports_alone : (k : ℕ) (r : Two (List LaneRound) (List (List SwitchEvent))) (w : Lanes) (later rest : List SettleEntry)
    → InEither (disks.names r.first w.first) (switch.names r.second w.second) later (UnsettledPort k) rest
    → (past : List SettleEntry) × (switch.names r.second w.second ≡ past ++ UnsettledPort k ∷ rest)
of_ports_alone k r w later rest (inl at) =
    absurd (each_in IsDiskName (disks.names r.first w.first) later (UnsettledPort k) at.rest at.is (disk_names r.first w.first))
of_ports_alone k r w later rest (inr at) = (at.later, at.is)

one_name : (k x : ℕ) → UnsettledPort k ≡ UnsettledPort x → k ≡ x
one_name k x is = cc is

-- why it is left over, after so much of a part
record PortLeft (k : ℕ) (start : Lanes) (so_far : List SettleEntry) (behind : Lanes) : Type 0 where
  why : MovedBy ports port_entries k so_far ⊎ WaitsBy ports 0 k behind.second
  leads : PortsMove start.second so_far behind.second

port_left : (start : Lanes) (part : List SettleEntry) (behind : Lanes)
    → SettlePart lanes start part behind ⊎ SettleFront lanes fronts start part behind → (k : ℕ)
    (so_far rest : List SettleEntry) → part ≡ so_far ++ UnsettledPort k ∷ rest → PortLeft k start so_far behind
port_left start part behind goes k so_far rest is =
    let at : NamesAt start so_far (UnsettledPort k) behind = names_at start part behind goes (UnsettledPort k) tt so_far rest is in
    let steps = at.last.steps in
    let now : Lanes = at.now.lanes in
    let rounds : List AllRound = at.rounds ++ at.last ∷ [] in
    let own = of_ports_alone k steps now at.later at.more
    (place_in (disks.names steps.first now.first) (switch.names steps.second now.second) at.later (UnsettledPort k) at.more
    at.names) in
    let last : LastRound steps so_far = last_round start so_far (UnsettledPort k) behind at in
    subst (λ (l : Lanes). PortLeft k start so_far l) (sym at.lanes_are) (record {
      why = by_why steps last (named ports port_entries silent_calm one_name 0 k steps.second now.second own.0 at.more own.1);
      leads = subst (λ (l : List SettleEntry). PortsMove start.second l now.second) (sym at.so_far_is)
          (both_move SwitchStep port_said 0 start.second now.second now.second (entries_of_rounds rounds) at.later
          (rounds_move_ports (begin lanes start) rounds at.now at.run)
          (names_move_ports steps now at.later (UnsettledPort k ∷ at.more) (sym at.names)));
    })
  where
    by_why : {w : List PortState} (steps : Two (List LaneRound) (List (List SwitchEvent))) → LastRound steps so_far
        → MovedBy ports port_entries k (switch.leaves steps.second) ⊎ WaitsBy ports 0 k w
        → MovedBy ports port_entries k so_far ⊎ WaitsBy ports 0 k w
    by_why steps last (inl moved) =
        inl
        (subst (MovedBy ports port_entries k) (sym last.is)
        (moved_right ports port_entries k last.earlier (lanes.leaves steps ++ last.later)
        (moved_left ports port_entries k (lanes.leaves steps) last.later
        (moved_right ports port_entries k (disks.leaves steps.first) (switch.leaves steps.second) moved))))
    by_why steps last (inr at) = inr at

told_named : (k : ℕ) (part : List SettleEntry) → NamesPort k part → NamesPort k (all_told part)
told_named k part at = record {
  front = all_told at.front;
  later = all_told at.later;
  is = ap all_told at.is ∙ map_both told_of at.front (UnsettledPort k ∷ at.later);
}

-- the first name of a part that has one
pub record FirstName (part : List SettleEntry) : Type 0 where
  pub entry : SettleEntry
  pub name : IsName entry
  pub so_far : List SettleEntry
  pub rest : List SettleEntry
  pub is : part ≡ so_far ++ entry ∷ rest
  pub real : (x : SettleEntry) → entry ≡ told_of x → x ≡ entry

pub first_name : (part : List SettleEntry) → EndsUnsettled part → FirstName part
first_name part ends = by_names ends.disks ends.ports ends.some ends.is
  where
    by_names : (ds ps : List ℕ) → 1 ≤ length ds + length ps → part ≡ ends.front ++ (map Unsettled ds ++ map UnsettledPort ps)
        → FirstName part
    by_names (d ∷ ds) ps some is = record {
      entry = Unsettled d;
      name = tt;
      so_far = ends.front;
      rest = map Unsettled ds ++ map UnsettledPort ps;
      is = is;
      real = real_unsettled d;
    }
    by_names [] (p ∷ ps) some is = record {
      entry = UnsettledPort p;
      name = tt;
      so_far = ends.front;
      rest = map UnsettledPort ps;
      is = is;
      real = real_unsettled_port p;
    }
    by_names [] [] some is = absurd (omega (arith, some))

-- it moved, by its events as they are kept and as a law says it
moved_by : (k : ℕ) (part : List SettleEntry) → PortMovedIn k part → MovedBy ports port_entries k part
moved_by k part at = record { before = at.before; event = at.event; later = at.later; is = at.is; loud = at.loud }

moved_in : (k : ℕ) (part : List SettleEntry) → MovedBy ports port_entries k part → PortMovedIn k part
moved_in k part at = record { before = at.before; event = at.event; later = at.later; is = at.is; loud = at.loud }

-- AS IT IS TOLD
told_loud : (event : NetEvent) → is_calm (OnPort (OnLane event)) ≡ false → is_calm (OnPort (OnLane (told_net event))) ≡ false
told_loud (Ticked queued lost) loud = refl
told_loud (CalmTick queued) loud = refl
told_loud event loud = loud

record ToldLoud (k : ℕ) (entry : SettleEntry) : Type 0 where
  event : SwitchEvent
  is : told_of entry ≡ OfPort k event
  loud : is_calm event ≡ false

told_event : (k : ℕ) (event : SwitchEvent) → is_calm event ≡ false → ToldLoud k (OfPort k event)
told_event k (OnPort (OnLane event)) loud =
    record { event = OnPort (OnLane (told_net event)); is = refl; loud = told_loud event loud }
told_event k (OnPort (Receives frame)) loud = record { event = OnPort (Receives frame); is = refl; loud = loud }
told_event k (Switched frame out full) loud = record { event = Switched frame out full; is = refl; loud = loud }

told_moved : (k : ℕ) (part : List SettleEntry) → MovedBy ports port_entries k part → PortMovedIn k (all_told part)
told_moved k part at =
    let one : ToldLoud k (OfPort k at.event) = told_event k at.event at.loud in
    record {
      before = all_told at.before;
      event = one.event;
      later = all_told at.later;
      is = ap all_told at.is ∙ map_both told_of at.before (OfPort k at.event ∷ at.later)
          ∙ ap (λ (e : SettleEntry). all_told at.before ++ e ∷ all_told at.later) one.is;
      loud = one.loud;
    }

own_tick : (k : ℕ) (event : SwitchEvent) → is_port_tick event ≡ true → port_ticks k (OfPort k event) ≡ 1
own_tick k (OnPort (OnLane (Ticked queued lost))) is = ap once (eq-eqb k k refl)
own_tick k _ is = absurd (cc is)

-- it waits where its state does
waits_where : (b : Bool) → not b ≡ true → b ≡ false
waits_where true is = absurd (cc is)
waits_where false is = refl

-- OF A SCRIPT'S LINES
module _ (disks : List DiskDecl) (nets : List NetShape) (image : ImageState) (are : AreLanes disks nets) (k : ℕ)
    (shape : NetShape) (of_shape : slice_get nets k ≡ Some shape) where
  abbrev Start : DomainState
  Start = world_of disks nets image

  sound : IsNetShape shape
  sound = sound_at nets k shape are.nets_are of_shape

  -- where real entries led the port
  record Led (entries : List SettleEntry) (w : DomainState) : Type 0 where
    state : PortState
    there : slice_get w.second k ≡ Some state
    run : Run PortStep (fresh_port shape) (port_events k entries) state

  led : (entries : List SettleEntry) (w : DomainState) → Run DomainStep Start entries w → Led entries w
  led entries w run =
      let on : Run PortsStep (map fresh_port nets) entries w.second = ports_run Start entries w run in
      let one = get_within w.second k
      (within k (length nets) (length w.second) (slice_get_within nets k shape of_shape) (fresh_many nets entries w.second on)) in
      record { state = one.0; there = one.1; run = port_runs nets entries w.second k shape one.0 on of_shape one.1 }

  -- AFTER THESE LINES, and so much of the part of a settle behind them
  module _ (before : List (Event × List Entry)) (part : List SettleEntry) (of : SettlesBehind disks nets image before part) where
    abbrev front : List SettleEntry
    front = entries_of_lines (as_lines Start before of.at of.run).real

    at_front : Run DomainStep Start front of.at
    at_front = real_run disks nets image before of.at of.run

    begins : Led front of.at
    begins = led front of.at at_front

    same_log : (past : List SettleEntry)
        → log_of after (no_events shape) (port_events k (front ++ past)) ≡ port_log_at shape k (told before ++ all_told past)
    same_log past =
        sym (told_log k (front ++ past) (no_events shape))
        ∙ ap (port_log_at shape k)
        (map_both told_of front past
        ∙ ap (λ (l : List SettleEntry). l ++ all_told past) (sym (as_lines Start before of.at of.run).told_is))

    -- an entry of the real part, and the world before it
    record Before (past : List SettleEntry) (entry : SettleEntry) (rest : List SettleEntry) : Type 0 where
      at : DomainState
      run : Run DomainStep Start (front ++ past) at
      behind : DomainState
      step : DomainStep at entry behind

    before_entry : (past : List SettleEntry) (entry : SettleEntry) (rest : List SettleEntry) → of.real ≡ past ++ entry ∷ rest → Before past entry rest
    before_entry past entry rest is =
        let split = run_split DomainStep of.at of.next past (entry ∷ rest)
        (subst (λ (l : List SettleEntry). Run DomainStep of.at l of.next) is of.on) in
        record {
          at = split.0;
          run = run_append DomainStep Start of.at split.0 front past at_front split.1;
          behind = split.2.0;
          step = split.2.1;
        }

    -- A TICK
    no_tick_before : (past : List SettleEntry) (event : SwitchEvent) (rest : List SettleEntry) → of.real ≡ past ++ OfPort k event ∷ rest
        → is_port_tick event ≡ true → port_ticks_in k past ≡ 0
    no_tick_before past event rest is ticks =
        let once_at_most = part_once (lanes_in of.at) of.real of.behind k of.goes in
        no_more (port_ticks_in k of.real) (port_ticks_in k past) (port_ticks_in k (OfPort k event ∷ rest))
        (ap (port_ticks_in k) is ∙ sum_parts k past (OfPort k event ∷ rest)) once_at_most
        (some_sum (port_ticks_in k (OfPort k event ∷ rest)) (port_ticks k (OfPort k event)) (port_ticks_in k rest) refl
        (own_tick k event ticks))

    no_tick_in : (past : List SettleEntry) (s : PortState) (at : QuietAt k past s) → port_ticks_in k past ≡ 0 → port_ticks_in k at.ticks ≡ 0
    no_tick_in past s at none =
        let first : port_ticks_in k (at.round ++ at.ticks) ≡ 0 =
        none_later (port_ticks_in k past) (port_ticks_in k at.past) (port_ticks_in k (at.round ++ at.ticks)) none
        (ap (port_ticks_in k) at.is ∙ sum_parts k at.past (at.round ++ at.ticks)) in
        none_later (port_ticks_in k (at.round ++ at.ticks)) (port_ticks_in k at.round) (port_ticks_in k at.ticks) first
        (sum_parts k at.round at.ticks)

    tick_real : (past : List SettleEntry) (event : SwitchEvent) (rest : List SettleEntry) → of.real ≡ past ++ OfPort k event ∷ rest
        → is_port_tick event ≡ true → PortNeedsTick (log_of after (no_events shape) (port_events k (front ++ past)))
    tick_real past event rest is ticks =
        let here : Before past (OfPort k event) rest = before_entry past (OfPort k event) rest is in
        let own : OwnStep here.at.second k event = own_step here.at.second k event here.behind.second here.step.of_second in
        let now : Led (front ++ past) here.at = led (front ++ past) here.at here.run in
        let both : Some own.state ≡ Some now.state = sym own.there ∙ now.there in
        let same : own.state ≡ now.state = cc both in
        let step : SwitchStep now.state event own.after = subst (λ (s : PortState). SwitchStep s event own.after) same own.step in
        let waits = tick_waits shape sound (front ++ past) k now.state event own.after now.run ticks step in
        let at : QuietAt k past begins.state =
        ticks_behind_quiet (lanes_in of.at) of.real of.behind of.goes k event past rest begins.state ticks is begins.there in
        let none : port_ticks_in k at.ticks ≡ 0 = no_tick_in past begins.state at (no_tick_before past event rest is ticks) in
        record {
          waits = waits;
          lost = quiet_lost shape sound k front past begins.state begins.run at none waits;
          still = quiet_still shape sound k front past begins.state begins.run at none;
        }

    tick_needs : (so_far : List SettleEntry) (event : SwitchEvent) (rest : List SettleEntry) → part ≡ so_far ++ OfPort k event ∷ rest
        → is_port_tick event ≡ true → PortNeedsTick (port_log_at shape k (told before ++ so_far))
    tick_needs so_far event rest is ticks =
        let at : Untold of.real so_far (OfPort k event) rest = untold of.real so_far (OfPort k event) rest (sym of.told_is ∙ is) in
        let real : RealTick k at.real = real_tick k event at.real ticks at.real_is in
        let place : of.real ≡ at.past ++ OfPort k real.event ∷ at.rest =
        at.is ∙ ap (λ (e : SettleEntry). at.past ++ e ∷ at.rest) real.is in
        subst (λ (l : List SettleEntry). PortNeedsTick (port_log_at shape k (told before ++ l))) (sym at.past_is)
        (subst PortNeedsTick (same_log at.past) (tick_real at.past real.event at.rest place real.ticks))

    -- and what the port was led to from there on
    led_on : (past : List SettleEntry) (t : PortState) → Run SwitchStep begins.state (port_happened k past) t
        → Run PortStep (fresh_port shape) (port_events k (front ++ past)) t
    led_on past t on =
        subst (λ (l : List PortEvent). Run PortStep (fresh_port shape) l t)
        (sym (ap (map at_port) (happened_both port_said k front past) ∙ map_both at_port (port_happened k front) (port_happened k past)))
        (run_append PortStep (fresh_port shape) begins.state t (port_events k front) (port_events k past) begins.run
        (run_on_port begins.state (port_happened k past) t on))

    -- A NAME
    left_real : (past rest : List SettleEntry) → of.real ≡ past ++ UnsettledPort k ∷ rest
        → PortMovedIn k (all_told past) ⊎ (IsFinished (port_log_at shape k (told before ++ all_told past)) → ⊥)
    left_real past rest is =
        let left : PortLeft k (lanes_in of.at) past of.behind = port_left (lanes_in of.at) of.real of.behind of.goes k past rest is in
        by_why left.why left.leads
      where
        by_why : MovedBy ports port_entries k past ⊎ WaitsBy ports 0 k of.behind.second → PortsMove of.at.second past of.behind.second
            → PortMovedIn k (all_told past) ⊎ (IsFinished (port_log_at shape k (told before ++ all_told past)) → ⊥)
        by_why (inl moved) leads = inl (told_moved k past moved)
        by_why (inr waits) leads =
            let m : PortMoved k past begins.state of.behind.second = port_moved_to of.at.second past of.behind.second k begins.state leads begins.there in
            let number : waits.index ≡ k = omega (arith, waits.is) in
            let found : slice_get of.behind.second k ≡ Some waits.lane =
            subst (λ (i : ℕ). slice_get of.behind.second i ≡ Some waits.lane) number waits.there in
            let both : Some waits.lane ≡ Some m.state = sym found ∙ m.there in
            let same : waits.lane ≡ m.state = cc both in
            let unfinished : is_finished m.state.lane (length m.state.queue) ≡ false =
            waits_where (is_finished m.state.lane (length m.state.queue)) (subst (λ (s : PortState). waits_on s ≡ true) same waits.waits) in
            inr
            (subst (λ (l : PortLog). IsFinished l → ⊥) (same_log past)
            (unfinished_by shape sound (port_events k (front ++ past)) m.state (led_on past m.state m.run) unfinished))

    left_where : (so_far rest : List SettleEntry) → part ≡ so_far ++ UnsettledPort k ∷ rest
        → PortMovedIn k so_far ⊎ (IsFinished (port_log_at shape k (told before ++ so_far)) → ⊥)
    left_where so_far rest is =
        let at : Untold of.real so_far (UnsettledPort k) rest = untold of.real so_far (UnsettledPort k) rest (sym of.told_is ∙ is) in
        let place : of.real ≡ at.past ++ UnsettledPort k ∷ at.rest =
        at.is ∙ ap (λ (e : SettleEntry). at.past ++ e ∷ at.rest) (real_unsettled_port k at.real at.real_is) in
        subst (λ (l : List SettleEntry). PortMovedIn k l ⊎ (IsFinished (port_log_at shape k (told before ++ l)) → ⊥)) (sym at.past_is)
        (left_real at.past at.rest place)

    -- THE ANSWER
    rests_real : (past rest : List SettleEntry) → of.real ≡ past ++ Settled ∷ rest
        → PortEndsSo k (all_told past) (log_of after (no_events shape) (port_events k (front ++ past)))
    rests_real past rest is =
        let start : Lanes = lanes_in of.at in
        let settles : Settles lanes start of.real of.behind = settles_if start of.real past rest of.behind is of.goes in
        let whole : of.real ≡ past ++ Settled ∷ [] =
        is ∙ ap (λ (l : List SettleEntry). past ++ Settled ∷ l) (none_behind of.real past rest (settled_last start of.real of.behind settles) is) in
        let reached = (reached_events disks nets image are before of.at of.run).reached in
        let ends : PortsEnd of.real of.behind.second = ports_end start of.real of.behind reached settles in
        let m : PortMoved k of.real begins.state of.behind.second =
        port_moved_to of.at.second of.real of.behind.second k begins.state (part_moves_ports start of.real of.behind (inl settles)) begins.there in
        let run : Run PortStep (fresh_port shape) (port_events k (front ++ past)) m.state =
        led_on past m.state (subst (λ (l : List SwitchEvent). Run SwitchStep begins.state l m.state) (answered past whole) m.run) in
        let own : PortEndsIn of.real k m.state =
        subst (λ (n : ℕ). PortEndsIn of.real n m.state) (sym (own_place k))
        (at_there (PortEndsIn of.real) 0 k of.behind.second m.state ends m.there) in
        let log : PortLog = log_of after (no_events shape) (port_events k (front ++ past)) in
        let wire : m.state.lane.wire ≡ log.wire = same_wire shape sound (port_events k (front ++ past)) m.state run in
        let quiet : AnswerAt k past begins.state = answer_behind_quiet start of.real of.behind settles past whole k begins.state begins.there in
        record {
          ticked = by_ticked m.state run own.ticked (same_ticks past whole);
          finished = λ clean.
              finished_by shape sound (port_events k (front ++ past)) m.state run
              (own.finished (ap (λ (w : WireLog). w.forged) wire ∙ clean));
          still = quiet_still shape sound k front past begins.state begins.run quiet.quiet
              (ap (port_ticks_in k) quiet.no_ticks);
        }
      where
        answered : (past : List SettleEntry) → of.real ≡ past ++ Settled ∷ [] → port_happened k of.real ≡ port_happened k past
        answered past whole =
            ap (port_happened k) whole ∙ happened_both port_said k past (Settled ∷ []) ∙ append-nil (port_happened k past)

        same_ticks : (past : List SettleEntry) → of.real ≡ past ++ Settled ∷ [] → port_ticks_in k of.real ≡ 1 → port_ticks_in k (all_told past) ≡ 1
        same_ticks past whole one =
            let sum = sum_parts k past (Settled ∷ []) in
            let all = ap (port_ticks_in k) whole in
            told_port_ticks k past ∙ omega (arith, sum, all, one)

        by_ticked : (t : PortState) → Run PortStep (fresh_port shape) (port_events k (front ++ past)) t
            → (is_finished t.lane (length t.queue) ≡ true) ⊎ (port_ticks_in k of.real ≡ 1) → (port_ticks_in k of.real ≡ 1 → port_ticks_in k (all_told past) ≡ 1)
            → IsFinished (log_of after (no_events shape) (port_events k (front ++ past))) ⊎ (port_ticks_in k (all_told past) ≡ 1)
        by_ticked t run (inl is) one = inl (finished_by shape sound (port_events k (front ++ past)) t run is)
        by_ticked t run (inr had) one = inr (one had)

    rests_where : (so_far rest : List SettleEntry) → part ≡ so_far ++ Settled ∷ rest → PortEndsSo k so_far (port_log_at shape k (told before ++ so_far))
    rests_where so_far rest is =
        let at : Untold of.real so_far Settled rest = untold of.real so_far Settled rest (sym of.told_is ∙ is) in
        let place : of.real ≡ at.past ++ Settled ∷ at.rest =
        at.is ∙ ap (λ (e : SettleEntry). at.past ++ e ∷ at.rest) (real_settled at.real at.real_is) in
        subst (λ (l : List SettleEntry). PortEndsSo k l (port_log_at shape k (told before ++ l))) (sym at.past_is)
        (subst (PortEndsSo k (all_told at.past)) (same_log at.past) (rests_real at.past at.rest place))

    -- A WHOLE SETTLE that leaves lanes over
    module _ (settle : SettlePart lanes (lanes_in of.at) of.real of.behind) (out : RunsOut lanes (lanes_in of.at) of.real of.behind) where
      abbrev round : List SettleEntry
      round = lanes.leaves out.last.steps

      ended : PortMoved k of.real begins.state of.behind.second
      ended =
          port_moved_to of.at.second of.real of.behind.second k begins.state
          (part_moves_ports (lanes_in of.at) of.real of.behind settle) begins.there

      end_run : Run PortStep (fresh_port shape) (port_events k (front ++ of.real)) ended.state
      end_run = led_on of.real ended.state ended.run

      abbrev Waits : Type 0
      Waits = IsFinished (port_log_at shape k (told before ++ part)) → ⊥

      by_log : waits_on ended.state ≡ true → Waits
      by_log waits =
          subst (λ (l : List SettleEntry). IsFinished (port_log_at shape k (told before ++ l)) → ⊥) (sym of.told_is)
          (subst (λ (l : PortLog). IsFinished l → ⊥) (same_log of.real)
          (unfinished_by shape sound (port_events k (front ++ of.real)) ended.state end_run
          (waits_where (is_finished ended.state.lane (length ended.state.queue)) waits)))

      by_state : Waits → (b : Bool) → is_finished ended.state.lane (length ended.state.queue) ≡ b → waits_on ended.state ≡ true
      by_state waits false is = ap not is
      by_state waits true is =
          absurd
          (waits
          (subst (λ (l : List SettleEntry). IsFinished (port_log_at shape k (told before ++ l))) (sym of.told_is)
          (subst IsFinished (same_log of.real)
          (finished_by shape sound (port_events k (front ++ of.real)) ended.state end_run is))))

      real_name : NamesPort k part → NamesPort k of.real
      real_name at =
          let place : Untold of.real at.front (UnsettledPort k) at.later =
          untold of.real at.front (UnsettledPort k) at.later (sym of.told_is ∙ at.is) in
          record {
            front = place.past;
            later = place.rest;
            is = place.is ∙ ap (λ (e : SettleEntry). place.past ++ e ∷ place.rest) (real_unsettled_port k place.real place.real_is);
          }

      why : MovedBy ports port_entries k round ⊎ (waits_on ended.state ≡ true) → PortMovedIn k round ⊎ Waits
      why (inl moved) = inl (moved_in k round moved)
      why (inr waits) = inr (by_log waits)

      back : PortMovedIn k round ⊎ Waits → MovedBy ports port_entries k round ⊎ (waits_on ended.state ≡ true)
      back (inl moved) = inl (moved_by k round moved)
      back (inr waits) = inr (by_state waits (is_finished ended.state.lane (length ended.state.queue)) refl)

      pub port_exact : (NamesPort k part) ↔ (PortMovedIn k round ⊎ Waits)
      port_exact = (
        λ at. why (port_why (lanes_in of.at) of.real of.behind out k ended.state ended.there (real_name at)),
        λ moved. subst (NamesPort k) (sym of.told_is)
            (told_named k of.real (port_named (lanes_in of.at) of.real of.behind out k ended.state ended.there (back moved))),
      )

  -- OF ALL LINES
  pub port_settles : (lines : List (Event × List Entry)) → EachSettles disks nets image lines → PortSettles shape k lines
  port_settles lines each = record {
    ticks = λ before part behind so_far event rest is place of_tick.
        tick_needs before (told_by (Settle, part)) (each before part behind is) so_far event rest place of_tick;
    left = λ before part behind so_far rest is place.
        left_where before (told_by (Settle, part)) (each before part behind is) so_far rest place;
    rests = λ before part behind so_far rest is place.
        rests_where before (told_by (Settle, part)) (each before part behind is) so_far rest place;
  }
