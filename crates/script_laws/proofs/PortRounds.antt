-- Each tick of a port in the part of a settle comes behind a round in which all were quiet, and so does its answer.
use Rattle.std.proofs.Common.{◌≡◌, ◌⊎◌, inl, inr, ℕ, suc, ◌+◌, Bool, true, false, List, [], ◌∷◌, ◌++◌, slice_get, Some, refl, sym, ap, ◌∙◌, subst, arith, append_assoc, append-nil}
use Rattle.std.proofs.lemmas.Option.{slice_get_within}
use Rattle.std.specs.Prelude.{⊤}
use Rattle.runs.specs.Run.{Run, run_append}
use Rattle.ldc_queue.specs.declared.end.End.{End}
use Rattle.lane_kinds.proofs.Both.{second_ends, second_leads}
use Rattle.lane_kinds.proofs.BothFronts.{lanes_skip_fronts, second_fronts_lead}
use Rattle.lane_kinds.proofs.EntriesEach.{first_each}
use Rattle.lane_kinds.proofs.EntryRuns.{names_each, round_each}
use Rattle.lane_kinds.proofs.LaneFronts.{fronts_lead, of_both, of_same, ticked_each, ticks_each}
use Rattle.lane_kinds.proofs.Lanes.{round_calmly}
use Rattle.lane_kinds.proofs.Leading as kind
use Rattle.lane_kinds.proofs.Moving.{happened_both, lane_moved, lanes_end, lanes_lead, lanes_skip, many_moved}
use Rattle.lane_kinds.proofs.Places.{get_within}
use Rattle.lane_kinds.proofs.Sums.{and_right}
use Rattle.lane_kinds.specs.Both.{AllRound as OneRound, AllTicks, FrontBehind, FrontOfFirst, OnSecond, Skips, Two}
use Rattle.lane_kinds.specs.Fronts.{SettleFront}
use Rattle.lane_kinds.specs.LaneFronts.{RoundFront, TickFront, fronts_of}
use Rattle.lane_kinds.specs.Lanes.{AllMove, CalmTurn, Calmly, are_still}
use Rattle.lane_kinds.specs.Laws.{AnswersLead, FrontsLead, FrontsLeadWhere, KeepsStanding, Leads, LeadsWhere}
use Rattle.lane_kinds.specs.Settles.{GoesOn, SettlePart, Settles, begin, entries_of_rounds}
use Rattle.world_parts.specs.lane_models.NetEvent.{Ticked}
use Rattle.world_parts.specs.lane_models.PortState.{OnLane, PortState}
use Rattle.world_parts.proofs.switch_laws.PortTurns.{calm_gives, silence}
use Rattle.world_parts.specs.switch_laws.Events.{OnPort, SwitchEvent, SwitchStep}
use Rattle.world_parts.specs.switch_laws.Ports.{IsStepOf, ports}
use Rattle.world_parts.proofs.world_laws.DiskLaws as disk_laws
use Rattle.world_parts.specs.world_laws.Begun.{fronts as disk_fronts}
use Rattle.world_parts.specs.world_laws.DiskKind.{disk_kind}
use Rattle.world_parts.specs.world_laws.Rounds.{LaneRound}
use Rattle.world_parts.specs.world_laws.Settle.{OfPort, SettleEntry, Settled, disk_entries, disks}
use Rattle.world_parts.proofs.domain_laws.LineEntries.{AllRound, AllSettling, EachEntry, StepsHave, disks_begun, disks_each, each_in, ports_begun, ports_each}
use Rattle.world_parts.proofs.domain_laws.Running.{port_reads}
use Rattle.world_parts.specs.domain_laws.Along.{port_happened, port_said}
use Rattle.world_parts.specs.domain_laws.Domain.{Lanes, lanes, port_entries, switch}
use Rattle.world_parts.specs.domain_laws.Lines.{fronts}
use Rattle.script_laws.proofs.CalmRounds.{calm_entries}
use Rattle.script_laws.proofs.Places.{InEither, no_place, place_in}
use Rattle.script_laws.proofs.PortStill.{IsCalmOfPorts, IsTickOfPorts, QuietAt}
use Rattle.script_laws.specs.PortSettles.{is_port_tick}

-- EACH PORT is led by the whole part
abbrev pub PortsMove : List PortState → List SettleEntry → List PortState → Type 0
PortsMove = AllMove SwitchStep port_said 0

own_leads : Leads switch PortsMove
own_leads = lanes_lead ports port_entries port_said port_reads silence

skips : Skips disks PortsMove
skips = lanes_skip SwitchStep port_said disk_kind disk_entries (λ j k event. refl) (λ j k. refl)

ports_lead : Leads lanes (OnSecond PortsMove)
ports_lead = second_leads disks switch PortsMove own_leads skips

ports_end : AnswersLead lanes (OnSecond PortsMove)
ports_end = second_ends disks switch PortsMove own_leads skips (lanes_end ports port_entries port_said port_reads silence) refl

ports_begin : FrontsLead lanes fronts (OnSecond PortsMove)
ports_begin =
    second_fronts_lead disks switch disk_fronts (fronts_of ports port_entries) PortsMove own_leads
    (fronts_lead ports port_entries port_said port_reads silence) skips
    (lanes_skip_fronts disk_kind disk_entries disk_laws.turn_steps SwitchStep port_said (λ j k event. refl))

pub rounds_move_ports : (w : AllSettling) (rounds : List AllRound) (v : AllSettling) → Run (GoesOn lanes) w rounds v
    → PortsMove w.lanes.second (entries_of_rounds rounds) v.lanes.second
rounds_move_ports w rounds v run = kind.rounds_lead lanes (OnSecond PortsMove) ports_lead w rounds v run

pub part_moves_ports : (start : Lanes) (part : List SettleEntry) (behind : Lanes) → SettlePart lanes start part behind
    → PortsMove start.second part behind.second
part_moves_ports start part behind settle = kind.part_leads lanes (OnSecond PortsMove) ports_lead ports_end start part behind settle

pub names_move_ports : (r : Two (List LaneRound) (List (List SwitchEvent))) (w : Lanes) (part more : List SettleEntry)
    → part ++ more ≡ lanes.names r w → PortsMove w.second part w.second
names_move_ports r w part more is = ports_end.names r w part more is

-- one of them, where it was led
pub record PortMoved (k : ℕ) (part : List SettleEntry) (s : PortState) (behind : List PortState) : Type 0 where
  pub state : PortState
  pub there : slice_get behind k ≡ Some state
  pub run : Run SwitchStep s (port_happened k part) state

pub port_moved_to : (start : List PortState) (part : List SettleEntry) (behind : List PortState) (k : ℕ) (s : PortState)
    → PortsMove start part behind → slice_get start k ≡ Some s → PortMoved k part s behind
port_moved_to start part behind k s moves there =
    let many = many_moved SwitchStep port_said 0 start part behind moves in
    let state = get_within behind k (omega (arith, slice_get_within start k s there, many)) in
    record {
      state = state.0;
      there = state.1;
      run = lane_moved SwitchStep port_said 0 k k start part behind s state.0 (own k) moves there state.1;
    }
  where
    own : (k : ℕ) → k ≡ 0 + k
    own k = omega (arith)

-- NO STEP is a tick of a port
abbrev NoTick : SettleEntry → Type 0
NoTick (OfPort k event) = is_port_tick event ≡ false
NoTick _ = ⊤

step_none : (k : ℕ) (e : End) (event : SwitchEvent) → IsStepOf e event → NoTick (OfPort k event)
step_none k e (OnPort (OnLane (Ticked queued lost))) own = absurd own
step_none k e _ own = refl

tick_steps : StepsHave NoTick
tick_steps = grind arith

-- THE TICKS of ports in a part, each behind a quiet round
abbrev pub TicksBehindQuiet : List PortState → List SettleEntry → Type 0
TicksBehindQuiet start part =
    (k : ℕ) (event : SwitchEvent) (so_far rest : List SettleEntry) (s : PortState) → is_port_tick event ≡ true
    → part ≡ so_far ++ OfPort k event ∷ rest → slice_get start k ≡ Some s → QuietAt k so_far s

none_stand : (start : List PortState) (part : List SettleEntry) → EachEntry NoTick part → TicksBehindQuiet start part
none_stand start part none k event so_far rest s is place there = grind (arith, each_in)

-- one stretch behind another
further : (k : ℕ) (one later so_far : List SettleEntry) (s m : PortState) → so_far ≡ one ++ later → Run SwitchStep s (port_happened k one) m
    → QuietAt k later m → QuietAt k so_far s
further k one later so_far s m is moved at = record {
  past = one ++ at.past;
  round = at.round;
  ticks = at.ticks;
  is = is ∙ ap (λ (l : List SettleEntry). one ++ l) at.is ∙ sym (append_assoc one at.past (at.round ++ at.ticks));
  before = at.before;
  led = subst (λ (l : List SwitchEvent). Run SwitchStep s l at.before) (sym (happened_both port_said k one at.past))
      (run_append SwitchStep s m at.before (port_happened k one) (port_happened k at.past) moved at.led);
  turn = at.turn;
  behind = at.behind;
  made = at.made;
  calm = at.calm;
  are_ticks = at.are_ticks;
}

two_at : (start : List PortState) (one : List SettleEntry) (between : List PortState) (two : List SettleEntry)
    → PortsMove start one between → TicksBehindQuiet start one → TicksBehindQuiet between two
    → (k : ℕ) (event : SwitchEvent) (so_far rest : List SettleEntry) (s : PortState) → is_port_tick event ≡ true
    → slice_get start k ≡ Some s → InEither one two so_far (OfPort k event) rest → QuietAt k so_far s
two_at start one between two moves first second k event so_far rest s is there (inl at) =
    first k event so_far at.rest s is at.is there
two_at start one between two moves first second k event so_far rest s is there (inr at) =
    let m : PortMoved k one s between = port_moved_to start one between k s moves there in
    further k one at.later so_far s m.state at.before_is m.run (second k event at.later rest m.state is at.is m.there)

two_stand : (start : List PortState) (one : List SettleEntry) (between : List PortState) (two : List SettleEntry)
    → PortsMove start one between → TicksBehindQuiet start one → TicksBehindQuiet between two → TicksBehindQuiet start (one ++ two)
two_stand start one between two moves first second k event so_far rest s is place there =
    two_at start one between two moves first second k event so_far rest s is there
    (place_in one two so_far (OfPort k event) rest place)

-- A QUIET ROUND of the port
record CalmAt (k : ℕ) (s : PortState) : Type 0 where
  turn : List SwitchEvent
  behind : PortState
  made : CalmTurn ports s turn behind

calm_at : (start : List PortState) (turns : List (List SwitchEvent)) (behind : List PortState) (k : ℕ) (s : PortState)
    → Calmly ports start turns behind → slice_get start k ≡ Some s → CalmAt k s
calm_at (x ∷ start) (r ∷ turns) (t ∷ behind) (suc k) s calm there = grind (arith, calm_at start turns behind k s calm.1 there)
calm_at start turns behind k s calm there = grind arith

abbrev AllSteps : Type 0
AllSteps = Two (List LaneRound) (List (List SwitchEvent))

calm_leaves : (r : AllSteps) → lanes.quiet r ≡ true → EachEntry IsCalmOfPorts (lanes.leaves r)
calm_leaves r quiet =
    of_both IsCalmOfPorts (disks.leaves r.first) (switch.leaves r.second) (round_each disk_kind disk_entries IsCalmOfPorts (λ k event. tt) 0 r.first)
    (calm_entries ports port_entries IsCalmOfPorts (λ k event calm. calm) 0 r.second (and_right (disks.quiet r.first) (switch.quiet r.second) quiet))

quiet_behind : (w : Lanes) (r : AllSteps) (v : Lanes) (ticks : List SettleEntry) → lanes.Makes w r v → lanes.quiet r ≡ true → EachEntry IsTickOfPorts ticks
    → (k : ℕ) (s : PortState) → slice_get w.second k ≡ Some s → QuietAt k (lanes.leaves r ++ ticks) s
quiet_behind w r v ticks made quiet are k s there =
    let still : are_still ports r.second ≡ true = and_right (disks.quiet r.first) (switch.quiet r.second) quiet in
    let at : CalmAt k s = calm_at w.second r.second v.second k s (round_calmly ports calm_gives w.second r.second v.second still made.of_second) there in
    record {
      past = [];
      round = lanes.leaves r;
      ticks = ticks;
      is = refl;
      before = s;
      led = refl;
      turn = at.turn;
      behind = at.behind;
      made = at.made;
      calm = calm_leaves r quiet;
      are_ticks = are;
    }

-- with ticks behind it
round_none : (w : Lanes) (r : AllSteps) (v : Lanes) → lanes.Makes w r v → EachEntry NoTick (lanes.leaves r)
round_none w r v made = grind (arith, of_both, disks_each, tick_steps, ports_each)

quiet_at : (w : Lanes) (r : AllSteps) (v : Lanes) (later : List SettleEntry) → lanes.Makes w r v → lanes.quiet r ≡ true → EachEntry IsTickOfPorts later
    → (k : ℕ) (event : SwitchEvent) (so_far rest : List SettleEntry) (s : PortState) → is_port_tick event ≡ true
    → slice_get w.second k ≡ Some s → InEither (lanes.leaves r) later so_far (OfPort k event) rest → QuietAt k so_far s
quiet_at w r v later made quiet are k event so_far rest s is there (inl at) =
    none_stand w.second (lanes.leaves r) (round_none w r v made) k event so_far at.rest s is at.is there
quiet_at w r v later made quiet are k event so_far rest s is there (inr at) =
    subst (λ (l : List SettleEntry). QuietAt k l s) (sym at.before_is)
    (quiet_behind w r v at.later made quiet
    (first_each IsTickOfPorts at.later (OfPort k event ∷ rest) (of_same IsTickOfPorts (at.later ++ OfPort k event ∷ rest) later (sym at.is) are)) k s there)

quiet_stand : (w : Lanes) (r : AllSteps) (v : Lanes) (later : List SettleEntry) → lanes.Makes w r v → lanes.quiet r ≡ true → EachEntry IsTickOfPorts later
    → TicksBehindQuiet w.second (lanes.leaves r ++ later)
quiet_stand w r v later made quiet are k event so_far rest s is place there =
    quiet_at w r v later made quiet are k event so_far rest s is there (place_in (lanes.leaves r) later so_far (OfPort k event) rest place)

-- A STRETCH of a settle
record Stretch (w : Lanes) (part : List SettleEntry) (v : Lanes) : Type 0 where
  moves : PortsMove w.second part v.second
  stand : TicksBehindQuiet w.second part

abbrev Any : Lanes → Two (List Bool) (List Bool) → Type 0
Any w m = ⊤

keeps : KeepsStanding lanes Any
keeps = record { round = λ w m r v at made. tt; ticks = λ w m r v u at made quiet ticks. tt }

all_are_ticks : (w : Lanes) (m : Two (List Bool) (List Bool)) → EachEntry IsTickOfPorts (lanes.ticks_leave w m)
all_are_ticks w m =
    of_both IsTickOfPorts (disks.ticks_leave w.first m.first) (switch.ticks_leave w.second m.second)
    (ticks_each IsTickOfPorts disk_kind disk_entries (λ k s. tt) 0 w.first m.first)
    (ticks_each IsTickOfPorts ports port_entries (λ k s. refl) 0 w.second m.second)

stretches : LeadsWhere lanes Any Stretch
stretches = record {
  keeps = keeps;
  none = λ w. record { moves = ports_lead.none w; stand = none_stand w.second [] tt };
  both = λ w m v one two first second. grind (arith, ports_lead, two_stand);
  round = λ w m r v at made. record {
    moves = ports_lead.round w r v made;
    stand = none_stand w.second (lanes.leaves r) (round_none w r v made);
  };
  ticks = λ w m r v u at made quiet ticks. grind (arith, ports_lead, quiet_stand, all_are_ticks);
}

-- the answer, and names
named_none : (r : AllSteps) (w : Lanes) (part more : List SettleEntry) → part ++ more ≡ lanes.names r w → EachEntry NoTick part
named_none r w part more is =
    first_each NoTick part more
    (of_same NoTick (part ++ more) (lanes.names r w) is
    (of_both NoTick (disks.names r.first w.first) (switch.names r.second w.second)
    (names_each disk_kind disk_entries NoTick (λ k. tt) 0 r.first w.first) (names_each ports port_entries NoTick (λ k. tt) 0 r.second w.second)))

stretch_ends : AnswersLead lanes Stretch
stretch_ends = record {
  answer = λ w. record { moves = ports_end.answer w; stand = none_stand w.second (Settled ∷ []) (tt, tt) };
  names = λ r w part more is. record {
    moves = ports_end.names r w part more is;
    stand = none_stand w.second part (named_none r w part more is);
  };
}

-- A FRONT
round_front_none : (w : Lanes) (part : List SettleEntry) (v : Lanes)
    → FrontOfFirst (RoundFront disk_kind disk_entries) w part v ⊎ FrontBehind (OneRound disks) (RoundFront ports port_entries) w part v
    → EachEntry NoTick part
round_front_none w part v (inl at) = disks_begun NoTick tick_steps w.first part v.first at.front
round_front_none w part v (inr at) =
    of_same NoTick part (at.before ++ at.later) at.is
    (of_both NoTick at.before at.later
    (of_same NoTick at.before (disks.leaves at.all.steps) at.all.is (disks_each NoTick tick_steps w.first at.all.steps v.first at.all.made))
    (ports_begun NoTick tick_steps w.second at.later v.second at.front))

front_are_ticks : (w : Lanes) (m : Two (List Bool) (List Bool)) (part : List SettleEntry) (v : Lanes)
    → FrontOfFirst (λ x. TickFront disk_kind disk_entries 0 x m.first) w part v
    ⊎ FrontBehind (AllTicks disks m.first) (λ x. TickFront ports port_entries 0 x m.second) w part v
    → EachEntry IsTickOfPorts part
front_are_ticks w m part v (inl at) =
    ticked_each IsTickOfPorts disk_kind disk_entries (λ k s. tt) 0 w.first m.first part v.first at.front
front_are_ticks w m part v (inr at) =
    of_same IsTickOfPorts part (at.before ++ at.later) at.is
    (of_both IsTickOfPorts at.before at.later
    (of_same IsTickOfPorts at.before (disks.ticks_leave w.first m.first) at.all.is
    (ticks_each IsTickOfPorts disk_kind disk_entries (λ k s. tt) 0 w.first m.first))
    (ticked_each IsTickOfPorts ports port_entries (λ k s. refl) 0 w.second m.second at.later v.second at.front))

front_stretches : FrontsLeadWhere lanes fronts Any Stretch
front_stretches = record {
  round = λ w m part v at front. record {
    moves = ports_begin.round w part v front;
    stand = none_stand w.second part (round_front_none w part v front);
  };
  ticks = λ w m r v part u at made quiet front. record {
    moves = ports_lead.both w v u (lanes.leaves r) part (ports_lead.round w r v made) (ports_begin.ticks v m part u front);
    stand = quiet_stand w r v part made quiet (front_are_ticks v m part u front);
  };
}

pub ticks_behind_quiet : (start : Lanes) (part : List SettleEntry) (behind : Lanes)
    → SettlePart lanes start part behind ⊎ SettleFront lanes fronts start part behind → TicksBehindQuiet start.second part
ticks_behind_quiet start part behind (inl settle) =
    (kind.part_stands lanes Any Stretch stretches stretch_ends start part behind tt settle).stand
ticks_behind_quiet start part behind (inr at) =
    (kind.front_stands lanes Any Stretch stretches fronts front_stretches stretch_ends start part behind tt at).stand

-- AT ITS ANSWER too, where none had a tick behind the round
pub record AnswerAt (k : ℕ) (so_far : List SettleEntry) (s : PortState) : Type 0 where
  pub quiet : QuietAt k so_far s
  pub no_ticks : quiet.ticks ≡ []

before_answer : (one two : List SettleEntry) → one ++ Settled ∷ [] ≡ two ++ Settled ∷ [] → two ≡ one
before_answer [] [] same = refl
before_answer [] (y ∷ two) same = grind (arith, no_place)
before_answer (x ∷ one) [] same = grind (arith, no_place)
before_answer (x ∷ one) (y ∷ two) same = grind (arith, before_answer one two)

pub answer_behind_quiet : (start : Lanes) (part : List SettleEntry) (behind : Lanes) → Settles lanes start part behind
    → (so_far : List SettleEntry) → part ≡ so_far ++ Settled ∷ [] → (k : ℕ) (s : PortState) → slice_get start.second k ≡ Some s
    → AnswerAt k so_far s
answer_behind_quiet start part behind at so_far is k s there =
    let rounds : List SettleEntry = entries_of_rounds at.rounds in
    let last : List SettleEntry = lanes.leaves at.steps in
    let now = at.now.lanes.second in
    let turns = at.steps.second in
    let m : PortMoved k rounds s now =
    port_moved_to start.second rounds now k s (rounds_move_ports (begin lanes start) at.rounds at.now at.run) there in
    let still : are_still ports turns ≡ true = and_right (disks.quiet at.steps.first) (switch.quiet turns) at.last.quiet in
    let calm : CalmAt k m.state =
    calm_at now turns behind.second k m.state (round_calmly ports calm_gives now turns behind.second still at.last.made.of_second)
    m.there in
    let split : (rounds ++ last) ++ Settled ∷ [] ≡ so_far ++ Settled ∷ [] = sym at.is ∙ is in
    record {
      quiet = record {
        past = rounds;
        round = last;
        ticks = [];
        is = before_answer (rounds ++ last) so_far split ∙ ap (λ (l : List SettleEntry). rounds ++ l) (sym (append-nil last));
        before = m.state;
        led = m.run;
        turn = calm.turn;
        behind = calm.behind;
        made = calm.made;
        calm = calm_leaves at.steps at.last.quiet;
        are_ticks = tt;
      };
      no_ticks = refl;
    }
