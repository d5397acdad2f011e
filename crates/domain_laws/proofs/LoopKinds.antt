-- What an entry of a disk, and one of a port, does in a world, by which the loops over both kinds are made: and the tick that a call gives.
use Rattle.std.proofs.Common.{◌≡◌, ℕ, ◌+◌, Bool, true, false, Option, Some, List, [], ◌∷◌, length, slice_get, refl, sym, ap, ap₂, ◌∙◌, arith}
use Rattle.std.proofs.lemmas.Option.{slice_get_within}
use Rattle.std.specs.Prelude.{not}
use Rattle.lane_models.specs.WireEvent.{Idle, Reset}
use Rattle.disk_law.specs.ListState.{ImageState}
use Rattle.lane_models.specs.ClientState as client
use Rattle.lane_models.specs.DiskEvent.{CalmTick, Calms, DiskEvent, Off, OnWire, Switches}
use Rattle.lane_models.specs.LaneState.{LaneState}
use Rattle.lane_kinds.proofs.Moving.{lane_steps, same_lanes}
use Rattle.lane_kinds.proofs.WorldMade.{lane_gets, one_set}
use Rattle.lane_kinds.specs.LaneFronts.{BeginsTurn}
use Rattle.lane_kinds.specs.Lanes.{EntryOf, StepOf}
use Rattle.lane_kinds.specs.WorldMade.{KindRuns}
use Rattle.lane_laws.specs.CalmEnds.{IsStep}
use Rattle.ldc_queue.specs.declared.end.End.TheVariants.{A, B}
use Rattle.lane_models.specs.NetEndStep as net_step
use Rattle.lane_models.specs.NetEvent as net
use Rattle.lane_models.specs.NetEvent.{NetEvent, Steps, Ticked}
use Rattle.lane_models.specs.NetLaneStep as port_lane
use Rattle.lane_models.specs.PortState.{OnLane, PortState}
use Rattle.switch_laws.proofs.PortTurns.{silence}
use Rattle.switch_laws.specs.Events.{OnPort, SwitchEvent}
use Rattle.switch_laws.specs.Ports.{IsStepOf, ports}
use Rattle.switch_laws.specs.Ports as switch_ports
use Rattle.vio_tag.specs.declared.cause.Cause.TheVariants as the_cause
use Rattle.world_laws.proofs.Along.{lane_step}
use Rattle.world_laws.proofs.DiskLaws.{disk_silent, gives_nothing}
use Rattle.world_laws.proofs.LaneTicks.{gets_where, waits_where}
use Rattle.world_laws.specs.DiskKind.{IsTurn, disk_kind, is_silent, tick, waits_on}
use Rattle.world_laws.specs.Settle.{OfLane, OfPort}
use Rattle.world_laws.specs.Ticks.{gets_tick}
use Rattle.world_laws.specs.World.{LaneMoves, OneMoves, WorldState}
use Rattle.domain_laws.specs.Domain.{DomainState, DomainStep}
use Rattle.domain_laws.specs.Lines.{AnswersCall, AnswersPortCall, Ticks}
use Rattle.domain_laws.specs.RoundMade.{disks_in_world, ports_in_world}
use Rattle.domain_laws.specs.TicksMade.{DiskTicked, PortTicked, port_gets_tick}

abbrev domain_of : WorldState → List PortState → DomainState
domain_of first second = record { first = first; second = second }

same_domain : (w v : DomainState) → w.first ≡ v.first → w.second ≡ v.second → w ≡ v
same_domain w v first second = ap₂ domain_of first second

-- A DISK: its entry is one of its lane, and one that a settle leaves no entry of changes nothing
step_of : (w : WorldState) (k : ℕ) (event : DiskEvent) (v : WorldState) → OneMoves w k event v → StepOf disk_kind k w.lanes event v.lanes
step_of w k event v moves =
    lane_steps disk_kind gives_nothing k w.lanes moves.lane event moves.after v.lanes moves.there (lane_step moves.lane w.image event moves.after v.image moves.moves) moves.lanes

image_stays : (s : LaneState) (i : ImageState) (event : DiskEvent) (t : LaneState) (j : ImageState) → is_silent event ≡ true → LaneMoves s i event t j → i ≡ j
image_stays s i (OnWire (Idle e)) t j is moves = sym moves.1
image_stays s i (Switches Off) t j is moves = sym moves.1
image_stays s i _ t j is moves = absurd (cc is)

abbrev world_of : List LaneState → ImageState → WorldState
world_of lanes image = record { lanes = lanes; image = image }

disk_stays : (w : WorldState) (k : ℕ) (event : DiskEvent) (v : WorldState) → is_silent event ≡ true → OneMoves w k event v → w ≡ v
disk_stays w k event v is moves =
    ap₂ world_of (same_lanes disk_kind disk_silent 0 k w.lanes event v.lanes is (step_of w k event v moves).step)
    (image_stays moves.lane w.image event moves.after v.image is moves.moves)

disk_entry : (w : DomainState) (k : ℕ) (event : DiskEvent) (v : DomainState) → DomainStep w (OfLane k event) v → EntryOf disk_kind k w.first.lanes event v.first.lanes
disk_entry w k event v step = record {
  within = slice_get_within w.first.lanes k step.of_first.lane step.of_first.there;
  step = step_of w.first k event v.first step.of_first;
}

pub disk_runs : KindRuns disks_in_world
disk_runs = record {
  entry = disk_entry;
  stays = λ w k event v step. step.of_second;
  silent = λ w k event v is step. same_domain w v (disk_stays w.first k event v.first is step.of_first) (sym step.of_second);
  tick_gives = λ k s. refl;
  left = λ k w. record { of_first = refl; of_second = refl };
}

pub disk_turn : (one two : DiskEvent) → IsStep A one → IsStep B two → IsTurn (one ∷ two ∷ [])
disk_turn one two first second = (first, second)

pub disk_begins : (one : DiskEvent) → IsStep A one → BeginsTurn disk_kind (one ∷ [])
disk_begins one first = record { more = OnWire (Idle B) ∷ []; of_turn = (first, refl) }

-- A PORT
port_entry : (w : DomainState) (k : ℕ) (event : SwitchEvent) (v : DomainState) → DomainStep w (OfPort k event) v → EntryOf ports k w.second event v.second
port_entry w k event v step = step.of_second.entry

pub port_runs : KindRuns ports_in_world
port_runs = record {
  entry = port_entry;
  stays = λ w k event v step. step.of_first;
  silent = λ w k event v is step. same_domain w v (sym step.of_first) (same_lanes ports silence 0 k w.second event v.second is step.of_second.entry.step.step);
  tick_gives = λ k s. refl;
  left = λ k w. record { of_first = refl; of_second = refl };
}

pub port_turn : (one two : SwitchEvent) → IsStepOf A one → IsStepOf B two → switch_ports.IsTurn (one ∷ two ∷ [])
port_turn one two first second = (first, second)

pub port_begins : (one : SwitchEvent) → IsStepOf A one → BeginsTurn ports (one ∷ [])
port_begins one first = record { more = OnPort (OnLane (Steps B net_step.Idle)) ∷ []; of_turn = (first, refl) }

-- WHAT A CALL FOR A TICK GIVES a disk that gets one is the tick
never_both : (b : Bool) → b ≡ true → b ≡ false → ⊥
never_both b one two = let never : true ≡ false = sym one ∙ two in cc never

disk_is_tick : (w : WorldState) (k : ℕ) (event : DiskEvent) (v : WorldState) (moves : OneMoves w k event v) → AnswersCall Ticks event → client.is_finished moves.lane.client ≡ false → event ≡ tick
disk_is_tick w k (OnWire (Reset A the_cause.Tick packet lost)) v at answers unfinished =
    ap₂ (λ (p : Option (List ℕ)) (l : ℕ). OnWire (Reset A the_cause.Tick p l)) at.moves.0.1.0 at.moves.0.1.1
disk_is_tick w k (Calms CalmTick) v at answers unfinished = absurd (never_both (client.is_finished at.lane.client) at.moves.0.0 unfinished)
disk_is_tick w k _ v at answers unfinished = absurd answers

unfinished : (lane : LaneState) (had : Bool) → gets_tick lane had ≡ true → client.is_finished lane.client ≡ false
unfinished lane had gets = (waits_where (client.is_finished lane.client) lane.stopped (gets_where had (waits_on lane) gets).1).0

pub disk_gets : (k : ℕ) (had : Bool) (w : DomainState) (event : DiskEvent) (v : DomainState) (lane : LaneState) → slice_get w.first.lanes k ≡ Some lane → gets_tick lane had ≡ true
    → AnswersCall Ticks event → DomainStep w (OfLane k event) v → DiskTicked k had true w (OfLane k event ∷ []) v
disk_gets k had w event v lane there gets answers step =
    let again : Some lane ≡ Some step.of_first.lane = sym there ∙ step.of_first.there in
    let same : lane ≡ step.of_first.lane = cc again in
    lane_gets disks_in_world disk_runs k had w event v lane there gets
    (disk_is_tick w.first k event v.first step.of_first answers (ap (λ (x : LaneState). client.is_finished x.client) (sym same) ∙ unfinished lane had gets)) step

-- and a port
own_place : (k : ℕ) → k ≡ 0 + k
own_place k = omega (arith)

port_is_tick : (k : ℕ) (lanes : List PortState) (s : PortState) (event : SwitchEvent) (behind : List PortState) → slice_get lanes k ≡ Some s → EntryOf ports k lanes event behind
    → AnswersPortCall Ticks event → port_lane.is_finished s.lane (length s.queue) ≡ false → event ≡ switch_ports.tick s
port_is_tick k lanes s (OnPort (OnLane (Ticked queued lost))) behind there entry answers waits =
    let at = one_set ports 0 k k lanes s (OnPort (OnLane (Ticked queued lost))) behind (λ i. refl) (own_place k) there entry.step.step in
    ap₂ (λ (q l : ℕ). OnPort (OnLane (Ticked q l))) at.step.1.0 at.step.1.1.1.0
port_is_tick k lanes s (OnPort (OnLane (net.CalmTick queued))) behind there entry answers waits =
    let at = one_set ports 0 k k lanes s (OnPort (OnLane (net.CalmTick queued))) behind (λ i. refl) (own_place k) there entry.step.step in
    let finished : port_lane.is_finished s.lane queued ≡ true = at.step.1.1.0 in
    absurd (never_both (port_lane.is_finished s.lane (length s.queue)) (ap (port_lane.is_finished s.lane) (sym at.step.1.0) ∙ finished) waits)
port_is_tick k lanes s _ behind there entry answers waits = absurd answers

not_true : (b : Bool) → not b ≡ true → b ≡ false
not_true true is = absurd (cc is)
not_true false is = refl

pub port_gets : (k : ℕ) (had : Bool) (w : DomainState) (event : SwitchEvent) (v : DomainState) (lane : PortState) → slice_get w.second k ≡ Some lane → port_gets_tick lane had ≡ true
    → AnswersPortCall Ticks event → DomainStep w (OfPort k event) v → PortTicked k had true w (OfPort k event ∷ []) v
port_gets k had w event v lane there gets answers step =
    lane_gets ports_in_world port_runs k had w event v lane there gets
    (port_is_tick k w.second lane event v.second there step.of_second.entry answers
    (not_true (port_lane.is_finished lane.lane (length lane.queue)) (gets_where had (switch_ports.waits_on lane) gets).1)) step
