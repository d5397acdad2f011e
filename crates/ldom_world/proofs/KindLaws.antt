-- What a settle goes by, of a kind of lanes: that of disks, and that of ports.
use Rattle.std.proofs.Common.{◌≡◌, ℕ, Bool, true, false, Some, List, [], ◌∷◌, slice_get, refl, sym, subst}
use Rattle.runs.specs.Run.{Run}
use Rattle.recorded_lanes.proofs.world_parts.domain_laws.LoopKinds.{disk_begins, disk_gets, disk_runs, disk_turn, port_begins, port_gets, port_runs, port_turn}
use Rattle.recorded_lanes.specs.world_parts.lane_models.DiskEvent.{CalmTick, Calms}
use Rattle.recorded_lanes.specs.world_parts.lane_models.LaneState.{LaneState}
use Rattle.recorded_lanes.specs.world_parts.domain_laws.Domain.{DomainState, DomainStep}
use Rattle.recorded_lanes.specs.world_parts.domain_laws.Lines.{AnswersCall, AnswersOn, AnswersPortCall, Calls, OneEntry, OnePortEntry, Ticks}
use Rattle.recorded_lanes.specs.world_parts.port_laws.NetEndState.{unseen}
use Rattle.recorded_lanes.specs.world_parts.lane_models.NetEvent.{CalmTick as CalmPortTick, Ticked}
use Rattle.recorded_lanes.specs.world_parts.lane_models.PortState.{PortState}
use Rattle.recorded_lanes.specs.world_parts.world_laws.DiskKind.{tick}
use Rattle.recorded_lanes.specs.world_parts.world_laws.Settle.{OfLane, OfPort, SettleEntry}
use Rattle.recorded_lanes.specs.world_parts.WorldEvents.{calm_event, if_so, is_lane, left_over, of_net, told_of}
use Rattle.recorded_lanes.specs.world_parts.WorldKinds.{in_world, of_kind}
use Rattle.domain_script.specs.LaneKinds.{disk_of, lane_at, port_of}
use Rattle.domain_script.specs.declared.fields.LaneKind.{LaneKind}
use Rattle.domain_script.specs.declared.fields.LaneKind.TheVariants as kinds
use Rattle.lane_kinds.specs.LaneFronts.{BeginsTurn}
use Rattle.lane_kinds.specs.Lanes.{gets_tick}
use Rattle.lane_kinds.specs.WorldMade.{KindRuns}
use Rattle.ldc_queue.specs.declared.end.End.TheVariants.{A, B}
use Rattle.ldom_entries.specs.declared.entry.Who.{Who}
use Rattle.ldom_entries.specs.declared.entry.Who.TheVariants.{Lane as OfWhole, End as OfEnd}
use Rattle.ldom_world.specs.SettleParts.{OneTicked}

-- OF A KIND: an entry of it runs its lanes, and two steps are a turn; an answer that nothing changed says no tick of a
-- settle, and a call for a tick that gives one is that; and what the name of a lane says that is left over
pub record KindLaws (kind : LaneKind) : Type 0 where
  pub runs : KindRuns (in_world kind)
  -- what a step of the world is to the kind
  pub steps : (w : DomainState) (x : SettleEntry) (v : DomainState) → DomainStep w x v → (in_world kind).Step w x v
  pub turn : (one two : (in_world kind).Event) → (in_world kind).IsStep A one → (in_world kind).IsStep B two
      → (in_world kind).kind.IsTurn (one ∷ two ∷ [])
  pub begins : (one : (in_world kind).Event) → (in_world kind).IsStep A one → BeginsTurn (in_world kind).kind (one ∷ [])
  pub calm_is_none : (k : ℕ) (s : (in_world kind).Lane) (who : Who)
      → calm_event (Calls (of_kind kind k) Ticks) who ≡ Some (told_of ((in_world kind).entries.of_lane k ((in_world kind).kind.tick s))) → ⊥
  pub ticked : (k : ℕ) (had : Bool) (w v : DomainState) (s : (in_world kind).Lane) (entries : List SettleEntry)
      → slice_get ((in_world kind).lanes w) k ≡ Some s → gets_tick (in_world kind).kind s had ≡ true
      → AnswersOn (of_kind kind k) Ticks entries → Run DomainStep w entries v → OneTicked kind k had true w v entries
  pub left : (k : ℕ) (s : (in_world kind).Lane) → left_over (lane_at kind k) ≡ Some (told_of ((in_world kind).entries.left_over k))

never_so : (b : Bool) (x y : SettleEntry) → (x ≡ y → ⊥) → if_so b x ≡ Some y → ⊥
never_so true x y other is = other (cc is)
never_so false x y other is = cc is

run_of_one : (w v : DomainState) (x : SettleEntry) (entries : List SettleEntry) → entries ≡ x ∷ []
    → Run DomainStep w entries v → DomainStep w x v
run_of_one w v x entries is run =
    let one : Run DomainStep w (x ∷ []) v = subst (λ (l : List SettleEntry). Run DomainStep w l v) is run in
    subst (λ (u : DomainState). DomainStep w x u) one.2 one.1

-- of disks
disk_calm : (k : ℕ) (s : LaneState) (who : Who) → calm_event (Calls (of_kind kinds.Disk k) Ticks) who ≡ Some (told_of (OfLane k tick)) → ⊥
disk_calm k s (OfWhole lane) is = never_so (is_lane k (disk_of lane)) (OfLane k (Calms CalmTick)) (OfLane k tick) (λ same. cc same) is
disk_calm k s (OfEnd name) is = cc is

disk_ticked : (k : ℕ) (had : Bool) (w v : DomainState) (s : LaneState) (entries : List SettleEntry)
    → slice_get ((in_world kinds.Disk).lanes w) k ≡ Some s → gets_tick (in_world kinds.Disk).kind s had ≡ true
    → OneEntry k (AnswersCall Ticks) entries → Run DomainStep w entries v → OneTicked kinds.Disk k had true w v entries
disk_ticked k had w v s entries there gets one run =
    subst (λ (l : List SettleEntry). OneTicked kinds.Disk k had true w v l) (sym one.is)
    (disk_gets k had w one.event v s there gets one.answers (run_of_one w v (OfLane k one.event) entries one.is run))

-- of ports
port_calm : (k : ℕ) (s : PortState) (who : Who)
    → calm_event (Calls (of_kind kinds.Port k) Ticks) who ≡ Some (of_net k (Ticked 0 (unseen s.lane.guest.session))) → ⊥
port_calm k s (OfWhole lane) is =
    never_so (is_lane k (port_of lane)) (of_net k (CalmPortTick 0)) (of_net k (Ticked 0 (unseen s.lane.guest.session))) (λ same. cc same) is
port_calm k s (OfEnd name) is = cc is

port_ticked : (k : ℕ) (had : Bool) (w v : DomainState) (s : PortState) (entries : List SettleEntry)
    → slice_get ((in_world kinds.Port).lanes w) k ≡ Some s → gets_tick (in_world kinds.Port).kind s had ≡ true
    → OnePortEntry k (AnswersPortCall Ticks) entries → Run DomainStep w entries v → OneTicked kinds.Port k had true w v entries
port_ticked k had w v s entries there gets one run =
    subst (λ (l : List SettleEntry). OneTicked kinds.Port k had true w v l) (sym one.is)
    (port_gets k had w one.event v s there gets one.answers (run_of_one w v (OfPort k one.event) entries one.is run))

pub disk_laws : KindLaws kinds.Disk
disk_laws = record {
  runs = disk_runs;
  steps = λ w x v step. step;
  turn = disk_turn;
  begins = disk_begins;
  calm_is_none = disk_calm;
  ticked = disk_ticked;
  left = λ k s. refl;
}

pub port_laws : KindLaws kinds.Port
port_laws = record {
  runs = port_runs;
  steps = λ w x v step. step;
  turn = port_turn;
  begins = port_begins;
  calm_is_none = port_calm;
  ticked = port_ticked;
  left = λ k s. refl;
}
