-- A world whose disks, or whose ports, made one event: what it did there, it did to the world, and the others stay.
use Rattle.std.proofs.Common.{◌≡◌, ℕ, ◌+◌, ◌≤◌, ◌<◌, Bool, List, [], ◌∷◌, length, Result, Ok, Err, refl, sym, ap, subst, ◌∙◌, arith, length-append}
use Rattle.std.specs.Prelude.{IfOk, OnErr, OnOk}
use Rattle.recorded_lanes.specs.world_parts.lane_models.DiskEvent.{DiskEvent}
use Rattle.recorded_lanes.specs.world_parts.switch_laws.Events.{SwitchEvent}
use Rattle.recorded_lanes.specs.world_parts.world_laws.Settle.{OfLane, OfPort, SettleEntry}
use Rattle.recorded_lanes.specs.world_parts.world_laws.World.{WorldState, WorldStep}
use Rattle.recorded_lanes.specs.world_parts.world_laws.Issued.{issued_on}
use Rattle.recorded_lanes.specs.world_parts.domain_laws.Domain.{DomainState, DomainStep, PortsStep, lanes_in}
use Rattle.recorded_lanes.specs.world_parts.domain_laws.Lines.{BeginsPart, Line, Nothing, PartOf}
use Rattle.recorded_lanes.specs.world_parts.lane_models.PortState.{PortState}
use Rattle.ldom_entries.specs.declared.entry.Entry.{Entry}
use Rattle.recorded_lanes.specs.ldom_report.Report.{accepted_count}
use Rattle.recorded_lanes.proofs.switched_ports.Entries.{below_later}
use Rattle.recorded_lanes.specs.switched_ports.Given.{GivenBelow}
use Rattle.recorded_lanes.proofs.Adding.{none_adds}
use Rattle.recorded_lanes.specs.Steps.{Counted, MakesAnswer, MakesQuietStep, MakesStep, moment}
use Rattle.recorded_lanes.specs.world_parts.WorldKinds.{entry_at, in_world}
use Rattle.domain_script.specs.declared.fields.LaneKind.{LaneKind}
use Rattle.domain_script.specs.LaneKinds.{lane_at}
use Rattle.ldc_queue.specs.declared.end.End.{End}
use Rattle.ldom_world.specs.TurnsMade.{SameNumbers}
use Rattle.recorded_lanes.specs.world_parts.Parts.{Adds, Fits, FitsSoFar}

abbrev pub both : WorldState → List PortState → DomainState
both disks ports = record { first = disks; second = ports }

-- HOW A JOURNAL GREW by what it adds
pub adds_grow : (line : Line) (old new : List Entry) (entries : List SettleEntry) → Adds line old new entries
    → length old + 1 ≤ length new + 1
adds_grow line old new entries adds =
    omega (arith, ap (λ (l : List Entry). length l) adds.grew, length-append old adds.part)

pub same_grows : (old new : List Entry) → new ≡ old → length old + 1 ≤ length new + 1
same_grows old new same = omega (arith, ap (λ (l : List Entry). length l) same)

-- one kind made an event, by which the world goes from one state to another
module _ {W : Type 0} (kind : LaneKind) (KindStep : W → SettleEntry → W → Type 0) (state : W → DomainState)
    (lift : (d : W) (k : ℕ) (event : (in_world kind).Event) (e : W) → KindStep d (entry_at (lane_at kind k) event) e
    → DomainStep (state d) (entry_at (lane_at kind k) event) (state e))
    (d : W) (w : DomainState) (is : state d ≡ w) where
  moves_at : (k : ℕ) (event : (in_world kind).Event) (e : W) → KindStep d (entry_at (lane_at kind k) event) e
      → DomainStep w (entry_at (lane_at kind k) event) (state e)
  moves_at k event e moves =
      subst (λ (x : DomainState). DomainStep x (entry_at (lane_at kind k) event) (state e)) is (lift d k event e moves)

  pub same_at : (e : W) (old new : List Entry) → (e ≡ d) × (new ≡ old) → (state e ≡ w) × (new ≡ old)
  same_at e old new same = (ap state same.0 ∙ is, same.1)

  -- A STEP
  pub step_at : (side : End) (k : ℕ) (e : W) (old new : List Entry)
      → MakesStep KindStep (lane_at kind k) side (moment d old) (moment e new)
      → MakesStep DomainStep (lane_at kind k) side (moment w old) (moment (state e) new)
  step_at side k e old new made = record {
    event = made.event;
    of_end = made.of_end;
    moves = moves_at k made.event e made.moves;
    adds = made.adds;
  }

  pub quiet_step_at : (side : End) (k : ℕ) (e : W) (old new : List Entry) (calm : Bool)
      → MakesQuietStep KindStep (lane_at kind k) side (moment d old) calm (moment e new)
      → MakesQuietStep DomainStep (lane_at kind k) side (moment w old) calm (moment (state e) new)
  quiet_step_at side k e old new calm made = record {
    event = made.event;
    of_end = made.of_end;
    moves = moves_at k made.event e made.moves;
    calm_is = made.calm_is;
    adds = made.adds;
  }

  -- WHAT A LINE ASKED of one lane: it fits, or nothing was done
  module _ (line : Line) (k : ℕ) (Answers : (in_world kind).Event → Type 0) (e : W) (old new : List Entry) where
    pub answer_fits : ((event : (in_world kind).Event) → Answers event
        → PartOf line (lanes_in w) (entry_at (lane_at kind k) event ∷ []) (lanes_in (state e)))
        → MakesAnswer KindStep (lane_at kind k) line Answers (moment d old) (moment e new) → Fits w line old new (state e)
    answer_fits as_part made = record {
      entries = entry_at (lane_at kind k) made.event ∷ [];
      adds = made.adds;
      moves = record {
        part_of = as_part made.event made.answers;
        run = (state e, moves_at k made.event e made.moves, refl);
      };
    }

    pub nothing_begun : BeginsPart line (lanes_in w) [] (lanes_in (state e)) → (e ≡ d) × (new ≡ old)
        → FitsSoFar w line old new (state e)
    nothing_begun begins same = record {
      entries = [];
      adds = none_adds line old new same.1;
      begins = record { begins = begins; run = sym (ap state same.0 ∙ is) };
    }

-- EACH KIND in a world: the disks beside these ports, and the ports beside these disks
pub lift_disks : (ports : List PortState) (d : WorldState) (k : ℕ) (event : DiskEvent) (e : WorldState)
    → WorldStep d (OfLane k event) e → DomainStep (both d ports) (OfLane k event) (both e ports)
lift_disks ports d k event e moves = record { of_first = moves; of_second = refl }

pub lift_ports : (disks : WorldState) (d : List PortState) (k : ℕ) (event : SwitchEvent) (e : List PortState)
    → PortsStep d (OfPort k event) e → DomainStep (both disks d) (OfPort k event) (both disks e)
lift_ports disks d k event e moves = record { of_first = refl; of_second = moves }

module _ (d : WorldState) (p : List PortState) (w : DomainState) (is : both d p ≡ w) where
  -- WHAT IS ASKED of the world is so of each kind
  pub disk_within : (k : ℕ) → k < length w.first.lanes → k < length d.lanes
  disk_within k less = subst (λ (x : DomainState). k < length x.first.lanes) (sym is) less

  pub port_within : (k : ℕ) → k < length w.second → k < length p
  port_within k less = subst (λ (x : DomainState). k < length x.second) (sym is) less

  pub counted_at : (entries : List Entry) → Counted entries w → accepted_count entries ≡ issued_on d.lanes
  counted_at entries counted = subst (λ (x : DomainState). accepted_count entries ≡ issued_on x.first.lanes) (sym is) counted.accepted

  pub given_at : (entries : List Entry) → Counted entries w → GivenBelow (length entries + 1) p
  given_at entries counted = subst (λ (x : DomainState). GivenBelow (length entries + 1) x.second) (sym is) counted.given

  pub disks_same_numbers : (e : WorldState) → length e.lanes ≡ length d.lanes → SameNumbers w (both e p)
  disks_same_numbers e many =
      subst (λ (x : DomainState). SameNumbers x (both e p)) is (record { disks = many; ports = refl })

  pub ports_same_numbers : (e : List PortState) → length e ≡ length p → SameNumbers w (both d e)
  ports_same_numbers e many =
      subst (λ (x : DomainState). SameNumbers x (both d e)) is (record { disks = refl; ports = many })

  -- THE JOURNAL COUNTS behind an event of a disk, by which it didn't shrink; and behind one of a port, which accepts nothing
  pub disks_counted : (e : WorldState) (old new : List Entry) → Counted old w → length old + 1 ≤ length new + 1
      → accepted_count new ≡ issued_on e.lanes → Counted new (both e p)
  disks_counted e old new counted grows accepted = record {
    accepted = accepted;
    given = below_later (length old + 1) (length new + 1) p grows (given_at old counted);
  }

  pub ports_counted : (e : List PortState) (old new : List Entry) → Counted old w → accepted_count new ≡ accepted_count old
      → GivenBelow (length new + 1) e → Counted new (both d e)
  ports_counted e old new counted same given =
      record { accepted = same ∙ counted_at old counted; given = given }

-- by what a call answered, its journal didn't shrink
pub grows_by : {X E : Type 0} (result : Result X E) (Made Same : Type 0) (old new : List Entry)
    → (Made → length old + 1 ≤ length new + 1) → (Same → length old + 1 ≤ length new + 1)
    → OnOk result Made → OnErr result Same → length old + 1 ≤ length new + 1
grows_by (Ok x) Made Same old new grew stayed made same = grew made
grows_by (Err e) Made Same old new grew stayed made same = stayed same

-- and in a settle, by what it adds
pub quiet_grows : {X E : Type 0} (result : Result X E) (Made : X → Type 0) (Same : Type 0) (old new : List Entry)
    → ((x : X) → Made x → (entries : List SettleEntry) × Adds Nothing old new entries) → IfOk result Made
    → OnErr result (Same × (new ≡ old)) → length old + 1 ≤ length new + 1
quiet_grows (Ok x) Made Same old new adds made same = let at = adds x made in adds_grow Nothing old new at.0 at.1
quiet_grows (Err e) Made Same old new adds made same = same_grows old new same.1

-- as many lanes of each kind, one after the other
pub both_numbers : {u v w : DomainState} → SameNumbers u v → SameNumbers v w → SameNumbers u w
both_numbers one two = record { disks = two.disks ∙ one.disks; ports = two.ports ∙ one.ports }
