-- What a settle added to a journal as far as it has come, and how each pass of it goes on.
use Rattle.std.specs.Prelude.{◌≡◌, ℕ, ◌+◌, ◌<◌, ◌≤◌, Bool, true, false, ◌||◌, List, Some, length, take, slice_get}
use Rattle.lane_kinds.specs.LaneFronts.{RoundFront, TickFront}
use Rattle.lane_kinds.specs.LanesMade.{Marks, RoundUpTo, TicksUpTo}
use Rattle.lane_kinds.specs.Rounds.{TickMarks, tick_marks}
use Rattle.lane_kinds.specs.WorldMade.{LaneTicked, NamesUpTo}
use Rattle.ldc_queue.specs.declared.end.End.{End}
use Rattle.recorded_lanes.specs.world_parts.world_laws.Settle.{SettleEntry}
use Rattle.recorded_lanes.specs.world_parts.domain_laws.Domain.{DomainState, DomainStep}
use Rattle.recorded_lanes.specs.world_parts.domain_laws.Going.{GoneOn, most_rounds}
use Rattle.recorded_lanes.specs.world_parts.domain_laws.Lines as script
use Rattle.recorded_lanes.specs.world_parts.domain_laws.NamesMade.{AllNamed, NamesBegun}
use Rattle.recorded_lanes.specs.world_parts.domain_laws.RoundMade.{RoundBegun, RoundMade}
use Rattle.recorded_lanes.specs.world_parts.domain_laws.TicksMade.{TicksBegun, TicksMade}
use Rattle.domain_script.specs.declared.event.Lane.{Lane}
use Rattle.domain_script.specs.declared.fields.LaneKind.{LaneKind}
use Rattle.ldom_entries.specs.declared.entry.Entry.{Entry}
use Rattle.ldom_world.specs.declared.settling.LaneMarks.{LaneMarks}
use Rattle.recorded_lanes.specs.Steps.{MakesQuietStep, Moment, moment}
use Rattle.recorded_lanes.specs.world_parts.WorldKinds.{OfKind, in_world}
use Rattle.recorded_lanes.specs.world_parts.Parts.{Adds, Fits, FitsSoFar}

-- the marks of both kinds
abbrev pub marks_of : LaneMarks → Marks
marks_of marks = record { first = marks.disks; second = marks.ports }

-- A STEP OF AN END of a lane in a settle, and whether it was calm
abbrev pub MakesQuiet : Lane → End → Moment DomainState → Bool → Moment DomainState → Type 0
MakesQuiet = MakesQuietStep DomainStep

-- A JOURNAL GREW in a settle by entries of which this holds
pub record Grew (Holds : List SettleEntry → Type 0) (old new : List Entry) : Type 0 where
  pub entries : List SettleEntry
  pub adds : Adds script.Settles old new entries
  pub holds : Holds entries

-- THE LANES OF A KIND: by a round over the first of them, so many, and by a front of one
abbrev pub LanesMade : LaneKind → ℕ → DomainState → List Bool → DomainState → List SettleEntry → Type 0
LanesMade kind k start quiet now entries =
    OfKind kind (RoundUpTo (in_world kind).kind (in_world kind).entries k quiet) start entries now

abbrev pub LanesAdd : LaneKind → ℕ → List Bool → Moment DomainState → Moment DomainState → Type 0
LanesAdd kind k quiet start now = Grew (LanesMade kind k start.world quiet now.world) start.journal now.journal

abbrev pub LanesBegun : LaneKind → DomainState → DomainState → List SettleEntry → Type 0
LanesBegun kind start now entries = OfKind kind (RoundFront (in_world kind).kind (in_world kind).entries) start entries now

abbrev pub LanesAddFront : LaneKind → Moment DomainState → Moment DomainState → Type 0
LanesAddFront kind start now = Grew (LanesBegun kind start.world now.world) start.journal now.journal

-- by the ticks of the first lanes, and by some of them; and by that of one lane, or none
abbrev pub LanesTicked : LaneKind → ℕ → TickMarks (List Bool) → DomainState → DomainState → List SettleEntry → Type 0
LanesTicked kind k marks start now entries =
    OfKind kind (TicksUpTo (in_world kind).kind (in_world kind).entries k marks) start entries now

abbrev pub LaneTicksAdd : LaneKind → ℕ → TickMarks (List Bool) → Moment DomainState → Moment DomainState → Type 0
LaneTicksAdd kind k marks start now = Grew (LanesTicked kind k marks start.world now.world) start.journal now.journal

abbrev pub LaneTicksBegun : LaneKind → DomainState → List Bool → DomainState → List SettleEntry → Type 0
LaneTicksBegun kind start had now entries =
    OfKind kind (λ w part v. TickFront (in_world kind).kind (in_world kind).entries 0 w (take (length w) had) part v) start entries now

abbrev pub LaneTicksAddFront : LaneKind → List Bool → Moment DomainState → Moment DomainState → Type 0
LaneTicksAddFront kind had start now = Grew (LaneTicksBegun kind start.world had now.world) start.journal now.journal

abbrev pub OneTicked : LaneKind → ℕ → Bool → Bool → DomainState → DomainState → List SettleEntry → Type 0
OneTicked kind k had get w v entries = LaneTicked (in_world kind) k had get w entries v

-- by the names of those of the first lanes that are left over, and of some, where memory was wanted among them
abbrev pub LanesNamed : LaneKind → ℕ → DomainState → List Bool → List SettleEntry → Type 0
LanesNamed kind k w quiet entries = NamesUpTo (in_world kind) k w quiet entries

abbrev pub LaneNamesAdd : LaneKind → ℕ → DomainState → List Bool → List Entry → List Entry → Type 0
LaneNamesAdd kind k w quiet old new = Grew (LanesNamed kind k w quiet) old new

pub record LaneNamesAddFront (kind : LaneKind) (w : DomainState) (lanes : ℕ) (quiet : List Bool) (old new : List Entry) : Type 0 where
  pub named : ℕ
  pub within : named ≤ lanes
  pub adds : LaneNamesAdd kind named w quiet old new

-- ALL LANES: by a round over them, and by a front of one
abbrev pub RoundAdds : Marks → Moment DomainState → Moment DomainState → Type 0
RoundAdds quiet start now = Grew (λ entries. RoundMade start.world entries quiet now.world) start.journal now.journal

abbrev pub RoundAddsFront : Moment DomainState → Moment DomainState → Type 0
RoundAddsFront start now = Grew (λ entries. RoundBegun start.world entries now.world) start.journal now.journal

-- by their ticks, and by some
abbrev pub TicksAdd : TickMarks Marks → Moment DomainState → Moment DomainState → Type 0
TicksAdd marks start now = Grew (λ entries. TicksMade start.world marks.had entries marks.some marks.have now.world) start.journal now.journal

abbrev pub TicksAddFront : Marks → Moment DomainState → Moment DomainState → Type 0
TicksAddFront had start now = Grew (λ entries. TicksBegun start.world had entries now.world) start.journal now.journal

-- by the names of those that are left over, and by some
abbrev pub NamesAdd : DomainState → Marks → List Entry → List Entry → Type 0
NamesAdd w quiet old new = Grew (λ entries. AllNamed w quiet entries) old new

abbrev pub NamesAddFront : DomainState → Marks → List Entry → List Entry → Type 0
NamesAddFront w quiet old new = Grew (λ entries. NamesBegun w quiet entries) old new

-- A MOMENT BETWEEN ROUNDS: the one marks say which lanes had a tick, and the others which were quiet in the last round
pub record PassMoment : Type 0 where
  pub now : Moment DomainState
  pub had : Marks
  pub quiet : Marks

abbrev pub pass_moment : Moment DomainState → Marks → Marks → PassMoment
pass_moment now had quiet = record { now = now; had = had; quiet = quiet }

-- by so many rounds that go on
abbrev pub RoundsAdd : ℕ → Moment DomainState → PassMoment → Type 0
RoundsAdd count start v =
    Grew (λ entries. GoneOn start.world count entries v.had v.quiet v.now.world) start.journal v.now.journal

-- A ROUND GOES ON by the two steps of this lane, whatever came before; or memory was wanted in them
abbrev pub RoundGoesOn : Lane → List Bool → Moment DomainState → List Bool → Moment DomainState → Type 0
RoundGoesOn lane quiet w marks v =
    (start : DomainState) (first : List Entry) → LanesAdd lane.kind lane.number quiet (moment start first) w
    → LanesAdd lane.kind (lane.number + 1) marks (moment start first) v

abbrev pub RoundBreaks : Lane → List Bool → Moment DomainState → Moment DomainState → Type 0
RoundBreaks lane quiet w v =
    (start : DomainState) (first : List Entry) → LanesAdd lane.kind lane.number quiet (moment start first) w
    → LanesAddFront lane.kind (moment start first) v

-- THE TICKS GO ON by this lane, which got one or none
abbrev pub TicksGoOn : Lane → Bool → List Bool → Moment DomainState → List Bool → Moment DomainState → Type 0
TicksGoOn lane ticked have w marks v =
    (start : DomainState) (had : List Bool) (some : Bool) (first : List Entry)
    → LaneTicksAdd lane.kind lane.number (tick_marks had some have) (moment start first) w
    → LaneTicksAdd lane.kind (lane.number + 1) (tick_marks had (some || ticked) marks) (moment start first) v

-- THE NAMES GO ON by this lane, which was quiet in the last round or not
abbrev pub NamesGoOn : Lane → Bool → DomainState → List Entry → List Entry → Type 0
NamesGoOn lane calm w old new =
    (quiet : List Bool) (first : List Entry) → slice_get quiet lane.number ≡ Some calm
    → LaneNamesAdd lane.kind lane.number w quiet first old → LaneNamesAdd lane.kind (lane.number + 1) w quiet first new

-- A PASS of a settle, a round with its ticks, ends it, or goes on with one round more
abbrev pub PassDone : Bool → ℕ → Moment DomainState → PassMoment → Type 0
PassDone true count start v = Fits start.world script.Settles start.journal v.now.journal v.now.world
PassDone false count start v = RoundsAdd (count + 1) start v

-- whatever rounds came before, fewer than the most; or memory was wanted in it
abbrev pub PassGoesOn : Bool → PassMoment → PassMoment → Type 0
PassGoesOn ended w v =
    (start : DomainState) (count : ℕ) (first : List Entry) → RoundsAdd count (moment start first) w → count < most_rounds start
    → PassDone ended count (moment start first) v

abbrev pub PassBreaks : PassMoment → Moment DomainState → Type 0
PassBreaks w v =
    (start : DomainState) (count : ℕ) (first : List Entry) → RoundsAdd count (moment start first) w → count < most_rounds start
    → FitsSoFar start script.Settles first v.journal v.world
