-- One event of one lane, and what it leaves in the journal.
use Rattle.std.specs.Prelude.{◌≡◌, ℕ, Bool, true, false, ◌&&◌, Some}
use Rattle.disk_lane.specs.vdisk_client.Calls.{front_count}
use Rattle.ldc_queue.specs.declared.end.End.{End}
use Rattle.ldc_queue.specs.declared.end.End.TheVariants.{A, B}
use Rattle.disk_law.specs.ListState.{ImageState}
use Rattle.world_parts.specs.lane_models.DiskEvent.{DiskEvent}
use Rattle.world_parts.specs.lane_models.LaneState.{LaneState}
use Rattle.world_parts.specs.lane_laws.CalmEnds.{IsStep}
use Rattle.world_parts.specs.world_laws.DiskKind.{is_calm}
use Rattle.world_parts.specs.world_laws.Settle.{OfLane}
use Rattle.world_parts.specs.domain_laws.Lines.{Line}
use Rattle.world_parts.specs.world_laws.World.{LaneMoves, OneMoves, WorldState}
use Rattle.ldom_entries.specs.JournalState.{JournalState, PutsEntry}
use Rattle.world_parts.specs.WorldEvents.{world_event}
use Rattle.ldom_entries.specs.declared.entry.Entry.{Entry}
use Rattle.recorded_lanes.specs.Resting.{left_out}

-- WHAT A LINE ASKED OF A LANE came to, whatever the image: it stays
pub record LaneAnswers (line : Line) (k : ℕ) (Answers : DiskEvent → Type 0) (s : LaneState) (entry : Entry)
    (t : LaneState) : Type 0 where
  pub event : DiskEvent
  pub answers : Answers event
  pub moves : (i : ImageState) → LaneMoves s i event t i
  pub says : world_event line entry ≡ Some (OfLane k event)

-- and its entry was put last
pub record RecordsAnswer (line : Line) (k : ℕ) (Answers : DiskEvent → Type 0) (s : LaneState) (old new : JournalState)
    (t : LaneState) : Type 0 where
  pub entry : Entry
  pub puts : PutsEntry old entry new
  pub answer : LaneAnswers line k Answers s entry t

-- AN EVENT WAS RECORDED: an entry was put last that tells it, whatever line it is in
pub record Records (k : ℕ) (event : DiskEvent) (s t : JournalState) : Type 0 where
  pub entry : Entry
  pub puts : PutsEntry s entry t
  pub says : (line : Line) → world_event line entry ≡ Some (OfLane k event)

-- or nothing was, where it is left out
abbrev pub RecordedBut : Bool → ℕ → DiskEvent → JournalState → JournalState → Type 0
RecordedBut true k event s t = t ≡ s
RecordedBut false k event s t = Records k event s t

-- WHAT A STEP LEAVES in the journal, in a settle or not: there one that rests is left out; and whether it was calm
pub record LeavesEntry (in_settle : Bool) (k : ℕ) (event : DiskEvent) (s : JournalState) (calm : Bool)
    (t : JournalState) : Type 0 where
  pub calm_is : calm ≡ is_calm event
  pub recorded : RecordedBut (in_settle && left_out event) k event s t

-- A STEP OF AN END of a lane over the image, with what it leaves in the journal
pub record LaneSteps (in_settle : Bool) (k : ℕ) (e : End) (s : LaneState) (i : ImageState) (old : JournalState)
    (calm : Bool) (new : JournalState) (t : LaneState) (j : ImageState) : Type 0 where
  pub event : DiskEvent
  pub of_end : IsStep e event
  pub moves : LaneMoves s i event t j
  pub leaves : LeavesEntry in_settle k event old calm new

-- the same of a lane of a world
pub record EndSteps (in_settle : Bool) (k : ℕ) (e : End) (w : WorldState) (old : JournalState) (calm : Bool)
    (new : JournalState) (v : WorldState) : Type 0 where
  pub event : DiskEvent
  pub of_end : IsStep e event
  pub moves : OneMoves w k event v
  pub leaves : LeavesEntry in_settle k event old calm new

-- HOW MANY BYTES a step of this end of a lane may have to keep: those that a completion of a client's first request carries
abbrev pub kept_bytes : End → LaneState → ℕ
kept_bytes A s = front_count s.client.pending
kept_bytes B s = 0
