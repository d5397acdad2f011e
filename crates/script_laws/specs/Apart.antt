-- Where a script passed at each of its lines, and what a line that is for one lane left of all others there.
use Rattle.std.specs.Prelude.{◌≡◌, ◌≤◌, ℕ, List, ◌∷◌, ◌++◌, length, Some, slice_get}
use Rattle.runs.specs.Run.{Run}
use Rattle.disk_law.specs.ListState.{ImageState}
use Rattle.world_parts.specs.lane_models.LaneState.{Shape}
use Rattle.world_parts.specs.domain_laws.Along.{OnlyDisk}
use Rattle.world_parts.specs.domain_laws.Domain.{DomainState}
use Rattle.world_parts.specs.domain_laws.Isolation.{IsFor, OnlyPortPart}
use Rattle.world_parts.specs.domain_laws.Lines.{DiskLane, PortLane}
use Rattle.domain_script.specs.declared.event.DiskDecl.{DiskDecl}
use Rattle.domain_script.specs.declared.event.Event.{Event}
use Rattle.ldom_entries.specs.declared.entry.Entry.{Entry}
use Rattle.world_parts.specs.lane_models.NetLaneState.{NetShape}
use Rattle.world_parts.specs.world_laws.Stays.{StaysAround}
use Rattle.script_laws.specs.Told.{told_by}
use Rattle.world_parts.specs.Declared.{bytes_needed, shapes_of, world_of}
use Rattle.world_parts.specs.Lines.{EventStep, LineStarts, line_of}
use Rattle.world_parts.specs.Script.{LastStarts, ScriptParts}

-- WHAT A LINE LEFT, or a front of it, that led one world to another
pub record LeavesAlone (disks : List DiskDecl) (image : ImageState) (line : Event × List Entry) (at next : DomainState)
    : Type 0 where
  -- where it is for one disk, all other disks, the switch, and the image outside of the disk's region
  pub disk : (k : ℕ) → IsFor (DiskLane k) (line_of line.0) → OnlyDisk k at next
  pub region : (k : ℕ) (shape : Shape) (first store : List ℕ) → IsFor (DiskLane k) (line_of line.0)
      → slice_get (shapes_of 0 disks) k ≡ Some shape → image.told ≡ Some first → bytes_needed disks ≤ length first
      → at.first.image.told ≡ Some store → StaysAround shape store next.first.image.told
  -- and where it is for a port, all disks and the image, and of the other ports all but frames in their out queues
  pub port : (k : ℕ) → IsFor (PortLane k) (line_of line.0) → OnlyPortPart k (told_by line) at next

-- THE WORLDS before this line and behind it, between which the script passed
pub record PassesBy (disks : List DiskDecl) (nets : List NetShape) (image : ImageState) (parts : ScriptParts) (v : DomainState)
    (before : List (Event × List Entry)) (line : Event × List Entry) (behind : List (Event × List Entry)) : Type 0 where
  pub at : DomainState
  pub run : Run EventStep (world_of disks nets image) before at
  pub next : DomainState
  pub step : EventStep at line next
  pub middle : DomainState
  pub on : Run EventStep next behind middle
  pub last : LastStarts middle parts.cut v
  pub leaves : LeavesAlone disks image line at next

-- and the world before the last line, where want of memory cut that off: what it did so far left the same
pub record CutsOff (disks : List DiskDecl) (nets : List NetShape) (image : ImageState) (parts : ScriptParts)
    (v : DomainState) (line : Event × List Entry) : Type 0 where
  pub at : DomainState
  pub run : Run EventStep (world_of disks nets image) parts.whole at
  pub starts : LineStarts at line v
  pub leaves : LeavesAlone disks image line at v

pub record StandApart (disks : List DiskDecl) (nets : List NetShape) (image : ImageState) (parts : ScriptParts)
    (v : DomainState) : Type 0 where
  pub whole : (before : List (Event × List Entry)) (line : Event × List Entry) (behind : List (Event × List Entry))
      → parts.whole ≡ before ++ line ∷ behind → PassesBy disks nets image parts v before line behind
  pub cut : (line : Event × List Entry) → parts.cut ≡ Some line → CutsOff disks nets image parts v line
