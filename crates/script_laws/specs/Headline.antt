-- THE HEADLINE: what holds of the disks of every script, whatever it resets, stops, restarts and loses.
use Rattle.std.specs.Prelude.{◌≡◌, ◌↔◌, ℕ, false, List, ◌++◌, length, Some, IfSome, slice_get}
use Rattle.disk_law.specs.ListState.{ImageState}
use Rattle.world_parts.specs.lane_models.LaneState.{LaneState, Shape}
use Rattle.domain_script.specs.declared.event.DiskDecl.{DiskDecl}
use Rattle.world_parts.specs.domain_laws.Domain.{DomainState}
use Rattle.world_parts.specs.lane_models.NetLaneState.{NetShape}
use Rattle.world_parts.specs.world_laws.Along.{happened}
use Rattle.world_parts.specs.world_laws.Settle.{SettleEntry}
use Rattle.world_parts.specs.world_laws.Stays.{StaysBehind}
use Rattle.world_parts.specs.Declared.{shapes_of}
use Rattle.world_parts.specs.Script.{ScriptParts, all_lines}
use Rattle.script_laws.specs.Apart.{StandApart}
use Rattle.script_laws.specs.Contents.{DiskHolds, NoStoreFailed, ReadsShow}
use Rattle.script_laws.specs.Lanes.{LaneStands}
use Rattle.script_laws.specs.LastRounds.{EachNamesExactly}
use Rattle.script_laws.specs.Ports.{PortsStand}
use Rattle.script_laws.specs.PortSettles.{PortSettles}
use Rattle.script_laws.specs.Settled.{FinishesAll, LeftWhereBusy, RestsOrTicked, SettlesEnd, StillBehind, TicksAreNeeded}
use Rattle.script_laws.specs.Told.{log_at, told}

-- OF EACH DISK, by its number, with what of the image is its own. `first` is what the image told as it was attached. What
-- is said only of a disk that nobody forged has a premise on that disk alone, whatever was forged of others.
pub record OfDisk (shape : Shape) (x : ℕ) (start : ImageState) (entries : List SettleEntry) (s : LaneState)
    (now : ImageState) : Type 0 where
  pub stands : LaneStands shape x entries s
  pub finishes : FinishesAll shape x entries
  pub still : StillBehind shape x entries
  -- its state says whether the entries have a call of its store that failed: none where the image counts no fault
  pub failed : (s.failed ≡ false) ↔ NoStoreFailed (happened x entries)
  pub unfailed : now.faults ≡ 0 → s.failed ≡ false
  -- over an image that tells its bytes: along the entries, as far as nobody forged it and no call of its store failed,
  pub reads : (first : List ℕ) → start.told ≡ Some first → (front behind : List SettleEntry) → entries ≡ front ++ behind
      → (log_at shape x front).wire.forged ≡ false → NoStoreFailed (happened x front) → ReadsShow shape x first front
  -- and at their end
  pub holds : (first bytes : List ℕ) → start.told ≡ Some first → now.told ≡ Some bytes → s.wire.forged ≡ false
      → s.failed ≡ false → DiskHolds shape x first entries bytes

-- OF ALL LINES with their parts: each disk has its lane, each settle keeps its rules and, among those that gave whole
-- parts, ended or ran out of rounds, and the image stays outside of all disks. A line for one lane leaves all others.
pub record Headline (disks : List DiskDecl) (nets : List NetShape) (start : ImageState) (parts : ScriptParts) (v : DomainState) : Type 0 where
  pub many : length v.first.lanes ≡ length disks
  pub each : (x : ℕ) (shape : Shape) (s : LaneState) → slice_get (shapes_of 0 disks) x ≡ Some shape
      → slice_get v.first.lanes x ≡ Some s → OfDisk shape x start (told (all_lines parts)) s v.first.image
  pub settles : SettlesEnd disks nets start parts v
  pub ticks : (x : ℕ) (shape : Shape) → slice_get (shapes_of 0 disks) x ≡ Some shape
      → TicksAreNeeded shape x (all_lines parts)
  pub left : (x : ℕ) (shape : Shape) → slice_get (shapes_of 0 disks) x ≡ Some shape
      → LeftWhereBusy shape x (all_lines parts)
  pub rests : (x : ℕ) (shape : Shape) → slice_get (shapes_of 0 disks) x ≡ Some shape
      → RestsOrTicked shape x (all_lines parts)
  pub outside : IfSome start.told (λ first. StaysBehind (shapes_of 0 disks) first v.first.image.told)
  pub ports_many : length v.second ≡ length nets
  pub ports : PortsStand nets (told (all_lines parts)) v.second
  pub ports_settle : (k : ℕ) (shape : NetShape) → slice_get nets k ≡ Some shape → PortSettles shape k (all_lines parts)
  pub names : EachNamesExactly disks nets start parts.whole
  pub apart : StandApart disks nets start parts v
