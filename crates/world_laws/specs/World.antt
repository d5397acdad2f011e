-- A WORLD: the lanes of disks, by their numbers, and the one image that all of them are served from; and what each entry of its journal does.
use Rattle.std.specs.Prelude.{◌≡◌, ℕ, ◌+◌, ◌*◌, ◌≤◌, ◌==◌, if◌then◌else◌, Bool, List, [], ◌∷◌, length, map, Some, slice_get, slice_set, IfSome, ⊤}
use Rattle.runs.specs.Run.{Run}
use Rattle.vio_io.specs.Causes.{FaultsAfter, next_count}
use Rattle.disk_law.specs.ListState.{ImageState}
use Rattle.lane_models.specs.DiskEvent.{DiskEvent, Stored, Works}
use Rattle.lane_models.specs.LaneState.{IsShape, LaneState, Shape, fresh}
use Rattle.lane_models.specs.LaneStep.{LaneStep}
use Rattle.lane_models.specs.Served.{Served}
use Rattle.world_laws.specs.Settle.{OfLane, SettleEntry}

pub record WorldState : Type 0 where
  pub lanes : List LaneState
  pub image : ImageState

-- ONE CALL of the image, whether it failed or not. The operation 2 is one write of it and 3 one flush, and no other call
-- writes or flushes it.
pub record CalledOnce (operation : ℕ) (failed : Bool) (i j : ImageState) : Type 0 where
  pub calls : j.calls ≡ next_count i.calls
  pub flushes : j.flushes ≡ (if operation == 3 then next_count i.flushes else i.flushes)
  pub writes : j.writes ≡ (if operation == 2 then next_count i.writes else i.writes)
  pub faults : FaultsAfter failed i.faults j.faults

-- AN EVENT OF A LANE over the image: a unit that is stored, or a flush, is one call of the image; by every other event the image stays
abbrev pub LaneMoves : LaneState → ImageState → DiskEvent → LaneState → ImageState → Type 0
LaneMoves s i (Works (Stored operation block count failed)) t j =
    Served s i.told (Works (Stored operation block count failed)) t j.told × CalledOnce operation failed i j
LaneMoves s i event t j = LaneStep s event t × (j ≡ i)

-- the lane with this number moved by this event, and all others stayed
pub record OneMoves (w : WorldState) (k : ℕ) (event : DiskEvent) (v : WorldState) : Type 0 where
  pub lane : LaneState
  pub there : slice_get w.lanes k ≡ Some lane
  pub after : LaneState
  pub moves : LaneMoves lane w.image event after v.image
  pub lanes : v.lanes ≡ slice_set w.lanes k after

-- AN ENTRY of the journal: an event of a lane, or that a settle ended
abbrev pub WorldStep : WorldState → SettleEntry → WorldState → Type 0
WorldStep w (OfLane k event) v = OneMoves w k event v
WorldStep w _ v = v ≡ w

-- A PART of the journal was made so over the lanes, and runs the world
pub record PartMade (Made : List LaneState → List SettleEntry → List LaneState → Type 0) (w : WorldState) (part : List SettleEntry) (v : WorldState) : Type 0 where
  pub part_of : Made w.lanes part v.lanes
  pub run : Run WorldStep w part v

-- the disks of a world stand in its image one after another, from this block on
abbrev pub AreShapes : ℕ → List Shape → Type 0
AreShapes first [] = ⊤
AreShapes first (shape ∷ shapes) = IsShape shape × (shape.first ≡ first) × AreShapes (first + shape.blocks) shapes

-- how many blocks they have together
abbrev pub blocks_in : List Shape → ℕ
blocks_in [] = 0
blocks_in (shape ∷ shapes) = shape.blocks + blocks_in shapes

-- before anything was asked
abbrev pub fresh_world : List Shape → ImageState → WorldState
fresh_world shapes image = record { lanes = map fresh shapes; image = image }

-- the disks of these shapes over an image that holds all of them, where it tells its bytes
pub record IsWorld (shapes : List Shape) (image : ImageState) : Type 0 where
  pub shapes_are : AreShapes 0 shapes
  pub holds : IfSome image.told (λ bytes. 512 * blocks_in shapes ≤ length bytes)
