-- What an event of a lane over a told image leaves: all around the lane's region, also where somebody forges and where the store fails.
use Rattle.std.proofs.Common.{◌≡◌, ℕ, ◌+◌, ◌*◌, ◌≤◌, Bool, Option, Some, List, length, refl, ap, ◌∙◌, subst, arith}
use Rattle.runs.specs.Lawful.{log_of}
use Rattle.runs.specs.Run.{Run}
use Rattle.vdisk_msg.specs.declared.desc.DiskDesc.{DiskDesc}
use Rattle.disk_law.specs.ListState.{ImageState}
use Rattle.lane_laws.specs.DiskLog.{after, nothing_yet}
use Rattle.lane_models.specs.DiskEvent.{Asks, Desc, DiskEvent, Done, Finished, Misplaced, Moved, OnWire, Published, Calms, Stored, Switches, Works}
use Rattle.lane_models.specs.LaneState.{IsShape, LaneState, Shape, fresh}
use Rattle.lane_models.specs.LaneStep.{LaneStep, ServerWorks}
use Rattle.lane_models.specs.Served.{Served}
use Rattle.lane_models.specs.ServerWork.{desc_of}
use Rattle.lane_laws.proofs.FirstStays.{log_shape, run_first}
use Rattle.world_laws.specs.World.{LaneMoves}
use Rattle.world_laws.specs.Stays.{StaysAround}
use Rattle.world_laws.proofs.Checking.{ServesChecked, run_checked}
use Rattle.world_laws.proofs.ImageKeeping.{front_of, further}
use Rattle.world_laws.proofs.UnitPlaces.{StoredAt, Stores, stored_at}

-- A UNIT of a lane that was reached
pub record UnitStored (shape : Shape) (s : LaneState) (operation block count : ℕ) (failed : Bool) (t : LaneState) (store : List ℕ) (told : Option (List ℕ)) : Type 0 where
  pub gave : List ℕ
  pub at : StoredAt s operation block count failed gave t store told
  pub step : ServerWorks s gave (Stored operation block count failed) t
  pub first : s.server.first ≡ shape.first
  pub blocks : s.server.blocks ≡ shape.blocks

server_blocks : (shape : Shape) (events : List DiskEvent) (s : LaneState) → ServesChecked s (log_of after (nothing_yet shape) events) → s.server.blocks ≡ shape.blocks
server_blocks shape events s along = along.serves.grounded.knows.counted.server.blocks ∙ ap (λ (x : Shape). x.blocks) (log_shape (nothing_yet shape) events)

pub unit_stored : (shape : Shape) (events : List DiskEvent) (s : LaneState) (operation block count : ℕ) (failed : Bool) (t : LaneState) (store : List ℕ) (told : Option (List ℕ)) → IsShape shape
    → Run LaneStep (fresh shape) events s → 512 * (shape.first + shape.blocks) ≤ length store → Served s (Some store) (Works (Stored operation block count failed)) t told
    → UnitStored shape s operation block count failed t store told
unit_stored shape events s operation block count failed t store told sound run room served =
    let along = run_checked shape events s sound run in
    let first = run_first shape events s sound run in
    let blocks = server_blocks shape events s along in
    let here : 512 * (s.server.first + s.server.blocks) ≤ length store = omega (arith, room, first, blocks) in
    record {
      gave = served.gave;
      at = stored_at s (log_of after (nothing_yet shape) events) operation block count failed served.gave t store told along here served.step served.store;
      step = served.step;
      first = first;
      blocks = blocks;
    }

-- ALL STAYS where nothing was written
pub all_stays : (shape : Shape) (store : List ℕ) (told : Option (List ℕ)) → told ≡ Some store → StaysAround shape store told
all_stays shape store told is = record { now = store; told_is = is; long = refl; around = record { before = refl; behind = refl } }

stores_around : (shape : Shape) (desc : DiskDesc) (store : List ℕ) (told : Option (List ℕ)) → (desc.operation ≡ 2 → 512 * desc.offset + desc.size ≤ 512 * shape.blocks) → Stores desc shape.first store told
    → StaysAround shape store told
stores_around shape desc store told within given = grind (arith, all_stays, front_of, further)

unit_around : (shape : Shape) (s : LaneState) (operation block count : ℕ) (failed : Bool) (t : LaneState) (store : List ℕ) (told : Option (List ℕ)) → UnitStored shape s operation block count failed t store told
    → StaysAround shape store told
unit_around shape s operation block count failed t store told unit =
    let desc = desc_of unit.at.step.work in
    stores_around shape desc store told (subst (λ (n : ℕ). desc.operation ≡ 2 → 512 * desc.offset + desc.size ≤ 512 * n) unit.blocks unit.at.within)
    (subst (λ (n : ℕ). Stores desc n store told) unit.first unit.at.stores)

still : (shape : Shape) (i j : ImageState) (store : List ℕ) → i.told ≡ Some store → j ≡ i → StaysAround shape store j.told
still shape i j store told same = all_stays shape store j.told (ap (λ (x : ImageState). x.told) same ∙ told)

-- EACH EVENT
pub moves_around : (shape : Shape) (events : List DiskEvent) (s : LaneState) (event : DiskEvent) (t : LaneState) (i j : ImageState) (store : List ℕ) → IsShape shape
    → Run LaneStep (fresh shape) events s → LaneMoves s i event t j → i.told ≡ Some store → 512 * (shape.first + shape.blocks) ≤ length store → StaysAround shape store j.told
moves_around shape events s (Works (Stored operation block count failed)) t i j store sound run moves told room =
    unit_around shape s operation block count failed t store j.told
    (unit_stored shape events s operation block count failed t store j.told sound run room
    (subst (λ (o : Option (List ℕ)). Served s o (Works (Stored operation block count failed)) t j.told) told moves.0))
moves_around shape events s (OnWire event) t i j store sound run moves told room = still shape i j store told moves.1
moves_around shape events s (Asks event) t i j store sound run moves told room = still shape i j store told moves.1
moves_around shape events s (Works (Published id)) t i j store sound run moves told room = still shape i j store told moves.1
moves_around shape events s (Works (Done id operation status bytes)) t i j store sound run moves told room = still shape i j store told moves.1
moves_around shape events s (Works (Desc slot bytes)) t i j store sound run moves told room = still shape i j store told moves.1
moves_around shape events s (Works (Moved unit fault)) t i j store sound run moves told room = still shape i j store told moves.1
moves_around shape events s (Works (Finished slot status)) t i j store sound run moves told room = still shape i j store told moves.1
moves_around shape events s (Works Misplaced) t i j store sound run moves told room = still shape i j store told moves.1
moves_around shape events s (Switches event) t i j store sound run moves told room = still shape i j store told moves.1
moves_around shape events s (Calms event) t i j store sound run moves told room = still shape i j store told moves.1
