-- What holds along every run of a world holds of each state of it with what happened before.
use Rattle.std.proofs.Common.{◌≡◌, ℕ, ◌+◌, ◌*◌, ◌≤◌, Some, List, [], ◌∷◌, ◌++◌, length, slice_get, refl, sym, subst, arith}
use Rattle.std.proofs.lemmas.List.{append-nil, append_assoc}
use Rattle.std.proofs.lemmas.Option.{slice_get_within}
use Rattle.runs.specs.Run.{Run, run_push}
use Rattle.disk_law.specs.ListState.{ImageState}
use Rattle.lane_models.specs.DiskEvent.{DiskEvent}
use Rattle.lane_models.specs.LaneState.{IsShape, Shape, fresh}
use Rattle.lane_models.specs.LaneStep.{LaneStep}
use Rattle.world_laws.specs.Along.{happened}
use Rattle.world_laws.specs.Settle.{SettleEntry}
use Rattle.world_laws.proofs.Along.{lanes_run}
use Rattle.lane_kinds.proofs.Places.{get_within}
use Rattle.world_laws.specs.World.{IsWorld, OneMoves, WorldState, WorldStep, blocks_in, fresh_world}
use Rattle.world_laws.specs.Stays.{StaysAround}
use Rattle.world_laws.proofs.LaneStores.{moves_around}
use Rattle.world_laws.proofs.ShapePlaces.{ShapeAt, shape_at}

-- ONE STATE AFTER ANOTHER
module _ (start : WorldState) (P : List SettleEntry → WorldState → Type 0) where
  abbrev pub Keeps : Type 0
  Keeps = (past : List SettleEntry) (w : WorldState) (entry : SettleEntry) (v : WorldState) → Run WorldStep start past w → WorldStep w entry v → P past w → P (past ++ entry ∷ []) v

  from_past : Keeps → (past : List SettleEntry) (w : WorldState) (entries : List SettleEntry) (v : WorldState) → Run WorldStep start past w → P past w → Run WorldStep w entries v → P (past ++ entries) v
  from_past keeps past w [] v before holds run = subst (λ (l : List SettleEntry). P l v) (sym (append-nil past)) (subst (P past) run holds)
  from_past keeps past w (entry ∷ entries) v before holds run =
      subst (λ (l : List SettleEntry). P l v) (append_assoc past (entry ∷ []) entries)
      (from_past keeps (past ++ entry ∷ []) run.0 entries v (run_push WorldStep start w run.0 past entry before run.1) (keeps past w entry run.0 before run.1 holds) run.2)

  pub along_world : Keeps → P [] start → (entries : List SettleEntry) (v : WorldState) → Run WorldStep start entries v → P entries v
  along_world keeps holds entries v run = from_past keeps [] start entries v refl holds run

-- A LANE OF A WORLD that was reached has its shape, and was run by what happened to it
pub record LaneAt (shapes : List Shape) (past : List SettleEntry) (w : WorldState) (k : ℕ) (event : DiskEvent) (v : WorldState) (one : OneMoves w k event v) : Type 0 where
  pub shape : Shape
  pub there : slice_get shapes k ≡ Some shape
  pub sound : IsShape shape
  pub ends : shape.first + shape.blocks ≤ blocks_in shapes
  pub run : Run LaneStep (fresh shape) (happened k past) one.lane

pub lane_at : (shapes : List Shape) (image : ImageState) (past : List SettleEntry) (w : WorldState) (k : ℕ) (event : DiskEvent) (v : WorldState) → IsWorld shapes image
    → Run WorldStep (fresh_world shapes image) past w → (one : OneMoves w k event v) → LaneAt shapes past w k event v one
lane_at shapes image past w k event v world run one =
    let lanes = lanes_run shapes image past w run in
    let within = slice_get_within w.lanes k one.lane one.there in
    let many = lanes.many in
    let found = get_within shapes k (omega (arith, within, many)) in
    let at : ShapeAt 0 shapes found.0 = shape_at 0 shapes k found.0 world.shapes_are found.1 in
    let ends = at.ends in
    record { shape = found.0; there = found.1; sound = at.sound; ends = omega (arith, ends); run = lanes.each k found.0 one.lane found.1 one.there }

-- AROUND ITS REGION the image stays by its step
pub step_around : (shapes : List Shape) (image : ImageState) (past : List SettleEntry) (w : WorldState) (k : ℕ) (event : DiskEvent) (v : WorldState) (store : List ℕ)
    → (world : IsWorld shapes image) → (run : Run WorldStep (fresh_world shapes image) past w) → (one : OneMoves w k event v) → w.image.told ≡ Some store → 512 * blocks_in shapes ≤ length store
    → (at : LaneAt shapes past w k event v one) → StaysAround at.shape store v.image.told
step_around shapes image past w k event v store world run one told room at =
    let ends = at.ends in
    moves_around at.shape (happened k past) one.lane event one.after w.image v.image store at.sound at.run one.moves told (omega (arith, ends, room))
