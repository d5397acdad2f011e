-- After all disks a told image stays along every run of a world.
use Rattle.std.proofs.Common.{◌≡◌, ℕ, ◌+◌, ◌*◌, ◌≤◌, Option, Some, List, [], ◌∷◌, ◌++◌, length, slice_get, refl, sym, ◌∙◌, subst, arith}
use Rattle.runs.specs.Run.{Run}
use Rattle.disk_law.specs.ListState.{ImageState}
use Rattle.lane_models.specs.DiskEvent.{DiskEvent}
use Rattle.lane_models.specs.LaneState.{Shape}
use Rattle.world_laws.specs.Settle.{OfLane, SettleEntry}
use Rattle.world_laws.specs.World.{IsWorld, OneMoves, WorldState, WorldStep, blocks_in, fresh_world}
use Rattle.world_laws.specs.Stays.{StaysAround, StaysBehind}
use Rattle.world_laws.proofs.ImageKeeping.{further, some_is}
use Rattle.world_laws.proofs.ShapePlaces.{world_holds}
use Rattle.world_laws.proofs.WorldRuns.{LaneAt, along_world, lane_at, step_around}

-- a step of a lane
behind_around : (shapes : List Shape) (shape : Shape) (first : List ℕ) (told now : Option (List ℕ)) → shape.first + shape.blocks ≤ blocks_in shapes → (before : StaysBehind shapes first told)
    → StaysAround shape before.now now → StaysBehind shapes first now
behind_around shapes shape first told now ends before around = grind (arith, further)

module _ (shapes : List Shape) (image : ImageState) (first : List ℕ) (world : IsWorld shapes image) (told : image.told ≡ Some first) where
  abbrev Behind : List SettleEntry → WorldState → Type 0
  Behind past w = StaysBehind shapes first w.image.told

  behind_step : (past : List SettleEntry) (w : WorldState) (entry : SettleEntry) (v : WorldState) → Run WorldStep (fresh_world shapes image) past w → WorldStep w entry v → Behind past w
      → Behind (past ++ entry ∷ []) v
  behind_step past w (OfLane k event) v run step before =
      let at : LaneAt shapes past w k event v step = lane_at shapes image past w k event v world run step in
      let holds = world_holds shapes image first world told in
      let long = before.long in
      behind_around shapes at.shape first w.image.told v.image.told at.ends before
      (step_around shapes image past w k event v before.now world run step before.told_is (omega (arith, holds, long)) at)
  behind_step past w _ v run step before = subst (λ (x : WorldState). StaysBehind shapes first x.image.told) (sym step) before

  pub stays_behind : (entries : List SettleEntry) (w : WorldState) → Run WorldStep (fresh_world shapes image) entries w → StaysBehind shapes first w.image.told
  stays_behind entries w run =
      along_world (fresh_world shapes image) Behind behind_step (record { now = first; told_is = told; long = refl; behind = refl }) entries w run

-- the image after a run holds all disks
pub still_holds : (shapes : List Shape) (image : ImageState) (first store : List ℕ) (entries : List SettleEntry) (w : WorldState) → IsWorld shapes image → image.told ≡ Some first
    → Run WorldStep (fresh_world shapes image) entries w → w.image.told ≡ Some store → 512 * blocks_in shapes ≤ length store
still_holds shapes image first store entries w world told run now =
    let stays = stays_behind shapes image first world told entries w run in
    grind (arith, some_is, world_holds)

-- A STORE STAYS WITHIN ITS DISK, in any state of a world
pub world_around : (shapes : List Shape) (image : ImageState) (first store : List ℕ) (entries : List SettleEntry) (w : WorldState) (k : ℕ) (event : DiskEvent) (v : WorldState) (shape : Shape)
    → IsWorld shapes image → image.told ≡ Some first → Run WorldStep (fresh_world shapes image) entries w → OneMoves w k event v → slice_get shapes k ≡ Some shape → w.image.told ≡ Some store
    → StaysAround shape store v.image.told
world_around shapes image first store entries w k event v shape world told run step there now =
    let at : LaneAt shapes entries w k event v step = lane_at shapes image entries w k event v world run step in
    let same : at.shape ≡ shape = some_is at.shape shape (sym at.there ∙ there) in
    subst (λ (x : Shape). StaysAround x store v.image.told) same
    (step_around shapes image entries w k event v store world run step now (still_holds shapes image first store entries w world told run now) at)
