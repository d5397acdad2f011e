-- What holds along every run of a world.
use Rattle.std.specs.Prelude.{◌≡◌, ℕ, List, length, Some, slice_get}
use Rattle.runs.specs.Run.{Run}
use Rattle.lane_models.specs.LaneState.{LaneState, Shape, fresh}
use Rattle.lane_models.specs.LaneStep.{LaneStep}
use Rattle.world_laws.specs.Along.{happened}
use Rattle.world_laws.specs.Settle.{SettleEntry}
use Rattle.world_laws.specs.World.{WorldState}

-- EACH LANE was run, from a fresh one, by what happened to it
pub record LanesRun (shapes : List Shape) (entries : List SettleEntry) (w : WorldState) : Type 0 where
  pub many : length w.lanes ≡ length shapes
  pub each : (k : ℕ) (shape : Shape) (s : LaneState) → slice_get shapes k ≡ Some shape → slice_get w.lanes k ≡ Some s
      → Run LaneStep (fresh shape) (happened k entries) s
