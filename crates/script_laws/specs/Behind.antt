-- The image that a run gives back, against the image that its lanes saw: a cache stood between them.
use Rattle.std.specs.Prelude.{◌≡◌, ◌<◌, ◌≤◌}
use Rattle.disk_law.specs.ListState.{ImageState}
use Rattle.vio_io.specs.Causes.{last_count}

-- ITS BYTES AND ITS FAULTS are what the lanes saw, and each write and each flush reached it. It was called at most as
-- often as they asked, where no count can have stopped: reads may have been spared it.
pub record StandsBehind (seen image : ImageState) : Type 0 where
  pub told : seen.told ≡ image.told
  pub faults : seen.faults ≡ image.faults
  pub flushes : seen.flushes ≡ image.flushes
  pub writes : seen.writes ≡ image.writes
  pub calls : image.calls < last_count → seen.calls ≤ image.calls
