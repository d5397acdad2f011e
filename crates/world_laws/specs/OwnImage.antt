-- A disk of a world with an image of its own, which is its region of the world's image.
use Rattle.std.specs.Prelude.{◌≡◌, ℕ, List, Option, Some}
use Rattle.runs.specs.Run.{Run}
use Rattle.lane_models.specs.DiskEvent.{DiskEvent}
use Rattle.lane_models.specs.LaneState.{LaneState, Shape}
use Rattle.lane_laws.specs.Headline.{ImagedStep, fresh_image}
use Rattle.lane_laws.specs.ImageStep.{region_of}

-- the lane beside its region is run, from its region of the first image on, by these events
pub record OwnImage (shape : Shape) (first : List ℕ) (events : List DiskEvent) (s : LaneState) (told : Option (List ℕ)) : Type 0 where
  pub now : List ℕ
  pub told_is : told ≡ Some now
  pub run : Run ImagedStep (fresh_image shape (region_of shape first)) events (record { lane = s; image = region_of shape now })
