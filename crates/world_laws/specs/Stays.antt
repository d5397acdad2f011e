-- What stays of an image that is told, whatever disks are served from it: it is told still, and as long; and so are these bytes.
use Rattle.std.specs.Prelude.{◌≡◌, ℕ, ◌*◌, List, drop, length, Option, Some, slice_index}
use Rattle.lane_models.specs.LaneState.{Shape}
use Rattle.lane_laws.specs.ImageStep.{SameAround}
use Rattle.world_laws.specs.World.{blocks_in}

-- AROUND A DISK's region
pub record StaysAround (shape : Shape) (image : List ℕ) (told : Option (List ℕ)) : Type 0 where
  pub now : List ℕ
  pub told_is : told ≡ Some now
  pub long : length now ≡ length image
  pub around : SameAround shape image now

-- BEHIND ALL DISKS
pub record StaysBehind (shapes : List Shape) (image : List ℕ) (told : Option (List ℕ)) : Type 0 where
  pub now : List ℕ
  pub told_is : told ≡ Some now
  pub long : length now ≡ length image
  pub behind : drop (512 * blocks_in shapes) now ≡ drop (512 * blocks_in shapes) image

-- AT ONE PLACE
pub record StaysAt (place : ℕ) (image : List ℕ) (told : Option (List ℕ)) : Type 0 where
  pub now : List ℕ
  pub told_is : told ≡ Some now
  pub long : length now ≡ length image
  pub byte : slice_index now place ≡ slice_index image place
