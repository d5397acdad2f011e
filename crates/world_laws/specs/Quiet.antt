-- A world of one disk at the front of its image, and what it is beside a plain list of requests.
use Rattle.std.specs.Prelude.{◌≡◌, ℕ, ◌+◌, ◌*◌, ◌≤◌, List, [], ◌∷◌, length, Some}
use Rattle.disk_law.specs.ListState.{ImageState}
use Rattle.lane_models.specs.LaneState.{IsShape, LaneState, Shape}
use Rattle.world_laws.specs.World.{WorldState}
use Rattle.world_laws.specs.Plain.{Plain}

-- A DISK AT THE FRONT of an image that is told, and that never failed
pub record IsAtFront (shape : Shape) (image : ImageState) (first : List ℕ) : Type 0 where
  pub sound : IsShape shape
  pub place : shape.first ≡ 0
  pub told : image.told ≡ Some first
  pub holds : 512 * shape.blocks ≤ length first
  pub well : image.faults ≡ 0

-- THE WORLD is that of a plain list: the image has its content, its requests wait, and as many were accepted
pub record IsPlain (p : Plain) (w : WorldState) : Type 0 where
  pub lane : LaneState
  pub lanes : w.lanes ≡ lane ∷ []
  pub told : w.image.told ≡ Some p.content
  pub waiting : lane.client.pending ≡ p.waiting
  pub accepted : lane.client.next_id ≡ p.completed + length p.waiting
