-- The disks of a world stand apart from each other, and all of them before the image's end.
use Rattle.std.proofs.Common.{◌≡◌, ◌⊎◌, ℕ, suc, ◌+◌, ◌*◌, ◌≤◌, Some, List, ◌∷◌, length, slice_get, ap, arith}
use Rattle.disk_law.specs.ListState.{ImageState}
use Rattle.lane_models.specs.LaneState.{IsShape, Shape}
use Rattle.world_laws.specs.World.{AreShapes, IsWorld, blocks_in}

-- ONE OF THEM, counted from this block on
pub record ShapeAt (from : ℕ) (shapes : List Shape) (shape : Shape) : Type 0 where
  pub sound : IsShape shape
  pub begins : from ≤ shape.first
  pub ends : shape.first + shape.blocks ≤ from + blocks_in shapes

pub shape_at : (from : ℕ) (shapes : List Shape) (k : ℕ) (shape : Shape) → AreShapes from shapes → slice_get shapes k ≡ Some shape → ShapeAt from shapes shape
shape_at from (x ∷ shapes) (suc k) shape are there = grind (arith, shape_at (from + x.blocks) shapes k shape are.2 there)
shape_at from shapes k shape are there = grind arith

-- TWO OF THEM
abbrev pub AreApart : Shape → Shape → Type 0
AreApart one other = (one.first + one.blocks ≤ other.first) ⊎ (other.first + other.blocks ≤ one.first)

before_later : (from : ℕ) (x : Shape) (shapes : List Shape) (k : ℕ) (later : Shape) → AreShapes from (x ∷ shapes) → slice_get shapes k ≡ Some later → x.first + x.blocks ≤ later.first
before_later from x shapes k later are there =
    let begins = (shape_at (from + x.blocks) shapes k later are.2 there).begins in
    omega (arith, begins, are.1)

pub shapes_apart : (from : ℕ) (shapes : List Shape) (j k : ℕ) (one other : Shape) → AreShapes from shapes → slice_get shapes j ≡ Some one → slice_get shapes k ≡ Some other → (j ≡ k → ⊥)
    → AreApart one other
shapes_apart from (x ∷ shapes) (suc j) (suc k) one other are first second differ = shapes_apart (from + x.blocks) shapes j k one other are.2 first second (λ same. differ (ap suc same))
shapes_apart from shapes j k one other are first second differ = grind (arith, before_later)

-- A WORLD's image holds each of its disks
pub world_holds : (shapes : List Shape) (image : ImageState) (first : List ℕ) → IsWorld shapes image → image.told ≡ Some first → 512 * blocks_in shapes ≤ length first
world_holds shapes image first world told = grind arith
