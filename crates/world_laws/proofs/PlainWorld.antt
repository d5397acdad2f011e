-- A fresh world of one disk is that of a plain list which nothing was asked yet; and what a plain list says of its world.
use Rattle.std.proofs.Common.{ℕ, ◌+◌, ◌*◌, ◌≤◌, List, [], ◌∷◌, length, ap, ◌∙◌, arith}
use Rattle.vdisk_msg.specs.declared.request.Request.{Request}
use Rattle.disk_law.specs.ListState.{ImageState}
use Rattle.lane_models.specs.LaneState.{Shape, fresh}
use Rattle.lane_laws.proofs.NearRuns.{fresh_is_near}
use Rattle.world_laws.specs.World.{WorldState, fresh_world}
use Rattle.world_laws.proofs.PlainSettle.{RestsAt}
use Rattle.world_laws.proofs.Regions.{IsFirstShape, region_long}
use Rattle.world_laws.proofs.Undisturbed.{Stands, accepted_at}
use Rattle.world_laws.specs.Plain.{Plain, untouched}
use Rattle.world_laws.specs.Quiet.{IsAtFront, IsPlain}

-- THE FRESH WORLD
fresh_stands : (shape : Shape) (first : List ℕ) → IsFirstShape shape → 512 * shape.blocks ≤ length first → Stands shape (untouched first) (fresh shape) first
fresh_stands shape first front holds = grind (arith, fresh_is_near, region_long)

pub fresh_rests : (shape : Shape) (image : ImageState) (first : List ℕ) → IsAtFront shape image first → RestsAt shape (untouched first) (fresh_world (shape ∷ []) image)
fresh_rests shape image first front = grind (arith, fresh_is_near, region_long)

-- what the plain list says of the world
pub plain_world : (shape : Shape) (p : Plain) (w : WorldState) → IsFirstShape shape → RestsAt shape p w → IsPlain p w
plain_world shape p w front rests =
    let stands = rests.beside.over.stands in
    record {
      lane = rests.beside.lane;
      lanes = rests.beside.lanes;
      told = rests.told;
      waiting = stands.waiting;
      accepted = accepted_at shape p.completed rests.beside.lane front.sound stands.lane ∙ ap (λ (xs : List Request). p.completed + length xs) stands.waiting;
    }
