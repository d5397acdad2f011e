-- The lines of a quiet script are quiet lines of a lane, whose disk begins the image.
use Rattle.std.proofs.Common.{◌≡◌, ℕ, ◌*◌, ◌≤◌, List, [], ◌∷◌, length, map, Some, arith}
use Rattle.disk_law.specs.ListState.{ImageState}
use Rattle.world_parts.specs.lane_models.LaneState.{IsShape}
use Rattle.domain_script.specs.Declarations.{IsDisk}
use Rattle.domain_script.specs.declared.event.DiskDecl.{DiskDecl}
use Rattle.domain_script.specs.declared.event.Event.{Event}
use Rattle.domain_script.specs.declared.event.Event.TheVariants as event
use Rattle.script_laws.specs.Quiet.{AreQuiet, IsQuiet}
use Rattle.world_parts.specs.Declared.{shape_of}
use Rattle.world_parts.specs.Lines.{line_of}
use Rattle.world_parts.specs.domain_laws.Quiet as quiet_world
use Rattle.world_parts.specs.world_laws.Quiet.{IsAtFront}

-- THE DISK begins its image
pub disk_shape : (disk : DiskDecl) → IsDisk disk → IsShape (shape_of 0 disk)
disk_shape disk is = grind arith

pub disk_front : (disk : DiskDecl) (image : ImageState) (content : List ℕ) → IsDisk disk → image.told ≡ Some content
    → 512 * disk.blocks ≤ length content → image.faults ≡ 0 → IsAtFront (shape_of 0 disk) image content
disk_front disk image content is told holds well = grind (arith, disk_shape)

-- ITS LINES are quiet lines of a lane
behind_quiet : (events : List Event) → AreQuiet events → quiet_world.AreQuiet (map line_of events)
behind_quiet [] quiet = tt
behind_quiet (event.Blank ∷ events) quiet = (tt, behind_quiet events quiet.1)
behind_quiet (event.Issue number request ∷ events) quiet = (quiet.0, behind_quiet events quiet.1)
behind_quiet (event.Settle ∷ events) quiet = (tt, behind_quiet events quiet.1)
behind_quiet (_ ∷ events) quiet = absurd quiet.0

pub quiet_events : (disk : DiskDecl) (events : List Event) → IsQuiet disk events
    → quiet_world.AreQuiet (map line_of events)
quiet_events disk (event.Blank ∷ events) quiet = (tt, quiet_events disk events quiet)
quiet_events disk events quiet = grind (arith, behind_quiet)
