-- The shapes of declared disks.
use Rattle.std.proofs.Common.{◌≡◌, ℕ, zero, suc, ◌+◌, ◌*◌, ◌≤◌, Option, Some, None, IfSome, List, [], ◌∷◌, length, map, slice_get, refl, ap, arith}
use Rattle.world_parts.specs.lane_models.LaneState.{IsShape, LaneState, Shape, fresh}
use Rattle.domain_script.specs.declared.event.DiskDecl.{DiskDecl}
use Rattle.domain_script.specs.Declarations.{AreDisks, IsDisk}
use Rattle.world_parts.specs.world_laws.World.{AreShapes, blocks_in}
use Rattle.world_parts.specs.Declared.{blocks_of, bytes_needed, shape_of, shapes_of}

is_shape : (first : ℕ) (disk : DiskDecl) → IsDisk disk → IsShape (shape_of first disk)
is_shape first disk is = grind arith

pub are_shapes : (first : ℕ) (disks : List DiskDecl) → AreDisks disks → AreShapes first (shapes_of first disks)
are_shapes first [] are = tt
are_shapes first (disk ∷ disks) are =
    (is_shape first disk are.0, refl, are_shapes (first + disk.blocks) disks are.1)

pub many_shapes : (first : ℕ) (disks : List DiskDecl) → length (shapes_of first disks) ≡ length disks
many_shapes first [] = refl
many_shapes first (disk ∷ disks) = let rest = many_shapes (first + disk.blocks) disks in omega (arith, rest)

same_blocks : (first : ℕ) (disks : List DiskDecl) → blocks_in (shapes_of first disks) ≡ blocks_of disks
same_blocks first [] = refl
same_blocks first (disk ∷ disks) = let rest = same_blocks (first + disk.blocks) disks in omega (arith, rest)

-- an image that has all their bytes has those of their blocks
pub holds_all : (disks : List DiskDecl) (told : Option (List ℕ)) → IfSome told (λ bytes. bytes_needed disks ≤ length bytes)
    → IfSome told (λ bytes. 512 * blocks_in (shapes_of 0 disks) ≤ length bytes)
holds_all disks None within = tt
holds_all disks (Some content) within = let same = same_blocks 0 disks in omega (arith, same, within)

-- each disk has its shape, at its own place
pub shape_there : (first : ℕ) (disks : List DiskDecl) (x : ℕ) (disk : DiskDecl) → slice_get disks x ≡ Some disk
    → (at : ℕ) × (slice_get (shapes_of first disks) x ≡ Some (shape_of at disk))
shape_there first [] x disk there = absurd (cc there)
shape_there first (d ∷ disks) zero disk there =
    let same : d ≡ disk = cc there in (first, ap (λ (y : DiskDecl). Some (shape_of first y)) same)
shape_there first (d ∷ disks) (suc x) disk there = shape_there (first + d.blocks) disks x disk there

-- a fresh lane has its shape
pub fresh_shapes : (shapes : List Shape) → map (λ (s : LaneState). s.shape) (map fresh shapes) ≡ shapes
fresh_shapes [] = refl
fresh_shapes (shape ∷ shapes) = ap (λ (l : List Shape). shape ∷ l) (fresh_shapes shapes)
