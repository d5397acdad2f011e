-- The lanes of declared disks, one after another, and the world that they make.
use Rattle.std.proofs.Common.{◌≡◌, ℕ, zero, suc, ◌+◌, ◌*◌, ◌≤◌, Some, None, List, [], ◌∷◌, ◌++◌, length, map, take, slice_get, refl, sym, ap, subst, ◌∙◌, arith}
use Rattle.std.proofs.lemmas.List.{length-append, take_all}
use Rattle.recorded_lanes.specs.world_parts.lane_models.LaneState.{IsShape, LaneState, Shape, fresh}
use Rattle.domain_script.specs.Declarations.{IsDisk}
use Rattle.domain_script.specs.declared.event.DiskDecl.{DiskDecl}
use Rattle.recorded_lanes.specs.world_parts.world_laws.Rounds.{Each}
use Rattle.lane_kinds.proofs.Places.{after_one, map_both, take_one}
use Rattle.recorded_lanes.specs.world_parts.Declared.{LiesWithin, blocks_of, bytes_needed, shape_of, shapes_of}

-- a declared disk has the shape of a lane
pub disk_shape : (first : ℕ) (disk : DiskDecl) → IsDisk disk → IsShape (shape_of first disk)
disk_shape first disk is = record {
  some_blocks = is.some_blocks;
  most_blocks = is.most_blocks;
  some_slots = is.least_ring;
  most_slots = is.most_ring;
  slots = is.ring_power;
  some_entries = is.least_queue;
  most_entries = is.most_queue;
  entries = is.queue_power;
}

-- ONE MORE DISK after others
blocks_both : (first blocks rest : ℕ) → (first + blocks) + rest ≡ first + (blocks + rest)
blocks_both first blocks rest = omega (arith)

nothing_before : (first : ℕ) → first ≡ first + 0
nothing_before first = omega (arith)

shapes_more : (first : ℕ) (disks : List DiskDecl) (disk : DiskDecl)
    → shapes_of first (disks ++ disk ∷ []) ≡ shapes_of first disks ++ shape_of (first + blocks_of disks) disk ∷ []
shapes_more first [] disk = ap (λ (n : ℕ). shape_of n disk ∷ []) (nothing_before first)
shapes_more first (d ∷ disks) disk =
    ap (λ (l : List Shape). shape_of first d ∷ l)
    (shapes_more (first + d.blocks) disks disk
    ∙ ap (λ (n : ℕ). shapes_of (first + d.blocks) disks ++ shape_of n disk ∷ [])
    (blocks_both first d.blocks (blocks_of disks)))

blocks_more : (disks : List DiskDecl) (disk : DiskDecl) → blocks_of (disks ++ disk ∷ []) ≡ blocks_of disks + disk.blocks
blocks_more [] disk = omega (arith)
blocks_more (d ∷ disks) disk = omega (arith, blocks_more disks disk)

-- and among the first k
pub take_more : {X : Type 0} (xs : List X) (k : ℕ) (x : X) → slice_get xs k ≡ Some x
    → take (k + 1) xs ≡ take k xs ++ x ∷ []
take_more xs k x there = ap (λ (n : ℕ). take n xs) (after_one k) ∙ take_one xs k x there

module _ (disks : List DiskDecl) (k first : ℕ) (disk : DiskDecl) where
  pub lanes_more : (lanes new : List LaneState) (lane : LaneState) → slice_get disks k ≡ Some disk
      → first ≡ blocks_of (take k disks) → lanes ≡ map fresh (shapes_of 0 (take k disks))
      → lane ≡ fresh (shape_of first disk) → new ≡ lanes ++ lane ∷ []
      → new ≡ map fresh (shapes_of 0 (take (k + 1) disks))
  lanes_more lanes new lane there first_is lanes_are lane_is grew =
      let front = take k disks in
      let at : first ≡ 0 + blocks_of front =
      first_is ∙ (let none : blocks_of front ≡ 0 + blocks_of front = omega (arith) in none) in
      grew ∙ ap (λ (l : List LaneState). l ++ lane ∷ []) lanes_are
      ∙ ap (λ (s : LaneState). map fresh (shapes_of 0 front) ++ s ∷ []) lane_is
      ∙ ap (λ (n : ℕ). map fresh (shapes_of 0 front) ++ fresh (shape_of n disk) ∷ []) at
      ∙ sym (map_both fresh (shapes_of 0 front) (shape_of (0 + blocks_of front) disk ∷ []))
      ∙ ap (λ (l : List Shape). map fresh l) (sym (shapes_more 0 front disk))
      ∙ ap (λ (l : List DiskDecl). map fresh (shapes_of 0 l)) (sym (take_more disks k disk there))

  pub first_more : slice_get disks k ≡ Some disk → first ≡ blocks_of (take k disks)
      → first + disk.blocks ≡ blocks_of (take (k + 1) disks)
  first_more there first_is =
      ap (λ (n : ℕ). n + disk.blocks) first_is ∙ sym (blocks_more (take k disks) disk)
      ∙ ap (λ (l : List DiskDecl). blocks_of l) (sym (take_more disks k disk there))

pub one_longer : {X : Type 0} (xs new : List X) (x : X) (k : ℕ) → new ≡ xs ++ x ∷ [] → length xs ≡ k
    → length new ≡ k + 1
one_longer {X} xs new x k grew long =
    omega (arith, ap (λ (l : List X). length l) grew, length-append xs (x ∷ []), long)

-- ALL OF THEM: there are no more than these
pub take_none : {X : Type 0} (xs : List X) (k : ℕ) → slice_get xs k ≡ None → take k xs ≡ xs
take_none [] zero none = refl
take_none [] (suc k) none = refl
take_none (x ∷ xs) zero none = absurd (cc none)
take_none {X} (x ∷ xs) (suc k) none = ap (λ (l : List X). x ∷ l) (take_none xs k none)

module _ (disks : List DiskDecl) (k : ℕ) (lanes : List LaneState) (are : lanes ≡ map fresh (shapes_of 0 (take k disks))) where
  pub no_more_lanes : slice_get disks k ≡ None → lanes ≡ map fresh (shapes_of 0 disks)
  no_more_lanes none = are ∙ ap (λ (l : List DiskDecl). map fresh (shapes_of 0 l)) (take_none disks k none)

  pub all_lanes : length disks ≤ k → lanes ≡ map fresh (shapes_of 0 disks)
  all_lanes few = are ∙ ap (λ (l : List DiskDecl). map fresh (shapes_of 0 l)) (take_all k disks few)

-- AN IMAGE that holds them all holds each
within_from : (size first : ℕ) (disks : List DiskDecl) → 512 * (first + blocks_of disks) ≤ size
    → Each (LiesWithin size) (map fresh (shapes_of first disks))
within_from size first [] holds = tt
within_from size first (disk ∷ disks) holds = (
  omega (arith, holds),
  within_from size (first + disk.blocks) disks (omega (arith, holds)),
)

pub all_within : (size : ℕ) (disks : List DiskDecl) (lanes : List LaneState) → bytes_needed disks ≤ size
    → lanes ≡ map fresh (shapes_of 0 disks) → Each (LiesWithin size) lanes
all_within size disks lanes holds are =
    subst (λ (l : List LaneState). Each (LiesWithin size) l) (sym are) (within_from size 0 disks (omega (arith, holds)))
