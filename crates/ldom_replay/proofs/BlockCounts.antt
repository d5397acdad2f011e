-- The blocks of disks, one disk after another.
use Rattle.std.proofs.Common.{◌≡◌, ℕ, ◌+◌, zero, suc, List, [], ◌∷◌, drop, Some, None, slice_get, refl, ap, arith}
use Rattle.domain_script.specs.declared.event.DiskDecl.{DiskDecl}
use Rattle.ldom_world.specs.world_parts.Declared.{blocks_of}

-- those of the disk with this number, and those after it
behind_one : (disks : List DiskDecl) (k : ℕ) (disk : DiskDecl) → Some disk ≡ slice_get disks k → blocks_of (drop k disks) ≡ disk.blocks + blocks_of (drop (suc k) disks)
behind_one [] k disk is = absurd (cc is)
behind_one (first ∷ disks) zero disk is = let same : first ≡ disk = cc is in ap (λ (d : DiskDecl). d.blocks + blocks_of disks) same
behind_one (first ∷ disks) (suc k) disk is = behind_one disks k disk is

pub one_more : (disks : List DiskDecl) (k blocks more : ℕ) (disk : DiskDecl) → Some disk ≡ slice_get disks k → more ≡ disk.blocks → blocks + blocks_of (drop k disks) ≡ blocks_of disks
    → blocks + more + blocks_of (drop (k + 1) disks) ≡ blocks_of disks
one_more disks k blocks more disk is adds so_far =
    let next : suc k ≡ k + 1 = omega arith in
    omega (arith, behind_one disks k disk is, adds, so_far, ap (λ (n : ℕ). blocks_of (drop n disks)) next)

none_behind : (disks : List DiskDecl) (k : ℕ) → None ≡ slice_get disks k → drop k disks ≡ []
none_behind [] zero is = refl
none_behind [] (suc k) is = refl
none_behind (first ∷ disks) zero is = absurd (cc is)
none_behind (first ∷ disks) (suc k) is = none_behind disks k is

-- there is no such disk
pub no_more : (disks : List DiskDecl) (k blocks : ℕ) → None ≡ slice_get disks k → blocks + blocks_of (drop k disks) ≡ blocks_of disks → blocks ≡ blocks_of disks
no_more disks k blocks none so_far = omega (arith, so_far, ap (λ (l : List DiskDecl). blocks_of l) (none_behind disks k none))
