-- Requests that a disk may serve.
use Rattle.std.proofs.Common.{◌≡◌, ℕ, ◌≤◌, List, [], ◌∷◌, ◌++◌, Some, None, slice_get, arith, subst}
use Rattle.std.proofs.lemmas.Bool.Decides.{nat_tests}
use Rattle.vdisk_msg.specs.declared.request.Request.{Request}
use Rattle.vdisk_msg.specs.declared.request.Request.TheVariants.{Read, Write, Flush}
use Rattle.disk_law.specs.Requests.{AreSound, defect, blocks_defect}
use Rattle.vdisk_msg.specs.Fills.{IsRequest}

pub sound_push : (blocks : ℕ) (requests : List Request) (request : Request) → AreSound blocks requests → defect blocks request ≡ None → IsRequest request → AreSound blocks (requests ++ request ∷ [])
sound_push blocks [] request sound admitted fill = (admitted, fill, tt)
sound_push blocks (first ∷ requests) request sound admitted fill = (sound.0, sound.1, sound_push blocks requests request sound.2 admitted fill)

small_count : (blocks block count : ℕ) → blocks_defect blocks block count ≡ None → count ≤ 64
small_count blocks block count is = grind (arith, nat_tests)

-- the first of them names at most 64 blocks
pub front_small : (blocks : ℕ) (requests : List Request) (block count : ℕ) → AreSound blocks requests → slice_get requests 0 ≡ Some (Read block count) → count ≤ 64
front_small blocks [] block count sound is = absurd (cc is)
front_small blocks (Read start n ∷ requests) block count sound is = let same : n ≡ count = cc is in subst (λ (k : ℕ). k ≤ 64) same (small_count blocks start n sound.0)
front_small blocks (Write start n fill ∷ requests) block count sound is = absurd (cc is)
front_small blocks (Flush ∷ requests) block count sound is = absurd (cc is)
