-- The requests that a client holds: each may be asked of its disk, and moves at most 64 blocks.
use Rattle.std.specs.Prelude.{if◌then◌else◌}
use Rattle.std.proofs.Common.{◌≡◌, ℕ, zero, suc, ◌≤◌, Bool, true, false, List, [], ◌∷◌, ◌++◌, Some, None, slice_get, drop, arith, subst}
use Rattle.std.proofs.lemmas.Bool.Decides.{nat_tests}
use Rattle.vdisk_msg.specs.Check.{most_bytes}
use Rattle.vdisk_msg.specs.declared.request.Request.{Request}
use Rattle.vdisk_msg.specs.declared.request.Request.TheVariants.{Read, Write, Flush}
use Rattle.vdisk_msg.specs.Fills.{IsRequest}
use Rattle.vdisk_msg.specs.Requested.{size_of}
use Rattle.vdisk_msg.specs.Requests.{AreSound, blocks_defect, defect, given_count}

pub sound_push : (blocks : ℕ) (requests : List Request) (request : Request) → AreSound blocks requests → defect blocks request ≡ None → IsRequest request → AreSound blocks (requests ++ request ∷ [])
sound_push blocks [] request sound admitted fill = (admitted, fill, tt)
sound_push blocks (first ∷ requests) request sound admitted fill = (sound.0, sound.1, sound_push blocks requests request sound.2 admitted fill)

pub sound_rest : (blocks : ℕ) (requests : List Request) → AreSound blocks requests → AreSound blocks (drop 1 requests)
sound_rest blocks [] sound = tt
sound_rest blocks (first ∷ requests) sound = sound.2

-- each of them may be asked
pub record MayBeAsked (blocks : ℕ) (request : Request) : Type 0 where
  pub admitted : defect blocks request ≡ None
  pub fill : IsRequest request

pub sound_at : (blocks : ℕ) (requests : List Request) (k : ℕ) (request : Request) → AreSound blocks requests → slice_get requests k ≡ Some request → MayBeAsked blocks request
sound_at blocks [] k request sound is = absurd (cc is)
sound_at blocks (first ∷ requests) zero request sound is = let same : first ≡ request = cc is in subst (λ (r : Request). MayBeAsked blocks r) same (record { admitted = sound.0; fill = sound.1 })
sound_at blocks (first ∷ requests) (suc k) request sound is = sound_at blocks requests k request sound.2 is

small_count : (blocks block count : ℕ) → blocks_defect blocks block count ≡ None → count ≤ 64
small_count blocks block count is = grind (arith, nat_tests)

pub small_size : (blocks : ℕ) (request : Request) → defect blocks request ≡ None → size_of request ≤ most_bytes
small_size blocks (Read block count) is = omega (arith, small_count blocks block count is)
small_size blocks (Write block count fill) is = omega (arith, small_count blocks block count is)
small_size blocks Flush is = omega arith

pub small_given : (blocks : ℕ) (request : Request) → defect blocks request ≡ None → given_count request ≤ most_bytes
small_given blocks (Read block count) is = omega (arith, small_count blocks block count is)
small_given blocks (Write block count fill) is = omega arith
small_given blocks Flush is = omega arith

-- the first of them, where it is a read
pub front_read : (blocks : ℕ) (requests : List Request) (block count : ℕ) → AreSound blocks requests → slice_get requests 0 ≡ Some (Read block count) → count ≤ 64
front_read blocks requests block count sound is = small_count blocks block count (sound_at blocks requests 0 (Read block count) sound is).admitted

pub most_given : (b : Bool) (n : ℕ) → n ≤ most_bytes → (if b then n else 0) ≤ most_bytes
most_given true n few = few
most_given false n few = omega arith
