-- The definitions on a disk of two blocks: two writes, one of them stored half, in work or after a reset, and an image that isn't near.
use Rattle.std.proofs.Common.{◌≡◌, ℕ, zero, suc, ◌+◌, ◌<◌, ◌⊎◌, List, [], ◌∷◌, ◌++◌, replicate, Some, inl, inr, refl, arith}
use Rattle.vdisk_msg.specs.declared.request.Fill.{Fill}
use Rattle.vdisk_msg.specs.declared.request.Request.{Request}
use Rattle.vdisk_msg.specs.declared.request.Request.TheVariants.{Read, Write}
use Rattle.vdisk_msg.specs.Requests.{repeated}
use Rattle.lane_laws.specs.Blocks.{WritesBlock, after_requests, block_at}
use Rattle.lane_laws.specs.Near.{FrontShows}
use Rattle.lane_laws.specs.NearContent.{IsAmong, NearContent, PendingPuts, Shows}

abbrev filled_with : ℕ → Fill
filled_with byte = record { len = 1; bytes = byte ∷ replicate 1023 0 }

abbrev zeros : List ℕ
zeros = replicate 1024 0

abbrev both_blocks : Request
both_blocks = Write 0 2 (filled_with 7)

abbrev last_block : Request
last_block = Write 1 1 (filled_with 9)

-- what two writes leave: the later one counts where both write
first_left : block_at 0 (after_requests zeros (both_blocks ∷ last_block ∷ [])) ≡ replicate 512 7
unfolding repeated
first_left = refl

last_left : block_at 1 (after_requests zeros (both_blocks ∷ last_block ∷ [])) ≡ replicate 512 9
unfolding repeated
last_left = refl

abbrev half_stored : List ℕ
half_stored = replicate 512 7 ++ replicate 512 0

-- the first block of the write is stored, and it is in work
in_work : NearContent 2 zeros (both_blocks ∷ []) 0 0 1 half_stored
unfolding repeated
in_work = record {
  stored = stored;
  others = others;
}
  where
    stored : (b : ℕ) → IsAmong (Some both_blocks) 1 b → WritesBlock both_blocks b (block_at b half_stored)
    stored zero among = ((omega arith, omega arith), refl)
    stored (suc b) among = absurd (omega (arith, among.1))

    others : (b : ℕ) → b < 2 → (IsAmong (Some both_blocks) 1 b → ⊥) → Shows zeros (both_blocks ∷ []) 0 0 b (block_at b half_stored)
    others zero below not = absurd (not (omega arith, omega arith))
    others (suc zero) below not = inl refl
    others (suc (suc b)) below not = absurd (omega (arith, below))

-- after a reset it was published in an earlier session, and is to be stored again
behind_reset : NearContent 2 zeros (both_blocks ∷ []) 0 1 0 half_stored
unfolding repeated
behind_reset = record {
  stored = λ b among. absurd (omega (arith, among.0, among.1));
  others = others;
}
  where
    others : (b : ℕ) → b < 2 → (IsAmong (Some both_blocks) 0 b → ⊥) → Shows zeros (both_blocks ∷ []) 0 1 b (block_at b half_stored)
    others zero below not = inr (record { place = 0; request = both_blocks; from = omega arith; below = omega arith; there = refl; puts = ((omega arith, omega arith), refl) })
    others (suc zero) below not = inl refl
    others (suc (suc b)) below not = absurd (omega (arith, below))

-- without a reset such an image isn't near: nothing of the write is stored, but its first block stands there
not_near : NearContent 2 zeros (both_blocks ∷ []) 0 0 0 half_stored → ⊥
unfolding repeated
not_near near = grind arith

-- where both were disturbed it may show the write after it
read_disturbed : FrontShows zeros (Read 1 1 ∷ last_block ∷ []) 2 (replicate 512 9)
unfolding repeated
read_disturbed = (refl, blocks)
  where
    blocks : (b : ℕ) → b < 1 → (block_at b (replicate 512 9) ≡ block_at (1 + b) zeros) ⊎ PendingPuts (last_block ∷ []) 0 1 (1 + b) (block_at b (replicate 512 9))
    blocks zero less = inr (record { place = 0; request = last_block; from = omega arith; below = omega arith; there = refl; puts = ((omega arith, omega arith), refl) })
    blocks (suc b) less = absurd (omega (arith, less))
