-- The blocks of what requests leave, and of what is put into an image.
use Rattle.std.proofs.Common.{◌≡◌, ℕ, zero, suc, ◌+◌, ◌-◌, ◌*◌, ◌<◌, ◌≤◌, ◌⊎◌, List, [], ◌∷◌, ◌++◌, length, take, Some, None, inl, inr, refl, ap, ◌∙◌, arith}
use Rattle.std.specs.Prelude.{slice_get}
use Rattle.std.proofs.lemmas.Bool.Decides.{nat_tests}
use Rattle.vdisk_msg.proofs.Repeated.{length-repeated}
use Rattle.vdisk_msg.specs.declared.request.Request.{Request}
use Rattle.vdisk_msg.specs.declared.request.Request.TheVariants.{Flush, Read, Write}
use Rattle.vdisk_msg.specs.Requests.{AreSound, after_request, blocks_defect, defect, written}
use Rattle.vio_bytes.proofs.Putting.{length-put_at}
use Rattle.vio_bytes.proofs.Ranges.{range_at-put_at_inside, range_at-put_at_outside}
use Rattle.vio_bytes.specs.Place.{put_at}
use Rattle.vio_bytes.specs.Range.{range_at}
use Rattle.lane_models.proofs.Apart.{some_same}
use Rattle.lane_laws.specs.Blocks.{WritesBlock, Reaches, after_requests, block_at}

-- WHAT IS PUT from a block on
pub block_put_in : (o n b : ℕ) (piece bytes : List ℕ) → length piece ≡ 512 * n → o ≤ b → b < o + n → 512 * o ≤ length bytes
    → block_at b (put_at (512 * o) piece bytes) ≡ block_at (b - o) piece
block_put_in o n b piece bytes long from below room =
    let place : 512 * b ≡ 512 * o + 512 * (b - o) = omega (arith, from) in
    ap (λ (p : ℕ). range_at p 512 (put_at (512 * o) piece bytes)) place
    ∙ range_at-put_at_inside (512 * (b - o)) 512 (512 * o) piece bytes (omega (arith, long, from, below)) room

pub block_put_out : (o n b : ℕ) (piece bytes : List ℕ) → length piece ≡ 512 * n → 512 * (o + n) ≤ length bytes → (b < o) ⊎ (o + n ≤ b)
    → block_at b (put_at (512 * o) piece bytes) ≡ block_at b bytes
block_put_out o n b piece bytes long room (inl before) =
    range_at-put_at_outside (512 * b) 512 (512 * o) piece bytes (omega (arith, long, room)) (inl (omega (arith, before)))
block_put_out o n b piece bytes long room (inr behind) =
    range_at-put_at_outside (512 * b) 512 (512 * o) piece bytes (omega (arith, long, room)) (inr (omega (arith, long, behind)))

-- AN ADMITTED REQUEST lies within the disk
pub admitted_blocks : (blocks block count : ℕ) → blocks_defect blocks block count ≡ None → (1 ≤ count) × (count ≤ 64) × (block + count ≤ blocks)
admitted_blocks blocks block count is = (grind (arith, nat_tests), grind (arith, nat_tests), grind (arith, nat_tests))

pub after_long : (blocks : ℕ) (content : List ℕ) (request : Request) → defect blocks request ≡ None → length content ≡ 512 * blocks → length (after_request content request) ≡ 512 * blocks
after_long blocks content request admitted long = grind (arith, length-put_at, length-repeated)

pub in_or_out : (o n b : ℕ) → (((o ≤ b) × (b < o + n)) ⊎ ((b < o) ⊎ (o + n ≤ b)))
in_or_out o n b = grind arith

pub reaches_or_not : (request : Request) (b : ℕ) → Reaches request b ⊎ (Reaches request b → ⊥)
reaches_or_not (Read block count) b = inr (λ never. never)
reaches_or_not (Write block count fill) b = by_range (in_or_out block count b)
  where
    by_range : (((block ≤ b) × (b < block + count)) ⊎ ((b < block) ⊎ (block + count ≤ b))) → Reaches (Write block count fill) b ⊎ (Reaches (Write block count fill) b → ⊥)
    by_range (inl inside) = inl inside
    by_range (inr (inl before)) = inr (λ reaches. absurd (omega (arith, before, reaches.0)))
    by_range (inr (inr behind)) = inr (λ reaches. absurd (omega (arith, behind, reaches.1)))
reaches_or_not Flush b = inr (λ never. never)

pub after_reached : (blocks : ℕ) (content : List ℕ) (request : Request) (b : ℕ) → defect blocks request ≡ None → length content ≡ 512 * blocks → Reaches request b
    → WritesBlock request b (block_at b (after_request content request))
after_reached blocks content (Read block count) b admitted long reaches = absurd reaches
after_reached blocks content (Write block count fill) b admitted long reaches =
    let fits = admitted_blocks blocks block count admitted in
    (reaches, block_put_in block count b (written fill count) content (length-repeated fill 0 (512 * count)) reaches.0 reaches.1 (omega (arith, fits.2, long)))
after_reached blocks content Flush b admitted long reaches = absurd reaches

pub after_missed : (blocks : ℕ) (content : List ℕ) (request : Request) (b : ℕ) → defect blocks request ≡ None → length content ≡ 512 * blocks → (Reaches request b → ⊥)
    → block_at b (after_request content request) ≡ block_at b content
after_missed blocks content (Read block count) b admitted long not = refl
after_missed blocks content (Write block count fill) b admitted long not = by_range (in_or_out block count b)
  where
    by_range : (((block ≤ b) × (b < block + count)) ⊎ ((b < block) ⊎ (block + count ≤ b))) → block_at b (put_at (512 * block) (written fill count) content) ≡ block_at b content
    by_range (inl inside) = absurd (not inside)
    by_range (inr outside) =
        let fits = admitted_blocks blocks block count admitted in
        block_put_out block count b (written fill count) content (length-repeated fill 0 (512 * count)) (omega (arith, fits.2, long)) outside
after_missed blocks content Flush b admitted long not = refl

pub puts_same : (request : Request) (b : ℕ) (one other : List ℕ) → WritesBlock request b one → WritesBlock request b other → one ≡ other
puts_same request b one other puts also = grind arith

-- REQUESTS one after another
pub take_more : (xs : List Request) (k : ℕ) (request : Request) → slice_get xs k ≡ Some request → take (suc k) xs ≡ take k xs ++ request ∷ []
take_more [] k request is = absurd (cc is)
take_more (x ∷ xs) zero request is = let same : x ≡ request = some_same is in ap (λ (r : Request). r ∷ []) same
take_more (x ∷ xs) (suc k) request is = ap (λ (rs : List Request). x ∷ rs) (take_more xs k request is)

pub after_append : (content : List ℕ) (xs : List Request) (request : Request) → after_requests content (xs ++ request ∷ []) ≡ after_request (after_requests content xs) request
after_append content [] request = refl
after_append content (x ∷ xs) request = after_append (after_request content x) xs request

pub after_more : (content : List ℕ) (pending : List Request) (k : ℕ) (request : Request) → slice_get pending k ≡ Some request
    → after_requests content (take (k + 1) pending) ≡ after_request (after_requests content (take k pending)) request
after_more content pending k request is =
    let next : k + 1 ≡ suc k = omega arith in
    ap (λ (n : ℕ). after_requests content (take n pending)) next
    ∙ ap (after_requests content) (take_more pending k request is)
    ∙ after_append content (take k pending) request

pub all_long : (blocks : ℕ) (content : List ℕ) (pending : List Request) (k : ℕ) → AreSound blocks pending → length content ≡ 512 * blocks
    → length (after_requests content (take k pending)) ≡ 512 * blocks
all_long blocks content pending zero sound long = long
all_long blocks content [] (suc k) sound long = long
all_long blocks content (x ∷ xs) (suc k) sound long = all_long blocks (after_request content x) xs k sound.2 (after_long blocks content x sound.0 long)
