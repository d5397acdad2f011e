-- A disk's region of the image's bytes, and a request that is completed on them.
use Rattle.std.proofs.Common.{◌≡◌, ℕ, zero, suc, ◌+◌, ◌-◌, ◌*◌, ◌<◌, ◌≤◌, ◌⊎◌, inl, inr, List, ◌∷◌, ◌++◌, length, take, drop, None, refl, sym, ap, ◌∙◌, arith, length-drop, length-take, take-append-drop, take_all, take-add}
use Rattle.vdisk_msg.proofs.Repeated.{length-repeated}
use Rattle.vdisk_msg.specs.declared.request.Request.{Request}
use Rattle.vdisk_msg.specs.declared.request.Request.TheVariants.{Flush, Read, Write}
use Rattle.vdisk_msg.specs.Requests.{after_request, defect, written}
use Rattle.vio_bytes.proofs.Putting.{drop-put_at}
use Rattle.vio_bytes.proofs.Ranges.{length-range_at, range_at-put_at_part, range_at-range_at}
use Rattle.vio_bytes.specs.Place.{put_at}
use Rattle.vio_bytes.specs.Range.{range_at}
use Rattle.lane_models.specs.LaneState.{IsShape, Shape}
use Rattle.lane_laws.proofs.BlockWrites.{admitted_blocks}
use Rattle.lane_laws.specs.Blocks.{block_at}
use Rattle.lane_laws.specs.ImageStep.{region_of}
use Rattle.lane_laws.specs.Near.{FrontShows}
use Rattle.lane_laws.specs.NearContent.{PendingPuts}
use Rattle.world_laws.specs.Plain.{given}

-- A DISK that begins the image
pub record IsFirstShape (shape : Shape) : Type 0 where
  pub sound : IsShape shape
  pub place : shape.first ≡ 0

-- the byte after the disk
abbrev pub end_of : Shape → ℕ
end_of shape = 512 * (shape.first + shape.blocks)

some_bytes : (blocks : ℕ) → 1 ≤ blocks → 1 ≤ 512 * blocks
some_bytes blocks some = omega (arith, some)

-- an image whose region is the whole disk holds it
pub region_room : (shape : Shape) (bytes : List ℕ) → IsShape shape → length (region_of shape bytes) ≡ 512 * shape.blocks → end_of shape ≤ length bytes
region_room shape bytes sound long = grind (arith, length-take, length-drop)

pub region_long : (shape : Shape) (bytes : List ℕ) → end_of shape ≤ length bytes → length (region_of shape bytes) ≡ 512 * shape.blocks
region_long shape bytes room = length-range_at (512 * shape.first) (512 * shape.blocks) bytes (omega (arith, room))

-- A REQUEST on the bytes of the image is one on the region, and leaves what lies after the disk
pub region_after : (shape : Shape) (content : List ℕ) (request : Request) → IsFirstShape shape → end_of shape ≤ length content → defect shape.blocks request ≡ None
    → region_of shape (after_request content request) ≡ after_request (region_of shape content) request
region_after shape content (Read block count) front room admitted = refl
region_after shape content (Write block count fill) front room admitted =
    let fits = admitted_blocks shape.blocks block count admitted in
    let first = front.place in
    let long : length (written fill count) ≡ 512 * count = length-repeated fill 0 (512 * count) in
    let place : 512 * block ≡ 512 * shape.first + 512 * block = omega (arith, first) in
    ap (λ (p : ℕ). region_of shape (put_at p (written fill count) content)) place
    ∙ range_at-put_at_part (512 * block) (512 * shape.first) (512 * shape.blocks) (written fill count) content (omega (arith, fits.2, long)) (omega (arith, room))
region_after shape content Flush front room admitted = refl

pub behind_after : (shape : Shape) (content : List ℕ) (request : Request) → IsFirstShape shape → end_of shape ≤ length content → defect shape.blocks request ≡ None
    → drop (end_of shape) (after_request content request) ≡ drop (end_of shape) content
behind_after shape content request front room admitted = grind (arith, admitted_blocks, length-repeated, drop-put_at)

pub given_same : (shape : Shape) (content : List ℕ) (request : Request) → IsFirstShape shape → defect shape.blocks request ≡ None → given (region_of shape content) request ≡ given content request
given_same shape content request front admitted = grind (arith, admitted_blocks, range_at-range_at)

-- THE SAME BYTES: lists with the same blocks, and with the same region and the same after it
fronts_same : (n : ℕ) (one other : List ℕ) → ((b : ℕ) → b < n → block_at b one ≡ block_at b other) → take (512 * n) one ≡ take (512 * n) other
fronts_same zero one other same = refl
fronts_same (suc n) one other same =
    let next : 512 * suc n ≡ 512 * n + 512 = omega arith in
    grind (arith, take-add, fronts_same n one other)

same_blocks : (blocks : ℕ) (one other : List ℕ) → length one ≡ 512 * blocks → length other ≡ 512 * blocks → ((b : ℕ) → b < blocks → block_at b one ≡ block_at b other) → one ≡ other
same_blocks blocks one other one_long other_long same =
    sym (take_all (512 * blocks) one (omega (arith, one_long))) ∙ fronts_same blocks one other same ∙ take_all (512 * blocks) other (omega (arith, other_long))

pub same_image : (shape : Shape) (one other : List ℕ) → IsFirstShape shape → region_of shape one ≡ region_of shape other → drop (end_of shape) one ≡ drop (end_of shape) other → one ≡ other
same_image shape one other front region behind =
    let first = front.place in
    let none : 512 * shape.first ≡ 0 = omega (arith, first) in
    let all : end_of shape ≡ 512 * shape.blocks = omega (arith, first) in
    let fronts : take (512 * shape.blocks) one ≡ take (512 * shape.blocks) other =
    sym (ap (λ (p : ℕ). range_at p (512 * shape.blocks) one) none) ∙ region ∙ ap (λ (p : ℕ). range_at p (512 * shape.blocks) other) none in
    let backs : drop (512 * shape.blocks) one ≡ drop (512 * shape.blocks) other =
    sym (ap (λ (p : ℕ). drop p one) all) ∙ behind ∙ ap (λ (p : ℕ). drop p other) all in
    sym (take-append-drop (512 * shape.blocks) one)
    ∙ ap (λ (xs : List ℕ). xs ++ drop (512 * shape.blocks) one) fronts
    ∙ ap (λ (xs : List ℕ). take (512 * shape.blocks) other ++ xs) backs
    ∙ take-append-drop (512 * shape.blocks) other

-- WHAT A COMPLETION SHOWS where no request after it was published before: what its request reads from the content
shown_block : (content bytes : List ℕ) (behind : List Request) (at b : ℕ) → (bytes ≡ block_at at content) ⊎ PendingPuts behind 0 (0 - 1) b bytes → bytes ≡ block_at at content
shown_block content bytes behind at b (inl same) = same
shown_block content bytes behind at b (inr puts) = let below = puts.below in absurd (omega (arith, below))

pub front_given : (blocks : ℕ) (content : List ℕ) (request : Request) (behind : List Request) (bytes : List ℕ) → length content ≡ 512 * blocks → defect blocks request ≡ None
    → FrontShows content (request ∷ behind) 0 bytes → bytes ≡ given content request
front_given blocks content (Read block count) behind bytes long admitted shows =
    let fits = admitted_blocks blocks block count admitted in
    let room : 512 * block + 512 * count ≤ length content = omega (arith, fits.2, long) in
    same_blocks count bytes (range_at (512 * block) (512 * count) content) shows.0 (length-range_at (512 * block) (512 * count) content room) (λ b below.
    shown_block content (block_at b bytes) behind (block + b) (block + b) (shows.1 b below) ∙ sym (block_in block count b content below))
  where
    block_in : (block count b : ℕ) (content : List ℕ) → b < count → block_at b (range_at (512 * block) (512 * count) content) ≡ block_at (block + b) content
    block_in block count b content below =
        let place : 512 * block + 512 * b ≡ 512 * (block + b) = omega arith in
        range_at-range_at (512 * b) 512 (512 * block) (512 * count) content (omega (arith, below)) ∙ ap (λ (p : ℕ). range_at p 512 content) place
front_given blocks content (Write block count fill) behind bytes long admitted shows = shows
front_given blocks content Flush behind bytes long admitted shows = shows
