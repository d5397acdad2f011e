-- The offers of a disk's lane match, and their numbers are of their fields' widths.
use Rattle.std.proofs.Common.{◌≡◌, ℕ, zero, suc, ◌+◌, ◌*◌, ◌%◌, ◌^◌, ◌<◌, ◌≤◌, Bool, true, false, [], ◌∷◌, length, refl, arith, nat_le}
use Rattle.std.specs.Prelude.{if◌then◌else◌}
use Rattle.std.proofs.lemmas.Bool.Decides.{nat_tests}
use Rattle.vdisk_msg.specs.Requested.{ring_pages}
use Rattle.vio_handshake.specs.Acceptance.{are_aligned, hold_ring, sizes}
use Rattle.vio_handshake.specs.Attributes.{blocks_of}
use Rattle.vio_handshake.specs.Offers.{FitsRing, Match}
use Rattle.lane_models.specs.OwnMemory.{page_cookies}
use Rattle.lane_models.specs.Offering.{client_offer, own_cookies, server_offer}
use Rattle.lane_models.specs.LaneCore.{OfferFits}
use Rattle.lane_laws.proofs.OfferedRing.{cookies_are, few_cookies, filled_front, filled_long, offered_form}

-- THE RING is aligned, and its cookies hold it
aligned_pages : (page n : ℕ) → are_aligned (page_cookies page n) ≡ true
aligned_pages page zero = refl
aligned_pages page (suc n) =
    let even : (8192 * page) % 8 ≡ 0 = omega arith in
    rw (even, aligned_pages (page + 1) n) refl

sizes_pages : (page n : ℕ) → sizes (page_cookies page n) ≡ 8192 * n
sizes_pages page zero = refl
sizes_pages page (suc n) = omega (arith, sizes_pages (page + 1) n)

holds_if : (b : Bool) (slots : ℕ) → hold_ring (if b then page_cookies 0 (ring_pages slots) else record { address = 0; size = 128 * slots } ∷ []) (slots * 128) ≡ true
unfolding hold_ring
holds_if true slots =
    let enough : nat_le (slots * 128) (sizes (page_cookies 0 (ring_pages slots))) ≡ true =
    (let most : slots * 128 ≤ sizes (page_cookies 0 (ring_pages slots)) = omega (arith, sizes_pages 0 (ring_pages slots)) in grind (arith, nat_tests)) in
    rw (aligned_pages 0 (ring_pages slots)) enough
holds_if false slots =
    let even : (128 * slots) % 8 ≡ 0 = omega arith in
    let enough : nat_le (slots * 128) (128 * slots + 0) ≡ true = grind (arith, nat_tests) in
    rw (even) enough

some_if : (b : Bool) (slots : ℕ) → 1 ≤ slots → 1 ≤ length (if b then page_cookies 0 (ring_pages slots) else record { address = 0; size = 128 * slots } ∷ [])
some_if true slots some = pages_some (ring_pages slots) (omega (arith, some))
  where
    pages_some : (n : ℕ) → 1 ≤ n → 1 ≤ length (page_cookies 0 n)
    pages_some zero less = absurd (omega (arith, less))
    pages_some (suc n) less = omega arith
some_if false slots some = omega arith

fits_ring : (blocks slots : ℕ) → 1 ≤ slots → slots ≤ 256 → FitsRing (client_offer blocks slots) (server_offer blocks slots)
fits_ring blocks slots some few = search (some_if, few_cookies, filled_front, holds_if)

blocks_back : (blocks slots : ℕ) → blocks < 2 ^ 64 → blocks_of (client_offer blocks slots) ≡ blocks
blocks_back blocks slots few = grind arith

pub offers_match : (blocks slots : ℕ) → 1 ≤ slots → slots ≤ 256 → blocks < 2 ^ 64 → Match (client_offer blocks slots) (server_offer blocks slots)
offers_match blocks slots some few most = search (fits_ring, blocks_back)

-- THE NUMBERS are of their fields' widths
pub client_fits : (blocks slots : ℕ) → slots ≤ 256 → OfferFits (client_offer blocks slots)
client_fits blocks slots few = record {
  minor = omega arith;
  class = omega arith;
  slots = omega (arith, few);
  slot_size = omega arith;
  room = filled_long 14 (own_cookies slots);
  cookies = cookies_are blocks slots few;
  form = offered_form blocks slots few;
}

pub server_fits : (blocks slots : ℕ) → OfferFits (server_offer blocks slots)
server_fits blocks slots = grind arith
