-- The descriptors of admitted requests, and what is written into a descriptor.
use Rattle.std.proofs.Common.{◌≡◌, ℕ, zero, suc, ◌+◌, ◌*◌, ◌/◌, ◌%◌, ◌^◌, ◌<◌, ◌≤◌, [], ◌∷◌, ◌++◌, length, replicate, Bool, true, false, not, cond, nat_lt, refl, ap, arith, Option, Some, None}
use Rattle.std.specs.Prelude.{if◌then◌else◌}
use Rattle.std.proofs.lemmas.Bool.Decides.{nat_tests}
use Rattle.std.specs.List.{AllByRecursion}
use Rattle.vio_bytes.specs.Place.{put_at}
use Rattle.map_table.specs.Cookies.{IsCookie, no_cookie}
use Rattle.vdisk_msg.specs.declared.desc.DiskDesc.{DiskDesc}
use Rattle.vdisk_msg.specs.declared.desc.DescFault.{DescFault}
use Rattle.vdisk_msg.specs.declared.desc.DescFault.TheVariants.{Cookies, Size, Range}
use Rattle.vdisk_msg.specs.declared.request.Fill.{Fill}
use Rattle.vdisk_msg.specs.declared.request.Request.{Request}
use Rattle.vdisk_msg.specs.declared.request.Request.TheVariants.{Read, Write, Flush}
use Rattle.vdisk_msg.specs.Check.{first_defect, has_size, holds_cookies, is_within, most_bytes}
use Rattle.vdisk_msg.specs.Descriptor.{HasWidths, canonical}
use Rattle.vdisk_msg.specs.Pieces.{Finishes, checked_pieces, operation_pieces, pieces, read_pieces, unit_count, write_pieces}
use Rattle.vdisk_msg.specs.Requested.{block_of, buffer_cookies, buffer_place, cookie_count, descriptor_of, header, size_of, status_word}
use Rattle.vdisk_msg.specs.Requests.{blocks_defect, defect, operation_of}

-- a header put into a descriptor
pub put_header : (desc : DiskDesc) (state : ℕ) → put_at 0 (header state desc.ack) (canonical desc) ≡ canonical (record desc { state = state })
put_header desc state = refl

-- a status word put into a descriptor
pub put_status : (desc : DiskDesc) (status : ℕ) → put_at 16 (status_word (canonical desc) status) (canonical desc) ≡ canonical (record desc { status = status })
put_status desc status = refl

-- both leave a descriptor
pub state_has_widths : (desc : DiskDesc) (state : ℕ) → state < 2 ^ 8 → HasWidths desc → HasWidths (record desc { state = state })
state_has_widths desc state small fits = record {
  head = record {
    state = small;
    ack = fits.head.ack;
    id = fits.head.id;
    operation = fits.head.operation;
    slice = fits.head.slice;
    status = fits.head.status;
    offset = fits.head.offset;
    size = fits.head.size;
    count = fits.head.count;
  };
  five = fits.five;
  cookies = fits.cookies;
}

pub status_has_widths : (desc : DiskDesc) (status : ℕ) → status < 2 ^ 32 → HasWidths desc → HasWidths (record desc { status = status })
status_has_widths desc status small fits = record {
  head = record {
    state = fits.head.state;
    ack = fits.head.ack;
    id = fits.head.id;
    operation = fits.head.operation;
    slice = fits.head.slice;
    status = small;
    offset = fits.head.offset;
    size = fits.head.size;
    count = fits.head.count;
  };
  five = fits.five;
  cookies = fits.cookies;
}

-- a count that is admitted, and a range
admitted_count : (blocks block count : ℕ) → blocks_defect blocks block count ≡ None → (1 ≤ count) × (count ≤ 64) × (block + count ≤ blocks)
admitted_count blocks block count is = (grind (arith, nat_tests), grind (arith, nat_tests), grind (arith, nat_tests))

-- what is known of an admitted request
pub record IsAdmitted (blocks : ℕ) (request : Request) : Type 0 where
  pub most : size_of request ≤ most_bytes
  pub within : block_of request ≤ blocks
  pub operation : operation_of request ≤ 3

pub is_admitted : (blocks : ℕ) (request : Request) → defect blocks request ≡ None → IsAdmitted blocks request
is_admitted blocks (Read block count) is = let facts = admitted_count blocks block count is in record { most = omega (arith, facts.1); within = omega (arith, facts.2); operation = omega arith }
is_admitted blocks (Write block count fill) is = let facts = admitted_count blocks block count is in record { most = omega (arith, facts.1); within = omega (arith, facts.2); operation = omega arith }
is_admitted blocks Flush is = record { most = omega arith; within = omega arith; operation = omega arith }

-- a buffer's cookie has numbers of the fields' widths, and there is one or none
cookie_in : (b : Bool) (place size : ℕ) → place < 2 ^ 64 → size < 2 ^ 64 → IsCookie (if b then record { address = place; size = size } else no_cookie)
cookie_in true place size low small = record { address = low; size = small }
cookie_in false place size low small = record { address = omega arith; size = omega arith }

count_in : (b : Bool) → (if b then 1 else 0) ≤ 1
count_in true = omega arith
count_in false = omega arith

cookies_fit : (place size : ℕ) → place < 2 ^ 64 → size < 2 ^ 64 → AllByRecursion IsCookie (buffer_cookies place size)
unfolding buffer_cookies
cookies_fit place size low small =
    let none : IsCookie no_cookie = record { address = omega arith; size = omega arith } in
    (cookie_in (nat_lt 0 size) place size low small, (none, (none, (none, (none, tt)))))

five_cookies : (place size : ℕ) → length (buffer_cookies place size) ≡ 5
unfolding buffer_cookies
five_cookies place size = refl

-- the descriptor of an admitted request has numbers of the fields' widths
pub requested_has_widths : (blocks id : ℕ) (request : Request) (slot slots : ℕ) → blocks < 2 ^ 64 → id < 2 ^ 64 → slot < slots → slots ≤ 256 → defect blocks request ≡ None
    → HasWidths (descriptor_of id request slot slots)
unfolding descriptor_of
requested_has_widths blocks id request slot slots disk numbered below few is =
    let known : IsAdmitted blocks request = is_admitted blocks request is in
    let most = known.most in
    let within = known.within in
    let kind = known.operation in
    record {
      head = record {
        state = omega arith;
        ack = omega arith;
        id = numbered;
        operation = omega (arith, kind);
        slice = omega arith;
        status = omega arith;
        offset = omega (arith, within);
        size = omega (arith, most);
        count = omega (arith, count_in (nat_lt 0 (size_of request)));
      };
      five = five_cookies (buffer_place slots slot) (size_of request);
      cookies = cookies_fit (buffer_place slots slot) (size_of request) (omega arith) (omega (arith, most));
    }

-- two blocks are written from block 3 on: the first request of a ring of eight slots, as its 128 bytes
pub first_write : (fill : Fill) → canonical (descriptor_of 0 (Write 3 2 fill) 0 8)
    ≡ (2 ∷ 1 ∷ replicate 14 0) ++ (2 ∷ 0xff ∷ replicate 13 0) ++ (3 ∷ replicate 6 0) ++ (4 ∷ replicate 4 0) ++ (1 ∷ replicate 10 0) ++ (0x20 ∷ replicate 7 0) ++ (4 ∷ replicate 65 0)
unfolding descriptor_of buffer_cookies
first_write fill = refl

-- 64 blocks are read, with the last number of all, in the last slot of a ring of 256: its buffer's one cookie
pub last_read : descriptor_of 0xffffffffffffffff (Read 1 64) 255 256
    ≡ record {
      state = 2;
      ack = 1;
      id = 0xffffffffffffffff;
      operation = 1;
      slice = 255;
      status = 0;
      offset = 1;
      size = 32768;
      count = 1;
      cookies = record { address = 0x800000; size = 32768 } ∷ replicate 4 no_cookie;
    }
unfolding descriptor_of buffer_cookies
last_read = refl

-- a flush has no cookies
pub a_flush : descriptor_of 7 Flush 1 2
    ≡ record {
      state = 2;
      ack = 1;
      id = 7;
      operation = 3;
      slice = 255;
      status = 0;
      offset = 0;
      size = 0;
      count = 0;
      cookies = replicate 5 no_cookie;
    }
unfolding descriptor_of buffer_cookies
a_flush = refl

-- the tests of a descriptor that moves data
sound_tests : (blocks block count : ℕ) → blocks_defect blocks block count ≡ None
    → (holds_cookies (cookie_count (512 * count)) ≡ true) × (has_size (512 * count) ≡ true) × (is_within block (512 * count / 512) blocks ≡ true)
sound_tests blocks block count is =
    let facts = admitted_count blocks block count is in
    let some = facts.0 in
    let most = facts.1 in
    let within = facts.2 in
    let whole : 512 * count / 512 ≡ count = omega arith in
    let rest : 512 * count % 512 ≡ 0 = omega arith in
    let moved : nat_lt 0 (512 * count) ≡ true = grind (arith, nat_tests) in
    (ap (λ (b : Bool). holds_cookies (if b then 1 else 0)) moved, grind (arith, nat_tests), grind (arith, nat_tests))

data_sound : (cookies size range : Bool) → cookies ≡ true → size ≡ true → range ≡ true
    → cond (not cookies) (Some Cookies) (cond (not size) (Some Size) (cond (not range) (Some Range) None)) ≡ None
data_sound cookies size range are sized ranged = rw (are, sized, ranged) refl

-- the descriptor of an admitted request can be run by a server that takes reads, writes and flushes
pub requested_is_sound : (blocks id : ℕ) (request : Request) (slot slots : ℕ) → defect blocks request ≡ None → first_defect (descriptor_of id request slot slots) blocks 0x0e ≡ None
unfolding descriptor_of
requested_is_sound blocks id (Read block count) slot slots is =
    let tests = sound_tests blocks block count is in
    data_sound (holds_cookies (cookie_count (512 * count))) (has_size (512 * count)) (is_within block (512 * count / 512) blocks) tests.0 tests.1 tests.2
requested_is_sound blocks id (Write block count fill) slot slots is =
    let tests = sound_tests blocks block count is in
    data_sound (holds_cookies (cookie_count (512 * count))) (has_size (512 * count)) (is_within block (512 * count / 512) blocks) tests.0 tests.1 tests.2
requested_is_sound blocks id Flush slot slots is = refl

-- the pieces of a descriptor with a defect, and of one without
pub refused_pieces : (desc : DiskDesc) (blocks mask : ℕ) (fault : DescFault) → first_defect desc blocks mask ≡ Some fault → pieces desc blocks mask ≡ checked_pieces (Some fault) desc
unfolding pieces
refused_pieces desc blocks mask fault is = ap (λ (found : Option DescFault). checked_pieces found desc) is

pub sound_pieces : (desc : DiskDesc) (blocks mask : ℕ) → first_defect desc blocks mask ≡ None → pieces desc blocks mask ≡ operation_pieces desc.operation (unit_count desc.size) ++ Finishes 0 ∷ []
unfolding pieces
sound_pieces desc blocks mask is = ap (λ (found : Option DescFault). checked_pieces found desc) is

-- two pieces a unit
pub length-read_pieces : (unit n : ℕ) → length (read_pieces unit n) ≡ 2 * n
length-read_pieces unit zero = refl
length-read_pieces unit (suc n) = let rest = length-read_pieces (unit + 1) n in omega (arith, rest)

pub length-write_pieces : (unit n : ℕ) → length (write_pieces unit n) ≡ 2 * n
length-write_pieces unit zero = refl
length-write_pieces unit (suc n) = let rest = length-write_pieces (unit + 1) n in omega (arith, rest)
