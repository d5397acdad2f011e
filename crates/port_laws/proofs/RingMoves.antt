-- What an end does to its own ring keeps it: it clears it, is given a frame, publishes one, and lets those go that an ACK names.
use Rattle.std.proofs.Common.{◌≡◌, ◌≢◌, ℕ, zero, suc, ◌+◌, ◌-◌, ◌*◌, ◌%◌, ◌<◌, ◌≤◌, ◌⊎◌, inl, inr, Bool, true, Option, Some, None, List, [], ◌∷◌, ◌++◌, length, drop, refl, sym, ap, ◌∙◌, arith, length-drop, length-append}
use Rattle.std.specs.Prelude.{◌==◌, if◌then◌else◌, slice_get, slice_index}
use Rattle.std.proofs.lemmas.Bool.{cases_lt, cases_order, eqb-true}
use Rattle.std.proofs.lemmas.List.{drop-drop}
use Rattle.std.proofs.lemmas.Nat.{mod_below}
use Rattle.std.proofs.lemmas.Option.{slice_get_within}
use Rattle.std.proofs.Math.Nat.{add-mod_right}
use Rattle.dring.proofs.Laps.{one_slot_front, one_lap, slot_cleared, slot_front, slot_reads_back}
use Rattle.dring.specs.Slots.{free_state, slot_bytes}
use Rattle.map_table.proofs.Putting.{length-cookies_bytes}
use Rattle.vio_bytes.proofs.Putting.{length-put_at}
use Rattle.vio_bytes.proofs.Ranges.{range_at-put_at_outside, range_at-put_at_same}
use Rattle.vio_bytes.specs.Place.{put_at}
use Rattle.vio_bytes.specs.Range.{range_at}
use Rattle.vio_tag.specs.declared.cause.Cause.{Cause}
use Rattle.vnet_msg.proofs.FrameSlots.{long}
use Rattle.vnet_msg.specs.Descriptor.{canonical}
use Rattle.vnet_msg.specs.Frames.{IsFrame, buffer_place, frame_buffer, frame_desc, moved_size}
use Rattle.lane_models.specs.NetEndPutting.{cleared_ring}
use Rattle.lane_models.specs.NetEndStep.{published_memory}
use Rattle.lane_models.specs.NetEndTaking.{first_undone, freed, slot_state}
use Rattle.port_laws.specs.RingHolds.{RingHolds, SlotHolds, SlotOf, desc_in}

-- a ring of so many slots, and their buffers, lie in a memory
pub record Fits (slots : ℕ) (memory : List ℕ) : Type 0 where
  pub few : slots ≤ 64
  pub room : 8192 + 2048 * slots ≤ length memory

-- A SLOT THAT STAYS
pub record Stays (memory new : List ℕ) (slot : ℕ) : Type 0 where
  pub bytes : slot_bytes 64 slot new ≡ slot_bytes 64 slot memory
  pub buffer : (n : ℕ) → n ≤ 2048 → range_at (buffer_place slot) n new ≡ range_at (buffer_place slot) n memory

pub frame_small : (frame : List ℕ) → IsFrame frame → moved_size (length frame) ≤ 2048
frame_small frame is = let most = is.most in omega (arith, most)

pub holds_stays : (memory new : List ℕ) (slot state : ℕ) (frame : List ℕ) → Stays memory new slot → SlotHolds memory slot state frame → SlotHolds new slot state frame
holds_stays memory new slot state frame stays holds = grind (arith, frame_small)

pub state_stays : (memory new : List ℕ) (slot : ℕ) → Stays memory new slot → slot_state slot new ≡ slot_state slot memory
state_stays memory new slot stays = ap (λ (bytes : List ℕ). slice_index bytes 0) stays.bytes

-- a write in one slot leaves the others, and every buffer
pub slot_written : (slots k i : ℕ) (piece memory : List ℕ) → Fits slots memory → k < slots → i < slots → i ≢ k → length piece ≤ 64 → Stays memory (put_at (64 * k) piece memory) i
slot_written slots k i piece memory fits below inside other small =
    let one = one_slot_front 64 slots k piece memory below small (omega (arith, fits.few, fits.room)) in
    grind (arith, fits.few, fits.room, one, range_at-put_at_outside)

pub buffers_stay : (slots k : ℕ) (piece memory : List ℕ) → Fits slots memory → k < slots → length piece ≤ 64 → (n : ℕ)
    → range_at (buffer_place k) n (put_at (64 * k) piece memory) ≡ range_at (buffer_place k) n memory
buffers_stay slots k piece memory given below small n = grind (arith, range_at-put_at_outside)

-- one in a buffer leaves all slots, and the other buffers
pub place_end : (slots k : ℕ) (piece memory : List ℕ) → Fits slots memory → k < slots → length piece ≤ 2048 → buffer_place k + length piece ≤ length memory
place_end slots k piece memory fits below small = let room = fits.room in omega (arith, room, below, small)

buffer_slots : (slots k i : ℕ) (piece memory : List ℕ) → Fits slots memory → k < slots → i < slots → length piece ≤ 2048
    → slot_bytes 64 i (put_at (buffer_place k) piece memory) ≡ slot_bytes 64 i memory
buffer_slots slots k i piece memory fits below inside small =
    let few = fits.few in
    range_at-put_at_outside (64 * i) 64 (buffer_place k) piece memory (place_end slots k piece memory fits below small) (inl (omega (arith, few, inside)))

buffer_written : (slots k i : ℕ) (piece memory : List ℕ) → Fits slots memory → k < slots → i < slots → i ≢ k → length piece ≤ 2048 → Stays memory (put_at (buffer_place k) piece memory) i
buffer_written slots k i piece memory fits below inside other small = record {
  bytes = buffer_slots slots k i piece memory fits below inside small;
  buffer = λ n most. range_at-put_at_outside (buffer_place i) n (buffer_place k) piece memory (place_end slots k piece memory fits below small) (apart n most (cases_order i k));
}
  where
    apart : (n : ℕ) → n ≤ 2048 → (i ≡ k) ⊎ ((i < k) ⊎ (k < i)) → (buffer_place i + n ≤ buffer_place k) ⊎ (buffer_place k + length piece ≤ buffer_place i)
    apart n most given = grind arith

twice_stays : (memory middle new : List ℕ) (slot : ℕ) → Stays memory middle slot → Stays middle new slot → Stays memory new slot
twice_stays memory middle new slot one two = record { bytes = two.bytes ∙ one.bytes; buffer = λ n most. two.buffer n most ∙ one.buffer n most }

-- the other slots of one lap
pub other_slot : (slots seen k j : ℕ) → seen ≤ k → k < seen + slots → seen ≤ j → j < seen + slots → j ≢ k → j % slots ≢ k % slots
other_slot slots seen k j from until since before other = grind (arith, cases_lt, one_lap)

pub slot_within : (slots seen j : ℕ) → seen ≤ j → j < seen + slots → j % slots < slots
slot_within slots seen j since before = mod_below j slots (omega (arith, since, before))

-- IT IS CLEARED
pub ring_cleared : (slots : ℕ) (frames : List (List ℕ)) (memory : List ℕ) → RingHolds slots 0 0 0 frames (cleared_ring slots memory)
ring_cleared slots frames memory = record {
  seen_first = omega arith;
  taken_first = omega arith;
  held = omega arith;
  lap = omega arith;
  each = λ j since before. record {
    done = λ below frame get. absurd (omega (arith, below));
    ready = λ from below frame get. absurd (omega (arith, below));
    free = λ from. ap (λ (bytes : List ℕ). slice_index bytes 0) (slot_cleared 64 slots (j % slots) memory (inl refl) (slot_within slots 0 j since before));
  };
}

-- A FRAME IS GIVEN
pub get_front : (frames more : List (List ℕ)) (n : ℕ) (frame : List ℕ) → n < length frames → slice_get (frames ++ more) n ≡ Some frame → slice_get frames n ≡ Some frame
get_front [] more n frame below get = absurd (omega (arith, below))
get_front (one ∷ frames) more zero frame below get = get
get_front (one ∷ frames) more (suc n) frame below get = get_front frames more n frame (omega (arith, below)) get

pub ring_given : (slots seen taken published : ℕ) (frames more : List (List ℕ)) (memory : List ℕ) → RingHolds slots seen taken published frames memory
    → RingHolds slots seen taken published (frames ++ more) memory
ring_given slots seen taken published frames more memory ring =
    let held = ring.held in
    let last = ring.taken_first in
    record {
      seen_first = ring.seen_first;
      taken_first = ring.taken_first;
      held = omega (arith, held, length-append frames more);
      lap = ring.lap;
      each = λ j since before.
          let here = ring.each j since before in
          record {
            done = λ below frame get. here.done below frame (get_front frames more (j - seen) frame (omega (arith, held, last, since, below)) get);
            ready = λ from below frame get. here.ready from below frame (get_front frames more (j - seen) frame (omega (arith, held, since, below)) get);
            free = here.free;
          };
    }

-- IT IS PUBLISHED
pub desc_long : (slot size : ℕ) → length (canonical (frame_desc slot size)) ≡ 64
desc_long slot size = grind (arith, length-append, length-cookies_bytes)

pub ring_published : (slots seen taken published : ℕ) (frames : List (List ℕ)) (frame memory : List ℕ) → Fits slots memory → RingHolds slots seen taken published frames memory
    → slice_get frames (published - seen) ≡ Some frame → IsFrame frame → published < seen + slots
    → RingHolds slots seen taken (published + 1) frames (published_memory (published % slots) frame memory)
ring_published slots seen taken published frames frame memory fits ring next is room =
    let first = ring.seen_first in
    let last = ring.taken_first in
    record {
      seen_first = first;
      taken_first = omega (arith, last);
      held = omega (arith, slice_get_within frames (published - seen) frame next, first, last);
      lap = omega (arith, room);
      each = λ j since before. at_slot j since before (cases_order j published);
    }
  where
    k : ℕ
    k = published % slots

    piece : List ℕ
    piece = frame_buffer frame

    desc : List ℕ
    desc = canonical (frame_desc k (length frame))

    middle : List ℕ
    middle = put_at (buffer_place k) piece memory

    new : List ℕ
    new = published_memory k frame memory

    below : k < slots
    below = let first = ring.seen_first in let last = ring.taken_first in slot_within slots seen published (omega (arith, first, last)) room

    small : length piece ≤ 2048
    small = omega (arith, long frame, frame_small frame is)

    middle_fits : Fits slots middle
    middle_fits = let room = fits.room in record { few = fits.few; room = omega (arith, room, length-put_at (buffer_place k) piece memory (place_end slots k piece memory fits below small)) }

    other_stays : (i : ℕ) → i < slots → i ≢ k → Stays memory new i
    other_stays i inside other =
        twice_stays memory middle new i (buffer_written slots k i piece memory fits below inside other small)
        (slot_written slots k i desc middle middle_fits below inside other (omega (arith, desc_long k (length frame))))

    written : SlotHolds new k 2 frame
    written =
        let few = fits.few in
        let most = middle_fits.room in
        let start = place_end slots k piece memory fits below small in
        record {
          is_frame = is;
          desc = slot_reads_back 64 slots k desc middle below (desc_long k (length frame)) (omega (arith, few, most));
          buffer = buffers_stay slots k desc middle middle_fits below (omega (arith, desc_long k (length frame))) (moved_size (length frame))
              ∙ range_at-put_at_same (buffer_place k) (moved_size (length frame)) piece memory (long frame) (omega (arith, start));
        }

    this_slot : (j : ℕ) → j ≡ published → SlotOf slots seen taken (published + 1) frames new j
    this_slot j same = grind (arith, written)

    other_slots : (j : ℕ) → seen ≤ j → j < seen + slots → j ≢ published → SlotOf slots seen taken (published + 1) frames new j
    other_slots j since before other =
        let first = ring.seen_first in
        let last = ring.taken_first in
        let here = ring.each j since before in
        let stays = other_stays (j % slots) (slot_within slots seen j since before) (other_slot slots seen published j (omega (arith, first, last)) room since before other) in
        record {
          done = λ less one get. holds_stays memory new (j % slots) 4 one stays (here.done less one get);
          ready = λ from less one get. holds_stays memory new (j % slots) 2 one stays (here.ready from (not_last j other less) one get);
          free = λ from. state_stays memory new (j % slots) stays ∙ here.free (omega (arith, from));
        }
      where
        not_last : (j : ℕ) → j ≢ published → j < published + 1 → j < published
        not_last j other less = grind (arith, cases_lt)

    at_slot : (j : ℕ) → seen ≤ j → j < seen + slots → (j ≡ published) ⊎ ((j < published) ⊎ (published < j)) → SlotOf slots seen taken (published + 1) frames new j
    at_slot j since before (inl same) = this_slot j same
    at_slot j since before (inr (inl less)) = other_slots j since before (λ same. absurd (omega (arith, same, less)))
    at_slot j since before (inr (inr past)) = other_slots j since before (λ same. absurd (omega (arith, same, past)))

-- FRAMES THAT ARE ACKNOWLEDGED leave, and their slots become FREE
pub get_behind : (frames : List (List ℕ)) (n : ℕ) (frame : List ℕ) → slice_get (drop 1 frames) n ≡ Some frame → slice_get frames (n + 1) ≡ Some frame
get_behind frames n frame get = grind arith

pub free_byte : (bytes : List ℕ) → slice_index (put_at 0 (free_state ∷ []) bytes) 0 ≡ free_state
free_byte bytes = refl

pub one_freed : (slots seen taken published : ℕ) (frames : List (List ℕ)) (memory : List ℕ) → Fits slots memory → RingHolds slots seen taken published frames memory → seen < taken
    → RingHolds slots (seen + 1) taken published (drop 1 frames) (put_at (64 * (seen % slots)) (free_state ∷ []) memory)
one_freed slots seen taken published frames memory fits ring some =
    let held = ring.held in
    let last = ring.taken_first in
    let lap = ring.lap in
    record {
      seen_first = omega (arith, some);
      taken_first = last;
      held = omega (arith, held, some, last, length-drop 1 frames);
      lap = omega (arith, lap);
      each = λ j since before. at_slot j since before (cases_lt j (seen + slots));
    }
  where
    new : List ℕ
    new = put_at (64 * (seen % slots)) (free_state ∷ []) memory

    some_slots : seen < seen + slots
    some_slots = let last = ring.taken_first in let lap = ring.lap in omega (arith, some, last, lap)

    below : seen % slots < slots
    below = mod_below seen slots (omega (arith, some_slots))

    there : slot_state (seen % slots) new ≡ free_state
    there =
        let few = fits.few in
        let room = fits.room in
        ap (λ (bytes : List ℕ). slice_index bytes 0) (slot_front 64 slots (seen % slots) (free_state ∷ []) memory below (omega arith) (omega (arith, few, room)))
        ∙ free_byte (slot_bytes 64 (seen % slots) memory)

    index : (j : ℕ) → seen + 1 ≤ j → j - (seen + 1) + 1 ≡ j - seen
    index j since = omega (arith, since)

    behind : (j : ℕ) (frame : List ℕ) → seen + 1 ≤ j → slice_get (drop 1 frames) (j - (seen + 1)) ≡ Some frame → slice_get frames (j - seen) ≡ Some frame
    behind j frame since get = ap (slice_get frames) (sym (index j since)) ∙ get_behind frames (j - (seen + 1)) frame get

    at_slot : (j : ℕ) → seen + 1 ≤ j → j < seen + 1 + slots → (j < seen + slots) ⊎ (seen + slots ≤ j) → SlotOf slots (seen + 1) taken published (drop 1 frames) new j
    at_slot j since before (inl less) =
        let here = ring.each j (omega (arith, since)) less in
        let apart : j ≢ seen = λ same. absurd (omega (arith, same, since)) in
        let stays = slot_written slots (seen % slots) (j % slots) (free_state ∷ []) memory fits below (slot_within slots seen j (omega (arith, since)) less)
        (other_slot slots seen seen j (omega arith) some_slots (omega (arith, since)) less apart) (omega arith) in
        record {
          done = λ under frame get. holds_stays memory new (j % slots) 4 frame stays (here.done under frame (behind j frame since get));
          ready = λ from under frame get. holds_stays memory new (j % slots) 2 frame stays (here.ready from under frame (behind j frame since get));
          free = λ from. state_stays memory new (j % slots) stays ∙ here.free from;
        }
    at_slot j since before (inr past) =
        let same : j ≡ seen + slots = omega (arith, before, past) in
        let place : j % slots ≡ seen % slots = ap (λ (n : ℕ). n % slots) same ∙ add-mod_right seen slots in
        grind (arith, there)

freed_fits : (slots k : ℕ) (memory : List ℕ) → Fits slots memory → k < slots → Fits slots (put_at (64 * k) (free_state ∷ []) memory)
freed_fits slots k memory fits below =
    let few = fits.few in
    let room = fits.room in
    record { few = few; room = omega (arith, room, length-put_at (64 * k) (free_state ∷ []) memory (omega (arith, few, room, below))) }

same_ring : (slots seen other taken published : ℕ) (frames left : List (List ℕ)) (memory : List ℕ) → seen ≡ other → frames ≡ left → RingHolds slots seen taken published frames memory
    → RingHolds slots other taken published left memory
same_ring slots seen other taken published frames left memory one two ring = grind arith

next : (count : ℕ) → 1 + count ≡ suc count
next count = omega arith

all_freed : (slots seen taken published count : ℕ) (frames : List (List ℕ)) (memory : List ℕ) → Fits slots memory → RingHolds slots seen taken published frames memory → seen + count ≤ taken
    → RingHolds slots (seen + count) taken published (drop count frames) (freed slots seen count memory)
all_freed slots seen taken published zero frames memory fits ring within = same_ring slots seen (seen + 0) taken published frames frames memory (omega arith) refl ring
all_freed slots seen taken published (suc count) frames memory fits ring within =
    let some : seen < taken = omega (arith, within) in
    let below : seen % slots < slots = mod_below seen slots (omega (arith, some, ring.taken_first, ring.lap)) in
    let new : List ℕ = put_at (64 * (seen % slots)) (free_state ∷ []) memory in
    same_ring slots (seen + 1 + count) (seen + suc count) taken published (drop count (drop 1 frames)) (drop (suc count) frames) (freed slots (seen + 1) count new) (omega arith)
    (drop-drop count 1 frames ∙ ap (λ (n : ℕ). drop n frames) (next count))
    (all_freed slots (seen + 1) taken published count (drop 1 frames) new (freed_fits slots (seen % slots) memory fits below) (one_freed slots seen taken published frames memory fits ring some)
    (omega (arith, within)))

-- each slot of an ACK was DONE
not_undone : (test : Bool) (rest : Option Cause) (why : Cause) → (if test then rest else Some why) ≡ None → (test ≡ true) × (rest ≡ None)
not_undone test rest why is = grind arith

each_done : (slots : ℕ) (memory : List ℕ) (number count : ℕ) → first_undone slots memory number count ≡ None → (j : ℕ) → number ≤ j → j < number + count → slot_state (j % slots) memory ≡ 4
each_done slots memory number zero is j since before = absurd (omega (arith, since, before))
each_done slots memory number (suc count) is j since before =
    let both = not_undone (slot_state (number % slots) memory == 4) (first_undone slots memory (number + 1) count) _ is in
    elim (cases_order j number) [
      | inl same ↦ ap (λ (n : ℕ). slot_state (n % slots) memory) same ∙ eqb-true (slot_state (number % slots) memory) 4 both.0
      | inr apart ↦ each_done slots memory (number + 1) count both.1 j (past apart) (omega (arith, before))
    ]
  where
    past : (j < number) ⊎ (number < j) → number + 1 ≤ j
    past given = grind arith

-- the state of a slot that holds a frame
first_byte : (state slot size : ℕ) → slice_index (canonical (desc_in state slot size)) 0 ≡ state % 256
first_byte state slot size = refl

pub held_state : (memory : List ℕ) (slot state : ℕ) (frame : List ℕ) → SlotHolds memory slot state frame → slot_state slot memory ≡ state % 256
held_state memory slot state frame holds = ap (λ (bytes : List ℕ). slice_index bytes 0) holds.desc ∙ first_byte state slot (length frame)

pub some_frame : (frames : List (List ℕ)) (n : ℕ) → n < length frames → (frame : List ℕ) × (slice_get frames n ≡ Some frame)
some_frame [] n below = absurd (omega (arith, below))
some_frame (one ∷ frames) zero below = (one, refl)
some_frame (one ∷ frames) (suc n) below = some_frame frames n (omega (arith, below))

-- so those that it names were taken
acked_taken : (slots seen taken published count : ℕ) (frames : List (List ℕ)) (memory : List ℕ) → RingHolds slots seen taken published frames memory → seen + count ≤ published
    → first_undone slots memory seen count ≡ None → seen + count ≤ taken
acked_taken slots seen taken published count frames memory ring within is =
    let never : taken < seen + count → seen + count ≤ taken = λ less.
    let first = ring.seen_first in
    let there = some_frame frames (taken - seen) (omega (arith, ring.held, first, less, within)) in
    let here = ring.each taken first (omega (arith, less, within, ring.lap)) in
    let ready : slot_state (taken % slots) memory ≡ 2 = held_state memory (taken % slots) 2 there.0 (here.ready (omega arith) (omega (arith, less, within)) there.0 there.1) in
    let done : slot_state (taken % slots) memory ≡ 4 = each_done slots memory seen count is taken first less in
    absurd (omega (arith, ready, done)) in
    grind (arith, never, cases_lt)

pub ring_acked : (slots seen taken published count : ℕ) (frames : List (List ℕ)) (memory : List ℕ) → Fits slots memory → RingHolds slots seen taken published frames memory
    → seen + count ≤ published → first_undone slots memory seen count ≡ None → RingHolds slots (seen + count) taken published (drop count frames) (freed slots seen count memory)
ring_acked slots seen taken published count frames memory fits ring within is =
    all_freed slots seen taken published count frames memory fits ring (acked_taken slots seen taken published count frames memory ring within is)
