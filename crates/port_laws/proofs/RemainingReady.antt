-- How many slots of an end's own ring are READY: a cleared ring has none, and a frame that is published makes it one more at most.
use Rattle.std.proofs.Common.{◌≡◌, ◌≢◌, ℕ, zero, suc, ◌+◌, ◌*◌, ◌%◌, ◌<◌, ◌≤◌, ◌⊎◌, inl, inr, List, [], ◌∷◌, length, refl, sym, ap, ◌∙◌, arith}
use Rattle.std.specs.Prelude.{◌==◌, slice_index}
use Rattle.std.proofs.lemmas.Bool.{cases_order}
use Rattle.std.proofs.lemmas.Nat.{mod_below}
use Rattle.dring.proofs.Laps.{one_slot_front, slot_cleared, slot_front}
use Rattle.dring.specs.Slots.{OneSlot, free_state, ready_state, slot_bytes}
use Rattle.vio_bytes.proofs.Putting.{take-put_at}
use Rattle.vio_bytes.proofs.Ranges.{range_at-take}
use Rattle.vio_bytes.specs.Place.{put_at}
use Rattle.vio_bytes.specs.Range.{range_at}
use Rattle.vnet_msg.specs.Descriptor.{canonical}
use Rattle.vnet_msg.specs.Frames.{buffer_place, frame_buffer, frame_desc}
use Rattle.lane_models.specs.NetEndPutting.{cleared_ring}
use Rattle.lane_models.specs.NetEndStep.{published_memory}
use Rattle.lane_models.specs.NetEndTaking.{freed, slot_state}
use Rattle.port_laws.specs.NetCore.{one_if}
use Rattle.port_laws.specs.Remaining.{ready_slots}
use Rattle.port_laws.proofs.MemoryRoom.{put_longer}
use Rattle.port_laws.proofs.EndMoves.{one_most}
use Rattle.port_laws.proofs.RingMoves.{free_byte, desc_long}

-- A CLEARED RING
cleared_some : (slots n : ℕ) (memory : List ℕ) → n ≤ slots → ready_slots n (cleared_ring slots memory) ≡ 0
cleared_some slots zero memory within = refl
cleared_some slots (suc n) memory within =
    let state : slot_state n (cleared_ring slots memory) ≡ 1 = ap (λ (bytes : List ℕ). slice_index bytes 0) (slot_cleared 64 slots n memory (inl refl) (omega (arith, within))) in
    omega (arith, cleared_some slots n memory (omega (arith, within)), ap (λ (state : ℕ). one_if (state == ready_state)) state)

pub cleared_none : (slots : ℕ) (memory : List ℕ) → ready_slots slots (cleared_ring slots memory) ≡ 0
cleared_none slots memory = cleared_some slots slots memory (omega arith)

-- ONE SLOT was changed
pub below_same : (slots k n : ℕ) (memory new : List ℕ) → OneSlot 64 slots k memory new → n ≤ k → k < slots → ready_slots n new ≡ ready_slots n memory
below_same slots k zero memory new one within below = refl
below_same slots k (suc n) memory new one within below =
    grind (arith, below_same slots k n memory new one (omega (arith, within)) below)

one_more : (slots k n : ℕ) (memory new : List ℕ) → OneSlot 64 slots k memory new → n ≤ slots → k < slots → ready_slots n new ≤ ready_slots n memory + 1
one_more slots k zero memory new one within below = omega arith
one_more slots k (suc n) memory new one within below =
    elim (cases_order n k) [
      | inl same ↦ omega (arith, below_same slots k n memory new one (omega (arith, same)) below, one_most (slot_state n new == ready_state))
      | inr apart ↦ goes_on (one_more slots k n memory new one (omega (arith, within)) below) apart
    ]
  where
    next : ready_slots n new ≤ ready_slots n memory + 1 → n ≢ k → ready_slots (suc n) new ≤ ready_slots (suc n) memory + 1
    next before other = grind arith

    goes_on : ready_slots n new ≤ ready_slots n memory + 1 → (n < k) ⊎ (k < n) → ready_slots (suc n) new ≤ ready_slots (suc n) memory + 1
    goes_on before given = grind (arith, next)

-- that isn't READY then
one_less : (slots k n : ℕ) (memory new : List ℕ) → OneSlot 64 slots k memory new → slot_state k new ≡ free_state → n ≤ slots → ready_slots n new ≤ ready_slots n memory
one_less slots k zero memory new one free within = omega arith
one_less slots k (suc n) memory new one free within =
    let before = one_less slots k n memory new one free (omega (arith, within)) in grind (arith, goes_on, cases_order)
  where
    next : ready_slots n new ≤ ready_slots n memory → n ≢ k → ready_slots (suc n) new ≤ ready_slots (suc n) memory
    next before other = grind arith

    goes_on : ready_slots n new ≤ ready_slots n memory → (n < k) ⊎ (k < n) → ready_slots (suc n) new ≤ ready_slots (suc n) memory
    goes_on before given = grind (arith, next)

-- SLOTS THAT BECOME FREE
pub freed_less : (slots number count : ℕ) (memory : List ℕ) → 1 ≤ slots → 64 * slots ≤ length memory → ready_slots slots (freed slots number count memory) ≤ ready_slots slots memory
freed_less slots number zero memory some room = omega arith
freed_less slots number (suc count) memory some room =
    let k : ℕ = number % slots in
    let below : k < slots = mod_below number slots some in
    let next : List ℕ = put_at (64 * k) (free_state ∷ []) memory in
    let one : OneSlot 64 slots k memory next = one_slot_front 64 slots k (free_state ∷ []) memory below (omega arith) room in
    let free : slot_state k next ≡ free_state =
    ap (λ (bytes : List ℕ). slice_index bytes 0) (slot_front 64 slots k (free_state ∷ []) memory below (omega arith) room) ∙ free_byte (slot_bytes 64 k memory) in
    omega (
      arith,
      one_less slots k slots memory next one free (omega arith),
      freed_less slots (number + 1) count next some (omega (arith, one.long, room)),
    )

-- a write behind the ring leaves its slots
buffer_slot : (at slot : ℕ) (piece memory : List ℕ) → 64 * slot + 64 ≤ at → at ≤ length memory → slot_bytes 64 slot (put_at at piece memory) ≡ slot_bytes 64 slot memory
buffer_slot at slot piece memory before room =
    sym (range_at-take _ _ _ _ before) ∙ ap (λ (xs : List ℕ). range_at (64 * slot) 64 xs) (take-put_at _ _ _ _
    (omega arith) room) ∙ range_at-take _ _ _ _ before

buffer_same : (at n : ℕ) (piece memory : List ℕ) → 64 * n ≤ at → at ≤ length memory → ready_slots n (put_at at piece memory) ≡ ready_slots n memory
buffer_same at zero piece memory before room = refl
buffer_same at (suc n) piece memory before room =
    let state = ap (λ (xs : List ℕ). slice_index xs 0) (buffer_slot at n piece memory (omega (arith, before)) room) in
    grind (arith, buffer_same at n piece memory (omega (arith, before)) room, state)

-- A FRAME IS PUBLISHED
pub published_more : (slots slot : ℕ) (frame memory : List ℕ) → slot < slots → slots ≤ 64 → 8192 + 2048 * slots ≤ length memory
    → ready_slots slots (published_memory slot frame memory) ≤ ready_slots slots memory + 1
published_more slots slot frame memory below most room =
    let middle : List ℕ = put_at (buffer_place slot) (frame_buffer frame) memory in
    let long : 64 * slots ≤ length middle = omega (arith, room, put_longer (buffer_place slot) (frame_buffer frame) memory) in
    let one : OneSlot 64 slots slot middle (published_memory slot frame memory) =
    one_slot_front 64 slots slot (canonical (frame_desc slot (length frame))) middle below (omega (arith, desc_long slot (length frame))) long in
    omega (
      arith,
      one_more slots slot slots middle (published_memory slot frame memory) one (omega arith) below,
      buffer_same (buffer_place slot) slots (frame_buffer frame) memory (omega (arith, most)) (omega (arith, room, below)),
    )
