-- Slots lie apart, and the numbers of one lap have slots of their own.
use Rattle.std.proofs.Common.{◌≡◌, ◌≢◌, ℕ, zero, suc, ◌+◌, ◌*◌, ◌/◌, ◌%◌, ◌<◌, ◌≤◌, ◌⊎◌, inl, inr, List, ◌++◌, length, take, drop, refl, sym, ap, subst, ◌∙◌, arith}
use Rattle.std.proofs.lemmas.List.{append_assoc, append-nil, drop-drop, drop_at, take_at}
use Rattle.std.proofs.lemmas.Bool.{cases_lt, cases_order}
use Rattle.std.proofs.lemmas.Nat.{column_fits, mod_below, row_fits}
use Rattle.std.proofs.Math.Nat.{mod-add-div'}
use Rattle.vio_bytes.specs.Place.{IsOutside, put_at}
use Rattle.vio_bytes.specs.Range.{range_at}
use Rattle.vio_bytes.proofs.Putting.{length-put_at}
use Rattle.vio_bytes.proofs.Ranges.{put_at-put_at_next, range_at-put_at_inside, range_at-put_at_outside, range_at-put_at_part, range_at-put_at_same}
use Rattle.dring.specs.Slots.{IsSlotSize, OneSlot, Slots, free_slot, free_slots, slot_bytes}

-- a slot ends within the ring
pub slot_fits : (size slot slots : ℕ) → slot < slots → size * slot + size ≤ size * slots
slot_fits size slot slots below = column_fits size slot size slots below (let same : size ≤ size = omega arith in same)

-- slots don't overlap
pub slots_apart : (size i k : ℕ) → i ≢ k → (size * i + size ≤ size * k) ⊎ (size * k + size ≤ size * i)
slots_apart size i k other =
    elim (cases_lt i k) [
      | inl less ↦ inl (slot_fits size i k less)
      | inr past ↦ let more : k < i = omega arith in inr (slot_fits size k i more)
    ]

-- a write within a slot leaves the others
pub one_slot_put : (size n k at : ℕ) (piece memory : List ℕ) → k < n → at + length piece ≤ size → size * n ≤ length memory → OneSlot size n k memory (put_at (size * k + at) piece memory)
one_slot_put size n k at piece memory below within room =
    let fits : size * k + size ≤ size * n = slot_fits size k n below in
    let end : size * k + at + length piece ≤ length memory = omega arith in
    record {
      long = length-put_at (size * k + at) piece memory end;
      others = λ i i_below other.
          let outside : IsOutside (size * i) size (size * k + at) (length piece) =
          elim (slots_apart size i k other) [ inl before ↦ inl (omega (arith, before)) | inr behind ↦ inr (omega (arith, behind, within)) ] in
          range_at-put_at_outside (size * i) size (size * k + at) piece memory end outside;
    }

-- and is a write to the slot's own bytes
pub slot_put : (size n k at : ℕ) (piece memory : List ℕ) → k < n → at + length piece ≤ size → size * n ≤ length memory
    → slot_bytes size k (put_at (size * k + at) piece memory) ≡ put_at at piece (slot_bytes size k memory)
slot_put size n k at piece memory below within room =
    let fits : size * k + size ≤ size * n = slot_fits size k n below in
    range_at-put_at_part at (size * k) size piece memory within (omega arith)

-- what lies after the ring stays
pub behind_put : (size n k at p w : ℕ) (piece memory : List ℕ) → k < n → at + length piece ≤ size → size * n ≤ length memory → size * n ≤ p
    → range_at p w (put_at (size * k + at) piece memory) ≡ range_at p w memory
behind_put size n k at p w piece memory below within room past =
    let fits : size * k + size ≤ size * n = slot_fits size k n below in
    range_at-put_at_outside p w (size * k + at) piece memory (omega arith) (inr (omega arith))

-- numbers within one lap have slots of their own
pub one_lap : (n a b : ℕ) → a ≤ b → b < a + n → a % n ≡ b % n → a ≡ b
one_lap n a b le less same =
    let of_a = mod-add-div' a n in
    let of_b = mod-add-div' b n in
    elim (cases_order (a / n) (b / n)) [
      | inl equal ↦ let rows : a / n * n ≡ b / n * n = ap (λ (q : ℕ). q * n) equal in omega (arith, of_a, of_b, rows, same)
      | inr other ↦ elim other [
        | inl lower ↦ let rows = row_fits (a / n) n (b / n) n lower (let whole : n ≤ n = omega arith in whole) in absurd (omega (arith, of_a, of_b, rows, same, less))
        | inr higher ↦ let rows = row_fits (b / n) n (a / n) n higher (let whole : n ≤ n = omega arith in whole) in absurd (omega (arith, of_a, of_b, rows, same, le, less))
      ]
    ]

not_both : (j k lo hi : ℕ) → (k < lo) ⊎ (hi ≤ k) → lo ≤ j → j < hi → j ≡ k → ⊥
not_both j k lo hi (inl before) from to is = omega arith
not_both j k lo hi (inr behind) from to is = omega arith

-- another slot than those of these numbers was changed
pub slots_same : (size n d k lo hi j : ℕ) (memory new : List ℕ)
    → OneSlot size n (k % n) memory new → d ≤ lo → hi ≤ d + n → d ≤ k → k < d + n → (k < lo) ⊎ (hi ≤ k)
    → lo ≤ j → j < hi → slot_bytes size (j % n) new ≡ slot_bytes size (j % n) memory
slots_same size n d k lo hi j memory new one from to since until outside j_from j_to =
    let some : 0 < n = omega arith in
    let other : j % n ≢ k % n = λ same. elim (cases_lt j k) [
      | inl less ↦ let is : j ≡ k = one_lap n j k (omega arith) (omega arith) same in not_both j k lo hi outside j_from j_to is
      | inr past ↦ let is : k ≡ j = one_lap n k j (omega arith) (omega arith) (sym same) in not_both j k lo hi outside j_from j_to (sym is)
    ] in
    one.others (j % n) (mod_below j n some) other

-- what holds of the slots of numbers within one lap holds on where another slot is changed
pub slots_stay : (size n d k lo hi : ℕ) (Holds : ℕ → List ℕ → Type 0) (memory new : List ℕ)
    → OneSlot size n (k % n) memory new → d ≤ lo → hi ≤ d + n → d ≤ k → k < d + n → (k < lo) ⊎ (hi ≤ k)
    → Slots size n Holds lo hi memory → Slots size n Holds lo hi new
slots_stay size n d k lo hi Holds memory new one from to since until outside held j j_from j_to =
    subst (λ (bytes : List ℕ). Holds j bytes) (sym (slots_same size n d k lo hi j memory new one from to since until outside j_from j_to)) (held j j_from j_to)

-- the free slots are as long as the ring
free_long_64 : (slots : ℕ) → length (free_slots 64 slots) ≡ 64 * slots
free_long_64 zero = refl
free_long_64 (suc slots) = let rest = free_long_64 slots in omega (arith, rest)

free_long_128 : (slots : ℕ) → length (free_slots 128 slots) ≡ 128 * slots
free_long_128 zero = refl
free_long_128 (suc slots) = let rest = free_long_128 slots in omega (arith, rest)

pub length-free_slots : (size slots : ℕ) → IsSlotSize size → length (free_slots size slots) ≡ size * slots
length-free_slots size slots (inl is) = subst (λ (n : ℕ). length (free_slots n slots) ≡ n * slots) (sym is) (free_long_64 slots)
length-free_slots size slots (inr is) = subst (λ (n : ℕ). length (free_slots n slots) ≡ n * slots) (sym is) (free_long_128 slots)

pub free_slots_more : (size slots : ℕ) → free_slots size (slots + 1) ≡ free_slots size slots ++ free_slot size
free_slots_more size zero = append-nil (free_slot size)
free_slots_more size (suc slots) =
    let more : suc slots + 1 ≡ suc (slots + 1) = omega arith in
    ap (free_slots size) more ∙ ap (λ (xs : List ℕ). free_slot size ++ xs) (free_slots_more size slots) ∙ sym (append_assoc (free_slot size) (free_slots size slots) (free_slot size))

free_long : (size : ℕ) → IsSlotSize size → length (free_slot size) ≡ size
free_long size (inl is) = subst (λ (n : ℕ). length (free_slot n) ≡ n) (sym is) refl
free_long size (inr is) = subst (λ (n : ℕ). length (free_slot n) ≡ n) (sym is) refl

-- one slot more is cleared
pub clear_more : (size slots i : ℕ) (memory now new : List ℕ) → IsSlotSize size → i < slots → size * slots ≤ length memory
    → now ≡ put_at 0 (free_slots size i) memory → new ≡ put_at (size * i) (free_slot size) now → new ≡ put_at 0 (free_slots size (i + 1)) memory
clear_more size slots i memory now new is below room now_is new_is =
    let long : length (free_slots size i) ≡ size * i = length-free_slots size i is in
    let fits : size * i + size ≤ size * slots = slot_fits size i slots below in
    let one : length (free_slot size) ≡ size = free_long size is in
    let place : size * i ≡ 0 + length (free_slots size i) = omega (arith, long) in
    new_is ∙ ap (put_at (size * i) (free_slot size)) now_is
    ∙ put_at-put_at_next 0 (size * i) (free_slots size i) (free_slot size) memory place (omega (arith, one, fits))
    ∙ ap (λ (piece : List ℕ). put_at 0 piece memory) (sym (free_slots_more size i))

-- a slot has few bytes
pub slot_small : (size : ℕ) → IsSlotSize size → size ≤ 128
slot_small size (inl is) = omega arith
slot_small size (inr is) = omega arith

-- so many slots lie in so many bytes
pub ring_fits : (size slots most length : ℕ) → IsSlotSize size → slots ≡ most → 128 * most ≤ length → size * slots ≤ length
ring_fits size slots most length (inl is) slots_are room = rw (is, slots_are) (omega arith)
ring_fits size slots most length (inr is) slots_are room = rw (is, slots_are) (omega arith)

-- a whole slot is written: it reads back, and no other slot changes
pub slot_reads_back : (size n k : ℕ) (piece memory : List ℕ) → k < n → length piece ≡ size → size * n ≤ length memory
    → slot_bytes size k (put_at (size * k) piece memory) ≡ piece
slot_reads_back size n k piece memory below long room =
    let fits : size * k + size ≤ size * n = slot_fits size k n below in
    range_at-put_at_same (size * k) size piece memory long (omega arith)

-- a write to the front of a slot leaves the others
pub one_slot_front : (size n k : ℕ) (piece memory : List ℕ) → k < n → length piece ≤ size → size * n ≤ length memory → OneSlot size n k memory (put_at (size * k) piece memory)
one_slot_front size n k piece memory below within room =
    let place : size * k + 0 ≡ size * k = omega arith in
    subst (λ (p : ℕ). OneSlot size n k memory (put_at p piece memory)) place (one_slot_put size n k 0 piece memory below (omega arith) room)

-- and is a write to the front of its bytes
pub slot_front : (size n k : ℕ) (piece memory : List ℕ) → k < n → length piece ≤ size → size * n ≤ length memory
    → slot_bytes size k (put_at (size * k) piece memory) ≡ put_at 0 piece (slot_bytes size k memory)
slot_front size n k piece memory below within room =
    let place : size * k + 0 ≡ size * k = omega arith in
    subst (λ (p : ℕ). slot_bytes size k (put_at p piece memory) ≡ put_at 0 piece (slot_bytes size k memory)) place (slot_put size n k 0 piece memory below (omega arith) room)

row_next : (size i : ℕ) → size * suc i ≡ size + size * i
row_next size i = omega arith

-- a slot of free slots
free_at : (size i slots : ℕ) → IsSlotSize size → i < slots → range_at (size * i) size (free_slots size slots) ≡ free_slot size
free_at size i zero is below = absurd (omega arith)
free_at size zero (suc slots) is below =
    let place : size * 0 ≡ 0 = omega arith in
    ap (λ (p : ℕ). range_at p size (free_slots size (suc slots))) place ∙ take_at (free_slot size) (free_slots size slots) size (free_long size is)
free_at size (suc i) (suc slots) is below =
    let place : size * suc i ≡ size + size * i = row_next size i in
    ap (λ (p : ℕ). range_at p size (free_slots size (suc slots))) place
    ∙ ap (λ (xs : List ℕ). take size xs) (sym (drop-drop (size * i) size (free_slots size (suc slots))) ∙ ap (drop (size * i)) (drop_at (free_slot size) (free_slots size slots) size (free_long size is)))
    ∙ free_at size i slots is (omega arith)

-- after a clear each slot holds nothing
pub slot_cleared : (size slots i : ℕ) (memory : List ℕ) → IsSlotSize size → i < slots → slot_bytes size i (put_at 0 (free_slots size slots) memory) ≡ free_slot size
slot_cleared size slots i memory is below =
    let long = length-free_slots size slots is in
    let fits : size * i + size ≤ size * slots = slot_fits size i slots below in
    let start : 0 ≤ length memory = omega arith in
    let place : size * i ≡ 0 + size * i = omega arith in
    ap (λ (p : ℕ). range_at p size (put_at 0 (free_slots size slots) memory)) place
    ∙ range_at-put_at_inside (size * i) size 0 (free_slots size slots) memory (omega (arith, long)) start ∙ free_at size i slots is below

-- and what lies after the ring stays
pub behind_clear : (size slots p w : ℕ) (memory : List ℕ) → IsSlotSize size → size * slots ≤ length memory → size * slots ≤ p
    → range_at p w (put_at 0 (free_slots size slots) memory) ≡ range_at p w memory
behind_clear size slots p w memory is room past =
    let long = length-free_slots size slots is in
    range_at-put_at_outside p w 0 (free_slots size slots) memory (omega (arith, long)) (inr (omega (arith, long)))
