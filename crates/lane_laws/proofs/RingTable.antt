-- One slot of the ring's table and of its memory changes, and all others stay; the id in a slot is the one whose number stands there.
use Rattle.std.proofs.Common.{◌≡◌, ◌≢◌, ℕ, ◌+◌, ◌-◌, ◌%◌, ◌<◌, ◌≤◌, ◌⊎◌, List, [], ◌∷◌, ◌++◌, length, set, refl, sym, ap, ◌∙◌, subst, arith, Option, Some, None}
use Rattle.std.specs.Prelude.{slice_get, slice_index, zero, suc, replicate}
use Rattle.std.proofs.lemmas.List.{length-set}
use Rattle.std.proofs.lemmas.Option.{slice_get_within}
use Rattle.dring.proofs.Laps.{one_lap}
use Rattle.dring.specs.Slots.{OneSlot, free_state, slot_bytes}
use Rattle.vdisk_msg.specs.declared.request.Request.{Request}
use Rattle.lane_laws.specs.RingLog.{Free, SlotLog}
use Rattle.lane_laws.specs.WorkLog.{ClientCounts, ServerCounts}
use Rattle.lane_laws.proofs.SlotBytes.{more_holds}
use Rattle.lane_laws.specs.RingSlots.{IdStands, IdsStand, InWork, RingHolds, RingOf, SameSlots, SlotHolds, SlotStands, WorkStands}

-- ONE ENTRY of a table
pub got_same : (ring : List SlotLog) (k : ℕ) (e : SlotLog) → k < length ring → slice_get (set ring k e) k ≡ Some e
got_same [] k e below = absurd (omega (arith, below))
got_same (x ∷ ring) zero e below = refl
got_same (x ∷ ring) (suc k) e below = got_same ring k e (omega (arith, below))

pub got_other : (ring : List SlotLog) (k j : ℕ) (e : SlotLog) → j ≢ k → slice_get (set ring k e) j ≡ slice_get ring j
got_other [] k j e other = refl
got_other (x ∷ ring) zero zero e other = absurd (other refl)
got_other (x ∷ ring) zero (suc j) e other = refl
got_other (x ∷ ring) (suc k) zero e other = refl
got_other (x ∷ ring) (suc k) (suc j) e other = got_other ring k j e (λ same. other (ap suc same))

pub same_or_other : (a b : ℕ) → (a ≡ b) ⊎ (a ≢ b)
same_or_other a b = grind arith

pub some_entry : (ring : List SlotLog) (k : ℕ) → k < length ring → (is : SlotLog) × (slice_get ring k ≡ Some is)
some_entry [] k below = absurd (omega (arith, below))
some_entry (x ∷ ring) zero below = (x, refl)
some_entry (x ∷ ring) (suc k) below = some_entry ring k (omega (arith, below))

-- what holds of each entry, of a table with one entry changed
each_if : (P : ℕ → SlotLog → Type 0) (ring : List SlotLog) (k : ℕ) (e : SlotLog) → k < length ring
    → ((j : ℕ) (is : SlotLog) → j ≢ k → slice_get ring j ≡ Some is → P j is) → P k e
    → (j : ℕ) (is : SlotLog) → slice_get (set ring k e) j ≡ Some is → (j ≡ k) ⊎ (j ≢ k) → P j is
each_if P ring k e below others here j is got is_holds = grind (arith, got_same, got_other)

pub each_set : (P : ℕ → SlotLog → Type 0) (ring : List SlotLog) (k : ℕ) (e : SlotLog) → k < length ring
    → ((j : ℕ) (is : SlotLog) → j ≢ k → slice_get ring j ≡ Some is → P j is) → P k e
    → (j : ℕ) (is : SlotLog) → slice_get (set ring k e) j ≡ Some is → P j is
each_set P ring k e below others here j is got = each_if P ring k e below others here j is got (same_or_other j k)

-- THE BYTES
pub set_holds : (r : RingOf) (ring : List SlotLog) (memory new : List ℕ) (k : ℕ) (e : SlotLog) → RingHolds r ring memory → k < r.slots → OneSlot 128 r.slots k memory new
    → SlotHolds r k e (slot_bytes 128 k new) → RingHolds r (set ring k e) new
set_holds r ring memory new k e holds below one here =
    let long = holds.long in
    record {
      long = length-set ring k e ∙ long;
      each = each_set (λ (j : ℕ) (is : SlotLog). SlotHolds r j is (slot_bytes 128 j new)) ring k e (omega (arith, below, long))
          (λ j is other got.
          let within : j < r.slots = omega (arith, slice_get_within ring j is got, long) in
          subst (SlotHolds r j is) (sym (one.others j within other)) (holds.each j is got))
          here;
    }

pub same_holds : (r : RingOf) (ring : List SlotLog) (memory new : List ℕ) → RingHolds r ring memory → SameSlots r.slots memory new → RingHolds r ring new
same_holds r ring memory new holds same =
    let long = holds.long in
    record {
      long = long;
      each = λ j is got.
          let within : j < r.slots = omega (arith, slice_get_within ring j is got, long) in
          subst (SlotHolds r j is) (sym (same.each j within)) (holds.each j is got);
    }

more_slot : (r : RingOf) (request : Request) (slot : ℕ) (is : SlotLog) (bytes : List ℕ) → SlotHolds r slot is bytes → SlotHolds (record r { issued = r.issued ++ request ∷ [] }) slot is bytes
more_slot r request slot is bytes holds = grind (arith, more_holds)

pub more_ring : (r : RingOf) (request : Request) (ring : List SlotLog) (memory : List ℕ) → RingHolds r ring memory → RingHolds (record r { issued = r.issued ++ request ∷ [] }) ring memory
more_ring r request ring memory holds = record { long = holds.long; each = λ slot is got. more_slot r request slot is (slot_bytes 128 slot memory) (holds.each slot is got) }

pub more_work : (r : RingOf) (request : Request) (ring : List SlotLog) (o : Option ServerCounts) → WorkStands r ring o → WorkStands (record r { issued = r.issued ++ request ∷ [] }) ring o
more_work r request ring None stands = tt
more_work r request ring (Some d) stands = λ one.
    let work = stands one in
    record { id = work.id; stands = work.stands; fetched = more_holds r request (d.finished % r.slots) work.id 2 0 d.desc work.fetched }

-- a ring of free slots
pub free_entry : (n j : ℕ) (is : SlotLog) → slice_get (replicate n Free) j ≡ Some is → is ≡ Free
free_entry zero j is got = absurd (cc got)
free_entry (suc n) zero is got = cc got
free_entry (suc n) (suc j) is got = free_entry n j is got

free_count : (n : ℕ) → length (replicate n Free) ≡ n
free_count zero = refl
free_count (suc n) = ap suc (free_count n)

pub free_ring : (r : RingOf) (memory : List ℕ) → ((slot : ℕ) → slot < r.slots → slice_index (slot_bytes 128 slot memory) 0 ≡ free_state) → RingHolds r (replicate r.slots Free) memory
free_ring r memory free = grind (arith, free_count, slice_get_within, free_entry)

pub free_ids : (slots done : ℕ) (o : Option ClientCounts) → IdsStand slots done (replicate slots Free) o
free_ids slots done None = tt
free_ids slots done (Some c) = λ slot is got. subst (SlotStands slots done c slot) (sym (free_entry slots slot is got)) tt

-- THE NUMBERS
id_below : (slots done : ℕ) (c : ClientCounts) (slot id j : ℕ) → IdStands slots done c slot id → done ≤ c.base + j → j < c.published → c.base + c.published ≤ done + slots
    → slot ≡ j % slots → id - c.base ≡ j
id_below slots done c slot id j stands since below turn is = grind (arith, one_lap)

-- the id in the slot of a number is that number's
pub id_is : (slots done : ℕ) (c : ClientCounts) (slot id j : ℕ) → IdStands slots done c slot id → done ≤ c.base + j → j < c.published → c.base + c.published ≤ done + slots
    → slot ≡ j % slots → id ≡ c.base + j
id_is slots done c slot id j stands since below turn is =
    let same = id_below slots done c slot id j stands since below turn is in
    omega (arith, same, stands.based, stands.since)

-- the next number to publish has a slot in which no id stands
pub none_next : (slots done : ℕ) (c : ClientCounts) (slot id : ℕ) → IdStands slots done c slot id → c.base + c.published < done + slots → slot ≢ c.published % slots
none_next slots done c slot id stands turn is = grind arith

pub map_stands : (slots done done2 : ℕ) (c c2 : ClientCounts) (slot : ℕ) → ((id : ℕ) → IdStands slots done c slot id → IdStands slots done2 c2 slot id) → (is : SlotLog)
    → SlotStands slots done c slot is → SlotStands slots done2 c2 slot is
map_stands slots done done2 c c2 slot keeps is stands = grind arith

-- WORK in another slot than one that changes
pub work_beside : (r : RingOf) (ring : List SlotLog) (d : ServerCounts) (k : ℕ) (e : SlotLog) → d.finished % r.slots ≢ k → (d.descs ≡ d.finished + 1 → InWork r ring d)
    → d.descs ≡ d.finished + 1 → InWork r (set ring k e) d
work_beside r ring d k e other stands one = grind (arith, got_other)
