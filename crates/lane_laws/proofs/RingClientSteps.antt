-- What a client's work does to the ring in session: a request is READY in the next slot, and the slot of a done one is FREE.
use Rattle.std.proofs.Common.{◌≡◌, ◌≢◌, ℕ, ◌+◌, ◌-◌, ◌*◌, ◌%◌, ◌^◌, ◌<◌, ◌≤◌, List, [], ◌∷◌, length, drop, set, Option, Some, None, refl, sym, ap, ◌∙◌, subst, arith}
use Rattle.std.specs.Prelude.{slice_get, slice_index, zero, suc}
use Rattle.std.proofs.lemmas.Nat.{mod_below}
use Rattle.std.proofs.lemmas.Option.{slice_get_within}
use Rattle.dring.specs.Slots.{OneSlot, done_state, free_state, slot_bytes}
use Rattle.ldc_queue.specs.declared.end.End.TheVariants.{A}
use Rattle.vdisk_msg.specs.declared.desc.DiskDesc.{DiskDesc}
use Rattle.vdisk_msg.specs.declared.request.Request.{Request}
use Rattle.vdisk_msg.specs.Descriptor.{disk_desc_of}
use Rattle.vdisk_msg.specs.Requests.{defect}
use Rattle.vio_bytes.specs.Place.{number_at, put_at}
use Rattle.lane_laws.specs.DiskLog.{DiskLog, after}
use Rattle.lane_laws.specs.RingLog.{Accepted, Done as IsDone, Free, Ready, SlotLog, freed_at, published_at}
use Rattle.lane_laws.specs.WorkLog.{ClientCounts, ServerCounts, change_client}
use Rattle.lane_models.specs.ClientRule as client_rules
use Rattle.lane_models.specs.ClientState.{ClientSession}
use Rattle.lane_models.specs.ClientStep.{published_memory}
use Rattle.lane_models.specs.DiskEvent.{Done, Published, Works}
use Rattle.lane_models.specs.LaneState.{LaneState}
use Rattle.lane_models.specs.LaneStep.{WorkStep}
use Rattle.lane_models.specs.Seeing.{seen}
use Rattle.lane_laws.proofs.MemorySteps.{got_sound}
use Rattle.lane_laws.proofs.RingClient.{frees_slot, publishes_slot}
use Rattle.lane_laws.proofs.RingSessions.{OfClient, of_client, sizes_of}
use Rattle.lane_laws.proofs.RingTable.{each_set, id_is, map_stands, none_next, set_holds, some_entry, work_beside}
use Rattle.lane_laws.proofs.RingWork.{Known, ids_in, memory_is, some_slots, turn_in}
use Rattle.lane_laws.proofs.StandingRuns.{slots_is as slots_are}
use Rattle.lane_laws.proofs.Ruling.{client_may}
use Rattle.lane_laws.proofs.SlotBytes.{done_slot, published_is, reads_back}
use Rattle.lane_laws.specs.RingAgreed.{InRing, ring_in}
use Rattle.lane_laws.specs.CompletesSlot.{CompletesSlot}
use Rattle.lane_laws.specs.RingSlots.{HoldsIssued, IdStands, IdsStand, InWork, RingHolds, RingOf, SlotStands, WorkStands}
use Rattle.lane_laws.specs.RuleFacts.{ClientMay}
use Rattle.lane_laws.specs.Sound.{CountsInOrder, SessionInOrder}

-- the descriptor in work isn't in a slot that changes
work_other : (r : RingOf) (ring : List SlotLog) (o : Option ServerCounts) (k : ℕ) (e : SlotLog) → ((d : ServerCounts) → InWork r ring d → d.finished % r.slots ≢ k)
    → WorkStands r ring o → WorkStands r (set ring k e) o
work_other r ring None k e other stands = tt
work_other r ring (Some d) k e other stands = λ one. work_beside r ring d k e (other d (stands one)) stands one

-- THE NEXT REQUEST to publish
pub got_at : (xs : List Request) (n m : ℕ) → slice_get (drop n xs) m ≡ slice_get xs (n + m)
got_at xs zero m = let same : m ≡ 0 + m = omega arith in ap (slice_get xs) same
got_at [] (suc n) m = refl
got_at (x ∷ xs) (suc n) m = let same : suc (n + m) ≡ suc n + m = omega arith in got_at xs n m ∙ ap (slice_get (x ∷ xs)) same

pub record Publishing (s : LaneState) (l : DiskLog) (id : ℕ) (session : ClientSession) (k : ClientCounts) (request : Request) : Type 0 where
  pub accepted : slice_get l.work.issued id ≡ Some request
  pub admitted : defect l.shape.blocks request ≡ None
  pub number : id ≡ k.base + k.published
  pub since : l.work.done ≤ id
  pub turn : k.base + k.published < l.work.done + l.shape.slots

pub in_order : (s : LaneState) (l : DiskLog) (session : ClientSession) → Known s l → s.client.session ≡ Some session → SessionInOrder (length s.client.pending) session
in_order s l session known is = subst (CountsInOrder (length s.client.pending)) is known.sound.counts

pub publishing : (s : LaneState) (l : DiskLog) (id : ℕ) (session : ClientSession) (request : Request) → Known s l → s.client.session ≡ Some session
    → (k : OfClient session l.work.done l.work.client) → id ≡ session.base + session.published → slice_get s.client.pending (session.published - session.completed) ≡ Some request
    → Publishing s l id session k.counts request
publishing s l id session request known is k id_is_number next = grind (arith, slice_get_within, got_at, got_sound)

-- the session after it, and what of ids stays
abbrev one_more : ClientCounts → ClientCounts
one_more c = record c { published = c.published + 1 }

ids_more : (slots done : ℕ) (k : ClientCounts) (slot id : ℕ) → IdStands slots done k slot id → IdStands slots done (one_more k) slot id
ids_more slots done k slot id stands = grind arith

new_id : (slots done : ℕ) (k : ClientCounts) (id : ℕ) → k.base ≤ done → done ≤ id → id ≡ k.base + k.published → IdStands slots done (one_more k) (k.published % slots) id
new_id slots done k id based since number = grind arith

pub published_in_ring : (s : LaneState) (l : DiskLog) (id : ℕ) (t : LaneState) → Known s l → length l.work.issued < 2 ^ 64 → WorkStep s (Published id) t
    → InRing t (after l (Works (Published id)))
published_in_ring s l id t known few step =
    let at = seen A s.shape.entries s.wire.wire in
    let r = ring_in l in
    let n = l.shape.slots in
    let p = step.step in
    let may : ClientMay s.client at (client_rules.Publishes p.session p.request) = subst (ClientMay s.client at) p.rule (client_may s.client at) in
    let of_k = of_client s l p.session may.1 known.agree in
    let k = of_k.counts in
    let new = publishing s l id p.session p.request known may.1 of_k p.id_is may.2 in
    let slot = k.published % n in
    let below : slot < n = mod_below k.published n (some_slots s l known) in
    let written : t.memory ≡ published_memory n slot id p.request s.memory =
    p.written_is
    ∙ ap (λ (m : ℕ). published_memory m (p.session.published % m) id p.request s.memory) (slots_are s l known.stands)
    ∙ ap (λ (x : ℕ). published_memory n (x % n) id p.request s.memory) of_k.agree.published in
    let puts = publishes_slot l.shape.blocks n slot id p.request s.memory new.admitted below (memory_is s l known) in
    let table : published_at n l.work.client id l.ring ≡ set l.ring slot (Ready id) = ap (λ (q : Option ClientCounts). published_at n q id l.ring) of_k.open_is in
    let within = slice_get_within l.work.issued id p.request new.accepted in
    let here : HoldsIssued r slot id 2 0 (slot_bytes 128 slot t.memory) = record {
      request = p.request;
      accepted = new.accepted;
      admitted = new.admitted;
      id_fits = omega (arith, within, few);
      status_fits = omega arith;
      bytes_are = ap (slot_bytes 128 slot) written ∙ puts.there ∙ published_is id p.request slot n;
    } in
    let holds : RingHolds r (set l.ring slot (Ready id)) t.memory =
    set_holds r l.ring s.memory t.memory slot (Ready id) known.ring.holds below (subst (OneSlot 128 n slot s.memory) (sym written) puts.one) here in
    let turn = turn_in s l k known of_k.open_is in
    let ids : IdsStand n l.work.done (set l.ring slot (Ready id)) (Some (one_more k)) =
    each_set (λ (j : ℕ) (is : SlotLog). SlotStands n l.work.done (one_more k) j is) l.ring slot (Ready id) (omega (arith, below, known.ring.holds.long))
    (λ j is other got. map_stands n l.work.done l.work.done k (one_more k) j (ids_more n l.work.done k j) is (ids_in s l k known of_k.open_is j is got))
    (new_id n l.work.done k id turn.based new.since new.number) in
    let apart : (d : ServerCounts) → InWork r l.ring d → d.finished % n ≢ slot =
    λ d work. none_next n l.work.done k (d.finished % n) work.id (ids_in s l k known of_k.open_is (d.finished % n) (Accepted work.id) work.stands) new.turn in
    record {
      holds = subst (λ (x : List SlotLog). RingHolds r x t.memory) (sym table) holds;
      ids = subst (λ (x : List SlotLog). IdsStand n l.work.done x (change_client one_more l.work.client)) (sym table)
          (subst (λ (q : Option ClientCounts). IdsStand n l.work.done (set l.ring slot (Ready id)) (change_client one_more q)) (sym of_k.open_is) ids);
      work = λ up. subst (λ (x : List SlotLog). WorkStands r x l.work.server) (sym table) (work_other r l.ring l.work.server slot (Ready id) apart (known.ring.work up));
    }

-- A DONE REQUEST: its slot is DONE, with the status that its completion carries
first_number : (bytes : List ℕ) → number_at 1 0 bytes ≡ slice_index bytes 0
first_number [] = refl
first_number (x ∷ bytes) = omega arith

-- sums over the counts of a session, of numbers alone
place_done : (done base completed : ℕ) → done ≡ base + completed → completed ≡ done - base
place_done done base completed is = omega arith

within_long : (slot n long : ℕ) → slot < n → long ≡ n → slot < long
within_long slot n long below is = omega arith

done_published : (done base completed acked announced published number : ℕ) → done ≡ base + completed → completed < acked → acked ≤ announced → announced ≤ published
    → published ≡ number → done - base < number
done_published done base completed acked announced published number is more fewer few same = omega arith

pub since_base : (done base : ℕ) → base ≤ done → done ≤ base + (done - base)
since_base done base based = omega arith

same_id : (id first base done completed other : ℕ) → id ≡ first + completed → first ≡ base → done ≡ base + completed → other ≡ base + (done - base) → id ≡ other
same_id id first base done completed other is same counts number = omega arith

is_next : (id other base done : ℕ) → id ≡ other → other ≡ base + (done - base) → base ≤ done → id ≡ done
is_next id other base done same number based = omega arith

done_small : 4 < 2 ^ 8
done_small = omega arith

pub completes_slot : (s : LaneState) (l : DiskLog) (id operation status : ℕ) (bytes : List ℕ) (t : LaneState) → Known s l → WorkStep s (Done id operation status bytes) t
    → (k : ClientCounts) × CompletesSlot s l id status k
completes_slot s l id operation status bytes t known step =
    let at = seen A s.shape.entries s.wire.wire in
    let r = ring_in l in
    let n = l.shape.slots in
    let c = step.step in
    let may : ClientMay s.client at (client_rules.Completes c.session) = subst (ClientMay s.client at) c.rule (client_may s.client at) in
    let of_k = of_client s l c.session may.1 known.agree in
    let k = of_k.counts in
    let base = of_k.agree.base in
    let done = of_k.agree.completed in
    let order = in_order s l c.session known may.1 in
    let more = may.2 in
    let acked = order.acked in
    let announced = order.announced in
    let published = of_k.agree.published in
    let slot = (l.work.done - k.base) % n in
    let below : slot < n = mod_below (l.work.done - k.base) n (some_slots s l known) in
    let place : c.session.completed ≡ l.work.done - k.base = place_done l.work.done k.base c.session.completed done in
    let same_slot : c.session.completed % s.client.slots ≡ slot = ap (λ (m : ℕ). c.session.completed % m) (slots_are s l known.stands) ∙ ap (λ (x : ℕ). x % n) place in
    let state : (disk_desc_of (slot_bytes 128 slot s.memory)).state ≡ done_state = subst (λ (j : ℕ). (disk_desc_of (slot_bytes 128 j s.memory)).state ≡ done_state) same_slot c.done in
    let entry = some_entry l.ring slot (within_long slot n (length l.ring) below known.ring.holds.long) in
    let is_done = done_slot r slot entry.0 (slot_bytes 128 slot s.memory) (known.ring.holds.each slot entry.0 entry.1) (sym (first_number (slot_bytes 128 slot s.memory)) ∙ state) in
    let sizes = sizes_of s l slot known.pages below in
    let read = reads_back r slot is_done.id 4 is_done.status (slot_bytes 128 slot s.memory) sizes done_small is_done.holds in
    let status_is : status ≡ is_done.status =
    c.status_is ∙ ap (λ (j : ℕ). (disk_desc_of (slot_bytes 128 j s.memory)).status) same_slot ∙ ap (λ (d : DiskDesc). d.status) read in
    let stands : IdStands n l.work.done k slot is_done.id = subst (SlotStands n l.work.done k slot) is_done.same (ids_in s l k known of_k.open_is slot entry.0 entry.1) in
    let turn = turn_in s l k known of_k.open_is in
    let number : is_done.id ≡ k.base + (l.work.done - k.base) =
    id_is n l.work.done k slot is_done.id (l.work.done - k.base) stands (since_base l.work.done k.base turn.based)
    (done_published l.work.done k.base c.session.completed c.session.acked c.session.announced c.session.published k.published done more acked announced published) turn.turn refl in
    let id_same : id ≡ is_done.id = same_id id c.session.base k.base l.work.done c.session.completed is_done.id c.id_is base done number in (
      k,
      record {
        open_is = of_k.open_is;
        based = turn.based;
        done_is = entry.1 ∙ ap (λ (e : SlotLog). Some e) is_done.same ∙ ap (λ (i : ℕ). Some (IsDone i is_done.status)) (sym id_same) ∙ ap (λ (x : ℕ). Some (IsDone id x)) (sym status_is);
        number = is_next id is_done.id k.base l.work.done id_same number turn.based;
      },
    )

abbrev base_of : Option ClientCounts → ℕ
base_of None = 0
base_of (Some k) = k.base

ids_fewer : (slots done : ℕ) (k : ClientCounts) (slot : ℕ) → slot ≢ (done - k.base) % slots → (id : ℕ) → IdStands slots done k slot id → IdStands slots (done + 1) k slot id
ids_fewer slots done k slot other id stands = grind arith

pub completed_in_ring : (s : LaneState) (l : DiskLog) (id operation status : ℕ) (bytes : List ℕ) (t : LaneState) → Known s l → WorkStep s (Done id operation status bytes) t
    → InRing t (after l (Works (Done id operation status bytes)))
completed_in_ring s l id operation status bytes t known step =
    let at = seen A s.shape.entries s.wire.wire in
    let r = ring_in l in
    let n = l.shape.slots in
    let c = step.step in
    let found = completes_slot s l id operation status bytes t known step in
    let k = found.0 in
    let may : ClientMay s.client at (client_rules.Completes c.session) = subst (ClientMay s.client at) c.rule (client_may s.client at) in
    let of_k = of_client s l c.session may.1 known.agree in
    let done = of_k.agree.completed in
    let same_k : of_k.counts.base ≡ k.base = ap base_of (sym of_k.open_is ∙ found.1.open_is) in
    let slot = (l.work.done - k.base) % n in
    let below : slot < n = mod_below (l.work.done - k.base) n (some_slots s l known) in
    let place : c.session.completed ≡ l.work.done - k.base =
    place_done l.work.done k.base c.session.completed (done ∙ ap (λ (n : ℕ). n + c.session.completed) same_k) in
    let freed : t.memory ≡ put_at (128 * slot) (free_state ∷ []) s.memory =
    c.freed ∙ ap (λ (m : ℕ). put_at (128 * (c.session.completed % m)) (free_state ∷ []) s.memory) (slots_are s l known.stands)
    ∙ ap (λ (x : ℕ). put_at (128 * (x % n)) (free_state ∷ []) s.memory) place in
    let frees = frees_slot n slot s.memory below (memory_is s l known) in
    let table : freed_at n l.work l.work.client l.ring ≡ set l.ring slot Free = ap (λ (q : Option ClientCounts). freed_at n l.work q l.ring) found.1.open_is in
    let holds : RingHolds r (set l.ring slot Free) t.memory =
    set_holds r l.ring s.memory t.memory slot Free known.ring.holds below (subst (OneSlot 128 n slot s.memory) (sym freed) frees.one)
    (ap (λ (m : List ℕ). slice_index (slot_bytes 128 slot m) 0) freed ∙ frees.there) in
    let ids : IdsStand n (l.work.done + 1) (set l.ring slot Free) (Some k) =
    each_set (λ (j : ℕ) (is : SlotLog). SlotStands n (l.work.done + 1) k j is) l.ring slot Free (within_long slot n (length l.ring) below known.ring.holds.long)
    (λ j is other got. map_stands n l.work.done (l.work.done + 1) k k j (ids_fewer n l.work.done k j other) is (ids_in s l k known found.1.open_is j is got)) tt in
    let apart : (d : ServerCounts) → InWork r l.ring d → d.finished % n ≢ slot =
    λ d work same.
    let accepted : slice_get l.ring slot ≡ Some (Accepted work.id) = subst (λ (j : ℕ). slice_get l.ring j ≡ Some (Accepted work.id)) same work.stands in
    let clash : Some (Accepted work.id) ≡ Some (IsDone id status) = sym accepted ∙ found.1.done_is in
    absurd (cc clash) in
    record {
      holds = subst (λ (x : List SlotLog). RingHolds r x t.memory) (sym table) holds;
      ids = subst (λ (x : List SlotLog). IdsStand n (l.work.done + 1) x l.work.client) (sym table)
          (subst (λ (q : Option ClientCounts). IdsStand n (l.work.done + 1) (set l.ring slot Free) q) (sym found.1.open_is) ids);
      work = λ up. subst (λ (x : List SlotLog). WorkStands r x l.work.server) (sym table) (work_other r l.ring l.work.server slot Free apart (known.ring.work up));
    }
