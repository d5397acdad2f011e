-- On a lane that nobody forged no end resets itself for what it finds in the ring: an acknowledged slot is DONE, the next slot of a range is
-- READY, and no copy of a slot is refused.
use Rattle.std.proofs.Common.{◌≡◌, ◌≢◌, ℕ, ◌+◌, ◌*◌, ◌%◌, ◌<◌, ◌≤◌, inl, inr, Bool, true, false, Option, Some, None, List, refl, sym, ap, ◌∙◌, subst, arith}
use Rattle.std.specs.Prelude.{◌==◌, slice_index}
use Rattle.std.proofs.lemmas.Bool.Decides.{nat_tests}
use Rattle.std.proofs.lemmas.Nat.{mod_below}
use Rattle.std.specs.List.{list_all}
use Rattle.runs.specs.Lawful.{log_of}
use Rattle.runs.specs.Run.{Run}
use Rattle.cookie_copy.proofs.OwnPages.{no_fault_range}
use Rattle.cookie_copy.specs.declared.fault.Access.TheVariants as access
use Rattle.cookie_copy.specs.declared.fault.CopyFault.{CopyFault}
use Rattle.cookie_copy.specs.Faults.{both_up, first_copy_fault, is_aligned, is_aligned_cookie}
use Rattle.dring.proofs.Laps.{slot_fits}
use Rattle.dring.specs.declared.peer.RingFault.{RingFault}
use Rattle.dring.specs.declared.peer.RingFault.TheVariants as refused
use Rattle.dring.specs.Reaching.{RefusesFetch}
use Rattle.dring.specs.Slots.{done_state, slot_bytes}
use Rattle.ldc_queue.specs.declared.end.ChannelState.TheVariants.{Up}
use Rattle.ldc_queue.specs.declared.end.End.TheVariants.{A, B}
use Rattle.map_table.specs.declared.cookie.Cookie.{Cookie}
use Rattle.vdisk_msg.specs.declared.desc.DiskDesc.{DiskDesc}
use Rattle.vio_tag.specs.declared.cause.Cause.{Cause}
use Rattle.lane_models.specs.WireLog.{WireLog}
use Rattle.lane_laws.specs.Agreement.{WorkAgrees}
use Rattle.lane_laws.specs.DiskLog.{DiskLog, after, nothing_yet}
use Rattle.lane_laws.specs.WorkLaws.{IfServer}
use Rattle.lane_laws.specs.WorkLog.{ServerCounts}
use Rattle.lane_models.specs.ClientRule as client_rules
use Rattle.lane_models.specs.ClientState.{ClientSession}
use Rattle.lane_models.specs.ClientStep.{completed_descriptor}
use Rattle.lane_models.specs.DiskEvent.{DiskEvent}
use Rattle.lane_models.specs.LaneState.{IsShape, LaneState, Shape, fresh, pages_of}
use Rattle.lane_models.specs.LaneStep.{LaneStep, reach}
use Rattle.lane_models.specs.Offering.{own_cookies}
use Rattle.lane_models.specs.Ranges.{wrapped}
use Rattle.lane_models.specs.Seeing.{seen}
use Rattle.lane_models.specs.ServerRule as server_rules
use Rattle.lane_models.specs.ServerState.{ServerSession, ServerState, Work}
use Rattle.cookie_copy.specs.Reach.{Reach}
use Rattle.lane_models.specs.ServerWork.{EndFails, FetchFails, fetch_fault, slot_at, slot_fetched, slots_cookies, word_fault}
use Rattle.lane_laws.proofs.Agreeing.{always_agree, server_alive}
use Rattle.lane_laws.proofs.LaneCounting.{run_knows}
use Rattle.lane_laws.proofs.RingAlong.{run_ring}
use Rattle.lane_laws.proofs.RingCookies.{ring_bytes}
use Rattle.lane_laws.proofs.RingRuns.{known_of}
use Rattle.lane_laws.proofs.RingServer.{Reaches}
use Rattle.lane_laws.proofs.RingSessions.{OfClient, of_client, sizes_of}
use Rattle.lane_laws.proofs.RingWork.{AtWork, Known, at_work, numbered, some_slots, turn_in}
use Rattle.lane_laws.proofs.StandingRuns.{slots_is as slots_are}
use Rattle.lane_laws.proofs.RingWrites.{ring_fetched, ring_word_answered}
use Rattle.lane_laws.proofs.RulesFree.{ServerFree, server_free}
use Rattle.lane_laws.proofs.Ruling.{client_may, server_may}
use Rattle.lane_laws.proofs.SlotBytes.{reads_back, ready_byte}
use Rattle.lane_laws.proofs.SlotsAlong.{run_order}
use Rattle.lane_laws.specs.RingAgreed.{ring_in}
use Rattle.lane_laws.specs.RingSlots.{HoldsIssued}
use Rattle.lane_laws.specs.RuleFacts.{ClientMay, ServerMay}
use Rattle.lane_laws.specs.SlotsInOrder.{RingInOrder}
use Rattle.lane_models.proofs.Apart.{none_is_some}
use Rattle.lane_laws.proofs.WorkUnits.{both_are}

-- WHAT IS KNOWN after a run
pub run_known : (shape : Shape) (events : List DiskEvent) (s : LaneState) → IsShape shape → Run LaneStep (fresh shape) events s
    → (log_of after (nothing_yet shape) events).wire.forged ≡ false → Known s (log_of after (nothing_yet shape) events)
run_known shape events s sound run clean =
    known_of s (log_of after (nothing_yet shape) events) (run_knows shape events s sound run).all (run_ring shape events s sound run)
    (always_agree shape sound events s run clean) clean

-- a server at work is up, and so is its client
pub record Working (s : LaneState) (l : DiskLog) (v : ServerSession) : Type 0 where
  pub known : Known s l
  pub work : AtWork s l v
  pub both : both_up s.wire.wire ≡ true

pub working : (shape : Shape) (events : List DiskEvent) (s : LaneState) (v : ServerSession) → IsShape shape → Run LaneStep (fresh shape) events s
    → (log_of after (nothing_yet shape) events).wire.forged ≡ false → s.wire.wire.end_b ≡ Up → s.server.session ≡ Some v → Working s (log_of after (nothing_yet shape) events) v
working shape events s v sound run clean up is =
    let l = log_of after (nothing_yet shape) events in
    let known : Known s l = run_known shape events s sound run clean in
    let work : AtWork s l v = at_work s l v known up is in
    let clean_s : s.wire.forged ≡ false = ap (λ (w : WireLog). w.forged) known.stands.wire ∙ clean in
    let up_a = server_alive shape events s sound run clean_s up work.of.counts work.of.open_is in
    record { known = known; work = work; both = both_are s.wire.wire.end_a s.wire.wire.end_b up_a up }

-- THE CLIENT finds its acknowledged slot DONE
pub client_finds_done : (shape : Shape) (events : List DiskEvent) (s : LaneState) (session : ClientSession) → IsShape shape → Run LaneStep (fresh shape) events s
    → (log_of after (nothing_yet shape) events).wire.forged ≡ false → client_rules.client_rule s.client (seen A s.shape.entries s.wire.wire) ≡ client_rules.Completes session
    → (completed_descriptor s.client session s.memory).state ≡ done_state
client_finds_done shape events s session sound run clean rule =
    let l = log_of after (nothing_yet shape) events in
    let at = seen A s.shape.entries s.wire.wire in
    let may : ClientMay s.client at (client_rules.Completes session) = subst (ClientMay s.client at) rule (client_may s.client at) in
    let known : Known s l = run_known shape events s sound run clean in
    let of_c : OfClient session l.work.done l.work.client = of_client s l session may.1 known.agree in
    let k = of_c.counts in
    let order : RingInOrder s l k = run_order shape events s k sound run clean of_c.open_is in
    let most = order.acked_first in
    let acked = of_c.agree.acked in
    let some = some_slots s l known in
    let j = session.completed in
    let completed = of_c.agree.completed in
    let slot = j % l.shape.slots in
    let below : slot < l.shape.slots = mod_below j l.shape.slots some in
    let bytes = order.each j (omega (arith, completed)) (omega (arith, completed, some)) in
    let done = bytes.done (omega (arith, most, acked, may.2)) in
    let here : slot_bytes 128 (j % s.client.slots) s.memory ≡ slot_bytes 128 slot s.memory = ap (λ (n : ℕ). slot_bytes 128 (j % n) s.memory) (slots_are s l known.stands) in
    let holds : HoldsIssued (ring_in l) slot (k.base + j) 4 done.0 (slot_bytes 128 (j % s.client.slots) s.memory) =
    subst (HoldsIssued (ring_in l) slot (k.base + j) 4 done.0) (sym here) done.1 in
    ap (λ (d : DiskDesc). d.state)
    (reads_back (ring_in l) slot (k.base + j) 4 done.0 (slot_bytes 128 (j % s.client.slots) s.memory) (sizes_of s l slot known.pages below) (omega arith) holds)

-- THE SERVER fetches a slot through the ring's cookies
fetched_aligned : (slot : ℕ) (cookies : List Cookie) → list_all is_aligned_cookie cookies ≡ true → is_aligned cookies (128 * slot) 128 ≡ true
fetched_aligned slot cookies aligned = grind arith

fetch_answered : (s : ServerState) (r : Reach) (pages slots slot : ℕ) → r.both ≡ true → Reaches s r pages slots → slot < slots → fetch_fault s r slot ≡ None
fetch_answered s r pages slots slot both reaches below =
    let b = ring_bytes slots in
    let holds = b.holds in
    let inside = b.within in
    let room = reaches.within in
    let fits : 128 * slot + 128 ≤ 128 * slots = slot_fits 128 slot slots below in
    ap (λ (up : Bool). first_copy_fault up access.Read r.table (slots_cookies s) (128 * slot) 128) both
    ∙ ap (λ (cs : List Cookie). first_copy_fault true access.Read r.table cs (128 * slot) 128) reaches.cookies
    ∙ no_fault_range access.Read r.table pages (own_cookies slots) 0 b.size (128 * slot) 128 reaches.identity b.spots_are (omega (arith, fits, holds)) (omega (arith, inside, room))
    (fetched_aligned slot (own_cookies slots) b.aligned)

word_answered : (s : ServerState) (r : Reach) (pages slots slot at : ℕ) → r.both ≡ true → Reaches s r pages slots → slot < slots → at + 8 ≤ 128 → at % 8 ≡ 0 → word_fault s r slot at ≡ None
word_answered s r pages slots slot at both reaches below within even =
    ring_word_answered s r pages slots slot at both reaches.identity reaches.cookies below within even reaches.within

-- what is asked for is more than what was fetched
other_number : (a b : ℕ) → (a == b) ≡ false → a ≢ b
other_number a b test same = grind (arith, nat_tests)

pub below_other : (a b : ℕ) → a ≤ b → a ≢ b → a < b
below_other a b most other = grind (arith, nat_tests, most, other)

pub record NextSlot (s : LaneState) (l : DiskLog) (v : ServerSession) : Type 0 where
  pub below : slot_at s.server v.descs < l.shape.slots
  pub state : slice_index (slot_bytes 128 (slot_at s.server v.descs) s.memory) 0 ≡ 2

-- the next slot of a range is READY
next_slot : (shape : Shape) (events : List DiskEvent) (s : LaneState) (v : ServerSession) → IsShape shape → Run LaneStep (fresh shape) events s
    → (log_of after (nothing_yet shape) events).wire.forged ≡ false → Working s (log_of after (nothing_yet shape) events) v → s.server.work ≡ None → (v.finished == v.asked) ≡ false
    → NextSlot s (log_of after (nothing_yet shape) events) v
next_slot shape events s v sound run clean now none unfinished =
    let l = log_of after (nothing_yet shape) events in
    let known = now.known in
    let work = now.work in
    let d = work.of.counts in
    let k = work.one.client in
    let idle : WorkAgrees None d = subst (λ (w : Option Work). WorkAgrees w d) none work.of.work in
    let same : d.descs ≡ d.finished = idle.1 in
    let other : d.finished ≢ d.asked = λ all. other_number v.finished v.asked unfinished (work.of.agree.finished ∙ ap wrapped all ∙ sym work.of.agree.asked) in
    let descs = work.one.descs in
    let more : d.finished < d.asked = below_other d.finished d.asked (omega (arith, descs, same)) other in
    let asked = work.one.asked in
    let small = work.one.small in
    let done = work.one.done in
    let order : RingInOrder s l k = run_order shape events s k sound run clean work.one.open_is in
    let at_b : (order.finished ≡ d.finished) × (order.descs ≡ d.descs) =
    subst (λ (q : Option ServerCounts). IfServer q (λ c. (order.finished ≡ c.finished) × (order.descs ≡ c.descs))) work.of.open_is (order.server.works work.up) in
    let turn = (turn_in s l k known work.one.open_is).turn in
    let j = d.descs in
    let bytes = order.each j (omega (arith, done, same)) (omega (arith, same, more, asked, turn)) in
    let ready = bytes.announced_ready (omega (arith, at_b.1)) (omega (arith, same, more, work.one.announced)) in
    let slot_is : slot_at s.server v.descs ≡ j % l.shape.slots = numbered s l v work v.descs j known.stands work.of.agree.descs (omega (arith, same, more, small)) in
    record {
      below = omega (arith, slot_is, mod_below j l.shape.slots (some_slots s l known));
      state = ap (λ (n : ℕ). slice_index (slot_bytes 128 n s.memory) 0) slot_is
          ∙ ready_byte (ring_in l) (j % l.shape.slots) (k.base + j) 0 (slot_bytes 128 (j % l.shape.slots) s.memory) ready;
    }

refuses_not : (bytes : List ℕ) (fault : Option CopyFault) (why : RingFault) → fault ≡ None → slice_index bytes 0 ≡ 2 → RefusesFetch fault bytes why → ⊥
refuses_not bytes fault (refused.Copy why) none ready refuses = none_is_some (sym none ∙ refuses)
refuses_not bytes fault (refused.NotReady state) none ready refuses = refuses.2 (refuses.1 ∙ ready)

fetch_fails_not : (s : ServerState) (r : Reach) (pages slots slot : ℕ) (cause : Cause) → r.both ≡ true → Reaches s r pages slots → slot < slots → slice_index (slot_bytes 128 slot r.memory) 0 ≡ 2
    → FetchFails s r slot cause → ⊥
fetch_fails_not s r pages slots slot cause both reaches below ready (inl fails) =
    let none = fetch_answered s r pages slots slot both reaches below in
    let fetched = ring_fetched s r pages slots slot reaches.identity reaches.cookies below reaches.room none in
    refuses_not (slot_fetched s r slot) (fetch_fault s r slot) fails.0 none (ap (λ (bs : List ℕ). slice_index bs 0) fetched ∙ ready) fails.1
fetch_fails_not s r pages slots slot cause both reaches below ready (inr fails) =
    let none = word_answered s r pages slots slot 0 both reaches below (omega arith) refl in
    none_is_some (sym none ∙ fails.2)

pub server_fetches_all : (shape : Shape) (events : List DiskEvent) (s : LaneState) (v : ServerSession) (cause : Cause) → IsShape shape → Run LaneStep (fresh shape) events s
    → (log_of after (nothing_yet shape) events).wire.forged ≡ false → server_rules.server_rule s.server (seen B s.shape.entries s.wire.wire) ≡ server_rules.Fetches v
    → FetchFails s.server (reach s (seen B s.shape.entries s.wire.wire).both) (slot_at s.server v.descs) cause → ⊥
server_fetches_all shape events s v cause sound run clean rule fails =
    let l = log_of after (nothing_yet shape) events in
    let at = seen B s.shape.entries s.wire.wire in
    let may : ServerMay s.server at (server_rules.Fetches v) = subst (ServerMay s.server at) rule (server_may s.server at) in
    let free : ServerFree s.server (server_rules.Fetches v) = subst (ServerFree s.server) rule (server_free s.server at) in
    let now : Working s l v = working shape events s v sound run clean may.0 may.1 in
    let next = next_slot shape events s v sound run clean now free.1 free.0.unfinished in
    fetch_fails_not s.server (reach s at.both) (pages_of l.shape) l.shape.slots (slot_at s.server v.descs) cause now.both (now.work.reaches at.both) next.below next.state fails

-- and ends each descriptor
end_fails_not : (s : ServerState) (r : Reach) (pages slots slot : ℕ) (work : Work) (status : ℕ) (cause : Cause) (new : List ℕ) → r.both ≡ true → Reaches s r pages slots → slot < slots
    → EndFails s r slot work status cause new → ⊥
end_fails_not s r pages slots slot work status cause new both reaches below (inl fails) =
    none_is_some (sym (word_answered s r pages slots slot 16 both reaches below (omega arith) refl) ∙ fails.1)
end_fails_not s r pages slots slot work status cause new both reaches below (inr fails) =
    none_is_some (sym (word_answered s r pages slots slot 0 both reaches below (omega arith) refl) ∙ fails.2)

pub server_ends_all : (shape : Shape) (events : List DiskEvent) (s : LaneState) (v : ServerSession) (work : Work) (status : ℕ) (cause : Cause) (new : List ℕ) → IsShape shape
    → Run LaneStep (fresh shape) events s → (log_of after (nothing_yet shape) events).wire.forged ≡ false
    → server_rules.server_rule s.server (seen B s.shape.entries s.wire.wire) ≡ server_rules.Serves v work
    → EndFails s.server (reach s (seen B s.shape.entries s.wire.wire).both) (slot_at s.server v.finished) work status cause new → ⊥
server_ends_all shape events s v work status cause new sound run clean rule fails =
    let l = log_of after (nothing_yet shape) events in
    let at = seen B s.shape.entries s.wire.wire in
    let may : ServerMay s.server at (server_rules.Serves v work) = subst (ServerMay s.server at) rule (server_may s.server at) in
    let now : Working s l v = working shape events s v sound run clean may.0 may.1 in
    let slots : s.server.handshake.draft.peer_slots ≡ l.shape.slots = now.work.one.slots ∙ slots_are s l now.known.stands in
    let below : slot_at s.server v.finished < l.shape.slots =
    omega (arith, ap (λ (n : ℕ). v.finished % n) slots, mod_below v.finished l.shape.slots (some_slots s l now.known)) in
    end_fails_not s.server (reach s at.both) (pages_of l.shape) l.shape.slots (slot_at s.server v.finished) work status cause new now.both (now.work.reaches at.both) below fails
