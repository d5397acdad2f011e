-- What a server's work does to the ring in session: the next slot is fetched and ACCEPTED, a unit goes after the ring, and the slot gets
-- its status and is DONE.
use Rattle.std.proofs.Common.{◌≡◌, ℕ, ◌+◌, ◌%◌, ◌^◌, ◌<◌, ◌≤◌, Bool, true, false, List, length, set, Option, Some, refl, sym, ap, ◌∙◌, subst, arith}
use Rattle.std.specs.Prelude.{slice_get, slice_index, ◌==◌}
use Rattle.std.proofs.lemmas.Bool.Decides.{nat_tests}
use Rattle.std.proofs.lemmas.Nat.{mod_below}
use Rattle.dring.specs.Slots.{OneSlot, slot_bytes}
use Rattle.ldc_queue.specs.declared.end.ChannelState.TheVariants.{Up}
use Rattle.ldc_queue.specs.declared.end.End.TheVariants.{B}
use Rattle.vdisk_msg.specs.Descriptor as slot_says
use Rattle.vdisk_msg.specs.declared.request.Request.{Request}
use Rattle.vdisk_msg.specs.Pieces.{pieces}
use Rattle.vdisk_msg.specs.Requested.{descriptor_of}
use Rattle.vio_bytes.specs.Place.{put_at}
use Rattle.lane_models.specs.WireLog.{WireLog}
use Rattle.lane_models.proofs.Apart.{some_same}
use Rattle.lane_laws.specs.DiskLog.{DiskLog, after}
use Rattle.lane_laws.specs.RingLog.{Accepted, SlotLog, fetched_at, id_at}
use Rattle.lane_laws.specs.WorkLaws.{FetchesRequest, IfServer, InClient, InServer, Unforged}
use Rattle.lane_laws.specs.WorkLog.{ClientCounts, ServerCounts, change_server}
use Rattle.lane_models.specs.DiskEvent.{Desc, Works}
use Rattle.lane_models.specs.LaneState.{LaneState, pages_of}
use Rattle.lane_models.specs.LaneStep.{WorkStep, reach}
use Rattle.lane_models.specs.Offering.{own_cookies}
use Rattle.lane_models.specs.Seeing.{seen}
use Rattle.lane_models.specs.ServerRule as server_rules
use Rattle.lane_models.specs.ServerState.{ServerSession}
use Rattle.lane_models.specs.ServerWork.{header_of, slot_fetched, with_word}
use Rattle.lane_laws.proofs.RingServer.{Reaches, header_long, writes_word}
use Rattle.lane_laws.proofs.RingSessions.{OfServer, WithinRing, of_server, one_ring, sizes_of, unwrapped}
use Rattle.lane_laws.proofs.RingTable.{each_set, got_same, id_is, set_holds, some_entry}
use Rattle.lane_laws.proofs.RingWrites.{ring_fetched}
use Rattle.lane_laws.proofs.Ruling.{server_may}
use Rattle.lane_laws.proofs.SlotBytes.{marked_holds, reads_back, ready_slot, stated}
use Rattle.lane_laws.specs.MemoryStands.{MemoryStands, memory_long}
use Rattle.lane_laws.specs.RingAgreed.{InRing, OneRing, PagesStand, SessionsAgree, ring_in}
use Rattle.lane_laws.specs.RingSlots.{HoldsIssued, IdStands, IdsStand, InWork, RingHolds, SlotStands, StatusStands, WorkStands}
use Rattle.lane_laws.specs.RuleFacts.{ServerMay}
use Rattle.lane_laws.specs.Sound.{ClientSound}
use Rattle.lane_laws.specs.Standing.{LaneInvariant}
use Rattle.lane_laws.proofs.ServerPutCounting.{work_most}
use Rattle.lane_laws.proofs.StandingRuns.{slots_is}

-- what is known of a lane whose ring is looked at
pub record Known (s : LaneState) (l : DiskLog) : Type 0 where
  pub pages : PagesStand s l
  pub stands : LaneInvariant s l
  pub memory : MemoryStands s
  pub sound : ClientSound s.client
  pub ring : InRing s l
  pub unforged : l.wire.forged ≡ false
  pub statuses : StatusStands l.work.server
  pub agree : SessionsAgree s l

pub memory_is : (s : LaneState) (l : DiskLog) → Known s l → length s.memory ≡ memory_long l.shape.slots
memory_is s l known = known.memory.long ∙ ap memory_long (slots_is s l known.stands)

pub some_slots : (s : LaneState) (l : DiskLog) → Known s l → 1 ≤ l.shape.slots
some_slots s l known = omega (arith, slots_is s l known.stands, known.memory.some)

pub turn_in : (s : LaneState) (l : DiskLog) (k : ClientCounts) → Known s l → l.work.client ≡ Some k → WithinRing k l.work.done l.shape.slots
turn_in s l k known is = grind arith

pub ids_in : (s : LaneState) (l : DiskLog) (k : ClientCounts) → Known s l → l.work.client ≡ Some k → IdsStand l.shape.slots l.work.done l.ring (Some k)
ids_in s l k known is = subst (IdsStand l.shape.slots l.work.done l.ring) is known.ring.ids

up_in : (s : LaneState) (l : DiskLog) → LaneInvariant s l → s.wire.wire.end_b ≡ Up → l.wire.wire.end_b ≡ Up
up_in s l stands up = subst (λ (w : WireLog). w.wire.end_b ≡ Up) stands.wire up

-- THE SERVER AT WORK: its session is open, and of the client's ring
pub record AtWork (s : LaneState) (l : DiskLog) (v : ServerSession) : Type 0 where
  pub up : l.wire.wire.end_b ≡ Up
  pub of : OfServer v s.server.work l.work.server
  pub one : OneRing s l.work of.counts
  pub reaches : (both : Bool) → Reaches s.server (reach s both) (pages_of l.shape) l.shape.slots

pub at_work : (s : LaneState) (l : DiskLog) (v : ServerSession) → Known s l → s.wire.wire.end_b ≡ Up → s.server.session ≡ Some v → AtWork s l v
at_work s l v known up is =
    let live = up_in s l known.stands up in
    let of_v = of_server s l v is known.agree in
    let one = one_ring s l of_v.counts of_v.open_is live known.agree in
    record {
      up = live;
      of = of_v;
      one = one;
      reaches = λ both. record {
        identity = known.pages.identity;
        cookies = one.cookies ∙ ap own_cookies (slots_is s l known.stands);
        within = omega arith;
        room = omega (arith, memory_is s l known);
      };
    }

-- the slot of a number of the server's
pub numbered : (s : LaneState) (l : DiskLog) (v : ServerSession) (work : AtWork s l v) (count number : ℕ) → LaneInvariant s l → count ≡ number % 2 ^ 64 → number < 2 ^ 64
    → count % s.server.handshake.draft.peer_slots ≡ number % l.shape.slots
numbered s l v work count number stands is small =
    ap (λ (m : ℕ). count % m) (work.one.slots ∙ slots_is s l stands) ∙ ap (λ (x : ℕ). x % l.shape.slots) (is ∙ unwrapped number small)

-- A DESCRIPTOR IS FETCHED
is_two : (n : ℕ) → (n == 2) ≡ true → n ≡ 2
is_two n is = grind (arith, nat_tests)

-- the slot that is fetched is READY, and of the server's next number
pub record ReadyNext (s : LaneState) (l : DiskLog) (d : ServerCounts) (k : ClientCounts) (slot : ℕ) (bytes : List ℕ) : Type 0 where
  pub id : ℕ
  pub below : slot < l.shape.slots
  pub next : slot ≡ d.descs % l.shape.slots
  pub number : id ≡ k.base + d.descs
  pub stands : IdStands l.shape.slots l.work.done k slot id
  pub holds : HoldsIssued (ring_in l) slot id 2 0 bytes
  pub bytes_are : bytes ≡ slot_bytes 128 slot s.memory

ready_next : (s : LaneState) (l : DiskLog) (slot : ℕ) (bytes : List ℕ) (v : ServerSession) → Known s l → (work : AtWork s l v)
    → slot ≡ v.descs % s.server.handshake.draft.peer_slots → work.of.counts.descs < work.one.client.published → work.of.counts.descs < 2 ^ 64
    → l.work.done ≤ work.one.client.base + work.of.counts.descs
    → bytes ≡ slot_bytes 128 slot s.memory → slice_index bytes 0 ≡ 2 → ReadyNext s l work.of.counts work.one.client slot bytes
ready_next s l slot bytes v known work slot_is more small since bytes_are state =
    let d = work.of.counts in
    let k = work.one.client in
    let next : slot ≡ d.descs % l.shape.slots = slot_is ∙ numbered s l v work v.descs d.descs known.stands work.of.agree.descs small in
    let below : slot < l.shape.slots = omega (arith, next, mod_below d.descs l.shape.slots (some_slots s l known)) in
    let entry = some_entry l.ring slot (omega (arith, below, known.ring.holds.long)) in
    let first : slice_index (slot_bytes 128 slot s.memory) 0 ≡ 2 = ap (λ (bs : List ℕ). slice_index bs 0) (sym bytes_are) ∙ state in
    let ready = ready_slot (ring_in l) slot entry.0 (slot_bytes 128 slot s.memory) (known.ring.holds.each slot entry.0 entry.1) first in
    let turn = turn_in s l k known work.one.open_is in
    let stands : IdStands l.shape.slots l.work.done k slot ready.id =
    subst (SlotStands l.shape.slots l.work.done k slot) ready.same (ids_in s l k known work.one.open_is slot entry.0 entry.1) in
    record {
      id = ready.id;
      below = below;
      next = next;
      number = id_is l.shape.slots l.work.done k slot ready.id d.descs stands since more turn.turn next;
      stands = stands;
      holds = subst (HoldsIssued (ring_in l) slot ready.id 2 0) (sym bytes_are) ready.holds;
      bytes_are = bytes_are;
    }

finished_first : (s : LaneState) (l : DiskLog) (v : ServerSession) → Known s l → (work : AtWork s l v) → work.of.counts.finished ≤ work.of.counts.descs
finished_first s l v known work = work_most s.server.work work.of.counts work.of.work

-- the server's counts after it
abbrev pub fetched_counts : DiskLog → List ℕ → ServerCounts → ServerCounts
fetched_counts l bytes c = record c { descs = c.descs + 1; desc = bytes; owed = pieces (slot_says.disk_desc_of bytes) l.shape.blocks 0x0e }

-- the ring after a slot that is marked
marked_ring : (s : LaneState) (l : DiskLog) (d : ServerCounts) (k : ClientCounts) (slot : ℕ) (bytes new : List ℕ) → Known s l → l.work.server ≡ Some d → l.work.client ≡ Some k
    → (ready : ReadyNext s l d k slot bytes) → OneSlot 128 l.shape.slots slot s.memory new → slot_bytes 128 slot new ≡ put_at 0 (header_of 3 bytes) (slot_bytes 128 slot s.memory)
    → (t : LaneState) → t.memory ≡ new → InRing t (after l (Works (Desc slot bytes)))
marked_ring s l d k slot bytes new known server client ready one there t memory =
    let r = ring_in l in
    let id = ready.id in
    let long = known.ring.holds.long in
    let sizes = sizes_of s l slot known.pages ready.below in
    let table : fetched_at l.shape.slots l.work l.work.server slot l.ring ≡ set l.ring slot (Accepted id) =
    ap (λ (q : Option ServerCounts). fetched_at l.shape.slots l.work q slot l.ring) server
    ∙ ap (λ (q : Option ClientCounts). set l.ring slot (Accepted (id_at q d.descs))) client
    ∙ ap (λ (i : ℕ). set l.ring slot (Accepted i)) (sym ready.number) in
    let bytes_new : slot_bytes 128 slot new ≡ put_at 0 (header_of 3 bytes) bytes = there ∙ ap (put_at 0 (header_of 3 bytes)) (sym ready.bytes_are) in
    let holds : RingHolds r (set l.ring slot (Accepted id)) new =
    set_holds r l.ring s.memory new slot (Accepted id) known.ring.holds ready.below one
    (subst (HoldsIssued r slot id 3 0) (sym bytes_new) (marked_holds r slot id bytes sizes ready.holds)) in
    let ids : IdsStand l.shape.slots l.work.done (set l.ring slot (Accepted id)) (Some k) =
    each_set (λ (j : ℕ) (is : SlotLog). SlotStands l.shape.slots l.work.done k j is) l.ring slot (Accepted id) (omega (arith, ready.below, long))
    (λ j is other got. ids_in s l k known client j is got) ready.stands in
    let work : (d.descs + 1 ≡ d.finished + 1) → InWork r (set l.ring slot (Accepted id)) (fetched_counts l bytes d) =
    λ one_more.
    let same : slot ≡ d.finished % l.shape.slots = ready.next ∙ ap (λ (x : ℕ). x % l.shape.slots) (omega (arith, one_more)) in
    record {
      id = id;
      stands = subst (λ (j : ℕ). slice_get (set l.ring slot (Accepted id)) j ≡ Some (Accepted id)) same (got_same l.ring slot (Accepted id) (omega (arith, ready.below, long)));
      fetched = subst (λ (j : ℕ). HoldsIssued r j id 2 0 bytes) same ready.holds;
    } in
    record {
      holds = subst (λ (m : List ℕ). RingHolds r (fetched_at l.shape.slots l.work l.work.server slot l.ring) m) (sym memory) (subst (λ (x : List SlotLog). RingHolds r x new) (sym table) holds);
      ids = subst (λ (q : Option ClientCounts). IdsStand l.shape.slots l.work.done (fetched_at l.shape.slots l.work l.work.server slot l.ring) q) (sym client)
          (subst (λ (x : List SlotLog). IdsStand l.shape.slots l.work.done x (Some k)) (sym table) ids);
      work = λ up.
          subst (λ (x : List SlotLog). WorkStands r x (change_server (fetched_counts l bytes) l.work.server)) (sym table)
          (subst (λ (q : Option ServerCounts). WorkStands r (set l.ring slot (Accepted id)) (change_server (fetched_counts l bytes) q)) (sym server) work);
    }

-- what a fetch comes to: the slot of the server's next number, READY
pub record FetchedNext (s : LaneState) (l : DiskLog) (slot : ℕ) (bytes : List ℕ) : Type 0 where
  pub session : ServerSession
  pub work : AtWork s l session
  pub ready : ReadyNext s l work.of.counts work.one.client slot bytes

-- sums over the counts of a request's work, of numbers alone
pub more_published : (descs asked other published : ℕ) → descs + 1 ≤ asked → asked ≤ other → other ≡ published → descs < published
more_published descs asked other published few within same = omega arith

fits_small : (descs asked : ℕ) → descs + 1 ≤ asked → asked < 2 ^ 64 → descs < 2 ^ 64
fits_small descs asked few small = omega arith

done_since : (done other base finished descs : ℕ) → done ≤ other + finished → other ≡ base → finished ≤ descs → done ≤ base + descs
done_since done other base finished descs few same first = omega arith

pub finished_small : (finished descs asked : ℕ) → descs ≡ finished + 1 → descs ≤ asked → asked < 2 ^ 64 → finished < 2 ^ 64
finished_small finished descs asked single few small = omega arith

pub fetched_next : (s : LaneState) (l : DiskLog) (slot : ℕ) (bytes : List ℕ) (t : LaneState) → Known s l → SessionsAgree t (after l (Works (Desc slot bytes)))
    → WorkStep s (Desc slot bytes) t → FetchedNext s l slot bytes
fetched_next s l slot bytes t known agree step =
    let at = seen B s.shape.entries s.wire.wire in
    let r = reach s at.both in
    let f = step.1.step.1.0 in
    let v = f.session in
    let may : ServerMay s.server at (server_rules.Fetches v) = subst (ServerMay s.server at) f.rule (server_may s.server at) in
    let work = at_work s l v known may.0 may.1 in
    let d = work.of.counts in
    let k = work.one.client in
    let one_more : OneRing t (after l (Works (Desc slot bytes))).work (fetched_counts l bytes d) =
    subst (λ (q : Option ServerCounts). IfServer (change_server (fetched_counts l bytes) q) (OneRing t (after l (Works (Desc slot bytes))).work)) work.of.open_is (agree.ring work.up) in
    let same_client : k ≡ one_more.client = let both : Some k ≡ Some one_more.client = sym work.one.open_is ∙ one_more.open_is in some_same both in
    let published : one_more.client.published ≡ k.published = ap (λ (c : ClientCounts). c.published) (sym same_client) in
    let base : one_more.client.base ≡ k.base = ap (λ (c : ClientCounts). c.base) (sym same_client) in
    let descs = one_more.descs in
    let asked = one_more.asked in
    let small = one_more.small in
    let done = one_more.done in
    let more : d.descs < k.published = more_published d.descs d.asked one_more.client.published k.published descs asked published in
    let fits : d.descs < 2 ^ 64 = fits_small d.descs d.asked descs small in
    let since : l.work.done ≤ k.base + d.descs = done_since l.work.done one_more.client.base k.base d.finished d.descs done base (finished_first s l v known work) in
    let reaches = work.reaches at.both in
    let next_slot : slot < l.shape.slots =
    subst (λ (x : ℕ). x < l.shape.slots) (sym (f.slot_is ∙ numbered s l v work v.descs d.descs known.stands work.of.agree.descs fits)) (mod_below d.descs l.shape.slots (some_slots s l known)) in
    let fetched = ring_fetched s.server r (pages_of l.shape) l.shape.slots slot reaches.identity reaches.cookies next_slot reaches.room f.fetched.0 in
    let state : slice_index (slot_fetched s.server r slot) 0 ≡ 2 = is_two (slice_index (slot_fetched s.server r slot) 0) f.fetched.1 in
    record {
      session = v;
      work = work;
      ready = ready_next s l slot bytes v known work f.slot_is more fits since (f.bytes_are ∙ fetched) (ap (λ (bs : List ℕ). slice_index bs 0) f.bytes_are ∙ state);
    }

pub fetched_in_ring : (s : LaneState) (l : DiskLog) (slot : ℕ) (bytes : List ℕ) (t : LaneState) → Known s l → SessionsAgree t (after l (Works (Desc slot bytes)))
    → WorkStep s (Desc slot bytes) t → InRing t (after l (Works (Desc slot bytes)))
fetched_in_ring s l slot bytes t known agree step =
    let at = seen B s.shape.entries s.wire.wire in
    let r = reach s at.both in
    let f = step.1.step.1.0 in
    let next = fetched_next s l slot bytes t known agree step in
    let word = writes_word s.server r (pages_of l.shape) l.shape.slots slot 0 (header_of 3 bytes) (next.work.reaches at.both) next.ready.below (omega arith) (header_long 3 bytes) f.marked in
    marked_ring s l next.work.of.counts next.work.one.client slot bytes (with_word s.server r slot 0 (header_of 3 bytes)) known next.work.of.open_is next.work.one.open_is next.ready
    word.one word.there t f.marked_is

-- and its bytes are the descriptor of the request with that number
descriptor_is : (id : ℕ) (request : Request) (slot slots : ℕ) → stated id request slot slots 2 0 ≡ descriptor_of id request slot slots
unfolding descriptor_of
descriptor_is id request slot slots = refl

of_request : (s : LaneState) (l : DiskLog) (d : ServerCounts) (k : ClientCounts) (slot : ℕ) (bytes : List ℕ) → Known s l → ReadyNext s l d k slot bytes
    → FetchesRequest l slot bytes k.base d.descs
of_request s l d k slot bytes known ready =
    let sizes = sizes_of s l slot known.pages ready.below in
    let request = ready.holds.request in
    let read = reads_back (ring_in l) slot ready.id 2 0 bytes sizes (omega arith) ready.holds in
    record {
      request = request;
      accepted = subst (λ (i : ℕ). slice_get l.work.issued i ≡ Some request) ready.number ready.holds.accepted;
      bytes_are = read ∙ descriptor_is ready.id request slot l.shape.slots ∙ ap (λ (i : ℕ). descriptor_of i request slot l.shape.slots) ready.number;
    }

pub fetches_request : (s : LaneState) (l : DiskLog) (slot : ℕ) (bytes : List ℕ) (t : LaneState) → Known s l → SessionsAgree t (after l (Works (Desc slot bytes)))
    → WorkStep s (Desc slot bytes) t → Unforged l (Works (Desc slot bytes))
fetches_request s l slot bytes t known agree step =
    let next = fetched_next s l slot bytes t known agree step in
    let d = next.work.of.counts in
    let k = next.work.one.client in
    subst (λ (c : Option ClientCounts). InClient c (λ (x : ClientCounts). InServer l.work.server (λ (y : ServerCounts). FetchesRequest l slot bytes x.base y.descs))) (sym next.work.one.open_is)
    (subst (λ (q : Option ServerCounts). InServer q (λ (y : ServerCounts). FetchesRequest l slot bytes k.base y.descs)) (sym next.work.of.open_is) (of_request s l d k slot bytes known next.ready))
