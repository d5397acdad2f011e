-- What a server's work on a fetched descriptor does to the ring: a unit goes after it, and the slot gets its status and is DONE.
use Rattle.std.proofs.Common.{◌≡◌, ℕ, ◌+◌, ◌%◌, ◌^◌, ◌<◌, List, length, set, Option, Some, sym, ap, ◌∙◌, subst, arith}
use Rattle.std.specs.Prelude.{slice_get}
use Rattle.std.proofs.lemmas.Nat.{mod_below}
use Rattle.cookie_copy.specs.declared.fault.CopyFault.{CopyFault}
use Rattle.cookie_copy.specs.Identity.{IsIdentity}
use Rattle.dring.specs.Slots.{OneSlot, slot_bytes}
use Rattle.ldc_queue.specs.declared.end.End.TheVariants.{B}
use Rattle.vdisk_msg.specs.Descriptor as slot_says
use Rattle.vdisk_msg.specs.Requested.{buffer_place, size_of}
use Rattle.lane_laws.specs.Agreement.{owed_of}
use Rattle.lane_laws.specs.DiskLog.{DiskLog, after}
use Rattle.lane_laws.specs.RingLog.{Accepted, Done, SlotLog, finished_at, id_at}
use Rattle.lane_laws.specs.WorkLog.{ClientCounts, ServerCounts, change_server}
use Rattle.lane_models.specs.DiskEvent.{Finished, Moved, Works}
use Rattle.lane_models.specs.LaneState.{LaneState, pages_of}
use Rattle.lane_models.specs.LaneStep.{WorkStep, reach}
use Rattle.lane_models.specs.Seeing.{seen}
use Rattle.lane_models.specs.ServerRule as server_rules
use Rattle.lane_models.specs.ServerState.{Ends, Gathers, Gives, Progress, ServerSession, Work}
use Rattle.cookie_copy.specs.Reach.{Reach}
use Rattle.lane_models.specs.ServerWork.{MovesIn}
use Rattle.lane_laws.proofs.RingLeaves.{event_leaves, leaves_stand}
use Rattle.lane_laws.proofs.RingServer.{ends_slot}
use Rattle.lane_laws.proofs.RingSessions.{sizes_of}
use Rattle.lane_laws.proofs.RingTable.{each_set, id_is, set_holds}
use Rattle.lane_laws.proofs.RingWork.{AtWork, Known, at_work, ids_in, memory_is, numbered, some_slots, turn_in}
use Rattle.lane_laws.proofs.RingWrites.{equal_slots, given_behind}
use Rattle.lane_laws.proofs.Ruling.{server_may}
use Rattle.lane_laws.proofs.SlotBytes.{Sizes, ended_holds, fetched_cookies, request_size}
use Rattle.lane_laws.specs.MemoryStands.{memory_long}
use Rattle.lane_laws.specs.RingAgreed.{InRing, ring_in}
use Rattle.lane_laws.specs.RingSlots.{HoldsIssued, IdStands, IdsStand, InWork, RingHolds, RingOf, SameSlots, SlotStands, StatusStands, WorkStands}
use Rattle.lane_laws.specs.RuleFacts.{ServerMay}
use Rattle.lane_laws.proofs.ServerEndCounting.{finished_log}

-- THE DESCRIPTOR IN WORK
pub record HasWork (s : LaneState) (l : DiskLog) (w : Work) (d : ServerCounts) : Type 0 where
  pub inside : InWork (ring_in l) l.ring d
  pub desc : d.desc ≡ w.bytes
  pub owed : d.owed ≡ owed_of (slot_says.disk_desc_of w.bytes) w.progress
  pub one : d.descs ≡ d.finished + 1

pub has_work : (s : LaneState) (l : DiskLog) (v : ServerSession) (w : Work) → Known s l → (work : AtWork s l v) → s.server.work ≡ Some w → HasWork s l w work.of.counts
has_work s l v w known work is = grind arith

pub work_below : (s : LaneState) (l : DiskLog) (d : ServerCounts) → Known s l → d.finished % l.shape.slots < l.shape.slots
work_below s l d known = mod_below d.finished l.shape.slots (some_slots s l known)

-- A UNIT goes after the ring
unit_behind : (p : Progress) (w : Work) (ring : RingOf) (r : Reach) (pages slot id unit : ℕ) (fault : Option CopyFault) (next : Progress) (new : List ℕ) → Sizes ring slot
    → length r.memory ≡ memory_long ring.slots → IsIdentity r.table pages → HoldsIssued ring slot id 2 0 w.bytes → MovesIn p w r unit fault next new → SameSlots ring.slots r.memory new
unit_behind (Gives u bytes) w ring r pages slot id unit fault next new sizes long identity holds moves =
    let few = request_size ring slot id 2 0 w.bytes holds in
    let below = sizes.below in
    subst (SameSlots ring.slots r.memory) (sym moves.3)
    (given_behind fault w r pages ring.slots (buffer_place ring.slots slot) (size_of holds.request) u bytes identity (omega arith) (omega (arith, few, long, below))
    (fetched_cookies ring slot id w.bytes sizes holds) moves.1)
unit_behind (Gathers u) w ring r pages slot id unit fault next new sizes long identity holds moves = equal_slots ring.slots r.memory new moves.3
unit_behind _ w ring r pages slot id unit fault next new sizes long identity holds moves = absurd moves

pub moved_in_ring : (s : LaneState) (l : DiskLog) (unit : ℕ) (fault : Option CopyFault) (t : LaneState) → Known s l → WorkStep s (Moved unit fault) t
    → InRing t (after l (Works (Moved unit fault)))
moved_in_ring s l unit fault t known step =
    let at = seen B s.shape.entries s.wire.wire in
    let m = step.1.step.1.0 in
    let may : ServerMay s.server at (server_rules.Serves m.session m.work) = subst (ServerMay s.server at) m.rule (server_may s.server at) in
    let work = at_work s l m.session known may.0 may.1 in
    let d = work.of.counts in
    let has = has_work s l m.session m.work known work may.2 in
    let slot = d.finished % l.shape.slots in
    let sizes = sizes_of s l slot known.pages (work_below s l d known) in
    let holds : HoldsIssued (ring_in l) slot has.inside.id 2 0 m.work.bytes = subst (HoldsIssued (ring_in l) slot has.inside.id 2 0) has.desc has.inside.fetched in
    leaves_stand s l (Works (Moved unit fault)) t (event_leaves l (Works (Moved unit fault)) tt)
    (unit_behind m.work.progress m.work (ring_in l) (reach s at.both) (pages_of l.shape) slot has.inside.id unit fault m.next t.memory sizes (memory_is s l known) known.pages.identity holds m.moves)
    known.ring

-- THE END
owed_small : (s : LaneState) (l : DiskLog) (w : Work) (d : ServerCounts) (status : ℕ) → StatusStands l.work.server → l.work.server ≡ Some d → HasWork s l w d → w.progress ≡ Ends status
    → status < 2 ^ 32
owed_small s l w d status stands is has ends = grind arith

pub finished_in_ring : (s : LaneState) (l : DiskLog) (slot status : ℕ) (t : LaneState) → Known s l → WorkStep s (Finished slot status) t
    → InRing t (after l (Works (Finished slot status)))
finished_in_ring s l slot status t known step =
    let at = seen B s.shape.entries s.wire.wire in
    let reached = reach s at.both in
    let r = ring_in l in
    let f = step.1.step.1.0 in
    let w = f.work in
    let may : ServerMay s.server at (server_rules.Serves f.session w) = subst (ServerMay s.server at) f.rule (server_may s.server at) in
    let work = at_work s l f.session known may.0 may.1 in
    let d = work.of.counts in
    let k = work.one.client in
    let client = work.one.open_is in
    let has = has_work s l f.session w known work may.2 in
    let id = has.inside.id in
    let single = has.one in
    let descs = work.one.descs in
    let asked = work.one.asked in
    let fits = work.one.small in
    let next : slot ≡ d.finished % l.shape.slots = f.slot_is ∙ numbered s l f.session work f.session.finished d.finished known.stands work.of.agree.finished (omega (arith, single, descs, fits)) in
    let below : slot < l.shape.slots = omega (arith, next, work_below s l d known) in
    let sizes = sizes_of s l slot known.pages below in
    let entry : slice_get l.ring slot ≡ Some (Accepted id) = subst (λ (j : ℕ). slice_get l.ring j ≡ Some (Accepted id)) (sym next) has.inside.stands in
    let from : HoldsIssued r slot id 2 0 w.bytes =
    subst (λ (j : ℕ). HoldsIssued r j id 2 0 w.bytes) (sym next) (subst (HoldsIssued r (d.finished % l.shape.slots) id 2 0) has.desc has.inside.fetched) in
    let small = owed_small s l w d status known.statuses work.of.open_is has f.ends in
    let ended = ends_slot r s.server reached (pages_of l.shape) slot id status w (work.reaches at.both) below from f.status_written f.done_written in
    let stands : IdStands l.shape.slots l.work.done k slot id = ids_in s l k known client slot (Accepted id) entry in
    let turn = turn_in s l k known client in
    let number : id ≡ k.base + d.finished = id_is l.shape.slots l.work.done k slot id d.finished stands work.one.done (omega (arith, single, descs, asked)) turn.turn next in
    let table : finished_at l.shape.slots l.work l.work.server slot status l.ring ≡ set l.ring slot (Done id status) =
    ap (λ (q : Option ServerCounts). finished_at l.shape.slots l.work q slot status l.ring) work.of.open_is
    ∙ ap (λ (q : Option ClientCounts). set l.ring slot (Done (id_at q d.finished) status)) client
    ∙ ap (λ (i : ℕ). set l.ring slot (Done i status)) (sym number) in
    let holds : RingHolds r (set l.ring slot (Done id status)) t.memory =
    set_holds r l.ring s.memory t.memory slot (Done id status) known.ring.holds below
    (subst (OneSlot 128 l.shape.slots slot s.memory) (sym f.written_is) ended.one)
    (subst (HoldsIssued r slot id 4 status) (sym (ap (slot_bytes 128 slot) f.written_is ∙ ended.there))
    (ended_holds r slot id status w.bytes (slot_bytes 128 slot s.memory) sizes small from (known.ring.holds.each slot (Accepted id) entry))) in
    let ids : IdsStand l.shape.slots l.work.done (set l.ring slot (Done id status)) (Some k) =
    each_set (λ (j : ℕ) (is : SlotLog). SlotStands l.shape.slots l.work.done k j is) l.ring slot (Done id status) (omega (arith, below, known.ring.holds.long))
    (λ j is other got. ids_in s l k known client j is got) stands in
    let none : (d.descs ≡ d.finished + 1 + 1) → InWork r (set l.ring slot (Done id status)) (finished_log d) = λ two. absurd (omega (arith, two, single)) in
    record {
      holds = subst (λ (x : List SlotLog). RingHolds r x t.memory) (sym table) holds;
      ids = subst (λ (q : Option ClientCounts). IdsStand l.shape.slots l.work.done (finished_at l.shape.slots l.work l.work.server slot status l.ring) q) (sym client)
          (subst (λ (x : List SlotLog). IdsStand l.shape.slots l.work.done x (Some k)) (sym table) ids);
      work = λ up.
          subst (λ (x : List SlotLog). WorkStands r x (change_server finished_log l.work.server)) (sym table)
          (subst (λ (q : Option ServerCounts). WorkStands r (set l.ring slot (Done id status)) (change_server finished_log q)) (sym work.of.open_is) none);
    }
