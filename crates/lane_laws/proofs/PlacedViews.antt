-- A lane that nobody forges has its requests in their places: those that are finished, the one in work, and those that are published.
use Rattle.std.proofs.Common.{◌≡◌, ℕ, ◌+◌, ◌*◌, ◌%◌, ◌<◌, ◌≤◌, ◌⊎◌, Option, Some, None, List, drop, length, inl, inr, refl, sym, ap, ◌∙◌, subst, arith, length-drop}
use Rattle.std.specs.Prelude.{slice_get}
use Rattle.ldc_queue.specs.declared.end.ChannelState.{ChannelState}
use Rattle.ldc_queue.specs.declared.end.ChannelState.TheVariants.{Up}
use Rattle.vdisk_msg.specs.declared.request.Request.{Request}
use Rattle.vdisk_msg.specs.Requested.{ring_pages}
use Rattle.lane_laws.specs.Agreement.{ClientAgrees, ClientCountsAgree, ServerAgrees}
use Rattle.lane_laws.specs.DiskLog.{DiskLog}
use Rattle.lane_laws.specs.RingLog.{Accepted}
use Rattle.lane_laws.specs.WorkLog.{ClientCounts, ServerCounts}
use Rattle.lane_models.specs.ClientState.{ClientSession}
use Rattle.lane_models.specs.LaneState.{LaneState}
use Rattle.lane_models.specs.ServerState.{ServerSession, Work}
use Rattle.lane_laws.proofs.RingClientSteps.{got_at, in_order}
use Rattle.lane_laws.proofs.RingEnds.{HasWork, has_work}
use Rattle.lane_laws.proofs.RingSessions.{one_ring}
use Rattle.lane_laws.proofs.RingTable.{id_is}
use Rattle.lane_laws.proofs.RingWork.{AtWork, at_work, ids_in, turn_in}
use Rattle.lane_laws.specs.MemoryStands.{memory_long}
use Rattle.lane_laws.specs.RingAgreed.{OneRing, ring_in}
use Rattle.lane_laws.specs.RingSlots.{HoldsIssued}
use Rattle.lane_laws.specs.LaneView.{view_of, work_while}
use Rattle.lane_laws.proofs.Changes.{Placed}
use Rattle.lane_laws.proofs.LiveCounts.{KIs, counts_while}
use Rattle.lane_laws.proofs.Standing.{Before}
use Rattle.lane_models.proofs.Apart.{some_same}

-- a server that works, or none does
pub record IsLive (x : ChannelState) (q : Option ServerCounts) : Type 0 where
  pub counts : ServerCounts
  pub up : x ≡ Up
  pub there : q ≡ Some counts

pub live_or_not : (x : ChannelState) (q : Option ServerCounts) → (counts_while x q ≡ None) ⊎ IsLive x q
live_or_not Up (Some d) = inr (record { counts = d; up = refl; there = refl })
live_or_not _ _ = inl refl

pub live_work : (x : ChannelState) (w : Option Work) (work : Work) → work_while x w ≡ Some work → (x ≡ Up) × (w ≡ Some work)
live_work x w work is = grind arith

k_number : (x : ChannelState) (q : Option ServerCounts) (o : Option ClientCounts) (done k : ℕ) (d : ServerCounts) (c : ClientCounts) → x ≡ Up → q ≡ Some d → o ≡ Some c → KIs (counts_while x q) o done k
    → c.base + d.finished ≡ done + k
k_number x q o done k d c up is open_is kis = grind arith

-- THE CLIENT'S SESSION, by the log's
client_there : (o : Option ClientSession) (done : ℕ) (q : Option ClientCounts) (k : ClientCounts) → q ≡ Some k → ClientAgrees o done q → (c : ClientSession) × (o ≡ Some c) × ClientCountsAgree c done k
client_there o done q k is agrees = grind arith

-- WHERE A SERVER WORKS the client's session is open, and the server's count tells what is finished
pub record Live (s : LaneState) (l : DiskLog) (d : ServerCounts) : Type 0 where
  pub one : OneRing s l.work d
  pub session : ClientSession
  pub there : s.client.session ≡ Some session
  pub agree : ClientCountsAgree session l.work.done one.client
  pub number : one.client.base + d.finished ≡ l.work.done + s.near.k

pub live : (s : LaneState) (l : DiskLog) (d : ServerCounts) → Before s l → l.wire.wire.end_b ≡ Up → l.work.server ≡ Some d → Live s l d
live s l d before up is =
    let one = one_ring s l d is up before.known.agree in
    let client = client_there s.client.session l.work.done l.work.client one.client one.open_is before.known.agree.client in
    record {
      one = one;
      session = client.0;
      there = client.1;
      agree = client.2;
      number = k_number l.wire.wire.end_b l.work.server l.work.client l.work.done s.near.k d one.client up is one.open_is before.near.k;
    }

work_counts : (o : Option ServerSession) (w : Option Work) (q : Option ServerCounts) (work : Work) → w ≡ Some work → ServerAgrees o w q → (v : ServerSession) × (o ≡ Some v)
work_counts o w q work is agrees = grind arith

-- THE DESCRIPTOR IN WORK is that of the request after those that are finished
pub record Working (s : LaneState) (l : DiskLog) (work : Work) : Type 0 where
  pub session : ServerSession
  pub at : AtWork s l session
  pub has : HasWork s l work at.of.counts
  pub live : Live s l at.of.counts
  pub request : Request
  pub next : slice_get s.client.pending s.near.k ≡ Some request
  pub id : ℕ
  pub holds : HoldsIssued (ring_in l) (at.of.counts.finished % l.shape.slots) id 2 0 work.bytes
  pub of_holds : holds.request ≡ request
  pub number : live.session.completed + s.near.k ≡ at.of.counts.finished
  pub served : live.session.completed + s.near.k < live.session.published

-- sums over the counts of both sessions, of numbers alone
below_published : (finished descs asked published : ℕ) → descs ≡ finished + 1 → descs ≤ asked → asked ≤ published → finished < published
below_published finished descs asked published single few within = omega arith

number_of : (completed k finished done base : ℕ) → done ≡ base + completed → base + finished ≡ done + k → completed + k ≡ finished
number_of completed k finished done base counted number = omega arith

below_session : (at finished descs asked published other own : ℕ) → at ≡ finished → descs ≡ finished + 1 → descs ≤ asked → asked ≤ published → published ≡ other → own ≡ other → at < own
below_session at finished descs asked published other own is single few within same counted = omega arith

pub working : (s : LaneState) (l : DiskLog) (work : Work) → Before s l → work_while s.wire.wire.end_b s.server.work ≡ Some work → Working s l work
working s l work before is =
    let known = before.known in
    let both = live_work s.wire.wire.end_b s.server.work work is in
    let v = work_counts s.server.session s.server.work l.work.server work both.1 known.agree.server in
    let at = at_work s l v.0 known both.0 v.1 in
    let d = at.of.counts in
    let has = has_work s l v.0 work known at both.1 in
    let on = live s l d before at.up at.of.open_is in
    let k = at.one.client in
    let slot = d.finished % l.shape.slots in
    let stands = ids_in s l k known at.one.open_is slot (Accepted has.inside.id) has.inside.stands in
    let turn = turn_in s l k known at.one.open_is in
    let single = has.one in
    let descs = at.one.descs in
    let asked = at.one.asked in
    let same_client : k ≡ on.one.client = let two : Some k ≡ Some on.one.client = sym at.one.open_is ∙ on.one.open_is in some_same two in
    let base : k.base ≡ on.one.client.base = ap (λ (c : ClientCounts). c.base) same_client in
    let published : k.published ≡ on.one.client.published = ap (λ (c : ClientCounts). c.published) same_client in
    let id_number : has.inside.id ≡ k.base + d.finished = id_is l.shape.slots l.work.done k slot has.inside.id d.finished stands at.one.done (below_published d.finished d.descs d.asked k.published single descs asked) turn.turn refl in
    let place : l.work.done + s.near.k ≡ has.inside.id = sym on.number ∙ ap (λ (n : ℕ). n + d.finished) (sym base) ∙ sym id_number in
    let counted = on.agree.completed in
    let number : on.session.completed + s.near.k ≡ d.finished = number_of on.session.completed s.near.k d.finished l.work.done on.one.client.base counted on.number in
    let holds : HoldsIssued (ring_in l) slot has.inside.id 2 0 work.bytes = subst (HoldsIssued (ring_in l) slot has.inside.id 2 0) has.desc has.inside.fetched in
    record {
      session = v.0;
      at = at;
      has = has;
      live = on;
      request = holds.request;
      next = ap (λ (xs : List Request). slice_get xs s.near.k) known.stands.requests.pending ∙ got_at l.work.issued l.work.done s.near.k
          ∙ ap (slice_get l.work.issued) place ∙ holds.accepted;
      id = has.inside.id;
      holds = holds;
      of_holds = refl;
      number = number;
      served = below_session (on.session.completed + s.near.k) d.finished d.descs d.asked k.published on.one.client.published on.session.published number single descs asked published on.agree.published;
    }

-- THE PLACES
buffers_room : (s : LaneState) → length s.memory ≡ memory_long s.client.slots → 32768 * s.client.slots ≤ length (drop (8192 * ring_pages s.client.slots) s.memory)
buffers_room s long = omega (arith, long, length-drop (8192 * ring_pages s.client.slots) s.memory)

record Finished (s : LaneState) (l : DiskLog) : Type 0 where
  pending : s.near.k ≤ length s.client.pending
  published : (session : ClientSession) → s.client.session ≡ Some session → session.completed + s.near.k ≤ session.published

finished_by : (s : LaneState) (l : DiskLog) → Before s l → (counts_while l.wire.wire.end_b l.work.server ≡ None) ⊎ IsLive l.wire.wire.end_b l.work.server → Finished s l
finished_by s l before is = grind arith

below_pending : (k completed own pending : ℕ) → completed + k < own → own ≤ completed + pending → k < pending
below_pending k completed own pending few most = omega arith

pub placed : (s : LaneState) (l : DiskLog) → Before s l → Placed s.client.blocks (view_of s)
placed s l before =
    let finished = finished_by s l before (live_or_not l.wire.wire.end_b l.work.server) in
    record {
      sound = before.known.memory.sound;
      some = before.known.memory.some;
      few = before.known.sound.pending;
      room = buffers_room s before.known.memory.long;
      finished = finished.pending;
      serves = λ work is.
          let on = working s l work before is in
          let order = in_order s l on.live.session before.known on.live.there in
          let most = order.published in
          below_pending s.near.k on.live.session.completed on.live.session.published (length s.client.pending) on.served most;
      published = finished.published;
      most = λ session is. (in_order s l session before.known is).published;
      served = λ session is work now.
          let on = working s l work before now in
          let two : Some on.live.session ≡ Some session = sym on.live.there ∙ is in
          let same : on.live.session ≡ session = some_same two in
          subst (λ (x : ClientSession). x.completed + s.near.k < x.published) same on.served;
    }
