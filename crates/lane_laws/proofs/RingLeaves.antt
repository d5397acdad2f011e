-- The log of the ring after an event that leaves its slots as they are: what is known of bytes, numbers and work carries over.
use Rattle.std.proofs.Common.{◌≡◌, ℕ, false, List, Option, Some, None, ◌⊎◌, inl, inr, sym, subst, arith}
use Rattle.std.specs.Prelude.{⊤}
use Rattle.ldc_queue.specs.declared.end.ChannelState.TheVariants.{Up}
use Rattle.ldc_queue.specs.declared.end.End.TheVariants.{A}
use Rattle.lane_models.specs.WireEvent.{Sent, Took, WireEvent}
use Rattle.vdisk_msg.specs.declared.request.Request.{Request}
use Rattle.lane_laws.specs.DiskLog.{DiskLog, after}
use Rattle.lane_laws.specs.RingLog.{SlotLog}
use Rattle.lane_laws.specs.WorkLog.{ClientCounts, ServerCounts}
use Rattle.lane_models.specs.LaneState.{LaneState}
use Rattle.lane_models.specs.DiskEvent.{Accepted as Accepted_, Asks, Desc, DiskEvent, Done, Finished, OnWire, Published, Works}
use Rattle.lane_laws.proofs.RingTable.{map_stands, same_holds}
use Rattle.lane_laws.specs.RingAgreed.{InRing, ring_in}
use Rattle.lane_laws.specs.RingSlots.{IdStands, IdsStand, RingHolds, RingOf, SameSlots, WorkStands}

-- the client's ids stay, or its session is gone
abbrev pub KeepsIds : Option ClientCounts → Option ClientCounts → Type 0
KeepsIds None None = ⊤
KeepsIds None (Some c) = ⊥
KeepsIds (Some c) None = ⊤
KeepsIds (Some c) (Some d) = (d.base ≡ c.base) × (d.published ≡ c.published)

pub record SameWork (c d : ServerCounts) : Type 0 where
  pub descs : d.descs ≡ c.descs
  pub finished : d.finished ≡ c.finished
  pub desc : d.desc ≡ c.desc

-- the server's descriptor stays in work, or none is
abbrev pub KeepsWork : Option ServerCounts → Option ServerCounts → Type 0
KeepsWork None None = ⊤
KeepsWork (Some c) None = ⊤
KeepsWork None (Some d) = d.descs ≡ d.finished
KeepsWork (Some c) (Some d) = (d.descs ≡ d.finished) ⊎ SameWork c d

pub record LeavesRing (l : DiskLog) (event : DiskEvent) : Type 0 where
  pub ring : (after l event).ring ≡ l.ring
  pub issued : (after l event).work.issued ≡ l.work.issued
  pub done : (after l event).work.done ≡ l.work.done
  pub client : KeepsIds l.work.client (after l event).work.client
  pub server : KeepsWork l.work.server (after l event).work.server
  pub live : (after l event).wire.wire.end_b ≡ Up → (l.wire.wire.end_b ≡ Up) ⊎ ((after l event).work.server ≡ None)

-- WHAT CARRIES OVER
same_ids : (slots done : ℕ) (c d : ClientCounts) (slot : ℕ) → d.base ≡ c.base → d.published ≡ c.published → (id : ℕ) → IdStands slots done c slot id → IdStands slots done d slot id
same_ids slots done c d slot base published id stands = grind arith

ids_kept : (slots done : ℕ) (ring : List SlotLog) (o q : Option ClientCounts) → KeepsIds o q → IdsStand slots done ring o → IdsStand slots done ring q
ids_kept slots done ring None None keeps stand = tt
ids_kept slots done ring (Some c) None keeps stand = tt
ids_kept slots done ring None (Some d) keeps stand = absurd keeps
ids_kept slots done ring (Some c) (Some d) keeps stand = λ slot is got. map_stands slots done done c d slot (same_ids slots done c d slot keeps.0 keeps.1) is (stand slot is got)

work_kept : (r : RingOf) (ring : List SlotLog) (o q : Option ServerCounts) → KeepsWork o q → WorkStands r ring o → WorkStands r ring q
work_kept r ring o q keeps stand = grind arith

-- where the server's end is up after it
work_live : (r : RingOf) (ring : List SlotLog) (o q : Option ServerCounts) (up : Type 0) → KeepsWork o q → (up → WorkStands r ring o) → up ⊎ (q ≡ None) → WorkStands r ring q
work_live r ring o q up keeps stand (inl is) = work_kept r ring o q keeps (stand is)
work_live r ring o q up keeps stand (inr none) = subst (WorkStands r ring) (sym none) tt

pub leaves_stand : (s : LaneState) (l : DiskLog) (event : DiskEvent) (t : LaneState) → LeavesRing l event → SameSlots l.shape.slots s.memory t.memory → InRing s l → InRing t (after l event)
leaves_stand s l event t leaves same ring = record {
  holds =
      subst (λ (issued : List Request). RingHolds (record { blocks = l.shape.blocks; slots = l.shape.slots; issued = issued }) (after l event).ring t.memory) (sym leaves.issued)
      (subst (λ (table : List SlotLog). RingHolds (ring_in l) table t.memory) (sym leaves.ring) (same_holds (ring_in l) l.ring s.memory t.memory ring.holds same));
  ids =
      subst (λ (done : ℕ). IdsStand l.shape.slots done (after l event).ring (after l event).work.client) (sym leaves.done)
      (subst (λ (table : List SlotLog). IdsStand l.shape.slots l.work.done table (after l event).work.client) (sym leaves.ring)
      (ids_kept l.shape.slots l.work.done l.ring l.work.client (after l event).work.client leaves.client ring.ids));
  work = λ up.
      subst (λ (issued : List Request). WorkStands (record { blocks = l.shape.blocks; slots = l.shape.slots; issued = issued }) (after l event).ring (after l event).work.server) (sym leaves.issued)
      (subst (λ (table : List SlotLog). WorkStands (ring_in l) table (after l event).work.server) (sym leaves.ring)
      (work_live (ring_in l) l.ring l.work.server (after l event).work.server (l.wire.wire.end_b ≡ Up) leaves.server ring.work (leaves.live up)));
}

-- EACH KIND of change
-- EVENTS that leave the ring: no packet by which the client's session opens, no request, and of the work only pieces
abbrev pub OpensNot : WireEvent → Type 0
OpensNot (Sent A packet opens) = opens ≡ false
OpensNot (Took A packet opens) = opens ≡ false
OpensNot _ = ⊤

abbrev pub Leaves : DiskEvent → Type 0
Leaves (OnWire event) = OpensNot event
Leaves (Asks (Accepted_ id request)) = ⊥
Leaves (Works (Published id)) = ⊥
Leaves (Works (Done id operation status bytes)) = ⊥
Leaves (Works (Desc slot bytes)) = ⊥
Leaves (Works (Finished slot status)) = ⊥
Leaves _ = ⊤

-- the counts of both ends
ids_left : (l : DiskLog) (event : DiskEvent) → Leaves event → KeepsIds l.work.client (after l event).work.client
ids_left l event leaves = grind arith

work_left : (l : DiskLog) (event : DiskEvent) → Leaves event → KeepsWork l.work.server (after l event).work.server
work_left l event leaves = grind arith

pub event_leaves : (l : DiskLog) (event : DiskEvent) → Leaves event → LeavesRing l event
event_leaves l event leaves = grind (arith, ids_left, work_left)
