-- Each event keeps the slots of the ring, where the sessions agree before it and after it.
use Rattle.std.proofs.Common.{◌≡◌, ℕ, ◌^◌, ◌<◌, false, List, length, sym, ap, subst}
use Rattle.lane_laws.specs.DiskLog.{DiskLog, after}
use Rattle.lane_models.specs.DiskEvent.{Accepted, Asks, Desc, DiskEvent, Done, Finished, Misplaced, Moved, OnWire, Published, Calms, Stopped, Stored, Switches, Works}
use Rattle.lane_models.specs.LaneState.{LaneState}
use Rattle.lane_models.specs.LaneStep.{LaneStep}
use Rattle.lane_laws.proofs.RingClientSteps.{completed_in_ring, published_in_ring}
use Rattle.lane_laws.proofs.RingEnds.{finished_in_ring, moved_in_ring}
use Rattle.lane_laws.proofs.RingLeaves.{Leaves, event_leaves, leaves_stand}
use Rattle.lane_laws.proofs.LaneViews.{calm_same}
use Rattle.vdisk_msg.specs.declared.request.Request.{Request}
use Rattle.lane_laws.proofs.RingTable.{more_ring, more_work}
use Rattle.lane_laws.proofs.RingWire.{wire_in_ring}
use Rattle.lane_laws.proofs.RingWork.{Known, fetched_in_ring}
use Rattle.lane_laws.proofs.RingWrites.{equal_slots}
use Rattle.lane_laws.specs.RingAgreed.{InRing, SessionsAgree, ring_in}
use Rattle.lane_laws.specs.RingSlots.{RingHolds}

-- AN EVENT that touches neither ring nor memory
rest_in_ring : (s : LaneState) (l : DiskLog) (event : DiskEvent) (t : LaneState) → Known s l → Leaves event → t.memory ≡ s.memory → InRing t (after l event)
rest_in_ring s l event t known leaves memory = leaves_stand s l event t (event_leaves l event leaves) (equal_slots l.shape.slots s.memory t.memory memory) known.ring

-- one request more
accepted_in_ring : (s : LaneState) (l : DiskLog) (id : ℕ) (request : Request) (t : LaneState) → Known s l → LaneStep s (Asks (Accepted id request)) t → InRing t (after l (Asks (Accepted id request)))
accepted_in_ring s l id request t known step = record {
  holds = subst (λ (m : List ℕ). RingHolds (ring_in (after l (Asks (Accepted id request)))) l.ring m) (sym (ap (λ (x : LaneState). x.memory) step.1))
      (more_ring (ring_in l) request l.ring s.memory known.ring.holds);
  ids = known.ring.ids;
  work = λ up. more_work (ring_in l) request l.ring l.work.server (known.ring.work up);
}

-- EACH EVENT
pub event_in_ring : (s : LaneState) (l : DiskLog) (event : DiskEvent) (t : LaneState) → Known s l → length l.work.issued < 2 ^ 64 → SessionsAgree t (after l event) → LaneStep s event t
    → (after l event).wire.forged ≡ false → InRing t (after l event)
event_in_ring s l (OnWire event) t known few agree step unforged = wire_in_ring s l event t known agree step unforged
event_in_ring s l (Asks (Accepted id request)) t known few agree step unforged = accepted_in_ring s l id request t known step
event_in_ring s l (Asks event) t known few agree step unforged = rest_in_ring s l (Asks event) t known tt (ap (λ (x : LaneState). x.memory) step.1)
event_in_ring s l (Works (Published id)) t known few agree step unforged = published_in_ring s l id t known few step
event_in_ring s l (Works (Done id operation status bytes)) t known few agree step unforged = completed_in_ring s l id operation status bytes t known step
event_in_ring s l (Works (Desc slot bytes)) t known few agree step unforged = fetched_in_ring s l slot bytes t known agree step
event_in_ring s l (Works (Moved unit fault)) t known few agree step unforged = moved_in_ring s l unit fault t known step
event_in_ring s l (Works (Finished slot status)) t known few agree step unforged = finished_in_ring s l slot status t known step
event_in_ring s l (Works (Stored operation block count failed)) t known few agree step unforged =
    rest_in_ring s l (Works (Stored operation block count failed)) t known tt step.1.step.1.1
event_in_ring s l (Works Misplaced) t known few agree step unforged = absurd step
event_in_ring s l (Switches Stopped) t known few agree step unforged = rest_in_ring s l (Switches Stopped) t known tt (ap (λ (x : LaneState). x.memory) step.1)
event_in_ring s l (Switches event) t known few agree step unforged = rest_in_ring s l (Switches event) t known tt (ap (λ (x : LaneState). x.memory) step.1)
event_in_ring s l (Calms event) t known few agree step unforged = rest_in_ring s l (Calms event) t known tt (ap (λ (x : LaneState). x.memory) (calm_same s event t step))
