-- At each step of a lane that is reached the client writes one slot of its ring, or clears it.
use Rattle.std.proofs.Common.{◌≡◌, ℕ, ◌-◌, ◌%◌, ◌<◌, true, List, length, refl, sym, ap, ◌∙◌, subst, inr}
use Rattle.std.proofs.lemmas.Nat.{mod_below}
use Rattle.runs.specs.Run.{Run}
use Rattle.dring.proofs.Laps.{slot_cleared}
use Rattle.dring.specs.Slots.{free_slots, slot_bytes}
use Rattle.ldc_queue.specs.declared.end.End.TheVariants.{A}
use Rattle.vio_bytes.specs.Place.{put_at}
use Rattle.lane_models.specs.WireEvent.{Sent}
use Rattle.lane_models.specs.ClientRule as client_rules
use Rattle.lane_models.specs.DiskEvent.{DiskEvent, Done, OnWire, Published, Works}
use Rattle.lane_models.specs.LaneState.{IsShape, LaneState, Shape, fresh}
use Rattle.lane_models.specs.LaneStep.{LaneStep}
use Rattle.lane_models.specs.Seeing.{seen}
use Rattle.lane_laws.proofs.MemorySteps.{got_sound}
use Rattle.lane_laws.proofs.ReachedFacts.{all_behind}
use Rattle.lane_laws.proofs.Requesting.{sent_kept}
use Rattle.lane_laws.proofs.RingClient.{frees_slot, publishes_slot}
use Rattle.lane_laws.proofs.RingWire.{sent_clears}
use Rattle.lane_laws.proofs.Ruling.{client_may}
use Rattle.lane_laws.specs.RuleFacts.{ClientMay}
use Rattle.lane_laws.specs.SlotsWritten.{FreesSlot, PublishesSlot, SlotFreed, SlotPublished, SlotsCleared, buffers}
use Rattle.lane_laws.specs.MemoryStands.{memory_long}
use Rattle.lane_laws.proofs.BehindRing.{cleared_behind}

pub publishes : (shape : Shape) (events : List DiskEvent) (s t : LaneState) (id : ℕ) → IsShape shape → Run LaneStep (fresh shape) events s → LaneStep s (Works (Published id)) t → SlotPublished s id t
publishes shape events s t id sound run step =
    let all = all_behind shape events s sound run in
    let at = seen A s.shape.entries s.wire.wire in
    let p = step.step in
    let may : ClientMay s.client at (client_rules.Publishes p.session p.request) = subst (ClientMay s.client at) p.rule (client_may s.client at) in
    let n = s.client.slots in
    let slot = p.session.published % n in
    let below : slot < n = mod_below p.session.published n all.memory.some in
    let admitted = got_sound s.client.blocks s.client.pending (p.session.published - p.session.completed) p.request all.memory.sound may.2 in
    record {
      session = p.session;
      request = p.request;
      open_is = may.1;
      next = may.2;
      slot = subst (PublishesSlot n slot id p.request s.memory) (sym p.written_is) (publishes_slot s.client.blocks n slot id p.request s.memory admitted below all.memory.long);
    }

pub frees : (shape : Shape) (events : List DiskEvent) (s t : LaneState) (id operation status : ℕ) (bytes : List ℕ) → IsShape shape → Run LaneStep (fresh shape) events s
    → LaneStep s (Works (Done id operation status bytes)) t → SlotFreed s status t
frees shape events s t id operation status bytes sound run step =
    let all = all_behind shape events s sound run in
    let at = seen A s.shape.entries s.wire.wire in
    let c = step.step in
    let may : ClientMay s.client at (client_rules.Completes c.session) = subst (ClientMay s.client at) c.rule (client_may s.client at) in
    let n = s.client.slots in
    let slot = c.session.completed % n in
    let below : slot < n = mod_below c.session.completed n all.memory.some in
    record {
      session = c.session;
      open_is = may.1;
      done = c.done;
      status_is = c.status_is;
      slot = subst (FreesSlot n slot s.memory) (sym c.freed) (frees_slot n slot s.memory below all.memory.long);
    }

pub clears : (shape : Shape) (events : List DiskEvent) (s t : LaneState) (packet : List ℕ) → IsShape shape → Run LaneStep (fresh shape) events s
    → LaneStep s (OnWire (Sent A packet true)) t → SlotsCleared s t
clears shape events s t packet sound run step =
    let all = all_behind shape events s sound run in
    let at = seen A s.shape.entries s.wire.wire in
    let kept = sent_kept s.client at s.memory packet true t.client t.memory step.step in
    let n = t.client.slots in
    let memory : t.memory ≡ put_at 0 (free_slots 128 n) s.memory =
    (sent_clears s packet true t.client t.memory step.step).is ∙ ap (λ (m : ℕ). put_at 0 (free_slots 128 m) s.memory) (sym kept.slots) in
    let long : length s.memory ≡ memory_long n = subst (λ (m : ℕ). length s.memory ≡ memory_long m) (sym kept.slots) all.memory.long in
    record {
      each = λ slot below. ap (slot_bytes 128 slot) memory ∙ slot_cleared 128 n slot s.memory (inr refl) below;
      buffers_stay = ap (buffers n) memory ∙ cleared_behind n s.memory long;
    }
