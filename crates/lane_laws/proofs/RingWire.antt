-- What the wire's events do to the ring: nothing, but that it is cleared as the client's session opens.
use Rattle.std.proofs.Common.{◌≡◌, ℕ, ◌%◌, Bool, true, false, List, Option, Some, None, refl, sym, ap, ◌∙◌, arith}
use Rattle.std.specs.Prelude.{if◌then◌else◌, slice_index, replicate}
use Rattle.dring.specs.Slots.{free_slots, slot_bytes}
use Rattle.ldc_queue.specs.declared.end.ChannelState.TheVariants.{Up}
use Rattle.ldc_queue.specs.declared.end.End.{End}
use Rattle.ldc_queue.specs.declared.end.End.TheVariants.{A, B}
use Rattle.vio_bytes.specs.Place.{put_at}
use Rattle.vio_tag.specs.declared.cause.Cause.{Cause}
use Rattle.lane_models.specs.WireEvent.{Sent, WireEvent}
use Rattle.lane_laws.specs.DiskLog.{DiskLog, after}
use Rattle.lane_laws.specs.RingLog.{Free}
use Rattle.lane_laws.specs.WorkLog.{ClientCounts, ServerCounts}
use Rattle.lane_models.specs.ClientRule.{client_rule}
use Rattle.lane_models.specs.ClientState.{ClientState}
use Rattle.lane_models.specs.ClientStep.{ClientSends, ClientStep}
use Rattle.lane_models.specs.DiskEvent.{OnWire}
use Rattle.lane_models.specs.LaneState.{LaneState, pages_of}
use Rattle.lane_models.specs.LaneStep.{WireStep, reach}
use Rattle.lane_models.specs.Seeing.{seen}
use Rattle.lane_models.specs.ServerRule as server_rules
use Rattle.lane_models.specs.ServerState.{Ends, Progress, ServerSession, ServerState, Work}
use Rattle.lane_models.specs.ServerStep.{ServerStep, ServerFails, WorkFails}
use Rattle.lane_models.specs.ServerWork.{slot_at}
use Rattle.lane_laws.proofs.Requesting.{held_kept}
use Rattle.lane_laws.proofs.RingClient.{cleared_slot}
use Rattle.lane_laws.proofs.RingEnds.{has_work, work_below}
use Rattle.lane_laws.proofs.LaneViews.{ClientWrites, MemoryPoked, MemoryStays, MemoryView, ServerWrites, at_client, at_server, lane_view, reach_of}
use Rattle.lane_laws.proofs.RingLeaves.{OpensNot, leaves_stand, event_leaves}
use Rattle.lane_laws.proofs.RingServer.{end_refused}
use Rattle.lane_laws.proofs.RingTable.{free_ids, free_ring}
use Rattle.lane_laws.proofs.RingWork.{Known, at_work, numbered}
use Rattle.lane_laws.proofs.StandingRuns.{slots_is as slots_are}
use Rattle.lane_laws.proofs.RingWrites.{equal_slots}
use Rattle.lane_laws.proofs.Ruling.{client_may, server_may}
use Rattle.lane_laws.specs.RingAgreed.{InRing, SessionsAgree, ring_in}
use Rattle.lane_laws.specs.RingSlots.{WorkStands}
use Rattle.lane_laws.specs.RuleFacts.{ServerMay}

-- THE CLIENT'S PACKETS
pub record Clears (s : LaneState) (opens : Bool) (new : List ℕ) : Type 0 where
  pub is : new ≡ (if opens then put_at 0 (free_slots 128 s.client.slots) s.memory else s.memory)

pub sent_clears : (s : LaneState) (packet : List ℕ) (opens : Bool) (t : ClientState) (new : List ℕ) → ClientSends s.client (seen A s.shape.entries s.wire.wire) s.memory packet opens t new
    → Clears s opens new
sent_clears s packet opens t new sends =
    let at = seen A s.shape.entries s.wire.wire in
    let held = held_kept s.client at (client_rule s.client at) sends.held (client_may s.client at) sends.holds in
    record {
      is =
          sends.cleared
          ∙ ap (λ (b : Bool). if b then put_at 0 (free_slots 128 sends.held.slots) s.memory else s.memory) (sym sends.opens_is)
          ∙ ap (λ (n : ℕ). if opens then put_at 0 (free_slots 128 n) s.memory else s.memory) held.slots;
    }

-- the session opens: all slots are free, and no descriptor is in work
abbrev pub published_of : Option ClientCounts → ℕ
published_of None = 0
published_of (Some c) = c.published

none_in_work : (s t : LaneState) (l : DiskLog) (packet : List ℕ) → SessionsAgree t (after l (OnWire (Sent A packet true))) → (q : Option ServerCounts) → l.work.server ≡ q
    → l.wire.wire.end_b ≡ Up → WorkStands (ring_in l) (replicate l.shape.slots Free) q
none_in_work s t l packet agree q is up = grind arith

opened_in_ring : (s : LaneState) (l : DiskLog) (packet : List ℕ) (t : LaneState) → Known s l → SessionsAgree t (after l (OnWire (Sent A packet true)))
    → ClientSends s.client (seen A s.shape.entries s.wire.wire) s.memory packet true t.client t.memory → InRing t (after l (OnWire (Sent A packet true)))
opened_in_ring s l packet t known agree sends =
    let n = l.shape.slots in
    let memory : t.memory ≡ put_at 0 (free_slots 128 n) s.memory =
    (sent_clears s packet true t.client t.memory sends).is ∙ ap (λ (m : ℕ). put_at 0 (free_slots 128 m) s.memory) (slots_are s l known.stands) in
    record {
      holds = free_ring (ring_in l) t.memory (λ slot below. ap (λ (m : List ℕ). slice_index (slot_bytes 128 slot m) 0) memory ∙ cleared_slot n slot s.memory below);
      ids = free_ids n l.work.done (after l (OnWire (Sent A packet true))).work.client;
      work = λ up. none_in_work s t l packet agree l.work.server refl up;
    }

-- THE SERVER'S RESETS write nothing in session
fails_same : (p : Progress) (s : LaneState) (l : DiskLog) (v : ServerSession) (w : Work) (cause : Cause) (new : List ℕ) → Known s l → s.wire.wire.end_b ≡ Up → s.server.session ≡ Some v
    → s.server.work ≡ Some w → WorkFails p s.server v w (reach s (seen B s.shape.entries s.wire.wire).both) cause new → new ≡ s.memory
fails_same (Ends status) s l v w cause new known up session working fails =
    let both = (seen B s.shape.entries s.wire.wire).both in
    let work = at_work s l v known up session in
    let d = work.of.counts in
    let has = has_work s l v w known work working in
    let single = has.one in
    let descs = work.one.descs in
    let small = work.one.small in
    let next : slot_at s.server v.finished ≡ d.finished % l.shape.slots = numbered s l v work v.finished d.finished known.stands work.of.agree.finished (omega (arith, single, descs, small)) in
    end_refused s.server (reach s both) (pages_of l.shape) l.shape.slots (slot_at s.server v.finished) w status cause new (work.reaches both)
    (omega (arith, next, work_below s l d known)) fails
fails_same _ s l v w cause new known up session working fails = absurd fails

rule_same : (rule : server_rules.ServerRule) (s : LaneState) (l : DiskLog) (cause : Cause) (packet : Option (List ℕ)) (new : List ℕ) → Known s l
    → ServerMay s.server (seen B s.shape.entries s.wire.wire) rule → ServerFails rule s.server (reach s (seen B s.shape.entries s.wire.wire).both) cause packet new → new ≡ s.memory
rule_same rule s l cause packet new known may fails = grind (arith, fails_same)

-- EACH EVENT that opens no session of the client leaves the memory
client_same : (s : LaneState) (event : WireEvent) (t : ClientState) (new : List ℕ) → OpensNot event → ClientStep s.client (at_client s) s.memory (OnWire event) t new → new ≡ s.memory
client_same s event t new not step = grind arith

server_same : (s : LaneState) (l : DiskLog) (event : WireEvent) (gave : List ℕ) (t : ServerState) (new : List ℕ) → Known s l
    → ServerStep s.server (at_server s) (reach_of s) gave (OnWire event) t new → new ≡ s.memory
server_same s l event gave t new known step = grind (arith, rule_same, server_may)

pub wire_same : (s : LaneState) (l : DiskLog) (event : WireEvent) (t : LaneState) → OpensNot event → Known s l → WireStep s event t → (after l (OnWire event)).wire.forged ≡ false
    → t.memory ≡ s.memory
wire_same s l event t not known step unforged = by event not unforged (lane_view s (OnWire event) t step).memory
  where
    by : (event : WireEvent) → OpensNot event → (after l (OnWire event)).wire.forged ≡ false → MemoryView s t (OnWire event) → t.memory ≡ s.memory
    by event not unforged (ClientWrites _ does) = client_same s event t.client t.memory not does
    by event not unforged (ServerWrites _ gave does) = server_same s l event gave t.server t.memory known does
    by _ not unforged (MemoryPoked at bytes within is) = absurd (cc unforged)
    by event not unforged (MemoryStays _ is) = is

quiet_in_ring : (s : LaneState) (l : DiskLog) (event : WireEvent) (t : LaneState) → OpensNot event → Known s l → WireStep s event t → (after l (OnWire event)).wire.forged ≡ false
    → InRing t (after l (OnWire event))
quiet_in_ring s l event t not known step unforged =
    leaves_stand s l (OnWire event) t (event_leaves l (OnWire event) not) (equal_slots l.shape.slots s.memory t.memory (wire_same s l event t not known step unforged)) known.ring

sent_in_ring : (s : LaneState) (l : DiskLog) (e : End) (packet : List ℕ) (opens : Bool) (t : LaneState) → Known s l → SessionsAgree t (after l (OnWire (Sent e packet opens)))
    → WireStep s (Sent e packet opens) t → (after l (OnWire (Sent e packet opens))).wire.forged ≡ false → InRing t (after l (OnWire (Sent e packet opens)))
sent_in_ring s l A packet true t known agree step unforged = opened_in_ring s l packet t known agree step.step
sent_in_ring s l A packet false t known agree step unforged = quiet_in_ring s l (Sent A packet false) t refl known step unforged
sent_in_ring s l B packet opens t known agree step unforged = quiet_in_ring s l (Sent B packet opens) t tt known step unforged

pub wire_in_ring : (s : LaneState) (l : DiskLog) (event : WireEvent) (t : LaneState) → Known s l → SessionsAgree t (after l (OnWire event)) → WireStep s event t
    → (after l (OnWire event)).wire.forged ≡ false → InRing t (after l (OnWire event))
wire_in_ring s l event t known agree step unforged = grind (arith, sent_in_ring, quiet_in_ring)
