-- No end of a port resets itself for a slot where nobody forged: what it works on is in the peer's ring.
use Rattle.std.proofs.Common.{◌≡◌, ℕ, ◌+◌, ◌%◌, Bool, true, false, Option, Some, None, List, refl, sym, ap, ◌∙◌, subst, arith}
use Rattle.std.specs.Prelude.{is_some}
use Rattle.ldc_queue.specs.declared.end.ChannelState.{ChannelState}
use Rattle.ldc_queue.specs.declared.end.ChannelState.TheVariants.{Up}
use Rattle.ldc_queue.specs.declared.end.End.{End}
use Rattle.ldc_queue.specs.Wire.{peer_of, state_of}
use Rattle.runs.specs.Lawful.{Lawful}
use Rattle.runs.specs.Run.{Run}
use Rattle.lane_models.specs.TranscriptLog.{transcript_of}
use Rattle.vio_tag.specs.declared.cause.Cause.{Cause}
use Rattle.vnet_msg.specs.Frames.{memory_pages}
use Rattle.lane_models.proofs.Refuting.{none_some, true_false}
use Rattle.lane_models.proofs.Ruling.{says_of}
use Rattle.lane_models.specs.EndLog.{SessionLog}
use Rattle.lane_models.specs.Fetching.{fetched}
use Rattle.lane_models.specs.FramesStand.{CountsStand}
use Rattle.lane_models.specs.NetEndRule.{Fetches, NetRule, Takes, port_rule}
use Rattle.lane_models.specs.NetEndState.{Activity, NetEndState, NetSession}
use Rattle.lane_models.specs.NetEndStep.{FetchFails, NetEndStep, NetFails, NetLeft, Reset}
use Rattle.lane_models.specs.NetEvent.{NetEvent, Steps}
use Rattle.lane_models.specs.NetLaneState.{IsNetShape, NetLaneState, NetShape, memory_of, net_end, reach_of, role_at, seen_at}
use Rattle.lane_models.specs.NetLaneStep.{NetLaneStep}
use Rattle.lane_models.specs.PortLog.{PortLog, after, log_of_end, no_events}
use Rattle.lane_models.specs.PortState.{OnLane, PortEvent, PortState, PortStep, before, fresh_port}
use Rattle.lane_models.specs.RuleFacts.{IfOpen}
use Rattle.port_laws.specs.Counted.{ActiveCounts, unsaid}
use Rattle.port_laws.specs.NetCore.{lane_core}
use Rattle.port_laws.specs.NoSlotReset.{NoSlotResetAt}
use Rattle.port_laws.specs.RingHolds.{RingHolds}
use Rattle.port_laws.specs.RingStands.{RingIn, taken_by, taken_in, taken_of}
use Rattle.port_laws.specs.WaysStand.{WaysStand}
use Rattle.port_laws.proofs.EndCounting.{OpenCounts, left_seen, open_counts, open_empty}
use Rattle.port_laws.proofs.MemoryRoom.{power_room}
use Rattle.port_laws.proofs.PortCounts.{queue_of}
use Rattle.port_laws.proofs.PortRuns.{lawful_on_lane}
use Rattle.port_laws.proofs.PortTwoEnds.{PeerOpen, many_open}
use Rattle.port_laws.proofs.RingActs.{Finds, core_open, end_reaches, peer_ring_of, place_is, reach_memory, seen_state, spoke_of}
use Rattle.port_laws.proofs.RingFinds.{Finding, no_fail, ring_finds}
use Rattle.port_laws.proofs.RingRuns.{finds_before}
use Rattle.port_laws.proofs.RuleFrames.{end_acts, end_counted, end_stood}
use Rattle.port_laws.proofs.SessionsHeard.{spoke_some}
use Rattle.port_laws.proofs.TookCounts.{free_empty}
use Rattle.port_laws.proofs.WayRuns.{KeptWays, port_ways, ways_before}
use Rattle.port_laws.proofs.LaneMoves.{up_of}

-- WHAT ITS COPIES WORK ON
reach_both : (e : End) (u : NetLaneState) → state_of e u.wire.wire ≡ Up → state_of (peer_of e) u.wire.wire ≡ Up → (reach_of e u).both ≡ true
reach_both e u one two = grind arith

-- WHAT IS ON THE WAY while an INFO is in work
record Working (v w : SessionLog) : Type 0 where
  asking : v.asking ≡ true
  answered : w.answered ≡ v.seen

works_at : (e : End) (u : NetLaneState) (l : PortLog) (v w : SessionLog) → WaysStand u l → state_of e u.wire.wire ≡ Up → state_of (peer_of e) u.wire.wire ≡ Up → (log_of_end e l).session ≡ Some w
    → (log_of_end (peer_of e) l).session ≡ Some v → w.asked ≡ w.acks + 1 → Working v w
works_at e u l v w ways up other mine theirs busy = grind (arith, none_some)

-- what an end holds to say leaves an INFO unanswered

-- A FETCH
pub slot_reset : (shape : NetShape) (e : End) (u : PortState) (l : PortLog) (cause : Cause) (lost : ℕ) (left : NetLeft) → Finds shape u l → WaysStand u.lane l
    → NetEndStep (role_at e) (net_end e u.lane) (seen_at e u.lane) (memory_of e u.lane) (reach_of e u.lane) (Reset cause None lost) left → ⊥
slot_reset shape e u l cause lost left finds ways step = by_rule (port_rule (role_at e) s (seen_at e u.lane)) refl step.0
  where
    s : NetEndState
    s = net_end e u.lane

    peer : NetEndState
    peer = net_end (peer_of e) u.lane

    at_peer : (p q : NetSession) (activity : Activity) → port_rule (role_at e) s (seen_at e u.lane) ≡ Fetches p activity → peer.session ≡ Some q → state_of e u.lane.wire.wire ≡ Up
        → state_of (peer_of e) u.lane.wire.wire ≡ Up → FetchFails (fetched s (reach_of e u.lane) p.place) activity p.place cause → ⊥
    at_peer p q activity rule is_q up other fails =
        let says = says_of (role_at e) s (seen_at e u.lane) (Fetches p activity) rule in
        let acting = end_acts shape e u l finds.ready says.0.free.up in
        let empty = free_empty (role_at e) s (transcript_of e l.transcript) acting.ends says.0.free.quiet in
        let here : OpenCounts (role_at e) shape.slots s.groups (log_of_end e l).published (log_of_end e l).gone None s.link.begun p (log_of_end e l).session =
        open_empty (role_at e) shape.slots (queue_of e u) s (log_of_end e l) p (end_counted shape e u l finds.ready) says.0.session empty in
        let w : SessionLog = here.of_log in
        let busy : ActiveCounts shape.slots w (Some activity) = subst (ActiveCounts shape.slots w) says.1 here.counts.peer.active in
        let there = open_counts (role_at (peer_of e)) shape.slots (queue_of (peer_of e) u) peer (log_of_end (peer_of e) l) q (end_counted shape (peer_of e) u l finds.ready) is_q in
        let v : SessionLog = there.of_log in
        let work : Working v w = works_at e u.lane l v w ways up other here.is there.is busy.0 in
        let stood : CountsStand peer q = subst (λ (o : Option NetSession). IfOpen o (CountsStand peer)) is_q (end_stood shape (peer_of e) u l finds.ready).session in
        let seen : q.seen ≡ v.seen = sym there.counts.ring.seen ∙ left_seen (unsaid peer) v in
        let taken : taken_of e u.lane l ≡ w.taken =
        ap (λ (x : ChannelState). taken_by x (log_of_end e l).session) up ∙ ap taken_in here.is in
        let ring : RingIn l.shape.slots (taken_of e u.lane l) peer.session peer.frames (memory_of (peer_of e) u.lane) = peer_ring_of e u.lane l finds.rings other in
        let ring_q : RingHolds l.shape.slots q.seen (taken_of e u.lane l) q.published peer.frames (memory_of (peer_of e) u.lane) =
        subst (λ (o : Option NetSession). RingIn l.shape.slots (taken_of e u.lane l) o peer.frames (memory_of (peer_of e) u.lane)) is_q ring in
        let holds : RingHolds shape.slots q.seen w.taken q.published peer.frames (reach_of e u.lane).memory =
        grind (arith, reach_memory) in
        let sound = finds.ready.sound in
        let enough = power_room sound.slots.0 shape.slots sound.slots.1 sound.some_slots sound.most_slots in
        let one = sound.some_slots in
        let finding : Finding w.taken q.published (fetched s (reach_of e u.lane) (w.taken % shape.slots)) =
        ring_finds s (reach_of e u.lane) shape.slots (memory_pages shape.slots) q.seen w.taken q.published peer.frames
        (end_reaches shape e u l finds (ap is_some says.0.session) (ap is_some is_q)) (omega (arith, one)) (reach_both e u.lane up other) enough holds in
        let place : p.place ≡ w.taken % shape.slots =
        place_is (role_at e) shape.slots (queue_of e u) s (log_of_end e l) p (end_counted shape e u l finds.ready) says.0.session ∙ ap (λ (o : Option SessionLog). taken_in o % shape.slots) here.is in
        grind (arith, no_fail)

    at_work : (p : NetSession) (activity : Activity) → port_rule (role_at e) s (seen_at e u.lane) ≡ Fetches p activity
        → FetchFails (fetched s (reach_of e u.lane) p.place) activity p.place cause → ⊥
    at_work p activity rule fails =
        let says = says_of (role_at e) s (seen_at e u.lane) (Fetches p activity) rule in
        let up : state_of e u.lane.wire.wire ≡ Up = sym (seen_state e u.lane) ∙ up_of (seen_at e u.lane).state says.0.free.up in
        let acting = end_acts shape e u l finds.ready says.0.free.up in
        let empty = free_empty (role_at e) s (transcript_of e l.transcript) acting.ends says.0.free.quiet in
        let here : OpenCounts (role_at e) shape.slots s.groups (log_of_end e l).published (log_of_end e l).gone None s.link.begun p (log_of_end e l).session =
        open_empty (role_at e) shape.slots (queue_of e u) s (log_of_end e l) p (end_counted shape e u l finds.ready) says.0.session empty in
        let busy : ActiveCounts shape.slots here.of_log (Some activity) = subst (ActiveCounts shape.slots here.of_log) says.1 here.counts.peer.active in
        let asked : here.of_log.asked ≡ here.of_log.acks + 1 = busy.0 in
        let spoke = spoke_some (role_at e) (transcript_of e l.transcript) (log_of_end e l).session here.of_log here.is (spoke_of e u.lane l finds.rings) in
        let there : PeerOpen e (lane_core u.lane) = many_open shape (lane_core u.lane) l e finds.two_ends up (spoke.many (omega (arith, asked))) in
        by_peer p activity rule fails up there peer.session refl
      where
        by_peer : (p : NetSession) (activity : Activity) → port_rule (role_at e) s (seen_at e u.lane) ≡ Fetches p activity
            → FetchFails (fetched s (reach_of e u.lane) p.place) activity p.place cause → state_of e u.lane.wire.wire ≡ Up → PeerOpen e (lane_core u.lane) → (session : Option NetSession)
            → peer.session ≡ session → ⊥
        by_peer p activity rule fails up there None is = true_false (sym there.opened ∙ core_open (peer_of e) u.lane false (ap is_some is))
        by_peer p activity rule fails up there (Some q) is = at_peer p q activity rule is up there.up fails

    by_rule : (rule : NetRule) → port_rule (role_at e) s (seen_at e u.lane) ≡ rule → NetFails (role_at e) rule s (memory_of e u.lane) (reach_of e u.lane) cause None → ⊥
    by_rule (Fetches p activity) is fails = at_work p activity is fails.1
    by_rule (Takes packet) is fails = none_some packet fails.0
    by_rule _ is fails = fails

-- ALONG EVERY RUN
pub by_forged : (b : Bool) → (b ≡ false → ⊥) → b ≡ true
by_forged b never = grind arith

slots_event : (shape : NetShape) (s : PortState) (l : PortLog) (event : NetEvent) (t : PortState) → IsNetShape shape → KeptWays shape s l → NetLaneStep (before event s).lane event t.lane
    → NoSlotResetAt l (OnLane event)
slots_event shape s l (Steps e (Reset cause None lost)) t is had step =
    by_forged l.wire.forged (λ clean.
    slot_reset shape e (before (Steps e (Reset cause None lost)) s) l cause lost step.left (finds_before shape s l (Steps e (Reset cause None lost)) is had.kept clean)
    (ways_before (Steps e (Reset cause None lost)) s l (had.ways clean)) step.step)
slots_event shape s l _ t is had step = tt

pub port_slots : (shape : NetShape) (events : List PortEvent) (s : PortState) → IsNetShape shape → Run PortStep (fresh_port shape) events s → Lawful NoSlotResetAt after (no_events shape) events
port_slots shape events s is run =
    lawful_on_lane shape NoSlotResetAt (λ l frame. tt)
    (λ xs x event y ran step. slots_event shape x _ event y is (port_ways shape xs x is ran) step.1) events s run
