-- Where nobody forged, a frame that an end takes is one that the other end published in the last session of the same sid.
use Rattle.std.proofs.Common.{◌≡◌, ℕ, ◌+◌, ◌-◌, ◌<◌, ◌≤◌, true, Option, Some, List, [], ◌∷◌, refl, sym, ap, ◌∙◌, subst, arith}
use Rattle.std.specs.Prelude.{◌%◌, is_some, slice_get}
use Rattle.std.proofs.lemmas.Bool.{eq-eqb}
use Rattle.ldc_link.specs.declared.phase.Role.{Role}
use Rattle.ldc_queue.specs.declared.end.ChannelState.TheVariants.{Up}
use Rattle.ldc_queue.specs.declared.end.End.{End}
use Rattle.ldc_queue.specs.declared.end.End.TheVariants.{A, B}
use Rattle.ldc_queue.specs.Wire.{peer_of, state_of}
use Rattle.runs.specs.Lawful.{Lawful}
use Rattle.runs.specs.Run.{Run}
use Rattle.lane_models.specs.TranscriptLog.{transcript_of}
use Rattle.lane_models.specs.WireAt.{IsUp}
use Rattle.vnet_msg.specs.Frames.{memory_pages}
use Rattle.lane_models.proofs.Refuting.{true_false}
use Rattle.lane_models.proofs.Ruling.{says_of}
use Rattle.lane_models.specs.EndLog.{EndLog, OpenedLog, SessionLog}
use Rattle.lane_models.specs.Fetching.{IsFrame, fetched}
use Rattle.lane_models.specs.FrameLaws.{InSession, IsActive}
use Rattle.lane_models.specs.NetEndRule.{Fetches}
use Rattle.lane_models.specs.NetEndState.{NetEndState, NetSession}
use Rattle.lane_models.specs.NetEndStep.{Frame}
use Rattle.lane_models.specs.NetEvent.{NetEvent, Steps}
use Rattle.lane_models.specs.NetLaneState.{IsNetShape, NetLaneState, NetShape, memory_of, net_end, reach_of, role_at, seen_at}
use Rattle.lane_models.specs.NetLaneStep.{EndSteps, NetLaneStep}
use Rattle.lane_models.specs.PortLog.{PortLog, after, log_of_end, no_events}
use Rattle.lane_models.specs.PortState.{OnLane, PortEvent, PortState, PortStep, before, fresh_port}
use Rattle.lane_models.specs.RestLaws.{IsPublished, UnforgedAt, last_of}
use Rattle.port_laws.specs.Counted.{EndCounts, unsaid}
use Rattle.port_laws.specs.NetCore.{lane_core}
use Rattle.port_laws.specs.RingHolds.{RingHolds}
use Rattle.port_laws.specs.RingStands.{taken_in}
use Rattle.port_laws.proofs.EndCounting.{left_published, open_counts}
use Rattle.port_laws.proofs.LogsStand.{EndLogStands, HeadIn, held_given}
use Rattle.port_laws.proofs.PortCounts.{queue_of}
use Rattle.port_laws.proofs.PortRuns.{lawful_on_lane}
use Rattle.port_laws.proofs.PortTwoEnds.{PeerOpen, many_open}
use Rattle.port_laws.proofs.RingActs.{Finds, end_reaches, place_is, reach_memory, seen_state, spoke_of}
use Rattle.port_laws.proofs.RingEvents.{acts_up}
use Rattle.port_laws.proofs.RingFetches.{Fetches as FetchesFrame, ring_fetched}
use Rattle.port_laws.proofs.RingRuns.{Kept, finds_before, port_kept}
use Rattle.port_laws.proofs.RuleFrames.{active_here, end_acts, end_counted}
use Rattle.port_laws.proofs.SessionsHeard.{same_sid, spoke_some}
use Rattle.port_laws.proofs.TookCounts.{free_empty}
use Rattle.port_laws.proofs.PutCounts.{some_of}

-- IN THE LOG of the end that published it
last_is : (one : OpenedLog) (rest : List OpenedLog) (sid : ℕ) → one.sid ≡ sid → last_of sid (one ∷ rest) ≡ Some one
last_is one rest sid same = grind (arith, eq-eqb, true_false)

pub published_is : (role : Role) (slots : ℕ) (queue : List (List ℕ)) (s : NetEndState) (l : EndLog) (p : NetSession) (v : SessionLog) (frame : List ℕ) → EndCounts role slots queue s l
    → EndLogStands l → s.session ≡ Some p → ((w : SessionLog) → l.session ≡ Some w → w.sid ≡ v.sid) → p.seen ≤ v.taken → v.taken < p.published
    → slice_get s.frames (v.taken - p.seen) ≡ Some frame → IsPublished l frame v
published_is role slots queue s l p v frame counts logs is same first below next =
    let here = open_counts role slots queue s l p counts is in
    let w : SessionLog = here.of_log in
    let head : HeadIn (Some w) l.opened l.published = subst (λ (o : Option SessionLog). HeadIn o l.opened l.published) here.is logs.head in
    let own : w.published ≡ p.published = sym (left_published (unsaid s) w) ∙ here.counts.ring.here in
    by_opened l.opened refl w head (same w here.is) here.counts.ring.all here.counts.ring.left own
  where
    by_opened : (opened : List OpenedLog) → l.opened ≡ opened → (w : SessionLog) → HeadIn (Some w) opened l.published → w.sid ≡ v.sid → l.published ≡ p.base + p.published → l.gone ≡ p.base + p.seen
        → w.published ≡ p.published → IsPublished l frame v
    by_opened [] list w head sid all gone own = absurd head
    by_opened (one ∷ rest) list w head sid all gone own =
        let based = head.2 in
        let number = head.1 in
        let place : l.gone + (v.taken - p.seen) ≡ one.base + v.taken = omega (arith, based, number, own, all, gone, first) in
        record {
          opened = one;
          last = ap (last_of v.sid) list ∙ last_is one rest v.sid (head.0 ∙ sid);
          below = omega (arith, below, number, own);
          given = ap (slice_get l.given) (sym place) ∙ held_given s.frames queue l.given l.gone (v.taken - p.seen) frame counts.frames next;
        }

-- ONE SID
sids_of : (shape : NetShape) (e : End) (u : PortState) (l : PortLog) (v w : SessionLog) → Finds shape u l → IsUp B u.lane.wire.wire → (log_of_end e l).session ≡ Some v
    → (log_of_end (peer_of e) l).session ≡ Some w → w.sid ≡ v.sid
sids_of shape e u l v w finds up mine theirs = grind (arith, same_sid, spoke_some)

hub_up : (e : End) (u : NetLaneState) → state_of e u.wire.wire ≡ Up → state_of (peer_of e) u.wire.wire ≡ Up → IsUp B u.wire.wire
hub_up A u mine theirs = theirs
hub_up B u mine theirs = mine

-- THE FRAME
pub record TakesPublished (shape : NetShape) (e : End) (u : PortState) (l : PortLog) (frame new : List ℕ) : Type 0 where
  pub v : SessionLog
  pub mine : (log_of_end e l).session ≡ Some v
  pub p : NetSession
  pub theirs : (net_end (peer_of e) u.lane).session ≡ Some p
  pub peer_up : state_of (peer_of e) u.lane.wire.wire ≡ Up
  pub up : state_of e u.lane.wire.wire ≡ Up
  pub ring : RingHolds shape.slots p.seen v.taken p.published (net_end (peer_of e) u.lane).frames (memory_of (peer_of e) u.lane)
  pub found : FetchesFrame shape.slots p.seen v.taken p.published (net_end (peer_of e) u.lane).frames frame (memory_of (peer_of e) u.lane) new

-- a session of which this holds
pub in_some : (log : Option SessionLog) (P : SessionLog → Type 0) → InSession log P → (v : SessionLog) × (log ≡ Some v) × P v
in_some log P holds = grind arith

core_peer : (e : End) (u : NetLaneState) → PeerOpen e (lane_core u) → is_some (net_end (peer_of e) u).session ≡ true
core_peer e u there = grind arith

peer_is_up : (e : End) (u : NetLaneState) → PeerOpen e (lane_core u) → state_of (peer_of e) u.wire.wire ≡ Up
peer_is_up e u there = grind arith

core_up : (e : End) (u : NetLaneState) → state_of e u.wire.wire ≡ Up → IsUp e (lane_core u).wire.wire
core_up e u up = grind arith

pub takes_published : (shape : NetShape) (e : End) (u : PortState) (l : PortLog) (frame : List ℕ) (t : NetLaneState) → Finds shape u l → (step : EndSteps e u.lane (Frame frame) t)
    → TakesPublished shape e u l frame step.step.new
takes_published shape e u l frame t finds step =
    let f : NetEndState = net_end e u.lane in
    let queue = queue_of e u in
    let log : EndLog = log_of_end e l in
    let q : NetSession = step.step.session in
    let says = says_of (role_at e) f (seen_at e u.lane) (Fetches q step.step.activity) step.step.rule in
    let up : state_of e u.lane.wire.wire ≡ Up =
    acts_up (role_at e) f (seen_at e u.lane) (memory_of e u.lane) (reach_of e u.lane) (Frame frame) step.left step.step (state_of e u.lane.wire.wire) (seen_state e u.lane) refl in
    let acting = end_acts shape e u l finds.ready says.0.free.up in
    let active = in_some log.session IsActive
    (active_here (role_at e) shape.slots queue f log q step.step.activity acting.counts says.0.session says.1 (free_empty (role_at e) f (transcript_of e l.transcript) acting.ends says.0.free.quiet)
    IsActive (λ v peer busy. busy.0)) in
    let v : SessionLog = active.0 in
    let mine : log.session ≡ Some v = active.1 in
    let busy : v.asked ≡ v.acks + 1 = active.2 in
    let spoke = spoke_some (role_at e) (transcript_of e l.transcript) log.session v mine (spoke_of e u.lane l finds.rings) in
    let there : PeerOpen e (lane_core u.lane) = many_open shape (lane_core u.lane) l e finds.two_ends (core_up e u.lane up) (spoke.many (omega (arith, busy))) in
    let peer_up : state_of (peer_of e) u.lane.wire.wire ≡ Up = peer_is_up e u.lane there in
    let peer = some_of (net_end (peer_of e) u.lane).session (core_peer e u.lane there) in
    let p : NetSession = peer.0 in
    let frames : List (List ℕ) = (net_end (peer_of e) u.lane).frames in
    let memory : List ℕ = memory_of (peer_of e) u.lane in
    let ring : RingHolds shape.slots p.seen v.taken p.published frames memory = grind arith in
    let here : RingHolds shape.slots p.seen v.taken p.published frames (reach_of e u.lane).memory =
    subst (RingHolds shape.slots p.seen v.taken p.published frames) (sym (reach_memory e u.lane)) ring in
    let place : q.place ≡ v.taken % shape.slots =
    place_is (role_at e) shape.slots queue f log q (end_counted shape e u l finds.ready) says.0.session ∙ ap (λ (n : ℕ). n % shape.slots) (ap taken_in mine) in
    let found : fetched f (reach_of e u.lane) (v.taken % shape.slots) ≡ IsFrame frame step.step.new = ap (fetched f (reach_of e u.lane)) (sym place) ∙ step.step.found in
    let some = finds.ready.sound.some_slots in
    record {
      v = v;
      mine = mine;
      p = p;
      theirs = peer.1;
      peer_up = peer_up;
      up = up;
      ring = ring;
      found = subst (λ (m : List ℕ). FetchesFrame shape.slots p.seen v.taken p.published frames frame m step.step.new) (reach_memory e u.lane)
          (ring_fetched f (reach_of e u.lane) shape.slots (memory_pages shape.slots) p.seen v.taken p.published frames frame step.step.new
          (end_reaches shape e u l finds (ap is_some says.0.session) (ap is_some peer.1)) (omega (arith, some)) here found);
    }

logs_of : (e : End) (shape : NetShape) (u : PortState) (l : PortLog) → Finds shape u l → EndLogStands (log_of_end e l)
logs_of e shape u l finds = grind arith

frame_published : (shape : NetShape) (e : End) (u : PortState) (l : PortLog) (frame : List ℕ) (t : NetLaneState) → Finds shape u l → EndSteps e u.lane (Frame frame) t
    → InSession (log_of_end e l).session (IsPublished (log_of_end (peer_of e) l) frame)
frame_published shape e u l frame t finds step =
    let takes : TakesPublished shape e u l frame step.step.new = takes_published shape e u l frame t finds step in
    subst (λ (o : Option SessionLog). InSession o (IsPublished (log_of_end (peer_of e) l) frame)) (sym takes.mine)
    (published_is (role_at (peer_of e)) shape.slots (queue_of (peer_of e) u) (net_end (peer_of e) u.lane) (log_of_end (peer_of e) l) takes.p takes.v frame
    (end_counted shape (peer_of e) u l finds.ready) (logs_of (peer_of e) shape u l finds) takes.theirs
    (λ w theirs. sids_of shape e u l takes.v w finds (hub_up e u.lane takes.up takes.peer_up) takes.mine theirs) takes.ring.seen_first takes.found.below takes.found.next)

unforged_event : (shape : NetShape) (s : PortState) (l : PortLog) (event : NetEvent) (t : PortState) → IsNetShape shape → Kept shape s l → NetLaneStep (before event s).lane event t.lane
    → UnforgedAt l (OnLane event)
unforged_event shape s l (Steps e (Frame frame)) t is kept step = λ clean. frame_published shape e (before (Steps e (Frame frame)) s) l frame t.lane (finds_before shape s l (Steps e (Frame frame)) is kept clean) step
unforged_event shape s l _ t is kept step = tt

pub port_unforged : (shape : NetShape) (events : List PortEvent) (s : PortState) → IsNetShape shape → Run PortStep (fresh_port shape) events s → Lawful UnforgedAt after (no_events shape) events
port_unforged shape events s is run =
    lawful_on_lane shape UnforgedAt (λ l frame. tt)
    (λ xs x event y ran step. unforged_event shape x _ event y is (port_kept shape xs x is ran) step.1) events s run
