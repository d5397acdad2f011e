-- What a step of an end leaves of both rings, and of what both logs say, where nobody forged: one proof for either end.
use Rattle.std.proofs.Common.{◌≡◌, ◌≢◌, ℕ, ◌+◌, ◌≤◌, Bool, true, false, Option, Some, None, List, [], ◌∷◌, refl, sym, ap, ◌∙◌, subst, arith}
use Rattle.std.specs.Prelude.{◌/◌, ◌%◌, is_some, if◌then◌else◌, slice_get, slice_index_or}
use Rattle.std.proofs.lemmas.List.FromFn.{get_or-map-range_with_len, length-map-range_with_len}
use Rattle.std.proofs.lemmas.List.{get_or_past}
use Rattle.cookie_copy.specs.Faults.{is_up}
use Rattle.cookie_copy.specs.Identity.{own_entry}
use Rattle.cookie_copy.specs.Reach.{Reach}
use Rattle.ldc_link.specs.declared.phase.Role.{Role}
use Rattle.ldc_link.specs.declared.phase.Role.TheVariants.{Initiator, Responder}
use Rattle.ldc_queue.specs.declared.end.ChannelState.{ChannelState}
use Rattle.ldc_queue.specs.declared.end.ChannelState.TheVariants.{Up}
use Rattle.ldc_queue.specs.declared.end.End.{End}
use Rattle.ldc_queue.specs.declared.end.End.TheVariants.{A, B}
use Rattle.ldc_queue.specs.Transcript.{Utterance}
use Rattle.ldc_queue.specs.Wire.{peer_of, state_of}
use Rattle.vio_handshake.specs.declared.session.Offer.{Offer}
use Rattle.vio_handshake.specs.Pairing.{KnowsBoth, KnowsRing}
use Rattle.vnet_msg.specs.Frames.{IsFrame, memory_pages}
use Rattle.lane_models.specs.OwnMemory.{own_table}
use Rattle.lane_models.specs.Seeing.{Seen}
use Rattle.lane_models.specs.TranscriptLog.{transcript_of}
use Rattle.lane_models.specs.WireAt.{IsUp}
use Rattle.lane_models.specs.WireLog.{WireLog}
use Rattle.lane_models.proofs.EndResting.{held_handshake}
use Rattle.lane_models.specs.LaneCore.{end_of}
use Rattle.lane_models.proofs.Refuting.{false_true, none_some, true_false}
use Rattle.lane_models.proofs.Ruling.{says_of}
use Rattle.lane_models.specs.EndLog.{EndLog, SessionLog, said_in}
use Rattle.lane_models.specs.Fetching.{slots_cookies}
use Rattle.lane_models.specs.FrameLaws.{InSession, IsActive}
use Rattle.lane_models.specs.NetEndPutting.{net_kind}
use Rattle.lane_models.specs.NetEndRule.{Fetches, port_rule}
use Rattle.lane_models.specs.NetEndState.{NetEndState, NetSession}
use Rattle.lane_models.specs.NetEndStep.{Frame, NetAnswer, NetEndStep, NetLeft, Sent, Took}
use Rattle.lane_models.specs.NetEvent.{Steps}
use Rattle.lane_models.specs.NetLaneState.{NetLaneState, NetShape, memory_of, net_end, reach_of, role_at, seen_at}
use Rattle.lane_models.specs.NetLaneStep.{EndSteps, net_wire}
use Rattle.lane_models.specs.Offers.{port_offer, ring_cookie}
use Rattle.lane_models.specs.PortLog.{PortLog, after, after_answer, log_of_end}
use Rattle.lane_models.specs.PortState.{OnLane, PortState}
use Rattle.port_laws.specs.Counted.{EndCounts}
use Rattle.port_laws.specs.NetCore.{lane_core}
use Rattle.port_laws.specs.RingStands.{RingIn, RingStands, taken_by, taken_in, taken_of}
use Rattle.port_laws.proofs.EndCounting.{open_counts, shut_counts}
use Rattle.port_laws.proofs.EndMoves.{held_core}
use Rattle.port_laws.proofs.LogsStand.{LogsStand, TablesStand, held_given}
use Rattle.port_laws.proofs.MemoryRoom.{MemoryHasRoom}
use Rattle.port_laws.proofs.PortCounts.{PortCounts, Ready, queue_of}
use Rattle.port_laws.proofs.PortTwoEnds.{PortTwoEnds, many_open, open_turns, shut_turns}
use Rattle.port_laws.proofs.RemainingEnds.{kind_shut}
use Rattle.port_laws.proofs.RingEvents.{Active, Frames, Goes, SaysOfLog, acts_up, mine_now, own_stands, peer_stands, saying_taken, some_not, spoke_after, theirs_now, turns_at, utterances_now, wire_now}
use Rattle.port_laws.proofs.RingFetches.{Reaches}
use Rattle.port_laws.proofs.RingMoves.{Fits}
use Rattle.port_laws.proofs.RingSteps.{Owns, TakesOf, opens_by}
use Rattle.port_laws.proofs.RuleFrames.{active_here, end_acts, end_counted}
use Rattle.port_laws.proofs.SessionsHeard.{Spoke, SpokeIn, spoke_some}
use Rattle.port_laws.proofs.StepCounts.{Acting, took_here}
use Rattle.port_laws.proofs.TookCounts.{free_empty}
use Rattle.port_laws.proofs.PutCounts.{not_some}

-- THE RINGS, and what the logs say
pub record Rings (s : NetLaneState) (l : PortLog) : Type 0 where
  pub guest_spoke : SpokeIn Initiator l.transcript.a l.guest.session
  pub hub_spoke : SpokeIn Responder l.transcript.b l.hub.session
  pub guest_ring : RingStands A s l
  pub hub_ring : RingStands B s l

pub spoke_of : (e : End) (s : NetLaneState) (l : PortLog) → Rings s l → SpokeIn (role_at e) (transcript_of e l.transcript) (log_of_end e l).session
spoke_of e s l rings = grind arith

pub ring_of_end : (e : End) (s : NetLaneState) (l : PortLog) → Rings s l → RingStands e s l
ring_of_end e s l rings = grind arith

-- the ring of an end's peer, of which that end takes frames
abbrev pub PeerRing : End → NetLaneState → PortLog → Type 0
PeerRing e s l =
    IsUp (peer_of e) s.wire.wire
    → RingIn l.shape.slots (taken_of e s l) (net_end (peer_of e) s).session (net_end (peer_of e) s).frames (memory_of (peer_of e) s)

pub peer_ring_of : (e : End) (s : NetLaneState) (l : PortLog) → Rings s l → PeerRing e s l
peer_ring_of e s l rings = grind arith

together : (e : End) (s : NetLaneState) (l : PortLog) → SpokeIn (role_at e) (transcript_of e l.transcript) (log_of_end e l).session
    → SpokeIn (role_at (peer_of e)) (transcript_of (peer_of e) l.transcript) (log_of_end (peer_of e) l).session → RingStands e s l → PeerRing e s l → Rings s l
together e s l spoke peer_spoke ring peer_ring = grind arith

-- WHAT A STEP LEAVES, field by field
pub record StepNow (e : End) (u t : NetLaneState) (answer : NetAnswer) (left : NetLeft) : Type 0 where
  pub end : net_end e t ≡ left.end
  pub own : memory_of e t ≡ left.own
  pub peer_end : net_end (peer_of e) t ≡ net_end (peer_of e) u
  pub peer_memory : memory_of (peer_of e) t ≡ left.peer
  pub wire : t.wire ≡ net_wire (Steps e answer) u
  pub reaches : (reach_of e u).memory ≡ memory_of (peer_of e) u

pub step_now : (e : End) (u t : NetLaneState) (answer : NetAnswer) → (step : EndSteps e u answer t) → StepNow e u t answer step.left
step_now e u t answer step = grind arith

pub record LogNow (e : End) (l : PortLog) (answer : NetAnswer) : Type 0 where
  pub mine : log_of_end e (after l (OnLane (Steps e answer))) ≡ after_answer l.shape.slots (transcript_of e l.transcript) answer (log_of_end e l)
  pub theirs : log_of_end (peer_of e) (after l (OnLane (Steps e answer))) ≡ log_of_end (peer_of e) l

pub log_now : (e : End) (l : PortLog) (answer : NetAnswer) → LogNow e l answer
log_now e l answer = grind arith

-- AN OPEN SESSION of the end is one of its log
pub record OpenBoth (s : NetEndState) (l : EndLog) : Type 0 where
  pub shut : l.session ≡ None → is_some s.session ≡ false
  pub opened : l.session ≢ None → is_some s.session ≡ true
  pub none : s.session ≡ None → l.session ≡ None

pub open_both : (role : Role) (slots : ℕ) (queue : List (List ℕ)) (s : NetEndState) (l : EndLog) → EndCounts role slots queue s l → OpenBoth s l
open_both role slots queue s l counts = grind (arith, shut_counts, open_counts, none_some)

-- NO SESSION OPENS where one is open
step_shut : (role : Role) (slots : ℕ) (queue : List (List ℕ)) (s : NetEndState) (l : EndLog) (turns : List Utterance) (at : Seen) (memory : List ℕ) (reach : Reach) (answer : NetAnswer) (left : NetLeft)
    → Acting role slots queue s l turns → NetEndStep role s at memory reach answer left → opens_by answer ≡ true → s.session ≡ None
step_shut role slots queue s l turns at memory reach (Took packet opens) left acting step opened = by_session s.session refl
  where
    by_session : (session : Option NetSession) → s.session ≡ session → s.session ≡ None
    by_session None is = is
    by_session (Some p) is =
        true_false (sym opened ∙ (took_here role slots queue s l turns at memory reach packet opens left 0 acting step).shut p is)
step_shut role slots queue s l turns at memory reach (Sent packet opens) left acting step opened =
    let core = held_core role s at reach (port_rule role s at) step.held acting.fits refl step.holds in
    let kind = kind_shut (net_kind step.held) step.held.handshake (sym step.opens_is ∙ opened) in
    grind (arith, step.held, core, kind, not_some, held_handshake)
step_shut role slots queue s l turns at memory reach _ left acting step opened = false_true opened

-- A FRAME IS TAKEN in an open session, in which a message of it was heard
pub record Busy (answer : NetAnswer) (log : Option SessionLog) : Type 0 where
  pub busy : Frames answer log
  pub active : Active answer log

frame_busy : (frame : List ℕ) (log : Option SessionLog) → InSession log IsActive → Busy (Frame frame) log
frame_busy frame log is = grind (arith, some_not)

pub step_busy : (role : Role) (slots : ℕ) (queue : List (List ℕ)) (s : NetEndState) (l : EndLog) (turns : List Utterance) (at : Seen) (memory : List ℕ) (reach : Reach) (answer : NetAnswer) (left : NetLeft)
    → (is_up at.state ≡ true → Acting role slots queue s l turns) → NetEndStep role s at memory reach answer left → Busy answer l.session
step_busy role slots queue s l turns at memory reach (Frame frame) left acts step =
    let says = says_of role s at (Fetches step.session step.activity) step.rule in
    grind (arith, frame_busy, active_here, free_empty)
step_busy role slots queue s l turns at memory reach _ left acts step = record { busy = tt; active = tt }

-- AN END THAT ISN'T IN SESSION has a peer that took nothing
none_asked : (role : Role) (turns : List Utterance) (v : SessionLog) (n : ℕ) → v.taken ≡ n → Spoke role turns v → (1 ≤ v.asked → ⊥) → n ≡ 0
none_asked role turns v n is spoke never = grind arith

none_taken : (role : Role) (turns : List Utterance) (x : ChannelState) (log : Option SessionLog) → SpokeIn role turns log → (x ≡ Up → (v : SessionLog) → log ≡ Some v → 1 ≤ v.asked → ⊥) → taken_by x log ≡ 0
none_taken role turns x log spoke never = grind (arith, none_asked)

pub shut_peer : (shape : NetShape) (e : End) (u : NetLaneState) (l : PortLog) → PortTwoEnds shape (lane_core u) l → Rings u l → (net_end e u).session ≡ None
    → taken_by (state_of (peer_of e) u.wire.wire) (log_of_end (peer_of e) l).session ≡ 0
shut_peer shape A u l two_ends rings none =
    none_taken Responder l.transcript.b u.wire.wire.end_b l.hub.session rings.hub_spoke
    (λ up v is asked.
    let there = many_open shape (lane_core u) l B two_ends up ((spoke_some Responder l.transcript.b l.hub.session v is rings.hub_spoke).many asked) in
    true_false (sym there.opened ∙ ap is_some none))
shut_peer shape B u l two_ends rings none =
    none_taken Initiator l.transcript.a u.wire.wire.end_a l.guest.session rings.guest_spoke
    (λ up v is asked.
    let there = many_open shape (lane_core u) l A two_ends up ((spoke_some Initiator l.transcript.a l.guest.session v is rings.guest_spoke).many asked) in
    true_false (sym there.opened ∙ ap is_some none))

-- AN END REACHES ITS PEER'S RING where both are in session
table_within : (pages index : ℕ) → index + 1 ≤ pages → slice_index_or (own_table pages) index None ≡ Some (own_entry index)
table_within pages index below = grind (arith, get_or-map-range_with_len)

table_past : (pages index : ℕ) → pages ≤ index → slice_index_or (own_table pages) index None ≡ None
table_past pages index past = grind (arith, get_or_past, length-map-range_with_len)

few_buffers : (b : Bool) (slots : ℕ) → slots ≤ 64 → 1 + (if b then slots / 4 else 1) ≤ 1028
few_buffers b slots few = grind arith

known_cookies : (f : NetEndState) (offer : Offer) (role : Role) (address : List ℕ) (slots : ℕ) → f.handshake.draft.peer_count ≡ offer.count → f.handshake.draft.peer_cookies ≡ offer.cookies
    → offer ≡ port_offer role address slots → slots_cookies f ≡ ring_cookie slots ∷ []
known_cookies f offer role address slots count cookies is = grind arith

-- both ends in session
pub record InOne (shape : NetShape) (u : NetLaneState) : Type 0 where
  pub guest_cookies : slots_cookies u.guest ≡ ring_cookie shape.slots ∷ []
  pub hub_cookies : slots_cookies u.hub ≡ ring_cookie shape.slots ∷ []

in_one : (shape : NetShape) (u : NetLaneState) (l : PortLog) (queue : List (List ℕ)) → PortTwoEnds shape (lane_core u) l → EndCounts Initiator shape.slots [] u.guest l.guest
    → EndCounts Responder shape.slots queue u.hub l.hub → is_some u.guest.session ≡ true → is_some u.hub.session ≡ true → InOne shape u
in_one shape u l queue two_ends guest hub guest_open hub_open =
    let one = two_ends.one guest_open hub_open in
    let guest_two_ends = two_ends.two_ends A in
    let guest_offer = guest_two_ends.mine.handshake.offer_is in
    let both : u.guest.handshake.offer.both_rings ≡ true = ap (λ (o : Offer). o.both_rings) guest_offer in
    let ring : KnowsRing u.hub.handshake.draft u.guest.handshake.draft u.guest.handshake.offer = one.ring in
    let peer_ring : KnowsRing u.guest.handshake.draft u.hub.handshake.draft u.hub.handshake.offer =
    subst (λ (b : Bool). KnowsBoth b u.guest.handshake.draft u.hub.handshake.draft u.hub.handshake.offer) both one.peer_ring in
    record {
      guest_cookies = known_cookies u.guest u.hub.handshake.offer Responder u.hub.address shape.slots peer_ring.count peer_ring.cookies
          (guest_two_ends.theirs.handshake.offer_is ∙ ap (port_offer Responder u.hub.address) hub.slots_is);
      hub_cookies = known_cookies u.hub u.guest.handshake.offer Initiator u.guest.address shape.slots ring.count ring.cookies
          (guest_offer ∙ ap (port_offer Initiator u.guest.address) guest.slots_is);
    }

-- what an end that acts finds
pub record Finds (shape : NetShape) (u : PortState) (l : PortLog) : Type 0 where
  pub ready : Ready shape u l
  pub room : MemoryHasRoom shape.slots u.lane
  pub logs : LogsStand l
  pub tables : TablesStand shape u.lane
  pub two_ends : PortTwoEnds shape (lane_core u.lane) l
  pub rings : Rings u.lane l

pub left_taken : (left : Option (List ℕ)) (v : SessionLog) → (said_in left v).taken ≡ v.taken
left_taken left v = grind (arith, saying_taken)

pub place_is : (role : Role) (slots : ℕ) (queue : List (List ℕ)) (s : NetEndState) (l : EndLog) (q : NetSession) → EndCounts role slots queue s l → s.session ≡ Some q
    → q.place ≡ taken_in l.session % slots
place_is role slots queue s l q counts is = grind (arith, open_counts, left_taken)

pub end_room : (shape : NetShape) (e : End) (u : PortState) (l : PortLog) → Finds shape u l → Fits shape.slots (memory_of e u.lane)
end_room shape e u l finds = grind arith

pub end_reaches : (shape : NetShape) (e : End) (u : PortState) (l : PortLog) → Finds shape u l → is_some (net_end e u.lane).session ≡ true → is_some (net_end (peer_of e) u.lane).session ≡ true
    → Reaches (net_end e u.lane) (reach_of e u.lane) shape.slots (memory_pages shape.slots)
end_reaches shape e u l finds mine theirs = grind (arith, few_buffers, table_within, table_past, in_one, end_room)

takes_of : (shape : NetShape) (e : End) (u : PortState) (l : PortLog) (answer : NetAnswer) (left : NetLeft) (session : Option NetSession) → Finds shape u l → (net_end (peer_of e) u.lane).session ≡ session
    → NetEndStep (role_at e) (net_end e u.lane) (seen_at e u.lane) (memory_of e u.lane) (reach_of e u.lane) answer left
    → TakesOf answer (net_end e u.lane) (reach_of e u.lane) shape.slots (memory_pages shape.slots) (taken_in (log_of_end e l).session) session
takes_of shape e u l (Frame frame) left (Some p) finds is step =
    let says = says_of (role_at e) (net_end e u.lane) (seen_at e u.lane) (Fetches step.session step.activity) step.rule in (
      end_reaches shape e u l finds (ap is_some says.0.session) (ap is_some is),
      λ q of_end. place_is (role_at e) shape.slots (queue_of e u) (net_end e u.lane) (log_of_end e l) q (end_counted shape e u l finds.ready) of_end,
    )
takes_of shape e u l _ left _ finds is step = tt

end_frames : (shape : NetShape) (e : End) (u : PortState) (l : PortLog) → Finds shape u l → (n : ℕ) (frame : List ℕ) → slice_get (net_end e u.lane).frames n ≡ Some frame → IsFrame frame
end_frames shape A u l finds n frame get =
    finds.logs.guest.given (l.guest.gone + n) frame (held_given u.lane.guest.frames [] l.guest.given l.guest.gone n frame finds.ready.guest.frames get)
end_frames shape B u l finds n frame get =
    finds.logs.hub.given (l.hub.gone + n) frame (held_given u.lane.hub.frames u.queue l.hub.given l.hub.gone n frame finds.ready.hub.frames get)

-- the end's own state, and that of what its channel sees
pub core_open : (e : End) (u : NetLaneState) (b : Bool) → is_some (net_end e u).session ≡ b → (end_of e (lane_core u)).is_open ≡ b
core_open e u b is = grind arith

pub reach_memory : (e : End) (u : NetLaneState) → (reach_of e u).memory ≡ memory_of (peer_of e) u
reach_memory e u = grind arith

pub seen_state : (e : End) (u : NetLaneState) → (seen_at e u).state ≡ state_of e u.wire.wire
seen_state e u = grind arith

-- A STEP of an end
pub record Acts (shape : NetShape) (e : End) (u t : PortState) (l : PortLog) (answer : NetAnswer) (left : NetLeft) : Type 0 where
  pub finds : Finds shape u l
  pub step : NetEndStep (role_at e) (net_end e u.lane) (seen_at e u.lane) (memory_of e u.lane) (reach_of e u.lane) answer left
  pub now : StepNow e u.lane t.lane answer left
  pub counts : PortCounts shape t (after l (OnLane (Steps e answer)))
  pub two_ends : PortTwoEnds shape (lane_core t.lane) (after l (OnLane (Steps e answer)))

pub acting_at : (shape : NetShape) (e : End) (u : PortState) (l : PortLog) → Finds shape u l → state_of e u.lane.wire.wire ≡ Up
    → Acting (role_at e) shape.slots (queue_of e u) (net_end e u.lane) (log_of_end e l) (transcript_of e l.transcript)
acting_at shape e u l finds up = end_acts shape e u l finds.ready (ap is_up (seen_state e u.lane ∙ up))

owns_at : (shape : NetShape) (e : End) (u : PortState) (l : PortLog) → Finds shape u l → state_of e u.lane.wire.wire ≡ Up
    → Owns (role_at e) (net_end e u.lane) (transcript_of e l.transcript) (memory_of e u.lane)
owns_at shape e u l finds up = grind (arith, acting_at shape e u l finds up, end_room, end_frames)

-- no session of it opens where one is open
pub acts_shut : (shape : NetShape) (e : End) (u t : PortState) (l : PortLog) (answer : NetAnswer) (left : NetLeft) → Acts shape e u t l answer left → opens_by answer ≡ true
    → (net_end e u.lane).session ≡ None
acts_shut shape e u t l answer left acts opened =
    let opening_same : (answer : NetAnswer) (x : ChannelState) → opens_by answer ≡ true → mine_now answer x ≡ x = λ answer x opened.
    grind (arith, false_true) in
    step_shut (role_at e) shape.slots (queue_of e u) (net_end e u.lane) (log_of_end e l) (transcript_of e l.transcript) (seen_at e u.lane) (memory_of e u.lane) (reach_of e u.lane) answer left
    (acting_at shape e u l acts.finds
    (acts_up (role_at e) (net_end e u.lane) (seen_at e u.lane) (memory_of e u.lane) (reach_of e u.lane) answer left acts.step (state_of e u.lane.wire.wire) (seen_state e u.lane)
    (opening_same answer (state_of e u.lane.wire.wire) opened)))
    acts.step opened

pub goes_same : (answer : NetAnswer) (x : ChannelState) → Goes answer → mine_now answer x ≡ x
goes_same answer x goes = grind arith

pub acts_up_at : (shape : NetShape) (e : End) (u t : PortState) (l : PortLog) (answer : NetAnswer) (left : NetLeft) → Acts shape e u t l answer left → Goes answer → state_of e u.lane.wire.wire ≡ Up
acts_up_at shape e u t l answer left acts goes =
    acts_up (role_at e) (net_end e u.lane) (seen_at e u.lane) (memory_of e u.lane) (reach_of e u.lane) answer left acts.step (state_of e u.lane.wire.wire) (seen_state e u.lane)
    (goes_same answer (state_of e u.lane.wire.wire) goes)

-- WHAT ITS LOG SAYS
pub turned_at : (shape : NetShape) (e : End) (u t : PortState) (l : PortLog) (answer : NetAnswer) (left : NetLeft) → Acts shape e u t l answer left → Goes answer
    → SaysOfLog (role_at e) (transcript_of e l.transcript) (utterances_now answer (transcript_of e l.transcript)) (log_of_end e l).session
    (after_answer l.shape.slots (transcript_of e l.transcript) answer (log_of_end e l)).session
turned_at shape e u t l answer left acts goes =
    let core_up : (e : End) (s : NetLaneState) → state_of e s.wire.wire ≡ Up → IsUp e (lane_core s).wire.wire = λ e s up.
    grind arith in
    let up : state_of e u.lane.wire.wire ≡ Up = acts_up_at shape e u t l answer left acts goes in
    let before = open_both (role_at e) shape.slots (queue_of e u) (net_end e u.lane) (log_of_end e l) (end_counted shape e u l acts.finds.ready) in
    let then_ = after l (OnLane (Steps e answer)) in
    let up_now : state_of e t.lane.wire.wire ≡ Up =
    ap (λ (w : WireLog). state_of e w.wire) acts.now.wire ∙ (wire_now e u.lane answer).mine ∙ goes_same answer (state_of e u.lane.wire.wire) goes ∙ up in
    let turns : transcript_of e then_.transcript ≡ utterances_now answer (transcript_of e l.transcript) = (turns_at e l.transcript answer).mine in
    record {
      few = λ none. shut_turns shape (lane_core u.lane) l e acts.finds.two_ends (core_up e u.lane up) (core_open e u.lane false (before.shut none));
      six = λ some. (open_turns shape (lane_core u.lane) l e acts.finds.two_ends (core_up e u.lane up) (core_open e u.lane true (before.opened some))).heard_long;
      many = λ some. grind (arith, open_turns, core_open, log_now);
    }

acts_spoke : (shape : NetShape) (e : End) (u t : PortState) (l : PortLog) (answer : NetAnswer) (left : NetLeft) → Acts shape e u t l answer left
    → SpokeIn (role_at e) (transcript_of e (after l (OnLane (Steps e answer))).transcript) (log_of_end e (after l (OnLane (Steps e answer)))).session
acts_spoke shape e u t l answer left acts =
    let before = open_both (role_at e) shape.slots (queue_of e u) (net_end e u.lane) (log_of_end e l) (end_counted shape e u l acts.finds.ready) in
    let busy = step_busy (role_at e) shape.slots (queue_of e u) (net_end e u.lane) (log_of_end e l) (transcript_of e l.transcript) (seen_at e u.lane) (memory_of e u.lane) (reach_of e u.lane) answer left
    (λ up. end_acts shape e u l acts.finds.ready up) acts.step in
    rw ((turns_at e _ _).mine, (log_now e l _).mine) (spoke_after _ _ _ _ _
    (λ opened. before.none (acts_shut _ e u t l _ _ acts opened)) busy.active (turned_at shape e u t l answer left acts)
    (spoke_of e _ l acts.finds.rings))

peer_spoke : (shape : NetShape) (e : End) (u t : PortState) (l : PortLog) (answer : NetAnswer) (left : NetLeft) → Acts shape e u t l answer left
    → SpokeIn (role_at (peer_of e)) (transcript_of (peer_of e) (after l (OnLane (Steps e answer))).transcript) (log_of_end (peer_of e) (after l (OnLane (Steps e answer)))).session
peer_spoke shape e u t l answer left acts =
    rw ((turns_at e _ _).theirs, (log_now e l _).theirs) (spoke_of _ _ l acts.finds.rings)

-- ITS RING, and its peer's
acts_ring : (shape : NetShape) (e : End) (u t : PortState) (l : PortLog) (answer : NetAnswer) (left : NetLeft) → Acts shape e u t l answer left
    → RingStands e t.lane (after l (OnLane (Steps e answer)))
acts_ring shape e u t l answer left acts up =
    let x : ChannelState = state_of e u.lane.wire.wire in
    let y : ChannelState = state_of (peer_of e) u.lane.wire.wire in
    let log : Option SessionLog = (log_of_end (peer_of e) l).session in
    let wire = wire_now e u.lane answer in
    let mine : mine_now answer x ≡ Up = sym (ap (λ (w : WireLog). state_of e w.wire) acts.now.wire ∙ wire.mine) ∙ up in
    let slots : (net_end e u.lane).slots ≡ l.shape.slots = (end_counted shape e u l acts.finds.ready).slots_is ∙ sym (ap (λ (z : NetShape). z.slots) acts.finds.ready.shape_is) in
    let there : RingIn l.shape.slots (taken_by (theirs_now answer x y) log) left.end.session left.end.frames left.own =
    own_stands (role_at e) l.shape.slots x y log (net_end e u.lane) (transcript_of e l.transcript) (seen_at e u.lane) (memory_of e u.lane) (reach_of e u.lane) answer left
    (owns_at shape e u l acts.finds) slots
    (λ opened here. shut_peer shape e u.lane l acts.finds.two_ends acts.finds.rings (acts_shut shape e u t l answer left acts opened)) acts.step
    (ring_of_end e u.lane l acts.finds.rings) mine in
    grind (arith, log_now)

acts_peer_ring : (shape : NetShape) (e : End) (u t : PortState) (l : PortLog) (answer : NetAnswer) (left : NetLeft) → Acts shape e u t l answer left
    → PeerRing e t.lane (after l (OnLane (Steps e answer)))
acts_peer_ring shape e u t l answer left acts up =
    let x : ChannelState = state_of e u.lane.wire.wire in
    let y : ChannelState = state_of (peer_of e) u.lane.wire.wire in
    let log : EndLog = log_of_end e l in
    let turns : List Utterance = transcript_of e l.transcript in
    let wire = wire_now e u.lane answer in
    let mine : state_of e t.lane.wire.wire ≡ mine_now answer x = ap (λ (w : WireLog). state_of e w.wire) acts.now.wire ∙ wire.mine in
    let theirs : theirs_now answer x y ≡ Up = sym (ap (λ (w : WireLog). state_of (peer_of e) w.wire) acts.now.wire ∙ wire.theirs) ∙ up in
    let before = open_both (role_at e) shape.slots (queue_of e u) (net_end e u.lane) log (end_counted shape e u l acts.finds.ready) in
    let busy = step_busy (role_at e) shape.slots (queue_of e u) (net_end e u.lane) log turns (seen_at e u.lane) (memory_of e u.lane) (reach_of e u.lane) answer left
    (λ is. end_acts shape e u l acts.finds.ready is) acts.step in
    let shape_slots : shape.slots ≡ l.shape.slots = sym (ap (λ (z : NetShape). z.slots) acts.finds.ready.shape_is) in
    let some_slots = acts.finds.ready.sound.some_slots in
    let session : Option NetSession = (net_end (peer_of e) u.lane).session in
    let frames : List (List ℕ) = (net_end (peer_of e) u.lane).frames in
    let held : y ≡ Up → RingIn l.shape.slots (taken_by x log.session) session frames (reach_of e u.lane).memory =
    λ here. subst (RingIn l.shape.slots (taken_by x log.session) session frames) (sym acts.now.reaches) (peer_ring_of e u.lane l acts.finds.rings here) in
    let there : RingIn l.shape.slots (taken_by (mine_now answer x) (after_answer l.shape.slots turns answer log).session) session frames left.peer =
    peer_stands (role_at e) l.shape.slots (memory_pages shape.slots) x y log.session turns log session frames (net_end e u.lane) (seen_at e u.lane) (memory_of e u.lane) (reach_of e u.lane) answer left
    (seen_state e u.lane) refl (omega (arith, some_slots, shape_slots)) (λ opened. before.none (acts_shut shape e u t l answer left acts opened)) busy.busy
    (λ here other. subst (λ (n : ℕ). TakesOf answer (net_end e u.lane) (reach_of e u.lane) n (memory_pages shape.slots) (taken_in log.session) session) shape_slots
    (takes_of shape e u l answer left session acts.finds refl acts.step))
    acts.step held theirs in
    rw (mine, (log_now e l answer).mine, acts.now.peer_end) (subst
    (RingIn l.shape.slots (taken_by (mine_now answer x) (after_answer l.shape.slots turns answer log).session) session frames)
    (sym acts.now.peer_memory) there)

pub steps_rings : (shape : NetShape) (e : End) (u t : PortState) (l : PortLog) (answer : NetAnswer) → Finds shape u l → EndSteps e u.lane answer t.lane
    → PortCounts shape t (after l (OnLane (Steps e answer))) → PortTwoEnds shape (lane_core t.lane) (after l (OnLane (Steps e answer))) → Rings t.lane (after l (OnLane (Steps e answer)))
steps_rings shape e u t l answer finds step counts two_ends =
    let acts : Acts shape e u t l answer step.left = record { finds = finds; step = step.step; now = step_now e u.lane t.lane answer step; counts = counts; two_ends = two_ends } in
    together e t.lane (after l (OnLane (Steps e answer))) (acts_spoke shape e u t l answer step.left acts) (peer_spoke shape e u t l answer step.left acts)
    (acts_ring shape e u t l answer step.left acts) (acts_peer_ring shape e u t l answer step.left acts)
