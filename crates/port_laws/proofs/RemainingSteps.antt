-- What remains on a port falls by each step of an end that takes nothing, and a calm one doesn't raise it.
use Rattle.std.proofs.Common.{◌≡◌, ◌≢◌, ℕ, ◌+◌, ◌-◌, ◌*◌, ◌<◌, ◌≤◌, Bool, true, false, None, List, [], ◌∷◌, ◌++◌, length, refl, sym, subst, ap, ◌∙◌, arith, length-append, length-drop}
use Rattle.cookie_copy.specs.Faults.{is_up}
use Rattle.ldc_link.specs.declared.phase.Role.{Role}
use Rattle.ldc_link.specs.declared.phase.Role.TheVariants.{Initiator, Responder}
use Rattle.ldc_link.specs.LinkState.{first_phase}
use Rattle.ldc_queue.specs.declared.end.ChannelState.{ChannelState}
use Rattle.ldc_queue.specs.declared.end.ChannelState.TheVariants.{Up}
use Rattle.ldc_queue.specs.declared.end.End.{End}
use Rattle.ldc_queue.specs.declared.end.End.TheVariants.{A, B}
use Rattle.ldc_queue.specs.Transcript.{Utterance}
use Rattle.ldc_queue.specs.Wire.{peer_behind, peer_of, queue_behind, state_of}
use Rattle.runs.specs.Lawful.{log_of}
use Rattle.runs.specs.Run.{Run}
use Rattle.lane_models.specs.Seeing.{Seen}
use Rattle.lane_models.specs.TranscriptLog.{transcript_of}
use Rattle.lane_models.specs.WireAt.{IsUp}
use Rattle.lane_models.specs.WireEvent.{WireEvent}
use Rattle.lane_models.specs.WireEvent as on_channel
use Rattle.lane_models.specs.WireLog.{lossy_behind, wire_moved}
use Rattle.lane_models.specs.PacketsLeft.{all_of, left_in}
use Rattle.lane_models.specs.Standing.{EndStands}
use Rattle.lane_models.proofs.FramesKept.{held_in}
use Rattle.lane_models.proofs.Ruling.{says_of}
use Rattle.lane_models.specs.FramesStand.{FramesStand}
use Rattle.lane_models.specs.NetEndRule.{Joins, Publishes, port_rule}
use Rattle.lane_models.specs.NetEndState.{NetEndState, joined_net_end, unseen, with_frame}
use Rattle.lane_models.specs.NetEndStep.{Blocked, Joined, NetAnswer, NetLeft, Published, Sent, leaves}
use Rattle.lane_models.specs.NetEvent.{NetEvent, Steps}
use Rattle.lane_models.specs.NetLaneState.{IsNetShape, NetLaneState, NetShape, memory_of, net_end, reach_of, role_at, seen_at, with_left}
use Rattle.lane_models.specs.NetLaneStep.{EndSteps, net_wire}
use Rattle.lane_models.specs.PortLog.{PortLog, after, log_of_end, no_events}
use Rattle.lane_models.specs.PortState.{OnLane, PortEvent, PortState, PortStep, before, fresh_port, moves_first}
use Rattle.port_laws.specs.NetCore.{is_begun, net_core_at}
use Rattle.port_laws.specs.Remaining.{absent, end_left, first_left, put_weight, remaining, remaining_of, second_life, session_left}
use Rattle.port_laws.specs.RemainingSteps.{IsCalm, TakesNothing}
use Rattle.port_laws.proofs.MemoryLong.{room_behind}
use Rattle.port_laws.proofs.MemoryRoom.{MemoryHasRoom, before_room}
use Rattle.port_laws.proofs.PortCounts.{Ready, port_counts, queue_of, ready_before}
use Rattle.port_laws.proofs.RemainingEnds.{Lowers, blocks_lower, publishes_lower, sends_lower, up_left}
use Rattle.port_laws.proofs.RuleFrames.{end_acts}
use Rattle.port_laws.proofs.LaneMoves.{holds_up, up_of, not_up}
use Rattle.port_laws.proofs.RingActs.{reach_memory}

-- THE FRAME THAT MOVES from the queue counts as before
moved_end : (x : ChannelState) (memory : List ℕ) (s : NetEndState) (frame : List ℕ) (more queued : ℕ) → length (s.frames ++ frame ∷ []) + more ≡ length s.frames + queued
    → end_left x Responder more memory (with_frame frame s) ≡ end_left x Responder queued memory s
moved_end x memory s frame more queued same = grind arith

moves_same : (b : Bool) (queue : List (List ℕ)) (s : PortState) → s.queue ≡ queue → remaining (moves_first b queue s) ≡ remaining s
moves_same b queue s is = grind (arith, moved_end, length-append)

pub steps_before : (e : End) (answer : NetAnswer) (s : PortState) → remaining (before (Steps e answer) s) ≡ remaining s
steps_before e answer s = grind (arith, moves_same)

-- ONE END goes on, and the other stays: so many frames come behind those of the switch's end
abbrev pub more_at : End → ℕ → ℕ
more_at A queued = 0
more_at B queued = queued

abbrev pub left_at : End → ℕ → List ℕ → NetEndState → NetLaneState → ℕ
left_at e queued memory s u = end_left (state_of e u.wire.wire) (role_at e) (more_at e queued) memory s

end_falls : (x : ChannelState) (role : Role) (by more : ℕ) (memory : List ℕ) (s : NetEndState) (left : NetLeft) → x ≡ Up → Lowers role by memory s left
    → end_left x role more left.own left.end + by ≤ end_left x role more memory s
end_falls x role by more memory s left up lower = grind arith

pub end_goes : (e : End) (u : NetLaneState) (queued by : ℕ) (left : NetLeft) → left.peer ≡ memory_of (peer_of e) u
    → left_at e queued left.own left.end u + by ≤ left_at e queued (memory_of e u) (net_end e u) u → remaining_of (with_left e left u) queued + by ≤ remaining_of u queued
end_goes e u queued by left peer falls = grind arith

goes : (e : End) (u : NetLaneState) (queued by : ℕ) (left : NetLeft) → IsUp e u.wire.wire → left.peer ≡ memory_of (peer_of e) u → Lowers (role_at e) by (memory_of e u) (net_end e u) left
    → remaining_of (with_left e left u) queued + by ≤ remaining_of u queued
goes e u queued by left up peer lower =
    end_goes e u queued by left peer (end_falls (state_of e u.wire.wire) (role_at e) by (more_at e queued) (memory_of e u) (net_end e u) left up lower)

-- one packet more waits, which counts less than it did at its end
with_put : (e : End) (u : NetLaneState) (left : NetLeft) (packet : List ℕ) (opens : Bool) (queued : ℕ) → remaining_of (with_left e left u) queued + put_weight (role_at e) ≤ remaining_of u queued
    → remaining_of (record (with_left e left u) { wire = net_wire (Steps e (Sent packet opens)) u }) queued + 1 ≤ remaining_of u queued
with_put e u left packet opens queued less = grind (arith, length-append)

-- AN END JOINS: it counts as one that begins
first_sum : (role : Role) (slots n held packets : ℕ) (memory : List ℕ) → packets ≡ left_in (first_phase role) (all_of true role) n
    → put_weight role * packets + session_left role slots held memory None ≡ first_left role held
first_sum role slots n held packets memory is = grind arith

pub joined_left : (role : Role) (begun : Bool) (s : NetEndState) (turns : List Utterance) (memory : List ℕ) (more : ℕ) → EndStands role (net_core_at role begun s) turns → FramesStand s
    → up_left role more memory (joined_net_end role s) ≡ first_left role (length s.frames + more - unseen s.session)
joined_left role begun s turns memory more stands frames = grind (arith, held_in, first_sum, length-drop)

abbrev pub joined_a : ChannelState → NetEndState → NetLaneState → NetLaneState
joined_a x g u = record u {
  guest = g;
  wire = record u.wire {
    wire = record { end_a = Up; end_b = peer_behind x u.wire.wire.end_b; to_a = queue_behind x u.wire.wire.to_a; to_b = queue_behind x u.wire.wire.to_b };
    lossy = lossy_behind x u.wire.lossy;
  };
}

abbrev pub joined_b : ChannelState → NetEndState → NetLaneState → NetLaneState
joined_b x h u = record u {
  hub = h;
  wire = record u.wire {
    wire = record { end_a = peer_behind x u.wire.wire.end_a; end_b = Up; to_a = queue_behind x u.wire.wire.to_a; to_b = queue_behind x u.wire.wire.to_b };
    lossy = lossy_behind x u.wire.lossy;
  };
}

abbrev pub joined_at : End → NetLaneState → NetLaneState
joined_at A u = joined_a u.wire.wire.end_a (joined_net_end Initiator u.guest) u
joined_at B u = joined_b u.wire.wire.end_b (joined_net_end Responder u.hub) u

abbrev wire_joined : End → WireEvent
wire_joined e = on_channel.Joined e 0

joined_is : (e : End) (u t : NetLaneState) (left : NetLeft) → t ≡ record (with_left e left u) { wire = wire_moved u.wire (wire_joined e) }
    → left ≡ leaves (joined_net_end (role_at e) (net_end e u)) (memory_of e u) (reach_of e u) → t ≡ joined_at e u
joined_is e u t left is to = grind arith

-- what remains, with another state of the guest's end, and of the hub's
joins_a : (x : ChannelState) (g : NetEndState) (u : NetLaneState) (queued : ℕ) → x ≢ Up → up_left Initiator 0 u.guest_memory g ≡ first_left Initiator (length u.guest.frames + 0 - unseen u.guest.session)
    → remaining_of (joined_a x g u) queued + 1 ≤ absent x + absent u.wire.wire.end_b + length u.wire.wire.to_a + 3 * length u.wire.wire.to_b
    + end_left x Initiator 0 u.guest_memory u.guest + end_left u.wire.wire.end_b Responder queued u.hub_memory u.hub + second_life u.wire.lossy
joins_a x g u queued away first = grind arith

joins_b : (x : ChannelState) (h : NetEndState) (u : NetLaneState) (queued : ℕ) → x ≢ Up → up_left Responder queued u.hub_memory h ≡ first_left Responder (length u.hub.frames + queued - unseen u.hub.session)
    → remaining_of (joined_b x h u) queued + 1 ≤ absent u.wire.wire.end_a + absent x + length u.wire.wire.to_a + 3 * length u.wire.wire.to_b
    + end_left u.wire.wire.end_a Initiator 0 u.guest_memory u.guest + end_left x Responder queued u.hub_memory u.hub + second_life u.wire.lossy
joins_b x h u queued away first = grind arith

pub begun_left : (e : End) (shape : NetShape) (u : PortState) (l : PortLog) → Ready shape u l → up_left (role_at e) (more_at e (length u.queue)) (memory_of e u.lane) (joined_net_end (role_at e) (net_end e u.lane))
    ≡ first_left (role_at e) (length (net_end e u.lane).frames + more_at e (length u.queue) - unseen (net_end e u.lane).session)
begun_left A shape u l ready =
    joined_left Initiator (is_begun u.lane.wire.wire.end_a) u.lane.guest l.transcript.a u.lane.guest_memory 0 ready.keeps.a.stands ready.stands.0
begun_left B shape u l ready =
    joined_left Responder (is_begun u.lane.wire.wire.end_b) u.lane.hub l.transcript.b u.lane.hub_memory (length u.queue) ready.keeps.b.stands ready.stands.1

pub away_falls : (e : End) (shape : NetShape) (u : PortState) (l : PortLog) → Ready shape u l → state_of e u.lane.wire.wire ≢ Up
    → remaining_of (joined_at e u.lane) (length u.queue) + 1 ≤ remaining_of u.lane (length u.queue)
away_falls A shape u l ready away = joins_a u.lane.wire.wire.end_a (joined_net_end Initiator u.lane.guest) u.lane (length u.queue) away (begun_left A shape u l ready)
away_falls B shape u l ready away = joins_b u.lane.wire.wire.end_b (joined_net_end Responder u.lane.hub) u.lane (length u.queue) away (begun_left B shape u l ready)

-- A STEP, by its answer
pub room_at : (e : End) (slots : ℕ) (u : NetLaneState) → MemoryHasRoom slots u → 8192 + 2048 * slots ≤ length (memory_of e u)
room_at e slots u room = grind arith

pub seen_up : (e : End) (u : NetLaneState) → is_up (seen_at e u).state ≡ true → IsUp e u.wire.wire
seen_up e u up = grind (arith, up_of)

not_seen : (e : End) (u : NetLaneState) → is_up (seen_at e u).state ≡ false → state_of e u.wire.wire ≢ Up
not_seen e u away = grind (arith, not_up)

-- what remains with the wire as it was
on_wire : (e : End) (left : NetLeft) (u : NetLaneState) (queued : ℕ) → remaining_of (record (with_left e left u) { wire = u.wire }) queued ≡ remaining_of (with_left e left u) queued
on_wire A left u queued = refl
on_wire B left u queued = refl

lane_falls : (shape : NetShape) (u : PortState) (l : PortLog) (e : End) (answer : NetAnswer) (t : NetLaneState) → Ready shape u l → MemoryHasRoom shape.slots u.lane → EndSteps e u.lane answer t
    → TakesNothing answer → remaining_of t (length u.queue) + 1 ≤ remaining_of u.lane (length u.queue)
lane_falls shape u l e (Joined lost) t ready room step takes =
    let away = not_seen e u.lane (says_of (role_at e) (net_end e u.lane) (seen_at e u.lane) Joins step.step.0) in
    let is : t ≡ joined_at e u.lane = joined_is e u.lane t step.left step.is step.step.2 in
    subst (λ (x : NetLaneState). remaining_of x (length u.queue) + 1 ≤ remaining_of u.lane (length u.queue)) (sym is) (away_falls e shape u l ready away)
lane_falls shape u l e (Sent packet opens) t ready room step takes =
    let s : NetEndState = net_end e u.lane in
    let at : Seen = seen_at e u.lane in
    let up = holds_up (role_at e) s at (reach_of e u.lane) (port_rule (role_at e) s at) step.step.held refl step.step.holds in
    let lower = sends_lower (role_at e) shape.slots (queue_of e u) s (log_of_end e l) (transcript_of e l.transcript) at (memory_of e u.lane) (reach_of e u.lane) packet opens step.left
    (end_acts shape e u l ready up) step.step in
    let less = goes e u.lane (length u.queue) (put_weight (role_at e)) step.left (seen_up e u.lane up) (ap (λ (x : NetLeft). x.peer) step.step.is ∙ reach_memory e u.lane) lower in
    rw step.is (with_put e u.lane step.left packet opens (length u.queue) less)
lane_falls shape u l e (Published id) t ready room step takes =
    let s : NetEndState = net_end e u.lane in
    let at : Seen = seen_at e u.lane in
    let up = (says_of (role_at e) s at (Publishes step.step.session step.step.frame) step.step.rule).0.in_session.free.up in
    let lower = publishes_lower (role_at e) shape.slots (queue_of e u) s (log_of_end e l) (transcript_of e l.transcript) at (memory_of e u.lane) (reach_of e u.lane) id step.left
    (end_acts shape e u l ready up) (room_at e shape.slots u.lane room) step.step in
    let less = goes e u.lane (length u.queue) 1 step.left (seen_up e u.lane up) (ap (λ (x : NetLeft). x.peer) step.step.is ∙ reach_memory e u.lane) lower in
    rw step.is (omega (arith, less, on_wire e step.left u.lane (length u.queue)))
lane_falls shape u l e _ t ready room step takes = absurd takes

-- A CALM STEP
lane_calm : (shape : NetShape) (u : PortState) (l : PortLog) (e : End) (answer : NetAnswer) (t : NetLaneState) → Ready shape u l → EndSteps e u.lane answer t → IsCalm answer
    → remaining_of t (length u.queue) ≤ remaining_of u.lane (length u.queue)
lane_calm shape u l e Blocked t ready step calm =
    let s : NetEndState = net_end e u.lane in
    let at : Seen = seen_at e u.lane in
    let up = holds_up (role_at e) s at (reach_of e u.lane) (port_rule (role_at e) s at) step.left.end refl step.step.0 in
    let lower = blocks_lower (role_at e) shape.slots (queue_of e u) s (log_of_end e l) (transcript_of e l.transcript) at (memory_of e u.lane) (reach_of e u.lane) step.left
    (end_acts shape e u l ready up) step.step.0 step.step.2 in
    let less = goes e u.lane (length u.queue) 0 step.left (seen_up e u.lane up) (ap (λ (x : NetLeft). x.peer) step.step.2 ∙ reach_memory e u.lane) lower in
    subst (λ (x : NetLaneState). remaining_of x (length u.queue) ≤ remaining_of u.lane (length u.queue)) (sym step.is) (omega (arith, less, on_wire e step.left u.lane (length u.queue)))
lane_calm shape u l e answer t ready step calm = grind arith

-- ALONG EVERY RUN
abbrev pub ready_here : (shape : NetShape) (events : List PortEvent) (s : PortState) (event : NetEvent) → IsNetShape shape → Run PortStep (fresh_port shape) events s
    → Ready shape (before event s) (log_of after (no_events shape) events)
ready_here shape events s event is run = ready_before shape s (log_of after (no_events shape) events) event is (port_counts shape events s is run)

pub port_falls : (shape : NetShape) (events : List PortEvent) (s : PortState) (e : End) (answer : NetAnswer) (t : PortState) → IsNetShape shape → Run PortStep (fresh_port shape) events s
    → PortStep s (OnLane (Steps e answer)) t → TakesNothing answer → remaining t < remaining s
port_falls shape events s e answer t is run step takes =
    let u : PortState = before (Steps e answer) s in
    let less = lane_falls shape u (log_of after (no_events shape) events) e answer t.lane (ready_here shape events s (Steps e answer) is run)
    (before_room shape.slots (Steps e answer) s (room_behind shape events s is run)) step.1 takes in
    omega (arith, less, steps_before e answer s, ap (λ (x : List (List ℕ)). remaining_of t.lane (length x)) step.2)

pub port_calm : (shape : NetShape) (events : List PortEvent) (s : PortState) (e : End) (answer : NetAnswer) (t : PortState) → IsNetShape shape → Run PortStep (fresh_port shape) events s
    → PortStep s (OnLane (Steps e answer)) t → IsCalm answer → remaining t ≤ remaining s
port_calm shape events s e answer t is run step calm =
    let u : PortState = before (Steps e answer) s in
    let less = lane_calm shape u (log_of after (no_events shape) events) e answer t.lane (ready_here shape events s (Steps e answer) is run) step.1 calm in
    omega (arith, less, steps_before e answer s, ap (λ (x : List (List ℕ)). remaining_of t.lane (length x)) step.2)

pub port_fresh : (shape : NetShape) → remaining (fresh_port shape) ≡ 76
port_fresh shape = refl
