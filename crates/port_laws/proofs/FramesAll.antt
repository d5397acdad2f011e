-- On a port that nobody forged each frame that an end was given was taken by the other, is held, or is one of those that the end says are
-- lost. So where none is lost and none is held, the frames that were taken are those that were given.
use Rattle.std.proofs.Common.{◌≡◌, ℕ, ◌+◌, ◌≤◌, false, Option, Some, None, List, [], ◌∷◌, ◌++◌, length, drop, sym, subst, ap, ◌∙◌, arith, length-append, length-drop}
use Rattle.std.specs.Prelude.{slice_get}
use Rattle.std.proofs.lemmas.Option.{get_or_from_slice_get, slice_get_within}
use Rattle.ldc_queue.specs.declared.end.ChannelState.{ChannelState}
use Rattle.ldc_queue.specs.declared.end.ChannelState.TheVariants.{Up}
use Rattle.ldc_queue.specs.declared.end.End.{End}
use Rattle.ldc_queue.specs.declared.end.End.TheVariants.{A, B}
use Rattle.ldc_queue.specs.Transcript.{Utterance}
use Rattle.ldc_queue.specs.Wire.{peer_behind, peer_of, state_of}
use Rattle.runs.specs.Lawful.{log_of}
use Rattle.runs.specs.Run.{Run}
use Rattle.lane_models.specs.TranscriptLog.{transcript_of}
use Rattle.lane_models.specs.WireLog.{WireLog}
use Rattle.lane_models.proofs.Refuting.{none_some, true_false}
use Rattle.lane_models.specs.EndLog.{EndLog, SessionLog, change}
use Rattle.lane_models.specs.NetEndStep.{Frame, NetAnswer, NetLeft}
use Rattle.lane_models.specs.NetEvent.{Asked, CalmTick, Gives, Injects, Loses, NetEvent, Pokes, Steps, Ticked, on_wire}
use Rattle.lane_models.specs.NetLaneState.{IsNetShape, NetLaneState, NetShape}
use Rattle.lane_models.specs.NetLaneStep.{NetLaneStep, moved_on}
use Rattle.lane_models.specs.PortLog.{PortLog, after, after_answer, log_of_end, no_events}
use Rattle.lane_models.specs.PortState.{OfQueue, OnLane, PortEvent, PortState, PortStep, Receives, before, fresh_port}
use Rattle.port_laws.specs.InOrder.{InOrder, frames_taken, took}
use Rattle.port_laws.specs.Lost.{frames_lost, lost_at, lost_by}
use Rattle.port_laws.specs.NetCore.{lane_core}
use Rattle.port_laws.specs.RingStands.{taken_by, taken_of}
use Rattle.port_laws.proofs.FramesOnce.{Bounds, Moves, Once, bounds, changed, event_moves, fresh_once, given_same, guest_takes_in_order, heard_taken, hub_takes_in_order, none_acked, once_step}
use Rattle.port_laws.proofs.PortCounts.{before_queue, before_wire}
use Rattle.port_laws.proofs.PortTwoEnds.{PortTwoEnds, port_two_ends}
use Rattle.port_laws.proofs.RingActs.{Acts, Finds, LogNow, acts_up_at, goes_same, left_taken, log_now}
use Rattle.port_laws.proofs.RingEvents.{Goes, mine_now, theirs_now, wire_now}
use Rattle.port_laws.proofs.RingRuns.{Kept, finds_before, was_clean}
use Rattle.port_laws.proofs.RuleFrames.{guest_holds, hub_holds}
use Rattle.port_laws.proofs.WayRuns.{acts_of}
use Rattle.std.proofs.lemmas.List.{drop_all}
use Rattle.std.proofs.Math.Seq.{drop-cons}

-- AN ANSWER: how many frames its end took by it
frames_in : NetAnswer → ℕ
frames_in (Frame frame) = 1
frames_in _ = 0

took_one : (e : End) (answer : NetAnswer) → frames_in answer ≤ length (took e (OnLane (Steps e answer)))
unfolding frames_in
took_one e answer = grind arith

-- THE STATES of both ends
behind_less : (x y : ChannelState) (o : Option SessionLog) → taken_by (peer_behind x y) o ≤ taken_by y o
behind_less x y o = grind arith

theirs_less : (answer : NetAnswer) (x y : ChannelState) (o : Option SessionLog) → taken_by (theirs_now answer x y) o ≤ taken_by y o
theirs_less answer x y o = grind (arith, behind_less)

mine_less : (slots : ℕ) (turns : List Utterance) (answer : NetAnswer) (x : ChannelState) (l : EndLog) → taken_by (mine_now answer x) (after_answer slots turns answer l).session ≤ taken_by x l.session + frames_in answer
unfolding frames_in
mine_less slots turns answer x l = grind (arith, heard_taken, left_taken)

-- THE LOG of the end itself: a session that opens published nothing; and where none is open after it, no more is gone than is lost
never_changed : (f : SessionLog → SessionLog) (o : Option SessionLog) (v : SessionLog) (P : Type 0) → o ≡ None → change f o ≡ Some v → P
never_changed f o v P none is = let made = changed f o v is in none_some made.0 (sym none ∙ made.1)

opened_zero : (slots : ℕ) (turns : List Utterance) (answer : NetAnswer) (l : EndLog) (v : SessionLog) → l.session ≡ None → (after_answer slots turns answer l).session ≡ Some v → v.published ≡ 0
opened_zero slots turns answer l v none is = grind (arith, never_changed, none_some)

own_gone : (slots : ℕ) (turns : List Utterance) (answer : NetAnswer) (l : EndLog) → (Goes answer → (v : SessionLog) → (after_answer slots turns answer l).session ≡ Some v → ⊥)
    → (after_answer slots turns answer l).gone ≤ l.gone + lost_by answer
own_gone slots turns answer l never = grind (arith, none_acked)

-- WHAT AN EVENT ADDS: so many frames at most are taken of an end's by it, or said to be lost
record Adds (e d : End) (s t : NetLaneState) (l m : PortLog) (more : ℕ) : Type 0 where
  gone : (state_of e t.wire.wire ≡ Up → (v : SessionLog) → (log_of_end e m).session ≡ Some v → ⊥) → (log_of_end e m).gone ≤ (log_of_end e l).gone + more
  taken : taken_of d t m ≤ taken_of d s l + more
  opened : (v : SessionLog) → (log_of_end e l).session ≡ None → (log_of_end e m).session ≡ Some v → v.published ≡ 0

own_adds : (shape : NetShape) (e : End) (u t : PortState) (l : PortLog) (answer : NetAnswer) (left : NetLeft) (more : ℕ) → Acts shape e u t l answer left → lost_by answer ≤ more
    → Adds e (peer_of e) u.lane t.lane l (after l (OnLane (Steps e answer))) more
own_adds shape e u t l answer left more acts less =
    let m : PortLog = after l (OnLane (Steps e answer)) in
    let x : ChannelState = state_of e u.lane.wire.wire in
    let y : ChannelState = state_of (peer_of e) u.lane.wire.wire in
    let log : LogNow e l answer = log_now e l answer in
    let up : Goes answer → state_of e t.lane.wire.wire ≡ Up = λ goes.
    ap (λ (w : WireLog). state_of e w.wire) acts.now.wire ∙ (wire_now e u.lane answer).mine ∙ goes_same answer x goes ∙ acts_up_at shape e u t l answer left acts goes in
    record {
      gone = λ never.
          let most = own_gone l.shape.slots (transcript_of e l.transcript) answer (log_of_end e l) (λ goes v is. never (up goes) v (ap (λ (x : EndLog). x.session) log.mine ∙ is)) in
          omega (arith, most, less, ap (λ (x : EndLog). x.gone) log.mine);
      taken =
          let same : taken_of (peer_of e) t.lane m ≡ taken_by (theirs_now answer x y) (log_of_end (peer_of e) l).session =
          ap (λ (z : ChannelState). taken_by z (log_of_end (peer_of e) m).session) (ap (λ (w : WireLog). state_of (peer_of e) w.wire) acts.now.wire ∙ (wire_now e u.lane answer).theirs)
          ∙ ap (λ (z : EndLog). taken_by (theirs_now answer x y) z.session) log.theirs in
          omega (arith, same, theirs_less answer x y (log_of_end (peer_of e) l).session);
      opened = λ v none is. opened_zero l.shape.slots (transcript_of e l.transcript) answer (log_of_end e l) v none (sym (ap (λ (z : EndLog). z.session) log.mine) ∙ is);
    }

taker_adds : (shape : NetShape) (d : End) (u t : PortState) (l : PortLog) (answer : NetAnswer) (left : NetLeft) (more : ℕ) → Acts shape d u t l answer left → frames_in answer ≤ more
    → Adds (peer_of d) d u.lane t.lane l (after l (OnLane (Steps d answer))) more
taker_adds shape d u t l answer left more acts less = grind (arith, log_now, wire_now, mine_less, none_some)

-- it begins anew, not by a step; or the other does
anew_adds : (e d : End) (s t : NetLaneState) (l m : PortLog) (more : ℕ) → (log_of_end e m).session ≡ None → (log_of_end e m).gone ≡ (log_of_end e l).gone + more
    → log_of_end d m ≡ log_of_end d l → state_of d t.wire.wire ≡ peer_behind (state_of e s.wire.wire) (state_of d s.wire.wire) → Adds e d s t l m more
anew_adds e d s t l m more shut gone theirs peer = grind (arith, behind_less, none_some)

other_anew : (e d : End) (s t : NetLaneState) (l m : PortLog) → log_of_end e m ≡ log_of_end e l → (log_of_end d m).session ≡ None → Adds e d s t l m 0
other_anew e d s t l m same shut = grind (arith, none_some)

-- or neither of them
still_adds : (e d : End) (s t : NetLaneState) (l m : PortLog) → state_of d t.wire.wire ≡ state_of d s.wire.wire → (log_of_end e m).session ≡ (log_of_end e l).session
    → (log_of_end e m).gone ≡ (log_of_end e l).gone → (log_of_end d m).session ≡ (log_of_end d l).session → Adds e d s t l m 0
still_adds e d s t l m state session gone peer = grind (arith, none_some)

event_adds : (shape : NetShape) (d : End) (u t : PortState) (l : PortLog) (event : NetEvent) → OfQueue u event → Finds shape u l → NetLaneStep u.lane event t.lane → (moved_on l.wire (on_wire event)).forged ≡ false
    → Kept shape t (after l (OnLane event)) → PortTwoEnds shape (lane_core t.lane) (after l (OnLane event))
    → Adds (peer_of d) d u.lane t.lane l (after l (OnLane event)) (length (took d (OnLane event)) + lost_at (peer_of d) (OnLane event))
event_adds shape B u t l (Steps A answer) of_queue finds step clean kept two_ends =
    own_adds shape A u t l answer step.left (0 + lost_by answer) (acts_of shape A u t l answer finds step kept.counts two_ends) (omega arith)
event_adds shape A u t l (Steps B answer) of_queue finds step clean kept two_ends =
    own_adds shape B u t l answer step.left (0 + lost_by answer) (acts_of shape B u t l answer finds step kept.counts two_ends) (omega arith)
event_adds shape A u t l (Steps A answer) of_queue finds step clean kept two_ends =
    let one = took_one A answer in
    taker_adds shape A u t l answer step.left (length (took A (OnLane (Steps A answer))) + 0) (acts_of shape A u t l answer finds step kept.counts two_ends) (omega (arith, one))
event_adds shape B u t l (Steps B answer) of_queue finds step clean kept two_ends =
    let one = took_one B answer in
    taker_adds shape B u t l answer step.left (length (took B (OnLane (Steps B answer))) + 0) (acts_of shape B u t l answer finds step kept.counts two_ends) (omega (arith, one))
event_adds shape d u t l (Asked e lost) of_queue finds step clean kept two_ends = grind (arith, anew_adds, other_anew)
event_adds shape d u t l (Ticked queued lost) of_queue finds step clean kept two_ends = grind (arith, anew_adds, other_anew)
event_adds shape d u t l (Gives A given) of_queue finds step clean kept two_ends = grind (arith, still_adds, given_same)
event_adds shape d u t l (Gives B given) of_queue finds step clean kept two_ends = absurd of_queue
event_adds shape d u t l (Injects e packet) of_queue finds step clean kept two_ends = true_false clean
event_adds shape d u t l (Pokes e at bytes) of_queue finds step clean kept two_ends = true_false clean
event_adds shape d u t l (Loses A packet) of_queue finds step clean kept two_ends = grind (arith, still_adds)
event_adds shape d u t l event of_queue finds step clean kept two_ends = grind (arith, still_adds)

-- NO MORE OF AN END'S FRAMES ARE GONE than were taken or are said to be lost; while it is up and in session, that is so where those that
-- were taken in it are gone too
record Arrived (e d : End) (s : NetLaneState) (l : PortLog) (n : ℕ) : Type 0 where
  all : (log_of_end e l).gone ≤ n
  here : (v : SessionLog) → state_of e s.wire.wire ≡ Up → (log_of_end e l).session ≡ Some v → (log_of_end e l).gone + taken_of d s l ≤ n + v.seen

arrives : (e d : End) (s t : NetLaneState) (l m : PortLog) (n more : ℕ) → Bounds e d t m → Moves e d s t l m → Adds e d s t l m more → Arrived e d s l n → Arrived e d t m (n + more)
arrives e d s t l m n more now moves adds had = grind (arith, none_some)

-- the wire and the log alone matter
arrived_as : (e d : End) (s u : NetLaneState) (l : PortLog) (n : ℕ) → u.wire ≡ s.wire → Arrived e d s l n → Arrived e d u l n
arrived_as e d s u l n same had = grind arith

-- ALONG A RUN: by the frames that each end took, and that the other says are lost
record All (shape : NetShape) (s : PortState) (l : PortLog) (by_end : End → List (List ℕ)) (lost : End → ℕ) : Type 0 where
  once : Once shape s l by_end
  arrived : (d : End) → l.wire.forged ≡ false → Arrived (peer_of d) d s.lane l (length (by_end d) + lost d)

counts_add : (xs more : List (List ℕ)) (lost new : ℕ) → (length xs + lost) + (length more + new) ≡ length (xs ++ more) + (lost + new)
counts_add xs more lost new = omega (arith, length-append xs more)

module _ (shape : NetShape) (is : IsNetShape shape) where
  received : (d : End) (s : PortState) (l : PortLog) (frame : List ℕ) (t : PortState) (n : ℕ) → t.lane.wire ≡ s.lane.wire → Arrived (peer_of d) d s.lane l n
      → Arrived (peer_of d) d t.lane (after l (Receives frame)) (n + (length (took d (Receives frame)) + lost_at (peer_of d) (Receives frame)))
  received d s l frame t n wire arrived = grind (arith, arrived_as)

  event_arrives : (d : End) (s : PortState) (l : PortLog) (event : PortEvent) (t : PortState) (by_end now : End → List (List ℕ)) (n : ℕ) → Once shape s l by_end → Once shape t (after l event) now
      → PortStep s event t → (after l event).wire.forged ≡ false → (l.wire.forged ≡ false → Arrived (peer_of d) d s.lane l n)
      → Arrived (peer_of d) d t.lane (after l event) (n + (length (took d event) + lost_at (peer_of d) event))
  event_arrives d s l (OnLane event) t by_end now n had next step clean arrived =
      let u : PortState = before event s in
      let m : PortLog = after l (OnLane event) in
      let was : l.wire.forged ≡ false = was_clean l.wire event clean in
      let finds : Finds shape u l = finds_before shape s l event is had.kept was in
      let found : Finds shape t m = finds_before shape t m (CalmTick 0) is next.kept clean in
      let wire : t.lane.wire.forged ≡ false = ap (λ (w : WireLog). w.forged) next.kept.counts.wire ∙ clean in
      let two_ends = port_two_ends shape t m is next.kept.counts wire in
      let moves = event_moves shape d u t l event (before_queue event s step.0) finds step.1 clean next.kept two_ends in
      let adds = event_adds shape d u t l event (before_queue event s step.0) finds step.1 clean next.kept two_ends in
      arrives (peer_of d) d u.lane t.lane l m n (length (took d (OnLane event)) + lost_at (peer_of d) (OnLane event)) (bounds shape d t m found) moves adds
      (arrived_as (peer_of d) d s.lane u.lane l n (before_wire event s) (arrived was))
  event_arrives d s l (Receives frame) t by_end now n had next step clean arrived = received d s l frame t n (ap (λ (x : PortState). x.lane.wire) step.2) (arrived clean)

  all_step : (s : PortState) (l : PortLog) (event : PortEvent) (t : PortState) (by_end : End → List (List ℕ)) (lost : End → ℕ) → All shape s l by_end lost → PortStep s event t
      → All shape t (after l event) (λ d. by_end d ++ took d event) (λ d. lost d + lost_at (peer_of d) event)
  all_step s l event t by_end lost had step =
      let next = once_step shape is s l event t by_end had.once step in
      record {
        once = next;
        arrived = λ d clean.
            subst (Arrived (peer_of d) d t.lane (after l event)) (counts_add (by_end d) (took d event) (lost d) (lost_at (peer_of d) event))
            (event_arrives d s l event t by_end (λ x. by_end x ++ took x event) (length (by_end d) + lost d) had.once next step clean (had.arrived d));
      }

  -- so many at the end of a run
  record Ended (s : PortState) (l : PortLog) (most : End → ℕ) : Type 0 where
    gone : (d : End) → l.wire.forged ≡ false → (log_of_end (peer_of d) l).gone ≤ most d
    wire : s.lane.wire ≡ l.wire

  along : (events : List PortEvent) (s t : PortState) (l : PortLog) (by_end : End → List (List ℕ)) (lost : End → ℕ) → All shape s l by_end lost → Run PortStep s events t
      → Ended t (log_of after l events) (λ d. (length (by_end d) + length (frames_taken d events)) + (lost d + frames_lost (peer_of d) events))
  along [] s t l by_end lost had run = record {
    gone = λ d clean. (let all = (had.arrived d clean).all in omega (arith, all));
    wire = ap (λ (x : PortState). x.lane.wire) (sym run) ∙ had.once.kept.counts.wire;
  }
  along (event ∷ events) s t l by_end lost had run =
      let rest = along events run.0 t (after l event) (λ d. by_end d ++ took d event) (λ d. lost d + lost_at (peer_of d) event) (all_step s l event run.0 by_end lost had run.1) run.2 in
      grind (arith, length-append)

  fresh_all : All shape (fresh_port shape) (no_events shape) (λ d. []) (λ d. 0)
  fresh_all = grind (arith, fresh_once, none_some)

  ended : (events : List PortEvent) (s : PortState) → Run PortStep (fresh_port shape) events s
      → Ended s (log_of after (no_events shape) events) (λ d. (0 + length (frames_taken d events)) + (0 + frames_lost (peer_of d) events))
  ended events s run = along events (fresh_port shape) s (no_events shape) (λ d. []) (λ d. 0) fresh_all run

-- ALL IN ORDER: where as many stand in order as there are, they are all
bounded : (n : ℕ) (frames given : List (List ℕ)) → n ≤ length given → InOrder n frames given → n + length frames ≤ length given
bounded n [] given within order = omega (arith, within)
bounded n (frame ∷ frames) given within order =
    let there = slice_get_within given order.0 frame order.2 in
    omega (arith, bounded (order.0 + 1) frames given (omega (arith, there)) order.3, order.1)

drop_first : (n : ℕ) (given : List (List ℕ)) (frame : List ℕ) → slice_get given n ≡ Some frame → drop n given ≡ frame ∷ drop (n + 1) given
drop_first n given frame there =
    grind (arith, drop-cons given n frame (slice_get_within given n frame there), get_or_from_slice_get given n frame frame there)

in_order_all : (n : ℕ) (frames given : List (List ℕ)) → n ≤ length given → InOrder n frames given → length given ≤ n + length frames → frames ≡ drop n given
in_order_all n [] given within order all = sym (drop_all n given (omega (arith, all)))
in_order_all n (frame ∷ frames) given within order all =
    let there = slice_get_within given order.0 frame order.2 in
    let rest = bounded (order.0 + 1) frames given (omega (arith, there)) order.3 in
    let same : order.0 ≡ n = omega (arith, rest, order.1, all) in
    let here : slice_get given n ≡ Some frame = subst (λ (k : ℕ). slice_get given k ≡ Some frame) same order.2 in
    let later : frames ≡ drop (n + 1) given =
    in_order_all (n + 1) frames given (omega (arith, there, same)) (subst (λ (k : ℕ). InOrder (k + 1) frames given) same order.3) (omega (arith, all)) in
    ap (λ (l : List (List ℕ)). frame ∷ l) later ∙ sym (drop_first n given frame here)

-- THE LAWS
held_count : (frames given : List (List ℕ)) (gone n : ℕ) → frames ≡ drop gone given → gone ≤ n → length given ≤ n + length frames
held_count frames given gone n is less = grind (arith, length-drop)

pub guest_counted : (shape : NetShape) (events : List PortEvent) (s : PortState) → IsNetShape shape → Run PortStep (fresh_port shape) events s → s.lane.wire.forged ≡ false
    → length (log_of after (no_events shape) events).guest.given ≤ (length (frames_taken B events) + frames_lost A events) + length s.lane.guest.frames
guest_counted shape events s is run clean =
    let l : PortLog = log_of after (no_events shape) events in
    let at = ended shape is events s run in
    let less = at.gone B (sym (ap (λ (w : WireLog). w.forged) at.wire) ∙ clean) in
    held_count s.lane.guest.frames l.guest.given l.guest.gone (length (frames_taken B events) + frames_lost A events) (guest_holds shape events s is run) (omega (arith, less))

pub hub_counted : (shape : NetShape) (events : List PortEvent) (s : PortState) → IsNetShape shape → Run PortStep (fresh_port shape) events s → s.lane.wire.forged ≡ false
    → length (log_of after (no_events shape) events).hub.given ≤ (length (frames_taken A events) + frames_lost B events) + length (s.lane.hub.frames ++ s.queue)
hub_counted shape events s is run clean =
    let l : PortLog = log_of after (no_events shape) events in
    let at = ended shape is events s run in
    let less = at.gone A (sym (ap (λ (w : WireLog). w.forged) at.wire) ∙ clean) in
    held_count (s.lane.hub.frames ++ s.queue) l.hub.given l.hub.gone (length (frames_taken A events) + frames_lost B events) (hub_holds shape events s is run) (omega (arith, less))

all_taken : (taken given held : List (List ℕ)) (lost : ℕ) → InOrder 0 taken given → length given ≤ (length taken + lost) + length held → lost ≡ 0 → held ≡ [] → taken ≡ given
all_taken taken given held lost order all none empty = grind (arith, in_order_all)

pub guest_all : (shape : NetShape) (events : List PortEvent) (s : PortState) → IsNetShape shape → Run PortStep (fresh_port shape) events s → s.lane.wire.forged ≡ false
    → frames_lost A events ≡ 0 → s.lane.guest.frames ≡ [] → frames_taken B events ≡ (log_of after (no_events shape) events).guest.given
guest_all shape events s is run clean none empty =
    all_taken _ _ _ _ (hub_takes_in_order shape events s is run clean)
    (guest_counted shape events s is run clean) none empty

pub hub_all : (shape : NetShape) (events : List PortEvent) (s : PortState) → IsNetShape shape → Run PortStep (fresh_port shape) events s → s.lane.wire.forged ≡ false
    → frames_lost B events ≡ 0 → s.lane.hub.frames ++ s.queue ≡ [] → frames_taken A events ≡ (log_of after (no_events shape) events).hub.given
hub_all shape events s is run clean none empty =
    all_taken _ _ _ _ (guest_takes_in_order shape events s is run clean)
    (hub_counted shape events s is run clean) none empty
