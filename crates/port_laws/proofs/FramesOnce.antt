-- On a port that nobody forged the frames that an end took are frames that the other end was given, in their order, each at most once. The
-- place of the next one among those given never falls, and rises with each frame that is taken.
use Rattle.std.proofs.Common.{◌≡◌, ℕ, ◌+◌, ◌-◌, ◌≤◌, ◌⊎◌, inl, inr, true, false, Option, Some, None, List, [], ◌∷◌, ◌++◌, refl, sym, subst, ap, ◌∙◌, arith, append_assoc}
use Rattle.std.specs.Prelude.{slice_get}
use Rattle.std.proofs.lemmas.List.{append-nil}
use Rattle.ldc_queue.specs.declared.end.ChannelState.{ChannelState}
use Rattle.ldc_queue.specs.declared.end.ChannelState.TheVariants.{Up}
use Rattle.ldc_queue.specs.declared.end.End.{End}
use Rattle.ldc_queue.specs.declared.end.End.TheVariants.{A, B}
use Rattle.ldc_queue.specs.Transcript.{Utterance}
use Rattle.ldc_queue.specs.Wire.{peer_behind, peer_of, state_of}
use Rattle.runs.specs.Lawful.{log_of}
use Rattle.runs.specs.Run.{Run}
use Rattle.lane_models.specs.Messages.{ended_by}
use Rattle.lane_models.specs.Sayings.{half_heard, half_said}
use Rattle.lane_models.specs.TranscriptLog.{transcript_of}
use Rattle.lane_models.specs.WireLog.{WireLog}
use Rattle.lane_models.proofs.Refuting.{none_some, true_false}
use Rattle.lane_models.specs.EndLog.{EndLog, SessionLog, acked_in, change, heard_in, lost_in, more_published, more_taken, said_in}
use Rattle.lane_models.specs.NetEndState.{NetEndState, NetSession, unseen}
use Rattle.lane_models.specs.NetEndStep.{Frame, Given, Joined, NetAnswer, NetLeft, Published, Queued, Reset, Sent, Took}
use Rattle.lane_models.specs.NetEvent.{Asked, CalmTick, Gives, Injects, Loses, NetEvent, Pokes, Steps, Ticked, on_wire}
use Rattle.lane_models.specs.NetLaneState.{IsNetShape, NetLaneState, NetShape, memory_of, net_end, role_at}
use Rattle.lane_models.specs.NetLaneStep.{EndSteps, NetLaneStep, moved_on}
use Rattle.lane_models.specs.PortLog.{PortLog, after, after_answer, after_given, log_of_end, no_events}
use Rattle.lane_models.specs.PortState.{OfQueue, OnLane, PortEvent, PortState, PortStep, Receives, before, fresh_port}
use Rattle.port_laws.specs.Counted.{unsaid}
use Rattle.port_laws.specs.NetCore.{lane_core}
use Rattle.port_laws.specs.InOrder.{InOrder, frames_taken, took}
use Rattle.port_laws.specs.RingHolds.{RingHolds}
use Rattle.port_laws.specs.RingStands.{RingIn, taken_by, taken_in, taken_of}
use Rattle.port_laws.proofs.EndCounting.{left_seen, open_counts, shut_counts}
use Rattle.port_laws.proofs.LogsStand.{held_given}
use Rattle.port_laws.proofs.PortCounts.{before_queue, before_wire, queue_of}
use Rattle.port_laws.proofs.StepCounts.{counts_stand}
use Rattle.port_laws.proofs.RingActs.{Acts, Finds, LogNow, acts_shut, acts_up_at, goes_same, left_taken, log_now, open_both, peer_ring_of, step_now}
use Rattle.port_laws.proofs.RingEvents.{Goes, kind_taken, none_down, peer_up, theirs_now, wire_now}
use Rattle.port_laws.proofs.RingRuns.{Kept, finds_before, fresh_kept, kept_step, was_clean}
use Rattle.port_laws.proofs.RingSteps.{opens_by}
use Rattle.port_laws.proofs.RuleFrames.{both_open, end_counted, end_stood, lost_log, seen_within}
use Rattle.port_laws.proofs.RuleUnforged.{TakesPublished, takes_published}
use Rattle.port_laws.proofs.SessionsHeard.{get_more}
use Rattle.port_laws.proofs.PortTwoEnds.{PortTwoEnds, port_two_ends}
use Rattle.port_laws.proofs.WayRuns.{acts_of, goes_theirs, guest_goes}

-- FRAMES IN ORDER at places from n on and below m
Below : ℕ → ℕ → List (List ℕ) → List (List ℕ) → Type 0
Below n m [] given = n ≤ m
Below n m (frame ∷ frames) given = (i : ℕ) × (n ≤ i) × (slice_get given i ≡ Some frame) × Below (i + 1) m frames given

below_more : (n m k : ℕ) (frames given : List (List ℕ)) → m ≤ k → Below n m frames given → Below n k frames given
unfolding Below
below_more n m k [] given less below = omega (arith, less, below)
below_more n m k (frame ∷ frames) given less below = (below.0, below.1, below.2, below_more (below.0 + 1) m k frames given less below.3)

below_given : (n m : ℕ) (frames given more : List (List ℕ)) → Below n m frames given → Below n m frames (given ++ more)
unfolding Below
below_given n m [] given more below = below
below_given n m (frame ∷ frames) given more below = (below.0, below.1, get_more given more below.0 frame below.2, below_given (below.0 + 1) m frames given more below.3)

below_last : (n m : ℕ) (frames given : List (List ℕ)) (frame : List ℕ) → slice_get given m ≡ Some frame → Below n m frames given → Below n (m + 1) (frames ++ frame ∷ []) given
unfolding Below
below_last n m [] given frame get below = (m, below, get, omega arith)
below_last n m (first ∷ frames) given frame get below = (below.0, below.1, below.2, below_last (below.0 + 1) m frames given frame get below.3)

below_in : (n m : ℕ) (frames given : List (List ℕ)) → Below n m frames given → InOrder n frames given
unfolding Below
below_in n m [] given below = tt
below_in n m (frame ∷ frames) given below = (below.0, below.1, below.2, below_in (below.0 + 1) m frames given below.3)

-- THE PLACE of the next frame, of an end whose frames the other takes: behind those that are gone so many as were taken of the others.
-- Where the end isn't up and in session it is behind all that were published.
abbrev place_by : ChannelState → Option SessionLog → (gone published taken : ℕ) → ℕ
place_by Up (Some v) gone published taken = gone + (taken - v.seen)
place_by _ _ gone published taken = published

abbrev place : (e d : End) → NetLaneState → PortLog → ℕ
place e d s l = place_by (state_of e s.wire.wire) (log_of_end e l).session (log_of_end e l).gone (log_of_end e l).published (taken_of d s l)

-- its bounds
pub record Bounds (e d : End) (s : NetLaneState) (l : PortLog) : Type 0 where
  pub within : (v : SessionLog) → state_of e s.wire.wire ≡ Up → (log_of_end e l).session ≡ Some v → (v.seen ≤ taken_of d s l) × (taken_of d s l ≤ v.published)
  pub counted : (v : SessionLog) → (log_of_end e l).session ≡ Some v → (log_of_end e l).published ≡ (log_of_end e l).gone + (v.published - v.seen)
  pub shut : (log_of_end e l).session ≡ None → (log_of_end e l).published ≡ (log_of_end e l).gone

pub bounds : (shape : NetShape) (d : End) (s : PortState) (l : PortLog) → Finds shape s l → Bounds (peer_of d) d s.lane l
bounds shape d s l finds =
    let e : End = peer_of d in
    let f : NetEndState = net_end e s.lane in
    let lost : (v : SessionLog) (p : NetSession) → (log_of_end e l).session ≡ Some v → f.session ≡ Some p → p.published - p.seen ≡ v.published - v.seen = λ v p log is.
    sym (ap unseen is) ∙ lost_log (role_at e) shape.slots (queue_of e s) f (log_of_end e l) (end_counted shape e s l finds.ready) ∙ ap lost_in log in
    let within : (v : SessionLog) → state_of e s.lane.wire.wire ≡ Up → (log_of_end e l).session ≡ Some v → (v.seen ≤ taken_of d s.lane l) × (taken_of d s.lane l ≤ v.published) = λ v up log.
    let both = both_open (role_at e) shape.slots (queue_of e s) f (log_of_end e l) v (end_counted shape e s l finds.ready) log in
    let ring : RingHolds l.shape.slots both.p.seen (taken_of d s.lane l) both.p.published f.frames (memory_of e s.lane) =
    subst (λ (x : Option NetSession). RingIn l.shape.slots (taken_of d s.lane l) x f.frames (memory_of e s.lane)) both.is (peer_ring_of d s.lane l finds.rings up) in
    let seen : both.p.seen ≡ v.seen = sym both.open_is.counts.ring.seen ∙ left_seen (unsaid f) both.open_is.of_log ∙ ap (λ (x : SessionLog). x.seen) both.same in
    let first = ring.seen_first in
    let within_log = seen_within (role_at e) shape.slots (queue_of e s) f (log_of_end e l) v (end_counted shape e s l finds.ready) (end_stood shape e s l finds.ready) log in
    (omega (arith, first, seen), omega (arith, first, ring.taken_first, seen, within_log, lost v both.p log both.is)) in
    let counted : (v : SessionLog) → (log_of_end e l).session ≡ Some v → (log_of_end e l).published ≡ (log_of_end e l).gone + (v.published - v.seen) = λ v log.
    grind (arith, lost, both_open, end_counted, counts_stand, end_stood) in
    let shut : (log_of_end e l).session ≡ None → (log_of_end e l).published ≡ (log_of_end e l).gone = λ none.
    grind (arith, shut_counts, end_counted, open_both, true_false) in
    record { within = within; counted = counted; shut = shut }

-- WHAT AN EVENT DOES to the end's log, where it is up and in session after it: the session opened, or it stayed
pub data Change (e d : End) (s t : NetLaneState) (l m : PortLog) (v : SessionLog) : Type 0 where
  Opened : (log_of_end e l).session ≡ None → (log_of_end e m).gone ≡ (log_of_end e l).gone → Change e d s t l m v
  Stayed : (w : SessionLog) → state_of e s.wire.wire ≡ Up → (log_of_end e l).session ≡ Some w → (log_of_end e m).gone + w.seen ≡ (log_of_end e l).gone + v.seen
      → taken_of d s l ≤ taken_of d t m → Change e d s t l m v

pub record Moves (e d : End) (s t : NetLaneState) (l m : PortLog) : Type 0 where
  pub grows : (log_of_end e l).published ≤ (log_of_end e m).published
  pub changes : (v : SessionLog) → state_of e t.wire.wire ≡ Up → (log_of_end e m).session ≡ Some v → Change e d s t l m v

place_most : (x : ChannelState) (session : Option SessionLog) (gone published taken : ℕ) → ((v : SessionLog) → x ≡ Up → session ≡ Some v → (taken ≤ v.published) × (v.seen ≤ taken) × (published ≡ gone + (v.published - v.seen)))
    → place_by x session gone published taken ≤ published
place_most Up (Some v) gone published taken open_is = let at = open_is v refl refl in omega (arith, at.0, at.1, at.2)
place_most _ _ gone published taken open_is = omega arith

shut_place : (x : ChannelState) (session : Option SessionLog) (gone published taken : ℕ) → session ≡ None → place_by x session gone published taken ≤ published
shut_place x session gone published taken none = grind (arith, none_some)

rises : (e d : End) (s t : NetLaneState) (l m : PortLog) → Bounds e d s l → Bounds e d t m → Moves e d s t l m → place e d s l ≤ place e d t m
rises e d s t l m was now moves = grind (arith, place_most, shut_place)

-- A STEP OF AN END, by its own log
pub changed : (f : SessionLog → SessionLog) (session : Option SessionLog) (v : SessionLog) → change f session ≡ Some v → (w : SessionLog) × (session ≡ Some w) × (f w ≡ v)
changed f session v is = grind (arith, none_some)

heard_seen : (slots : ℕ) (message : Option (List ℕ)) (w : SessionLog) → (heard_in slots message w).seen ≡ w.seen + acked_in slots message (Some w)
heard_seen slots message w = grind arith

pub heard_taken : (slots : ℕ) (message : Option (List ℕ)) (w : SessionLog) → (heard_in slots message w).taken ≡ w.taken
heard_taken slots message w = grind (arith, kind_taken)

pub none_acked : (slots : ℕ) (message : Option (List ℕ)) (session : Option SessionLog) → session ≡ None → acked_in slots message session ≡ 0
none_acked slots message session none = grind (arith, none_some)

-- how the end's own log changes
record OwnChange (l m : EndLog) (v : SessionLog) (w : SessionLog) : Type 0 where
  was : l.session ≡ Some w
  gone : m.gone + w.seen ≡ l.gone + v.seen

data OwnLog (l m : EndLog) (v : SessionLog) : Type 0 where
  LogOpened : l.session ≡ None → m.gone ≡ l.gone → OwnLog l m v
  LogStayed : (w : SessionLog) → OwnChange l m v w → OwnLog l m v

own_log : (slots : ℕ) (turns : List Utterance) (answer : NetAnswer) (l : EndLog) (v : SessionLog) → Goes answer → (opens_by answer ≡ true → l.session ≡ None) → (after_answer slots turns answer l).session ≡ Some v
    → OwnLog l (after_answer slots turns answer l) v
own_log slots turns (Took packet true) l v goes shut is =
    let none = none_acked slots (ended_by (half_heard turns) packet) l.session (shut refl) in LogOpened (shut refl) (omega (arith, none))
own_log slots turns (Took packet false) l v goes shut is =
    let message = ended_by (half_heard turns) packet in
    let made = changed (heard_in slots message) l.session v is in
    let seen = heard_seen slots message made.0 in
    LogStayed made.0 (record {
      was = made.1;
      gone = omega (arith, seen, ap (λ (x : SessionLog). x.seen) made.2, ap (acked_in slots message) made.1);
    })
own_log slots turns (Sent packet true) l v goes shut is = LogOpened (shut refl) refl
own_log slots turns (Sent packet false) l v goes shut is =
    let message = ended_by (half_said turns) packet in
    let made = changed (said_in message) l.session v is in
    LogStayed made.0 (record { was = made.1; gone = omega (arith, left_seen message made.0, ap (λ (x : SessionLog). x.seen) made.2) })
own_log slots turns (Published id) l v goes shut is =
    let made = changed more_published l.session v is in LogStayed made.0 (record { was = made.1; gone = omega (arith, ap (λ (x : SessionLog). x.seen) made.2) })
own_log slots turns (Frame frame) l v goes shut is =
    let made = changed more_taken l.session v is in LogStayed made.0 (record { was = made.1; gone = omega (arith, ap (λ (x : SessionLog). x.seen) made.2) })
own_log slots turns (Joined lost) l v goes shut is = absurd goes
own_log slots turns (Reset cause packet lost) l v goes shut is = absurd goes
own_log slots turns _ l v goes shut is = LogStayed v (record { was = is; gone = refl })

own_grows : (slots : ℕ) (turns : List Utterance) (answer : NetAnswer) (l : EndLog) → l.published ≤ (after_answer slots turns answer l).published
own_grows slots turns answer l = grind arith

-- how many frames it took
change_taken : (f : SessionLog → SessionLog) (n : ℕ) (session : Option SessionLog) → ((w : SessionLog) → w.taken + n ≤ (f w).taken) → taken_in session ≤ taken_in (change f session)
change_taken f n session more = grind arith

taken_grows : (slots : ℕ) (turns : List Utterance) (answer : NetAnswer) (l : EndLog) → Goes answer → (opens_by answer ≡ true → l.session ≡ None) → taken_in l.session ≤ taken_in (after_answer slots turns answer l).session
taken_grows slots turns answer l goes shut = grind (arith, change_taken, heard_taken, left_taken)

-- THE END ITSELF makes a step
acts_none : (shape : NetShape) (e : End) (u t : PortState) (l : PortLog) (answer : NetAnswer) (left : NetLeft) → Acts shape e u t l answer left → opens_by answer ≡ true → (log_of_end e l).session ≡ None
acts_none shape e u t l answer left acts opens =
    (open_both (role_at e) shape.slots (queue_of e u) (net_end e u.lane) (log_of_end e l) (end_counted shape e u l acts.finds.ready)).none (acts_shut shape e u t l answer left acts opens)

own_moves : (shape : NetShape) (e : End) (u t : PortState) (l : PortLog) (answer : NetAnswer) (left : NetLeft) → Acts shape e u t l answer left
    → Moves e (peer_of e) u.lane t.lane l (after l (OnLane (Steps e answer)))
own_moves shape e u t l answer left acts = record { grows = grows; changes = changes }
  where
    m : PortLog
    m = after l (OnLane (Steps e answer))

    now : EndLog
    now = after_answer l.shape.slots (transcript_of e l.transcript) answer (log_of_end e l)

    log : LogNow e l answer
    log = log_now e l answer

    grows : (log_of_end e l).published ≤ (log_of_end e m).published
    grows = omega (arith, own_grows l.shape.slots (transcript_of e l.transcript) answer (log_of_end e l), ap (λ (x : EndLog). x.published) log.mine)

    changes : (v : SessionLog) → state_of e t.lane.wire.wire ≡ Up → (log_of_end e m).session ≡ Some v → Change e (peer_of e) u.lane t.lane l m v
    changes v up is =
        let here : now.session ≡ Some v = ap (λ (x : EndLog). x.session) (sym log.mine) ∙ is in
        let goes : Goes answer =
        guest_goes l.shape.slots (transcript_of e l.transcript) answer (log_of_end e l) (λ gone. none_some v (sym gone ∙ here)) in
        let state : state_of (peer_of e) t.lane.wire.wire ≡ state_of (peer_of e) u.lane.wire.wire =
        grind (arith, goes, wire_now, goes_theirs) in
        let same : taken_of (peer_of e) t.lane m ≡ taken_of (peer_of e) u.lane l =
        ap (λ (x : ChannelState). taken_by x (log_of_end (peer_of e) m).session) state ∙ ap (λ (x : EndLog). taken_by (state_of (peer_of e) u.lane.wire.wire) x.session) log.theirs in
        elim (own_log l.shape.slots (transcript_of e l.transcript) answer (log_of_end e l) v goes (acts_none shape e u t l answer left acts) here) [
          | LogOpened none gone ↦ Opened none (ap (λ (x : EndLog). x.gone) log.mine ∙ gone)
          | LogStayed w change_is ↦
              Stayed w (acts_up_at shape e u t l answer left acts goes) change_is.was (omega (arith, change_is.gone, ap (λ (x : EndLog). x.gone) log.mine)) (omega (arith, same))
        ]

-- THE OTHER END, which takes its frames, is reset, or makes a step
anew_moves : (e d : End) (s t : NetLaneState) (l m : PortLog) → log_of_end e m ≡ log_of_end e l → state_of e t.wire.wire ≡ peer_behind (state_of d s.wire.wire) (state_of e s.wire.wire)
    → Moves e d s t l m
anew_moves e d s t l m same behind = record {
  grows = omega (arith, ap (λ (x : EndLog). x.published) same);
  changes = λ v up is.
      let both = peer_up (state_of d s.wire.wire) (state_of e s.wire.wire) (sym behind ∙ up) in
      Stayed v both.1 (ap (λ (x : EndLog). x.session) (sym same) ∙ is) (omega (arith, ap (λ (x : EndLog). x.gone) same))
      (omega (arith, none_down (state_of d s.wire.wire) (log_of_end d l).session both.0));
}

begins_or_goes : (answer : NetAnswer) (x y : ChannelState) → (theirs_now answer x y ≡ peer_behind x y) ⊎ Goes answer
begins_or_goes answer x y = grind arith

taker_moves : (shape : NetShape) (d : End) (u t : PortState) (l : PortLog) (answer : NetAnswer) (left : NetLeft) → Acts shape d u t l answer left
    → Moves (peer_of d) d u.lane t.lane l (after l (OnLane (Steps d answer)))
taker_moves shape d u t l answer left acts =
    let m : PortLog = after l (OnLane (Steps d answer)) in
    let x : ChannelState = state_of d u.lane.wire.wire in
    let y : ChannelState = state_of (peer_of d) u.lane.wire.wire in
    let log : LogNow d l answer = log_now d l answer in
    let state : state_of (peer_of d) t.lane.wire.wire ≡ theirs_now answer x y =
    ap (λ (w : WireLog). state_of (peer_of d) w.wire) acts.now.wire ∙ (wire_now d u.lane answer).theirs in
    elim (begins_or_goes answer x y) [
      | inl behind ↦ anew_moves (peer_of d) d u.lane t.lane l m log.theirs (state ∙ behind)
      | inr goes ↦
          let here : x ≡ Up = acts_up_at shape d u t l answer left acts goes in
          let was : taken_of d u.lane l ≡ taken_in (log_of_end d l).session = ap (λ (z : ChannelState). taken_by z (log_of_end d l).session) here in
          let up_now : state_of d t.lane.wire.wire ≡ Up = ap (λ (w : WireLog). state_of d w.wire) acts.now.wire ∙ (wire_now d u.lane answer).mine ∙ goes_same answer x goes ∙ here in
          let now : taken_of d t.lane m ≡ taken_in (after_answer l.shape.slots (transcript_of d l.transcript) answer (log_of_end d l)).session =
          ap (λ (z : ChannelState). taken_by z (log_of_end d m).session) up_now ∙ ap (λ (z : EndLog). taken_in z.session) log.mine in
          let more = taken_grows l.shape.slots (transcript_of d l.transcript) answer (log_of_end d l) goes (acts_none shape d u t l answer left acts) in
          record {
            grows = omega (arith, ap (λ (z : EndLog). z.published) log.theirs);
            changes = λ v up is.
                Stayed v (sym (state ∙ goes_theirs answer x y goes) ∙ up) (ap (λ (z : EndLog). z.session) (sym log.theirs) ∙ is) (omega (arith, ap (λ (z : EndLog). z.gone) log.theirs))
                (omega (arith, was, now, more));
          }
    ]

-- WHAT DOESN'T TOUCH a session
pub record SameLog (l m : EndLog) : Type 0 where
  pub session : m.session ≡ l.session
  pub gone : m.gone ≡ l.gone
  pub published : m.published ≡ l.published

same_moves : (e d : End) (s t : NetLaneState) (l m : PortLog) → state_of e t.wire.wire ≡ state_of e s.wire.wire → state_of d t.wire.wire ≡ state_of d s.wire.wire
    → SameLog (log_of_end e l) (log_of_end e m) → (log_of_end d m).session ≡ (log_of_end d l).session → Moves e d s t l m
same_moves e d s t l m state peer_state same peer = record {
  grows = omega (arith, same.published);
  changes = λ v up is.
      Stayed v (sym state ∙ up) (sym same.session ∙ is) (omega (arith, same.gone))
      (omega (
        arith,
        ap (λ (x : ChannelState). taken_by x (log_of_end d m).session) peer_state,
        ap (λ (o : Option SessionLog). taken_by (state_of d s.wire.wire) o) peer,
      ));
}

pub given_same : (given : Given) (l : EndLog) → SameLog l (after_given given l)
given_same given l = grind arith

still : (e d : End) (s t : NetLaneState) (l m : PortLog) → state_of e t.wire.wire ≡ state_of e s.wire.wire → state_of d t.wire.wire ≡ state_of d s.wire.wire → log_of_end e m ≡ log_of_end e l
    → log_of_end d m ≡ log_of_end d l → Moves e d s t l m
still e d s t l m state peer_state same peer =
    same_moves e d s t l m state peer_state
    (record { session = ap (λ (x : EndLog). x.session) same; gone = ap (λ (x : EndLog). x.gone) same; published = ap (λ (x : EndLog). x.published) same }) (ap (λ (x : EndLog). x.session) peer)

-- AN EVENT
pub event_moves : (shape : NetShape) (d : End) (u t : PortState) (l : PortLog) (event : NetEvent) → OfQueue u event → Finds shape u l → NetLaneStep u.lane event t.lane → (moved_on l.wire (on_wire event)).forged ≡ false
    → Kept shape t (after l (OnLane event)) → PortTwoEnds shape (lane_core t.lane) (after l (OnLane event)) → Moves (peer_of d) d u.lane t.lane l (after l (OnLane event))
event_moves shape B u t l (Steps A answer) of_queue finds step clean kept two_ends = own_moves shape A u t l answer step.left (acts_of shape A u t l answer finds step kept.counts two_ends)
event_moves shape A u t l (Steps B answer) of_queue finds step clean kept two_ends = own_moves shape B u t l answer step.left (acts_of shape B u t l answer finds step kept.counts two_ends)
event_moves shape d u t l (Steps _ answer) of_queue finds step clean kept two_ends = taker_moves shape d u t l answer step.left (acts_of shape d u t l answer finds step kept.counts two_ends)
event_moves shape A u t l (Asked A lost) of_queue finds step clean kept two_ends = anew_moves B A u.lane t.lane l (after l (OnLane (Asked A lost))) refl (ap (λ (x : NetLaneState). x.wire.wire.end_b) step.1)
event_moves shape B u t l (Asked B lost) of_queue finds step clean kept two_ends = anew_moves A B u.lane t.lane l (after l (OnLane (Asked B lost))) refl (ap (λ (x : NetLaneState). x.wire.wire.end_a) step.1)
event_moves shape _ u t l (Asked e lost) of_queue finds step clean kept two_ends = record { grows = omega arith; changes = λ v up is. none_some v is }
event_moves shape A u t l (Ticked queued lost) of_queue finds step clean kept two_ends = anew_moves B A u.lane t.lane l (after l (OnLane (Ticked queued lost))) refl (ap (λ (x : NetLaneState). x.wire.wire.end_b) step.1.1)
event_moves shape B u t l (Ticked queued lost) of_queue finds step clean kept two_ends = record { grows = omega arith; changes = λ v up is. none_some v is }
event_moves shape B u t l (Gives A given) of_queue finds step clean kept two_ends =
    same_moves A B u.lane t.lane l (after l (OnLane (Gives A given))) (ap (λ (x : NetLaneState). x.wire.wire.end_a) step.1) (ap (λ (x : NetLaneState). x.wire.wire.end_b) step.1) (given_same given l.guest) refl
event_moves shape A u t l (Gives A given) of_queue finds step clean kept two_ends =
    same_moves B A u.lane t.lane l (after l (OnLane (Gives A given))) (ap (λ (x : NetLaneState). x.wire.wire.end_b) step.1) (ap (λ (x : NetLaneState). x.wire.wire.end_a) step.1)
    (record { session = refl; gone = refl; published = refl }) (given_same given l.guest).session
event_moves shape d u t l (Gives B given) of_queue finds step clean kept two_ends = absurd of_queue
event_moves shape d u t l (Injects e packet) of_queue finds step clean kept two_ends = true_false clean
event_moves shape d u t l (Pokes e at bytes) of_queue finds step clean kept two_ends = true_false clean
event_moves shape A u t l (Loses A packet) of_queue finds step clean kept two_ends =
    still B A u.lane t.lane l (after l (OnLane (Loses A packet))) (ap (λ (x : NetLaneState). x.wire.wire.end_b) step.1) (ap (λ (x : NetLaneState). x.wire.wire.end_a) step.1) refl refl
event_moves shape B u t l (Loses A packet) of_queue finds step clean kept two_ends =
    still A B u.lane t.lane l (after l (OnLane (Loses A packet))) (ap (λ (x : NetLaneState). x.wire.wire.end_a) step.1) (ap (λ (x : NetLaneState). x.wire.wire.end_b) step.1) refl refl
event_moves shape A u t l event of_queue finds step clean kept two_ends =
    still B A u.lane t.lane l (after l (OnLane event)) (ap (λ (x : NetLaneState). x.wire.wire.end_b) step.1) (ap (λ (x : NetLaneState). x.wire.wire.end_a) step.1) refl refl
event_moves shape B u t l event of_queue finds step clean kept two_ends =
    still A B u.lane t.lane l (after l (OnLane event)) (ap (λ (x : NetLaneState). x.wire.wire.end_a) step.1) (ap (λ (x : NetLaneState). x.wire.wire.end_b) step.1) refl refl

-- THE LIST of frames that an end was given only grows
abbrev Grown : List (List ℕ) → List (List ℕ) → Type 0
Grown before_it behind = (more : List (List ℕ)) × (behind ≡ before_it ++ more)

same_given : (given : List (List ℕ)) → Grown given given
same_given given = ([], sym (append-nil given))

answer_given : (slots : ℕ) (turns : List Utterance) (answer : NetAnswer) (l : EndLog) → Grown l.given (after_answer slots turns answer l).given
answer_given slots turns (Took packet true) l = same_given l.given
answer_given slots turns (Sent packet true) l = same_given l.given
answer_given slots turns _ l = same_given l.given

given_more : (given : Given) (l : EndLog) → Grown l.given (after_given given l).given
given_more (Queued id frame) l = (frame ∷ [], refl)
given_more _ l = same_given l.given

event_given : (e : End) (l : PortLog) (event : NetEvent) → Grown (log_of_end e l).given (log_of_end e (after l (OnLane event))).given
event_given A l (Steps A answer) = answer_given l.shape.slots l.transcript.a answer l.guest
event_given B l (Steps B answer) = answer_given l.shape.slots l.transcript.b answer l.hub
event_given A l (Asked A lost) = same_given l.guest.given
event_given B l (Asked A lost) = same_given l.hub.given
event_given A l (Gives A given) = given_more given l.guest
event_given B l (Gives B given) = given_more given l.hub
event_given A l _ = same_given l.guest.given
event_given B l _ = same_given l.hub.given

-- A FRAME THAT IS TAKEN is the next, and the place rises
next_place : (x : ChannelState) (session : Option SessionLog) (gone published taken : ℕ) (w : SessionLog) → x ≡ Up → session ≡ Some w → place_by x session gone published taken ≡ gone + (taken - w.seen)
next_place x session gone published taken w up log = grind arith

record Next (e d : End) (s t : NetLaneState) (l m : PortLog) (frame : List ℕ) : Type 0 where
  get : slice_get (log_of_end e l).given (place e d s l) ≡ Some frame
  more : place e d s l + 1 ≤ place e d t m

next_of : (shape : NetShape) (d : End) (u : PortState) (l : PortLog) (frame : List ℕ) (t : NetLaneState) → Finds shape u l → EndSteps d u.lane (Frame frame) t
    → Next (peer_of d) d u.lane t l (after l (OnLane (Steps d (Frame frame)))) frame
next_of shape d u l frame t finds step =
    let takes : TakesPublished shape d u l frame step.step.new = takes_published shape d u l frame t finds step in
    let now = step_now d u.lane t (Frame frame) step in
    let logs = log_now d l (Frame frame) in
    let e : End = peer_of d in
    let g : EndLog = log_of_end e l in
    let m : PortLog = after l (OnLane (Steps d (Frame frame))) in
    let counts = end_counted shape e u l finds.ready in
    let log = open_counts (role_at e) shape.slots (queue_of e u) (net_end e u.lane) g takes.p counts takes.theirs in
    let seen : log.of_log.seen ≡ takes.p.seen = sym (left_seen (unsaid (net_end e u.lane)) log.of_log) ∙ log.counts.ring.seen in
    let taken : taken_of d u.lane l ≡ takes.v.taken = ap (λ (x : ChannelState). taken_by x (log_of_end d l).session) takes.up ∙ ap taken_in takes.mine in
    let here = next_place (state_of e u.lane.wire.wire) g.session g.gone g.published (taken_of d u.lane l) log.of_log takes.peer_up log.is in
    let at : g.gone + (takes.v.taken - takes.p.seen) ≡ place e d u.lane l = omega (arith, here, seen, taken) in
    let then_taken : taken_of d t m ≡ takes.v.taken + 1 = grind arith in
    let then_ = next_place (state_of e t.wire.wire) (log_of_end e m).session (log_of_end e m).gone (log_of_end e m).published (taken_of d t m) log.of_log
    (ap (λ (w : WireLog). state_of e w.wire) now.wire ∙ takes.peer_up) (ap (λ (x : EndLog). x.session) logs.theirs ∙ log.is) in
    let first = takes.ring.seen_first in
    record {
      get = subst (λ (n : ℕ). slice_get g.given n ≡ Some frame) at
          (held_given (net_end e u.lane).frames (queue_of e u) g.given g.gone (takes.v.taken - takes.p.seen) frame counts.frames takes.found.next);
      more = omega (arith, here, then_, then_taken, taken, seen, first, ap (λ (x : EndLog). x.gone) logs.theirs);
    }

-- ONE MORE EVENT
goes_below : (n k : ℕ) (frames new given behind : List (List ℕ)) → new ≡ [] → n ≤ k → Grown given behind → Below 0 n frames given → Below 0 k (frames ++ new) behind
goes_below n k frames new given behind none less grown below = grind (arith, Below, append-nil, below_given, below_more)

last_below : (n k : ℕ) (frames new given behind : List (List ℕ)) (frame : List ℕ) → new ≡ frame ∷ [] → slice_get given n ≡ Some frame → n + 1 ≤ k → Grown given behind → Below 0 n frames given
    → Below 0 k (frames ++ new) behind
last_below n k frames new given behind frame one get less grown below =
    rw one (subst (Below 0 k (frames ++ frame ∷ [])) (sym grown.1)
    (below_given 0 k (frames ++ frame ∷ []) given grown.0 (below_more 0 (n + 1) k (frames ++ frame ∷ []) given less (below_last 0 n frames given frame get below))))

record TakesOne (d : End) (event : NetEvent) : Type 0 where
  frame : List ℕ
  event_is : event ≡ Steps d (Frame frame)
  took_is : took d (OnLane event) ≡ frame ∷ []

takes_one : (d : End) (event : NetEvent) → (took d (OnLane event) ≡ []) ⊎ TakesOne d event
takes_one d event = grind arith

before_place : (e d : End) (event : NetEvent) (s : PortState) (l : PortLog) → place e d (before event s).lane l ≡ place e d s.lane l
before_place e d event s l = grind (arith, before_wire)

frame_next : (shape : NetShape) → IsNetShape shape → (d : End) (s : PortState) (l : PortLog) (event : NetEvent) (t : PortState) → (one : TakesOne d event) → Kept shape s l → PortStep s (OnLane event) t
    → l.wire.forged ≡ false → Next (peer_of d) d (before event s).lane t.lane l (after l (OnLane event)) one.frame
frame_next shape is d s l event t one kept step clean =
    let frame_event : NetEvent = Steps d (Frame one.frame) in
    let made : PortStep s (OnLane frame_event) t → Next (peer_of d) d (before frame_event s).lane t.lane l (after l (OnLane frame_event)) one.frame = λ of_frame.
    next_of shape d (before frame_event s) l one.frame t.lane (finds_before shape s l frame_event is kept clean) of_frame.1 in
    subst (λ (x : NetEvent). PortStep s (OnLane x) t → Next (peer_of d) d (before x s).lane t.lane l (after l (OnLane x)) one.frame) (sym one.event_is) made step

-- the frames that each end took
pub record Once (shape : NetShape) (s : PortState) (l : PortLog) (by_end : End → List (List ℕ)) : Type 0 where
  pub kept : Kept shape s l
  in_order : (d : End) → l.wire.forged ≡ false → Below 0 (place (peer_of d) d s.lane l) (by_end d) (log_of_end (peer_of d) l).given

once_lane : (shape : NetShape) → IsNetShape shape → (s : PortState) (l : PortLog) (event : NetEvent) (t : PortState) (by_end : End → List (List ℕ)) → Once shape s l by_end → PortStep s (OnLane event) t
    → Once shape t (after l (OnLane event)) (λ d. by_end d ++ took d (OnLane event))
once_lane shape is s l event t by_end had step = record { kept = kept; in_order = in_order }
  where
    u : PortState
    u = before event s

    m : PortLog
    m = after l (OnLane event)

    kept : Kept shape t m
    kept = kept_step shape is s l (OnLane event) t had.kept step

    place_rises : (d : End) → m.wire.forged ≡ false → place (peer_of d) d s.lane l ≤ place (peer_of d) d t.lane m
    place_rises d clean =
        let was : l.wire.forged ≡ false = was_clean l.wire event clean in
        let finds : Finds shape u l = finds_before shape s l event is had.kept was in
        let found : Finds shape t m = finds_before shape t m (CalmTick 0) is kept clean in
        let wire : t.lane.wire.forged ≡ false = ap (λ (w : WireLog). w.forged) kept.counts.wire ∙ clean in
        let moves = event_moves shape d u t l event (before_queue event s step.0) finds step.1 clean kept (port_two_ends shape t m is kept.counts wire) in
        let rise = rises (peer_of d) d u.lane t.lane l m (bounds shape d u l finds) (bounds shape d t m found) moves in
        omega (arith, rise, before_place (peer_of d) d event s l)

    in_order : (d : End) → m.wire.forged ≡ false → Below 0 (place (peer_of d) d t.lane m) (by_end d ++ took d (OnLane event)) (log_of_end (peer_of d) m).given
    in_order d clean =
        let was : l.wire.forged ≡ false = was_clean l.wire event clean in
        let n : ℕ = place (peer_of d) d s.lane l in
        let k : ℕ = place (peer_of d) d t.lane m in
        let given : List (List ℕ) = (log_of_end (peer_of d) l).given in
        elim (takes_one d event) [
          | inl none ↦ goes_below n k (by_end d) (took d (OnLane event)) given (log_of_end (peer_of d) m).given none (place_rises d clean) (event_given (peer_of d) l event) (had.in_order d was)
          | inr one ↦
              let next = frame_next shape is d s l event t one had.kept step was in
              let same = before_place (peer_of d) d event s l in
              last_below n k (by_end d) (took d (OnLane event)) given (log_of_end (peer_of d) m).given one.frame one.took_is (subst (λ (i : ℕ). slice_get given i ≡ Some one.frame) same next.get)
              (subst (λ (i : ℕ). i + 1 ≤ k) same next.more) (event_given (peer_of d) l event) (had.in_order d was)
        ]

received_given : (e : End) (l : PortLog) (frame : List ℕ) → Grown (log_of_end e l).given (log_of_end e (after l (Receives frame))).given
received_given A l frame = same_given l.guest.given
received_given B l frame = (frame ∷ [], refl)

received_place : (d : End) (s : NetLaneState) (l : PortLog) (frame : List ℕ) → place (peer_of d) d s (after l (Receives frame)) ≡ place (peer_of d) d s l
received_place d s l frame = grind arith

received_none : (d : End) (frame : List ℕ) → took d (Receives frame) ≡ []
received_none d frame = grind arith

pub once_step : (shape : NetShape) → IsNetShape shape → (s : PortState) (l : PortLog) (event : PortEvent) (t : PortState) (by_end : End → List (List ℕ)) → Once shape s l by_end → PortStep s event t
    → Once shape t (after l event) (λ d. by_end d ++ took d event)
once_step shape is s l (OnLane event) t by_end had step = once_lane shape is s l event t by_end had step
once_step shape is s l (Receives frame) t by_end had step = record {
  kept = kept_step shape is s l (Receives frame) t had.kept step;
  in_order = grind (arith, received_place, goes_below, received_none, received_given);
}

-- ALONG A RUN
same_once : (shape : NetShape) (s : PortState) (l : PortLog) (by_end now : End → List (List ℕ)) → ((d : End) → by_end d ≡ now d) → Once shape s l by_end → Once shape s l now
same_once shape s l by_end now same had = grind (arith, Below)

along : (shape : NetShape) → IsNetShape shape → (events : List PortEvent) (s t : PortState) (l : PortLog) (by_end : End → List (List ℕ)) → Once shape s l by_end → Run PortStep s events t
    → Once shape t (log_of after l events) (λ d. by_end d ++ frames_taken d events)
along shape is [] s t l by_end had run =
    subst (λ (x : PortState). Once shape x l (λ d. by_end d ++ [])) run (same_once shape s l by_end (λ d. by_end d ++ []) (λ d. sym (append-nil (by_end d))) had)
along shape is (event ∷ events) s t l by_end had run =
    same_once shape t (log_of after (after l event) events) (λ d. (by_end d ++ took d event) ++ frames_taken d events) (λ d. by_end d ++ (took d event ++ frames_taken d events))
    (λ d. append_assoc (by_end d) (took d event) (frames_taken d events))
    (along shape is events run.0 t (after l event) (λ d. by_end d ++ took d event) (once_step shape is s l event run.0 by_end had run.1) run.2)

pub fresh_once : (shape : NetShape) → IsNetShape shape → Once shape (fresh_port shape) (no_events shape) (λ d. [])
unfolding Below
fresh_once shape is = record { kept = fresh_kept shape is; in_order = λ d clean. omega arith }

takes_in_order : (shape : NetShape) (events : List PortEvent) (s : PortState) (d : End) → IsNetShape shape → Run PortStep (fresh_port shape) events s → s.lane.wire.forged ≡ false
    → InOrder 0 (frames_taken d events) (log_of_end (peer_of d) (log_of after (no_events shape) events)).given
takes_in_order shape events s d is run clean =
    let all = along shape is events (fresh_port shape) s (no_events shape) (λ x. []) (fresh_once shape is) run in
    grind (arith, all, log_of after (no_events shape) events, below_in)

pub hub_takes_in_order : (shape : NetShape) (events : List PortEvent) (s : PortState) → IsNetShape shape → Run PortStep (fresh_port shape) events s → s.lane.wire.forged ≡ false
    → InOrder 0 (frames_taken B events) (log_of after (no_events shape) events).guest.given
hub_takes_in_order shape events s is run clean = takes_in_order shape events s B is run clean

pub guest_takes_in_order : (shape : NetShape) (events : List PortEvent) (s : PortState) → IsNetShape shape → Run PortStep (fresh_port shape) events s → s.lane.wire.forged ≡ false
    → InOrder 0 (frames_taken A events) (log_of after (no_events shape) events).hub.given
guest_takes_in_order shape events s is run clean = takes_in_order shape events s A is run clean
