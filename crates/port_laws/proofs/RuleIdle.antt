-- Where the ends of a port may be idle: nothing waits, and in session nothing is left to do.
use Rattle.std.proofs.Common.{◌≡◌, ℕ, ◌+◌, ◌-◌, ◌<◌, ◌≤◌, Bool, true, false, ◌⊎◌, inl, inr, Option, Some, None, List, [], length, refl, subst, ap, arith, length-append}
use Rattle.std.specs.Prelude.{◌&&◌, nat_lt, not, slice_get}
use Rattle.std.proofs.lemmas.Bool.{lt-ltb}
use Rattle.std.proofs.lemmas.Bool.Decides.{nat_tests}
use Rattle.std.proofs.lemmas.Option.{slice_get_cases}
use Rattle.ldc_link.specs.declared.phase.Role.{Role}
use Rattle.ldc_link.specs.declared.phase.Role.TheVariants.{Initiator, Responder}
use Rattle.ldc_queue.specs.declared.end.End.{End}
use Rattle.ldc_queue.specs.declared.end.End.TheVariants.{A, B}
use Rattle.ldc_queue.specs.Wire.{waiting_for}
use Rattle.runs.specs.Lawful.{Lawful}
use Rattle.runs.specs.Run.{Run}
use Rattle.lane_models.specs.Seeing.{Seen}
use Rattle.lane_models.specs.WireLog.{WireLog}
use Rattle.lane_models.proofs.Moving.{before_keeps}
use Rattle.lane_models.proofs.Refuting.{false_true, none_some, true_false}
use Rattle.lane_models.proofs.Ruling.{says_of}
use Rattle.lane_models.specs.EndLog.{EndLog, SessionLog}
use Rattle.lane_models.specs.FrameLaws.{IfSession}
use Rattle.lane_models.specs.FramesStand.{FramesStand}
use Rattle.lane_models.specs.NetEndRule.{Idles, port_rule, publishes, tells_first}
use Rattle.lane_models.specs.NetEndState.{NetEndState, NetSession, unseen_in}
use Rattle.lane_models.specs.NetEndStep.{Idle}
use Rattle.lane_models.specs.NetEvent.{NetEvent, Steps}
use Rattle.lane_models.specs.NetLaneState.{IsNetShape, NetShape, net_end, role_at, seen_at}
use Rattle.lane_models.specs.NetLaneStep.{NetLaneStep}
use Rattle.lane_models.specs.PortLog.{PortLog, after, no_events}
use Rattle.lane_models.specs.PortState.{OnLane, PortEvent, PortState, PortStep, before, fresh_port, moved, moves_first, takes_more}
use Rattle.lane_models.specs.RestLaws.{AllPublished, IdleAt, IsIdle, IsTold}
use Rattle.lane_models.specs.RuleFacts.{IfOpen, IsEndFree, MayListen}
use Rattle.lane_models.proofs.EndsAtRest.{none_waits}
use Rattle.port_laws.specs.Counted.{EndCounts, GroupCounts}
use Rattle.port_laws.proofs.EndCounting.{OpenCounts, empty_unsaid, open_counts, open_empty}
use Rattle.port_laws.proofs.PortCounts.{PortCounts, Ready}
use Rattle.port_laws.proofs.RuleFrames.{along, both_open, end_acts, if_session}
use Rattle.port_laws.proofs.TookCounts.{free_empty}

-- WHERE NO RULE APPLIES in session
pub record NothingLeft (role : Role) (s : NetEndState) (p : NetSession) : Type 0 where
  pub told : role ≡ Initiator → (p.untold && not p.telling) ≡ false
  pub published : slice_get s.frames (unseen_in p) ≡ None
  pub announced : (nat_lt p.seen p.published && not p.asking) ≡ false

record PublishesNone (s : NetEndState) (p : NetSession) : Type 0 where
  published : slice_get s.frames (unseen_in p) ≡ None
  announced : (nat_lt p.seen p.published && not p.asking) ≡ false

publishes_none : (s : NetEndState) (p : NetSession) (frame : Option (List ℕ)) → slice_get s.frames (unseen_in p) ≡ frame → publishes p frame ≡ Idles → PublishesNone s p
publishes_none s p frame is idles = grind arith

time_none : (role : Role) (s : NetEndState) (p : NetSession) → tells_first role p (publishes p (slice_get s.frames (unseen_in p))) ≡ Idles → NothingLeft role s p
time_none role s p idles = grind (arith, publishes_none)

pub rule_left : (role : Role) (s : NetEndState) (at : Seen) (p : NetSession) → IsEndFree s at → at.first ≡ None → s.session ≡ Some p → MayListen p → port_rule role s at ≡ Idles → NothingLeft role s p
rule_left role s at p free first session listens idles = grind (arith, time_none)

-- AN IDLE END in session
pub past_end : (frames : List (List ℕ)) (i : ℕ) → slice_get frames i ≡ None → length frames ≤ i
past_end frames i none = grind (arith, slice_get_cases, none_some)

idle_told : (b : Bool) (p : NetSession) (groups members : List (List ℕ)) (l : PortLog) (v : SessionLog) → p.untold ≡ b → (p.untold && not p.telling) ≡ false → GroupCounts p groups v → groups ≡ members → l.members ≡ members
    → IsTold l v v.membership
idle_told b p groups members l v untold none counts same is = grind (arith, true_false, false_true)

pub record IdleCounts (role : Role) (slots : ℕ) (queue : List (List ℕ)) (s : NetEndState) (l : EndLog) (v : SessionLog) : Type 0 where
  pub answered : v.acks ≡ v.asked
  pub announced : v.seen < v.published → v.asking ≡ true
  pub all : l.published + length queue ≡ length l.given
  pub unseen : v.published - v.seen ≡ length s.frames
  pub replied : v.owed ≡ None

pub idle_counts : (role : Role) (slots : ℕ) (queue : List (List ℕ)) (s : NetEndState) (l : EndLog) (v : SessionLog) (p : NetSession) → EndCounts role slots queue s l → FramesStand s → s.session ≡ Some p → l.session ≡ Some v
    → s.link.to_send ≡ [] → MayListen p → NothingLeft role s p → IdleCounts role slots queue s l v
idle_counts role slots queue s l v p counts stands session log empty listens left =
    grind (arith, open_empty, past_end, true_false, false_true, lt-ltb)

-- THE GUEST'S END
guest_idle : (shape : NetShape) (u : PortState) (l : PortLog) → Ready shape u l → port_rule Initiator u.lane.guest (seen_at A u.lane) ≡ Idles → IfSession l.guest.session (IsIdle A l)
guest_idle shape u l ready idles =
    let says = says_of Initiator u.lane.guest (seen_at A u.lane) Idles idles in
    let acting = end_acts shape A u l ready says.0.up in
    let empty = free_empty Initiator u.lane.guest l.transcript.a acting.ends says.0.quiet in
    if_session l.guest.session (IsIdle A l) (λ v log.
    let both = both_open Initiator shape.slots [] u.lane.guest l.guest v ready.guest log in
    let listens : MayListen both.p = subst (λ (x : Option NetSession). IfOpen x MayListen) both.is says.2 in
    let left : NothingLeft Initiator u.lane.guest both.p = rule_left Initiator u.lane.guest (seen_at A u.lane) both.p says.0 says.1 both.is listens idles in
    let counts = idle_counts Initiator shape.slots [] u.lane.guest l.guest v both.p ready.guest ready.stands.0 both.is log empty listens left in
    let here : OpenCounts Initiator shape.slots u.lane.guest.groups l.guest.published l.guest.gone None u.lane.guest.link.begun both.p l.guest.session =
    subst (λ (x : Option (List ℕ)). OpenCounts Initiator shape.slots u.lane.guest.groups l.guest.published l.guest.gone x u.lane.guest.link.begun both.p l.guest.session)
    (empty_unsaid u.lane.guest empty) (open_counts Initiator shape.slots [] u.lane.guest l.guest both.p ready.guest both.is) in
    let all : l.guest.published + 0 ≡ length l.guest.given = counts.all in
    record {
      answered = counts.answered;
      published = omega (arith, all);
      announced = counts.announced;
      told = grind (arith, idle_told);
      replied = counts.replied;
    })

-- THE HUB'S END: where a frame moved to it, or could have, one is left to publish
hub_left : (b : Bool) (queue : List (List ℕ)) (s : PortState) (p : NetSession) → takes_more s.lane.hub ≡ b → s.queue ≡ queue → FramesStand s.lane.hub → (moves_first b queue s).lane.hub.session ≡ Some p
    → length (moves_first b queue s).lane.hub.frames ≤ unseen_in p → (moves_first b queue s).lane.hub.slots ≡ s.lane.hub.slots
    → (length (moves_first b queue s).queue ≡ 0) ⊎ (length (moves_first b queue s).lane.hub.frames ≡ s.lane.hub.slots)
hub_left b queue s p takes is stands session past same = grind (arith, length-append, nat_tests, false_true)

hub_idle : (shape : NetShape) (s : PortState) (l : PortLog) → PortCounts shape s l → Ready shape (moved s) l → port_rule Responder (moved s).lane.hub (seen_at B (moved s).lane) ≡ Idles
    → IfSession l.hub.session (IsIdle B l)
hub_idle shape s l kept ready idles =
    let u : PortState = moved s in
    let says = says_of Responder u.lane.hub (seen_at B u.lane) Idles idles in
    let acting = end_acts shape B u l ready says.0.up in
    let empty = free_empty Responder u.lane.hub l.transcript.b acting.ends says.0.quiet in
    if_session l.hub.session (IsIdle B l) (λ v log.
    let both = both_open Responder shape.slots u.queue u.lane.hub l.hub v ready.hub log in
    let listens : MayListen both.p = subst (λ (x : Option NetSession). IfOpen x MayListen) both.is says.2 in
    let left : NothingLeft Responder u.lane.hub both.p = rule_left Responder u.lane.hub (seen_at B u.lane) both.p says.0 says.1 both.is listens idles in
    let counts = idle_counts Responder shape.slots u.queue u.lane.hub l.hub v both.p ready.hub ready.stands.1 both.is log empty listens left in
    let past : length u.lane.hub.frames ≤ unseen_in both.p = past_end u.lane.hub.frames (unseen_in both.p) left.published in
    let slots_same : u.lane.hub.slots ≡ s.lane.hub.slots = before_keeps (λ (x : PortState). x.lane.hub.slots ≡ s.lane.hub.slots) (Steps B Idle) s (λ frame frames. refl) refl in
    let shape_slots : l.shape.slots ≡ shape.slots = ap (λ (x : NetShape). x.slots) ready.shape_is in
    let all : AllPublished B l v =
    elim (hub_left (takes_more s.lane.hub) s.queue s both.p refl refl kept.stands.1 both.is past slots_same) [
      | inl none ↦ inl (omega (arith, none, counts.all))
      | inr full ↦ inr (omega (arith, full, counts.unseen, slots_same, ready.hub.slots_is, shape_slots))
    ] in
    record { answered = counts.answered; published = all; announced = counts.announced; told = tt; replied = counts.replied })

-- NOTHING WAITS
idle_waits : (shape : NetShape) (e : End) (u : PortState) (l : PortLog) → Ready shape u l → port_rule (role_at e) (net_end e u.lane) (seen_at e u.lane) ≡ Idles → waiting_for e l.wire.wire ≡ []
idle_waits shape e u l ready idles =
    let says = says_of (role_at e) (net_end e u.lane) (seen_at e u.lane) Idles idles in
    subst (λ (w : WireLog). waiting_for e w.wire ≡ []) ready.wire (none_waits (waiting_for e u.lane.wire.wire) says.1)

idle_event : (shape : NetShape) (s : PortState) (l : PortLog) (event : NetEvent) (t : PortState) → PortCounts shape s l → Ready shape (before event s) l → NetLaneStep (before event s).lane event t.lane
    → IdleAt l (OnLane event)
idle_event shape s l (Steps A Idle) t kept ready step = (idle_waits shape A s l ready step.step.0, guest_idle shape s l ready step.step.0)
idle_event shape s l (Steps B Idle) t kept ready step = (idle_waits shape B (moved s) l ready step.step.0, hub_idle shape s l kept ready step.step.0)
idle_event shape s l _ t kept ready step = tt

pub port_idle : (shape : NetShape) (events : List PortEvent) (s : PortState) → IsNetShape shape → Run PortStep (fresh_port shape) events s → Lawful IdleAt after (no_events shape) events
port_idle shape events s is run = along shape IdleAt is (λ x l event t counts ready step. idle_event shape x l event t counts ready step.1) (λ l frame. tt) events s run
