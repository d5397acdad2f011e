-- A calm turn of a port that nobody forged and on which nothing was lost: first the guest's end and then the switch's is idle or finds no
-- room. Then the port is finished.
use Rattle.std.proofs.Common.{◌≡◌, ◌≢◌, ℕ, ◌+◌, ◌≤◌, Bool, true, false, Option, Some, None, List, [], ◌∷◌, ◌++◌, length, refl, sym, subst, ap, ◌∙◌, arith, length-append}
use Rattle.std.specs.Prelude.{is_some, nat_lt}
use Rattle.std.proofs.lemmas.Bool.Decides.{nat_tests}
use Rattle.ldc_link.specs.declared.phase.Role.TheVariants.{Initiator, Responder}
use Rattle.ldc_queue.specs.declared.end.End.TheVariants.{A, B}
use Rattle.runs.specs.Lawful.{log_append, log_of}
use Rattle.runs.specs.Run.{Run, run_push}
use Rattle.lane_models.specs.WireLog.{WireLog}
use Rattle.lane_models.proofs.Refuting.{none_some, true_false}
use Rattle.lane_models.specs.EndLog.{SessionLog, held}
use Rattle.lane_models.specs.FrameLaws.{InSession, IsFinished, TickAt, ToldAll}
use Rattle.lane_models.specs.NetEndState.{joined_net_end, unseen}
use Rattle.lane_models.specs.NetEndStep.{Blocked, Idle, NetAnswer}
use Rattle.lane_models.specs.NetEvent.{CalmTick, NetEvent, Steps, Ticked}
use Rattle.lane_models.specs.NetLaneState.{IsNetShape, NetShape, with_net_end}
use Rattle.lane_models.specs.NetLaneStep.{is_finished, net_wire}
use Rattle.lane_models.specs.PortLog.{PortLog, after, no_events}
use Rattle.lane_models.specs.PortMay.{PortMay}
use Rattle.lane_models.specs.PortState.{OnLane, PortEvent, PortState, PortStep, before, fresh_port, moves_first, takes_more}
use Rattle.port_laws.specs.RemainingSteps.{IsCalm}
use Rattle.port_laws.specs.NoneLeft.{AllSeen, NoneLeftAt}
use Rattle.port_laws.specs.NoneUntold.{NoneUntoldAt}
use Rattle.port_laws.proofs.EveryRun.{every_run}
use Rattle.port_laws.proofs.LastEvent.{last_lawful, many_entries}
use Rattle.port_laws.proofs.NeverFull.{never_full}
use Rattle.port_laws.proofs.RingActs.{open_both}
use Rattle.port_laws.proofs.RingRuns.{finds_before, port_kept}
use Rattle.port_laws.proofs.RuleFrames.{held_frames}
use Rattle.port_laws.proofs.RuleNoneLeft.{idle_end, port_none_left}
use Rattle.port_laws.proofs.RuleNoneUntold.{port_none_untold}
use Rattle.port_laws.proofs.RuleRest.{port_ticks}
use Rattle.port_laws.proofs.RuleSlots.{by_forged}
use Rattle.port_laws.proofs.RuleUnforged.{in_some}

lt_some : (n : ℕ) → 1 ≤ n → nat_lt 0 n ≡ true
lt_some n some = grind (arith, nat_tests, some)

-- THE OUT QUEUE is empty where no frame is held behind the move
queue_empty : (b : Bool) (queue : List (List ℕ)) (s : PortState) → takes_more s.lane.hub ≡ b → s.queue ≡ queue → 1 ≤ s.lane.hub.slots → is_some s.lane.hub.session ≡ true
    → length (moves_first b queue s).lane.hub.frames ≡ 0 → (moves_first b queue s).queue ≡ []
queue_empty b queue s takes is slots opened none = grind (arith, length-append, true_false, lt_some)

some_not : {X : Type 0} (o : Option X) (x : X) → o ≡ Some x → o ≢ None
some_not {X} o x is none = none_some x (sym none ∙ is)

-- BOTH IDLE
pub idle_turn : (shape : NetShape) (events : List PortEvent) (s m t : PortState) → IsNetShape shape → Run PortStep (fresh_port shape) events s → s.lane.wire.forged ≡ false → s.lane.wire.lossy ≡ false
    → PortStep s (OnLane (Steps A Idle)) m → PortStep m (OnLane (Steps B Idle)) t → is_finished t.lane (length t.queue) ≡ true
idle_turn shape events s m t is run clean whole first second =
    let one : PortEvent = OnLane (Steps A Idle) in
    let two : PortEvent = OnLane (Steps B Idle) in
    let so_far : List PortEvent = events ++ one ∷ [] in
    let all : List PortEvent = so_far ++ two ∷ [] in
    let l : PortLog = log_of after (no_events shape) so_far in
    let run_one = run_push PortStep (fresh_port shape) s m events one run first in
    let run_all = run_push PortStep (fresh_port shape) m t so_far two run_one second in
    let log = log_append after (no_events shape) events (one ∷ []) in
    let wire : l.wire ≡ s.lane.wire =
    ap (λ (x : PortLog). x.wire) log ∙ sym (port_kept shape events s is run).counts.wire in
    let last : l.last_idle ≡ Some A = ap (λ (x : PortLog). x.last_idle) log in
    let unforged : l.wire.forged ≡ false = ap (λ (w : WireLog). w.forged) wire ∙ clean in
    let lossless : l.wire.lossy ≡ false = ap (λ (w : WireLog). w.lossy) wire ∙ whole in
    let none = last_lawful shape NoneLeftAt so_far two (port_none_left shape all t is run_all) last unforged lossless in
    let told : InSession l.guest.session (ToldAll l) =
    (last_lawful shape NoneUntoldAt so_far two (port_none_untold shape all t is run_all) last unforged lossless).0 in
    let u : PortState = before (Steps B Idle) m in
    let finds = finds_before shape m l (Steps B Idle) is (port_kept shape so_far m is run_one) unforged in
    let found = finds_before shape m l (CalmTick 0) is (port_kept shape so_far m is run_one) unforged in
    let session : (v : SessionLog) × (l.hub.session ≡ Some v) × AllSeen v = in_some l.hub.session AllSeen none.hub in
    let no_frames : length u.lane.hub.frames ≡ 0 =
    omega (arith, (idle_end shape B u l session.0 finds second.1.step.0 session.1).unseen, session.2) in
    let opened : is_some m.lane.hub.session ≡ true =
    (open_both Responder shape.slots m.queue m.lane.hub l.hub found.ready.hub).opened (some_not l.hub.session session.0 session.1) in
    let no_queue : u.queue ≡ [] =
    queue_empty (takes_more m.lane.hub) m.queue m refl refl (omega (arith, found.ready.hub.slots_is, is.some_slots)) opened no_frames in
    let none_held : held l.hub ≡ 0 =
    omega (arith, held_frames Responder shape.slots u.queue u.lane.hub l.hub finds.ready.hub, no_frames, ap length no_queue) in
    let finished : IsFinished (log_of after (no_events shape) all) =
    subst IsFinished (sym (log_append after (no_events shape) so_far (two ∷ []))) (record { told = told; guest = none.none; hub = none_held }) in
    let event : NetEvent = Ticked (length t.queue) (unseen t.lane.guest.session) in
    let next : PortState =
    record { lane = record (with_net_end A (joined_net_end Initiator t.lane.guest) t.lane) { wire = net_wire event t.lane }; queue = t.queue } in
    let never : is_finished t.lane (length t.queue) ≡ false → ⊥ = λ not_yet.
    let step : PortStep t (OnLane event) next = (refl, (not_yet, (refl, refl)), refl) in
    last_lawful shape TickAt all (OnLane event) (port_ticks shape (all ++ OnLane event ∷ []) next is (run_push PortStep (fresh_port shape) t next all (OnLane event) run_all step)) finished in
    by_forged (is_finished t.lane (length t.queue)) never

-- ONE IDLE, and the other without room: the queue that is full is the one in which nothing waits
full_or_none : (entries : ℕ) (waiting : List (List ℕ)) → 8 ≤ entries → length waiting + 1 ≡ entries → waiting ≡ [] → ⊥
full_or_none entries waiting many full none = omega (arith, many, full, ap length none)

-- what two steps behind a run may do
two_steps : (shape : NetShape) (events : List PortEvent) (s m t : PortState) (one two : PortEvent) → IsNetShape shape
    → Run PortStep (fresh_port shape) events s → PortStep s one m → PortStep m two t
    → PortMay (log_of after (no_events shape) events) one
    × PortMay (after (log_of after (no_events shape) events) one) two
two_steps shape events s m t one two is run first second =
    let so_far : List PortEvent = events ++ one ∷ [] in
    let run_one = run_push PortStep (fresh_port shape) s m events one run first in
    let run_all = run_push PortStep (fresh_port shape) m t so_far two run_one second in
    let then_ = last_lawful shape PortMay so_far two (every_run shape (so_far ++ two ∷ []) t is run_all) in (
      last_lawful shape PortMay events one (every_run shape so_far m is run_one),
      subst (λ (x : PortLog). PortMay x two) (log_append after (no_events shape) events (one ∷ [])) then_,
    )

pub hub_waits : (shape : NetShape) (events : List PortEvent) (s m t : PortState) → IsNetShape shape → Run PortStep (fresh_port shape) events s
    → PortStep s (OnLane (Steps A Idle)) m → PortStep m (OnLane (Steps B Blocked)) t → ⊥
hub_waits shape events s m t is run first second =
    let both = two_steps shape events s m t (OnLane (Steps A Idle)) (OnLane (Steps B Blocked)) is run first second in
    full_or_none _ _ (many_entries shape events s is run) both.1.table.1 both.0.idle.0

pub guest_waits : (shape : NetShape) (events : List PortEvent) (s m t : PortState) → IsNetShape shape → Run PortStep (fresh_port shape) events s
    → PortStep s (OnLane (Steps A Blocked)) m → PortStep m (OnLane (Steps B Idle)) t → ⊥
guest_waits shape events s m t is run first second =
    let both = two_steps shape events s m t (OnLane (Steps A Blocked)) (OnLane (Steps B Idle)) is run first second in
    full_or_none _ _ (many_entries shape events s is run) both.0.table.1 both.1.idle.0

-- A CALM TURN
pub calm_turn : (shape : NetShape) (events : List PortEvent) (s m t : PortState) (one two : NetAnswer) → IsNetShape shape → Run PortStep (fresh_port shape) events s → s.lane.wire.forged ≡ false
    → s.lane.wire.lossy ≡ false → IsCalm one → IsCalm two → PortStep s (OnLane (Steps A one)) m → PortStep m (OnLane (Steps B two)) t → is_finished t.lane (length t.queue) ≡ true
calm_turn shape events s m t Idle Idle is run clean whole calm other first second = idle_turn shape events s m t is run clean whole first second
calm_turn shape events s m t Idle Blocked is run clean whole calm other first second = absurd (hub_waits shape events s m t is run first second)
calm_turn shape events s m t Blocked Idle is run clean whole calm other first second = absurd (guest_waits shape events s m t is run first second)
calm_turn shape events s m t Blocked Blocked is run clean whole calm other first second = absurd (never_full shape events s m t is run clean whole first second)
calm_turn shape events s m t Idle _ is run clean whole calm other first second = absurd other
calm_turn shape events s m t Blocked _ is run clean whole calm other first second = absurd other
calm_turn shape events s m t _ two is run clean whole calm other first second = absurd calm
