-- What remains on a port behind a reset: as much as on one that begins with all its frames, but that one end is up.
use Rattle.std.proofs.Common.{◌≡◌, ◌≢◌, ℕ, ◌+◌, ◌-◌, ◌*◌, ◌<◌, ◌≤◌, ◌⊎◌, inl, inr, true, false, Option, List, length, refl, sym, ap, ◌∙◌, arith, length-drop}
use Rattle.ldc_link.specs.declared.phase.Role.{Role}
use Rattle.ldc_link.specs.declared.phase.Role.TheVariants.{Initiator, Responder}
use Rattle.ldc_queue.specs.declared.end.ChannelState.{ChannelState}
use Rattle.ldc_queue.specs.declared.end.ChannelState.TheVariants.{Up}
use Rattle.ldc_queue.specs.declared.end.End.{End}
use Rattle.ldc_queue.specs.declared.end.End.TheVariants.{A, B}
use Rattle.ldc_queue.specs.Wire.{state_of, upset}
use Rattle.runs.specs.Lawful.{log_of}
use Rattle.runs.specs.Run.{Run}
use Rattle.vio_tag.specs.declared.cause.Cause.{Cause}
use Rattle.lane_models.specs.WireAt.{IsUp}
use Rattle.lane_models.specs.WireLog.{WireLog}
use Rattle.lane_models.proofs.FramesKept.{held_in}
use Rattle.lane_models.specs.NetEndState.{NetEndState, NetSession, joined_net_end, unseen}
use Rattle.lane_models.specs.NetEndStep.{Blocked, Frame, Idle, NetAnswer, Reset, Took}
use Rattle.lane_models.specs.NetEvent.{NetEvent, Steps}
use Rattle.lane_models.specs.NetLaneState.{IsNetShape, NetLaneState, NetShape}
use Rattle.lane_models.specs.PortLog.{PortLog, after, no_events}
use Rattle.lane_models.specs.PortState.{OnLane, PortEvent, PortState, PortStep, before, fresh_port}
use Rattle.port_laws.specs.Remaining.{absent, end_left, first_left, frames_kept, kept_in, remaining, remaining_of, session_left}
use Rattle.port_laws.specs.RemainingSteps.{IsCalm, IsReset}
use Rattle.port_laws.proofs.NoRefusal.{step_resets}
use Rattle.port_laws.proofs.PortCounts.{Ready, before_wire}
use Rattle.port_laws.proofs.RemainingEnds.{up_left}
use Rattle.port_laws.proofs.RemainingFrames.{port_frame}
use Rattle.port_laws.proofs.RemainingSteps.{away_falls, begun_left, joined_a, joined_at, joined_b, port_calm, port_falls, ready_here, steps_before}
use Rattle.port_laws.proofs.RemainingTakes.{port_took}
use Rattle.port_laws.proofs.ExchangeRuns.{port_exchange}

-- THE LANE behind a reset of an end
reset_lane : (e : End) (s : PortState) (event : NetEvent) (t : PortState) → PortStep s (OnLane event) t → IsReset e (OnLane event) → t.lane ≡ joined_at e (before event s).lane
reset_lane e s event t step is = grind arith

reset_before : (e : End) (s : PortState) (event : NetEvent) → IsReset e (OnLane event) → remaining (before event s) ≡ remaining s
reset_before e s event is = grind (arith, steps_before)

-- AN END THAT WAS UP: the queues are empty, and the other end isn't up
away : (y : ChannelState) → absent (upset y) ≡ 1
away y = grind arith

away_left : (y : ChannelState) (role : Role) (more : ℕ) (memory : List ℕ) (s : NetEndState) → end_left (upset y) role more memory s ≡ first_left role (length s.frames + more - unseen s.session)
away_left y role more memory s = grind arith

begins_a : (x : ChannelState) (g : NetEndState) (u : NetLaneState) (queued : ℕ) → x ≡ Up → up_left Initiator 0 u.guest_memory g ≡ first_left Initiator (length u.guest.frames + 0 - unseen u.guest.session)
    → remaining_of (joined_a x g u) queued ≡ 75 + 8 * kept_in u queued
begins_a x g u queued up first = grind (arith, away, away_left)

begins_b : (x : ChannelState) (h : NetEndState) (u : NetLaneState) (queued : ℕ) → x ≡ Up → up_left Responder queued u.hub_memory h ≡ first_left Responder (length u.hub.frames + queued - unseen u.hub.session)
    → remaining_of (joined_b x h u) queued ≡ 75 + 8 * kept_in u queued
begins_b x h u queued up first = grind (arith, away, away_left)

begins_at : (e : End) (shape : NetShape) (u : PortState) (l : PortLog) → Ready shape u l → IsUp e u.lane.wire.wire → remaining_of (joined_at e u.lane) (length u.queue) ≡ 75 + 8 * frames_kept u
begins_at A shape u l ready up = begins_a u.lane.wire.wire.end_a (joined_net_end Initiator u.lane.guest) u.lane (length u.queue) up (begun_left A shape u l ready)
begins_at B shape u l ready up = begins_b u.lane.wire.wire.end_b (joined_net_end Responder u.lane.hub) u.lane (length u.queue) up (begun_left B shape u l ready)

-- it keeps the frames that aren't published
kept_same : (e : End) (shape : NetShape) (u : PortState) (l : PortLog) → Ready shape u l → kept_in (joined_at e u.lane) (length u.queue) ≡ frames_kept u
kept_same e shape u l ready = grind (arith, length-drop, held_in)

-- each of them counts eight
session_least : (role : Role) (slots held : ℕ) (memory : List ℕ) (session : Option NetSession) → 8 * (held - unseen session) ≤ session_left role slots held memory session
session_least role slots held memory session = grind arith

end_least : (x : ChannelState) (role : Role) (more : ℕ) (memory : List ℕ) (s : NetEndState) → 8 * (length s.frames + more - unseen s.session) ≤ end_left x role more memory s
end_least x role more memory s = grind (arith, session_least)

lossy_least : (u : PortState) → u.lane.wire.lossy ≡ true → 76 + 8 * frames_kept u ≤ remaining u
lossy_least u lossy = grind (arith, end_least)

-- ALONG EVERY RUN
left_behind : (t : PortState) (u : NetLaneState) (queue : List (List ℕ)) → t.lane ≡ u → t.queue ≡ queue → remaining t ≡ remaining_of u (length queue)
left_behind t u queue lane is = ap (λ (x : NetLaneState). remaining_of x (length t.queue)) lane ∙ ap (λ (x : List (List ℕ)). remaining_of u (length x)) is

kept_behind : (t : PortState) (u : NetLaneState) (queue : List (List ℕ)) → t.lane ≡ u → t.queue ≡ queue → frames_kept t ≡ kept_in u (length queue)
kept_behind t u queue lane is = ap (λ (x : NetLaneState). kept_in x (length t.queue)) lane ∙ ap (λ (x : List (List ℕ)). kept_in u (length x)) is

up_before : (e : End) (event : NetEvent) (s : PortState) → IsUp e s.lane.wire.wire → IsUp e (before event s).lane.wire.wire
up_before e event s up = ap (λ (w : WireLog). state_of e w.wire) (before_wire event s) ∙ up

pub port_begins : (shape : NetShape) (events : List PortEvent) (s : PortState) (e : End) (event : PortEvent) (t : PortState) → IsNetShape shape → Run PortStep (fresh_port shape) events s
    → PortStep s event t → IsReset e event → IsUp e s.lane.wire.wire → remaining t ≡ 75 + 8 * frames_kept t
port_begins shape events s e (OnLane event) t sound run step is up =
    let u : PortState = before event s in
    let lane = reset_lane e s event t step is in
    let ready = ready_here shape events s event sound run in
    omega (
      arith,
      left_behind t (joined_at e u.lane) u.queue lane step.2,
      kept_behind t (joined_at e u.lane) u.queue lane step.2,
      kept_same e shape u _ ready,
      begins_at e shape u _ ready (up_before e event s up),
    )
port_begins shape events s e _ t sound run step is up = absurd is

up_or_not : (x : ChannelState) → (x ≡ Up) ⊎ (x ≢ Up)
up_or_not x = grind arith

pub port_again : (shape : NetShape) (events : List PortEvent) (s : PortState) (e : End) (event : PortEvent) (t : PortState) → IsNetShape shape → Run PortStep (fresh_port shape) events s
    → PortStep s event t → IsReset e event → (IsUp e s.lane.wire.wire → s.lane.wire.lossy ≡ true) → remaining t < remaining s
port_again shape events s e (OnLane event) t sound run step is lossy = by_state (up_or_not (state_of e s.lane.wire.wire))
  where
    u : PortState
    u = before event s

    ready : Ready shape u (log_of after (no_events shape) events)
    ready = ready_here shape events s event sound run

    left : remaining t ≡ remaining_of (joined_at e u.lane) (length u.queue)
    left = left_behind t (joined_at e u.lane) u.queue (reset_lane e s event t step is) step.2

    was : remaining u ≡ remaining s
    was = reset_before e s event is

    by_state : (state_of e s.lane.wire.wire ≡ Up) ⊎ (state_of e s.lane.wire.wire ≢ Up) → remaining t < remaining s
    by_state (inr not_up) =
        let falls = away_falls e shape u _ ready (λ up. not_up (sym (ap (λ (w : WireLog). state_of e w.wire) (before_wire event s)) ∙ up)) in
        omega (arith, left, was, falls)
    by_state (inl up) =
        omega (
          arith,
          left,
          was,
          begins_at e shape u _ ready (up_before e event s up),
          lossy_least u (ap (λ (w : WireLog). w.lossy) (before_wire event s) ∙ lossy up),
        )
port_again shape events s e _ t sound run step is lossy = absurd is

-- WHERE NOBODY FORGED an end resets itself behind a loss alone
pub port_own : (shape : NetShape) (events : List PortEvent) (s : PortState) (e : End) (cause : Cause) (packet : Option (List ℕ)) (lost : ℕ) (t : PortState) → IsNetShape shape
    → Run PortStep (fresh_port shape) events s → s.lane.wire.forged ≡ false → PortStep s (OnLane (Steps e (Reset cause packet lost))) t → remaining t < remaining s
port_own shape events s e cause packet lost t sound run clean step =
    let exchange = port_exchange shape events s sound run in
    let wire : s.lane.wire ≡ (log_of after (no_events shape) events).wire = exchange.ways.kept.counts.wire in
    let own = step_resets shape s t _ e cause packet lost sound exchange (sym (ap (λ (w : WireLog). w.forged) wire) ∙ clean) step.1 in
    port_again shape events s e (OnLane (Steps e (Reset cause packet lost))) t sound run step refl (λ up. ap (λ (w : WireLog). w.lossy) wire ∙ own.lossy)

-- so each step but a calm one lowers what remains
pub port_lowers : (shape : NetShape) (events : List PortEvent) (s : PortState) (e : End) (answer : NetAnswer) (t : PortState) → IsNetShape shape → Run PortStep (fresh_port shape) events s
    → s.lane.wire.forged ≡ false → PortStep s (OnLane (Steps e answer)) t → (IsCalm answer × (remaining t ≤ remaining s)) ⊎ (remaining t < remaining s)
port_lowers shape events s e (Took packet opens) t sound run clean step = inr (port_took shape events s e packet opens t sound run clean step)
port_lowers shape events s e (Frame frame) t sound run clean step = inr (port_frame shape events s e frame t sound run clean step)
port_lowers shape events s e (Reset cause packet lost) t sound run clean step = inr (port_own shape events s e cause packet lost t sound run clean step)
port_lowers shape events s e Blocked t sound run clean step = inl (tt, port_calm shape events s e Blocked t sound run step tt)
port_lowers shape events s e Idle t sound run clean step = inl (tt, port_calm shape events s e Idle t sound run step tt)
port_lowers shape events s e answer t sound run clean step = inr (port_falls shape events s e answer t sound run step tt)
