-- What remains of a port on a switch falls by each step that isn't calm, by more than it may rise on seven others.
use Rattle.std.proofs.Common.{◌≡◌, ℕ, ◌+◌, ◌*◌, ◌<◌, ◌≤◌, inl, inr, Bool, true, false, List, [], ◌∷◌, length, refl, sym, subst, ap, ◌∙◌, arith}
use Rattle.runs.specs.Run.{Run}
use Rattle.lane_kinds.specs.Lanes.{CalmTurn, EachStep, LaneFalls}
use Rattle.ldc_queue.specs.declared.end.End.{End}
use Rattle.ldc_queue.specs.declared.end.End.TheVariants.{A, B}
use Rattle.port_laws.proofs.CrossingFrames.{port_crossed, port_crossing, port_few_cross, port_tick_crossing}
use Rattle.port_laws.proofs.PortWire.{port_received, tick_unforged}
use Rattle.port_laws.proofs.RemainingBound.{lossy_most}
use Rattle.port_laws.proofs.RemainingResets.{port_again, port_lowers}
use Rattle.port_laws.specs.Crossing.{crossing}
use Rattle.port_laws.specs.NetEndState.{unseen}
use Rattle.port_laws.specs.NetEndStep.{Blocked, Frame, Idle, NetAnswer}
use Rattle.port_laws.specs.NetEvent.{Steps, Ticked}
use Rattle.port_laws.specs.PortState.{OnLane, PortState, PortStep}
use Rattle.port_laws.specs.Remaining.{remaining}
use Rattle.port_laws.specs.RemainingSteps.{IsCalm}
use Rattle.port_laws.specs.WireLog.{WireLog}
use Rattle.switch_laws.specs.Events.{OnPort, SwitchEvent, SwitchStep, Switched}
use Rattle.switch_laws.specs.Ports.{IsStepOf, gets, is_calm, pending, ports, tick, waits_on}
use Rattle.switch_laws.specs.Reached.{IsClean}
use Rattle.switch_laws.specs.Remaining.{port_raises, port_remaining}
use Rattle.switch_laws.proofs.Resting.{finishes, turn_wire, two_calm}
use Rattle.switch_laws.proofs.Steps.{Given, Nothing, One, clean_step, given, given_clean, reached_step}
use Rattle.switch_laws.proofs.PortTurns.{calm_gives, turn_steps}

-- A STEP OF AN END
not_calm : (e : End) (answer : NetAnswer) → is_calm (OnPort (OnLane (Steps e answer))) ≡ false → IsCalm answer → ⊥
not_calm e Blocked loud calm = absurd (cc loud)
not_calm e Idle loud calm = absurd (cc loud)
not_calm e _ loud calm = absurd calm

lowers : (s : PortState) (e : End) (answer : NetAnswer) (t : PortState) → IsClean s → PortStep s (OnLane (Steps e answer)) t → (IsCalm answer → ⊥) → remaining t < remaining s
lowers s e answer t at step loud =
    elim (port_lowers at.reached.shape at.reached.events s e answer t at.reached.sound at.reached.run at.unforged step) [
      | inl calm ↦ absurd (loud calm.0)
      | inr less ↦ less
    ]

loud : (s : PortState) (event : SwitchEvent) (t : PortState) → IsClean s → SwitchStep s event t → (e : End) × IsStepOf e event → is_calm event ≡ false
    → port_remaining t + 7 * port_raises event < port_remaining s
loud s (OnPort (OnLane (Steps e answer))) t at step own is =
    let less = lowers s e answer t at step.1 (not_calm e answer is) in
    let cross = port_crossing at.reached.shape at.reached.events s e answer t at.reached.sound at.reached.run at.unforged step.1 in
    omega (arith, less, cross)
loud s (Switched frame out full) t at step own is =
    let less = lowers s B (Frame frame) t at step (λ calm. calm) in
    let cross = port_crossed at.reached.shape at.reached.events s frame t at.reached.sound at.reached.run at.unforged step in
    omega (arith, less, cross)
loud s _ t at step own is = absurd own.1

answers_less : (s : PortState) (e : End) (answer : NetAnswer) (t : PortState) → IsClean s → PortStep s (OnLane (Steps e answer)) t → port_remaining t ≤ port_remaining s
answers_less s e answer t at step =
    let cross = port_crossing at.reached.shape at.reached.events s e answer t at.reached.sound at.reached.run at.unforged step in
    elim (port_lowers at.reached.shape at.reached.events s e answer t at.reached.sound at.reached.run at.unforged step) [
      | inl calm ↦ omega (arith, calm.1, cross)
      | inr less ↦ omega (arith, less, cross)
    ]

calm_less : (s : PortState) (event : SwitchEvent) (t : PortState) → IsClean s → SwitchStep s event t → is_calm event ≡ true → port_remaining t ≤ port_remaining s
calm_less s (OnPort (OnLane (Steps e Blocked))) t at step is = answers_less s e Blocked t at step.1
calm_less s (OnPort (OnLane (Steps e Idle))) t at step is = answers_less s e Idle t at step.1
calm_less s _ t at step is = absurd (cc is)

-- ANOTHER PORT'S FRAME
given_less : (s t : PortState) (n : ℕ) → 8 ≤ n → Given s t → port_remaining t ≤ port_remaining s + n
given_less s t n some (Nothing same) = omega (arith, ap port_remaining same)
given_less s t n some (One frame step) = omega (arith, some, port_received s frame t step, ap crossing step.2)

given_most : (k : ℕ) (event : SwitchEvent) (s t : PortState) → Run SwitchStep s (gets k event) t → port_remaining t ≤ port_remaining s + port_raises event
given_most k (Switched frame out full) s t run = given_less s t 8 (omega arith) (given k (Switched frame out full) s t run)
given_most k (OnPort event) s t run = omega (arith, ap port_remaining run)

-- A TICK
tick_clean : (s t : PortState) → IsClean s → SwitchStep s (tick s) t → IsClean t
tick_clean s t at step =
    record { reached = reached_step s (tick s) t at.reached step; unforged = tick_unforged s (length s.queue) (unseen s.lane.guest.session) t step.1 ∙ at.unforged }

run_clean : (s : PortState) (events : List SwitchEvent) (t : PortState) → IsClean s → EachStep ports events → Run SwitchStep s events t → IsClean t
run_clean s [] t at steps run = subst IsClean run at
run_clean s (event ∷ events) t at steps run = run_clean run.0 events t (clean_step s event run.0 at run.1 steps.0) steps.1 run.2

tick_falls : (s : PortState) (events : List SwitchEvent) (t u : PortState) → IsClean s → CalmTurn ports s events t → waits_on t ≡ true → SwitchStep t (tick t) u
    → port_remaining u < port_remaining t
tick_falls s events t u at turn waits step = by_loss s.lane.wire.lossy refl
  where
    behind : IsClean t
    behind = run_clean s events t at (turn_steps events turn.of_turn) turn.run

    falls : t.lane.wire.lossy ≡ true → port_remaining u < port_remaining t
    falls lossy =
        let less = port_again behind.reached.shape behind.reached.events t A (OnLane (Ticked (length t.queue) (unseen t.lane.guest.session))) u behind.reached.sound behind.reached.run step.1 refl (λ up. lossy) in
        let cross = port_tick_crossing t (length t.queue) (unseen t.lane.guest.session) u step.1 in
        omega (arith, less, cross)

    by_loss : (b : Bool) → s.lane.wire.lossy ≡ b → port_remaining u < port_remaining t
    by_loss true lossy = falls (ap (λ (w : WireLog). w.lossy) (turn_wire s t (two_calm s events t turn)) ∙ lossy)
    by_loss false whole =
        let never : true ≡ false = sym waits ∙ finishes s events t at.reached at.unforged whole turn in absurd (cc never)

-- PORTS FALL
pub port_falls : LaneFalls ports IsClean port_remaining port_raises
port_falls = record {
  turn_steps = turn_steps;
  clean = clean_step;
  loud = loud;
  calm = λ s event t at step own is. calm_less s event t at step is;
  calm_gives = calm_gives;
  given_clean = given_clean;
  given = λ k event s t at run. given_most k event s t run;
  tick_clean = tick_clean;
  tick_falls = tick_falls;
}

-- and little remains of each
pub port_bound : (s : PortState) → IsClean s → port_remaining s ≤ 189 + 64 * pending s
port_bound s at =
    let most = lossy_most at.reached.shape at.reached.events s at.reached.sound at.reached.run at.unforged in
    let few = port_few_cross at.reached.shape at.reached.events s at.reached.sound at.reached.run at.unforged in
    omega (arith, most, few)
