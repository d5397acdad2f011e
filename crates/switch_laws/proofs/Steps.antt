-- A step of a port on a switch is one of the port: it leads from a reached port to a reached one, and forging isn't undone.
use Rattle.std.proofs.Common.{◌≡◌, ℕ, Bool, true, false, List, [], ◌∷◌, ◌++◌, refl, sym, subst, ◌∙◌}
use Rattle.std.specs.Prelude.{◌==◌, map}
use Rattle.std.specs.Int.{bit_at}
use Rattle.runs.specs.Run.{Run, run_push}
use Rattle.ldc_queue.specs.declared.end.End.{End}
use Rattle.ldc_queue.specs.declared.end.End.TheVariants.{B}
use Rattle.port_laws.proofs.IdleSteps.{idle_stays}
use Rattle.port_laws.proofs.PortWire.{step_lossless, step_unforged, was_unforged as port_unforged}
use Rattle.port_laws.specs.NetEndStep.{Frame, Idle, NetAnswer}
use Rattle.port_laws.specs.NetEvent.{Steps}
use Rattle.port_laws.specs.PortState.{OnLane, PortEvent, PortState, PortStep, Receives, fresh_port}
use Rattle.switch_laws.specs.Events.{IdleStays, IsAlone, OnPort, SwitchEvent, SwitchStep, Switched, at_port}
use Rattle.switch_laws.specs.Ports.{IsStepOf, gets, gift}
use Rattle.switch_laws.specs.Reached.{IsClean, IsLossless, IsReached, IsUnforged}

pub on_port : (s : PortState) (event : SwitchEvent) (t : PortState) → SwitchStep s event t → PortStep s (at_port event) t
on_port s (OnPort event) t step = step.1
on_port s (Switched frame out full) t step = step

-- and all that a port does is on a switch what it is by itself
stays : (s : PortState) (event : PortEvent) (t : PortState) → IsReached s → PortStep s event t → IdleStays event s t
stays s (OnLane (Steps B Idle)) t at step = idle_stays at.shape at.events s t at.sound at.run step
stays s _ t at step = tt

pub as_on_switch : (s : PortState) (event : PortEvent) (t : PortState) → IsReached s → IsAlone event → PortStep s event t → SwitchStep s (OnPort event) t
as_on_switch s event t at alone step = (alone, step, stays s event t at step)

pub run_on_port : (s : PortState) (events : List SwitchEvent) (t : PortState) → Run SwitchStep s events t → Run PortStep s (map at_port events) t
run_on_port s [] t run = run
run_on_port s (event ∷ events) t run = (run.0, on_port s event run.0 run.1, run_on_port run.0 events t run.2)

pub reached_step : (s : PortState) (event : SwitchEvent) (t : PortState) → IsReached s → SwitchStep s event t → IsReached t
reached_step s event t at step = record {
  shape = at.shape;
  sound = at.sound;
  events = at.events ++ at_port event ∷ [];
  run = run_push PortStep (fresh_port at.shape) s t at.events (at_port event) at.run (on_port s event t step);
}

pub was_unforged : (s : PortState) (event : SwitchEvent) (t : PortState) → SwitchStep s event t → IsUnforged t → IsUnforged s
was_unforged s event t step clean = port_unforged s (at_port event) t (on_port s event t step) clean

-- A STEP OF AN END
pub record EndStep (s : PortState) (event : SwitchEvent) (t : PortState) : Type 0 where
  pub e : End
  pub answer : NetAnswer
  pub event_is : at_port event ≡ OnLane (Steps e answer)
  pub step : PortStep s (OnLane (Steps e answer)) t

pub end_step : (s : PortState) (event : SwitchEvent) (t : PortState) → (e : End) × IsStepOf e event → SwitchStep s event t → EndStep s event t
end_step s (OnPort (OnLane (Steps d answer))) t own step = record { e = d; answer = answer; event_is = refl; step = step.1 }
end_step s (Switched frame out full) t own step = record { e = B; answer = Frame frame; event_is = refl; step = step }
end_step s _ t own step = absurd own.1

pub clean_step : (s : PortState) (event : SwitchEvent) (t : PortState) → IsClean s → SwitchStep s event t → (e : End) × IsStepOf e event → IsClean t
clean_step s event t at step own =
    let made = end_step s event t own step in
    record { reached = reached_step s event t at.reached step; unforged = step_unforged s made.e made.answer t made.step ∙ at.unforged }

pub lossless_step : (s : PortState) (event : SwitchEvent) (t : PortState) → SwitchStep s event t → (e : End) × IsStepOf e event → IsLossless s → IsLossless t
lossless_step s event t step own whole = let made = end_step s event t own step in step_lossless s made.e made.answer t made.step whole

-- WHAT IT IS GIVEN: nothing, or one frame
pub data Given (s t : PortState) : Type 0 where
  Nothing : s ≡ t → Given s t
  One : (frame : List ℕ) → PortStep s (Receives frame) t → Given s t

gift_given : (b : Bool) (frame : List ℕ) (s t : PortState) → Run SwitchStep s (gift b frame) t → Given s t
gift_given true frame s t run = One frame (subst (PortStep s (Receives frame)) run.2 run.1.1)
gift_given false frame s t run = Nothing run

pub given : (k : ℕ) (event : SwitchEvent) (s t : PortState) → Run SwitchStep s (gets k event) t → Given s t
given k (Switched frame out full) s t run = gift_given (bit_at out k == 1) frame s t run
given k (OnPort event) s t run = Nothing run

given_reached : (s t : PortState) → IsReached s → Given s t → IsReached t
given_reached s t at (Nothing same) = subst IsReached same at
given_reached s t at (One frame step) = record {
  shape = at.shape;
  sound = at.sound;
  events = at.events ++ Receives frame ∷ [];
  run = run_push PortStep (fresh_port at.shape) s t at.events (Receives frame) at.run step;
}

given_wire : (s t : PortState) (P : PortState → Type 0) → ((frame : List ℕ) (queue : List (List ℕ)) → P s → P (record s { queue = queue })) → Given s t → P s → P t
given_wire s t P keeps (Nothing same) holds = subst P same holds
given_wire s t P keeps (One frame step) holds = subst P (sym step.2) (keeps frame (s.queue ++ frame ∷ []) holds)

pub given_clean : (k : ℕ) (event : SwitchEvent) (s t : PortState) → IsClean s → Run SwitchStep s (gets k event) t → IsClean t
given_clean k event s t at run =
    let gave = given k event s t run in
    record { reached = given_reached s t at.reached gave; unforged = given_wire s t IsUnforged (λ frame queue holds. holds) gave at.unforged }

pub given_lossless : (k : ℕ) (event : SwitchEvent) (s t : PortState) → Run SwitchStep s (gets k event) t → IsLossless s → IsLossless t
given_lossless k event s t run whole = given_wire s t IsLossless (λ frame queue holds. holds) (given k event s t run) whole
