-- Events of a port's lane that leave its end at the switch as it is.
use Rattle.std.proofs.Common.{◌≡◌, ◌≤◌, ◌+◌, arith, ℕ, Bool, true, false, List, length, Option, Some, None, Result, Ok, Err, refl, ap, ◌∙◌}
use Rattle.std.specs.Prelude.{⊤}
use Rattle.ldc_queue.specs.declared.end.End.{End}
use Rattle.ldc_queue.specs.declared.end.End.TheVariants.{A, B}
use Rattle.ldc_queue.specs.declared.end.PutFault.{PutFault}
use Rattle.ldc_queue.specs.declared.end.PutFault.TheVariants as put
use Rattle.net_lane.specs.Events.{injected_event, lost_event, next_behind, poked_event, ticked_event}
use Rattle.lane_models.specs.NetEndState.{NetEndState}
use Rattle.lane_models.specs.NetEvent.{Asked, CalmTick, Declines, Gives, Injects, Joins, Loses, NetEvent, Pokes, Steps, Ticked}
use Rattle.lane_models.specs.NetLaneState.{NetLaneState, NetShape}
use Rattle.lane_models.specs.NetLaneStep.{NetLaneStep}
use Rattle.lane_models.specs.PortState.{OnLane, PortState, PortStep}
use Rattle.switch_laws.specs.Events.{IsAlone}
use Rattle.switched_ports.specs.States.{state_of}

-- where this is the port's out queue
abbrev pub Aside : List (List ℕ) → NetEvent → Type 0
Aside queue (Steps A answer) = ⊤
Aside queue (Steps B answer) = ⊥
Aside queue (Asked e lost) = ⊥
Aside queue (Ticked queued lost) = queued ≡ length queue
Aside queue (CalmTick queued) = queued ≡ length queue
Aside queue (Gives A given) = ⊤
Aside queue (Gives B given) = ⊥
Aside queue _ = ⊤

pub aside_alone : (queue : List (List ℕ)) (event : NetEvent) → Aside queue event → IsAlone (OnLane event)
aside_alone queue (Steps A answer) aside = tt
aside_alone queue (Steps B answer) aside = absurd aside
aside_alone queue _ aside = tt

pub aside_step : (queue : List (List ℕ)) (s t : NetLaneState) (event : NetEvent) → Aside queue event
    → NetLaneStep s event t
    → PortStep (state_of s queue) (OnLane event) (state_of t queue)
aside_step queue s t (Steps A answer) aside step = (tt, step, refl)
aside_step queue s t (Steps B answer) aside step = absurd aside
aside_step queue s t (Asked e lost) aside step = absurd aside
aside_step queue s t (Ticked queued lost) aside step = (aside, step, refl)
aside_step queue s t (CalmTick queued) aside step = (aside, step, refl)
aside_step queue s t (Gives A given) aside step = (tt, step, refl)
aside_step queue s t (Gives B given) aside step = absurd aside
aside_step queue s t _ aside step = (tt, step, refl)

-- THE SWITCH'S END is as it was, and so is the port's shape
pub record Keeps (s t : NetLaneState) : Type 0 where
  pub hub : t.hub ≡ s.hub
  pub shape : t.shape ≡ s.shape

kept : (s u t : NetLaneState) → t ≡ u → u.hub ≡ s.hub → u.shape ≡ s.shape → Keeps s t
kept s u t is hub shape =
    record { hub = ap (λ (l : NetLaneState). l.hub) is ∙ hub; shape = ap (λ (l : NetLaneState). l.shape) is ∙ shape }

pub aside_keeps : (queue : List (List ℕ)) (s t : NetLaneState) (event : NetEvent) → Aside queue event
    → NetLaneStep s event t → Keeps s t
aside_keeps queue s t (Steps A answer) aside step = kept s _ t step.is refl refl
aside_keeps queue s t (Steps B answer) aside step = absurd aside
aside_keeps queue s t (Asked e lost) aside step = absurd aside
aside_keeps queue s t (Ticked queued lost) aside step = kept s _ t step.1.1 refl refl
aside_keeps queue s t (CalmTick queued) aside step = kept s _ t step.1 refl refl
aside_keeps queue s t (Gives A given) aside step = kept s _ t step.1 refl refl
aside_keeps queue s t (Gives B given) aside step = absurd aside
aside_keeps queue s t (Joins joining) aside step = kept s _ t step.1 refl refl
aside_keeps queue s t (Loses e packet) aside step = kept s _ t step.1 refl refl
aside_keeps queue s t (Injects e packet) aside step = kept s _ t step.2 refl refl
aside_keeps queue s t (Pokes A at bytes) aside step = kept s _ t step.1 refl refl
aside_keeps queue s t (Pokes B at bytes) aside step = kept s _ t step.1 refl refl
aside_keeps queue s t (Declines d) aside step = kept s _ t step.1 refl refl

-- THE CALLS' EVENTS, by their answers
pub lost_aside : (queue : List (List ℕ)) (e : End) (answer : Option (List ℕ)) → Aside queue (lost_event e answer)
lost_aside queue e (Some packet) = tt
lost_aside queue e None = tt

pub injected_aside : {U : Type 0} (queue : List (List ℕ)) (e : End) (packet : List ℕ) (answer : Result U PutFault)
    → Aside queue (injected_event e packet answer)
injected_aside queue e packet (Ok done) = tt
injected_aside queue e packet (Err put.NotUp) = tt
injected_aside queue e packet (Err put.Full) = tt

pub poked_aside : (queue : List (List ℕ)) (e : End) (at : ℕ) (bytes : List ℕ) (answer : Bool)
    → Aside queue (poked_event e at bytes answer)
poked_aside queue e at bytes true = tt
poked_aside queue e at bytes false = tt

pub ticked_aside : (queue : List (List ℕ)) (queued : ℕ) (answer : Option ℕ) → queued ≡ length queue
    → Aside queue (ticked_event queued answer)
ticked_aside queue queued (Some lost) is = is
ticked_aside queue queued None is = is

-- THE NEXT ID behind a frame that was given: one more at most
pub next_few : {U : Type 0} (answer : Result ℕ U) (next : ℕ) → next_behind answer next ≤ next + 1
next_few (Ok id) next = omega arith
next_few (Err fault) next = omega arith
