-- A turn of a port on a switch is two steps, one of each end; and what such steps leave in a settle.
use Rattle.std.proofs.Common.{◌≡◌, ℕ, true, List, [], ◌∷◌, refl, sym, ap, ◌∙◌}
use Rattle.lane_kinds.specs.Lanes.{EachStep, IsSilent}
use Rattle.ldc_queue.specs.declared.end.End.TheVariants.{A, B}
use Rattle.port_laws.specs.NetEndStep.{Idle, NetLeft}
use Rattle.port_laws.specs.NetEvent.{Steps}
use Rattle.port_laws.specs.NetLaneState.{NetLaneState, with_left}
use Rattle.port_laws.specs.NetLaneStep.{EndSteps}
use Rattle.port_laws.specs.PortState.{OnLane, PortState, PortStep}
use Rattle.switch_laws.specs.Events.{OnPort, SwitchEvent, SwitchStep, Switched}
use Rattle.switch_laws.specs.Ports.{IsTurn, gets, is_calm, is_silent, ports}

pub turn_steps : (events : List SwitchEvent) → IsTurn events → EachStep ports events
turn_steps (one ∷ two ∷ []) turn = ((A, turn.0), ((B, turn.1), tt))
turn_steps [] turn = absurd turn
turn_steps (one ∷ []) turn = absurd turn
turn_steps (one ∷ two ∷ three ∷ events) turn = absurd turn

-- WHAT IS CALM gives nothing, and what is silent is calm
pub calm_gives : (k : ℕ) (event : SwitchEvent) → is_calm event ≡ true → gets k event ≡ []
calm_gives k (OnPort event) is = refl
calm_gives k (Switched frame out full) is = absurd (cc is)

pub silent_calm : (event : SwitchEvent) → is_silent event ≡ true → is_calm event ≡ true
silent_calm (OnPort (OnLane (Steps e Idle))) is = refl
silent_calm _ is = absurd (cc is)

-- AN IDLE STEP leaves all as it was
guest_left : (s t : NetLaneState) → EndSteps A s Idle t → t ≡ s
guest_left s t step = step.is ∙ ap (λ (x : NetLeft). with_left A x s) step.step.1

guest_same : (s t : PortState) → PortStep s (OnLane (Steps A Idle)) t → s ≡ t
guest_same s t step =
    let lane : t.lane ≡ s.lane = guest_left s.lane t.lane step.1 in
    let queue : t.queue ≡ s.queue = step.2 in
    sym (ap (λ (x : NetLaneState). record { lane = x; queue = t.queue }) lane ∙ ap (λ (x : List (List ℕ)). record { lane = s.lane; queue = x }) queue)

idle_same : (s : PortState) (event : SwitchEvent) (t : PortState) → SwitchStep s event t → is_silent event ≡ true → s ≡ t
idle_same s (OnPort (OnLane (Steps A Idle))) t step is = guest_same s t step.1
idle_same s (OnPort (OnLane (Steps B Idle))) t step is = sym step.2
idle_same s _ t step is = absurd (cc is)

pub silence : IsSilent ports
silence = record {
  same = idle_same;
  gives = λ k event is. calm_gives k event (silent_calm event is);
  tick_gives = λ k s. refl;
  tick_loud = λ s. refl;
}
