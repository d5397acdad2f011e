-- The frames that an end of a port took, by the events of the port. And that frames stand in a list in their order, each at a place of its own.
use Rattle.std.specs.Prelude.{◌≡◌, ℕ, ◌+◌, ◌≤◌, List, [], ◌∷◌, ◌++◌, Some, slice_get, ⊤}
use Rattle.ldc_queue.specs.declared.end.End.{End}
use Rattle.ldc_queue.specs.declared.end.End.TheVariants.{A, B}
use Rattle.lane_models.specs.NetEndStep.{Frame}
use Rattle.lane_models.specs.NetEvent.{Steps}
use Rattle.lane_models.specs.PortState.{OnLane, PortEvent}

abbrev pub took : End → PortEvent → List (List ℕ)
took A (OnLane (Steps A (Frame frame))) = frame ∷ []
took B (OnLane (Steps B (Frame frame))) = frame ∷ []
took e _ = []

abbrev pub frames_taken : End → List PortEvent → List (List ℕ)
frames_taken e [] = []
frames_taken e (event ∷ events) = took e event ++ frames_taken e events

-- from the place n on
abbrev pub InOrder : ℕ → List (List ℕ) → List (List ℕ) → Type 0
InOrder n [] given = ⊤
InOrder n (frame ∷ frames) given = (i : ℕ) × (n ≤ i) × (slice_get given i ≡ Some frame) × InOrder (i + 1) frames given
