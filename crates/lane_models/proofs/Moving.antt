-- What holds of a port before an event: of the port as it was, and of one whose first frame moved from the queue to the switch's end.
use Rattle.std.proofs.Common.{ℕ, List, arith}
use Rattle.lane_models.specs.NetEndState.{with_frame}
use Rattle.lane_models.specs.NetEvent.{NetEvent}
use Rattle.lane_models.specs.PortState.{PortState, before}

pub before_keeps : (P : PortState → Type 0) (event : NetEvent) (s : PortState)
    → ((frame : List ℕ) (frames : List (List ℕ)) → P (record { lane = record s.lane { hub = with_frame frame s.lane.hub }; queue = frames })) → P s → P (before event s)
before_keeps P event s moved same = grind arith
