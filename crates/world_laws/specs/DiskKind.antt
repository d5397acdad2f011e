-- Disks as a kind of lane: no event gives anything to another.
use Rattle.std.specs.Prelude.{Bool, true, false, if◌then◌else◌, List, [], ◌∷◌, length, None, ⊤}
use Rattle.lane_kinds.specs.Lanes.{LaneKind}
use Rattle.ldc_queue.specs.declared.end.End.{End}
use Rattle.ldc_queue.specs.declared.end.End.TheVariants.{A, B}
use Rattle.vio_tag.specs.declared.cause.Cause.TheVariants as the_cause
use Rattle.lane_models.specs.WireEvent.{Blocked, Idle, Reset}
use Rattle.lane_models.specs.ClientState.{is_finished}
use Rattle.lane_models.specs.DiskEvent.{DiskEvent, Off, OnWire, Switches}
use Rattle.lane_models.specs.LaneState.{LaneState}
use Rattle.lane_models.specs.LaneStep.{LaneStep}
use Rattle.lane_laws.specs.CalmEnds.{IsStep}

-- A LANE'S TURN in a round: a step of its client, and then one of its server
abbrev pub IsTurn : List DiskEvent → Type 0
IsTurn (first ∷ second ∷ []) = IsStep A first × IsStep B second
IsTurn _ = ⊥

-- A STEP IS CALM where it idled, found no room, or was that of a stopped server
abbrev pub is_calm : DiskEvent → Bool
is_calm (OnWire (Idle e)) = true
is_calm (OnWire (Blocked e)) = true
is_calm (Switches Off) = true
is_calm _ = false

-- a step that idles, and one of a stopped server, leave no entry in a settle
abbrev pub is_silent : DiskEvent → Bool
is_silent (OnWire (Idle e)) = true
is_silent (Switches Off) = true
is_silent _ = false

abbrev pub tick : DiskEvent
tick = OnWire (Reset A the_cause.Tick None 0)

-- the lane isn't finished, and its server runs
abbrev pub waits_on : LaneState → Bool
waits_on s = if is_finished s.client then false else if s.stopped then false else true

abbrev pub disk_kind : LaneKind LaneState DiskEvent
disk_kind = record {
  Step = LaneStep;
  IsStep = λ event. (e : End) × IsStep e event;
  IsTurn = IsTurn;
  is_calm = is_calm;
  is_silent = is_silent;
  tick = λ s. tick;
  gets = λ k event. [];
  Sees = λ lanes k event. ⊤;
  waits_on = waits_on;
  pending = λ s. length s.client.pending;
}
