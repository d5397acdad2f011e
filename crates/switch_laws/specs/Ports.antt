-- The ports of one switch as a kind of lane: what crosses from one to others are the frames that the switch forwards.
use Rattle.std.specs.Prelude.{◌≡◌, ℕ, ◌+◌, ◌==◌, Bool, true, false, not, List, [], ◌∷◌, length, ⊤}
use Rattle.std.specs.Int.{bit_at}
use Rattle.ldc_queue.specs.declared.end.End.{End}
use Rattle.ldc_queue.specs.declared.end.End.TheVariants.{A, B}
use Rattle.lane_kinds.specs.Lanes.{Entries, LaneKind, lanes_of, own_or}
use Rattle.lane_kinds.specs.Rounds.{Rounds}
use Rattle.port_laws.specs.NetEndState.{unseen}
use Rattle.port_laws.specs.NetEndStep.{Blocked, Idle}
use Rattle.port_laws.specs.NetEvent.{Steps, Ticked}
use Rattle.port_laws.specs.NetLaneStep.{is_finished}
use Rattle.port_laws.specs.PortState.{OnLane, PortState, Receives}
use Rattle.switch_laws.specs.Events.{OnPort, SwitchEvent, SwitchStep, Switched}
use Rattle.switch_laws.specs.Forwards.{SeesSwitch}

-- A STEP OF AN END, whatever comes of it; and a turn: the guest's end, and then the switch's
abbrev pub IsStepOf : End → SwitchEvent → Type 0
IsStepOf e (OnPort (OnLane (Steps d answer))) = d ≡ e
IsStepOf B (Switched frame out full) = ⊤
IsStepOf e _ = ⊥

abbrev pub IsTurn : List SwitchEvent → Type 0
IsTurn (one ∷ two ∷ []) = IsStepOf A one × IsStepOf B two
IsTurn _ = ⊥

-- it has nothing to do, or no room for its packet; and of the first a settle leaves no entry
abbrev pub is_calm : SwitchEvent → Bool
is_calm (OnPort (OnLane (Steps e Blocked))) = true
is_calm (OnPort (OnLane (Steps e Idle))) = true
is_calm _ = false

abbrev pub is_silent : SwitchEvent → Bool
is_silent (OnPort (OnLane (Steps e Idle))) = true
is_silent _ = false

abbrev pub tick : PortState → SwitchEvent
tick s = OnPort (OnLane (Ticked (length s.queue) (unseen s.lane.guest.session)))

-- WHAT CROSSES: a port of the set that got the frame has it last in its out queue
abbrev pub gift : Bool → List ℕ → List SwitchEvent
gift true frame = OnPort (Receives frame) ∷ []
gift false frame = []

abbrev pub gets : ℕ → SwitchEvent → List SwitchEvent
gets j (Switched frame out full) = gift (bit_at out j == 1) frame
gets j (OnPort event) = []

abbrev pub waits_on : PortState → Bool
waits_on s = not (is_finished s.lane (length s.queue))

-- the frames that its ends hold, and those in its out queue
abbrev pub pending : PortState → ℕ
pending s = length s.lane.guest.frames + length s.lane.hub.frames + length s.queue

abbrev pub ports : LaneKind PortState SwitchEvent
ports = record {
  Step = SwitchStep;
  IsStep = λ event. (e : End) × IsStepOf e event;
  IsTurn = IsTurn;
  is_calm = is_calm;
  is_silent = is_silent;
  tick = tick;
  gets = gets;
  Sees = SeesSwitch;
  waits_on = waits_on;
  pending = pending;
}

-- ENTRIES of a settle
pub data SwitchEntry : Type 0 where
  OfPort : (port : ℕ) (event : SwitchEvent) → SwitchEntry
  Unsettled : (port : ℕ) → SwitchEntry
  Settled : SwitchEntry

abbrev pub of_ports : Entries SwitchEvent SwitchEntry
of_ports = record { of_lane = OfPort; left_over = Unsettled; settled = Settled }

abbrev pub switch : Rounds (List PortState) (List Bool) (List (List SwitchEvent)) SwitchEntry
switch = lanes_of ports of_ports

-- what an entry says of the port with this number: its own event, or what another's gave it
abbrev pub said_port : ℕ → SwitchEntry → List SwitchEvent
said_port j (OfPort k event) = own_or (j == k) event (gets j event)
said_port j _ = []
