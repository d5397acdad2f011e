-- Where an event may stand in the log of those before it: one field for each law, so that each can be cited by itself.
use Rattle.std.specs.Prelude.{◌*◌, List, Option, Some, None, ⊤}
use Rattle.runs.specs.Lawful.{Lawful}
use Rattle.vnet_msg.specs.Frames.{memory_pages}
use Rattle.lane_models.specs.ResetSays.{WireResetAt}
use Rattle.lane_models.specs.WireAt.{Sizes, WireAnswersAt, WireGapAt, WireHeardAt, WireSaidAt, WireTableAt, WireUnforgedAt}
use Rattle.lane_models.specs.WireEvent.{WireEvent}
use Rattle.lane_models.specs.FrameLaws.{AcknowledgesAt, AdmissionAt, AnnouncesAt, AsksAt, GroupsSaidAt, JoiningAt, LostAt, OpeningsAt, OwnResetAt, PublishedAt, SeesAt, TakingAt, TickAt, UndoneAt, WorksAt}
use Rattle.lane_models.specs.NetEvent.{on_wire}
use Rattle.lane_models.specs.NetLaneState.{NetShape}
use Rattle.lane_models.specs.PortLog.{PortLog, after, no_events}
use Rattle.lane_models.specs.PortState.{OnLane, PortEvent, Receives}
use Rattle.lane_models.specs.RestLaws.{IdleAt, TwoIdleAt, UnforgedAt}

abbrev pub sizes_in : PortLog → Sizes
sizes_in l = record { entries = l.shape.entries; memory = 8192 * memory_pages l.shape.slots }

-- the laws of the wire speak of what is on it
abbrev pub IfOnWire : (WireEvent → Type 0) → Option WireEvent → Type 0
IfOnWire Holds None = ⊤
IfOnWire Holds (Some event) = Holds event

abbrev pub OfWire : (WireEvent → Type 0) → PortEvent → Type 0
OfWire Holds (OnLane event) = IfOnWire Holds (on_wire event)
OfWire Holds (Receives frame) = ⊤

pub record PortMay (l : PortLog) (event : PortEvent) : Type 0 where
  -- the wire
  pub table : OfWire (WireTableAt (sizes_in l) l.wire) event
  pub answers : OfWire (WireAnswersAt (sizes_in l) l.wire) event
  pub said : OfWire (WireSaidAt l.transcript) event
  pub heard : OfWire (WireHeardAt l.transcript) event
  pub gap : OfWire (WireGapAt l.transcript) event
  pub reset_says : OfWire (WireResetAt l.transcript) event
  pub unforged_wire : OfWire (WireUnforgedAt l.wire) event
  pub works : WorksAt l event
  -- what is asked
  pub admission : AdmissionAt l event
  pub joining : JoiningAt l event
  pub tick : TickAt l event
  -- frames
  pub openings : OpeningsAt l event
  pub published : PublishedAt l event
  pub lost : LostAt l event
  pub announces : AnnouncesAt l event
  pub sees : SeesAt l event
  pub asks : AsksAt l event
  pub taking : TakingAt l event
  pub acknowledges : AcknowledgesAt l event
  pub own_resets : OwnResetAt l event
  pub undone : UndoneAt l event
  pub groups_said : GroupsSaidAt l event
  -- rest, and where nobody forges
  pub idle : IdleAt l event
  pub unforged : UnforgedAt l event
  pub two_idle : TwoIdleAt l event

-- the events of a port, each of which may stand after those before it
abbrev pub IsLawfulPort : NetShape → List PortEvent → Type 0
IsLawfulPort shape events = Lawful PortMay after (no_events shape) events
