-- Where an event may stand in the log of those before it: one field for each law, so that each can be cited by itself.
use Rattle.std.specs.Prelude.{◌*◌, List, ⊤}
use Rattle.runs.specs.Lawful.{Lawful}
use Rattle.lane_models.specs.ResetSays.{WireResetAt}
use Rattle.lane_models.specs.WireAt.{Sizes, WireAnswersAt, WireGapAt, WireHeardAt, WireLostAt, WireSaidAt, WireTableAt, WireUnforgedAt}
use Rattle.lane_models.specs.WireEvent.{WireEvent}
use Rattle.lane_models.specs.DiskEvent.{DiskEvent, OnWire}
use Rattle.lane_models.specs.LaneState.{Shape, pages_of}
use Rattle.lane_laws.specs.DiskLog.{DiskLog, after, nothing_yet}
use Rattle.lane_laws.specs.NearLaws.{NearAt}
use Rattle.lane_laws.specs.OrderLaws.{OrderAt}
use Rattle.lane_laws.specs.QuietLaws.{IdleAt, TickAt, TwoIdleAt}
use Rattle.lane_laws.specs.RequestLaws.{AdmissionAt, CarriesAt, OnceAt, ServerRunsAt}
use Rattle.lane_laws.specs.WorkLaws.{OpeningsAt, PiecesAt, RangesAt, WorkNumbersAt, WorkResetAt, WorkUnforgedAt, WorksAt}

abbrev pub sizes_in : DiskLog → Sizes
sizes_in l = record { entries = l.shape.entries; memory = 8192 * pages_of l.shape }

-- the laws of the wire speak of its events alone
abbrev pub OfWire : (WireEvent → Type 0) → DiskEvent → Type 0
OfWire holds (OnWire event) = holds event
OfWire holds _ = ⊤

pub record May (l : DiskLog) (event : DiskEvent) : Type 0 where
  -- the wire
  pub table : OfWire (WireTableAt (sizes_in l) l.wire) event
  pub answers : OfWire (WireAnswersAt (sizes_in l) l.wire) event
  pub said : OfWire (WireSaidAt l.transcript) event
  pub heard : OfWire (WireHeardAt l.transcript) event
  pub gap : OfWire (WireGapAt l.transcript) event
  pub reset_says : OfWire (WireResetAt l.transcript) event
  pub lost : OfWire WireLostAt event
  pub unforged_wire : OfWire (WireUnforgedAt l.wire) event
  -- requests
  pub admission : AdmissionAt l event
  pub once : OnceAt l event
  pub carries : CarriesAt l event
  pub runs : ServerRunsAt l event
  -- work
  pub works : WorksAt l event
  pub numbers : WorkNumbersAt l event
  pub order : OrderAt l event
  pub ranges : RangesAt l event
  pub pieces : PiecesAt l event
  pub openings : OpeningsAt l event
  pub own_resets : WorkResetAt l event
  pub unforged_work : WorkUnforgedAt l event
  pub near : NearAt l event
  -- quiet
  pub idle : IdleAt l event
  pub two_idle : TwoIdleAt l event
  pub tick : TickAt l event

-- the events of a lane, each of which may stand after those before it
abbrev pub IsLawful : Shape → List DiskEvent → Type 0
IsLawful shape events = Lawful May after (nothing_yet shape) events
