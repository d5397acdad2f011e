-- Where an event of the wire may stand by the states of a lane's ends and its queues.
use Rattle.std.specs.Prelude.{◌≡◌, [], ⊤}
use Rattle.ldc_queue.specs.Wire.{waiting_for}
use Rattle.lane_laws.specs.DiskLog.{DiskLog}
use Rattle.lane_laws.specs.May.{OfWire, sizes_in}
use Rattle.lane_models.specs.DiskEvent.{DiskEvent}
use Rattle.lane_models.specs.WireAt.{WireAnswersAt, WireTableAt}
use Rattle.lane_models.specs.WireEvent.{Idle, WireEvent}
use Rattle.lane_models.specs.WireLog.{WireLog}

-- conditions on an event of the wire: the table of states and queues, the answers that change nothing, and that nothing waits for an end which is
-- idle
abbrev pub TableAt : DiskLog → DiskEvent → Type 0
TableAt l event = OfWire (WireTableAt (sizes_in l) l.wire) event

abbrev pub AnswersAt : DiskLog → DiskEvent → Type 0
AnswersAt l event = OfWire (WireAnswersAt (sizes_in l) l.wire) event

abbrev pub IdleNone : WireLog → WireEvent → Type 0
IdleNone l (Idle e) = waiting_for e l.wire ≡ []
IdleNone l _ = ⊤

abbrev pub NoneWaitsAt : DiskLog → DiskEvent → Type 0
NoneWaitsAt l event = OfWire (IdleNone l.wire) event

pub record MayOfTable (l : DiskLog) (event : DiskEvent) : Type 0 where
  pub table : TableAt l event
  pub answers : AnswersAt l event
  pub none_waits : NoneWaitsAt l event
