-- The laws of the wire on an event of a lane, which speak of its log.
use Rattle.lane_laws.specs.DiskLog.{DiskLog}
use Rattle.lane_laws.specs.May.{OfWire}
use Rattle.lane_models.specs.DiskEvent.{DiskEvent}
use Rattle.lane_models.specs.ResetSays.{WireResetAt}
use Rattle.lane_models.specs.WireAt.{WireGapAt, WireLostAt, WireSaidAt, WireUnforgedAt}

-- what resets an end says why
abbrev pub ResetAt : DiskLog → DiskEvent → Type 0
ResetAt l event = OfWire (WireResetAt l.transcript) event

-- a gap names the number that was to come and the one that came
abbrev pub GapAt : DiskLog → DiskEvent → Type 0
GapAt l event = OfWire (WireGapAt l.transcript) event

-- what is said is cut and numbered as the log has it
abbrev pub SaidAt : DiskLog → DiskEvent → Type 0
SaidAt l event = OfWire (WireSaidAt l.transcript) event

-- where nobody forged, an end resets itself for a gap alone, and only once a packet was lost
abbrev pub UnforgedAt : DiskLog → DiskEvent → Type 0
UnforgedAt l event = OfWire (WireUnforgedAt l.wire) event

-- no frames are lost as an end is configured
abbrev pub LostAt : DiskLog → DiskEvent → Type 0
LostAt l event = OfWire WireLostAt event
