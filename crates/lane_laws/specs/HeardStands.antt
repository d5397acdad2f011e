-- Where a packet may be heard: it spells a packet, has the next number where it has one, and a part comes only where it may.
use Rattle.lane_laws.specs.DiskLog.{DiskLog}
use Rattle.lane_laws.specs.May.{OfWire}
use Rattle.lane_models.specs.DiskEvent.{DiskEvent}
use Rattle.lane_models.specs.WireAt.{WireHeardAt}

abbrev pub HeardAt : DiskLog → DiskEvent → Type 0
HeardAt l event = OfWire (WireHeardAt l.transcript) event
