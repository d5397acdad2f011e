-- What happened to a disk's lane, as its guest sees it: the events of a disk whose requests are a plain list.
use Rattle.std.specs.List.{filter_map}
use Rattle.std.specs.Prelude.{ℕ, zero, suc, ◌+◌, List, Option, Some, None}
use Rattle.disk_law.specs.Issued.{pending_count}
use Rattle.disk_law.specs.ListStep as plain
use Rattle.lane_models.specs.DiskEvent.{Accepted, Asks, DiskEvent, Done, Full, Refused, Works}
use Rattle.world_laws.specs.Along.{happened}
use Rattle.world_laws.specs.Settle.{SettleEntry}

-- WHAT IS A REQUEST'S: what came of it as it was asked, and its completion
abbrev pub request_event : DiskEvent → Option plain.ListEvent
request_event (Asks (Accepted id request)) = Some (plain.Accepted id request)
request_event (Asks (Full request)) = Some (plain.Full request)
request_event (Asks (Refused why request)) = Some (plain.Refused why request)
request_event (Works (Done id operation status bytes)) = Some (plain.Done id operation status bytes)
request_event _ = None

abbrev pub requests_of : List DiskEvent → List plain.ListEvent
requests_of events = filter_map request_event events

-- how many requests are pending behind a world's entries, of so many lanes from this number on
abbrev pub pending_of : ℕ → ℕ → List SettleEntry → ℕ
pending_of k zero entries = 0
pending_of k (suc many) entries = pending_count (requests_of (happened k entries)) + pending_of (k + 1) many entries
