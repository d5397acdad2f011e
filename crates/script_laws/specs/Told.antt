-- What lines with their parts of a journal tell of the lanes of disks and of ports.
use Rattle.std.specs.List.{filter_map, flat_map}
use Rattle.std.specs.Prelude.{ℕ, List}
use Rattle.world_parts.specs.lane_laws.DiskLog.{DiskLog, after, nothing_yet}
use Rattle.world_parts.specs.lane_models.LaneState.{Shape}
use Rattle.domain_script.specs.declared.event.Event.{Event}
use Rattle.world_parts.specs.lane_models.NetLaneState.{NetShape}
use Rattle.world_parts.specs.lane_models.PortLog.{PortLog, after as port_after, no_events}
use Rattle.world_parts.specs.world_laws.Along.{happened}
use Rattle.world_parts.specs.world_laws.Settle.{SettleEntry}
use Rattle.world_parts.specs.domain_laws.Frames.{port_events}
use Rattle.world_parts.specs.WorldEvents.{world_event}
use Rattle.ldom_entries.specs.declared.entry.Entry.{Entry}
use Rattle.runs.specs.Lawful.{log_of}
use Rattle.world_parts.specs.Lines.{line_of}

-- the entries of one part, and those of all lines one after another
abbrev pub told_by : Event × List Entry → List SettleEntry
told_by line = filter_map (world_event (line_of line.0)) line.1

abbrev pub told : List (Event × List Entry) → List SettleEntry
told lines = flat_map told_by lines

-- THE LOG of the disk with this number: all that the entries tell of it
abbrev pub log_at : Shape → ℕ → List SettleEntry → DiskLog
log_at shape x entries = log_of after (nothing_yet shape) (happened x entries)

-- and that of the port with this number. How many frames stood in its out queue at a tick changes nothing of it.
abbrev pub port_log_at : NetShape → ℕ → List SettleEntry → PortLog
port_log_at shape k entries = log_of port_after (no_events shape) (port_events k entries)
