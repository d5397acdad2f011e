-- The calls of a lane as a script has them, and the entries of requests that weren't taken up.
use Rattle.std.specs.Prelude.{ℕ}
use Rattle.domain_script.specs.declared.event.EndName.{EndName}
use Rattle.domain_script.specs.declared.event.Side.{Side}
use Rattle.domain_script.specs.LaneKinds.{disk_lane, port_lane}
use Rattle.world_parts.specs.domain_laws.Lines.{Call}
use Rattle.world_parts.specs.domain_laws.Lines as script
use Rattle.ldom_report.specs.LaneEvents.{end_of}
use Rattle.ldom_entries.specs.declared.entry.Entry.{Entry}
use Rattle.ldom_entries.specs.declared.entry.Entry.TheVariants as entry
use Rattle.ldom_entries.specs.declared.entry.Who.TheVariants as who
use Rattle.ldom_entries.specs.declared.entry.Why.TheVariants.{Count, Length, Range}
use Rattle.disk_lane.specs.vdisk_client.declared.answers.IssueFault.{IssueFault}
use Rattle.disk_lane.specs.vdisk_client.declared.answers.IssueFault.TheVariants as fault
use Rattle.switched_ports.specs.net_lane.answers.SendFault.{SendFault}
use Rattle.switched_ports.specs.net_lane.answers.SendFault.TheVariants as unsent
use Rattle.recorded_lanes.specs.declared.calls.LaneCall.{LaneCall}
use Rattle.recorded_lanes.specs.declared.calls.LaneCall.TheVariants as lane

abbrev pub call_of : LaneCall → Call
call_of (lane.Reset side) = script.Resets (end_of side)
call_of lane.Restart = script.Restarts
call_of lane.Stop = script.Stops
call_of lane.Start = script.Starts
call_of (lane.Lose side) = script.Loses (end_of side)
call_of lane.Tick = script.Ticks
call_of (lane.Inject side packet) = script.Injects (end_of side) packet.now

-- the entry of a frame that wasn't held
abbrev pub unsent_entry : ℕ → SendFault → Entry
unsent_entry k unsent.Length = entry.Refused (who.Lane (port_lane k)) Length
unsent_entry k unsent.Full = entry.Full (who.Lane (port_lane k))

-- an end of the disk with this number
abbrev pub disk_end : ℕ → Side → EndName
disk_end k side = record { lane = disk_lane k; side = side }

-- and of the port
abbrev pub port_end : ℕ → Side → EndName
port_end k side = record { lane = port_lane k; side = side }

-- the entry of a request that was refused, or found no room
abbrev pub refused_entry : ℕ → IssueFault → Entry
refused_entry k fault.Count = entry.Refused (who.Lane (disk_lane k)) Count
refused_entry k fault.Range = entry.Refused (who.Lane (disk_lane k)) Range
refused_entry k fault.Full = entry.Full (who.Lane (disk_lane k))
