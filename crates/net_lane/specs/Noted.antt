-- What a lane notes of an end that was configured, beside what the end did: whether a packet is still lost.
use Rattle.std.specs.Prelude.{Bool}
use Rattle.ldc_queue.specs.declared.end.ChannelState.{ChannelState}
use Rattle.vnet_port.specs.WireLog.{lossy_behind}
use Rattle.lane_models.specs.NetLaneState.{NetLaneState}
use Rattle.vnet_port.specs.declared.net_out.NetOut.{NetOut}
use Rattle.vnet_port.specs.declared.net_out.NetOut.TheVariants as out

-- by the state of the end before it: one that was up emptied the queues
abbrev pub noted_behind : ChannelState → NetLaneState → NetLaneState
noted_behind was s = record s { wire = record s.wire { lossy = lossy_behind was s.wire.lossy } }

-- a step configures the end where it joins or resets itself
abbrev pub noted_lossy : ChannelState → NetOut → Bool → Bool
noted_lossy was (out.Joined lost) lossy = lossy_behind was lossy
noted_lossy was (out.Reset cause packet lost) lossy = lossy_behind was lossy
noted_lossy was _ lossy = lossy

abbrev pub noted : ChannelState → NetOut → NetLaneState → NetLaneState
noted was answer s = record s { wire = record s.wire { lossy = noted_lossy was answer s.wire.lossy } }
