-- The wire after what happened: its two ends and what waits for each, whether somebody meddled with it, and whether a packet was
-- lost since its queues were last emptied.
use Rattle.std.specs.Prelude.{Bool, true, false}
use Rattle.ldc_queue.specs.declared.end.ChannelState.{ChannelState}
use Rattle.ldc_queue.specs.declared.end.ChannelState.TheVariants.{Down, Up, Resetting}
use Rattle.ldc_queue.specs.declared.end.End.TheVariants.{B}
use Rattle.ldc_queue.specs.Wire.{Wire, closed, configured, fresh_wire, peer_of, put_for, state_of, taken_for}
use Rattle.lane_models.specs.WireEvent.{Blocked, Declines, Idle, Injected, Joined, Lost, Poked, Reset, Sent, Took, WireEvent}

pub record WireLog : Type 0 where
  pub wire : Wire
  pub forged : Bool
  pub lossy : Bool

abbrev pub nothing_on_wire : WireLog
nothing_on_wire = record { wire = fresh_wire; forged = false; lossy = false }

-- configuring an end that was up empties the queues, and nothing is lost in them any more
abbrev pub lossy_behind : ChannelState → Bool → Bool
lossy_behind Up lossy = false
lossy_behind Down lossy = lossy
lossy_behind Resetting lossy = lossy

-- After one more event. The packet that a reset carries has left a queue that is emptied: only an end that is up takes one.
abbrev pub wire_moved : WireLog → WireEvent → WireLog
wire_moved l (Joined e lost) = record l { wire = configured e l.wire; lossy = lossy_behind (state_of e l.wire) l.lossy }
wire_moved l (Reset e cause packet lost) = record l { wire = configured e l.wire; lossy = lossy_behind (state_of e l.wire) l.lossy }
wire_moved l (Took e packet opens) = record l { wire = taken_for e l.wire }
wire_moved l (Sent e packet opens) = record l { wire = put_for (peer_of e) packet l.wire }
wire_moved l (Lost e packet) = record l { wire = taken_for e l.wire; lossy = true }
wire_moved l (Injected e packet) = record l { wire = put_for e packet l.wire; forged = true }
wire_moved l (Poked e at bytes) = record l { forged = true }
wire_moved l (Idle e) = l
wire_moved l (Blocked e) = l
wire_moved l (Declines d) = l

-- after a stop of the server, which closes its end and empties the queues
abbrev pub server_closed : WireLog → WireLog
server_closed l = record l { wire = closed B l.wire; lossy = false }
