-- What remains to be done on a disk's lane: a number that each step of an end lowers, where the end isn't idle, off or blocked and nothing
-- is lost, forged or reset meanwhile. It is a sum: one for each end that isn't up, one for each packet that waits, two for each packet that
-- an end has still to put (that it is put, and that it is taken), and for each request one that it is published, two for the INFO that
-- announces it, one that it is done, and twelve for the server: ten that it is served and two for the ACK that answers it. A request counts
-- as if it were announced and answered alone: an INFO that announces several lowers the number by two for each.
use Rattle.std.specs.Prelude.{ℕ, ◌+◌, ◌^◌, ◌-◌, ◌*◌, ◌%◌, Bool, true, false, length, Option, Some, None}
use Rattle.ldc_queue.specs.declared.end.ChannelState.{ChannelState}
use Rattle.ldc_queue.specs.declared.end.ChannelState.TheVariants.{Down, Up, Resetting}
use Rattle.ldc_queue.specs.Wire.{Wire}
use Rattle.vdisk_msg.specs.Pieces.{unit_count}
use Rattle.lane_models.specs.ClientState.{ClientSession, ClientState}
use Rattle.lane_models.specs.LaneState.{LaneState}
use Rattle.lane_models.specs.ServerState.{Ends, Flushes, Gathers, Gives, Progress, Reads, ServerSession, ServerState, Work, Writes}
use Rattle.lane_models.specs.ServerWork.{desc_of}
use Rattle.lane_models.specs.PacketsLeft.{packets_left}
use Rattle.lane_laws.specs.Budget.{one_if}
use Rattle.lane_laws.specs.ChannelEnds.{client_core, server_core}

-- PACKETS. The message of a client's session, its INFO, is one of them while its link holds it; a server's counts from when it is asked for a
-- range.
abbrev pub client_packets : ClientState → ℕ
client_packets c = packets_left (client_core c)

abbrev pub server_packets : ServerState → ℕ
server_packets v = packets_left (server_core v) + (server_core v).more

-- REQUESTS at the client, of which so many are pending: those that aren't published, aren't announced, and aren't done. One is announced by the
-- INFO that the link holds.
abbrev pub total : ℕ → Option ClientSession → ℕ
total pending None = pending
total pending (Some s) = pending + s.completed

abbrev pub requests_left : ℕ → Option ClientSession → ℕ
requests_left pending None = 4 * pending
requests_left pending (Some s) = ((pending + s.completed) - s.published) + 2 * ((pending + s.completed) - (s.announced + one_if s.announcing)) + pending

-- AT THE SERVER: those that it was asked for, and those of them that it didn't finish, modulo 2^64
abbrev pub asked_in : Option ServerSession → ℕ
asked_in None = 0
asked_in (Some s) = s.asked

abbrev pub unfinished : ServerSession → ℕ
unfinished s = ((s.asked + 2 ^ 64) - s.finished) % 2 ^ 64

-- the pieces that are left of a descriptor of so many units: two for each unit, one for a flush
abbrev pub pieces_left : ℕ → Progress → ℕ
pieces_left units (Reads unit) = 2 + 2 * (units - (unit + 1))
pieces_left units (Gives unit bytes) = 1 + 2 * (units - (unit + 1))
pieces_left units (Gathers unit) = 2 + 2 * (units - (unit + 1))
pieces_left units (Writes unit bytes) = 1 + 2 * (units - (unit + 1))
pieces_left units Flushes = 1
pieces_left units (Ends status) = 0

-- ten for each descriptor: that it is fetched, at most eight pieces, and that it gets its status
abbrev pub work_left : ℕ → Option Work → ℕ
work_left n None = 10 * n
work_left n (Some work) = pieces_left (unit_count (desc_of work).size) work.progress + 1 + 10 * (n - 1)

abbrev pub serving_left : Option Work → Option ServerSession → ℕ
serving_left work None = 0
serving_left work (Some s) = work_left (unfinished s) work

-- THE ENDS. One that isn't up is as one that begins; the requests that the server wasn't asked for count twelve each.
abbrev pub client_sum : ℕ → ℕ → Option ClientSession → ℕ → ℕ
client_sum packets pending session asked = 2 * packets + requests_left pending session + 12 * (total pending session - asked)

abbrev pub client_remaining : ChannelState → ℕ → ClientState → ℕ
client_remaining Up asked c = client_sum (client_packets c) (length c.pending) c.session asked
client_remaining Down asked c = 18 + 4 * length c.pending + 12 * (length c.pending - asked)
client_remaining Resetting asked c = 18 + 4 * length c.pending + 12 * (length c.pending - asked)

abbrev pub server_remaining : ChannelState → ServerState → ℕ
server_remaining Up v = 2 * server_packets v + serving_left v.work v.session
server_remaining Down v = 16
server_remaining Resetting v = 16

abbrev pub asked_remaining : ChannelState → ServerState → ℕ
asked_remaining Up v = asked_in v.session
asked_remaining Down v = 0
asked_remaining Resetting v = 0

abbrev pub absent : ChannelState → ℕ
absent Up = 0
absent Down = 1
absent Resetting = 1

-- until the requests are done, where nothing is lost any more
abbrev pub life : Wire → ClientState → ServerState → ℕ
life w c v =
    absent w.end_a + absent w.end_b + length w.to_a + length w.to_b
    + client_remaining w.end_a (asked_remaining w.end_b v) c + server_remaining w.end_b v

-- where a packet was lost the ends may have to begin once more
abbrev pub second_life : Bool → ℕ → ℕ
second_life true pending = 36 + 16 * pending
second_life false pending = 0

-- THE NUMBER
abbrev pub remaining : LaneState → ℕ
remaining s = life s.wire.wire s.client s.server + second_life s.wire.lossy (length s.client.pending)
