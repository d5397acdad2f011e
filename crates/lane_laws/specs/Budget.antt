-- How many messages of its session an end may begin before it takes a packet: a client an INFO for each slot that isn't announced, a server
-- an answer to its range.
use Rattle.std.specs.Prelude.{ℕ, ◌+◌, ◌-◌, Bool, true, false, Option, Some, None}
use Rattle.lane_models.specs.ClientState.{ClientSession}
use Rattle.lane_models.specs.ServerState.{ServerSession, SlotRange}

abbrev pub one_if : Bool → ℕ
one_if true = 1
one_if false = 0

abbrev pub infos_left : ℕ → Option ClientSession → ℕ
infos_left slots None = 0
infos_left slots (Some s) = (s.acked + slots) - (s.announced + one_if s.announcing)

-- the INFO of its session that a client put, and the one that its link holds
abbrev pub infos_begun : Option ClientSession → ℕ
infos_begun None = 0
infos_begun (Some s) = s.infos + one_if s.announcing

abbrev pub one_range : Option SlotRange → ℕ
one_range None = 0
one_range (Some range) = 1

abbrev pub range_packets : Option ServerSession → ℕ
range_packets None = 0
range_packets (Some s) = one_range s.range
