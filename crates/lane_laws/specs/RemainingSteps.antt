-- Which steps of an end lower what remains, and what a server takes.
use Rattle.std.specs.Prelude.{◌≡◌, List, [], ◌∷◌, ℕ, ◌+◌, ◌*◌, ◌^◌, ◌<◌, ◌≤◌, ◌⊎◌, ⊤, length, Option, Some, None}
use Rattle.lane_models.specs.ClientState.{ClientState}
use Rattle.lane_models.specs.DiskEvent.{Desc, DiskEvent, Done, Finished, Moved, OnWire, Published, Stored, Worked, Works}
use Rattle.lane_models.specs.ServerState.{ServerSession, ServerState}
use Rattle.lane_models.specs.WireEvent.{Joined, Sent, Took, WireEvent}
use Rattle.ldc_queue.specs.declared.end.ChannelState.{ChannelState}
use Rattle.ldc_queue.specs.declared.end.ChannelState.TheVariants.{Down, Up, Resetting}
use Rattle.lane_laws.specs.Remaining.{asked_in, server_packets, serving_left, total}

-- a server's counts fit into 8 bytes
abbrev pub CountsFit : Option ServerSession → Type 0
CountsFit None = ⊤
CountsFit (Some session) = (session.asked < 2 ^ 64) × (session.finished < 2 ^ 64)

-- THE STEPS of an end that take nothing: it joins, puts a packet, publishes or completes a request, fetches a descriptor, does a piece of
-- it, or gives it its status
abbrev pub IsPutOrJoined : WireEvent → Type 0
IsPutOrJoined (Joined e lost) = ⊤
IsPutOrJoined (Sent e packet opens) = ⊤
IsPutOrJoined _ = ⊥

abbrev pub IsWork : Worked → Type 0
IsWork (Published id) = ⊤
IsWork (Done id operation status bytes) = ⊤
IsWork (Desc slot bytes) = ⊤
IsWork (Moved unit fault) = ⊤
IsWork (Stored operation block count failed) = ⊤
IsWork (Finished slot status) = ⊤
IsWork _ = ⊥

abbrev pub TakesNothing : DiskEvent → Type 0
TakesNothing (OnWire event) = IsPutOrJoined event
TakesNothing (Works event) = IsWork event
TakesNothing _ = ⊥

-- a step of an end by which it does something: one of these, or it takes a packet
abbrev pub DoesOnWire : WireEvent → Type 0
DoesOnWire (Took e packet opens) = ⊤
DoesOnWire event = IsPutOrJoined event

abbrev pub DoesSomething : DiskEvent → Type 0
DoesSomething (OnWire event) = DoesOnWire event
DoesSomething (Works event) = IsWork event
DoesSomething _ = ⊥

abbrev pub AllDo : List DiskEvent → Type 0
AllDo [] = ⊤
AllDo (event ∷ events) = DoesSomething event × AllDo events

-- A PACKET THAT A SERVER TAKES, where nobody forged: it asks for nothing, and the server has no more to put than before
pub record ServerHears (v u : ServerState) : Type 0 where
  pub packets : server_packets u ≤ server_packets v
  pub asked : asked_in u.session ≡ asked_in v.session
  pub serving : serving_left u.work u.session ≤ serving_left v.work v.session

-- all the requests that a client may announce in its session, those that are done among them
abbrev pub total_at : ChannelState → ClientState → ℕ
total_at Up c = total (length c.pending) c.session
total_at Down c = length c.pending
total_at Resetting c = length c.pending

-- or it is the INFO of a range that the client announced, for which the server owes one ACK
pub record ServerIsAsked (most count : ℕ) (v u : ServerState) : Type 0 where
  pub some : 1 ≤ count
  pub packets : server_packets u ≤ server_packets v + 1
  pub asked : asked_in u.session ≡ asked_in v.session + count
  pub within : asked_in u.session ≤ most
  pub serving : serving_left u.work u.session ≤ serving_left v.work v.session + 10 * count

abbrev pub ServerHeard : ℕ → ServerState → ServerState → Type 0
ServerHeard most v u = ServerHears v u ⊎ ((count : ℕ) × ServerIsAsked most count v u)
