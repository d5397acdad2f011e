-- A step of an end never resets it for a cause that a script, a restart or a tick gives.
use Rattle.std.proofs.Common.{◌≡◌, ℕ, Bool, true, false, Option, Some, None, List, refl, sym, subst, inl, inr}
use Rattle.std.specs.Prelude.{Result, Ok, Err, nat_le, nat_lt, ◌&&◌, ◌+◌, if◌then◌else◌, ⊤}
use Rattle.dring.specs.declared.peer.RingFault.{RingFault}
use Rattle.dring.specs.declared.peer.RingFault.TheVariants as refused
use Rattle.ldc_link.specs.LinkState.{cleared}
use Rattle.ldc_link.specs.Taking.{Heard, LinkTake, Unheard}
use Rattle.ldc_packet.specs.declared.packet.Subtype.{Subtype}
use Rattle.ldc_packet.specs.declared.packet.Subtype.TheVariants.{Info, Ack, Nack}
use Rattle.vio_tag.specs.declared.cause.Cause.{Cause}
use Rattle.vio_tag.specs.declared.cause.Cause.TheVariants as the_cause
use Rattle.vio_tag.specs.declared.message.Message.{Message}
use Rattle.vio_tag.specs.declared.message.MsgBody.{MsgBody}
use Rattle.vio_tag.specs.declared.message.MsgBody.TheVariants.{DringData}
use Rattle.vio_tag.specs.declared.message.TagFault.{TagFault}
use Rattle.vio_handshake.specs.Rules.{Faults, Goes, GoesOpen, HandshakeTake, handshake_take, sid_fault}
use Rattle.lane_models.specs.WireEvent.{ByStep, giver}
use Rattle.lane_models.specs.ClientRule as client_rule
use Rattle.lane_models.specs.ClientState.{ClientSession, ClientState, slot_in}
use Rattle.lane_models.specs.ClientStep.{ClientFails}
use Rattle.lane_models.specs.ClientTaking as client
use Rattle.lane_models.specs.EndPuts.{handshake_risen}
use Rattle.lane_models.specs.Ranges.{is_other}
use Rattle.dring.specs.Slots.{range_length}
use Rattle.lane_models.specs.ServerRule as server_rule
use Rattle.lane_models.specs.ServerState.{Ends, Progress, ServerSession, ServerState, SlotRange, Work}
use Rattle.lane_models.specs.ServerStep.{ServerFails, WorkFails}
use Rattle.lane_models.specs.ServerTaking as server
use Rattle.cookie_copy.specs.Reach.{Reach}
use Rattle.lane_models.specs.ServerWork.{EndFails, FetchFails, cause_of, slot_at}
use Rattle.lane_models.proofs.OwnCauses.{IsOwn, OwnLink, link_own}
use Rattle.lane_models.proofs.OwnMessages.{OwnFault, OwnHandshake, handshake_own, sid_own}

-- THE CLIENT
abbrev OwnClient : client.ClientTake → Type 0
OwnClient (client.GoesOn s) = ⊤
OwnClient (client.Resets cause) = IsOwn cause

client_if : (b : Bool) (one other : client.ClientTake) → OwnClient one → OwnClient other → OwnClient (if b then one else other)
client_if true one other own rest = own
client_if false one other own rest = rest

client_handshake : (s : ClientState) (take : HandshakeTake) → OwnHandshake take → OwnClient (client.by_handshake s take)
client_handshake s (Goes h) own = tt
client_handshake s (GoesOpen h) own = tt
client_handshake s (Faults cause) own = own

client_ack : (s : ClientState) (session : ClientSession) (ident start end : ℕ) → OwnClient (client.takes_ack s session ident start end)
client_ack s session ident start end =
    client_if (is_other s.handshake.draft.ident_own ident) (client.Resets (the_cause.Ident s.handshake.draft.ident_own ident)) _ refl
    (client_if (is_other (slot_in s session.acked) start) (client.Resets (the_cause.Slot (slot_in s session.acked) start)) _ refl
    (client_if (nat_lt end s.slots && nat_le (session.acked + range_length s.slots start end) session.announced) (client.GoesOn _) (client.Resets (the_cause.RangeEnd end)) tt refl))

client_in : (s : ClientState) (session : ClientSession) (message : Message) (subtype : Subtype) (b : MsgBody) → OwnClient (client.in_session s session message subtype b)
client_in s session message Ack (DringData seq ident start end state) = client_ack s session ident start end
client_in s session message Nack (DringData seq ident start end state) = refl
client_in s session message _ _ = client_handshake s (handshake_take s.handshake message) (handshake_own s.handshake message)

client_or : (fault : Option Cause) (rest : client.ClientTake) → OwnFault fault → OwnClient rest → OwnClient (client.sid_first fault rest)
client_or None rest own own_rest = own_rest
client_or (Some cause) rest own own_rest = own

client_hears : (s : ClientState) (session : Option ClientSession) (message : Message) → OwnClient (client.hears_message s session message)
client_hears s None message = client_handshake s (handshake_take s.handshake message) (handshake_own s.handshake message)
client_hears s (Some session) message =
    client_or (sid_fault s.handshake.sid message.sid) (client.in_session s session message message.subtype message.body) (sid_own s.handshake.sid message.sid)
    (client_in s session message message.subtype message.body)

client_reads : (s : ClientState) (d : Result Message TagFault) → OwnClient (client.reads s d)
client_reads s (Ok message) = client_hears s s.session message
client_reads s (Err fault) = refl

client_whole : (s : ClientState) (whole : Option (List ℕ)) (take : client.ClientTake) → client.HearsWhole s whole take → OwnClient take
client_whole s None take is = subst OwnClient (sym is) tt
client_whole s (Some bytes) take is = subst OwnClient (sym is.2) (client_reads (record s { link = cleared s.link }) is.0)

client_link : (s : ClientState) (link : LinkTake) (take : client.ClientTake) → OwnLink link → client.HearsLink s link take → OwnClient take
client_link s (Heard k) take own is = client_whole (record s { link = k }) k.whole take is
client_link s (Unheard cause) take own is = subst OwnClient (sym is) own

client_takes : (s : ClientState) (bytes : List ℕ) (take : client.ClientTake) → client.ClientTakes s bytes take → OwnClient take
client_takes s bytes take takes = client_link s takes.link take (link_own s.link bytes takes.link takes.takes) takes.hears

pub client_resets_own : (rule : client_rule.ClientRule) (s : ClientState) (memory : List ℕ) (cause : Cause) (packet : Option (List ℕ))
    → ClientFails rule s memory cause packet → giver cause ≡ ByStep
client_resets_own (client_rule.Takes bytes) s memory cause packet fails = client_takes s bytes (client.Resets cause) fails.1
client_resets_own (client_rule.Completes session) s memory cause packet fails = subst IsOwn (sym fails.2) refl
client_resets_own _ s memory cause packet fails = absurd fails

-- THE SERVER
abbrev OwnServer : server.ServerTake → Type 0
OwnServer (server.GoesOn s opens) = ⊤
OwnServer (server.Resets cause) = IsOwn cause

server_if : (b : Bool) (one other : server.ServerTake) → OwnServer one → OwnServer other → OwnServer (if b then one else other)
server_if true one other own rest = own
server_if false one other own rest = rest

server_handshake : (s : ServerState) (take : HandshakeTake) → OwnHandshake take → OwnServer (server.by_handshake s take)
server_handshake s (Goes h) own = tt
server_handshake s (GoesOpen h) own = tt
server_handshake s (Faults cause) own = own

server_info : (s : ServerState) (session : ServerSession) (ident : ℕ) (range : SlotRange) → OwnServer (server.takes_info s session ident range)
server_info s session ident range =
    server_if (is_other s.handshake.draft.ident_peer ident) (server.Resets (the_cause.Ident s.handshake.draft.ident_peer ident)) _ refl
    (server_if (is_other session.seq range.seq) (server.Resets (the_cause.Seq session.seq range.seq)) _ refl
    (server_if (is_other (server.place_of s session) range.start) (server.Resets (the_cause.Slot (server.place_of s session) range.start)) _ refl
    (server_if (nat_le s.handshake.draft.peer_slots range.end) (server.Resets (the_cause.RangeEnd range.end)) _ refl tt)))

server_in : (s : ServerState) (session : ServerSession) (message : Message) (subtype : Subtype) (b : MsgBody) → OwnServer (server.in_session s session message subtype b)
server_in s session message Info (DringData seq ident start end state) = server_info s session ident (record { seq = seq; start = start; end = end; state = state })
server_in s session message _ _ = server_handshake s (handshake_take s.handshake message) (handshake_own s.handshake message)

server_or : (fault : Option Cause) (rest : server.ServerTake) → OwnFault fault → OwnServer rest → OwnServer (server.sid_first fault rest)
server_or None rest own own_rest = own_rest
server_or (Some cause) rest own own_rest = own

server_hears : (s : ServerState) (session : Option ServerSession) (message : Message) → OwnServer (server.hears_message s session message)
server_hears s None message = server_handshake s (handshake_take s.handshake message) (handshake_own s.handshake message)
server_hears s (Some session) message =
    server_or (sid_fault s.handshake.sid message.sid) (server.in_session s session message message.subtype message.body) (sid_own s.handshake.sid message.sid)
    (server_in s session message message.subtype message.body)

server_reads : (s : ServerState) (d : Result Message TagFault) → OwnServer (server.reads s d)
server_reads s (Ok message) = server_hears s s.session message
server_reads s (Err fault) = refl

server_whole : (s : ServerState) (whole : Option (List ℕ)) (take : server.ServerTake) → server.HearsWhole s whole take → OwnServer take
server_whole s None take is = subst OwnServer (sym is) tt
server_whole s (Some bytes) take is = subst OwnServer (sym is.2) (server_reads (record s { link = cleared s.link }) is.0)

server_link : (s : ServerState) (link : LinkTake) (take : server.ServerTake) → OwnLink link → server.HearsLink s link take → OwnServer take
server_link s (Heard k) take own is = server_whole (record s { link = k; handshake = handshake_risen s.link k s.handshake }) k.whole take is
server_link s (Unheard cause) take own is = subst OwnServer (sym is) own

server_takes : (s : ServerState) (bytes : List ℕ) (take : server.ServerTake) → server.ServerTakes s bytes take → OwnServer take
server_takes s bytes take takes = server_link s takes.link take (link_own s.link bytes takes.link takes.takes) takes.hears

cause_own : (slot : ℕ) (why : RingFault) → IsOwn (cause_of slot why)
cause_own slot (refused.Copy fault) = refl
cause_own slot (refused.NotReady state) = refl

end_own : (s : ServerState) (reach : Reach) (slot : ℕ) (work : Work) (status : ℕ) (cause : Cause) (new : List ℕ)
    → EndFails s reach slot work status cause new → IsOwn cause
end_own s reach slot work status cause new (inl fails) = subst IsOwn (sym fails.2) refl
end_own s reach slot work status cause new (inr fails) = subst IsOwn (sym fails.3) refl

fetch_own : (s : ServerState) (reach : Reach) (slot : ℕ) (cause : Cause) → FetchFails s reach slot cause → IsOwn cause
fetch_own s reach slot cause (inl fails) = subst IsOwn (sym fails.2) (cause_own slot fails.0)
fetch_own s reach slot cause (inr fails) = subst IsOwn (sym fails.3) refl

work_own : (p : Progress) (s : ServerState) (session : ServerSession) (work : Work) (reach : Reach) (cause : Cause) (new : List ℕ)
    → WorkFails p s session work reach cause new → IsOwn cause
work_own (Ends status) s session work reach cause new fails =
    end_own s reach (slot_at s session.finished) work status cause new fails
work_own _ s session work reach cause new fails = absurd fails

pub server_resets_own : (rule : server_rule.ServerRule) (s : ServerState) (reach : Reach) (cause : Cause) (packet : Option (List ℕ)) (new : List ℕ)
    → ServerFails rule s reach cause packet new → giver cause ≡ ByStep
server_resets_own (server_rule.Takes bytes) s reach cause packet new fails = server_takes s bytes (server.Resets cause) fails.1
server_resets_own (server_rule.Fetches session) s reach cause packet new fails =
    fetch_own s reach (slot_at s session.descs) cause fails.1
server_resets_own (server_rule.Serves session work) s reach cause packet new fails = work_own work.progress s session work reach cause new fails.1
server_resets_own _ s reach cause packet new fails = absurd fails
