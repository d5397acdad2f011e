-- What an end of a port makes of the packet that it takes.
use Rattle.std.specs.Prelude.{◌≡◌, ℕ, zero, suc, ◌+◌, ◌*◌, ◌%◌, ◌==◌, Bool, true, false, ◌&&◌, not, nat_le, nat_lt, if◌then◌else◌, List, [], ◌∷◌, drop, slice_index, Option, Some, None, Result, Ok, Err}
use Rattle.dring.specs.Slots.{done_state, free_state, range_length, slot_bytes}
use Rattle.ldc_link.specs.declared.phase.Role.{Role}
use Rattle.ldc_link.specs.declared.phase.Role.TheVariants.{Initiator, Responder}
use Rattle.ldc_link.specs.LinkState.{LinkState, cleared}
use Rattle.ldc_link.specs.Taking.{Heard, LinkTake, TakesBytes, Unheard}
use Rattle.ldc_packet.specs.declared.packet.Subtype.{Subtype}
use Rattle.ldc_packet.specs.declared.packet.Subtype.TheVariants.{Ack, Info, Nack}
use Rattle.vio_bytes.specs.Place.{put_at}
use Rattle.vio_handshake.specs.declared.handshake.Handshake.{Handshake}
use Rattle.vio_handshake.specs.Rules.{Faults, Goes, GoesOpen, HandshakeTake, handshake_take, sid_fault}
use Rattle.vio_tag.specs.declared.cause.Cause.{Cause}
use Rattle.vio_tag.specs.declared.cause.Cause.TheVariants as the_cause
use Rattle.vio_tag.specs.declared.message.Message.{Message}
use Rattle.vio_tag.specs.declared.message.MsgBody.{MsgBody}
use Rattle.vio_tag.specs.declared.message.MsgBody.TheVariants.{DringData, Mcast}
use Rattle.vio_tag.specs.declared.message.TagFault.{TagFault}
use Rattle.vio_tag.specs.Decoding.{Decodes}
use Rattle.lane_models.specs.EndPuts.{handshake_risen}
use Rattle.lane_models.specs.Ranges.{is_other, wrapped}
use Rattle.lane_models.specs.Groups.{groups_after}
use Rattle.lane_models.specs.NetEndPutting.{cleared_ring}
use Rattle.lane_models.specs.NetEndState.{GroupsReply, NetEndState, NetSession, opened_net_end, with_session}

-- the end goes on so, its session opens by the packet or doesn't, and its own memory is this; or it resets itself for a
-- cause
pub data NetTake : Type 0 where
  GoesOn : NetEndState → (opens : Bool) → (memory : List ℕ) → NetTake
  Resets : Cause → NetTake

-- A MESSAGE OF THE HANDSHAKE. The session of the switch's end opens by one, which clears its ring; that of a guest
-- never does.
abbrev pub opens_by_take : Role → NetEndState → List ℕ → NetTake
opens_by_take Initiator s memory = GoesOn s false memory
opens_by_take Responder s memory = GoesOn (opened_net_end s) true (cleared_ring s.slots memory)

abbrev pub by_handshake : Role → NetEndState → List ℕ → HandshakeTake → NetTake
by_handshake role s memory (Goes h) = GoesOn (record s { handshake = h }) false memory
by_handshake role s memory (GoesOpen h) = opens_by_take role (record s { handshake = h }) memory
by_handshake role s memory (Faults cause) = Resets cause

-- AN INFO names the peer's ring, has the next number, begins at the next slot, and where it names an end, that is a
-- slot of the ring
abbrev pub ends_outside : NetEndState → ℕ → Bool
ends_outside s end = not (end == 0xffffffff) && nat_le s.handshake.draft.peer_slots end

abbrev pub active : NetSession → ℕ → ℕ → NetSession
active session seq start = record session { seq = wrapped (session.seq + 1); active = Some (record { seq = seq; start = start; last = None }) }

abbrev pub takes_info : NetEndState → NetSession → List ℕ → ℕ → ℕ → ℕ → ℕ → NetTake
takes_info s session memory seq ident start end =
    if is_other s.handshake.draft.ident_peer ident then Resets (the_cause.Ident s.handshake.draft.ident_peer ident)
    else if is_other session.seq seq then Resets (the_cause.Seq session.seq seq)
    else if is_other session.place start then Resets (the_cause.Slot session.place start)
    else if ends_outside s end then Resets (the_cause.RangeEnd end)
    else GoesOn (with_session (active session seq start) s) false memory

-- AN ACK names the own ring, begins at the first frame that isn't acknowledged, and goes no further than what is
-- published; each of its slots is DONE. They become FREE, and the frames leave.
abbrev pub slot_state : ℕ → List ℕ → ℕ
slot_state slot memory = slice_index (slot_bytes 64 slot memory) 0

-- the first slot of so many that isn't DONE, in a ring of so many slots, from a number on
abbrev pub first_undone : ℕ → List ℕ → (number count : ℕ) → Option Cause
first_undone slots memory number zero = None
first_undone slots memory number (suc count) =
    if slot_state (number % slots) memory == done_state then first_undone slots memory (number + 1) count
    else Some (the_cause.NotDone (number % slots) (slot_state (number % slots) memory))

abbrev pub freed : ℕ → (number count : ℕ) → List ℕ → List ℕ
freed slots number zero memory = memory
freed slots number (suc count) memory = freed slots (number + 1) count (put_at (64 * (number % slots)) (free_state ∷ []) memory)

abbrev pub acknowledged : NetSession → ℕ → NetEndState → NetEndState
acknowledged session count s = record s { frames = drop count s.frames; session = Some (record session { seen = session.seen + count; asking = false }) }

abbrev pub takes_done : NetEndState → NetSession → List ℕ → ℕ → Option Cause → NetTake
takes_done s session memory count (Some cause) = Resets cause
takes_done s session memory count None = GoesOn (acknowledged session count s) false (freed s.slots session.seen count memory)

abbrev pub takes_range : NetEndState → NetSession → List ℕ → ℕ → NetTake
takes_range s session memory count = takes_done s session memory count (first_undone s.slots memory session.seen count)

abbrev pub takes_ack : NetEndState → NetSession → List ℕ → ℕ → ℕ → ℕ → NetTake
takes_ack s session memory ident start end =
    if is_other s.handshake.draft.ident_own ident then Resets (the_cause.Ident s.handshake.draft.ident_own ident)
    else if is_other (session.seen % s.slots) start then Resets (the_cause.Slot (session.seen % s.slots) start)
    else if nat_lt end s.slots && nat_le (session.seen + range_length s.slots start end) session.published
    then takes_range s session memory (range_length s.slots start end)
    else Resets (the_cause.RangeEnd end)

-- GROUPS that a guest names: the switch's end keeps the list, or refuses it, and owes the same message as its answer
abbrev pub replying : GroupsReply → NetSession → NetSession
replying reply session = record session { reply = Some reply }

abbrev pub takes_groups : NetEndState → NetSession → List ℕ → ℕ → ℕ → List (List ℕ) → Option (List (List ℕ)) → NetTake
takes_groups s session memory set count addresses (Some groups) =
    GoesOn (with_session (replying (record { subtype = Ack; set = set; count = count; addresses = addresses }) session) (record s { groups = groups })) false memory
takes_groups s session memory set count addresses None =
    GoesOn (with_session (replying (record { subtype = Nack; set = set; count = count; addresses = addresses }) session) s) false memory

-- the answer to a guest's own MCAST_INFO, whose fields aren't looked at; without one it is out of order
abbrev pub told : NetEndState → NetSession → List ℕ → NetTake
told s session memory = if session.telling then GoesOn (with_session (record session { telling = false }) s) false memory else Resets the_cause.Order

abbrev pub refused : NetSession → NetTake
refused session = if session.telling then Resets the_cause.Refused else Resets the_cause.Order

abbrev pub sid_first : Option Cause → NetTake → NetTake
sid_first None otherwise = otherwise
sid_first (Some cause) otherwise = Resets cause

-- in session, rings and groups are the end's own, and all else is the handshake's
abbrev pub in_session : Role → NetEndState → NetSession → List ℕ → Message → Subtype → MsgBody → NetTake
in_session role s session memory message Info (DringData seq ident start end state) = takes_info s session memory seq ident start end
in_session role s session memory message Ack (DringData seq ident start end state) = takes_ack s session memory ident start end
in_session role s session memory message Nack (DringData seq ident start end state) = Resets the_cause.Refused
in_session Responder s session memory message Info (Mcast set count addresses) =
    takes_groups s session memory set count addresses (groups_after set count addresses s.groups)
in_session Initiator s session memory message Ack (Mcast set count addresses) = told s session memory
in_session Initiator s session memory message Nack (Mcast set count addresses) = refused session
in_session role s session memory message subtype body = by_handshake role s memory (handshake_take s.handshake message)

abbrev pub hears_message : Role → NetEndState → List ℕ → Option NetSession → Message → NetTake
hears_message role s memory None message = by_handshake role s memory (handshake_take s.handshake message)
hears_message role s memory (Some session) message =
    sid_first (sid_fault s.handshake.sid message.sid) (in_session role s session memory message message.subtype message.body)

abbrev pub reads : Role → NetEndState → List ℕ → Result Message TagFault → NetTake
reads role s memory (Ok message) = hears_message role s memory s.session message
reads role s memory (Err fault) = Resets (the_cause.Tag fault)

-- the message that became whole, if one did
abbrev pub HearsWhole : Role → NetEndState → List ℕ → Option (List ℕ) → NetTake → Type 0
HearsWhole role s memory None take = take ≡ GoesOn s false memory
HearsWhole role s memory (Some bytes) take =
    (decoded : Result Message TagFault) × Decodes bytes decoded × (take ≡ reads role (record s { link = cleared s.link }) memory decoded)

-- the handshake of the switch's end begins as its link comes up by the packet
abbrev pub risen : Role → LinkState → LinkState → Handshake → Handshake
risen Initiator before behind h = h
risen Responder before behind h = handshake_risen before behind h

abbrev pub HearsLink : Role → NetEndState → List ℕ → LinkTake → NetTake → Type 0
HearsLink role s memory (Heard k) take =
    HearsWhole role (record s { link = k; handshake = risen role s.link k s.handshake }) memory k.whole take
HearsLink role s memory (Unheard cause) take = take ≡ Resets cause

-- the packet's bytes, as the link takes them
pub record NetTakes (role : Role) (s : NetEndState) (memory bytes : List ℕ) (take : NetTake) : Type 0 where
  pub link : LinkTake
  pub takes : TakesBytes s.link bytes link
  pub hears : HearsLink role s memory link take
