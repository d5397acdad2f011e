-- What a server makes of the packet that it takes.
use Rattle.std.specs.Prelude.{◌≡◌, ℕ, ◌+◌, ◌%◌, Bool, true, false, nat_le, if◌then◌else◌, List, Option, Some, None, Result, Ok, Err}
use Rattle.ldc_link.specs.LinkState.{cleared}
use Rattle.ldc_link.specs.Taking.{Heard, LinkTake, TakesBytes, Unheard}
use Rattle.ldc_packet.specs.declared.packet.Subtype.{Subtype}
use Rattle.ldc_packet.specs.declared.packet.Subtype.TheVariants.{Info}
use Rattle.vio_tag.specs.declared.cause.Cause.{Cause}
use Rattle.vio_tag.specs.declared.cause.Cause.TheVariants as the_cause
use Rattle.vio_tag.specs.declared.message.Message.{Message}
use Rattle.vio_tag.specs.declared.message.MsgBody.{MsgBody}
use Rattle.vio_tag.specs.declared.message.MsgBody.TheVariants.{DringData}
use Rattle.vio_tag.specs.declared.message.TagFault.{TagFault}
use Rattle.vio_tag.specs.Decoding.{Decodes}
use Rattle.vio_handshake.specs.Rules.{Faults, Goes, GoesOpen, HandshakeTake, handshake_take, sid_fault}
use Rattle.lane_models.specs.EndPuts.{handshake_risen}
use Rattle.lane_models.specs.Ranges.{is_other, wrapped}
use Rattle.dring.specs.Slots.{range_length}
use Rattle.lane_models.specs.ServerState.{ServerSession, ServerState, SlotRange, opened_server}

-- the server goes on so, and its session opens by it or doesn't, or it resets for a cause
pub data ServerTake : Type 0 where
  GoesOn : ServerState → (opens : Bool) → ServerTake
  Resets : Cause → ServerTake

abbrev pub by_handshake : ServerState → HandshakeTake → ServerTake
by_handshake s (Goes h) = GoesOn (record s { handshake = h }) false
by_handshake s (GoesOpen h) = GoesOn (record s { handshake = h; session = Some opened_server }) true
by_handshake s (Faults cause) = Resets cause

-- a range is in work
abbrev pub asked : ServerState → ServerSession → SlotRange → ServerState
asked s session range = record s {
  session = Some (record session {
    asked = wrapped (session.asked + range_length s.handshake.draft.peer_slots range.start range.end);
    seq = wrapped (session.seq + 1);
    range = Some range;
  });
}

-- where the next range begins
abbrev pub place_of : ServerState → ServerSession → ℕ
place_of s session = session.asked % s.handshake.draft.peer_slots

-- An INFO names the client's ring, has the next number, begins at the server's place, and ends within the ring.
abbrev pub takes_info : ServerState → ServerSession → ℕ → SlotRange → ServerTake
takes_info s session ident range =
    if is_other s.handshake.draft.ident_peer ident then Resets (the_cause.Ident s.handshake.draft.ident_peer ident)
    else if is_other session.seq range.seq then Resets (the_cause.Seq session.seq range.seq)
    else if is_other (place_of s session) range.start then Resets (the_cause.Slot (place_of s session) range.start)
    else if nat_le s.handshake.draft.peer_slots range.end then Resets (the_cause.RangeEnd range.end)
    else GoesOn (asked s session range) false

abbrev pub sid_first : Option Cause → ServerTake → ServerTake
sid_first None otherwise = otherwise
sid_first (Some cause) otherwise = Resets cause

-- in session an INFO of a range is the server's own, and all else is the handshake's
abbrev pub in_session : ServerState → ServerSession → Message → Subtype → MsgBody → ServerTake
in_session s session message Info (DringData seq ident start end state) = takes_info s session ident (record { seq = seq; start = start; end = end; state = state })
in_session s session message subtype body = by_handshake s (handshake_take s.handshake message)

abbrev pub hears_message : ServerState → Option ServerSession → Message → ServerTake
hears_message s None message = by_handshake s (handshake_take s.handshake message)
hears_message s (Some session) message = sid_first (sid_fault s.handshake.sid message.sid) (in_session s session message message.subtype message.body)

abbrev pub reads : ServerState → Result Message TagFault → ServerTake
reads s (Ok message) = hears_message s s.session message
reads s (Err fault) = Resets (the_cause.Tag fault)

-- the message that became whole, if one did
abbrev pub HearsWhole : ServerState → Option (List ℕ) → ServerTake → Type 0
HearsWhole s None take = take ≡ GoesOn s false
HearsWhole s (Some bytes) take =
    (decoded : Result Message TagFault) × Decodes bytes decoded × (take ≡ reads (record s { link = cleared s.link }) decoded)

-- the link may come up by the packet
abbrev pub HearsLink : ServerState → LinkTake → ServerTake → Type 0
HearsLink s (Heard k) take = HearsWhole (record s { link = k; handshake = handshake_risen s.link k s.handshake }) k.whole take
HearsLink s (Unheard cause) take = take ≡ Resets cause

-- the packet's bytes, as the link takes them
pub record ServerTakes (s : ServerState) (bytes : List ℕ) (take : ServerTake) : Type 0 where
  pub link : LinkTake
  pub takes : TakesBytes s.link bytes link
  pub hears : HearsLink s link take
