-- What a client makes of the packet that it takes.
use Rattle.std.specs.Prelude.{◌≡◌, ℕ, ◌+◌, ◌&&◌, nat_lt, nat_le, if◌then◌else◌, List, Option, Some, None, Result, Ok, Err}
use Rattle.ldc_link.specs.LinkState.{cleared}
use Rattle.ldc_link.specs.Taking.{Heard, LinkTake, TakesBytes, Unheard}
use Rattle.ldc_packet.specs.declared.packet.Subtype.{Subtype}
use Rattle.ldc_packet.specs.declared.packet.Subtype.TheVariants.{Ack, Nack}
use Rattle.vio_tag.specs.declared.cause.Cause.{Cause}
use Rattle.vio_tag.specs.declared.cause.Cause.TheVariants as the_cause
use Rattle.vio_tag.specs.declared.message.Message.{Message}
use Rattle.vio_tag.specs.declared.message.MsgBody.{MsgBody}
use Rattle.vio_tag.specs.declared.message.MsgBody.TheVariants.{DringData}
use Rattle.vio_tag.specs.declared.message.TagFault.{TagFault}
use Rattle.vio_tag.specs.Decoding.{Decodes}
use Rattle.vio_handshake.specs.Rules.{Faults, Goes, GoesOpen, HandshakeTake, handshake_take, sid_fault}
use Rattle.lane_models.specs.ClientState.{ClientSession, ClientState, slot_in}
use Rattle.lane_models.specs.Ranges.{is_other}
pub use Rattle.dring.specs.Slots.{range_length}

-- the client goes on so, or resets for a cause
pub data ClientTake : Type 0 where
  GoesOn : ClientState → ClientTake
  Resets : Cause → ClientTake

-- A message of the handshake. An initiator's session never opens by one.
abbrev pub by_handshake : ClientState → HandshakeTake → ClientTake
by_handshake s (Goes h) = GoesOn (record s { handshake = h })
by_handshake s (GoesOpen h) = GoesOn (record s { handshake = h })
by_handshake s (Faults cause) = Resets cause

abbrev pub acknowledged : ClientState → ClientSession → ℕ → ClientState
acknowledged s session count = record s { session = Some (record session { acked = session.acked + count }) }

-- An acknowledgement names the client's own ring, begins at the first announced request without one, and goes no further than what
-- was announced.
abbrev pub takes_ack : ClientState → ClientSession → ℕ → ℕ → ℕ → ClientTake
takes_ack s session ident start end =
    if is_other s.handshake.draft.ident_own ident then Resets (the_cause.Ident s.handshake.draft.ident_own ident)
    else if is_other (slot_in s session.acked) start then Resets (the_cause.Slot (slot_in s session.acked) start)
    else if nat_lt end s.slots && nat_le (session.acked + range_length s.slots start end) session.announced
    then GoesOn (acknowledged s session (range_length s.slots start end))
    else Resets (the_cause.RangeEnd end)

abbrev pub sid_first : Option Cause → ClientTake → ClientTake
sid_first None otherwise = otherwise
sid_first (Some cause) otherwise = Resets cause

-- in session the answers to its INFO are the client's own, and all else is the handshake's
abbrev pub in_session : ClientState → ClientSession → Message → Subtype → MsgBody → ClientTake
in_session s session message Ack (DringData seq ident start end state) = takes_ack s session ident start end
in_session s session message Nack (DringData seq ident start end state) = Resets the_cause.Refused
in_session s session message subtype body = by_handshake s (handshake_take s.handshake message)

abbrev pub hears_message : ClientState → Option ClientSession → Message → ClientTake
hears_message s None message = by_handshake s (handshake_take s.handshake message)
hears_message s (Some session) message = sid_first (sid_fault s.handshake.sid message.sid) (in_session s session message message.subtype message.body)

abbrev pub reads : ClientState → Result Message TagFault → ClientTake
reads s (Ok message) = hears_message s s.session message
reads s (Err fault) = Resets (the_cause.Tag fault)

-- the message that became whole, if one did
abbrev pub HearsWhole : ClientState → Option (List ℕ) → ClientTake → Type 0
HearsWhole s None take = take ≡ GoesOn s
HearsWhole s (Some bytes) take =
    (decoded : Result Message TagFault) × Decodes bytes decoded × (take ≡ reads (record s { link = cleared s.link }) decoded)

abbrev pub HearsLink : ClientState → LinkTake → ClientTake → Type 0
HearsLink s (Heard k) take = HearsWhole (record s { link = k }) k.whole take
HearsLink s (Unheard cause) take = take ≡ Resets cause

-- the packet's bytes, as the link takes them
pub record ClientTakes (s : ClientState) (bytes : List ℕ) (take : ClientTake) : Type 0 where
  pub link : LinkTake
  pub takes : TakesBytes s.link bytes link
  pub hears : HearsLink s link take
