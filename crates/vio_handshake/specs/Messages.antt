-- The messages that a handshake says.
use Rattle.std.specs.Prelude.{ℕ}
use Rattle.ldc_packet.specs.declared.packet.Subtype.TheVariants.{Info, Ack, Nack}
use Rattle.vio_tag.specs.declared.message.Message.{Message}
use Rattle.vio_tag.specs.declared.message.MsgBody.{MsgBody}
use Rattle.vio_tag.specs.declared.message.MsgBody.TheVariants.{DringReg}
use Rattle.vio_handshake.specs.declared.session.Offer.{Offer}

-- what an end says of itself, in a session
abbrev pub info : ℕ → MsgBody → Message
info sid body = record { subtype = Info; sid = sid; body = body }

-- its agreement
abbrev pub ack : ℕ → MsgBody → Message
ack sid body = record { subtype = Ack; sid = sid; body = body }

-- its refusal
abbrev pub nack : ℕ → MsgBody → Message
nack sid body = record { subtype = Nack; sid = sid; body = body }

-- the registration of its ring, with the option TX
abbrev pub own_ring : Offer → MsgBody
own_ring offer = DringReg 0 offer.slots offer.slot_size 1 offer.count offer.cookies
