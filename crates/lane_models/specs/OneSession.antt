-- The open sessions of both ends are one: they have one sid and one minor, which is the smaller of those that they offer. The responder knows
-- the initiator's ring as it is offered, by the number that the initiator has for it too; and where both ends have one, the initiator the
-- responder's.
use Rattle.std.specs.Prelude.{◌≡◌, min}
use Rattle.vio_handshake.specs.declared.handshake.Handshake.{Handshake}
use Rattle.vio_handshake.specs.Pairing.{KnowsBoth, KnowsRing}

pub record AreOneSession (initiator responder : Handshake) : Type 0 where
  pub sid : responder.draft.sid ≡ initiator.draft.sid
  pub minor : responder.draft.minor ≡ initiator.draft.minor
  pub smaller : responder.draft.minor ≡ min initiator.offer.minor responder.offer.minor
  pub ring : KnowsRing responder.draft initiator.draft initiator.offer
  pub peer_ring : KnowsBoth initiator.offer.both_rings initiator.draft responder.draft responder.offer
