-- The table at each place.
use Rattle.std.proofs.Common.{◌≡◌, min, Bool, true, false, Some, ◌⊎◌, inl, inr, refl}
use Rattle.ldc_link.specs.declared.phase.Role.{Role}
use Rattle.ldc_link.specs.declared.phase.Role.TheVariants.{Initiator, Responder}
use Rattle.vio_handshake.specs.Offers.{FitsRing, SameDevice}
use Rattle.vio_handshake.specs.Pairing.{other}
use Rattle.vio_handshake.specs.Rules.{HandshakeTake, Goes, GoesOpen, handshake_sent, handshake_take}
use Rattle.vio_handshake.specs.declared.handshake.Handshake.{Handshake}
use Rattle.vio_handshake.proofs.Agreeable.{answer_accepted, minor_accepted, ring_accepted, said_accepted, same_number}
use Rattle.vio_handshake.proofs.Places.{Place, VersionSaid, VersionAnswered, AttributesSaid, AttributesAnswered, RingSaid, RingAnswered, PeerRingSaid, PeerRingAnswered, ReadySaid, ReadyAnswered, PeerReadySaid, PeerReadyAnswered, AllSaid, Deal, IsPlace, message_at, next, owner, handshake_at}

-- who says a place's message comes to the next place by putting it
pub put_at : (both : Bool) (d : Deal) (role : Role) (n : Place) → IsPlace both n → owner n ≡ Some role → handshake_sent (handshake_at both d role n) ≡ handshake_at both d role (next both n)
put_at both d Initiator VersionSaid here is = refl
put_at both d Initiator AttributesSaid here is = refl
put_at both d Initiator RingSaid here is = refl
put_at true d Initiator PeerRingAnswered here is = refl
put_at false d Initiator PeerRingAnswered here is = absurd here
put_at both d Initiator ReadySaid here is = refl
put_at both d Initiator PeerReadyAnswered here is = refl
put_at both d Responder VersionAnswered here is = refl
put_at both d Responder AttributesAnswered here is = refl
put_at true d Responder RingAnswered here is = refl
put_at false d Responder RingAnswered here is = refl
put_at true d Responder PeerRingSaid here is = refl
put_at false d Responder PeerRingSaid here is = absurd here
put_at true d Responder ReadyAnswered here is = refl
put_at false d Responder ReadyAnswered here is = refl
put_at both d Responder PeerReadySaid here is = refl
put_at both d Initiator n here is = absurd (cc)
put_at both d Responder n here is = absurd (cc)

-- what the deal says of the offers
pub record Fits (both : Bool) (d : Deal) : Type 0 where
  pub kind : d.asks.both_rings ≡ both
  pub peer_kind : d.answers.both_rings ≡ both
  pub ring : FitsRing d.asks d.answers
  pub device : SameDevice both d.asks d.answers

-- who waits for a place's message comes to the next place by taking it
take_version : (both : Bool) (d : Deal) → handshake_take (handshake_at both d Responder VersionSaid) (message_at d VersionSaid) ≡ Goes (handshake_at both d Responder VersionAnswered)
take_version both d = refl

take_version_ack : (both : Bool) (d : Deal) → handshake_take (handshake_at both d Initiator VersionAnswered) (message_at d VersionAnswered) ≡ Goes (handshake_at both d Initiator AttributesSaid)
take_version_ack both d = rw (same_number d.sid, minor_accepted d.asks.minor d.answers.minor) refl

take_attributes : (both : Bool) (d : Deal) → Fits both d → handshake_take (handshake_at both d Responder AttributesSaid) (message_at d AttributesSaid) ≡ Goes (handshake_at both d Responder AttributesAnswered)
take_attributes both d fits = rw (same_number d.sid, said_accepted both d.asks d.answers (min d.asks.minor d.answers.minor) fits.kind fits.peer_kind fits.device) refl

take_attributes_ack : (both : Bool) (d : Deal) → Fits both d → handshake_take (handshake_at both d Initiator AttributesAnswered) (message_at d AttributesAnswered) ≡ Goes (handshake_at both d Initiator RingSaid)
take_attributes_ack both d fits = rw (same_number d.sid, answer_accepted both d.asks d.answers (min d.asks.minor d.answers.minor) fits.kind fits.peer_kind fits.device) refl

take_ring : (both : Bool) (d : Deal) → Fits both d → handshake_take (handshake_at both d Responder RingSaid) (message_at d RingSaid) ≡ Goes (handshake_at both d Responder RingAnswered)
take_ring both d fits = rw (same_number d.sid, ring_accepted d.asks d.answers fits.ring, fits.peer_kind) refl

take_ring_ack : (both : Bool) (d : Deal) → Fits both d → handshake_take (handshake_at both d Initiator RingAnswered) (message_at d RingAnswered) ≡ Goes (handshake_at both d Initiator (next both RingAnswered))
take_ring_ack true d fits = rw (same_number d.sid, fits.kind) refl
take_ring_ack false d fits = rw (same_number d.sid, fits.kind) refl

take_peer_ring : (d : Deal) → Fits true d → handshake_take (handshake_at true d Initiator PeerRingSaid) (message_at d PeerRingSaid) ≡ Goes (handshake_at true d Initiator PeerRingAnswered)
take_peer_ring d fits = rw (same_number d.sid, ring_accepted d.answers d.asks fits.device.2, fits.kind) refl

take_peer_ring_ack : (d : Deal) → handshake_take (handshake_at true d Responder PeerRingAnswered) (message_at d PeerRingAnswered) ≡ Goes (handshake_at true d Responder ReadySaid)
take_peer_ring_ack d = rw (same_number d.sid) refl

take_ready : (both : Bool) (d : Deal) → handshake_take (handshake_at both d Responder ReadySaid) (message_at d ReadySaid) ≡ Goes (handshake_at both d Responder ReadyAnswered)
take_ready both d = rw (same_number d.sid) refl

take_ready_ack : (both : Bool) (d : Deal) → handshake_take (handshake_at both d Initiator ReadyAnswered) (message_at d ReadyAnswered) ≡ Goes (handshake_at both d Initiator PeerReadySaid)
take_ready_ack both d = rw (same_number d.sid) refl

take_peer_ready : (both : Bool) (d : Deal) → handshake_take (handshake_at both d Initiator PeerReadySaid) (message_at d PeerReadySaid) ≡ Goes (handshake_at both d Initiator PeerReadyAnswered)
take_peer_ready both d = rw (same_number d.sid) refl

take_peer_ready_ack : (both : Bool) (d : Deal) → handshake_take (handshake_at both d Responder PeerReadyAnswered) (message_at d PeerReadyAnswered) ≡ GoesOpen (handshake_at both d Responder AllSaid)
take_peer_ready_ack both d = rw (same_number d.sid) refl

-- a message is taken, to this state
abbrev pub GoesTo : HandshakeTake → Handshake → Type 0
GoesTo answer t = (answer ≡ Goes t) ⊎ (answer ≡ GoesOpen t)

pub take_at : (both : Bool) (d : Deal) (role : Role) (n : Place) → Fits both d → IsPlace both n → owner n ≡ Some (other role)
    → GoesTo (handshake_take (handshake_at both d role n) (message_at d n)) (handshake_at both d role (next both n))
take_at both d Responder VersionSaid fits here is = inl (take_version both d)
take_at both d Responder AttributesSaid fits here is = inl (take_attributes both d fits)
take_at both d Responder RingSaid fits here is = inl (take_ring both d fits)
take_at true d Responder PeerRingAnswered fits here is = inl (take_peer_ring_ack d)
take_at false d Responder PeerRingAnswered fits here is = absurd here
take_at both d Responder ReadySaid fits here is = inl (take_ready both d)
take_at both d Responder PeerReadyAnswered fits here is = inr (take_peer_ready_ack both d)
take_at both d Initiator VersionAnswered fits here is = inl (take_version_ack both d)
take_at both d Initiator AttributesAnswered fits here is = inl (take_attributes_ack both d fits)
take_at both d Initiator RingAnswered fits here is = inl (take_ring_ack both d fits)
take_at true d Initiator PeerRingSaid fits here is = inl (take_peer_ring d fits)
take_at false d Initiator PeerRingSaid fits here is = absurd here
take_at both d Initiator ReadyAnswered fits here is = inl (take_ready_ack both d)
take_at both d Initiator PeerReadySaid fits here is = inl (take_peer_ready both d)
take_at both d Initiator n fits here is = absurd (cc)
take_at both d Responder n fits here is = absurd (cc)
