-- How many packets an end has still to put until its handshake is through and its link holds nothing. Each packet that it puts lowers the
-- number. A message of its session takes one packet, and raises the number by one as the link holds it.
use Rattle.std.specs.Prelude.{ℕ, ◌+◌, ◌/◌, Bool, true, false, List, [], ◌∷◌, length, Option, Some, None}
use Rattle.ldc_link.specs.declared.phase.LinkPhase.{LinkPhase}
use Rattle.ldc_link.specs.declared.phase.LinkPhase.TheVariants as phase
use Rattle.ldc_link.specs.declared.phase.Role.{Role}
use Rattle.ldc_link.specs.declared.phase.Role.TheVariants.{Initiator, Responder}
use Rattle.ldc_link.specs.LinkState.{first_phase}
use Rattle.vio_handshake.specs.declared.handshake.Handshake.{Handshake}
use Rattle.vio_handshake.specs.declared.handshake.Phase.{Phase}
use Rattle.vio_handshake.specs.declared.handshake.Phase.TheVariants.{Attributes, OwnReady, OwnRing, PeerReady, PeerReadyTaken, PeerRing, PeerRingTaken, Version}
use Rattle.vio_tag.specs.declared.message.Message.{Message}
use Rattle.vio_tag.specs.Spelling.{canonical}
use Rattle.lane_models.specs.EndCore.{EndCore}
use Rattle.lane_models.specs.EndStep.{Holding, HoldsOn, HoldsOwed, HoldsOwn}

-- PACKETS of a message of so many bytes, and of the message that is owed
abbrev pub parts : ℕ → ℕ
parts n = (n + 55) / 56

abbrev pub parts_owed : Option Message → ℕ
parts_owed None = 0
parts_owed (Some message) = parts (length (canonical message))

-- THE HANDSHAKE: the packets that follow the message which is owed, where the initiator alone has a ring, and where both ends have one. The
-- registration of a ring and its answer count two each; the one with which a responder follows its answer counts five, as many as any has.
abbrev pub later_one : Role → Phase → ℕ
later_one Initiator Version = 5
later_one Initiator Attributes = 4
later_one Initiator OwnRing = 2
later_one Initiator PeerRing = 3
later_one Initiator PeerRingTaken = 2
later_one Initiator OwnReady = 1
later_one Initiator PeerReady = 1
later_one Responder Version = 6
later_one Responder Attributes = 5
later_one Responder PeerRing = 4
later_one Responder PeerRingTaken = 7
later_one Responder OwnRing = 2
later_one Responder PeerReady = 2
later_one Responder PeerReadyTaken = 1
later_one Initiator _ = 0
later_one Responder _ = 0

abbrev pub later_both : Role → Phase → ℕ
later_both Initiator Version = 7
later_both Initiator Attributes = 6
later_both Initiator OwnRing = 4
later_both Initiator PeerRing = 4
later_both Initiator PeerRingTaken = 2
later_both Initiator OwnReady = 1
later_both Initiator PeerReady = 1
later_both Responder Version = 11
later_both Responder Attributes = 10
later_both Responder PeerRing = 9
later_both Responder PeerRingTaken = 7
later_both Responder OwnRing = 2
later_both Responder PeerReady = 2
later_both Responder PeerReadyTaken = 1
later_both Initiator _ = 0
later_both Responder _ = 0

abbrev pub later : (both_rings : Bool) → Role → Phase → ℕ
later false role at = later_one role at
later true role at = later_both role at

abbrev pub later_in : Handshake → ℕ
later_in h = later h.offer.both_rings h.role h.phase

-- all of them, as the link comes up: an initiator owes the first then
abbrev pub all_of : (both_rings : Bool) → Role → ℕ
all_of both_rings Initiator = later both_rings Initiator Version + 1
all_of both_rings Responder = later both_rings Responder Version

abbrev pub all_in : Handshake → ℕ
all_in h = all_of h.offer.both_rings h.role

-- THE LINK holds a message of the session beside the one that is owed, or that one
abbrev pub held_left : (own : Bool) → List ℕ → Option Message → ℕ
held_left own [] owed = parts_owed owed
held_left true (byte ∷ bytes) owed = parts (length (byte ∷ bytes)) + parts_owed owed
held_left false (byte ∷ bytes) owed = parts (length (byte ∷ bytes))

abbrev pub messages_in : EndCore → ℕ
messages_in c = later_in c.handshake + held_left c.own c.link.to_send c.handshake.owed

-- before it is up, its own packets come first, and then all of the handshake
abbrev pub left_in : LinkPhase → (all messages : ℕ) → ℕ
left_in phase.OwesVersInfo all messages = all + 3
left_in phase.AwaitsVersAck all messages = all + 2
left_in phase.OwesRts all messages = all + 2
left_in phase.AwaitsRtr all messages = all + 1
left_in phase.OwesRdx all messages = all + 1
left_in (phase.OwesVersNack major) all messages = all + 3
left_in phase.AwaitsVersInfo all messages = all + 2
left_in phase.OwesVersAck all messages = all + 2
left_in phase.AwaitsRts all messages = all + 1
left_in phase.OwesRtr all messages = all + 1
left_in phase.AwaitsRdx all messages = all
left_in phase.Established all messages = messages

-- THE NUMBER, and that of an end that begins
abbrev pub packets_left : EndCore → ℕ
packets_left c = left_in c.link.phase (all_in c.handshake) (messages_in c)

abbrev pub first_packets : (both_rings : Bool) → Role → ℕ
first_packets both_rings role = left_in (first_phase role) (all_of both_rings role) 0

-- a message of the session comes with one more
abbrev pub own_in : Holding → ℕ
own_in HoldsOn = 0
own_in (HoldsOwed message) = 0
own_in (HoldsOwn message) = 1
