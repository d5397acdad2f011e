-- How many packets an end may put, at most, without taking one: its budget. Each packet that it puts lowers the budget, and only what it
-- takes raises it, so that only so many packets for an end can be lost between two that it takes.
use Rattle.std.specs.Prelude.{ℕ, ◌+◌, ◌*◌, Bool, true, false, List, [], ◌∷◌, length, Option, Some, None}
use Rattle.ldc_link.specs.declared.phase.LinkPhase.{LinkPhase}
use Rattle.ldc_link.specs.declared.phase.LinkPhase.TheVariants as phase
use Rattle.ldc_link.specs.declared.phase.Role.{Role}
use Rattle.ldc_link.specs.declared.phase.Role.TheVariants.{Initiator, Responder}
use Rattle.vio_handshake.specs.declared.handshake.Phase.{Phase}
use Rattle.vio_handshake.specs.declared.handshake.Phase.TheVariants.{PeerReadyTaken, PeerRingTaken}
use Rattle.vio_tag.specs.declared.message.Message.{Message}
use Rattle.lane_models.specs.EndCore.{EndCore}

-- A message of the handshake has at most 256 bytes, one of the session 56: a byte of a message that is held counts one, a message that is
-- still to be held one more than its bytes. Before the link is up none is put; with RDX an initiator's handshake begins, and owes a message.
abbrev pub budget_in : LinkPhase → ℕ → ℕ
budget_in phase.OwesVersInfo n = 1
budget_in phase.OwesRts n = 1
budget_in phase.OwesRdx n = n + 515
budget_in phase.OwesVersAck n = 1
budget_in (phase.OwesVersNack major) n = 1
budget_in phase.OwesRtr n = 1
budget_in phase.Established n = n
budget_in _ n = 0

-- the message that is owed, which is the one that the link holds unless that is of the session; and the one that follows it
abbrev pub one_owed : Option Message → ℕ
one_owed None = 0
one_owed (Some message) = 1

abbrev pub owed_packets : Bool → List ℕ → Option Message → ℕ
owed_packets own [] owed = one_owed owed
owed_packets true (byte ∷ bytes) owed = one_owed owed
owed_packets false (byte ∷ bytes) owed = 0

abbrev pub one_more : Role → Phase → ℕ
one_more Initiator PeerRingTaken = 1
one_more Responder PeerRingTaken = 1
one_more Responder PeerReadyTaken = 1
one_more role _ = 0

-- the messages of a session that opens by a message which is put
abbrev pub opening_left : Role → Phase → ℕ
opening_left Initiator PeerReadyTaken = 256
opening_left role _ = 0

abbrev pub messages_left : EndCore → ℕ
messages_left c =
    length c.link.to_send
    + 257 * (owed_packets c.own c.link.to_send c.handshake.owed + one_more c.handshake.role c.handshake.phase)
    + 60 * (opening_left c.handshake.role c.handshake.phase + c.more)

abbrev pub budget : EndCore → ℕ
budget c = budget_in c.link.phase (messages_left c)
