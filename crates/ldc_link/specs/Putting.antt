-- What a link puts next.
use Rattle.std.specs.Prelude.{ℕ, ◌-◌, min, Bool, true, false, not, nat_le, nat_lt, List, [], ◌∷◌, ◌++◌, length, take, drop, replicate, Option, Some, None, is_some}
use Rattle.ldc_packet.specs.declared.packet.Body.{Body}
use Rattle.ldc_packet.specs.declared.packet.Body.TheVariants.{Part, Rdx, Rtr, Rts, Vers}
use Rattle.ldc_packet.specs.declared.packet.Packet.{Packet}
use Rattle.ldc_packet.specs.declared.packet.Subtype.{Subtype}
use Rattle.ldc_packet.specs.declared.packet.Subtype.TheVariants.{Ack, Info, Nack}
use Rattle.ldc_link.specs.declared.phase.LinkPhase.{LinkPhase}
use Rattle.ldc_link.specs.declared.phase.LinkPhase.TheVariants as phase
use Rattle.ldc_link.specs.LinkState.{LinkState, next_number}

-- a part has up to 56 bytes, and zeros after them
abbrev pub part_bytes : List ℕ → List ℕ
part_bytes message = take 56 message ++ replicate (56 - length message) 0

-- a further part follows
abbrev pub has_more : List ℕ → Bool
has_more message = nat_lt 56 (length message)

-- the first part of what is left: START where nothing was put, STOP where nothing follows
abbrev pub first_part : LinkState → Packet
first_part k = record {
  subtype = Info;
  seqid = k.put_next;
  body = Part (not k.begun) (nat_le (length k.to_send) 56) (min (length k.to_send) 56) (part_bytes k.to_send);
}

abbrev pub part_owed : LinkState → List ℕ → Option Packet
part_owed k [] = None
part_owed k (byte ∷ bytes) = Some (first_part k)

abbrev pub control : Subtype → ℕ → Body → Packet
control subtype seqid body = record { subtype = subtype; seqid = seqid; body = body }

-- the packet that is owed: that of the handshake, or else the next part of what was offered
abbrev pub owed_in : LinkPhase → LinkState → Option Packet
owed_in phase.OwesVersInfo k = Some (control Info 0 (Vers 1 0))
owed_in phase.AwaitsVersAck k = None
owed_in phase.OwesRts k = Some (control Info 0 (Rts 1))
owed_in phase.AwaitsRtr k = None
owed_in phase.OwesRdx k = Some (control Info k.put_next Rdx)
owed_in phase.AwaitsVersInfo k = None
owed_in phase.OwesVersAck k = Some (control Ack 0 (Vers 1 0))
owed_in (phase.OwesVersNack major) k = Some (control Nack 0 (Vers major 0))
owed_in phase.AwaitsRts k = None
owed_in phase.OwesRtr k = Some (control Info 0 (Rtr 1))
owed_in phase.AwaitsRdx k = None
owed_in phase.Established k = part_owed k k.to_send

abbrev pub owed_packet : LinkState → Option Packet
owed_packet k = owed_in k.phase k

abbrev pub owes : LinkState → Bool
owes k = is_some (owed_packet k)

-- whether the handshake owes one
abbrev pub owes_in : LinkPhase → Bool
owes_in phase.OwesVersInfo = true
owes_in phase.OwesRts = true
owes_in phase.OwesRdx = true
owes_in phase.OwesVersAck = true
owes_in (phase.OwesVersNack major) = true
owes_in phase.OwesRtr = true
owes_in _ = false

abbrev pub owes_control : LinkState → Bool
owes_control k = owes_in k.phase

-- the phase after the packet of the handshake
abbrev pub phase_behind_put : LinkPhase → LinkPhase
phase_behind_put phase.OwesVersInfo = phase.AwaitsVersAck
phase_behind_put phase.OwesRts = phase.AwaitsRtr
phase_behind_put phase.OwesRdx = phase.Established
phase_behind_put phase.OwesVersAck = phase.AwaitsRts
phase_behind_put (phase.OwesVersNack major) = phase.AwaitsVersInfo
phase_behind_put phase.OwesRtr = phase.AwaitsRdx
phase_behind_put other = other

-- RDX and the parts have numbers
abbrev pub number_behind_put : LinkPhase → ℕ → ℕ
number_behind_put phase.OwesRdx n = next_number n
number_behind_put phase.Established n = next_number n
number_behind_put _ n = n

abbrev pub left_behind_put : LinkPhase → List ℕ → List ℕ
left_behind_put phase.Established message = drop 56 message
left_behind_put _ message = message

abbrev pub begun_behind_put : LinkPhase → List ℕ → Bool → Bool
begun_behind_put phase.Established message begun = has_more message
begun_behind_put _ message begun = begun

-- the link after putting what it owes
abbrev pub behind_put : LinkState → LinkState
behind_put k = record k {
  phase = phase_behind_put k.phase;
  put_next = number_behind_put k.phase k.put_next;
  to_send = left_behind_put k.phase k.to_send;
  begun = begun_behind_put k.phase k.to_send k.begun;
}

abbrev pub with_link : Option Packet → LinkState → Option (Packet × LinkState)
with_link None k = None
with_link (Some packet) k = Some (packet, k)

-- what is put next, if anything, and the link after it
abbrev pub link_puts : LinkState → Option (Packet × LinkState)
link_puts k = with_link (owed_packet k) (behind_put k)
