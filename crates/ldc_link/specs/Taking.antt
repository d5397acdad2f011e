-- What a link takes, and why it doesn't. The causes in their order: bytes that are no packet, a gap in the numbers, a mode other than
-- unreliable, a version that wasn't agreed on, a packet that the phase doesn't take, a part that makes no message.
use Rattle.std.specs.Prelude.{◌≡◌, ℕ, ◌+◌, Bool, true, false, ◌&&◌, nat_eq, nat_le, if◌then◌else◌, List, [], ◌∷◌, ◌++◌, length, take, Option, Some, None, Result, Ok, Err}
use Rattle.ldc_packet.specs.declared.packet.Body.{Body}
use Rattle.ldc_packet.specs.declared.packet.Body.TheVariants.{Part, Rdx, Rtr, Rts, Vers}
use Rattle.ldc_packet.specs.declared.packet.Packet.{Packet}
use Rattle.ldc_packet.specs.declared.packet.PacketFault.{PacketFault}
use Rattle.ldc_packet.specs.declared.packet.Subtype.{Subtype}
use Rattle.ldc_packet.specs.declared.packet.Subtype.TheVariants.{Ack, Info, Nack}
use Rattle.ldc_packet.specs.Decoding.{Unpacks}
use Rattle.ldc_queue.specs.Fragments.{Fragment}
use Rattle.ldc_queue.specs.Messages.{half_with}
use Rattle.vio_tag.specs.declared.cause.Cause.{Cause}
use Rattle.vio_tag.specs.declared.cause.Cause.TheVariants as cause
use Rattle.ldc_link.specs.declared.phase.LinkPhase.{LinkPhase}
use Rattle.ldc_link.specs.declared.phase.LinkPhase.TheVariants as phase
use Rattle.ldc_link.specs.LinkState.{LinkState, is_up, next_number}

pub data LinkTake : Type 0 where
  Heard : LinkState → LinkTake
  Unheard : Cause → LinkTake

-- The phase after a control packet, or why it isn't taken. Version 1.0 is offered and agreed on; an offer with another major is
-- refused with the major that could be agreed on, or 0.
abbrev pub answer_to : ℕ → LinkPhase
answer_to major = if nat_eq major 1 then phase.OwesVersAck else if nat_eq major 0 then phase.OwesVersNack 0 else phase.OwesVersNack 1

abbrev pub phase_behind_answer : ℕ → ℕ → Result LinkPhase Cause
phase_behind_answer major minor = if nat_eq major 1 && nat_eq minor 0 then Ok phase.OwesRts else Err cause.Version

abbrev pub phase_behind_vers : LinkPhase → Subtype → ℕ → ℕ → Result LinkPhase Cause
phase_behind_vers phase.AwaitsVersInfo Info major minor = Ok (answer_to major)
phase_behind_vers phase.AwaitsVersAck Ack major minor = phase_behind_answer major minor
phase_behind_vers phase.AwaitsVersAck Nack major minor = Err cause.Version
phase_behind_vers _ _ _ _ = Err cause.Unexpected

abbrev pub phase_behind_rts : LinkPhase → Subtype → Result LinkPhase Cause
phase_behind_rts phase.AwaitsRts Info = Ok phase.OwesRtr
phase_behind_rts _ _ = Err cause.Unexpected

abbrev pub phase_behind_rtr : LinkPhase → Subtype → Result LinkPhase Cause
phase_behind_rtr phase.AwaitsRtr Info = Ok phase.OwesRdx
phase_behind_rtr _ _ = Err cause.Unexpected

abbrev pub phase_behind_rdx : LinkPhase → Subtype → Result LinkPhase Cause
phase_behind_rdx phase.AwaitsRdx Info = Ok phase.Established
phase_behind_rdx _ _ = Err cause.Unexpected

-- the mode 1 is unreliable
abbrev pub in_mode : ℕ → Result LinkPhase Cause → Result LinkPhase Cause
in_mode mode behind = if nat_eq mode 1 then behind else Err (cause.Mode mode)

abbrev pub goes_to : LinkState → Result LinkPhase Cause → LinkTake
goes_to k (Ok phase) = Heard (record k { phase = phase })
goes_to k (Err cause) = Unheard cause

-- a part may come with START exactly where nothing of a message has come, and makes no message above 256 bytes
abbrev pub begins_rightly : Bool → List ℕ → Bool
begins_rightly true [] = true
begins_rightly true (byte ∷ half) = false
begins_rightly false [] = false
begins_rightly false (byte ∷ half) = true

abbrev pub may_come : List ℕ → Fragment → Bool
may_come half part = begins_rightly part.start half && nat_le (length half + length part.bytes) 256

abbrev pub whole_of : Bool → List ℕ → Option (List ℕ)
whole_of true message = Some message
whole_of false message = None

abbrev pub with_part : LinkState → Fragment → LinkState
with_part k part = record k {
  half_heard = half_with part.stop (k.half_heard ++ part.bytes);
  whole = whole_of part.stop (k.half_heard ++ part.bytes);
}

abbrev pub takes_part : LinkState → Fragment → LinkTake
takes_part k part =
    if is_up k then (if may_come k.half_heard part then Heard (with_part k part) else Unheard cause.Fragment) else Unheard cause.Unexpected

-- a packet with a number is taken with the next one alone, and counted
abbrev pub counted : LinkState → LinkState
counted k = record k { take_next = next_number k.take_next }

abbrev pub count : LinkTake → LinkTake
count (Heard k) = Heard (counted k)
count (Unheard cause) = Unheard cause

abbrev pub in_turn : LinkState → ℕ → LinkTake → LinkTake
in_turn k seqid behind = if nat_eq seqid k.take_next then count behind else Unheard (cause.Gap k.take_next seqid)

abbrev pub takes_body : LinkState → Subtype → ℕ → Body → LinkTake
takes_body k subtype seqid (Vers major minor) = goes_to k (phase_behind_vers k.phase subtype major minor)
takes_body k subtype seqid (Rts mode) = goes_to k (in_mode mode (phase_behind_rts k.phase subtype))
takes_body k subtype seqid (Rtr mode) = goes_to k (in_mode mode (phase_behind_rtr k.phase subtype))
takes_body k subtype seqid Rdx = in_turn k seqid (goes_to k (phase_behind_rdx k.phase subtype))
takes_body k subtype seqid (Part start stop len bytes) =
    in_turn k seqid (takes_part k (record { start = start; stop = stop; bytes = take len bytes }))

-- the link after a packet, or why it isn't taken
abbrev pub link_take : LinkState → Packet → LinkTake
link_take k packet = takes_body k packet.subtype packet.seqid packet.body

abbrev pub takes_decoded : LinkState → Result Packet PacketFault → LinkTake
takes_decoded k (Ok packet) = link_take k packet
takes_decoded k (Err fault) = Unheard (cause.Packet fault)

-- the same from bytes
pub record TakesBytes (k : LinkState) (bytes : List ℕ) (answer : LinkTake) : Type 0 where
  pub decoded : Result Packet PacketFault
  pub unpacks : Unpacks bytes decoded
  pub is : answer ≡ takes_decoded k decoded
