-- An end's own step never resets it for a cause that a script, a restart or a tick gives.
use Rattle.std.proofs.Common.{◌≡◌, ℕ, Bool, true, false, List, refl, sym, subst}
use Rattle.std.specs.Prelude.{take as take_bytes, Result, Ok, Err, nat_eq, ◌&&◌, if◌then◌else◌, ⊤}
use Rattle.ldc_link.specs.declared.phase.LinkPhase.{LinkPhase}
use Rattle.ldc_link.specs.declared.phase.LinkPhase.TheVariants as phase
use Rattle.ldc_link.specs.LinkState.{LinkState, is_up}
use Rattle.ldc_link.specs.Taking.{Heard, LinkTake, TakesBytes, Unheard, count, goes_to, in_mode, in_turn, may_come, phase_behind_rdx, phase_behind_rtr, phase_behind_rts, phase_behind_vers, takes_body, takes_decoded, takes_part, with_part}
use Rattle.ldc_packet.specs.declared.packet.Body.{Body}
use Rattle.ldc_packet.specs.declared.packet.Body.TheVariants.{Part, Rdx, Rtr, Rts, Vers}
use Rattle.ldc_packet.specs.declared.packet.Packet.{Packet}
use Rattle.ldc_packet.specs.declared.packet.PacketFault.{PacketFault}
use Rattle.ldc_packet.specs.declared.packet.Subtype.{Subtype}
use Rattle.ldc_packet.specs.declared.packet.Subtype.TheVariants.{Info, Ack, Nack}
use Rattle.ldc_queue.specs.Fragments.{Fragment}
use Rattle.vio_tag.specs.declared.cause.Cause.{Cause}
use Rattle.vio_tag.specs.declared.cause.Cause.TheVariants as the_cause
use Rattle.lane_models.specs.WireEvent.{ByStep, giver}

abbrev pub IsOwn : Cause → Type 0
IsOwn cause = giver cause ≡ ByStep

-- the link's phases
abbrev OwnPhase : Result LinkPhase Cause → Type 0
OwnPhase (Ok phase) = ⊤
OwnPhase (Err cause) = IsOwn cause

abbrev pub OwnLink : LinkTake → Type 0
OwnLink (Heard k) = ⊤
OwnLink (Unheard cause) = IsOwn cause

phase_if : (b : Bool) (one other : Result LinkPhase Cause) → OwnPhase one → OwnPhase other → OwnPhase (if b then one else other)
phase_if true one other own rest = own
phase_if false one other own rest = rest

link_if : (b : Bool) (one other : LinkTake) → OwnLink one → OwnLink other → OwnLink (if b then one else other)
link_if true one other own rest = own
link_if false one other own rest = rest

vers_own : (p : LinkPhase) (s : Subtype) (major minor : ℕ) → OwnPhase (phase_behind_vers p s major minor)
vers_own phase.AwaitsVersInfo Info major minor = tt
vers_own phase.AwaitsVersAck Ack major minor = phase_if (nat_eq major 1 && nat_eq minor 0) (Ok phase.OwesRts) (Err the_cause.Version) tt refl
vers_own phase.AwaitsVersAck Nack major minor = refl
vers_own _ _ major minor = refl

rts_own : (p : LinkPhase) (s : Subtype) → OwnPhase (phase_behind_rts p s)
rts_own phase.AwaitsRts Info = tt
rts_own _ _ = refl

rtr_own : (p : LinkPhase) (s : Subtype) → OwnPhase (phase_behind_rtr p s)
rtr_own phase.AwaitsRtr Info = tt
rtr_own _ _ = refl

rdx_own : (p : LinkPhase) (s : Subtype) → OwnPhase (phase_behind_rdx p s)
rdx_own phase.AwaitsRdx Info = tt
rdx_own _ _ = refl

goes_own : (k : LinkState) (r : Result LinkPhase Cause) → OwnPhase r → OwnLink (goes_to k r)
goes_own k (Ok p) own = tt
goes_own k (Err cause) own = own

count_own : (take : LinkTake) → OwnLink take → OwnLink (count take)
count_own (Heard k) own = tt
count_own (Unheard cause) own = own

turn_own : (k : LinkState) (seqid : ℕ) (take : LinkTake) → OwnLink take → OwnLink (in_turn k seqid take)
turn_own k seqid take own = link_if (nat_eq seqid k.take_next) (count take) (Unheard (the_cause.Gap k.take_next seqid)) (count_own take own) refl

part_own : (k : LinkState) (part : Fragment) → OwnLink (takes_part k part)
part_own k part =
    link_if (is_up k) (if may_come k.half_heard part then Heard (with_part k part) else Unheard the_cause.Fragment) (Unheard the_cause.Unexpected)
    (link_if (may_come k.half_heard part) (Heard (with_part k part)) (Unheard the_cause.Fragment) tt refl) refl

body_own : (k : LinkState) (s : Subtype) (seqid : ℕ) (b : Body) → OwnLink (takes_body k s seqid b)
body_own k s seqid (Vers major minor) = goes_own k (phase_behind_vers k.phase s major minor) (vers_own k.phase s major minor)
body_own k s seqid (Rts mode) =
    goes_own k (in_mode mode (phase_behind_rts k.phase s)) (phase_if (nat_eq mode 1) (phase_behind_rts k.phase s) (Err (the_cause.Mode mode)) (rts_own k.phase s) refl)
body_own k s seqid (Rtr mode) =
    goes_own k (in_mode mode (phase_behind_rtr k.phase s)) (phase_if (nat_eq mode 1) (phase_behind_rtr k.phase s) (Err (the_cause.Mode mode)) (rtr_own k.phase s) refl)
body_own k s seqid Rdx = turn_own k seqid (goes_to k (phase_behind_rdx k.phase s)) (goes_own k (phase_behind_rdx k.phase s) (rdx_own k.phase s))
body_own k s seqid (Part start stop len bytes) =
    turn_own k seqid (takes_part k (record { start = start; stop = stop; bytes = take_bytes len bytes }))
    (part_own k (record { start = start; stop = stop; bytes = take_bytes len bytes }))

decoded_own : (k : LinkState) (d : Result Packet PacketFault) → OwnLink (takes_decoded k d)
decoded_own k (Ok packet) = body_own k packet.subtype packet.seqid packet.body
decoded_own k (Err fault) = refl

-- what a link takes of bytes
pub link_own : (k : LinkState) (bytes : List ℕ) (take : LinkTake) → TakesBytes k bytes take → OwnLink take
link_own k bytes take takes = subst OwnLink (sym takes.is) (decoded_own k takes.decoded)
