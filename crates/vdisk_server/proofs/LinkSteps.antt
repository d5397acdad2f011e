-- What a responder's link is after a packet that it took.
use Rattle.std.proofs.Common.{◌≡◌, ℕ, Bool, true, false, List, [], ◌∷◌, take, Result, Ok, Err, refl, sym, subst}
use Rattle.std.specs.Prelude.{◌&&◌, nat_eq, if◌then◌else◌, is_some, ⊤}
use Rattle.ldc_link.specs.declared.phase.LinkPhase.{LinkPhase}
use Rattle.ldc_link.specs.declared.phase.LinkPhase.TheVariants as link
use Rattle.ldc_link.specs.LinkState.{LinkState, is_established, is_up}
use Rattle.ldc_link.specs.Putting.{owed_in, owes, owes_control, owes_in, part_owed}
use Rattle.ldc_link.specs.Taking.{Heard, LinkTake, TakesBytes, Unheard, answer_to, count, goes_to, in_mode, in_turn, may_come, phase_behind_rdx, phase_behind_rtr, phase_behind_rts, phase_behind_vers, takes_body, takes_decoded, takes_part, with_part}
use Rattle.ldc_packet.specs.declared.packet.Body.{Body}
use Rattle.ldc_packet.specs.declared.packet.Body.TheVariants.{Part, Rdx, Rtr, Rts, Vers}
use Rattle.ldc_packet.specs.declared.packet.Packet.{Packet}
use Rattle.ldc_packet.specs.declared.packet.PacketFault.{PacketFault}
use Rattle.ldc_packet.specs.declared.packet.Subtype.{Subtype}
use Rattle.ldc_packet.specs.declared.packet.Subtype.TheVariants.{Ack, Info, Nack}
use Rattle.ldc_queue.specs.Fragments.{Fragment}
use Rattle.vio_tag.specs.declared.cause.Cause.{Cause}
use Rattle.vio_tag.specs.declared.cause.Cause.TheVariants as cause
use Rattle.vdisk_server.specs.Standing.{AnswersLink}

-- its role stays, what is to be sent stays, it stays up, and a message is whole only where it is up
pub record LinkTook (k t : LinkState) : Type 0 where
  pub role : t.role ≡ k.role
  pub phase : AnswersLink k.phase → AnswersLink t.phase
  pub to_send : t.to_send ≡ k.to_send
  pub stays : is_up k ≡ true → is_up t ≡ true
  pub whole : is_up t ≡ false → t.whole ≡ k.whole

abbrev pub TookBy : LinkState → LinkTake → Type 0
TookBy k (Heard t) = LinkTook k t
TookBy k (Unheard cause) = ⊤

abbrev pub PhaseWent : LinkPhase → Result LinkPhase Cause → Type 0
PhaseWent p (Ok q) = (AnswersLink p → AnswersLink q) × (is_established p ≡ true → is_established q ≡ true)
PhaseWent p (Err cause) = ⊤

cond_went : (p : LinkPhase) (test : Bool) (x y : Result LinkPhase Cause) → PhaseWent p x → PhaseWent p y → PhaseWent p (if test then x else y)
cond_went p true x y one other = one
cond_went p false x y one other = other

cond_answers : (test : Bool) (x y : LinkPhase) → AnswersLink x → AnswersLink y → AnswersLink (if test then x else y)
cond_answers true x y one other = one
cond_answers false x y one other = other

answer_answers : (major : ℕ) → AnswersLink (answer_to major)
answer_answers major =
    cond_answers (nat_eq major 1) link.OwesVersAck (if nat_eq major 0 then link.OwesVersNack 0 else link.OwesVersNack 1) tt
    (cond_answers (nat_eq major 0) (link.OwesVersNack 0) (link.OwesVersNack 1) tt tt)

vers_went : (p : LinkPhase) (subtype : Subtype) (major minor : ℕ) → PhaseWent p (phase_behind_vers p subtype major minor)
vers_went link.AwaitsVersInfo Info major minor = (λ answers. answer_answers major, λ up. absurd (cc))
vers_went link.AwaitsVersAck Ack major minor =
    cond_went link.AwaitsVersAck (nat_eq major 1 && nat_eq minor 0) (Ok link.OwesRts) (Err cause.Version) (λ answers. absurd answers, λ up. absurd (cc)) tt
vers_went link.AwaitsVersAck Nack major minor = tt
vers_went p subtype major minor = tt

rts_went : (p : LinkPhase) (subtype : Subtype) → PhaseWent p (phase_behind_rts p subtype)
rts_went link.AwaitsRts Info = (λ answers. tt, λ up. absurd (cc))
rts_went p subtype = tt

rtr_went : (p : LinkPhase) (subtype : Subtype) → PhaseWent p (phase_behind_rtr p subtype)
rtr_went link.AwaitsRtr Info = (λ answers. absurd answers, λ up. absurd (cc))
rtr_went p subtype = tt

rdx_went : (p : LinkPhase) (subtype : Subtype) → PhaseWent p (phase_behind_rdx p subtype)
rdx_went link.AwaitsRdx Info = (λ answers. tt, λ up. refl)
rdx_went p subtype = tt

goes_took : (k : LinkState) (behind : Result LinkPhase Cause) → PhaseWent k.phase behind → TookBy k (goes_to k behind)
goes_took k (Ok phase) (answers, stays) = record { role = refl; phase = answers; to_send = refl; stays = stays; whole = λ down. refl }
goes_took k (Err cause) went = tt

count_took : (k : LinkState) (behind : LinkTake) → TookBy k behind → TookBy k (count behind)
count_took k (Heard t) took = record { role = took.role; phase = took.phase; to_send = took.to_send; stays = took.stays; whole = took.whole }
count_took k (Unheard cause) took = tt

cond_took : (k : LinkState) (test : Bool) (x y : LinkTake) → TookBy k x → TookBy k y → TookBy k (if test then x else y)
cond_took k true x y one other = one
cond_took k false x y one other = other

turn_took : (k : LinkState) (seqid : ℕ) (behind : LinkTake) → TookBy k behind → TookBy k (in_turn k seqid behind)
turn_took k seqid behind took =
    cond_took k (nat_eq seqid k.take_next) (count behind) (Unheard (cause.Gap k.take_next seqid)) (count_took k behind took) tt

part_took : (k : LinkState) (part : Fragment) (up : Bool) → is_up k ≡ up
    → TookBy k (if up then (if may_come k.half_heard part then Heard (with_part k part) else Unheard cause.Fragment) else Unheard cause.Unexpected)
part_took k part false is = tt
part_took k part true is =
    cond_took k (may_come k.half_heard part) (Heard (with_part k part)) (Unheard cause.Fragment)
    (record { role = refl; phase = λ answers. answers; to_send = refl; stays = λ up. is; whole = λ down. absurd (cc) }) tt

body_took : (k : LinkState) (subtype : Subtype) (seqid : ℕ) (body : Body) → TookBy k (takes_body k subtype seqid body)
body_took k subtype seqid (Vers major minor) = goes_took k (phase_behind_vers k.phase subtype major minor) (vers_went k.phase subtype major minor)
body_took k subtype seqid (Rts mode) =
    goes_took k (in_mode mode (phase_behind_rts k.phase subtype))
    (cond_went k.phase (nat_eq mode 1) (phase_behind_rts k.phase subtype) (Err (cause.Mode mode)) (rts_went k.phase subtype) tt)
body_took k subtype seqid (Rtr mode) =
    goes_took k (in_mode mode (phase_behind_rtr k.phase subtype))
    (cond_went k.phase (nat_eq mode 1) (phase_behind_rtr k.phase subtype) (Err (cause.Mode mode)) (rtr_went k.phase subtype) tt)
body_took k subtype seqid Rdx =
    turn_took k seqid (goes_to k (phase_behind_rdx k.phase subtype)) (goes_took k (phase_behind_rdx k.phase subtype) (rdx_went k.phase subtype))
body_took k subtype seqid (Part start stop len bytes) =
    turn_took k seqid (takes_part k (record { start = start; stop = stop; bytes = take len bytes }))
    (part_took k (record { start = start; stop = stop; bytes = take len bytes }) (is_up k) refl)

decoded_took : (k : LinkState) (decoded : Result Packet PacketFault) → TookBy k (takes_decoded k decoded)
decoded_took k (Ok packet) = body_took k packet.subtype packet.seqid packet.body
decoded_took k (Err fault) = tt

pub link_took : (k t : LinkState) (bytes : List ℕ) → TakesBytes k bytes (Heard t) → LinkTook k t
link_took k t bytes takes = subst (λ (answer : LinkTake). TookBy k answer) (sym takes.is) (decoded_took k takes.decoded)

-- a link that owes nothing owes no packet of its handshake, and where it is up it has nothing to send
nothing_owed : (phase : LinkPhase) (k : LinkState) → is_some (owed_in phase k) ≡ false → owes_in phase ≡ false
nothing_owed link.OwesVersInfo k none = absurd (cc)
nothing_owed link.OwesRts k none = absurd (cc)
nothing_owed link.OwesRdx k none = absurd (cc)
nothing_owed link.OwesVersAck k none = absurd (cc)
nothing_owed (link.OwesVersNack major) k none = absurd (cc)
nothing_owed link.OwesRtr k none = absurd (cc)
nothing_owed phase k none = refl

pub no_control : (k : LinkState) → owes k ≡ false → owes_control k ≡ false
no_control k none = nothing_owed k.phase k none

no_part : (k : LinkState) (left : List ℕ) → is_some (part_owed k left) ≡ false → left ≡ []
no_part k [] none = refl
no_part k (byte ∷ left) none = absurd (cc)

nothing_left : (phase : LinkPhase) (k : LinkState) (left : List ℕ) → is_established phase ≡ true → is_some (owed_in phase k) ≡ false → k.to_send ≡ left → left ≡ []
nothing_left link.Established k left up none is = no_part k left (subst (λ (xs : List ℕ). is_some (part_owed k xs) ≡ false) is none)
nothing_left phase k left up none is = absurd (cc)

pub none_to_send : (k : LinkState) → is_up k ≡ true → owes k ≡ false → k.to_send ≡ []
none_to_send k up none = nothing_left k.phase k k.to_send up none refl
