-- What taking a packet leaves of a link, of either role: a message becomes whole over a link that was up alone. One
-- that is up stays up, and one that begins comes up by no packet that it takes.
use Rattle.std.proofs.Common.{◌≡◌, ◌≢◌, ℕ, Bool, true, false, List, None, Result, Ok, Err, refl, sym, subst}
use Rattle.std.specs.Prelude.{◌&&◌, if◌then◌else◌, nat_eq, take, ⊤}
use Rattle.ldc_packet.specs.declared.packet.Body.{Body}
use Rattle.ldc_packet.specs.declared.packet.Body.TheVariants.{Part, Rdx, Rtr, Rts, Vers}
use Rattle.ldc_packet.specs.declared.packet.Packet.{Packet}
use Rattle.ldc_packet.specs.declared.packet.PacketFault.{PacketFault}
use Rattle.ldc_packet.specs.declared.packet.Subtype.{Subtype}
use Rattle.ldc_packet.specs.declared.packet.Subtype.TheVariants.{Ack, Info, Nack}
use Rattle.ldc_queue.specs.Fragments.{Fragment}
use Rattle.vio_tag.specs.declared.cause.Cause.{Cause}
use Rattle.vio_tag.specs.declared.cause.Cause.TheVariants as cause
use Rattle.ldc_link.specs.declared.phase.LinkPhase.{LinkPhase}
use Rattle.ldc_link.specs.declared.phase.LinkPhase.TheVariants as phase
use Rattle.ldc_link.specs.declared.phase.Role.{Role}
use Rattle.ldc_link.specs.declared.phase.Role.TheVariants.{Initiator, Responder}
use Rattle.ldc_link.specs.LinkState.{LinkState, is_established, is_up}
use Rattle.ldc_link.specs.Taking.{Heard, LinkTake, TakesBytes, Unheard, count, goes_to, in_mode, in_turn, may_come, phase_behind_rdx, phase_behind_rtr, phase_behind_rts, phase_behind_vers, takes_body, takes_decoded, takes_part, with_part}
use Rattle.vnet_port.specs.Standing.{Begins, IsPhaseOf}

-- THE PHASE: of a link that begins it is one of those, and as far up as before
pub record PhaseWent (p q : LinkPhase) : Type 0 where
  pub begins : Begins p → Begins q × (is_established q ≡ is_established p)
  pub stays : is_established p ≡ true → is_established q ≡ true

abbrev GoesTo : LinkPhase → Result LinkPhase Cause → Type 0
GoesTo p (Ok q) = PhaseWent p q
GoesTo p (Err cause) = ⊤

if_went : (p : LinkPhase) (b : Bool) (x y : Result LinkPhase Cause) → GoesTo p x → GoesTo p y → GoesTo p (if b then x else y)
if_went p true x y first second = first
if_went p false x y first second = second

vers_went : (p : LinkPhase) (subtype : Subtype) (major minor : ℕ) → GoesTo p (phase_behind_vers p subtype major minor)
vers_went phase.AwaitsVersInfo Info major minor = record { begins = λ begins. absurd begins; stays = λ up. absurd (cc up) }
vers_went phase.AwaitsVersAck Ack major minor =
    if_went phase.AwaitsVersAck (nat_eq major 1 && nat_eq minor 0) (Ok phase.OwesRts) (Err cause.Version)
    (record { begins = λ begins. (tt, refl); stays = λ up. absurd (cc up) }) tt
vers_went phase.AwaitsVersAck Nack major minor = tt
vers_went p subtype major minor = tt

rts_went : (p : LinkPhase) (subtype : Subtype) → GoesTo p (phase_behind_rts p subtype)
rts_went phase.AwaitsRts Info = record { begins = λ begins. absurd begins; stays = λ up. absurd (cc up) }
rts_went p subtype = tt

rtr_went : (p : LinkPhase) (subtype : Subtype) → GoesTo p (phase_behind_rtr p subtype)
rtr_went phase.AwaitsRtr Info = record { begins = λ begins. (tt, refl); stays = λ up. absurd (cc up) }
rtr_went p subtype = tt

rdx_went : (p : LinkPhase) (subtype : Subtype) → GoesTo p (phase_behind_rdx p subtype)
rdx_went phase.AwaitsRdx Info = record { begins = λ begins. absurd begins; stays = λ up. refl }
rdx_went p subtype = tt

phase_in : (role : Role) (p q : LinkPhase) → PhaseWent p q → IsPhaseOf role p → IsPhaseOf role q
phase_in Initiator p q went begins = (went.begins begins).0
phase_in Responder p q went begins = tt

-- THE LINK
pub record LinkTook (k m : LinkState) : Type 0 where
  pub role : m.role ≡ k.role
  pub phase : PhaseWent k.phase m.phase
  pub to_send : m.to_send ≡ k.to_send
  pub whole : is_up k ≡ false → m.whole ≡ None

abbrev TookIn : LinkState → LinkTake → Type 0
TookIn k (Heard m) = LinkTook k m
TookIn k (Unheard cause) = ⊤

module _ (k : LinkState) (none : k.whole ≡ None) where
  goes_took : (behind : Result LinkPhase Cause) → GoesTo k.phase behind → TookIn k (goes_to k behind)
  goes_took (Ok phase) went = record { role = refl; phase = went; to_send = refl; whole = λ _. none }
  goes_took (Err cause) went = tt

  count_took : (answer : LinkTake) → TookIn k answer → TookIn k (count answer)
  count_took (Heard m) took = record { role = took.role; phase = took.phase; to_send = took.to_send; whole = took.whole }
  count_took (Unheard cause) took = tt

  if_took : (b : Bool) (x y : LinkTake) → (b ≡ true → TookIn k x) → TookIn k y → TookIn k (if b then x else y)
  if_took true x y first second = first refl
  if_took false x y first second = second

  turn_took : (seqid : ℕ) (behind : LinkTake) → TookIn k behind → TookIn k (in_turn k seqid behind)
  turn_took seqid behind took = if_took (nat_eq seqid k.take_next) (count behind) (Unheard (cause.Gap k.take_next seqid)) (λ _. count_took behind took) tt

  both : (b : Bool) → b ≡ true → b ≡ false → ⊥
  both true is other = absurd (cc other)
  both false is other = absurd (cc is)

  part_took : (part : Fragment) → TookIn k (takes_part k part)
  part_took part =
      if_took (is_up k) (if may_come k.half_heard part then Heard (with_part k part) else Unheard cause.Fragment) (Unheard cause.Unexpected)
      (λ up. if_took (may_come k.half_heard part) (Heard (with_part k part)) (Unheard cause.Fragment)
      (λ _. record { role = refl; phase = record { begins = λ begins. (begins, refl); stays = λ on. on }; to_send = refl; whole = λ down. absurd (both (is_up k) up down) }) tt) tt

  body_took : (subtype : Subtype) (seqid : ℕ) (body : Body) → TookIn k (takes_body k subtype seqid body)
  body_took subtype seqid (Vers major minor) = goes_took (phase_behind_vers k.phase subtype major minor) (vers_went k.phase subtype major minor)
  body_took subtype seqid (Rts mode) =
      goes_took (in_mode mode (phase_behind_rts k.phase subtype))
      (if_went k.phase (nat_eq mode 1) (phase_behind_rts k.phase subtype) (Err (cause.Mode mode)) (rts_went k.phase subtype) tt)
  body_took subtype seqid (Rtr mode) =
      goes_took (in_mode mode (phase_behind_rtr k.phase subtype))
      (if_went k.phase (nat_eq mode 1) (phase_behind_rtr k.phase subtype) (Err (cause.Mode mode)) (rtr_went k.phase subtype) tt)
  body_took subtype seqid Rdx =
      turn_took seqid (goes_to k (phase_behind_rdx k.phase subtype)) (goes_took (phase_behind_rdx k.phase subtype) (rdx_went k.phase subtype))
  body_took subtype seqid (Part start stop len bytes) =
      turn_took seqid (takes_part k (record { start = start; stop = stop; bytes = take len bytes })) (part_took (record { start = start; stop = stop; bytes = take len bytes }))

  decoded_took : (decoded : Result Packet PacketFault) → TookIn k (takes_decoded k decoded)
  decoded_took (Ok packet) = body_took packet.subtype packet.seqid packet.body
  decoded_took (Err fault) = tt

pub bytes_took : (k m : LinkState) (bytes : List ℕ) → k.whole ≡ None → TakesBytes k bytes (Heard m) → LinkTook k m
bytes_took k m bytes none takes = subst (TookIn k) (sym takes.is) (decoded_took k none takes.decoded)

-- it has a phase of its role
pub took_phase : (k m : LinkState) → LinkTook k m → IsPhaseOf k.role k.phase → IsPhaseOf m.role m.phase
took_phase k m took is = subst (λ (role : Role). IsPhaseOf role m.phase) (sym took.role) (phase_in k.role k.phase m.phase took.phase is)

-- over a link that was up
whole_in : (b : Bool) (k m : LinkState) → is_up k ≡ b → LinkTook k m → m.whole ≢ None → is_up k ≡ true
whole_in true k m is took some = is
whole_in false k m is took some = absurd (some (took.whole is))

pub whole_up : (k m : LinkState) (bytes : List ℕ) → k.whole ≡ None → TakesBytes k bytes (Heard m) → m.whole ≢ None → is_up k ≡ true
whole_up k m bytes none takes some = whole_in (is_up k) k m refl (bytes_took k m bytes none takes) some
