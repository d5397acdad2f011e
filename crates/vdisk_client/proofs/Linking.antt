-- What taking a packet leaves of a link that began the handshake.
use Rattle.std.proofs.Common.{◌≡◌, ℕ, Bool, true, false, List, None, Result, Ok, Err, refl, sym, subst}
use Rattle.std.specs.Prelude.{◌&&◌, if◌then◌else◌, nat_eq, take, ⊤}
use Rattle.ldc_packet.specs.declared.packet.Body.{Body}
use Rattle.ldc_packet.specs.declared.packet.Body.TheVariants.{Part, Rdx, Rtr, Rts, Vers}
use Rattle.ldc_packet.specs.declared.packet.Packet.{Packet}
use Rattle.ldc_packet.specs.declared.packet.PacketFault.{PacketFault}
use Rattle.ldc_packet.specs.declared.packet.Subtype.{Subtype}
use Rattle.ldc_packet.specs.declared.packet.Subtype.TheVariants.{Ack, Info, Nack}
use Rattle.ldc_queue.specs.Fragments.{Fragment}
use Rattle.vio_tag.specs.declared.cause.Cause.{Cause}
use Rattle.vio_tag.specs.declared.cause.Cause.TheVariants as cause
use Rattle.ldc_link.specs.declared.phase.LinkPhase.{LinkPhase}
use Rattle.ldc_link.specs.declared.phase.LinkPhase.TheVariants as phase
use Rattle.ldc_link.specs.LinkState.{LinkState, is_established, is_up}
use Rattle.ldc_link.specs.Taking.{Heard, LinkTake, TakesBytes, Unheard, count, goes_to, in_mode, in_turn, may_come, phase_behind_rdx, phase_behind_rtr, phase_behind_rts, phase_behind_vers, takes_body, takes_decoded, takes_part, with_part}
use Rattle.vdisk_client.specs.Standing.{IsInitiators}

pub record LinkTook (k m : LinkState) : Type 0 where
  pub role : m.role ≡ k.role
  pub phase : IsInitiators m.phase
  pub up : is_up m ≡ is_up k
  pub to_send : m.to_send ≡ k.to_send
  pub whole : is_up k ≡ false → m.whole ≡ None

abbrev TookIn : LinkState → LinkTake → Type 0
TookIn k (Heard m) = LinkTook k m
TookIn k (Unheard cause) = ⊤

-- the phase stays an initiator's, and doesn't come up or go down
abbrev StaysIn : LinkPhase → Result LinkPhase Cause → Type 0
StaysIn p (Ok q) = IsInitiators q × (is_established q ≡ is_established p)
StaysIn p (Err cause) = ⊤

if_stays : (p : LinkPhase) (b : Bool) (x y : Result LinkPhase Cause) → StaysIn p x → StaysIn p y → StaysIn p (if b then x else y)
if_stays p true x y first second = first
if_stays p false x y first second = second

vers_stays : (p : LinkPhase) (subtype : Subtype) (major minor : ℕ) → IsInitiators p → StaysIn p (phase_behind_vers p subtype major minor)
vers_stays phase.AwaitsVersInfo subtype major minor begins = absurd begins
vers_stays phase.AwaitsVersAck Ack major minor begins = if_stays phase.AwaitsVersAck (nat_eq major 1 && nat_eq minor 0) (Ok phase.OwesRts) (Err cause.Version) (tt, refl) tt
vers_stays phase.AwaitsVersAck Nack major minor begins = tt
vers_stays p subtype major minor begins = tt

rts_stays : (p : LinkPhase) (subtype : Subtype) → IsInitiators p → StaysIn p (phase_behind_rts p subtype)
rts_stays phase.AwaitsRts subtype begins = absurd begins
rts_stays p subtype begins = tt

rtr_stays : (p : LinkPhase) (subtype : Subtype) → IsInitiators p → StaysIn p (phase_behind_rtr p subtype)
rtr_stays phase.AwaitsRtr Info begins = (tt, refl)
rtr_stays p subtype begins = tt

rdx_stays : (p : LinkPhase) (subtype : Subtype) → IsInitiators p → StaysIn p (phase_behind_rdx p subtype)
rdx_stays phase.AwaitsRdx subtype begins = absurd begins
rdx_stays p subtype begins = tt

module _ (k : LinkState) (none : k.whole ≡ None) where
  goes_took : (behind : Result LinkPhase Cause) → StaysIn k.phase behind → TookIn k (goes_to k behind)
  goes_took (Ok phase) stays = record { role = refl; phase = stays.0; up = stays.1; to_send = refl; whole = λ _. none }
  goes_took (Err cause) stays = tt

  count_took : (answer : LinkTake) → TookIn k answer → TookIn k (count answer)
  count_took (Heard m) took = record { role = took.role; phase = took.phase; up = took.up; to_send = took.to_send; whole = took.whole }
  count_took (Unheard cause) took = tt

  if_took : (b : Bool) (x y : LinkTake) → (b ≡ true → TookIn k x) → TookIn k y → TookIn k (if b then x else y)
  if_took true x y first second = first refl
  if_took false x y first second = second

  turn_took : (seqid : ℕ) (behind : LinkTake) → TookIn k behind → TookIn k (in_turn k seqid behind)
  turn_took seqid behind took = if_took (nat_eq seqid k.take_next) (count behind) (Unheard (cause.Gap k.take_next seqid)) (λ _. count_took behind took) tt

  both : (b : Bool) → b ≡ true → b ≡ false → ⊥
  both true is other = absurd (cc other)
  both false is other = absurd (cc is)

  part_took : (part : Fragment) → IsInitiators k.phase → TookIn k (takes_part k part)
  part_took part begins =
      if_took (is_up k) (if may_come k.half_heard part then Heard (with_part k part) else Unheard cause.Fragment) (Unheard cause.Unexpected)
      (λ up. if_took (may_come k.half_heard part) (Heard (with_part k part)) (Unheard cause.Fragment)
      (λ _. record { role = refl; phase = begins; up = refl; to_send = refl; whole = λ down. absurd (both (is_up k) up down) }) tt) tt

  body_took : (subtype : Subtype) (seqid : ℕ) (body : Body) → IsInitiators k.phase → TookIn k (takes_body k subtype seqid body)
  body_took subtype seqid (Vers major minor) begins = goes_took (phase_behind_vers k.phase subtype major minor) (vers_stays k.phase subtype major minor begins)
  body_took subtype seqid (Rts mode) begins =
      goes_took (in_mode mode (phase_behind_rts k.phase subtype)) (if_stays k.phase (nat_eq mode 1) (phase_behind_rts k.phase subtype) (Err (cause.Mode mode)) (rts_stays k.phase subtype begins) tt)
  body_took subtype seqid (Rtr mode) begins =
      goes_took (in_mode mode (phase_behind_rtr k.phase subtype)) (if_stays k.phase (nat_eq mode 1) (phase_behind_rtr k.phase subtype) (Err (cause.Mode mode)) (rtr_stays k.phase subtype begins) tt)
  body_took subtype seqid Rdx begins =
      turn_took seqid (goes_to k (phase_behind_rdx k.phase subtype)) (goes_took (phase_behind_rdx k.phase subtype) (rdx_stays k.phase subtype begins))
  body_took subtype seqid (Part start stop len bytes) begins =
      turn_took seqid (takes_part k (record { start = start; stop = stop; bytes = take len bytes })) (part_took (record { start = start; stop = stop; bytes = take len bytes }) begins)

  decoded_took : (decoded : Result Packet PacketFault) → IsInitiators k.phase → TookIn k (takes_decoded k decoded)
  decoded_took (Ok packet) begins = body_took packet.subtype packet.seqid packet.body begins
  decoded_took (Err fault) begins = tt

pub bytes_took : (k m : LinkState) (bytes : List ℕ) → k.whole ≡ None → IsInitiators k.phase → TakesBytes k bytes (Heard m) → LinkTook k m
bytes_took k m bytes none begins takes = subst (TookIn k) (sym takes.is) (decoded_took k none takes.decoded begins)
