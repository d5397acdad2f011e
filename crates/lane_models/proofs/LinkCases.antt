-- What a link did with a packet, case by case: with one that it heard, and with one that it put.
use Rattle.std.proofs.Common.{◌≡◌, ℕ, ◌≤◌, Bool, true, false, ◌||◌, List, length, drop, Some, refl, sym, ap, ◌∙◌, subst, arith}
use Rattle.std.specs.Prelude.{◌&&◌, if◌then◌else◌, nat_eq, Option, Result, Ok, Err}
use Rattle.std.proofs.lemmas.Bool.{eqb-true}
use Rattle.ldc_packet.proofs.Canonical.{canonical_spells}
use Rattle.ldc_packet.specs.declared.packet.Body.{Body}
use Rattle.ldc_packet.specs.declared.packet.Body.TheVariants.{Part, Rdx, Rtr, Rts, Vers}
use Rattle.ldc_packet.specs.declared.packet.Packet.{Packet}
use Rattle.ldc_packet.specs.declared.packet.PacketFault.{PacketFault}
use Rattle.ldc_packet.specs.declared.packet.Subtype.{Subtype}
use Rattle.ldc_packet.specs.declared.packet.Subtype.TheVariants.{Ack, Info, Nack}
use Rattle.ldc_packet.specs.Decoding.{Unpacks}
use Rattle.ldc_packet.specs.Form.{HasForm, HasWidths}
use Rattle.ldc_packet.specs.Spelling.{SpellsPacket, canonical, ctrl_at, seqid_at, type_at}
use Rattle.ldc_queue.specs.Fragments.{fragment_at, is_part}
use Rattle.ldc_queue.specs.Messages.{MayCome}
use Rattle.ldc_queue.specs.Numbered.{is_numbered}
use Rattle.ldc_link.proofs.Hearing.{heard_step, numbered_rightly}
use Rattle.ldc_link.proofs.Spelled.{has_number, has_part, spelled_fragment, spelled_numbered, spelled_part}
use Rattle.ldc_link.specs.declared.phase.LinkPhase.{LinkPhase}
use Rattle.ldc_link.specs.declared.phase.LinkPhase.TheVariants as phase
use Rattle.ldc_link.specs.Calls.{Puts}
use Rattle.ldc_link.specs.Following.{OffersLittle}
use Rattle.ldc_link.specs.LinkState.{LinkState, is_established, next_number}
use Rattle.ldc_link.specs.Putting.{begun_behind_put, control, first_part, has_more, left_behind_put, number_behind_put, owed_in, part_owed, phase_behind_put, with_link}
use Rattle.ldc_link.specs.Taking.{Heard, TakesBytes, Unheard, answer_to, count, counted, goes_to, phase_behind_rdx, phase_behind_rtr, phase_behind_rts, phase_behind_vers, takes_body, takes_decoded, with_part}
use Rattle.vio_tag.specs.declared.cause.Cause.{Cause}
use Rattle.vio_tag.specs.declared.cause.Cause.TheVariants as the_cause
use Rattle.lane_models.proofs.Apart.{false_is_true, none_is_some}

-- the bytes spell a packet of this subtype and body
pub record IsPacket (bytes : List ℕ) (subtype : Subtype) (body : Body) : Type 0 where
  pub seqid : ℕ
  pub form : HasForm subtype body
  pub spells : SpellsPacket bytes (control subtype seqid body)

-- A PACKET WITHOUT A NUMBER, of the link's handshake: taken in this phase, it leads to that one; and put
pub data ControlTaken (before : LinkPhase) (bytes : List ℕ) (next : LinkPhase) : Type 0 where
  VersionAsked : (major minor : ℕ) → before ≡ phase.AwaitsVersInfo → IsPacket bytes Info (Vers major minor) → next ≡ answer_to major → ControlTaken before bytes next
  VersionAgreed : before ≡ phase.AwaitsVersAck → IsPacket bytes Ack (Vers 1 0) → next ≡ phase.OwesRts → ControlTaken before bytes next
  ModeAsked : before ≡ phase.AwaitsRts → IsPacket bytes Info (Rts 1) → next ≡ phase.OwesRtr → ControlTaken before bytes next
  ModeAgreed : before ≡ phase.AwaitsRtr → IsPacket bytes Info (Rtr 1) → next ≡ phase.OwesRdx → ControlTaken before bytes next

pub data ControlPut (before : LinkPhase) (bytes : List ℕ) (next : LinkPhase) : Type 0 where
  VersionOffered : before ≡ phase.OwesVersInfo → bytes ≡ canonical (control Info 0 (Vers 1 0)) → next ≡ phase.AwaitsVersAck → ControlPut before bytes next
  VersionAnswered : before ≡ phase.OwesVersAck → bytes ≡ canonical (control Ack 0 (Vers 1 0)) → next ≡ phase.AwaitsRts → ControlPut before bytes next
  VersionRefused : (major : ℕ) → before ≡ phase.OwesVersNack major → bytes ≡ canonical (control Nack 0 (Vers major 0)) → next ≡ phase.AwaitsVersInfo
      → ControlPut before bytes next
  ModeOffered : before ≡ phase.OwesRts → bytes ≡ canonical (control Info 0 (Rts 1)) → next ≡ phase.AwaitsRtr → ControlPut before bytes next
  ModeAnswered : before ≡ phase.OwesRtr → bytes ≡ canonical (control Info 0 (Rtr 1)) → next ≡ phase.AwaitsRdx → ControlPut before bytes next

-- THE LINK after a packet that it heard: one without a number, RDX, with which a responder's link is up, or a part
pub data LinkHeard (k : LinkState) (bytes : List ℕ) (m : LinkState) : Type 0 where
  ControlHeard : (next : LinkPhase) → ControlTaken k.phase bytes next → m ≡ record k { phase = next } → LinkHeard k bytes m
  ReadyHeard : k.phase ≡ phase.AwaitsRdx → IsPacket bytes Info Rdx → seqid_at bytes ≡ k.take_next → m ≡ counted (record k { phase = phase.Established })
      → LinkHeard k bytes m
  PartHeard : k.phase ≡ phase.Established → is_part bytes ≡ true → MayCome k.half_heard (fragment_at bytes) → seqid_at bytes ≡ k.take_next
      → m ≡ counted (with_part k (fragment_at bytes)) → LinkHeard k bytes m

-- and after one that it put: RDX of an initiator, or the next part of what it holds
abbrev pub behind_ready : LinkState → LinkState
behind_ready k = record k { phase = phase.Established; put_next = next_number k.put_next }

abbrev pub behind_part : LinkState → LinkState
behind_part k = record k { put_next = next_number k.put_next; to_send = drop 56 k.to_send; begun = has_more k.to_send }

pub data LinkPut (k : LinkState) (bytes : List ℕ) (m : LinkState) : Type 0 where
  ControlGone : (next : LinkPhase) → ControlPut k.phase bytes next → m ≡ record k { phase = next } → LinkPut k bytes m
  ReadyGone : k.phase ≡ phase.OwesRdx → bytes ≡ canonical (control Info k.put_next Rdx) → m ≡ behind_ready k → LinkPut k bytes m
  PartGone : k.phase ≡ phase.Established → 1 ≤ length k.to_send → bytes ≡ canonical (first_part k) → m ≡ behind_part k → LinkPut k bytes m

-- WHAT IS HEARD, body by body
heard_is : (m n : LinkState) → Heard m ≡ Heard n → m ≡ n
heard_is m n is = cc

not_heard : (m : LinkState) (why : Cause) → Heard m ≡ Unheard why → ⊥
not_heard m why is = cc is

abbrev IsSpelled : List ℕ → Subtype → ℕ → Body → Type 0
IsSpelled bytes s n b = HasForm s b × SpellsPacket bytes (control s n b)

packet_of : (bytes : List ℕ) (s : Subtype) (n : ℕ) (b : Body) → IsSpelled bytes s n b → IsPacket bytes s b
packet_of bytes s n b spelled = record { seqid = n; form = spelled.0; spells = spelled.1 }

version_agreed : (k m : LinkState) (bytes : List ℕ) (n major minor : ℕ) (b c : Bool) → nat_eq major 1 ≡ b → nat_eq minor 0 ≡ c → k.phase ≡ phase.AwaitsVersAck
    → IsSpelled bytes Ack n (Vers major minor) → Heard m ≡ goes_to k (if b && c then Ok phase.OwesRts else Err the_cause.Version) → LinkHeard k bytes m
version_agreed k m bytes n major minor true true one zero at spelled is =
    ControlHeard phase.OwesRts
    (VersionAgreed at
    (subst (λ (x : ℕ). IsPacket bytes Ack (Vers x 0)) (eqb-true major 1 one)
    (subst (λ (x : ℕ). IsPacket bytes Ack (Vers major x)) (eqb-true minor 0 zero) (packet_of bytes Ack n (Vers major minor) spelled))) refl)
    (heard_is m (record k { phase = phase.OwesRts }) is)
version_agreed k m bytes n major minor true false one zero at spelled is = absurd (not_heard m _ is)
version_agreed k m bytes n major minor false c one zero at spelled is = absurd (not_heard m _ is)

vers_heard : (k m : LinkState) (bytes : List ℕ) (ph : LinkPhase) (s : Subtype) (n major minor : ℕ) → k.phase ≡ ph → IsSpelled bytes s n (Vers major minor)
    → Heard m ≡ goes_to k (phase_behind_vers ph s major minor) → LinkHeard k bytes m
vers_heard k m bytes phase.AwaitsVersInfo Info n major minor at spelled is =
    ControlHeard (answer_to major) (VersionAsked major minor at (packet_of bytes Info n (Vers major minor) spelled) refl)
    (heard_is m (record k { phase = answer_to major }) is)
vers_heard k m bytes phase.AwaitsVersAck Ack n major minor at spelled is =
    version_agreed k m bytes n major minor (nat_eq major 1) (nat_eq minor 0) refl refl at spelled is
vers_heard k m bytes ph s n major minor at spelled is = absurd (not_heard m _ is)

-- a mode other than 1 isn't taken
mode_one : (k m : LinkState) (b : Bool) (r : Result LinkPhase Cause) (why : Cause) → Heard m ≡ goes_to k (if b then r else Err why) → (b ≡ true) × (Heard m ≡ goes_to k r)
mode_one k m true r why is = (refl, is)
mode_one k m false r why is = absurd (not_heard m _ is)

rts_heard : (k m : LinkState) (bytes : List ℕ) (ph : LinkPhase) (s : Subtype) (n mode : ℕ) → k.phase ≡ ph → mode ≡ 1 → IsSpelled bytes s n (Rts mode)
    → Heard m ≡ goes_to k (phase_behind_rts ph s) → LinkHeard k bytes m
rts_heard k m bytes phase.AwaitsRts Info n mode at one spelled is =
    ControlHeard phase.OwesRtr (ModeAsked at (subst (λ (x : ℕ). IsPacket bytes Info (Rts x)) one (packet_of bytes Info n (Rts mode) spelled)) refl)
    (heard_is m (record k { phase = phase.OwesRtr }) is)
rts_heard k m bytes ph s n mode at one spelled is = absurd (not_heard m _ is)

rtr_heard : (k m : LinkState) (bytes : List ℕ) (ph : LinkPhase) (s : Subtype) (n mode : ℕ) → k.phase ≡ ph → mode ≡ 1 → IsSpelled bytes s n (Rtr mode)
    → Heard m ≡ goes_to k (phase_behind_rtr ph s) → LinkHeard k bytes m
rtr_heard k m bytes phase.AwaitsRtr Info n mode at one spelled is =
    ControlHeard phase.OwesRdx (ModeAgreed at (subst (λ (x : ℕ). IsPacket bytes Info (Rtr x)) one (packet_of bytes Info n (Rtr mode) spelled)) refl)
    (heard_is m (record k { phase = phase.OwesRdx }) is)
rtr_heard k m bytes ph s n mode at one spelled is = absurd (not_heard m _ is)

rdx_heard : (k m : LinkState) (bytes : List ℕ) (ph : LinkPhase) (s : Subtype) (n : ℕ) → k.phase ≡ ph → n ≡ k.take_next → IsSpelled bytes s n Rdx
    → count (goes_to k (phase_behind_rdx ph s)) ≡ Heard m → LinkHeard k bytes m
rdx_heard k m bytes ph s n at next spelled is = grind arith

pub established : (ph : LinkPhase) → is_established ph ≡ true → ph ≡ phase.Established
established phase.Established up = refl
established _ up = false_is_true up

part_heard : (k m : LinkState) (bytes : List ℕ) (s : Subtype) (n : ℕ) (start stop : Bool) (len : ℕ) (own : List ℕ) → IsSpelled bytes s n (Part start stop len own)
    → takes_body k s n (Part start stop len own) ≡ Heard m → LinkHeard k bytes m
unfolding has_part
part_heard k m bytes s n start stop len own spelled is =
    let body : Body = Part start stop len own in
    let step = heard_step k (control s n body) m tt spelled.0 is in
    let same = spelled_fragment bytes (control s n body) tt spelled.0 spelled.1 in
    PartHeard (established k.phase step.0) (spelled_part bytes (control s n body) spelled.1)
    (subst (MayCome k.half_heard) (sym same) step.2) (spelled.1.seqid ∙ step.1)
    (step.3 ∙ ap (λ f. counted (with_part k f)) (sym same))

body_heard : (k m : LinkState) (bytes : List ℕ) (s : Subtype) (n : ℕ) (b : Body) → IsSpelled bytes s n b → Heard m ≡ takes_body k s n b → LinkHeard k bytes m
body_heard k m bytes s n (Vers major minor) spelled is = vers_heard k m bytes k.phase s n major minor refl spelled is
body_heard k m bytes s n (Rts mode) spelled is =
    let one = mode_one k m (nat_eq mode 1) (phase_behind_rts k.phase s) (the_cause.Mode mode) is in
    rts_heard k m bytes k.phase s n mode refl (eqb-true mode 1 one.0) spelled one.1
body_heard k m bytes s n (Rtr mode) spelled is =
    let one = mode_one k m (nat_eq mode 1) (phase_behind_rtr k.phase s) (the_cause.Mode mode) is in
    rtr_heard k m bytes k.phase s n mode refl (eqb-true mode 1 one.0) spelled one.1
body_heard k m bytes s n Rdx spelled is =
    let turn = numbered_rightly (nat_eq n k.take_next) k.take_next n (goes_to k (phase_behind_rdx k.phase s)) m (sym is) in
    rdx_heard k m bytes k.phase s n refl (eqb-true n k.take_next turn.0) spelled turn.1
body_heard k m bytes s n (Part start stop len own) spelled is = part_heard k m bytes s n start stop len own spelled (sym is)

pub link_heard : (k m : LinkState) (bytes : List ℕ) → TakesBytes k bytes (Heard m) → LinkHeard k bytes m
link_heard k m bytes takes = from takes.decoded takes.unpacks takes.is
  where
    from : (d : Result Packet PacketFault) → Unpacks bytes d → Heard m ≡ takes_decoded k d → LinkHeard k bytes m
    from (Ok p) unpacks is = body_heard k m bytes p.subtype p.seqid p.body unpacks.packet is
    from (Err fault) unpacks is = absurd (cc is)

-- WHAT IS PUT, phase by phase
record ItPuts (one : Packet) (n : LinkState) (bytes : List ℕ) (m : LinkState) : Type 0 where
  spelled : bytes ≡ canonical one
  behind : m ≡ n

it_puts : (one p : Packet) (n m : LinkState) (bytes : List ℕ) → ◌≡◌ {A = Option (Packet × LinkState)} (Some (one, n)) (Some (p, m)) → bytes ≡ canonical p → ItPuts one n bytes m
it_puts one p n m bytes is spelled = grind arith

abbrev behind_in : LinkPhase → LinkState → LinkState
behind_in ph k = record k {
  phase = phase_behind_put ph;
  put_next = number_behind_put ph k.put_next;
  to_send = left_behind_put ph k.to_send;
  begun = begun_behind_put ph k.to_send k.begun;
}

part_gone : (left : List ℕ) (k m : LinkState) (p : Packet) (bytes : List ℕ) → k.phase ≡ phase.Established → k.to_send ≡ left
    → with_link (part_owed k left) (behind_in phase.Established k) ≡ Some (p, m) → bytes ≡ canonical p → LinkPut k bytes m
part_gone left k m p bytes at is_holds is spelled = grind arith

put_in : (ph : LinkPhase) (k m : LinkState) (p : Packet) (bytes : List ℕ) → k.phase ≡ ph → with_link (owed_in ph k) (behind_in ph k) ≡ Some (p, m) → bytes ≡ canonical p
    → LinkPut k bytes m
put_in phase.OwesVersInfo k m p bytes at is spelled =
    let puts = it_puts (control Info 0 (Vers 1 0)) p (behind_in phase.OwesVersInfo k) m bytes is spelled in
    ControlGone phase.AwaitsVersAck (VersionOffered at puts.spelled refl) puts.behind
put_in phase.OwesRts k m p bytes at is spelled =
    let puts = it_puts (control Info 0 (Rts 1)) p (behind_in phase.OwesRts k) m bytes is spelled in
    ControlGone phase.AwaitsRtr (ModeOffered at puts.spelled refl) puts.behind
put_in phase.OwesVersAck k m p bytes at is spelled =
    let puts = it_puts (control Ack 0 (Vers 1 0)) p (behind_in phase.OwesVersAck k) m bytes is spelled in
    ControlGone phase.AwaitsRts (VersionAnswered at puts.spelled refl) puts.behind
put_in (phase.OwesVersNack major) k m p bytes at is spelled =
    let puts = it_puts (control Nack 0 (Vers major 0)) p (behind_in (phase.OwesVersNack major) k) m bytes is spelled in
    ControlGone phase.AwaitsVersInfo (VersionRefused major at puts.spelled refl) puts.behind
put_in phase.OwesRtr k m p bytes at is spelled =
    let puts = it_puts (control Info 0 (Rtr 1)) p (behind_in phase.OwesRtr k) m bytes is spelled in
    ControlGone phase.AwaitsRdx (ModeAnswered at puts.spelled refl) puts.behind
put_in phase.OwesRdx k m p bytes at is spelled =
    let puts = it_puts (control Info k.put_next Rdx) p (behind_in phase.OwesRdx k) m bytes is spelled in
    ReadyGone at puts.spelled puts.behind
put_in phase.Established k m p bytes at is spelled = part_gone k.to_send k m p bytes at refl is spelled
put_in _ k m p bytes at is spelled = none_is_some is

pub link_put : (k m : LinkState) (bytes : List ℕ) → Puts k bytes m → LinkPut k bytes m
link_put k m bytes puts = put_in k.phase k m puts.packet bytes refl puts.next puts.spelled

-- WHAT THE BYTES SAY of it
pub control_quiet : (bytes : List ℕ) (s : Subtype) (b : Body) → IsPacket bytes s b → has_number b ≡ false → (is_numbered bytes ≡ false) × (is_part bytes ≡ false)
unfolding has_number has_part
control_quiet bytes s b packet without = grind arith

pub ready_loud : (bytes : List ℕ) (s : Subtype) → IsPacket bytes s Rdx → (is_numbered bytes ≡ true) × (is_part bytes ≡ false)
unfolding has_number has_part
ready_loud bytes s packet = (spelled_numbered bytes _ packet.spells, spelled_part bytes _ packet.spells)

pub part_loud : (bytes : List ℕ) → is_part bytes ≡ true → is_numbered bytes ≡ true
part_loud bytes is = ap (λ (b : Bool). b || (nat_eq (type_at bytes) 1 && nat_eq (ctrl_at bytes) 4)) is

-- canonical bytes are those of a packet
pub canonical_is : (bytes : List ℕ) (s : Subtype) (n : ℕ) (b : Body) → HasForm s b → HasWidths (control s n b) → bytes ≡ canonical (control s n b) → IsPacket bytes s b
canonical_is bytes s n b form widths is = record {
  seqid = n;
  form = form;
  spells = subst (λ (xs : List ℕ). SpellsPacket xs (control s n b)) (sym is) (canonical_spells (control s n b) form widths);
}

pub taken_quiet : (before : LinkPhase) (bytes : List ℕ) (next : LinkPhase) → ControlTaken before bytes next → (is_numbered bytes ≡ false) × (is_part bytes ≡ false)
unfolding has_number
taken_quiet before bytes next taken = grind arith

-- what is put is a packet, where a refused version is answered by 1.0 or 0.0
pub put_quiet : (before : LinkPhase) (bytes : List ℕ) (next : LinkPhase) → OffersLittle before → ControlPut before bytes next → (is_numbered bytes ≡ false) × (is_part bytes ≡ false)
unfolding has_number
put_quiet before bytes next little (VersionOffered at is goes) =
    control_quiet bytes Info (Vers 1 0) (canonical_is bytes Info 0 (Vers 1 0) tt (omega arith, (omega arith, omega arith)) is) refl
put_quiet before bytes next little (VersionAnswered at is goes) =
    control_quiet bytes Ack (Vers 1 0) (canonical_is bytes Ack 0 (Vers 1 0) tt (omega arith, (omega arith, omega arith)) is) refl
put_quiet before bytes next little (VersionRefused major at is goes) =
    let low : major ≤ 1 = subst OffersLittle at little in
    control_quiet bytes Nack (Vers major 0) (canonical_is bytes Nack 0 (Vers major 0) tt (omega arith, (omega (arith, low), omega arith)) is) refl
put_quiet before bytes next little (ModeOffered at is goes) =
    control_quiet bytes Info (Rts 1) (canonical_is bytes Info 0 (Rts 1) tt (omega arith, omega arith) is) refl
put_quiet before bytes next little (ModeAnswered at is goes) =
    control_quiet bytes Info (Rtr 1) (canonical_is bytes Info 0 (Rtr 1) tt (omega arith, omega arith) is) refl
