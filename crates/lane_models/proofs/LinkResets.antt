-- A packet that a link doesn't take says why.
use Rattle.std.proofs.Common.{◌≡◌, ◌≢◌, ℕ, Bool, true, false, List, None, Ok, Err, refl, sym, ap, ◌∙◌, subst, inl, inr, ◌⊎◌, arith}
use Rattle.std.specs.Prelude.{◌&&◌, IfErr, Result, if◌then◌else◌, nat_eq, ⊤}
use Rattle.ldc_link.specs.declared.phase.LinkPhase.{LinkPhase}
use Rattle.ldc_link.specs.declared.phase.LinkPhase.TheVariants as phase
use Rattle.ldc_link.specs.Conversing.{IsData, fragment_of}
use Rattle.ldc_link.specs.Following.{Follows}
use Rattle.ldc_link.specs.LinkState.{LinkState, is_up}
use Rattle.ldc_link.specs.Taking.{Heard, LinkTake, TakesBytes, Unheard, count, goes_to, in_mode, may_come, phase_behind_rdx, phase_behind_rtr, phase_behind_rts, phase_behind_vers, takes_body, takes_decoded, takes_part, with_part}
use Rattle.ldc_link.proofs.Spelled.{has_number, has_part, spelled_fragment, spelled_numbered, spelled_part}
use Rattle.ldc_packet.proofs.NoFault.{spelled_no_fault}
use Rattle.ldc_packet.specs.declared.packet.Body.{Body}
use Rattle.ldc_packet.specs.declared.packet.Body.TheVariants.{Part, Rdx, Rtr, Rts, Vers}
use Rattle.ldc_packet.specs.declared.packet.Packet.{Packet}
use Rattle.ldc_packet.specs.declared.packet.PacketFault.{PacketFault}
use Rattle.ldc_packet.specs.declared.packet.Subtype.{Subtype}
use Rattle.ldc_packet.specs.declared.packet.Subtype.TheVariants.{Ack, Info, Nack}
use Rattle.ldc_packet.specs.Decoding.{Unpacks}
use Rattle.ldc_packet.specs.Fault.{first_fault}
use Rattle.ldc_packet.specs.Spelling.{SpellsBody, ctrl_at, env_at, seqid_at, subtype_at, subtype_code, type_at, type_code}
use Rattle.ldc_queue.specs.Fragments.{Fragment, fragment_at, is_part}
use Rattle.ldc_queue.specs.Numbered.{is_numbered}
use Rattle.ldc_queue.specs.Transcript.{Utterance}
use Rattle.vio_tag.specs.declared.cause.Cause.{Cause}
use Rattle.vio_tag.specs.declared.cause.Cause.TheVariants as the_cause
use Rattle.lane_models.proofs.SameSayings.{half_heard_is}
use Rattle.lane_models.specs.Sayings.{count_heard, half_heard}
use Rattle.lane_models.specs.WireAt.{counts_next}
use Rattle.lane_models.proofs.Numbering.{count_heard_is}
use Rattle.lane_models.specs.Resetting.{SaysWhy}

abbrev WhyPhase : List Utterance → List ℕ → Result LinkPhase Cause → Type 0
WhyPhase turns bytes r = IfErr r (SaysWhy turns bytes)

abbrev WhyLink : List Utterance → List ℕ → LinkTake → Type 0
WhyLink turns bytes (Heard k) = ⊤
WhyLink turns bytes (Unheard cause) = SaysWhy turns bytes cause

unexpected : (turns : List Utterance) (bytes : List ℕ) → first_fault bytes ≡ None → SaysWhy turns bytes the_cause.Unexpected
unexpected turns bytes sound = record { says = sound; gap = tt; carried = tt }

goes_why : (turns : List Utterance) (bytes : List ℕ) (k : LinkState) (r : Result LinkPhase Cause) → WhyPhase turns bytes r → WhyLink turns bytes (goes_to k r)
goes_why turns bytes k (Ok p) why = tt
goes_why turns bytes k (Err cause) why = why

count_why : (turns : List Utterance) (bytes : List ℕ) (take : LinkTake) → WhyLink turns bytes take → WhyLink turns bytes (count take)
count_why turns bytes (Heard k) why = tt
count_why turns bytes (Unheard cause) why = why

-- a version that isn't agreed to
pub other_number : (a b : ℕ) → nat_eq a b ≡ false → a ≢ b
other_number a b is = grind arith

refuses_why : (turns : List Utterance) (bytes : List ℕ) (major minor : ℕ) (b c : Bool) → nat_eq major 1 ≡ b → nat_eq minor 0 ≡ c → first_fault bytes ≡ None → type_at bytes ≡ 1
    → SpellsBody bytes (Vers major minor) → subtype_at bytes ≡ 2 → WhyPhase turns bytes (if b && c then Ok phase.OwesRts else Err the_cause.Version)
refuses_why turns bytes major minor true true one none sound kind spells subtype = tt
refuses_why turns bytes major minor false c one none sound kind spells subtype =
    let answer = inr (subtype, inl (λ is. other_number major 1 one (sym spells.1 ∙ is))) in
    record { says = (sound, record { control = kind; kind = spells.0; answer = answer }); gap = tt; carried = tt }
refuses_why turns bytes major minor true false one none sound kind spells subtype =
    let answer = inr (subtype, inr (λ is. other_number minor 0 none (sym spells.2 ∙ is))) in
    record { says = (sound, record { control = kind; kind = spells.0; answer = answer }); gap = tt; carried = tt }

vers_why : (turns : List Utterance) (bytes : List ℕ) (p : LinkPhase) (s : Subtype) (major minor : ℕ) → first_fault bytes ≡ None → type_at bytes ≡ 1 → SpellsBody bytes (Vers major minor)
    → subtype_at bytes ≡ subtype_code s → WhyPhase turns bytes (phase_behind_vers p s major minor)
vers_why turns bytes phase.AwaitsVersInfo Info major minor sound kind spells subtype = tt
vers_why turns bytes phase.AwaitsVersAck Ack major minor sound kind spells subtype =
    refuses_why turns bytes major minor (nat_eq major 1) (nat_eq minor 0) refl refl sound kind spells subtype
vers_why turns bytes phase.AwaitsVersAck Nack major minor sound kind spells subtype =
    record { says = (sound, record { control = kind; kind = spells.0; answer = inl subtype }); gap = tt; carried = tt }
vers_why turns bytes _ _ major minor sound kind spells subtype = unexpected turns bytes sound

rts_why : (turns : List Utterance) (bytes : List ℕ) (p : LinkPhase) (s : Subtype) → first_fault bytes ≡ None → WhyPhase turns bytes (phase_behind_rts p s)
rts_why turns bytes phase.AwaitsRts Info sound = tt
rts_why turns bytes _ _ sound = unexpected turns bytes sound

rtr_why : (turns : List Utterance) (bytes : List ℕ) (p : LinkPhase) (s : Subtype) → first_fault bytes ≡ None → WhyPhase turns bytes (phase_behind_rtr p s)
rtr_why turns bytes phase.AwaitsRtr Info sound = tt
rtr_why turns bytes _ _ sound = unexpected turns bytes sound

rdx_why : (turns : List Utterance) (bytes : List ℕ) (p : LinkPhase) (s : Subtype) → first_fault bytes ≡ None → WhyPhase turns bytes (phase_behind_rdx p s)
rdx_why turns bytes phase.AwaitsRdx Info sound = tt
rdx_why turns bytes _ _ sound = unexpected turns bytes sound

-- a mode that isn't unreliable
mode_why : (turns : List Utterance) (bytes : List ℕ) (b : Bool) (mode : ℕ) (r : Result LinkPhase Cause) → first_fault bytes ≡ None → type_at bytes ≡ 1
    → (ctrl_at bytes ≡ 2) ⊎ (ctrl_at bytes ≡ 3) → env_at bytes ≡ mode → b ≡ nat_eq mode 1 → WhyPhase turns bytes r → WhyPhase turns bytes (if b then r else Err (the_cause.Mode mode))
mode_why turns bytes true mode r sound control kind env is why = why
mode_why turns bytes false mode r sound control kind env is why = record {
  says = (sound, record { control = control; kind = kind; mode = env; other = other_number mode 1 (sym is) });
  gap = tt;
  carried = tt;
}

-- a number that isn't the next
turn_why : (turns : List Utterance) (bytes : List ℕ) (b : Bool) (next seqid : ℕ) (answer : LinkTake) → first_fault bytes ≡ None → is_numbered bytes ≡ true
    → next ≡ counts_next (count_heard turns) → seqid_at bytes ≡ seqid → b ≡ nat_eq seqid next → WhyLink turns bytes answer
    → WhyLink turns bytes (if b then count answer else Unheard (the_cause.Gap next seqid))
turn_why turns bytes true next seqid answer sound has expected found is why = count_why turns bytes answer why
turn_why turns bytes false next seqid answer sound has expected found is why = record {
  says = sound;
  gap = record { has_number = has; next = expected; is = sym found; other = λ same. other_number seqid next (sym is) (sym same) };
  carried = tt;
}

-- a part that makes no message
part_why : (turns : List Utterance) (bytes : List ℕ) (k : LinkState) (up come : Bool) (part : Fragment) → first_fault bytes ≡ None → is_part bytes ≡ true
    → come ≡ may_come (half_heard turns) (fragment_at bytes)
    → WhyLink turns bytes (if up then (if come then Heard (with_part k part) else Unheard the_cause.Fragment) else Unheard the_cause.Unexpected)
part_why turns bytes k true true part sound is may = tt
part_why turns bytes k true false part sound is may = record { says = (sound, record { part = is; broken = sym may }); gap = tt; carried = tt }
part_why turns bytes k false come part sound is may = unexpected turns bytes sound

body_why : (turns : List Utterance) (bytes : List ℕ) (k : LinkState) (s : Subtype) (n : ℕ) (b : Body) → Follows k turns → first_fault bytes ≡ None → type_at bytes ≡ type_code b
    → subtype_at bytes ≡ subtype_code s → seqid_at bytes ≡ n → SpellsBody bytes b → is_numbered bytes ≡ has_number b → is_part bytes ≡ has_part b
    → (IsData b → fragment_at bytes ≡ fragment_of b) → WhyLink turns bytes (takes_body k s n b)
unfolding has_number has_part
body_why turns bytes k s n (Vers major minor) follows sound kind subtype seqid spells numbered part fragment =
    goes_why turns bytes k (phase_behind_vers k.phase s major minor) (vers_why turns bytes k.phase s major minor sound kind spells subtype)
body_why turns bytes k s n (Rts mode) follows sound kind subtype seqid spells numbered part fragment =
    goes_why turns bytes k (in_mode mode (phase_behind_rts k.phase s))
    (mode_why turns bytes (nat_eq mode 1) mode (phase_behind_rts k.phase s) sound kind (inl spells.0) spells.1 refl (rts_why turns bytes k.phase s sound))
body_why turns bytes k s n (Rtr mode) follows sound kind subtype seqid spells numbered part fragment =
    goes_why turns bytes k (in_mode mode (phase_behind_rtr k.phase s))
    (mode_why turns bytes (nat_eq mode 1) mode (phase_behind_rtr k.phase s) sound kind (inr spells.0) spells.1 refl (rtr_why turns bytes k.phase s sound))
body_why turns bytes k s n Rdx follows sound kind subtype seqid spells numbered part fragment =
    turn_why turns bytes (nat_eq n k.take_next) k.take_next n (goes_to k (phase_behind_rdx k.phase s)) sound numbered
    (follows.takes ∙ ap counts_next (sym (count_heard_is turns))) seqid refl (goes_why turns bytes k (phase_behind_rdx k.phase s) (rdx_why turns bytes k.phase s sound))
body_why turns bytes k s n (Part start stop len own) follows sound kind subtype seqid spells numbered part fragment =
    let carried : Fragment = fragment_of (Part start stop len own) in
    let half : half_heard turns ≡ k.half_heard = half_heard_is turns ∙ sym follows.half in
    let may : may_come (half_heard turns) (fragment_at bytes) ≡ may_come k.half_heard carried =
    ap (λ (xs : List ℕ). may_come xs (fragment_at bytes)) half ∙ ap (may_come k.half_heard) (fragment tt) in
    turn_why turns bytes (nat_eq n k.take_next) k.take_next n (takes_part k carried) sound numbered
    (follows.takes ∙ ap counts_next (sym (count_heard_is turns))) seqid refl
    (part_why turns bytes k (is_up k) (may_come k.half_heard carried) carried sound part (sym may))

decoded_why : (turns : List Utterance) (bytes : List ℕ) (k : LinkState) (d : Result Packet PacketFault) → Follows k turns → Unpacks bytes d → WhyLink turns bytes (takes_decoded k d)
decoded_why turns bytes k (Ok p) follows unpacks =
    let form = unpacks.packet.0 in
    let spells = unpacks.packet.1 in
    body_why turns bytes k p.subtype p.seqid p.body follows (spelled_no_fault bytes p form spells) spells.kind spells.subtype spells.seqid spells.body
    (spelled_numbered bytes p spells) (spelled_part bytes p spells) (λ carries. spelled_fragment bytes p carries form spells)
decoded_why turns bytes k (Err fault) follows unpacks = record { says = unpacks.fault; gap = tt; carried = tt }

-- A LINK that doesn't take a packet
pub link_why : (turns : List Utterance) (bytes : List ℕ) (k : LinkState) (cause : Cause) → Follows k turns → TakesBytes k bytes (Unheard cause) → SaysWhy turns bytes cause
link_why turns bytes k cause follows takes = subst (WhyLink turns bytes) (sym takes.is) (decoded_why turns bytes k takes.decoded follows takes.unpacks)
