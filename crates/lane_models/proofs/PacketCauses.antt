-- An end whose session is open resets itself for the first cause that a packet has, and takes the packet where it has none.
use Rattle.std.proofs.Common.{◌≡◌, ℕ, Bool, true, false, Option, Some, None, Ok, Err, List, refl, sym, ap, ◌∙◌, subst, inr, arith}
use Rattle.std.specs.Prelude.{◌&&◌, ◌||◌, not, Result, if◌then◌else◌, nat_eq, ⊤}
use Rattle.runs.specs.Run.{Run}
use Rattle.ldc_link.specs.declared.phase.LinkPhase.{LinkPhase}
use Rattle.ldc_link.specs.declared.phase.LinkPhase.TheVariants as phase
use Rattle.ldc_link.specs.declared.phase.Role.{Role}
use Rattle.ldc_link.specs.declared.phase.Role.TheVariants.{Initiator, Responder}
use Rattle.ldc_link.specs.Conversing.{IsData, fragment_of}
use Rattle.ldc_link.specs.Following.{Follows}
use Rattle.ldc_link.specs.LinkState.{LinkState, is_up}
use Rattle.ldc_link.specs.Taking.{Heard, LinkTake, TakesBytes, Unheard, count, goes_to, may_come, phase_behind_rdx, phase_behind_rtr, phase_behind_rts, phase_behind_vers, takes_body, takes_decoded, takes_part, with_part}
use Rattle.ldc_link.proofs.Spelled.{has_number, has_part, spelled_fragment, spelled_numbered, spelled_part}
use Rattle.ldc_packet.proofs.NoFault.{spelled_no_fault}
use Rattle.ldc_packet.specs.declared.packet.Body.{Body}
use Rattle.ldc_packet.specs.declared.packet.Body.TheVariants.{Part, Rdx, Rtr, Rts, Vers}
use Rattle.ldc_packet.specs.declared.packet.Packet.{Packet}
use Rattle.ldc_packet.specs.declared.packet.PacketFault.{PacketFault}
use Rattle.ldc_packet.specs.declared.packet.Subtype.{Subtype}
use Rattle.ldc_packet.specs.Decoding.{Unpacks}
use Rattle.ldc_packet.specs.Fault.{first_fault}
use Rattle.ldc_packet.specs.Spelling.{SpellsBody, ctrl_at, env_at, seqid_at, type_at, type_code}
use Rattle.ldc_queue.specs.declared.end.End.{End}
use Rattle.ldc_queue.specs.declared.end.End.TheVariants.{A, B}
use Rattle.ldc_queue.specs.Fragments.{Fragment, fragment_at, is_part}
use Rattle.ldc_queue.specs.Numbered.{is_numbered}
use Rattle.ldc_queue.specs.Transcript.{Utterance}
use Rattle.vio_handshake.specs.declared.handshake.Handshake.{Handshake}
use Rattle.vio_handshake.specs.declared.handshake.Phase.TheVariants.{Open}
use Rattle.vio_handshake.specs.declared.session.Offer.{Offer}
use Rattle.vio_handshake.specs.Rules.{handshake_take, is_declined, sid_fault}
use Rattle.vio_tag.proofs.Deciding.{some_result}
use Rattle.vio_tag.proofs.Reading.{one_result}
use Rattle.vio_tag.specs.declared.cause.Cause.{Cause}
use Rattle.vio_tag.specs.declared.cause.Cause.TheVariants as the_cause
use Rattle.vio_tag.specs.declared.message.Message.{Message}
use Rattle.vio_tag.specs.declared.message.MsgBody.{MsgBody}
use Rattle.vio_tag.specs.declared.message.TagFault.{TagFault}
use Rattle.lane_models.proofs.SameSayings.{half_heard_is}
use Rattle.lane_models.specs.Messages.{ended_by}
use Rattle.lane_models.specs.Sayings.{count_heard, half_heard}
use Rattle.lane_models.specs.TranscriptLog.{transcript_of}
use Rattle.lane_models.specs.WireAt.{counts_next}
use Rattle.lane_models.proofs.EndCases.{stays_risen}
use Rattle.lane_models.proofs.EndResting.{StandsResting, open_rests}
use Rattle.lane_models.proofs.EndStanding.{open_up, opened_phase}
use Rattle.lane_models.proofs.EndUttering.{speaks_run}
use Rattle.lane_models.proofs.Numbering.{count_heard_is}
use Rattle.lane_models.specs.EndCore.{EndCore}
use Rattle.lane_models.specs.EndFold.{decoded_of}
use Rattle.lane_models.specs.LaneCore.{CoreEvent, CoreFits, CoreStep, LaneCore, end_of, fresh_core, role_of, transcript_behind}
use Rattle.lane_models.specs.PacketCauses.{Judges, LinkJudged, WholeJudged, body_cause, decoded_cause, fault_cause, fault_first, judged, judged_body, message_cause, mode_cause, names_mode, number_cause, packet_cause, part_cause, refused_by}
use Rattle.lane_models.proofs.LinkCases.{established}

-- THE MESSAGE: an open handshake declines what it takes, and all else is out of order
pub take_refused : (h : Handshake) (message : Message) → h.phase ≡ Open → sid_fault h.sid message.sid ≡ None
    → refused_by (handshake_take h message) ≡ (if is_declined message.subtype message.body then None else Some the_cause.Order)
take_refused h message open_now sound = grind arith

body_judged : (own : Message → Option Cause) (h : Handshake) (message : Message) (body : MsgBody) → message.body ≡ body → h.phase ≡ Open → sid_fault h.sid message.sid ≡ None
    → judged_body own h message body ≡ body_cause own message body
body_judged own h message body is open_now sound = grind arith

-- a sid that is known
sid_judged : (b : Bool) (sid found : ℕ) (judged_rest rest : Option Cause) → (b ≡ true → judged_rest ≡ rest)
    → fault_first (if b then None else Some (the_cause.Sid sid found)) judged_rest ≡ (if b then rest else Some (the_cause.Sid sid found))
sid_judged true sid found judged_rest rest same = same refl
sid_judged false sid found judged_rest rest same = refl

no_fault : (b : Bool) (sid found : ℕ) → b ≡ true → (if b then None else Some (the_cause.Sid sid found)) ≡ None
no_fault true sid found is = refl
no_fault false sid found is = absurd (cc is)

decoded_judged : (own : Message → Option Cause) (h : Handshake) (sid : ℕ) (d : Result Message TagFault) → h.phase ≡ Open → h.sid ≡ Some sid → judged own h d ≡ decoded_cause own sid d
decoded_judged own h sid (Err fault) open_now known = refl
decoded_judged own h sid (Ok message) open_now known =
    ap (λ (o : Option ℕ). fault_first (sid_fault o message.sid) (judged_body own h message message.body)) known
    ∙ sid_judged (nat_eq sid message.sid) sid message.sid (judged_body own h message message.body) (body_cause own message message.body)
    (λ same. body_judged own h message message.body refl open_now
    (ap (λ (o : Option ℕ). sid_fault o message.sid) known ∙ no_fault (nat_eq sid message.sid) sid message.sid same))

whole_judged : (own : Message → Option Cause) (h : Handshake) (sid : ℕ) (whole : Option (List ℕ)) (answer : Option Cause) → h.phase ≡ Open → h.sid ≡ Some sid → WholeJudged own h whole answer
    → answer ≡ message_cause own sid whole
whole_judged own h sid None answer open_now known is = is
whole_judged own h sid (Some bytes) answer open_now known judges =
    judges.2 ∙ decoded_judged own h sid judges.0 open_now known
    ∙ ap (decoded_cause own sid) (one_result bytes judges.0 (decoded_of bytes) judges.1 (some_result bytes).1)

-- THE PACKET: what is known of its bytes
record Values (packet : List ℕ) (numbered : Bool) (found : ℕ) (names : Bool) (mode : ℕ) (part : Bool) : Type 0 where
  sound : first_fault packet ≡ None
  numbered_is : is_numbered packet ≡ numbered
  found_is : seqid_at packet ≡ found
  names_is : names_mode packet ≡ names
  mode_is : env_at packet ≡ mode
  part_is : is_part packet ≡ part

abbrev cause_by : Bool → (next found : ℕ) → Bool → ℕ → (part comes : Bool) → Option Cause → Option Cause
cause_by numbered next found names mode part comes rest = number_cause numbered next found (mode_cause names mode (part_cause part comes rest))

by_values : (own : Message → Option Cause) (sid : ℕ) (turns : List Utterance) (packet : List ℕ) (numbered : Bool) (next found : ℕ) (names : Bool) (mode : ℕ) (part comes : Bool) (rest : Option Cause)
    → Values packet numbered found names mode part → next ≡ counts_next (count_heard turns) → comes ≡ may_come (half_heard turns) (fragment_at packet)
    → rest ≡ message_cause own sid (ended_by (half_heard turns) packet) → cause_by numbered next found names mode part comes rest ≡ packet_cause own sid turns packet
by_values own sid turns packet numbered next found names mode part comes rest v next_is comes_is rest_is = search

-- WHAT A LINK MAKES of it, where its rest is what becomes of the message that it ends
abbrev link_cause : LinkTake → Option Cause → Option Cause
link_cause (Heard k) rest = rest
link_cause (Unheard cause) rest = Some cause

abbrev HasWhole : List Utterance → List ℕ → LinkTake → Type 0
HasWhole turns packet (Heard m) = m.whole ≡ ended_by (half_heard turns) packet
HasWhole turns packet (Unheard cause) = ⊤

record LinkSo (own : Message → Option Cause) (sid : ℕ) (turns : List Utterance) (packet : List ℕ) (take : LinkTake) : Type 0 where
  cause : link_cause take (message_cause own sid (ended_by (half_heard turns) packet)) ≡ packet_cause own sid turns packet
  whole : HasWhole turns packet take

unheard_so : (own : Message → Option Cause) (sid : ℕ) (turns : List Utterance) (packet : List ℕ) (take : LinkTake) (why : Cause) → take ≡ Unheard why → Some why ≡ packet_cause own sid turns packet
    → LinkSo own sid turns packet take
unheard_so own sid turns packet take why is same = subst (LinkSo own sid turns packet) (sym is) (record { cause = same; whole = tt })

-- a control packet, which an open session doesn't take
abbrev names_by : ℕ → ℕ → Bool
names_by kind ctrl = nat_eq kind 1 && (nat_eq ctrl 2 || nat_eq ctrl 3)

names_of : (packet : List ℕ) (kind ctrl : ℕ) → type_at packet ≡ kind → ctrl_at packet ≡ ctrl → names_mode packet ≡ names_by kind ctrl
names_of packet kind ctrl kind_is ctrl_is = ap (λ (n : ℕ). names_by n (ctrl_at packet)) kind_is ∙ ap (names_by kind) ctrl_is

moded_take : (b : Bool) (k : LinkState) (mode : ℕ) (behind : Result LinkPhase Cause) → behind ≡ Err the_cause.Unexpected
    → goes_to k (if b then behind else Err (the_cause.Mode mode)) ≡ Unheard (if b then the_cause.Unexpected else the_cause.Mode mode)
moded_take true k mode behind is = ap (goes_to k) is
moded_take false k mode behind is = refl

moded_cause : (b : Bool) (mode : ℕ) → Some (if b then the_cause.Unexpected else the_cause.Mode mode) ≡ (if true && not b then Some (the_cause.Mode mode) else Some the_cause.Unexpected)
moded_cause true mode = refl
moded_cause false mode = refl

turned_take : (b : Bool) (next found : ℕ) (take : LinkTake) → take ≡ Unheard the_cause.Unexpected
    → (if b then count take else Unheard (the_cause.Gap next found)) ≡ Unheard (if b then the_cause.Unexpected else the_cause.Gap next found)
turned_take true next found take is = ap count is
turned_take false next found take is = refl

turned_cause : (b : Bool) (next found : ℕ) → Some (if b then the_cause.Unexpected else the_cause.Gap next found) ≡ (if true && not b then Some (the_cause.Gap next found) else Some the_cause.Unexpected)
turned_cause true next found = refl
turned_cause false next found = refl

-- a part
in_turn_cause : (b : Bool) (next found : ℕ) (take : LinkTake) (rest behind : Option Cause) → link_cause take rest ≡ behind
    → link_cause (if b then count take else Unheard (the_cause.Gap next found)) rest ≡ (if true && not b then Some (the_cause.Gap next found) else behind)
in_turn_cause true next found (Heard k) rest behind is = is
in_turn_cause true next found (Unheard cause) rest behind is = is
in_turn_cause false next found take rest behind is = refl

in_turn_whole : (turns : List Utterance) (packet : List ℕ) (b : Bool) (next found : ℕ) (take : LinkTake) → HasWhole turns packet take
    → HasWhole turns packet (if b then count take else Unheard (the_cause.Gap next found))
in_turn_whole turns packet true next found (Heard k) is = is
in_turn_whole turns packet true next found (Unheard cause) is = tt
in_turn_whole turns packet false next found take is = tt

parted_cause : (up comes : Bool) (k : LinkState) (part : Fragment) (rest : Option Cause) → up ≡ true
    → link_cause (if up then (if comes then Heard (with_part k part) else Unheard the_cause.Fragment) else Unheard the_cause.Unexpected) rest ≡ part_cause true comes rest
parted_cause true true k part rest is = refl
parted_cause true false k part rest is = refl
parted_cause false comes k part rest is = absurd (cc is)

parted_whole : (turns : List Utterance) (packet : List ℕ) (up comes : Bool) (k : LinkState) (part : Fragment) → (with_part k part).whole ≡ ended_by (half_heard turns) packet
    → HasWhole turns packet (if up then (if comes then Heard (with_part k part) else Unheard the_cause.Fragment) else Unheard the_cause.Unexpected)
parted_whole turns packet true true k part is = is
parted_whole turns packet true false k part is = tt
parted_whole turns packet false comes k part is = tt

ends_message : (k : LinkState) (turns : List Utterance) (packet : List ℕ) (part : Fragment) → k.half_heard ≡ half_heard turns → is_part packet ≡ true → fragment_at packet ≡ part
    → (with_part k part).whole ≡ ended_by (half_heard turns) packet
ends_message k turns packet part half is same = search

module _ (own : Message → Option Cause) (sid : ℕ) (turns : List Utterance) (packet : List ℕ) (k : LinkState) (follows : Follows k turns) (up : is_up k ≡ true) where
  abbrev Holds : LinkTake → Type 0
  Holds take = LinkSo own sid turns packet take

  abbrev comes_now : Bool
  comes_now = may_come (half_heard turns) (fragment_at packet)

  at_up : k.phase ≡ phase.Established
  at_up = established k.phase up

  next_is : k.take_next ≡ counts_next (count_heard turns)
  next_is = follows.takes ∙ ap counts_next (sym (count_heard_is turns))

  by_body : (numbered : Bool) (found : ℕ) (names : Bool) (mode : ℕ) (part comes : Bool) → Values packet numbered found names mode part → comes ≡ comes_now
      → cause_by numbered k.take_next found names mode part comes (message_cause own sid (ended_by (half_heard turns) packet)) ≡ packet_cause own sid turns packet
  by_body numbered found names mode part comes v comes_is =
      by_values own sid turns packet numbered k.take_next found names mode part comes (message_cause own sid (ended_by (half_heard turns) packet)) v next_is comes_is refl

  body_so : (s : Subtype) (n : ℕ) (b : Body) → first_fault packet ≡ None → type_at packet ≡ type_code b → seqid_at packet ≡ n → SpellsBody packet b → is_numbered packet ≡ has_number b
      → is_part packet ≡ has_part b → (IsData b → fragment_at packet ≡ fragment_of b) → Holds (takes_body k s n b)
  unfolding has_number has_part
  body_so s n (Vers major minor) sound kind seqid spells numbered part fragment =
      unheard_so own sid turns packet (takes_body k s n (Vers major minor)) the_cause.Unexpected (ap (λ (p : LinkPhase). goes_to k (phase_behind_vers p s major minor)) at_up)
      (by_body false n false (env_at packet) false comes_now
      (record { sound = sound; numbered_is = numbered; found_is = seqid; names_is = names_of packet 1 1 kind spells.0; mode_is = refl; part_is = part }) refl)
  body_so s n (Rts mode) sound kind seqid spells numbered part fragment =
      unheard_so own sid turns packet (takes_body k s n (Rts mode)) (if nat_eq mode 1 then the_cause.Unexpected else the_cause.Mode mode)
      (moded_take (nat_eq mode 1) k mode (phase_behind_rts k.phase s) (ap (λ (p : LinkPhase). phase_behind_rts p s) at_up))
      (moded_cause (nat_eq mode 1) mode ∙ by_body false n true mode false comes_now
      (record { sound = sound; numbered_is = numbered; found_is = seqid; names_is = names_of packet 1 2 kind spells.0; mode_is = spells.1; part_is = part }) refl)
  body_so s n (Rtr mode) sound kind seqid spells numbered part fragment =
      unheard_so own sid turns packet (takes_body k s n (Rtr mode)) (if nat_eq mode 1 then the_cause.Unexpected else the_cause.Mode mode)
      (moded_take (nat_eq mode 1) k mode (phase_behind_rtr k.phase s) (ap (λ (p : LinkPhase). phase_behind_rtr p s) at_up))
      (moded_cause (nat_eq mode 1) mode ∙ by_body false n true mode false comes_now
      (record { sound = sound; numbered_is = numbered; found_is = seqid; names_is = names_of packet 1 3 kind spells.0; mode_is = spells.1; part_is = part }) refl)
  body_so s n Rdx sound kind seqid spells numbered part fragment =
      unheard_so own sid turns packet (takes_body k s n Rdx) (if nat_eq n k.take_next then the_cause.Unexpected else the_cause.Gap k.take_next n)
      (turned_take (nat_eq n k.take_next) k.take_next n (goes_to k (phase_behind_rdx k.phase s)) (ap (λ (p : LinkPhase). goes_to k (phase_behind_rdx p s)) at_up))
      (turned_cause (nat_eq n k.take_next) k.take_next n ∙ by_body true n false (env_at packet) false comes_now
      (record { sound = sound; numbered_is = numbered; found_is = seqid; names_is = names_of packet 1 4 kind spells; mode_is = refl; part_is = part }) refl)
  body_so s n (Part start stop len bytes) sound kind seqid spells numbered part fragment =
      let carried : Fragment = fragment_of (Part start stop len bytes) in
      let half : k.half_heard ≡ half_heard turns = follows.half ∙ sym (half_heard_is turns) in
      let comes : may_come k.half_heard carried ≡ comes_now =
      ap (λ (xs : List ℕ). may_come xs carried) half ∙ ap (may_come (half_heard turns)) (sym (fragment tt)) in
      record {
        cause = in_turn_cause (nat_eq n k.take_next) k.take_next n (takes_part k carried) (message_cause own sid (ended_by (half_heard turns) packet))
            (part_cause true (may_come k.half_heard carried) (message_cause own sid (ended_by (half_heard turns) packet)))
            (parted_cause (is_up k) (may_come k.half_heard carried) k carried (message_cause own sid (ended_by (half_heard turns) packet)) up)
            ∙ by_body true n false (env_at packet) true (may_come k.half_heard carried)
            (record { sound = sound; numbered_is = numbered; found_is = seqid; names_is = ap (λ (t : ℕ). names_by t (ctrl_at packet)) kind; mode_is = refl; part_is = part }) comes;
        whole = in_turn_whole turns packet (nat_eq n k.take_next) k.take_next n (takes_part k carried)
            (parted_whole turns packet (is_up k) (may_come k.half_heard carried) k carried (ends_message k turns packet carried half part (fragment tt)));
      }

  decoded_so : (d : Result Packet PacketFault) → Unpacks packet d → Holds (takes_decoded k d)
  decoded_so (Ok p) unpacks =
      let form = unpacks.packet.0 in
      let spells = unpacks.packet.1 in
      body_so p.subtype p.seqid p.body (spelled_no_fault packet p form spells) spells.kind spells.seqid spells.body (spelled_numbered packet p spells) (spelled_part packet p spells)
      (λ carries. spelled_fragment packet p carries form spells)
  decoded_so (Err fault) unpacks =
      unheard_so own sid turns packet (takes_decoded k (Err fault)) (the_cause.Packet fault) refl
      (sym (ap (λ (f : Option PacketFault). fault_cause f (cause_by (is_numbered packet) (counts_next (count_heard turns)) (seqid_at packet) (names_mode packet) (env_at packet) (is_part packet)
      comes_now (message_cause own sid (ended_by (half_heard turns) packet)))) unpacks.fault))

  take_so : (take : LinkTake) → TakesBytes k packet take → Holds take
  take_so take takes = subst Holds (sym takes.is) (decoded_so takes.decoded takes.unpacks)

-- AN END
pub end_judges : (own : Message → Option Cause) (role : Role) (c : EndCore) (turns : List Utterance) (packet : List ℕ) (answer : Option Cause) → StandsResting role c turns → c.is_open ≡ true
    → Judges own role c packet answer → answer ≡ packet_cause own c.handshake.draft.sid turns packet
end_judges own role c turns packet answer knows opened judges = by_take judges.take (take_so own sid turns packet c.link knows.stands.link.follows up judges.take judges.takes) judges.judges
  where
    sid : ℕ
    sid = c.handshake.draft.sid

    up : is_up c.link ≡ true
    up = open_up role c turns knows.stands opened

    open_now : c.handshake.phase ≡ Open
    open_now = opened_phase c.handshake.phase (sym knows.stands.opened ∙ opened)

    by_take : (take : LinkTake) → LinkSo own c.handshake.draft.sid turns packet take → LinkJudged own role c take answer → answer ≡ packet_cause own c.handshake.draft.sid turns packet
    by_take (Unheard why) so is = is ∙ so.cause
    by_take (Heard m) so is =
        whole_judged own c.handshake c.handshake.draft.sid m.whole answer open_now (open_rests role c turns knows opened).sid
        (subst (λ (h : Handshake). WholeJudged own h m.whole answer) (stays_risen role c.link m c.handshake (inr up)) is)
        ∙ ap (message_cause own c.handshake.draft.sid) so.whole ∙ so.cause

-- ALONG EVERY RUN
pub run_judges : (entries : ℕ) (asks answers : Offer) (events : List CoreEvent) (s : LaneCore) (e : End) (own : Message → Option Cause) (packet : List ℕ) (answer : Option Cause)
    → CoreFits entries asks answers → Run CoreStep (fresh_core entries asks answers) events s → (end_of e s).is_open ≡ true → Judges own (role_of e) (end_of e s) packet answer
    → answer ≡ packet_cause own (end_of e s).handshake.draft.sid (transcript_of e (transcript_behind events)) packet
run_judges entries asks answers events s A own packet answer fits run opened judges =
    end_judges own Initiator s.a (transcript_behind events).a packet answer (speaks_run entries asks answers events s fits run).a.knows opened judges
run_judges entries asks answers events s B own packet answer fits run opened judges =
    end_judges own Responder s.b (transcript_behind events).b packet answer (speaks_run entries asks answers events s fits run).b.knows opened judges
