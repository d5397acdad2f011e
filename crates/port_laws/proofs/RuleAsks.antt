-- An INFO that an end of a port takes is the next, and an ACK for which it resets itself as its slot isn't DONE is one of its own ring.
use Rattle.std.proofs.Common.{◌≡◌, ℕ, ◌+◌, ◌<◌, ◌≤◌, ◌⊎◌, Bool, true, false, Option, Some, None, List, refl, sym, subst, ap, ◌∙◌, arith}
use Rattle.std.specs.Prelude.{◌%◌, ◌==◌, ◌&&◌, Result, Ok, Err, nat_eq, nat_le, nat_lt, not, if◌then◌else◌, ⊤}
use Rattle.std.proofs.lemmas.Bool.{and_parts, eqb-true, leb-false, leb-true}
use Rattle.ldc_link.specs.declared.phase.Role.{Role}
use Rattle.ldc_link.specs.declared.phase.Role.TheVariants.{Initiator, Responder}
use Rattle.ldc_link.specs.Taking.{may_come}
use Rattle.ldc_packet.specs.declared.packet.PacketFault.{PacketFault}
use Rattle.ldc_packet.specs.declared.packet.Subtype.{Subtype}
use Rattle.ldc_packet.specs.declared.packet.Subtype.TheVariants.{Ack, Info, Nack}
use Rattle.ldc_packet.specs.Fault.{first_fault}
use Rattle.ldc_packet.specs.Spelling.{env_at, seqid_at, subtype_code}
use Rattle.ldc_queue.specs.declared.end.End.{End}
use Rattle.ldc_queue.specs.Fragments.{fragment_at, is_part}
use Rattle.ldc_queue.specs.Numbered.{is_numbered}
use Rattle.ldc_queue.specs.Transcript.{Utterance}
use Rattle.dring.specs.Slots.{range_length}
use Rattle.runs.specs.Lawful.{Lawful, log_of}
use Rattle.runs.specs.Run.{Run}
use Rattle.vio_tag.proofs.Deciding.{some_result}
use Rattle.vio_tag.specs.declared.cause.Cause.{Cause}
use Rattle.vio_tag.specs.declared.cause.Cause.TheVariants as the_cause
use Rattle.vio_tag.specs.declared.message.Message.{Message}
use Rattle.vio_tag.specs.declared.message.MsgBody.{MsgBody}
use Rattle.vio_tag.specs.declared.message.MsgBody.TheVariants.{DringData, Mcast}
use Rattle.vio_tag.specs.declared.message.TagFault.{TagFault}
use Rattle.vio_tag.specs.Decoding.{Decodes}
use Rattle.vio_tag.specs.Form.{HasForm}
use Rattle.vio_tag.specs.Spelling.{SpellsBody, SpellsMessage, envelope_code}
use Rattle.lane_models.specs.Messages.{end_slot_of, ended_by, is_range, range_if, range_in}
use Rattle.lane_models.specs.Ranges.{is_other, wrapped}
use Rattle.lane_models.specs.Sayings.{count_heard, half_heard}
use Rattle.lane_models.specs.TranscriptLog.{transcript_of}
use Rattle.lane_models.specs.WireAt.{counts_next}
use Rattle.lane_models.proofs.Resets.{reset_says}
use Rattle.lane_models.specs.LaneCore.{CoreEvent, CoreStep, end_of as core_of, transcript_behind}
use Rattle.lane_models.specs.PacketCauses.{body_cause, decoded_cause, fault_cause, message_cause, mode_cause, names_mode, number_cause, packet_cause, part_cause}
use Rattle.lane_models.specs.Resetting.{ResetsFor}
use Rattle.lane_models.proofs.Refuting.{none_some, true_false}
use Rattle.lane_models.proofs.Ruling.{says_of}
use Rattle.lane_models.proofs.SlotsLooked.{first_in_order}
use Rattle.lane_models.specs.EndLog.{SessionLog, range_of}
use Rattle.lane_models.specs.FrameLaws.{Asks, AsksAt, InSession, IsActive, NamesUndone, SomeMessage, UndoneAt}
use Rattle.lane_models.specs.NetEndRule.{Takes, port_rule}
use Rattle.lane_models.specs.NetEndState.{NetEndState, NetSession}
use Rattle.lane_models.specs.NetEndStep.{Reset, Took}
use Rattle.lane_models.specs.NetEndTaking.{GoesOn, Resets, first_undone}
use Rattle.lane_models.specs.NetEvent.{NetEvent, Steps}
use Rattle.lane_models.specs.NetLaneState.{IsNetShape, NetLaneState, NetShape, memory_of, net_end, reach_of, role_at, seen_at}
use Rattle.lane_models.specs.Offers.{port_offer}
use Rattle.lane_models.specs.NetLaneStep.{NetLaneStep}
use Rattle.lane_models.specs.PortLog.{PortLog, after, log_of_end, no_events}
use Rattle.lane_models.specs.PortState.{OnLane, PortEvent, PortState, PortStep, before, fresh_port}
use Rattle.lane_models.specs.RuleFacts.{IfOpen, MayListen}
use Rattle.lane_models.specs.SlotsLooked.{FirstUndone}
use Rattle.lane_models.specs.Spoken.{RangeInfo, spoken, spoken_by}
use Rattle.port_laws.specs.NetCore.{fresh_net_core, lane_core}
use Rattle.port_laws.specs.PortCauses.{ack_cause, info_cause, own_cause, session_cause}
use Rattle.port_laws.specs.PortCore.{port_events}
use Rattle.port_laws.proofs.EndCounting.{OpenCounts, open_counts, open_empty}
use Rattle.port_laws.proofs.LettingGo.{spoken_same}
use Rattle.port_laws.proofs.MessageDoes.{not_other}
use Rattle.port_laws.proofs.CoreLaws.{sizes_fit}
use Rattle.port_laws.proofs.Fitting.{BothFit}
use Rattle.port_laws.proofs.LaneMoves.{event_core_step}
use Rattle.port_laws.proofs.PortCauses.{cause_before, fails_takes, moves_before, takes_rule}
use Rattle.port_laws.proofs.PortResets.{opened_is}
use Rattle.port_laws.proofs.PortCounts.{Ready, port_counts, queue_of, ready_before}
use Rattle.port_laws.proofs.PortRuns.{by_option, before_fits, lawful_on_lane, port_fits_behind}
use Rattle.port_laws.proofs.RuleFrames.{both_open, end_acts, end_counted, if_range, if_session}
use Rattle.port_laws.proofs.RuleRest.{own_reset_event}
use Rattle.port_laws.proofs.StepCounts.{peer_slots_known}
use Rattle.port_laws.proofs.TookCounts.{free_empty}

-- WHAT COMES LAST: no cause, or a slot that isn't DONE, is what the session says of the message that the packet ends
abbrev IsLate : Option Cause → Type 0
IsLate None = ⊤
IsLate (Some (the_cause.NotDone slot state)) = ⊤
IsLate (Some _) = ⊥

past_if : (b : Bool) (x : Cause) (rest answer : Option Cause) → (IsLate (Some x) → ⊥) → IsLate answer → (if b then Some x else rest) ≡ answer → (b ≡ false) × (rest ≡ answer)
past_if false x rest answer never late is = (refl, is)
past_if true x rest answer never late is = absurd (never (subst IsLate (sym is) late))

past_else : (b : Bool) (x : Cause) (rest answer : Option Cause) → (IsLate (Some x) → ⊥) → IsLate answer → (if b then rest else Some x) ≡ answer → (b ≡ true) × (rest ≡ answer)
past_else true x rest answer never late is = (refl, is)
past_else false x rest answer never late is = absurd (never (subst IsLate (sym is) late))

past_fault : (fault : Option PacketFault) (rest answer : Option Cause) → IsLate answer → fault_cause fault rest ≡ answer → rest ≡ answer
past_fault None rest answer late is = is
past_fault (Some fault) rest answer late is = absurd (subst IsLate (sym is) late)

past_packet : (own : Message → Option Cause) (sid : ℕ) (turns : List Utterance) (packet : List ℕ) (answer : Option Cause) → IsLate answer → packet_cause own sid turns packet ≡ answer
    → message_cause own sid (ended_by (half_heard turns) packet) ≡ answer
past_packet own sid turns packet answer late is =
    let rest : Option Cause = message_cause own sid (ended_by (half_heard turns) packet) in
    let parted : Option Cause = part_cause (is_part packet) (may_come (half_heard turns) (fragment_at packet)) rest in
    let moded : Option Cause = mode_cause (names_mode packet) (env_at packet) parted in
    let numbered : Option Cause = number_cause (is_numbered packet) (counts_next (count_heard turns)) (seqid_at packet) moded in
    let one : numbered ≡ answer = past_fault (first_fault packet) numbered answer late is in
    let two : moded ≡ answer =
    (past_if (is_numbered packet && not (nat_eq (seqid_at packet) (counts_next (count_heard turns)))) (the_cause.Gap (counts_next (count_heard turns)) (seqid_at packet)) moded answer (λ no. no) late one).1 in
    let three : parted ≡ answer = (past_if (names_mode packet && not (nat_eq (env_at packet) 1)) (the_cause.Mode (env_at packet)) parted answer (λ no. no) late two).1 in
    let four = (past_else (is_part packet) the_cause.Unexpected (if may_come (half_heard turns) (fragment_at packet) then rest else Some the_cause.Fragment) answer (λ no. no) late three).1 in
    (past_else (may_come (half_heard turns) (fragment_at packet)) the_cause.Fragment rest answer (λ no. no) late four).1

-- the message, as it is read
record Judged (own : Message → Option Cause) (bytes : List ℕ) (answer : Option Cause) : Type 0 where
  message : Message
  form : HasForm message.body
  spells : SpellsMessage bytes message
  body : body_cause own message message.body ≡ answer

judged_at : (own : Message → Option Cause) (sid : ℕ) (bytes : List ℕ) (answer : Option Cause) → IsLate answer → message_cause own sid (Some bytes) ≡ answer → Judged own bytes answer
judged_at own sid bytes answer late is = by_result (some_result bytes).0 (some_result bytes).1 is
  where
    by_result : (d : Result Message TagFault) → Decodes bytes d → decoded_cause own sid d ≡ answer → Judged own bytes answer
    by_result (Ok message) decodes here = record {
      message = message;
      form = decodes.message.0;
      spells = decodes.message.1;
      body = (past_else (nat_eq sid message.sid) (the_cause.Sid sid message.sid) (body_cause own message message.body) answer (λ no. no) late here).1;
    }
    by_result (Err fault) decodes here = absurd (subst IsLate (sym here) late)

-- AN INFO that is taken
record IsInfo (s : Subtype) (b : MsgBody) : Type 0 where
  subtype : s ≡ Info
  seq : ℕ
  ident : ℕ
  start : ℕ
  end : ℕ
  state : ℕ
  body : b ≡ DringData seq ident start end state

info_body : (s : Subtype) (b : MsgBody) → HasForm b → spoken_by (envelope_code b) (subtype_code s) ≡ RangeInfo → IsInfo s b
info_body s b form is = grind arith

session_info : (role : Role) (s : NetEndState) (p : NetSession) (memory : List ℕ) (seq ident start end state : ℕ) → session_cause role s p memory Info (DringData seq ident start end state) ≡ info_cause s p seq ident start end
session_info role s p memory seq ident start end state = grind arith

ends_in : (end slots : ℕ) → (not (end == 0xffffffff) && nat_le slots end) ≡ false → (end ≡ 0xffffffff) ⊎ (end < slots)
ends_in end slots is = grind (arith, eqb-true, leb-false, true_false)

-- the end that takes it, by its log
record Listens (slots : ℕ) (p : NetSession) (v : SessionLog) : Type 0 where
  seq : p.seq ≡ wrapped (v.asked + 1)
  place : p.place ≡ v.taken % slots
  rests : v.asked ≡ v.acks
  seen : v.seen ≡ p.seen
  all : v.published ≡ p.published

listens : (shape : NetShape) (e : End) (u : PortState) (l : PortLog) (packet : List ℕ) (p : NetSession) (v : SessionLog) → Ready shape u l → port_rule (role_at e) (net_end e u.lane) (seen_at e u.lane) ≡ Takes packet
    → (net_end e u.lane).session ≡ Some p → (log_of_end e l).session ≡ Some v → Listens shape.slots p v
listens shape e u l packet p v ready rule session log =
    let s : NetEndState = net_end e u.lane in
    let says = says_of (role_at e) s (seen_at e u.lane) (Takes packet) rule in
    let acting = end_acts shape e u l ready says.0.up in
    let empty = free_empty (role_at e) s (transcript_of e l.transcript) acting.ends says.0.quiet in
    let here : OpenCounts (role_at e) shape.slots s.groups (log_of_end e l).published (log_of_end e l).gone None s.link.begun p (log_of_end e l).session =
    open_empty (role_at e) shape.slots (queue_of e u) s (log_of_end e l) p (end_counted shape e u l ready) session empty in
    let may : MayListen p = subst (λ (x : Option NetSession). IfOpen x MayListen) session says.2 in
    grind arith

asks_here : (role : Role) (s : NetEndState) (p : NetSession) (memory : List ℕ) (sid slots : ℕ) (turns : List Utterance) (packet message : List ℕ) (v : SessionLog) → s.handshake.draft.peer_slots ≡ slots → Listens slots p v
    → packet_cause (own_cause role s p memory) sid turns packet ≡ None → ended_by (half_heard turns) packet ≡ Some message → spoken message ≡ RangeInfo → Asks slots v message
asks_here role s p memory sid slots turns packet message v peer listening none ended kind =
    let own : Message → Option Cause = own_cause role s p memory in
    let judged = judged_at own sid message None tt (sym (ap (message_cause own sid) ended) ∙ past_packet own sid turns packet None tt none) in
    let m : Message = judged.message in
    let info = info_body m.subtype m.body judged.form (sym (spoken_same message m judged.spells) ∙ kind) in
    let fields : SpellsBody message (DringData info.seq info.ident info.start info.end info.state) = subst (SpellsBody message) info.body judged.spells.body in
    let causes : info_cause s p info.seq info.ident info.start info.end ≡ None = grind (arith, session_info) in
    let one = past_if (is_other s.handshake.draft.ident_peer info.ident) (the_cause.Ident s.handshake.draft.ident_peer info.ident) _ None (λ no. no) tt causes in
    let two = past_if (is_other p.seq info.seq) (the_cause.Seq p.seq info.seq) _ None (λ no. no) tt one.1 in
    let three = past_if (is_other p.place info.start) (the_cause.Slot p.place info.start) _ None (λ no. no) tt two.1 in
    let four = past_if (not (info.end == 0xffffffff) && nat_le s.handshake.draft.peer_slots info.end) (the_cause.RangeEnd info.end) None None (λ no. no) tt three.1 in
    record {
      next = sym fields.0 ∙ sym (not_other p.seq info.seq two.0) ∙ listening.seq;
      begins = sym fields.2 ∙ sym (not_other p.place info.start three.0) ∙ listening.place;
      ends = subst (λ (n : ℕ). (n ≡ 0xffffffff) ⊎ (n < slots)) fields.3 (subst (λ (n : ℕ). (info.end ≡ 0xffffffff) ⊎ (info.end < n)) peer (ends_in info.end s.handshake.draft.peer_slots four.0));
      rests = listening.rests;
    }

-- AN ACK for which it resets itself
undone_own : (own : Message → Option Cause) (message : Message) (b : MsgBody) (slot state : ℕ) → body_cause own message b ≡ Some (the_cause.NotDone slot state) → own message ≡ Some (the_cause.NotDone slot state)
undone_own own message b slot state is = grind arith

record IsAck (s : NetEndState) (p : NetSession) (memory : List ℕ) (subtype : Subtype) (b : MsgBody) (answer : Option Cause) : Type 0 where
  is_ack : subtype ≡ Ack
  seq : ℕ
  ident : ℕ
  start : ℕ
  end : ℕ
  state : ℕ
  body : b ≡ DringData seq ident start end state
  cause : ack_cause s p memory ident start end ≡ answer

info_undone : {X : Type 0} (s : NetEndState) (p : NetSession) (seq ident start end slot state : ℕ) → info_cause s p seq ident start end ≡ Some (the_cause.NotDone slot state) → X
info_undone {X} s p seq ident start end slot state is = grind (arith, past_if, none_some)

told_undone : {X : Type 0} (b : Bool) (one other : Option Cause) (slot state : ℕ) → (one ≡ Some (the_cause.NotDone slot state) → ⊥) → (other ≡ Some (the_cause.NotDone slot state) → ⊥)
    → (if b then one else other) ≡ Some (the_cause.NotDone slot state) → X
told_undone {X} b one other slot state first second is = grind arith

session_undone : (role : Role) (s : NetEndState) (p : NetSession) (memory : List ℕ) (subtype : Subtype) (b : MsgBody) (slot state : ℕ)
    → session_cause role s p memory subtype b ≡ Some (the_cause.NotDone slot state) → IsAck s p memory subtype b (Some (the_cause.NotDone slot state))
session_undone Initiator s p memory Info (DringData seq ident start end at) slot state is = info_undone s p seq ident start end slot state is
session_undone Responder s p memory Info (DringData seq ident start end at) slot state is = info_undone s p seq ident start end slot state is
session_undone Initiator s p memory Ack (DringData seq ident start end at) slot state is =
    record { is_ack = refl; seq = seq; ident = ident; start = start; end = end; state = at; body = refl; cause = is }
session_undone Responder s p memory Ack (DringData seq ident start end at) slot state is =
    record { is_ack = refl; seq = seq; ident = ident; start = start; end = end; state = at; body = refl; cause = is }
session_undone Initiator s p memory Nack (DringData seq ident start end at) slot state is = absurd (cc is)
session_undone Responder s p memory Nack (DringData seq ident start end at) slot state is = absurd (cc is)
session_undone Initiator s p memory Ack (Mcast set count addresses) slot state is =
    told_undone p.telling None (Some the_cause.Order) slot state (λ never. absurd (cc never)) (λ never. absurd (cc never)) is
session_undone Initiator s p memory Nack (Mcast set count addresses) slot state is =
    told_undone p.telling (Some the_cause.Refused) (Some the_cause.Order) slot state (λ never. absurd (cc never)) (λ never. absurd (cc never)) is
session_undone role s p memory _ _ slot state is = absurd (cc is)

undone_here : (role : Role) (s : NetEndState) (p : NetSession) (memory : List ℕ) (sid slots : ℕ) (turns : List Utterance) (packet : List ℕ) (v : SessionLog) (slot state : ℕ) → s.slots ≡ slots → Listens slots p v
    → packet_cause (own_cause role s p memory) sid turns packet ≡ Some (the_cause.NotDone slot state)
    → SomeMessage (range_in 2 (ended_by (half_heard turns) packet)) (NamesUndone slots slot state v)
undone_here role s p memory sid slots turns packet v slot state same listening is =
    by_ended (ended_by (half_heard turns) packet) (past_packet own sid turns packet answer tt is)
  where
    own : Message → Option Cause
    own = own_cause role s p memory

    answer : Option Cause
    answer = Some (the_cause.NotDone slot state)

    with_range : (message : List ℕ) (b : Bool) → is_range 2 message ≡ b → b ≡ true → NamesUndone slots slot state v message → SomeMessage (range_if (is_range 2 message) message) (NamesUndone slots slot state v)
    with_range message b test yes_ names = subst (λ (x : Bool). SomeMessage (range_if x message) (NamesUndone slots slot state v)) (sym (test ∙ yes_)) names

    by_ended : (ended : Option (List ℕ)) → message_cause own sid ended ≡ answer → SomeMessage (range_in 2 ended) (NamesUndone slots slot state v)
    by_ended None none = none_some (the_cause.NotDone slot state) none
    by_ended (Some message) here =
        let judged = judged_at own sid message answer tt here in
        let m : Message = judged.message in
        let ack = session_undone role s p memory m.subtype m.body slot state (undone_own own m m.body slot state judged.body) in
        let fields : SpellsBody message (DringData ack.seq ack.ident ack.start ack.end ack.state) = subst (SpellsBody message) ack.body judged.spells.body in
        let one = past_if (is_other s.handshake.draft.ident_own ack.ident) (the_cause.Ident s.handshake.draft.ident_own ack.ident) _ answer (λ no. no) tt ack.cause in
        let two = past_if (is_other (p.seen % s.slots) ack.start) (the_cause.Slot (p.seen % s.slots) ack.start) _ answer (λ no. no) tt one.1 in
        let count : ℕ = range_length s.slots ack.start ack.end in
        let three = past_else (nat_lt ack.end s.slots && nat_le (p.seen + count) p.published) (the_cause.RangeEnd ack.end) (first_undone s.slots memory p.seen count) answer (λ no. no) tt two.1 in
        let within : p.seen + count ≤ p.published = leb-true (p.seen + count) p.published (and_parts (nat_lt ack.end s.slots) (nat_le (p.seen + count) p.published) three.0).1 in
        let undone : FirstUndone s.slots memory p.seen count (the_cause.NotDone slot state) = first_in_order s.slots memory p.seen count (the_cause.NotDone slot state) three.1 in
        let range : range_of slots message ≡ count =
        ap (λ (n : ℕ). range_length slots n (end_slot_of message)) (sym fields.2) ∙ ap (λ (n : ℕ). range_length slots ack.start n) (sym fields.3) ∙ ap (λ (n : ℕ). range_length n ack.start ack.end) (sym same) in
        grind (arith, with_range, not_other)

-- without a session no slot is looked at
never_shut : {X : Type 0} (shape : NetShape) (is : IsNetShape shape) (moves : List CoreEvent) (u t : NetLaneState) (run : Run CoreStep (fresh_net_core shape) moves (lane_core u)) (fits : BothFit u) (e : End)
    (slot state : ℕ) (packet : List ℕ) (lost : ℕ) → (net_end e u).session ≡ None → NetLaneStep u (Steps e (Reset (the_cause.NotDone slot state) (Some packet) lost)) t → X
never_shut {X} shape is moves u t run fits e slot state packet lost none step =
    let by_why : ResetsFor (core_of e (lane_core u)) (transcript_of e (transcript_behind moves)) (the_cause.NotDone slot state) (Some packet) → X = λ given.
    grind (arith, opened_is) in
    by_why (reset_says shape.entries (port_offer Initiator shape.address shape.slots) (port_offer Responder shape.address shape.slots) moves (lane_core u) e (the_cause.NotDone slot state) (Some packet) lost (lane_core t)
    (sizes_fit shape is) run refl (event_core_step u (Steps e (Reset (the_cause.NotDone slot state) (Some packet) lost)) t fits step))

-- AN EVENT
module _ (shape : NetShape) (is : IsNetShape shape) (events : List PortEvent) (s : PortState) (event : NetEvent) (run : Run PortStep (fresh_port shape) events s) where
  abbrev u : PortState
  u = before event s

  abbrev l : PortLog
  l = log_of after (no_events shape) events

  ready : Ready shape u l
  ready = ready_before shape s l event is (port_counts shape events s is run)

asks_event : (shape : NetShape) (is : IsNetShape shape) (events : List PortEvent) (s : PortState) (event : NetEvent) (t : NetLaneState) → Run PortStep (fresh_port shape) events s
    → NetLaneStep (before event s).lane event t → AsksAt (log_of after (no_events shape) events) (OnLane event)
asks_event shape is events s (Steps e (Took packet opens)) t run step =
    let event : NetEvent = Steps e (Took packet opens) in
    let v_l : PortLog = log_of after (no_events shape) events in
    let w : PortState = before event s in
    let known : Ready shape w v_l = ready shape is events s event run in
    let says = says_of (role_at e) (net_end e w.lane) (seen_at e w.lane) (Takes packet) step.step.0 in
    if_session (log_of_end e v_l).session _ (λ v log.
    let both = both_open (role_at e) shape.slots (queue_of e w) (net_end e w.lane) (log_of_end e v_l) v (end_counted shape e w v_l known) log in
    let acting = end_acts shape e w v_l known says.0.up in
    let none = cause_before shape events s is run event e both.p packet (GoesOn step.left.end opens step.left.own) both.is step.step.1 in
    if_range 1 (ended_by (half_heard (transcript_of e v_l.transcript)) packet) (Asks v_l.shape.slots v) (λ message ended kind.
    subst (λ (x : NetShape). Asks x.slots v message) (sym known.shape_is)
    (asks_here (role_at e) (net_end e w.lane) both.p (memory_of e w.lane) (net_end e w.lane).handshake.draft.sid shape.slots (transcript_of e v_l.transcript) packet message v
    (peer_slots_known (role_at e) shape.slots (queue_of e w) (net_end e w.lane) (log_of_end e v_l) (transcript_of e v_l.transcript) both.p acting both.is)
    (listens shape e w v_l packet both.p v known step.step.0 both.is log) none ended kind)))
asks_event shape is events s _ t run step = tt

pub port_asks : (shape : NetShape) (events : List PortEvent) (s : PortState) → IsNetShape shape → Run PortStep (fresh_port shape) events s → Lawful AsksAt after (no_events shape) events
port_asks shape events s is run =
    lawful_on_lane shape AsksAt (λ l frame. tt)
    (λ xs x event y ran step. asks_event shape is xs x event y.lane ran step.1) events s run

-- a reset for a slot that isn't DONE
in_never : {X : Type 0} (log : Option SessionLog) (P : SessionLog → Type 0) → InSession log (λ (v : SessionLog). ⊥ × P v) → X
in_never {X} log P holds = grind arith

module _ (shape : NetShape) (is : IsNetShape shape) (events : List PortEvent) (s : PortState) (t : NetLaneState) (run : Run PortStep (fresh_port shape) events s) (e : End) (slot state lost : ℕ) where
  abbrev for_slot : Option (List ℕ) → NetEvent
  for_slot packet = Steps e (Reset (the_cause.NotDone slot state) packet lost)

  abbrev log : PortLog
  log = log_of after (no_events shape) events

  with_packet : (bytes : List ℕ) → NetLaneStep (before (for_slot (Some bytes)) s).lane (for_slot (Some bytes)) t → UndoneAt log (OnLane (for_slot (Some bytes)))
  with_packet bytes step =
      let w : PortState = before (for_slot (Some bytes)) s in
      let own : NetEndState = net_end e w.lane in
      let known : Ready shape w log = ready shape is events s (for_slot (Some bytes)) run in
      by_option own.session
      (λ p some.
      let here = open_counts (role_at e) shape.slots (queue_of e w) own (log_of_end e log) p (end_counted shape e w log known) some in
      let v : SessionLog = here.of_log in
      let cause = cause_before shape events s is run (for_slot (Some bytes)) e p bytes (Resets (the_cause.NotDone slot state)) some
      (fails_takes _ _ _ _ _ _ bytes step.step.0) in
      let rule : port_rule (role_at e) own (seen_at e w.lane) ≡ Takes bytes = takes_rule (role_at e) (port_rule (role_at e) own (seen_at e w.lane)) own (memory_of e w.lane) (reach_of e w.lane) (the_cause.NotDone slot state) bytes step.step.0 in
      rw (here.is, known.shape_is) (undone_here (role_at e) own p (memory_of e w.lane) own.handshake.draft.sid
      shape.slots (transcript_of e log.transcript) bytes v slot state (end_counted shape e w log known).slots_is
      (listens shape e w log bytes p v known rule some here.is) cause))
      (λ none. never_shut shape is (port_events events) w.lane t (moves_before shape events s is run (for_slot (Some bytes)))
      (before_fits (for_slot (Some bytes)) s (port_fits_behind shape events s run)) e slot state bytes lost none step)

  undone_by : (packet : Option (List ℕ)) → NetLaneStep (before (for_slot packet) s).lane (for_slot packet) t → UndoneAt log (OnLane (for_slot packet))
  undone_by None step =
      in_never (log_of_end e log).session IsActive
      (own_reset_event shape (before (for_slot None) s) log (for_slot None) t (ready shape is events s (for_slot None) run) step)
  undone_by (Some bytes) step = with_packet bytes step

undone_event : (shape : NetShape) (is : IsNetShape shape) (events : List PortEvent) (s : PortState) (event : NetEvent) (t : NetLaneState) → Run PortStep (fresh_port shape) events s
    → NetLaneStep (before event s).lane event t → UndoneAt (log_of after (no_events shape) events) (OnLane event)
undone_event shape is events s event t run step = grind (arith, undone_by)

pub port_undone : (shape : NetShape) (events : List PortEvent) (s : PortState) → IsNetShape shape → Run PortStep (fresh_port shape) events s → Lawful UndoneAt after (no_events shape) events
port_undone shape events s is run =
    lawful_on_lane shape UndoneAt (λ l frame. tt)
    (λ xs x event y ran step. undone_event shape is xs x event y.lane ran step.1) events s run
