-- The causes that a session of a port gives are as its messages say; so each reset of an end says why.
use Rattle.std.proofs.Common.{◌≡◌, ℕ, zero, suc, Bool, true, Option, Some, None, List, refl, sym, subst, arith}
use Rattle.std.specs.Prelude.{◌+◌, ◌%◌, ◌&&◌, is_some, nat_le, nat_lt, if◌then◌else◌}
use Rattle.cookie_copy.specs.Reach.{Reach}
use Rattle.runs.specs.Lawful.{Lawful, log_of}
use Rattle.runs.specs.Run.{Run}
use Rattle.ldc_link.specs.declared.phase.Role.{Role}
use Rattle.ldc_link.specs.declared.phase.Role.TheVariants.{Initiator, Responder}
use Rattle.ldc_packet.specs.declared.packet.Subtype.{Subtype}
use Rattle.ldc_packet.specs.declared.packet.Subtype.TheVariants.{Ack, Info, Nack}
use Rattle.ldc_queue.specs.declared.end.End.{End}
use Rattle.ldc_queue.specs.Transcript.{Utterance}
use Rattle.vio_bytes.specs.Place.{number_at}
use Rattle.vio_tag.specs.declared.cause.Cause.{Cause}
use Rattle.vio_tag.specs.declared.cause.Cause.TheVariants as the_cause
use Rattle.vio_tag.specs.declared.message.MsgBody.{MsgBody}
use Rattle.vio_tag.specs.declared.message.MsgBody.TheVariants.{DringData, Mcast}
use Rattle.vio_tag.specs.Fault.{first_fault}
use Rattle.vio_tag.specs.Spelling.{SpellsBody, envelope_at, envelope_code}
use Rattle.lane_models.specs.Ranges.{is_other}
use Rattle.dring.specs.Slots.{range_length}
use Rattle.lane_models.specs.ResetSays.{IsOther, ResetSays, WireResetAt}
use Rattle.lane_models.specs.TranscriptLog.{TranscriptLog, transcript_of}
use Rattle.lane_models.specs.WireAt.{GapOf, WireGapAt}
use Rattle.lane_models.specs.WireEvent.{WireEvent}
use Rattle.lane_models.proofs.CausesSaid.{cause_said}
use Rattle.lane_models.proofs.LinkResets.{other_number}
use Rattle.lane_models.proofs.Resets.{reset_says}
use Rattle.lane_models.specs.LaneCore.{CoreEvent, CoreStep, end_of, transcript_behind}
use Rattle.lane_models.specs.PacketCauses.{JudgesRightly, OwnSays, SomeSays}
use Rattle.lane_models.specs.Resetting.{ResetsFor}
use Rattle.lane_models.proofs.OwnResets.{net_resets_own}
use Rattle.lane_models.specs.FrameLaws.{SlotCause}
use Rattle.lane_models.specs.EndLog.{SessionLog, opened_log}
use Rattle.lane_models.specs.Fetching.{Fetched, IsFrame as IsFetched, NotReady, Refuses, fetched}
use Rattle.lane_models.specs.NetEndRule.{Fetches, NetRule, port_rule}
use Rattle.lane_models.specs.NetEndState.{Activity, NetEndState, NetSession}
use Rattle.lane_models.specs.NetEndStep.{FetchFails, Frame, NetFails, Published, Reset}
use Rattle.lane_models.specs.NetEndTaking.{ends_outside, first_undone}
use Rattle.lane_models.specs.NetEvent.{CalmTick, Gives, Joins, NetEvent, Steps}
use Rattle.lane_models.specs.NetLaneState.{IsNetShape, NetLaneState, NetShape, memory_of, net_end, reach_of, role_at, seen_at}
use Rattle.lane_models.specs.NetLaneStep.{NetLaneStep}
use Rattle.lane_models.specs.Offers.{port_offer}
use Rattle.lane_models.specs.PortLog.{PortLog, after, no_events}
use Rattle.lane_models.specs.PortMay.{OfWire}
use Rattle.lane_models.specs.PortState.{OnLane, PortEvent, PortState, PortStep, before, fresh_port}
use Rattle.port_laws.specs.NetCore.{fresh_net_core, lane_core}
use Rattle.port_laws.specs.PortCore.{port_events}
use Rattle.port_laws.specs.PortCauses.{ack_cause, info_cause, own_cause, session_cause}
use Rattle.port_laws.proofs.CoreLaws.{sizes_fit}
use Rattle.port_laws.proofs.Fitting.{BothFit}
use Rattle.port_laws.proofs.LaneMoves.{event_core_step}
use Rattle.port_laws.proofs.PortCauses.{fails_with, moves_before}
use Rattle.port_laws.proofs.PortRuns.{before_fits, lawful_along, port_fits_behind, spoken_behind}
use Rattle.port_laws.proofs.SlotsFound.{Fits, fetched_fits}

-- THE CAUSES of a session, by its messages
some_if : (m : List ℕ) (b : Bool) (one : Cause) (rest : Option Cause) → (b ≡ true → OwnSays m one) → SomeSays m rest → SomeSays m (if b then Some one else rest)
some_if m b one rest says others = grind arith

is_other_says : (expected found there : ℕ) → is_other expected found ≡ true → found ≡ there → IsOther expected found there
is_other_says expected found there is same = grind (arith, other_number)

info_says : (m : List ℕ) (s : NetEndState) (p : NetSession) (seq ident start end state : ℕ) → first_fault m ≡ None → envelope_at m ≡ 0x0042 → SpellsBody m (DringData seq ident start end state)
    → SomeSays m (info_cause s p seq ident start end)
info_says m s p seq ident start end state fine envelope spells =
    some_if m (is_other s.handshake.draft.ident_peer ident) (the_cause.Ident s.handshake.draft.ident_peer ident) _
    (λ is. (fine, envelope, is_other_says s.handshake.draft.ident_peer ident (number_at 8 16 m) is spells.1))
    (some_if m (is_other p.seq seq) (the_cause.Seq p.seq seq) _ (λ is. (fine, envelope, is_other_says p.seq seq (number_at 8 8 m) is spells.0))
    (some_if m (is_other p.place start) (the_cause.Slot p.place start) _ (λ is. (fine, envelope, is_other_says p.place start (number_at 4 24 m) is spells.2))
    (some_if m (ends_outside s end) (the_cause.RangeEnd end) None (λ is. (fine, envelope, spells.3)) tt)))

else_says : (m : List ℕ) (b : Bool) (rest : Option Cause) (one : Cause) → SomeSays m rest → OwnSays m one → SomeSays m (if b then rest else Some one)
else_says m b rest one others says = grind arith

undone_says : (m : List ℕ) (slots : ℕ) (memory : List ℕ) (number count : ℕ) → first_fault m ≡ None → envelope_at m ≡ 0x0042 → SomeSays m (first_undone slots memory number count)
undone_says m slots memory number zero fine envelope = tt
undone_says m slots memory number (suc count) fine envelope =
    else_says m _ _ _ (undone_says m slots memory (number + 1) count fine envelope) (fine, envelope)

ack_says : (m : List ℕ) (s : NetEndState) (p : NetSession) (memory : List ℕ) (seq ident start end state : ℕ) → first_fault m ≡ None → envelope_at m ≡ 0x0042
    → SpellsBody m (DringData seq ident start end state) → SomeSays m (ack_cause s p memory ident start end)
ack_says m s p memory seq ident start end state fine envelope spells =
    some_if m (is_other s.handshake.draft.ident_own ident) (the_cause.Ident s.handshake.draft.ident_own ident) _
    (λ is. (fine, envelope, is_other_says s.handshake.draft.ident_own ident (number_at 8 16 m) is spells.1))
    (some_if m (is_other (p.seen % s.slots) start) (the_cause.Slot (p.seen % s.slots) start) _
    (λ is. (fine, envelope, is_other_says (p.seen % s.slots) start (number_at 4 24 m) is spells.2))
    (else_says m (nat_lt end s.slots && nat_le (p.seen + range_length s.slots start end) p.published) (first_undone s.slots memory p.seen (range_length s.slots start end)) (the_cause.RangeEnd end)
    (undone_says m s.slots memory p.seen (range_length s.slots start end) fine envelope) (fine, envelope, spells.3)))

told_says : (m : List ℕ) (b : Bool) → first_fault m ≡ None → SomeSays m (if b then None else Some the_cause.Order)
told_says m b fine = grind arith

refused_says : (m : List ℕ) (b : Bool) → first_fault m ≡ None → SomeSays m (if b then Some the_cause.Refused else Some the_cause.Order)
refused_says m b fine = grind arith

session_says : (m : List ℕ) (role : Role) (s : NetEndState) (p : NetSession) (memory : List ℕ) (subtype : Subtype) (body : MsgBody) → first_fault m ≡ None → envelope_at m ≡ envelope_code body
    → SpellsBody m body → SomeSays m (session_cause role s p memory subtype body)
session_says m Initiator s p memory Info (DringData seq ident start end state) fine envelope spells = info_says m s p seq ident start end state fine envelope spells
session_says m Responder s p memory Info (DringData seq ident start end state) fine envelope spells = info_says m s p seq ident start end state fine envelope spells
session_says m Initiator s p memory Ack (DringData seq ident start end state) fine envelope spells = ack_says m s p memory seq ident start end state fine envelope spells
session_says m Responder s p memory Ack (DringData seq ident start end state) fine envelope spells = ack_says m s p memory seq ident start end state fine envelope spells
session_says m Initiator s p memory Nack (DringData seq ident start end state) fine envelope spells = fine
session_says m Responder s p memory Nack (DringData seq ident start end state) fine envelope spells = fine
session_says m Responder s p memory Info (Mcast set number addresses) fine envelope spells = tt
session_says m Initiator s p memory Ack (Mcast set number addresses) fine envelope spells = told_says m p.telling fine
session_says m Initiator s p memory Nack (Mcast set number addresses) fine envelope spells = refused_says m p.telling fine
session_says m role s p memory _ _ fine envelope spells = fine

own_rightly : (role : Role) (s : NetEndState) (p : NetSession) (memory : List ℕ) → JudgesRightly (own_cause role s p memory)
own_rightly role s p memory = grind (arith, session_says)

-- A RESET without a packet is for a slot
abbrev SaysSo : List Utterance → Cause → Option (List ℕ) → Type 0
SaysSo turns cause packet = ResetSays turns packet cause × GapOf turns cause packet

slot_says : (turns : List Utterance) (cause : Cause) (slots : ℕ) (v : SessionLog) → SlotCause slots cause v → SaysSo turns cause None
slot_says turns cause slots v is = grind arith

found_says : (turns : List Utterance) (found : Fetched) (activity : Activity) (slot : ℕ) (cause : Cause) → Fits found → FetchFails found activity slot cause → SaysSo turns cause None
found_says turns (IsFetched frame new) activity slot cause fits fails = absurd fails
found_says turns (NotReady state) activity slot cause fits fails = subst (λ (c : Cause). SaysSo turns c None) (sym fails.1) (tt, tt)
found_says turns (Refuses why) activity slot cause fits fails = rw fails (slot_says _ _ 0 _ (fits 0 (opened_log 0)))

fails_says : (turns : List Utterance) (role : Role) (rule : NetRule) (s : NetEndState) (memory : List ℕ) (reach : Reach) (cause : Cause) → NetFails role rule s memory reach cause None → SaysSo turns cause None
fails_says turns role (Fetches p activity) s memory reach cause fails =
    found_says turns (fetched s reach p.place) activity p.place cause (fetched_fits s reach p.place) fails.1
fails_says turns role rule s memory reach cause fails = grind arith

-- A RESET with one is for what the packet says
pub opened_is : (e : End) (u : NetLaneState) → (end_of e (lane_core u)).is_open ≡ is_some (net_end e u).session
opened_is e u = grind arith

module _ (shape : NetShape) (is : IsNetShape shape) (moves : List CoreEvent) (u t : NetLaneState) (run : Run CoreStep (fresh_net_core shape) moves (lane_core u)) (fits : BothFit u) (e : End) where
  abbrev turns : List Utterance
  turns = transcript_of e (transcript_behind moves)

  shut_says : (cause : Cause) (packet : List ℕ) → (net_end e u).session ≡ None → ResetsFor (end_of e (lane_core u)) turns cause (Some packet) → SaysSo turns cause (Some packet)
  shut_says cause packet none given = grind (arith, opened_is)

  carried_says : (cause : Cause) (packet : List ℕ) (lost : ℕ) (session : Option NetSession) → (net_end e u).session ≡ session → NetLaneStep u (Steps e (Reset cause (Some packet) lost)) t
      → SaysSo turns cause (Some packet)
  carried_says cause packet lost None none step =
      shut_says cause packet none
      (reset_says shape.entries (port_offer Initiator shape.address shape.slots) (port_offer Responder shape.address shape.slots) moves (lane_core u) e cause (Some packet) lost (lane_core t)
      (sizes_fit shape is) run
      (net_resets_own (role_at e) (port_rule (role_at e) (net_end e u) (seen_at e u)) (net_end e u) (memory_of e u) (reach_of e u) cause (Some packet) step.step.0)
      (event_core_step u (Steps e (Reset cause (Some packet) lost)) t fits step))
  carried_says cause packet lost (Some p) opened step =
      cause_said (own_cause (role_at e) (net_end e u) p (memory_of e u)) (net_end e u).handshake.draft.sid turns packet cause (own_rightly (role_at e) (net_end e u) p (memory_of e u))
      (fails_with shape moves u is run e p cause packet opened step.step.0)

  step_says : (cause : Cause) (packet : Option (List ℕ)) (lost : ℕ) → NetLaneStep u (Steps e (Reset cause packet lost)) t → SaysSo turns cause packet
  step_says cause None lost step =
      fails_says turns (role_at e) (port_rule (role_at e) (net_end e u) (seen_at e u)) (net_end e u) (memory_of e u) (reach_of e u) cause step.step.0
  step_says cause (Some packet) lost step = carried_says cause packet lost (net_end e u).session refl step

-- EACH EVENT
abbrev pub BothSay : TranscriptLog → WireEvent → Type 0
BothSay l event = WireResetAt l event × WireGapAt l event

event_says : (shape : NetShape) (is : IsNetShape shape) (events : List PortEvent) (s : PortState) (event : NetEvent) (t : PortState) → Run PortStep (fresh_port shape) events s
    → NetLaneStep (before event s).lane event t.lane → OfWire (BothSay (transcript_behind (port_events events))) (OnLane event)
event_says shape is events s (Steps e (Reset cause packet lost)) t run step =
    step_says shape is (port_events events) (before (Steps e (Reset cause packet lost)) s).lane t.lane
    (moves_before shape events s is run (Steps e (Reset cause packet lost)))
    (before_fits (Steps e (Reset cause packet lost)) s (port_fits_behind shape events s run)) e cause packet lost step
event_says shape is events s (Steps e (Published id)) t run step = tt
event_says shape is events s (Steps e (Frame frame)) t run step = tt
event_says shape is events s (CalmTick queued) t run step = tt
event_says shape is events s (Gives e given) t run step = tt
event_says shape is events s (Joins joining) t run step = tt
event_says shape is events s _ t run step = (tt, tt)

says_at : (shape : NetShape) (is : IsNetShape shape) (events : List PortEvent) (s : PortState) (event : PortEvent) (t : PortState) → Run PortStep (fresh_port shape) events s → PortStep s event t
    → OfWire (BothSay (log_of after (no_events shape) events).transcript) event
says_at shape is events s event t run step = grind (arith, spoken_behind, event_says)

-- ALONG EVERY RUN
if_wire : (P Q : WireEvent → Type 0) (event : PortEvent) → ((x : WireEvent) → P x → Q x) → OfWire P event → OfWire Q event
if_wire P Q event means holds = grind arith

pub port_resets_so : (May : TranscriptLog → WireEvent → Type 0) → ((l : TranscriptLog) (x : WireEvent) → BothSay l x → May l x)
    → (shape : NetShape) (events : List PortEvent) (s : PortState) → IsNetShape shape → Run PortStep (fresh_port shape) events s
    → Lawful (λ (l : PortLog) (event : PortEvent). OfWire (May l.transcript) event) after (no_events shape) events
port_resets_so May means shape events s is run =
    lawful_along shape (λ (l : PortLog) (event : PortEvent). OfWire (May l.transcript) event)
    (λ xs x event y ran step. if_wire _ _ event (means (log_of after (no_events shape) xs).transcript) (says_at shape is xs x event y ran step))
    events s run
