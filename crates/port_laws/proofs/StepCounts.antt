-- A step of an end is counted by its log as the end counts it, and stands where its laws let it.
use Rattle.std.proofs.Common.{◌≡◌, ℕ, ◌+◌, ◌<◌, Bool, true, Option, Some, List, [], refl, sym, subst, arith}
use Rattle.std.proofs.Math.Nat.{mod-add-mod}
use Rattle.ldc_link.specs.Calls.{Puts as PutsPacket}
use Rattle.ldc_link.specs.declared.phase.Role.{Role}
use Rattle.ldc_link.specs.Putting.{behind_put}
use Rattle.ldc_queue.specs.Transcript.{Utterance}
use Rattle.vio_handshake.specs.declared.handshake.Phase.{Phase}
use Rattle.lane_models.specs.Messages.{ended_by, opening_sid}
use Rattle.lane_models.specs.Sayings.{half_heard, half_said}
use Rattle.lane_models.specs.Seeing.{Seen}
use Rattle.cookie_copy.specs.Faults.{is_up}
use Rattle.cookie_copy.specs.Reach.{Reach}
use Rattle.lane_models.proofs.EndCases.{PutWhat, end_put}
use Rattle.lane_models.proofs.EndResting.{held_handshake}
use Rattle.lane_models.proofs.EndStanding.{stands_step}
use Rattle.lane_models.specs.EndCore.{Waits}
use Rattle.lane_models.specs.Grounds.{has_named}
use Rattle.lane_models.specs.Standing.{EndStands, is_open_in}
use Rattle.vio_handshake.specs.declared.handshake.Handshake.{Handshake}
use Rattle.lane_models.proofs.Refuting.{false_true}
use Rattle.lane_models.proofs.Ruling.{says_of}
use Rattle.lane_models.specs.EndLog.{EndLog, SessionLog, ends_log, publishes_log, takes_log}
use Rattle.lane_models.specs.FramesStand.{CountsStand, FramesStand}
use Rattle.lane_models.specs.NetEndPutting.{net_opens, net_put}
use Rattle.lane_models.specs.NetEndRule.{Fetches, Publishes, Takes, port_rule}
use Rattle.lane_models.specs.NetEndState.{Activity, NetEndState, NetSession, joined_net_end, unseen}
use Rattle.lane_models.specs.NetEndStep.{Blocked, Frame, Idle, Joined, NetAnswer, NetEndStep, NetLeft, NetSends, Published, Reset, Sent, Took, published, taken}
use Rattle.lane_models.specs.PortLog.{after_answer}
use Rattle.lane_models.specs.RuleFacts.{IfOpen}
use Rattle.port_laws.specs.Counted.{EndCounts, GuestGroups, LastCounts}
use Rattle.port_laws.specs.NetCore.{net_core}
use Rattle.port_laws.specs.NetFits.{NetFits}
use Rattle.port_laws.proofs.EndCounting.{empty_unsaid, frames_leave, gone_within, guest_same, open_counts, shut_counts, open_empty}
use Rattle.port_laws.proofs.EndMoves.{HeldCore, held_core, puts_behind, says_core, waits_core}
use Rattle.lane_models.proofs.HandshakeFitting.{same_fits}
use Rattle.lane_models.specs.HandshakeFits.{HandshakeFits}
use Rattle.lane_models.specs.Offers.{port_offer}
use Rattle.port_laws.proofs.HeldCounts.{SlotsFit, held_counts}
use Rattle.port_laws.proofs.OwedSays.{OwesNoGroups}
use Rattle.port_laws.proofs.PutCounts.{PutCounts, SaidRight, put_counts}
use Rattle.port_laws.proofs.TookCounts.{TookCounts, free_empty, session_open, took_counts}
use Rattle.port_laws.proofs.LaneMoves.{holds_up}

-- WHAT IS KNOWN of an end that makes a step
pub record Acting (role : Role) (slots : ℕ) (queue : List (List ℕ)) (s : NetEndState) (l : EndLog) (turns : List Utterance) : Type 0 where
  pub counts : EndCounts role slots queue s l
  pub stands : FramesStand s
  pub fits : NetFits role s
  pub ends : EndStands role (net_core role s) turns
  pub keeps : HandshakeFits role (port_offer role s.address s.slots) s.handshake
  pub owes : OwesNoGroups s.handshake.owed
  pub slots_fit : SlotsFit slots

pub counts_stand : (s : NetEndState) (p : NetSession) → FramesStand s → s.session ≡ Some p → CountsStand s p
counts_stand s p stands is = subst (λ (x : Option NetSession). IfOpen x (CountsStand s)) is stands.session

-- IT BEGINS ANEW, and frames that are published and not acknowledged are lost
kept : (role : Role) (s : NetEndState) → GuestGroups role s.groups → GuestGroups role (joined_net_end role s).groups
kept role s groups = grind arith

pub begins_counts : (role : Role) (slots : ℕ) (queue : List (List ℕ)) (s : NetEndState) (l : EndLog) (lost : ℕ) → EndCounts role slots queue s l → FramesStand s → lost ≡ unseen s.session
    → EndCounts role slots queue (joined_net_end role s) (ends_log lost l)
begins_counts role slots queue s l lost counts stands is =
    grind (arith, shut_counts, open_counts, counts_stand, frames_leave, gone_within, kept)

-- IT PUTS
sent_counts : (role : Role) (slots : ℕ) (queue : List (List ℕ)) (s : NetEndState) (l : EndLog) (turns : List Utterance) (at : Seen) (memory : List ℕ) (reach : Reach) (packet : List ℕ) (opens : Bool)
    (t : NetLeft) (sid : ℕ) → Acting role slots queue s l turns → (step : NetSends role s at memory reach packet opens t) → PutCounts role slots queue step.held t.end l turns packet opens sid
sent_counts role slots queue s l turns at memory reach packet opens t sid acting step =
    let held : NetEndState = step.held in
    let core : HeldCore role s held = held_core role s at reach (port_rule role s at) held acting.fits refl step.holds in
    let puts : PutsPacket held.link packet (behind_put held.link) =
    subst (PutsPacket held.link packet) (puts_behind held.link packet t.end.link step.packet) step.packet in
    let held_stands : EndStands role (net_core role held) turns =
    stands_step role (net_core role s) Waits (net_core role held) turns acting.ends (waits_core role s held core) in
    let counts : EndCounts role slots queue held l =
    held_counts role slots queue s l at reach (port_rule role s at) held
    (record { counts = acting.counts; fits = acting.fits; slots_fit = acting.slots_fit; empty = λ quiet. free_empty role s turns acting.ends quiet }) refl step.holds in
    let same = held_handshake (net_core role s) (net_core role held) core.what core.holds in
    let keeps = same_fits role (port_offer role s.address s.slots) s.handshake held.handshake acting.keeps same in
    let none : OwesNoGroups held.handshake.owed = subst (λ (h : Handshake). OwesNoGroups h.owed) (sym same) acting.owes in
    let what : PutWhat role (net_core role held) turns packet (net_opens held) (net_core role (net_put role held)) =
    end_put role (net_core role s) (net_core role (net_put role held)) turns packet (net_opens held) (says_core role s held packet core puts) held_stands in
    let here : PutCounts role slots queue held (net_put role held) l turns packet (net_opens held) sid = put_counts role slots queue held l turns packet sid counts held_stands keeps.owed none what in
    grind arith

-- IT PUBLISHES
published_counts : (role : Role) (slots : ℕ) (queue : List (List ℕ)) (s : NetEndState) (l : EndLog) (p : NetSession) → EndCounts role slots queue s l → s.session ≡ Some p → s.link.to_send ≡ []
    → EndCounts role slots queue (record s { session = Some (published p) }) (publishes_log l)
published_counts role slots queue s l p counts is empty = grind (arith, empty_unsaid, open_empty, guest_same)

-- IT TAKES A FRAME
last_before : (slots : ℕ) (v : SessionLog) (last : Option ℕ) → LastCounts slots v last → v.answered < v.taken + 1
last_before slots v last is = grind arith

frame_counts : (role : Role) (slots : ℕ) (queue : List (List ℕ)) (s : NetEndState) (l : EndLog) (p : NetSession) (activity : Activity) (frame : List ℕ) → EndCounts role slots queue s l → s.session ≡ Some p
    → p.active ≡ Some activity → s.handshake.draft.peer_slots ≡ slots → s.link.to_send ≡ [] → EndCounts role slots queue (record s { session = Some (taken s p activity); last = frame }) (takes_log l)
frame_counts role slots queue s l p activity frame counts is active peer empty =
    grind (arith, empty_unsaid, open_empty, mod-add-mod, last_before, guest_same)

-- in session it knows as many slots of the peer's ring as its own has
named_open : (role : Role) (ph : Phase) → is_open_in ph ≡ true → has_named role ph ≡ true
named_open role ph is = grind (arith, false_true)

pub peer_slots_known : (role : Role) (slots : ℕ) (queue : List (List ℕ)) (s : NetEndState) (l : EndLog) (turns : List Utterance) (p : NetSession) → Acting role slots queue s l turns → s.session ≡ Some p
    → s.handshake.draft.peer_slots ≡ slots
peer_slots_known role slots queue s l turns p acting is = grind (arith, named_open, session_open)

-- IT IS UP where it puts, and takes what waits
pub took_here : (role : Role) (slots : ℕ) (queue : List (List ℕ)) (s : NetEndState) (l : EndLog) (turns : List Utterance) (at : Seen) (memory : List ℕ) (reach : Reach) (packet : List ℕ) (opens : Bool)
    (t : NetLeft) (sid : ℕ) → Acting role slots queue s l turns → NetEndStep role s at memory reach (Took packet opens) t → TookCounts role slots queue s t.end l turns packet opens sid
took_here role slots queue s l turns at memory reach packet opens t sid acting step =
    let says = says_of role s at (Takes packet) step.0 in
    took_counts role slots queue s t.end l turns memory packet opens t.own sid
    (record { counts = acting.counts; stands = acting.stands; ends = acting.ends; quiet = says.0.quiet; listens = says.2 }) step.1

-- A STEP
abbrev LeftCounts : Role → ℕ → List (List ℕ) → EndLog → NetLeft → Type 0
LeftCounts role slots queue l left = EndCounts role slots queue left.end l

pub step_counts : (role : Role) (slots : ℕ) (queue : List (List ℕ)) (s : NetEndState) (l : EndLog) (turns : List Utterance) (at : Seen) (memory : List ℕ) (reach : Reach) (answer : NetAnswer) (t : NetLeft)
    → EndCounts role slots queue s l → FramesStand s → (is_up at.state ≡ true → Acting role slots queue s l turns) → NetEndStep role s at memory reach answer t
    → EndCounts role slots queue t.end (after_answer slots turns answer l)
step_counts role slots queue s l turns at memory reach (Joined lost) t counts stands acts step =
    subst (LeftCounts role slots queue (ends_log lost l)) (sym step.2) (begins_counts role slots queue s l lost counts stands step.1)
step_counts role slots queue s l turns at memory reach (Took packet opens) t counts stands acts step =
    (took_here role slots queue s l turns at memory reach packet opens t (opening_sid (half_heard turns) packet) (acts (says_of role s at (Takes packet) step.0).0.up) step).counts
step_counts role slots queue s l turns at memory reach (Sent packet opens) t counts stands acts step =
    (sent_counts role slots queue s l turns at memory reach packet opens t (opening_sid (half_said turns) packet)
    (acts (holds_up role s at reach (port_rule role s at) step.held refl step.holds)) step).counts
step_counts role slots queue s l turns at memory reach Blocked t counts stands acts step =
    let acting : Acting role slots queue s l turns = acts (holds_up role s at reach (port_rule role s at) t.end refl step.0) in
    held_counts role slots queue s l at reach (port_rule role s at) t.end
    (record { counts = acting.counts; fits = acting.fits; slots_fit = acting.slots_fit; empty = λ quiet. free_empty role s turns acting.ends quiet }) refl step.0
step_counts role slots queue s l turns at memory reach Idle t counts stands acts step = subst (LeftCounts role slots queue l) (sym step.1) counts
step_counts role slots queue s l turns at memory reach (Published id) t counts stands acts step =
    let says = says_of role s at (Publishes step.session step.frame) step.rule in
    grind (arith, published_counts, free_empty)
step_counts role slots queue s l turns at memory reach (Frame frame) t counts stands acts step =
    let says = says_of role s at (Fetches step.session step.activity) step.rule in
    let acting : Acting role slots queue s l turns = acts says.0.free.up in
    subst (LeftCounts role slots queue (takes_log l)) (sym step.is)
    (frame_counts role slots queue s l step.session step.activity frame acting.counts says.0.session says.1 (peer_slots_known role slots queue s l turns step.session acting says.0.session)
    (free_empty role s turns acting.ends says.0.free.quiet))
step_counts role slots queue s l turns at memory reach (Reset cause packet lost) t counts stands acts step =
    subst (LeftCounts role slots queue (ends_log lost l)) (sym step.2) (begins_counts role slots queue s l lost counts stands step.1)

-- what a packet ends that was put
pub sent_right : (role : Role) (slots : ℕ) (queue : List (List ℕ)) (s : NetEndState) (l : EndLog) (turns : List Utterance) (at : Seen) (memory : List ℕ) (reach : Reach) (packet : List ℕ) (opens : Bool)
    (t : NetLeft) → Acting role slots queue s l turns → (step : NetSends role s at memory reach packet opens t) → SaidRight slots step.held.groups l (ended_by (half_said turns) packet)
sent_right role slots queue s l turns at memory reach packet opens t acting step =
    (sent_counts role slots queue s l turns at memory reach packet opens t 0 acting step).right
