-- Where events of a port's frames may stand, after those before them, also where somebody forges packets and memory.
use Rattle.std.specs.Prelude.{◌≡◌, ◌≢◌, ◌⊎◌, ℕ, ◌+◌, ◌-◌, ◌%◌, ◌<◌, ◌≤◌, Bool, true, false, List, length, Option, Some, None, ⊤}
use Rattle.dring.specs.Slots.{done_state, ready_state}
use Rattle.ldc_queue.specs.declared.end.End.{End}
use Rattle.ldc_queue.specs.declared.end.End.TheVariants.{A, B}
use Rattle.vio_tag.specs.declared.cause.Cause.{Cause}
use Rattle.vio_tag.specs.declared.cause.Cause.TheVariants as the_cause
use Rattle.vnet_msg.specs.Frames.{IsFrame, is_frame_length}
use Rattle.lane_models.specs.HandshakeOrder.{HandshakeOrder}
use Rattle.lane_models.specs.Messages.{end_slot_of, ended_by, range_ended, range_in, seq_of, start_slot_of}
use Rattle.lane_models.specs.Ranges.{ring_active, ring_stopped, wrapped}
use Rattle.lane_models.specs.Sayings.{half_heard, half_said}
use Rattle.lane_models.specs.TranscriptLog.{TranscriptLog, hears, says, transcript_of}
use Rattle.lane_models.specs.WireAt.{IsUp}
use Rattle.lane_models.specs.EndLog.{EndLog, SessionLog, groups_fields, held, lost_in, range_of}
use Rattle.lane_models.specs.Groups.{is_in}
use Rattle.lane_models.specs.NetEndStep.{Already, BadLength, Frame, Full, Given, GroupsFull, Joined, Joining, Member, Published, Queued, Reset, Sent, Took}
use Rattle.lane_models.specs.NetEvent.{Asked, CalmTick, Gives, Joins, Steps, Ticked}
use Rattle.lane_models.specs.NetLaneState.{role_at}
use Rattle.lane_models.specs.PortLog.{PortLog, log_of_end}
use Rattle.lane_models.specs.PortState.{OnLane, PortEvent}
use Rattle.lane_models.specs.Spoken.{GroupsAck, GroupsInfo, GroupsNack, Spoken, count_of, set_of, spoken, state_of}

-- a session that is open; or where one is
abbrev pub InSession : Option SessionLog → (SessionLog → Type 0) → Type 0
InSession None Holds = ⊥
InSession (Some s) Holds = Holds s

abbrev pub IfSession : Option SessionLog → (SessionLog → Type 0) → Type 0
IfSession None Holds = ⊤
IfSession (Some s) Holds = Holds s

abbrev pub IfMessage : Option (List ℕ) → (List ℕ → Type 0) → Type 0
IfMessage None Holds = ⊤
IfMessage (Some message) Holds = Holds message

-- 1. WHAT COMES OF A FRAME that the script hands to the guest, of a group, and of a tick
abbrev pub Admits : PortLog → Given → Type 0
Admits l (BadLength frame) = is_frame_length (length frame) ≡ false
Admits l (Full frame) = (is_frame_length (length frame) ≡ true) × (held l.guest ≡ l.shape.slots)
Admits l (Queued id frame) = (is_frame_length (length frame) ≡ true) × (held l.guest < l.shape.slots) × (id ≡ length l.guest.given)

abbrev pub AdmissionAt : PortLog → PortEvent → Type 0
AdmissionAt l (OnLane (Gives A given)) = Admits l given
AdmissionAt l (OnLane (Gives B given)) = ⊥
AdmissionAt l _ = ⊤

abbrev pub MayJoin : (members : List (List ℕ)) → Joining → Type 0
MayJoin members (Already address) = is_in members address ≡ true
MayJoin members (GroupsFull address) = (is_in members address ≡ false) × (length members ≡ 7)
MayJoin members (Member address) = (is_in members address ≡ false) × (length members < 7)

abbrev pub JoiningAt : PortLog → PortEvent → Type 0
JoiningAt l (OnLane (Joins joining)) = MayJoin l.members joining
JoiningAt l _ = ⊤

-- the guest told all its groups in its session, and that was answered
abbrev pub ToldAll : PortLog → SessionLog → Type 0
ToldAll l s = (s.membership ≡ Some l.members) × (s.told ≡ true)

pub record IsFinished (l : PortLog) : Type 0 where
  pub told : InSession l.guest.session (ToldAll l)
  pub guest : held l.guest ≡ 0
  pub hub : held l.hub ≡ 0

abbrev pub TickAt : PortLog → PortEvent → Type 0
TickAt l (OnLane (Ticked queued lost)) = IsFinished l → ⊥
TickAt l (OnLane (CalmTick queued)) = IsFinished l
TickAt l _ = ⊤

-- 2. A SESSION OPENS in the order of the handshake
abbrev pub OpensInOrder : Bool → End → TranscriptLog → Type 0
OpensInOrder false e l = ⊤
OpensInOrder true e l = HandshakeOrder true (role_at e) (transcript_of e l)

abbrev pub OpeningsAt : PortLog → PortEvent → Type 0
OpeningsAt l (OnLane (Steps e (Sent packet opens))) = OpensInOrder opens e (says e packet l.transcript)
OpeningsAt l (OnLane (Steps e (Took packet opens))) = OpensInOrder opens e (hears e packet l.transcript)
OpeningsAt l _ = ⊤

-- only an end that is up publishes a frame, or takes one
abbrev pub WorksAt : PortLog → PortEvent → Type 0
WorksAt l (OnLane (Steps e (Published id))) = IsUp e l.wire.wire
WorksAt l (OnLane (Steps e (Frame frame))) = IsUp e l.wire.wire
WorksAt l _ = ⊤

-- 3. PUBLISHED frames are numbered over all sessions, and lost are those of a session that aren't acknowledged
pub record MayPublish (l : EndLog) (id : ℕ) : Type 0 where
  pub opened : l.session ≢ None
  pub next : id ≡ l.published
  pub given : id < length l.given

abbrev pub PublishedAt : PortLog → PortEvent → Type 0
PublishedAt l (OnLane (Steps e (Published id))) = MayPublish (log_of_end e l) id
PublishedAt l _ = ⊤

abbrev pub LostAt : PortLog → PortEvent → Type 0
LostAt l (OnLane (Steps e (Joined lost))) = lost ≡ lost_in (log_of_end e l).session
LostAt l (OnLane (Steps e (Reset cause packet lost))) = lost ≡ lost_in (log_of_end e l).session
LostAt l (OnLane (Asked e lost)) = lost ≡ lost_in (log_of_end e l).session
LostAt l (OnLane (Ticked queued lost)) = lost ≡ lost_in l.guest.session
LostAt l _ = ⊤

-- 4. AN INFO that an end says has the next number, and begins at the first frame that isn't acknowledged, of which
-- there is one; it took an ACK since the one before. No ACK that it takes goes beyond what is published.
pub record Announces (slots : ℕ) (s : SessionLog) (message : List ℕ) : Type 0 where
  pub next : seq_of message ≡ wrapped (s.infos + 1)
  pub begins : start_slot_of message ≡ s.seen % slots
  pub no_end : end_slot_of message ≡ 0xffffffff
  pub state : state_of message ≡ ring_active
  pub answered : s.asking ≡ false
  pub some : s.seen < s.published

abbrev pub AnnouncesAt : PortLog → PortEvent → Type 0
AnnouncesAt l (OnLane (Steps e (Sent packet opens))) =
    IfSession (log_of_end e l).session (λ (s : SessionLog).
    IfMessage (range_ended 1 (half_said (transcript_of e l.transcript)) packet) (Announces l.shape.slots s))
AnnouncesAt l _ = ⊤

abbrev pub SeesPublished : ℕ → SessionLog → List ℕ → Type 0
SeesPublished slots s message = s.seen + range_of slots message ≤ s.published

abbrev pub SeesAt : PortLog → PortEvent → Type 0
SeesAt l (OnLane (Steps e (Took packet opens))) =
    IfSession (log_of_end e l).session (λ (s : SessionLog).
    IfMessage (range_ended 2 (half_heard (transcript_of e l.transcript)) packet) (SeesPublished l.shape.slots s))
SeesAt l _ = ⊤

-- An INFO that an end takes has the next number, begins at the slot of the next frame, and names no end or a slot of the
-- ring; it answered the one before.
pub record Asks (slots : ℕ) (s : SessionLog) (message : List ℕ) : Type 0 where
  pub next : seq_of message ≡ wrapped (s.asked + 1)
  pub begins : start_slot_of message ≡ s.taken % slots
  pub ends : (end_slot_of message ≡ 0xffffffff) ⊎ (end_slot_of message < slots)
  pub rests : s.asked ≡ s.acks

abbrev pub AsksAt : PortLog → PortEvent → Type 0
AsksAt l (OnLane (Steps e (Took packet opens))) =
    IfSession (log_of_end e l).session (λ (s : SessionLog).
    IfMessage (range_ended 1 (half_heard (transcript_of e l.transcript)) packet) (Asks l.shape.slots s))
AsksAt l _ = ⊤

-- 5. A FRAME of 14 to 1,514 bytes is taken while an INFO that was taken isn't answered. The answer has the number of that
-- INFO, and names the slots of those that were taken since the answer before, of which there is one. A reset that a step gave without a packet comes then too, for a slot.
abbrev pub IsActive : SessionLog → Type 0
IsActive s = s.asked ≡ s.acks + 1

abbrev pub TakingAt : PortLog → PortEvent → Type 0
TakingAt l (OnLane (Steps e (Frame frame))) = IsFrame frame × InSession (log_of_end e l).session IsActive
TakingAt l _ = ⊤

pub record Acknowledges (slots : ℕ) (s : SessionLog) (message : List ℕ) : Type 0 where
  pub seq : seq_of message ≡ wrapped s.asked
  pub state : state_of message ≡ ring_stopped
  pub begins : start_slot_of message ≡ s.answered % slots
  pub ends : end_slot_of message ≡ (s.taken - 1) % slots
  pub some : s.answered < s.taken

abbrev pub AcknowledgesAt : PortLog → PortEvent → Type 0
AcknowledgesAt l (OnLane (Steps e (Sent packet opens))) =
    IfSession (log_of_end e l).session (λ (s : SessionLog).
    IfMessage (range_ended 2 (half_said (transcript_of e l.transcript)) packet) (Acknowledges l.shape.slots s))
AcknowledgesAt l _ = ⊤

abbrev pub SlotCause : (slots : ℕ) → Cause → SessionLog → Type 0
SlotCause slots (the_cause.NotReady slot state) s = (slot ≡ s.taken % slots) × (s.taken ≡ s.answered) × (state ≢ ready_state)
SlotCause slots (the_cause.Frame size count) s = (size < 14) ⊎ ((1514 < size) ⊎ ((count < 1) ⊎ (3 < count)))
SlotCause slots (the_cause.Copy fault) s = (1 ≤ fault) × (fault ≤ 6)
SlotCause slots _ s = ⊥

abbrev pub SlotResets : (slots : ℕ) → Cause → SessionLog → Type 0
SlotResets slots cause s = SlotCause slots cause s × IsActive s

abbrev pub OwnReset : (slots : ℕ) → EndLog → Cause → Option (List ℕ) → Type 0
OwnReset slots l cause None = InSession l.session (SlotResets slots cause)
OwnReset slots l cause (Some packet) = ⊤

abbrev pub OwnResetAt : PortLog → PortEvent → Type 0
OwnResetAt l (OnLane (Steps e (Reset cause packet lost))) = OwnReset l.shape.slots (log_of_end e l) cause packet
OwnResetAt l _ = ⊤

-- An ACK for which an end resets itself begins at its first frame that isn't acknowledged and goes no further than what is
-- published. It names the slot, which isn't DONE, by its place in that range.
pub record NamesUndone (slots slot state : ℕ) (s : SessionLog) (message : List ℕ) : Type 0 where
  pub begins : start_slot_of message ≡ s.seen % slots
  pub within : s.seen + range_of slots message ≤ s.published
  pub place : ℕ
  pub named : place < range_of slots message
  pub slot_is : slot ≡ (s.seen + place) % slots
  pub state_is : state ≢ done_state

abbrev pub SomeMessage : Option (List ℕ) → (List ℕ → Type 0) → Type 0
SomeMessage None Holds = ⊥
SomeMessage (Some message) Holds = Holds message

abbrev pub ended_in : List ℕ → Option (List ℕ) → Option (List ℕ)
ended_in half None = None
ended_in half (Some packet) = ended_by half packet

abbrev pub UndoneAt : PortLog → PortEvent → Type 0
UndoneAt l (OnLane (Steps e (Reset (the_cause.NotDone slot state) packet lost))) =
    InSession (log_of_end e l).session (λ (s : SessionLog).
    SomeMessage (range_in 2 (ended_in (half_heard (transcript_of e l.transcript)) packet)) (NamesUndone l.shape.slots slot state s))
UndoneAt l _ = ⊤

-- OF GROUPS an end says its own by set 1, seven at most; and the answer that it owes: the fields that it took, agreed to
-- exactly where a list came out
abbrev pub SpeaksOfGroups : Spoken → SessionLog → List ℕ → Type 0
SpeaksOfGroups GroupsInfo s message = (set_of message ≡ 1) × (count_of message ≤ 7)
SpeaksOfGroups GroupsAck s message = s.owed ≡ Some (groups_fields message)
SpeaksOfGroups GroupsNack s message = s.owed ≡ Some (groups_fields message)
SpeaksOfGroups _ s message = ⊤

abbrev pub GroupsSaidAt : PortLog → PortEvent → Type 0
GroupsSaidAt l (OnLane (Steps e (Sent packet opens))) =
    IfSession (log_of_end e l).session (λ (s : SessionLog).
    IfMessage (ended_by (half_said (transcript_of e l.transcript)) packet) (λ (message : List ℕ). SpeaksOfGroups (spoken message) s message))
GroupsSaidAt l _ = ⊤
