-- What always holds of the log of an end of a port by itself: the sessions that it opened begin with the open one, and each frame that it was
-- given is one. And the tables of a port stay.
use Rattle.std.proofs.Common.{◌≡◌, ℕ, zero, suc, ◌+◌, Bool, true, Option, Some, None, List, [], ◌∷◌, ◌++◌, length, drop, refl, sym, ap, ◌∙◌, arith, length-append}
use Rattle.std.specs.Prelude.{slice_get, ⊤}
use Rattle.std.proofs.lemmas.Bool.{and_parts, cases_lt, leb-true}
use Rattle.std.proofs.lemmas.Option.{slice_get_within}
use Rattle.ldc_queue.specs.declared.end.End.TheVariants.{A, B}
use Rattle.ldc_queue.specs.Transcript.{Utterance}
use Rattle.vnet_msg.specs.Frames.{IsFrame, is_frame_length}
use Rattle.lane_models.specs.Messages.{ended_by}
use Rattle.lane_models.specs.Sayings.{half_heard, half_said}
use Rattle.lane_models.specs.TranscriptLog.{transcript_of}
use Rattle.lane_models.specs.EndLog.{EndLog, OpenedLog, SessionLog, change, ends_log, gives_log, heard_in, heard_kind, more_published, more_taken, opens_log, published_in, said_in, said_kind}
use Rattle.lane_models.specs.NetEndStep.{Blocked, Frame, Given, Idle, NetAnswer, NetGives, Published, Sent, Took}
use Rattle.lane_models.specs.NetEndState.{NetEndState}
use Rattle.lane_models.specs.NetEvent.{Asked, Gives, NetEvent, Steps, Ticked}
use Rattle.lane_models.specs.NetLaneState.{NetLaneState, NetShape, fresh_table}
use Rattle.lane_models.specs.NetLaneStep.{NetLaneStep}
use Rattle.lane_models.specs.PortLog.{PortLog, after, after_answer, after_given, no_events}
use Rattle.lane_models.specs.PortState.{OnLane, Receives}
use Rattle.lane_models.specs.Spoken.{Spoken}
use Rattle.port_laws.proofs.RingMoves.{get_front}
use Rattle.port_laws.proofs.SessionsHeard.{get_last, get_more}

-- THE LAST SESSION that it opened is the open one
abbrev pub HeadIn : Option SessionLog → List OpenedLog → ℕ → Type 0
HeadIn None opened published = ⊤
HeadIn (Some v) [] published = ⊥
HeadIn (Some v) (one ∷ rest) published = (one.sid ≡ v.sid) × (one.published ≡ v.published) × (one.base + one.published ≡ published)

abbrev pub EachGiven : List (List ℕ) → Type 0
EachGiven given = (n : ℕ) (frame : List ℕ) → slice_get given n ≡ Some frame → IsFrame frame

pub record EndLogStands (l : EndLog) : Type 0 where
  pub head : HeadIn l.session l.opened l.published
  pub given : EachGiven l.given

pub record LogsStand (l : PortLog) : Type 0 where
  pub guest : EndLogStands l.guest
  pub hub : EndLogStands l.hub

-- a change of the open session
record SameHead (f : SessionLog → SessionLog) : Type 0 where
  sid : (v : SessionLog) → (f v).sid ≡ v.sid
  published : (v : SessionLog) → (f v).published ≡ v.published

head_change : (f : SessionLog → SessionLog) (log : Option SessionLog) (opened : List OpenedLog) (published : ℕ) → SameHead f → HeadIn log opened published → HeadIn (change f log) opened published
head_change f log opened published same head = grind arith

kind_sid : (k : Spoken) (slots : ℕ) (message : List ℕ) (v : SessionLog) → ((heard_kind slots k message v).sid ≡ v.sid) × ((heard_kind slots k message v).published ≡ v.published)
kind_sid k slots message v = grind arith

heard_same : (slots : ℕ) (ended : Option (List ℕ)) → SameHead (heard_in slots ended)
heard_same slots ended = grind (arith, kind_sid)

saying_sid : (k : Spoken) (message : List ℕ) (v : SessionLog) → ((said_kind k message v).sid ≡ v.sid) × ((said_kind k message v).published ≡ v.published)
saying_sid k message v = grind arith

said_same : (ended : Option (List ℕ)) → SameHead (said_in ended)
said_same ended = grind (arith, saying_sid)

opens_head : (opens : Bool) (sid : ℕ) (l : EndLog) → EndLogStands l → EndLogStands (opens_log opens sid l)
opens_head opens sid l stands = grind arith

publishes_head : (log : Option SessionLog) (opened : List OpenedLog) (published : ℕ) → HeadIn log opened published
    → HeadIn (change more_published log) (published_in opened) (published + 1)
publishes_head log opened published head = grind arith

answer_log : (slots : ℕ) (turns : List Utterance) (answer : NetAnswer) (l : EndLog) → EndLogStands l → EndLogStands (after_answer slots turns answer l)
answer_log slots turns (Took packet opens) l stands =
    opens_head opens _ _
    (record { head = head_change (heard_in slots (ended_by (half_heard turns) packet)) l.session l.opened l.published (heard_same slots (ended_by (half_heard turns) packet)) stands.head; given = stands.given })
answer_log slots turns (Sent packet opens) l stands =
    opens_head opens _ _
    (record { head = head_change (said_in (ended_by (half_said turns) packet)) l.session l.opened l.published (said_same (ended_by (half_said turns) packet)) stands.head; given = stands.given })
answer_log slots turns Blocked l stands = stands
answer_log slots turns Idle l stands = stands
answer_log slots turns (Published id) l stands = record { head = publishes_head l.session l.opened l.published stands.head; given = stands.given }
answer_log slots turns (Frame frame) l stands =
    record { head = head_change more_taken l.session l.opened l.published (record { sid = λ v. refl; published = λ v. refl }) stands.head; given = stands.given }
answer_log slots turns _ l stands = record { head = tt; given = stands.given }

-- A FRAME MORE
pub frame_of : (frame : List ℕ) → is_frame_length (length frame) ≡ true → IsFrame frame
frame_of frame is = grind (arith, and_parts, leb-true)

each_more : (given : List (List ℕ)) (frame : List ℕ) → EachGiven given → IsFrame frame → EachGiven (given ++ frame ∷ [])
each_more given frame each is n one get = grind (arith, slice_get_within, cases_lt, get_front, length-append, get_last)

gives_stands : (frame : List ℕ) (l : EndLog) → EndLogStands l → IsFrame frame → EndLogStands (gives_log frame l)
gives_stands frame l stands is = record { head = stands.head; given = each_more l.given frame stands.given is }

given_log : (s : NetEndState) (given : Given) (t : NetEndState) (l : EndLog) → NetGives s given t → EndLogStands l → EndLogStands (after_given given l)
given_log s given t l gives stands = grind (arith, gives_stands, frame_of)

ends_stands : (lost : ℕ) (l : EndLog) → EndLogStands l → EndLogStands (ends_log lost l)
ends_stands lost l stands = record { head = tt; given = stands.given }

-- AN EVENT
pub logs_event : (u : NetLaneState) (l : PortLog) (event : NetEvent) (t : NetLaneState) → NetLaneStep u event t → LogsStand l → LogsStand (after l (OnLane event))
logs_event u l (Steps A answer) t step stands = record { guest = answer_log l.shape.slots (transcript_of A l.transcript) answer l.guest stands.guest; hub = stands.hub }
logs_event u l (Steps B answer) t step stands = record { guest = stands.guest; hub = answer_log l.shape.slots (transcript_of B l.transcript) answer l.hub stands.hub }
logs_event u l (Asked A lost) t step stands = record { guest = ends_stands lost l.guest stands.guest; hub = stands.hub }
logs_event u l (Asked B lost) t step stands = record { guest = stands.guest; hub = ends_stands lost l.hub stands.hub }
logs_event u l (Ticked queued lost) t step stands = record { guest = ends_stands lost l.guest stands.guest; hub = stands.hub }
logs_event u l (Gives A given) t step stands = record { guest = given_log u.guest given t.guest l.guest step.0 stands.guest; hub = stands.hub }
logs_event u l (Gives B given) t step stands = record { guest = stands.guest; hub = given_log u.hub given t.hub l.hub step.0 stands.hub }
logs_event u l _ t step stands = record { guest = stands.guest; hub = stands.hub }

pub logs_received : (l : PortLog) (frame : List ℕ) → IsFrame frame → LogsStand l → LogsStand (after l (Receives frame))
logs_received l frame is stands = record { guest = stands.guest; hub = gives_stands frame l.hub stands.hub is }

-- WHAT AN END HOLDS was given
get_drop : (k : ℕ) (frames : List (List ℕ)) (n : ℕ) → slice_get (drop k frames) n ≡ slice_get frames (k + n)
get_drop zero frames n = let same : n ≡ 0 + n = omega arith in ap (slice_get frames) same
get_drop (suc k) [] n = refl
get_drop (suc k) (one ∷ frames) n = let next : suc k + n ≡ suc (k + n) = omega arith in get_drop k frames n ∙ sym (ap (slice_get (one ∷ frames)) next)

pub held_given : (frames queue given : List (List ℕ)) (gone n : ℕ) (frame : List ℕ) → frames ++ queue ≡ drop gone given → slice_get frames n ≡ Some frame → slice_get given (gone + n) ≡ Some frame
held_given frames queue given gone n frame is get = grind (arith, get_drop, get_more)

-- THE TABLES
pub record TablesStand (shape : NetShape) (s : NetLaneState) : Type 0 where
  pub guest : s.guest_table ≡ fresh_table shape
  pub hub : s.hub_table ≡ fresh_table shape

pub tables_event : (shape : NetShape) (u : NetLaneState) (event : NetEvent) (t : NetLaneState) → NetLaneStep u event t → TablesStand shape u → TablesStand shape t
tables_event shape u event t step = grind arith

pub fresh_logs : (shape : NetShape) → LogsStand (no_events shape)
fresh_logs shape = record { guest = record { head = tt; given = λ n frame get. absurd (cc get) }; hub = record { head = tt; given = λ n frame get. absurd (cc get) } }
