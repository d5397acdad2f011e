-- What is on the way between the two ends of a port that nobody forged, while the guest is in session: of what each end said and the other
-- hasn't heard, the DRING_DATA INFO and ACK. At most one INFO of an end isn't answered: it is on the way, or in work, or its ACK is on the
-- way.
use Rattle.std.specs.Prelude.{◌≡◌, ◌≢◌, ℕ, ◌+◌, ◌-◌, ◌%◌, ◌<◌, true, false, List, [], ◌∷◌, ◌++◌, Option, Some, None}
use Rattle.ldc_queue.specs.declared.end.End.TheVariants.{A, B}
use Rattle.lane_models.specs.Messages.{end_slot_of, seq_of, start_slot_of}
use Rattle.lane_models.specs.Ranges.{wrapped}
use Rattle.lane_models.specs.Sayings.{heard, said}
use Rattle.lane_models.specs.WireAt.{IsUp}
use Rattle.lane_models.specs.EndLog.{SessionLog, opened_log}
use Rattle.lane_models.specs.NetLaneState.{NetLaneState}
use Rattle.lane_models.specs.PortLog.{PortLog}
use Rattle.lane_models.specs.Spoken.{RangeAck, RangeInfo, Spoken, spoken}

-- the INFO and the ACK among messages
abbrev pub info_first : Spoken → List ℕ → List (List ℕ) → List (List ℕ)
info_first RangeInfo message rest = message ∷ rest
info_first _ message rest = rest

abbrev pub infos_in : List (List ℕ) → List (List ℕ)
infos_in [] = []
infos_in (message ∷ messages) = info_first (spoken message) message (infos_in messages)

abbrev pub ack_first : Spoken → List ℕ → List (List ℕ) → List (List ℕ)
ack_first RangeAck message rest = message ∷ rest
ack_first _ message rest = rest

abbrev pub acks_in : List (List ℕ) → List (List ℕ)
acks_in [] = []
acks_in (message ∷ messages) = ack_first (spoken message) message (acks_in messages)

-- ONE DIRECTION: of the end whose frames they are, and of the end that takes them. Nothing is on the way; an INFO, with its number and its
-- first slot; nothing, and the end that heard it works on it; or its ACK, with the slots of the frames that were taken.
pub data Way (slots : ℕ) (v w : SessionLog) (infos acks : List (List ℕ)) : Type 0 where
  Rests : v.asking ≡ false → w.asked ≡ v.infos → w.acks ≡ v.infos → w.answered ≡ v.seen → w.taken ≡ v.seen → infos ≡ [] → acks ≡ [] → Way slots v w infos acks
  Goes : (info : List ℕ) → v.asking ≡ true → w.asked + 1 ≡ v.infos → w.acks ≡ w.asked → w.answered ≡ v.seen → w.taken ≡ v.seen → infos ≡ info ∷ [] → seq_of info ≡ wrapped v.infos
      → start_slot_of info ≡ v.seen % slots → end_slot_of info ≡ 0xffffffff → acks ≡ [] → Way slots v w infos acks
  Works : v.asking ≡ true → w.asked ≡ v.infos → w.asked ≡ w.acks + 1 → w.answered ≡ v.seen → infos ≡ [] → acks ≡ [] → Way slots v w infos acks
  Comes : (ack : List ℕ) → v.asking ≡ true → w.asked ≡ v.infos → w.acks ≡ w.asked → w.answered ≡ w.taken → v.seen < w.taken → infos ≡ [] → acks ≡ ack ∷ []
      → start_slot_of ack ≡ v.seen % slots → end_slot_of ack ≡ (w.taken - 1) % slots → Way slots v w infos acks

-- a session that isn't open yet counts as one that opens
abbrev pub or_new : Option SessionLog → SessionLog
or_new None = opened_log 0
or_new (Some v) = v

-- BOTH DIRECTIONS, between an end and its peer, by what they said and heard
pub record Ways (slots : ℕ) (said_mine heard_mine said_theirs heard_theirs : List (List ℕ)) (v w : SessionLog) : Type 0 where
  pub going : List (List ℕ)
  pub coming : List (List ℕ)
  pub goes : said_mine ≡ heard_theirs ++ going
  pub comes : said_theirs ≡ heard_mine ++ coming
  pub mine : Way slots v w (infos_in going) (acks_in coming)
  pub theirs : Way slots w v (infos_in coming) (acks_in going)

abbrev pub WaysStand : NetLaneState → PortLog → Type 0
WaysStand s l =
    IsUp A s.wire.wire → IsUp B s.wire.wire → l.guest.session ≢ None
    → Ways l.shape.slots (said l.transcript.a) (heard l.transcript.a) (said l.transcript.b) (heard l.transcript.b) (or_new l.guest.session) (or_new l.hub.session)
