-- How an end of a port stands to the log of what happened to it. A message of its session that its link still holds counts
-- as said already: what the end notes of it changed as it was formed.
use Rattle.std.specs.Prelude.{◌≡◌, ℕ, ◌+◌, ◌-◌, ◌%◌, ◌<◌, ◌≤◌, Bool, true, false, is_none, is_some, List, [], ◌∷◌, ◌++◌, length, drop, Option, Some, None, ⊤}
use Rattle.std.specs.List.{AllByRecursion}
use Rattle.ldc_link.specs.declared.phase.Role.{Role}
use Rattle.ldc_link.specs.declared.phase.Role.TheVariants.{Initiator, Responder}
use Rattle.ldc_packet.specs.declared.packet.Subtype.{Subtype}
use Rattle.ldc_packet.specs.declared.packet.Subtype.TheVariants.{Ack, Info, Nack}
use Rattle.ldc_packet.specs.Spelling.{subtype_code}
use Rattle.lane_models.specs.Ranges.{wrapped}
use Rattle.lane_models.specs.EndLog.{EndLog, GroupsFields, SessionLog, said_in}
use Rattle.lane_models.specs.FrameLaws.{Acknowledges, Announces, SpeaksOfGroups}
use Rattle.lane_models.specs.NetEndState.{Activity, GroupsReply, NetEndState, NetSession}
use Rattle.lane_models.specs.Spoken.{GroupsAck, GroupsInfo, GroupsNack, Other, RangeAck, RangeInfo, Spoken, spoken}

-- the message of its session that its link holds, if it holds one
abbrev pub left_of : (own : Bool) → List ℕ → Option (List ℕ)
left_of true (byte ∷ bytes) = Some (byte ∷ bytes)
left_of true [] = None
left_of false bytes = None

abbrev pub unsaid : NetEndState → Option (List ℕ)
unsaid s = left_of (is_none s.handshake.owed) s.link.to_send

-- ITS OWN RING. All frames that were published before the session are gone.
pub record RingCounts (p : NetSession) (published gone : ℕ) (v : SessionLog) : Type 0 where
  pub all : published ≡ p.base + p.published
  pub left : gone ≡ p.base + p.seen
  pub here : v.published ≡ p.published
  pub seen : v.seen ≡ p.seen
  pub infos : v.infos ≡ p.infos
  pub asking : v.asking ≡ p.asking

-- THE PEER'S RING, and the INFO that isn't answered
abbrev pub LastCounts : ℕ → SessionLog → Option ℕ → Type 0
LastCounts slots v None = v.answered ≡ v.taken
LastCounts slots v (Some last) = (v.answered < v.taken) × (last ≡ (v.taken - 1) % slots)

abbrev pub ActiveCounts : ℕ → SessionLog → Option Activity → Type 0
ActiveCounts slots v None = (v.asked ≡ v.acks) × (v.answered ≡ v.taken)
ActiveCounts slots v (Some activity) =
    (v.asked ≡ v.acks + 1) × (activity.start ≡ v.answered % slots) × LastCounts slots v activity.last × (activity.seq ≡ wrapped v.asked)

pub record PeerCounts (slots : ℕ) (p : NetSession) (v : SessionLog) : Type 0 where
  pub seq : p.seq ≡ wrapped (v.asked + 1)
  pub place : p.place ≡ v.taken % slots
  pub active : ActiveCounts slots v p.active

-- A GUEST'S GROUPS: what it told is its list, or was shorter
abbrev pub IsBehind : Option (List (List ℕ)) → List (List ℕ) → Type 0
IsBehind None groups = ⊤
IsBehind (Some told) groups = length told < length groups

pub record GroupCounts (p : NetSession) (groups : List (List ℕ)) (v : SessionLog) : Type 0 where
  pub named : p.untold ≡ false → v.membership ≡ Some groups
  pub behind : p.untold ≡ true → IsBehind v.membership groups
  pub waits : p.telling ≡ true → (v.told ≡ false) × (is_some v.membership ≡ true)
  pub answered : p.telling ≡ false → p.untold ≡ false → v.told ≡ true

-- the switch's end has the list that it was told
abbrev pub GuestCounts : Role → NetSession → List (List ℕ) → SessionLog → Type 0
GuestCounts Initiator p groups v = GroupCounts p groups v
GuestCounts Responder p groups v = groups ≡ v.groups

-- and without a session none
abbrev pub NoneTold : Role → List (List ℕ) → Type 0
NoneTold Initiator groups = ⊤
NoneTold Responder groups = groups ≡ []

-- WHAT THE LINK HOLDS of the session is right to say as the log stands, and takes one packet
abbrev pub SaysRightly : ℕ → List (List ℕ) → SessionLog → List ℕ → Spoken → Type 0
SaysRightly slots groups s message RangeInfo = Announces slots s message
SaysRightly slots groups s message RangeAck = Acknowledges slots s message
SaysRightly slots groups s message GroupsInfo = IsBehind s.membership groups × SpeaksOfGroups GroupsInfo s message
SaysRightly slots groups s message GroupsAck = SpeaksOfGroups GroupsAck s message
SaysRightly slots groups s message GroupsNack = SpeaksOfGroups GroupsNack s message
SaysRightly slots groups s message Other = ⊤

pub record HoldsRightly (slots : ℕ) (groups : List (List ℕ)) (begun : Bool) (s : SessionLog) (message : List ℕ) : Type 0 where
  pub whole : begun ≡ false
  pub short : length message ≤ 56
  pub right : SaysRightly slots groups s message (spoken message)

abbrev pub UnsaidRight : ℕ → List (List ℕ) → Bool → SessionLog → Option (List ℕ) → Type 0
UnsaidRight slots groups begun s None = ⊤
UnsaidRight slots groups begun s (Some message) = HoldsRightly slots groups begun s message

-- an answer to groups that the end owes is none of its own MCAST_INFO
abbrev pub IsAnswer : Subtype → Type 0
IsAnswer Info = ⊥
IsAnswer Ack = ⊤
IsAnswer Nack = ⊤

abbrev pub reply_fields : GroupsReply → GroupsFields
reply_fields reply = record { subtype = subtype_code reply.subtype; set = reply.set % 256; count = reply.count % 256; seven = reply.addresses }

pub record AnswersFor (reply : GroupsReply) (owed : Option GroupsFields) : Type 0 where
  pub answer : IsAnswer reply.subtype
  pub few : length reply.addresses ≡ 7
  pub long : AllByRecursion (λ (address : List ℕ). length address ≡ 6) reply.addresses
  pub fields : owed ≡ Some (reply_fields reply)

abbrev pub AnswersRightly : Option GroupsReply → Option GroupsFields → Type 0
AnswersRightly None owed = owed ≡ None
AnswersRightly (Some reply) owed = AnswersFor reply owed

-- AN OPEN SESSION
pub record SessionCounts (role : Role) (slots : ℕ) (groups : List (List ℕ)) (published gone : ℕ) (left : Option (List ℕ)) (begun : Bool) (p : NetSession)
    (s : SessionLog) : Type 0 where
  pub right : UnsaidRight slots groups begun s left
  pub ring : RingCounts p published gone (said_in left s)
  pub peer : PeerCounts slots p (said_in left s)
  pub guest : GuestCounts role p groups (said_in left s)
  pub reply : AnswersRightly p.reply (said_in left s).owed

-- without one, all that was published is gone, and the switch's end knows no groups
abbrev pub Counts : Role → ℕ → List (List ℕ) → ℕ → ℕ → Option (List ℕ) → Bool → Option NetSession → Option SessionLog → Type 0
Counts role slots groups published gone left begun None None = (published ≡ gone) × NoneTold role groups
Counts role slots groups published gone left begun (Some p) (Some s) = SessionCounts role slots groups published gone left begun p s
Counts role slots groups published gone left begun _ _ = ⊥

-- a guest has at most seven groups, each an address of 6 bytes
abbrev pub AreAddresses : List (List ℕ) → Type 0
AreAddresses [] = ⊤
AreAddresses (address ∷ addresses) = (length address ≡ 6) × AreAddresses addresses

pub record AreGroups (groups : List (List ℕ)) : Type 0 where
  pub few : length groups ≤ 7
  pub addresses : AreAddresses groups

abbrev pub GuestGroups : Role → List (List ℕ) → Type 0
GuestGroups Initiator groups = AreGroups groups
GuestGroups Responder groups = ⊤

-- THE END. The frames that it holds, and behind them those in the queue, are those that were given and aren't gone.
pub record EndCounts (role : Role) (slots : ℕ) (queue : List (List ℕ)) (s : NetEndState) (l : EndLog) : Type 0 where
  pub slots_is : s.slots ≡ slots
  pub frames : s.frames ++ queue ≡ drop l.gone l.given
  pub gone : l.gone ≤ length l.given
  pub ids : s.next_id + length queue ≡ length l.given
  pub groups : GuestGroups role s.groups
  pub session : Counts role slots s.groups l.published l.gone (unsaid s) s.link.begun s.session l.session
