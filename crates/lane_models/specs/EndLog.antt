-- What happened to an end of a port: the frames that it was given, and its sessions, counted without bound.
use Rattle.std.specs.Prelude.{ℕ, ◌+◌, ◌-◌, ◌%◌, Bool, true, false, List, [], ◌∷◌, ◌++◌, length, Option, Some, None}
use Rattle.lane_models.specs.Messages.{end_slot_of, start_slot_of, subtype_of}
use Rattle.dring.specs.Slots.{range_length}
use Rattle.lane_models.specs.Groups.{groups_after}
use Rattle.lane_models.specs.Spoken.{GroupsAck, GroupsInfo, GroupsNack, Other, RangeAck, RangeInfo, Spoken, addresses_of, count_of, set_of, seven_of, spoken}

-- what an MCAST_INFO says: its subtype, 1 INFO, 2 ACK, 4 NACK; its set and its count, each one byte; its seven addresses
pub record GroupsFields : Type 0 where
  pub subtype : ℕ
  pub set : ℕ
  pub count : ℕ
  pub seven : List (List ℕ)

abbrev pub groups_fields : List ℕ → GroupsFields
groups_fields message =
    record { subtype = subtype_of message; set = set_of message % 256; count = count_of message % 256; seven = seven_of message }

-- the open session
pub record SessionLog : Type 0 where
  pub sid : ℕ
  -- how many frames it published in it; how many the ACK named that it took
  pub published : ℕ
  pub seen : ℕ
  -- the INFO that it said, and that it took no ACK behind the last one
  pub infos : ℕ
  pub asking : Bool
  -- the INFO that it took, and the ACK that it said
  pub asked : ℕ
  pub acks : ℕ
  -- the frames that it took, and those of them up to its last ACK
  pub taken : ℕ
  pub answered : ℕ
  -- the addresses of the last MCAST_INFO that it said, and that it was answered
  pub membership : Option (List (List ℕ))
  pub told : Bool
  -- the list that it was told, and the answer that it owes to the MCAST_INFO that it took
  pub groups : List (List ℕ)
  pub owed : Option GroupsFields

-- a session that it opened: its sid, how many frames it had published before, and how many it published in it
pub record OpenedLog : Type 0 where
  pub sid : ℕ
  pub base : ℕ
  pub published : ℕ

pub record EndLog : Type 0 where
  pub given : List (List ℕ)
  -- how many it published in all its sessions; how many are acknowledged or lost
  pub published : ℕ
  pub gone : ℕ
  pub session : Option SessionLog
  -- newest first
  pub opened : List OpenedLog

abbrev pub no_frames : EndLog
no_frames = record { given = []; published = 0; gone = 0; session = None; opened = [] }

-- HELD, and lost by a join or a reset
abbrev pub held : EndLog → ℕ
held l = length l.given - l.gone

abbrev pub lost_in : Option SessionLog → ℕ
lost_in None = 0
lost_in (Some s) = s.published - s.seen

abbrev pub opened_log : ℕ → SessionLog
opened_log sid = record {
  sid = sid;
  published = 0;
  seen = 0;
  infos = 0;
  asking = false;
  asked = 0;
  acks = 0;
  taken = 0;
  answered = 0;
  membership = None;
  told = false;
  groups = [];
  owed = None;
}

-- THE SESSION after a message that was said whole, and after one that was heard
abbrev pub said_kind : Spoken → List ℕ → SessionLog → SessionLog
said_kind RangeInfo message s = record s { infos = s.infos + 1; asking = true }
said_kind RangeAck message s = record s { acks = s.acks + 1; answered = s.taken }
said_kind GroupsInfo message s = record s { membership = Some (addresses_of message); told = false }
said_kind GroupsAck message s = record s { owed = None }
said_kind GroupsNack message s = record s { owed = None }
said_kind Other message s = s

abbrev pub list_after : Option (List (List ℕ)) → List (List ℕ) → List (List ℕ)
list_after None groups = groups
list_after (Some behind) groups = behind

-- the same fields, agreed to where the list comes out
abbrev pub answer_code : Option (List (List ℕ)) → ℕ
answer_code None = 4
answer_code (Some behind) = 2

abbrev pub answer_to : List ℕ → Option (List (List ℕ)) → GroupsFields
answer_to message behind = record (groups_fields message) { subtype = answer_code behind }

abbrev pub hears_groups : List ℕ → Option (List (List ℕ)) → SessionLog → SessionLog
hears_groups message behind s = record s { groups = list_after behind s.groups; owed = Some (answer_to message behind) }

abbrev pub range_of : ℕ → List ℕ → ℕ
range_of slots message = range_length slots (start_slot_of message) (end_slot_of message)

abbrev pub heard_kind : ℕ → Spoken → List ℕ → SessionLog → SessionLog
heard_kind slots RangeInfo message s = record s { asked = s.asked + 1 }
heard_kind slots RangeAck message s = record s { seen = s.seen + range_of slots message; asking = false }
heard_kind slots GroupsInfo message s =
    hears_groups message (groups_after (set_of message) (count_of message) (seven_of message) s.groups) s
heard_kind slots GroupsAck message s = record s { told = true }
heard_kind slots GroupsNack message s = s
heard_kind slots Other message s = s

abbrev pub said_in : Option (List ℕ) → SessionLog → SessionLog
said_in None s = s
said_in (Some message) s = said_kind (spoken message) message s

abbrev pub heard_in : ℕ → Option (List ℕ) → SessionLog → SessionLog
heard_in slots None s = s
heard_in slots (Some message) s = heard_kind slots (spoken message) message s

-- the frames that the message lets go, in a session
abbrev pub acked_by : ℕ → Spoken → List ℕ → ℕ
acked_by slots RangeAck message = range_of slots message
acked_by slots _ message = 0

abbrev pub acked_in : ℕ → Option (List ℕ) → Option SessionLog → ℕ
acked_in slots (Some message) (Some s) = acked_by slots (spoken message) message
acked_in slots _ _ = 0

-- THE END, whose open session changed
abbrev pub change : (SessionLog → SessionLog) → Option SessionLog → Option SessionLog
change f None = None
change f (Some s) = Some (f s)

abbrev pub says_log : Option (List ℕ) → EndLog → EndLog
says_log message l = record l { session = change (said_in message) l.session }

abbrev pub hears_log : ℕ → Option (List ℕ) → EndLog → EndLog
hears_log slots message l = record l { session = change (heard_in slots message) l.session; gone = l.gone + acked_in slots message l.session }

-- it opened a session, or not
abbrev pub opens_log : Bool → ℕ → EndLog → EndLog
opens_log true sid l = record l {
  session = Some (opened_log sid);
  opened = record { sid = sid; base = l.published; published = 0 } ∷ l.opened;
}
opens_log false sid l = l

abbrev pub ends_log : ℕ → EndLog → EndLog
ends_log lost l = record l { session = None; gone = l.gone + lost }

abbrev pub more_published : SessionLog → SessionLog
more_published s = record s { published = s.published + 1 }

abbrev pub published_in : List OpenedLog → List OpenedLog
published_in [] = []
published_in (session ∷ opened) = record session { published = session.published + 1 } ∷ opened

abbrev pub publishes_log : EndLog → EndLog
publishes_log l = record l { published = l.published + 1; session = change more_published l.session; opened = published_in l.opened }

abbrev pub more_taken : SessionLog → SessionLog
more_taken s = record s { taken = s.taken + 1 }

abbrev pub takes_log : EndLog → EndLog
takes_log l = record l { session = change more_taken l.session }

abbrev pub gives_log : List ℕ → EndLog → EndLog
gives_log frame l = record l { given = l.given ++ frame ∷ [] }
