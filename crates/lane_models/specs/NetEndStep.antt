-- One step of an end of a port, and what comes of a frame and of a group that it is given. The step is the first rule
-- that applies, and one line says what comes of it; no two lines hold of one state. It is exact for every content of
-- the channel, the tables and the memories.
use Rattle.std.specs.Prelude.{◌≡◌, ℕ, ◌+◌, ◌-◌, ◌*◌, ◌%◌, ◌^◌, ◌<◌, Bool, true, false, List, [], ◌∷◌, ◌++◌, length, Option, Some, None}
use Rattle.ldc_link.specs.Calls.{Puts as PutsPacket}
use Rattle.ldc_link.specs.declared.phase.Role.{Role}
use Rattle.vio_bytes.specs.Place.{put_at}
use Rattle.vio_tag.specs.declared.cause.Cause.{Cause}
use Rattle.vio_tag.specs.declared.cause.Cause.TheVariants as the_cause
use Rattle.vnet_msg.specs.Descriptor.{canonical}
use Rattle.vnet_msg.specs.Frames.{buffer_place, frame_buffer, frame_desc, is_frame_length}
use Rattle.lane_models.specs.Seeing.{Seen}
use Rattle.cookie_copy.specs.Reach.{Reach}
use Rattle.lane_models.specs.Fetching.{Fetched, IsFrame, NotReady, Refuses, fetched}
use Rattle.lane_models.specs.Groups.{is_in}
use Rattle.lane_models.specs.NetEndPutting.{cleared_by_put, net_holds, net_opens, net_put}
use Rattle.lane_models.specs.NetEndRule.{Fetches, Idles, Joins, NetRule, Publishes, Takes, port_rule}
use Rattle.lane_models.specs.NetEndState.{Activity, NetEndState, NetSession, joined_net_end, unseen, with_frame, with_session}
use Rattle.lane_models.specs.NetEndTaking.{GoesOn, NetTakes, Resets}

-- what a step comes to
pub data NetAnswer : Type 0 where
  Joined : (lost : ℕ) → NetAnswer
  Took : (packet : List ℕ) (opens : Bool) → NetAnswer
  Sent : (packet : List ℕ) (opens : Bool) → NetAnswer
  Blocked : NetAnswer
  Idle : NetAnswer
  Published : (id : ℕ) → NetAnswer
  -- a frame of the peer's ring
  Frame : (frame : List ℕ) → NetAnswer
  Reset : (cause : Cause) (packet : Option (List ℕ)) (lost : ℕ) → NetAnswer

-- what a step leaves: the end, its own memory, and the peer's
pub record NetLeft : Type 0 where
  pub end : NetEndState
  pub own : List ℕ
  pub peer : List ℕ

abbrev pub leaves : NetEndState → List ℕ → Reach → NetLeft
leaves s memory reach = record { end = s; own = memory; peer = reach.memory }

-- THE PACKET that the rule puts, and the end after it
pub record NetSends (role : Role) (s : NetEndState) (at : Seen) (memory : List ℕ) (reach : Reach) (bytes : List ℕ) (opens : Bool) (t : NetLeft) : Type 0 where
  pub held : NetEndState
  pub holds : net_holds (port_rule role s at) s reach ≡ Some held
  pub room : at.room ≡ true
  pub packet : PutsPacket held.link bytes t.end.link
  pub opens_is : opens ≡ net_opens held
  pub is : t ≡ leaves (net_put role held) (cleared_by_put role (net_opens held) s.slots memory) reach

-- THE NEXT FRAME goes into the slot of its number: its buffer, and its descriptor, READY
abbrev pub published_memory : ℕ → List ℕ → List ℕ → List ℕ
published_memory slot frame memory = put_at (64 * slot) (canonical (frame_desc slot (length frame))) (put_at (buffer_place slot) (frame_buffer frame) memory)

abbrev pub published : NetSession → NetSession
published session = record session { published = session.published + 1 }

pub record NetPublishes (role : Role) (s : NetEndState) (at : Seen) (memory : List ℕ) (reach : Reach) (id : ℕ) (t : NetLeft) : Type 0 where
  pub session : NetSession
  pub frame : List ℕ
  pub rule : port_rule role s at ≡ Publishes session frame
  pub id_is : id ≡ session.base + session.published
  pub is : t ≡ leaves (with_session (published session) s) (published_memory (session.published % s.slots) frame memory) reach

-- THE NEXT SLOT of the peer's ring holds a frame, which is taken
abbrev pub taken : NetEndState → NetSession → Activity → NetSession
taken s session activity = record session {
  place = (session.place + 1) % s.handshake.draft.peer_slots;
  active = Some (record activity { last = Some session.place });
}

pub record NetFetches (role : Role) (s : NetEndState) (at : Seen) (memory : List ℕ) (reach : Reach) (frame : List ℕ) (t : NetLeft) : Type 0 where
  pub session : NetSession
  pub activity : Activity
  pub new : List ℕ
  pub rule : port_rule role s at ≡ Fetches session activity
  pub found : fetched s reach session.place ≡ IsFrame frame new
  pub is : t ≡ record { end = record s { session = Some (taken s session activity); last = frame }; own = memory; peer = new }

-- WHY IT RESETS ITSELF: for what it takes; for a slot that it can't take, or isn't READY where none was taken before it
-- in the activity
abbrev pub FetchFails : Fetched → Activity → ℕ → Cause → Type 0
FetchFails (IsFrame frame new) activity slot cause = ⊥
FetchFails (NotReady state) activity slot cause = (activity.last ≡ None) × (cause ≡ the_cause.NotReady slot state)
FetchFails (Refuses why) activity slot cause = cause ≡ why

abbrev pub NetFails : Role → NetRule → NetEndState → List ℕ → Reach → Cause → Option (List ℕ) → Type 0
NetFails role (Takes bytes) s memory reach cause packet = (packet ≡ Some bytes) × NetTakes role s memory bytes (Resets cause)
NetFails role (Fetches session activity) s memory reach cause packet =
    (packet ≡ None) × FetchFails (fetched s reach session.place) activity session.place cause
NetFails role _ s memory reach cause packet = ⊥

-- THE STEP, by its answer
abbrev pub NetEndStep : Role → NetEndState → Seen → List ℕ → Reach → NetAnswer → NetLeft → Type 0
NetEndStep role s at memory reach (Joined lost) t =
    (port_rule role s at ≡ Joins) × (lost ≡ unseen s.session) × (t ≡ leaves (joined_net_end role s) memory reach)
NetEndStep role s at memory reach (Took packet opens) t =
    (port_rule role s at ≡ Takes packet) × NetTakes role s memory packet (GoesOn t.end opens t.own) × (t.peer ≡ reach.memory)
NetEndStep role s at memory reach (Sent packet opens) t = NetSends role s at memory reach packet opens t
NetEndStep role s at memory reach Blocked t =
    (net_holds (port_rule role s at) s reach ≡ Some t.end) × (at.room ≡ false) × (t ≡ leaves t.end memory reach)
NetEndStep role s at memory reach Idle t = (port_rule role s at ≡ Idles) × (t ≡ leaves s memory reach)
NetEndStep role s at memory reach (Published id) t = NetPublishes role s at memory reach id t
NetEndStep role s at memory reach (Frame frame) t = NetFetches role s at memory reach frame t
NetEndStep role s at memory reach (Reset cause packet lost) t =
    NetFails role (port_rule role s at) s memory reach cause packet × (lost ≡ unseen s.session) × (t ≡ leaves (joined_net_end role s) memory reach)

-- WHAT COMES OF A FRAME that the end is given: it is too short or too long; as many are held as the ring has slots; or
-- it is held last
pub data Given : Type 0 where
  Queued : (id : ℕ) (frame : List ℕ) → Given
  Full : (frame : List ℕ) → Given
  BadLength : (frame : List ℕ) → Given

abbrev pub NetGives : NetEndState → Given → NetEndState → Type 0
NetGives s (BadLength frame) t = (is_frame_length (length frame) ≡ false) × (t ≡ s)
NetGives s (Full frame) t = (is_frame_length (length frame) ≡ true) × (length s.frames ≡ s.slots) × (t ≡ s)
NetGives s (Queued id frame) t =
    (is_frame_length (length frame) ≡ true) × (length s.frames < s.slots) × (s.next_id < 2 ^ 64 - 1)
    × (id ≡ s.next_id) × (t ≡ with_frame frame s)

-- OF A GROUP that a guest joins: it is in the list; seven others are; or it is in it last, and the list isn't told as
-- it is
pub data Joining : Type 0 where
  Member : (address : List ℕ) → Joining
  Already : (address : List ℕ) → Joining
  GroupsFull : (address : List ℕ) → Joining

abbrev pub untold : Option NetSession → Option NetSession
untold None = None
untold (Some session) = Some (record session { untold = true })

abbrev pub NetJoins : NetEndState → Joining → NetEndState → Type 0
NetJoins s (Already address) t = (is_in s.groups address ≡ true) × (t ≡ s)
NetJoins s (GroupsFull address) t = (is_in s.groups address ≡ false) × (length s.groups ≡ 7) × (t ≡ s)
NetJoins s (Member address) t =
    (is_in s.groups address ≡ false) × (length s.groups < 7) × (length address ≡ 6)
    × (t ≡ record s { groups = s.groups ++ address ∷ []; session = untold s.session })
