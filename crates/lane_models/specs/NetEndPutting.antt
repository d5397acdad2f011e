-- What an end of a port puts: the rest of a message, one of its handshake, or one of its session.
use Rattle.std.specs.Prelude.{ℕ, ◌+◌, ◌%◌, Bool, true, false, is_none, List, Option, Some, None}
use Rattle.dring.specs.Slots.{free_slots}
use Rattle.ldc_link.specs.declared.phase.Role.{Role}
use Rattle.ldc_link.specs.declared.phase.Role.TheVariants.{Initiator}
use Rattle.ldc_link.specs.LinkState.{offered}
use Rattle.ldc_link.specs.Putting.{behind_put}
use Rattle.vio_bytes.specs.Place.{put_at}
use Rattle.vio_handshake.specs.Messages.{ack, info}
use Rattle.vio_tag.specs.declared.message.Message.{Message}
use Rattle.vio_tag.specs.declared.message.MsgBody.TheVariants.{DringData, Mcast}
use Rattle.vio_tag.specs.Spelling.{canonical}
use Rattle.lane_models.specs.EndPuts.{PutKind, handshake_behind, put_kind, put_opens}
use Rattle.lane_models.specs.Ranges.{ring_active, ring_stopped, wrapped}
use Rattle.cookie_copy.specs.Reach.{Reach}
use Rattle.lane_models.specs.Fetching.{Fetched, NotReady, fetched}
use Rattle.lane_models.specs.Groups.{membership}
use Rattle.lane_models.specs.NetEndRule.{Announces, Fetches, NetRule, Puts, Replies, Says, Tells}
use Rattle.lane_models.specs.NetEndState.{Activity, GroupsReply, NetEndState, NetSession, opened_net_end, with_session}

abbrev pub holding : Message → NetEndState → NetEndState
holding message s = record s { link = offered (canonical message) s.link }

-- it holds a message of its session, which notes it
abbrev pub holding_own : Message → NetSession → NetEndState → NetEndState
holding_own message session s = with_session session (holding message s)

-- the slot of the first frame that isn't acknowledged, and no end
abbrev pub announcement : NetEndState → NetSession → Message
announcement s session =
    info s.handshake.draft.sid
    (DringData (wrapped (session.infos + 1)) s.handshake.draft.ident_own (session.seen % s.slots) 0xffffffff ring_active)

-- the INFO's number and first slot, and the last slot that was taken; the activity is over
abbrev pub answer : NetEndState → Activity → ℕ → Message
answer s activity last = ack s.handshake.draft.sid (DringData activity.seq s.handshake.draft.ident_peer activity.start last ring_stopped)

-- the same fields as in the MCAST_INFO that it answers
abbrev pub groups_answer : NetEndState → GroupsReply → Message
groups_answer s reply = record { subtype = reply.subtype; sid = s.handshake.draft.sid; body = Mcast reply.set reply.count reply.addresses }

-- a slot that isn't READY ends the activity, where a slot was taken in it
abbrev pub answers : NetEndState → NetSession → Activity → Option ℕ → Fetched → Option NetEndState
answers s session activity (Some last) (NotReady state) = Some (holding_own (answer s activity last) (record session { active = None }) s)
answers s session activity _ _ = None

-- the end with the message in its link that the rule is to put, where it puts one
abbrev pub net_holds : NetRule → NetEndState → Reach → Option NetEndState
net_holds Puts s reach = Some s
net_holds (Says message) s reach = Some (holding message s)
net_holds (Replies session reply) s reach = Some (holding_own (groups_answer s reply) (record session { reply = None }) s)
net_holds (Fetches session activity) s reach = answers s session activity activity.last (fetched s reach session.place)
net_holds (Tells session) s reach =
    Some (holding_own (membership s.handshake.draft.sid s.groups) (record session { untold = false; telling = true }) s)
net_holds (Announces session) s reach =
    Some (holding_own (announcement s session) (record session { infos = session.infos + 1; asking = true }) s)
net_holds _ s reach = None

-- the link's message is of its session where the handshake owes none: an end takes nothing while its link has a packet
-- to put
abbrev pub net_kind : NetEndState → PutKind
net_kind held = put_kind held.link (is_none held.handshake.owed)

abbrev pub net_opens : NetEndState → Bool
net_opens held = put_opens (net_kind held) held.handshake

-- a guest's session opens by a message that it put: its ring is cleared
abbrev pub opened_by_put : Role → Bool → NetEndState → NetEndState
opened_by_put Initiator true s = opened_net_end s
opened_by_put _ _ s = s

abbrev pub cleared_ring : ℕ → List ℕ → List ℕ
cleared_ring slots memory = put_at 0 (free_slots 64 slots) memory

abbrev pub cleared_by_put : Role → Bool → ℕ → List ℕ → List ℕ
cleared_by_put Initiator true slots memory = cleared_ring slots memory
cleared_by_put _ _ slots memory = memory

-- the end after putting what its link owes
abbrev pub net_put : Role → NetEndState → NetEndState
net_put role held = opened_by_put role (net_opens held) (record held {
  link = behind_put held.link;
  handshake = handshake_behind (net_kind held) held.handshake;
})
