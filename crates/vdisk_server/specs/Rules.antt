-- The rules of a server's step, one by one: what it owes, and the session whose range is in work.
use Rattle.std.specs.Prelude.{ℕ, ◌+◌, ◌==◌, if◌then◌else◌, List, Option, Some, None}
use Rattle.vdisk_msg.specs.Descriptor.{disk_desc_of}
use Rattle.vio_tag.specs.declared.message.Message.{Message}
use Rattle.lane_models.specs.Ranges.{wrapped}
use Rattle.lane_models.specs.ServerRule.{answer}
use Rattle.lane_models.specs.ServerState.{ServerSession, ServerState, SlotRange, Work}
use Rattle.lane_models.specs.ServerWork.{first_progress}

-- the answer to a range, once each of its descriptors is finished
abbrev pub answer_owed : ServerState → ServerSession → Option SlotRange → Option Message
answer_owed s session None = None
answer_owed s session (Some range) = if session.finished == session.asked then Some (answer s range) else None

abbrev pub session_owes : ServerState → Option ServerSession → Option Message
session_owes s None = None
session_owes s (Some session) = answer_owed s session session.range

abbrev pub first_owed : Option Message → Option Message → Option Message
first_owed (Some message) other = Some message
first_owed None other = other

-- the message that is to be offered next: the handshake's, or the answer
abbrev pub owed_message : ServerState → Option Message
owed_message s = first_owed s.handshake.owed (session_owes s s.session)

abbrev pub ranged : ServerSession → Option SlotRange → Option ServerSession
ranged session None = None
ranged session (Some range) = Some session

abbrev pub in_hand : Option ServerSession → Option ServerSession
in_hand None = None
in_hand (Some session) = ranged session session.range

-- one more descriptor was fetched, of which nothing is done yet
abbrev pub one_fetched : Option ServerSession → Option ServerSession
one_fetched None = None
one_fetched (Some session) = Some (record session { descs = wrapped (session.descs + 1) })

abbrev pub begun_work : ℕ → List ℕ → Work
begun_work blocks bytes = record { bytes = bytes; progress = first_progress blocks (disk_desc_of bytes) }

abbrev pub work_begun : ServerState → List ℕ → ServerState
work_begun s bytes = record s { session = one_fetched s.session; work = Some (begun_work s.blocks bytes) }

-- one more descriptor is finished, and none is in work
abbrev pub one_finished : Option ServerSession → Option ServerSession
one_finished None = None
one_finished (Some session) = Some (record session { finished = wrapped (session.finished + 1) })

abbrev pub work_ended : ServerState → ServerState
work_ended s = record s { session = one_finished s.session; work = None }
