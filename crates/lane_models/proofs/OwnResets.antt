-- A step of an end of a port never resets it for a cause that a script, a restart or a tick gives.
use Rattle.std.proofs.Common.{◌≡◌, ℕ, zero, suc, Bool, Option, Some, None, List, refl, arith}
use Rattle.std.specs.Prelude.{Result, ◌+◌, ◌*◌, ◌%◌, ◌==◌, if◌then◌else◌, ⊤}
use Rattle.cookie_copy.specs.declared.fault.Access.TheVariants.{Read}
use Rattle.cookie_copy.specs.declared.fault.CopyFault.{CopyFault}
use Rattle.cookie_copy.specs.Faults.{first_copy_fault}
use Rattle.cookie_copy.specs.Moved.{moved_in}
use Rattle.ldc_link.specs.declared.phase.Role.{Role}
use Rattle.ldc_link.specs.Taking.{LinkTake}
use Rattle.ldc_packet.specs.declared.packet.Subtype.{Subtype}
use Rattle.vio_handshake.specs.Rules.{HandshakeTake}
use Rattle.vio_tag.specs.declared.cause.Cause.{Cause}
use Rattle.vio_tag.specs.declared.cause.Cause.TheVariants as the_cause
use Rattle.vio_tag.specs.declared.message.Message.{Message}
use Rattle.vio_tag.specs.declared.message.MsgBody.{MsgBody}
use Rattle.vio_tag.specs.declared.message.TagFault.{TagFault}
use Rattle.vnet_msg.specs.declared.desc.NetDesc.{NetDesc}
use Rattle.cookie_copy.specs.Reach.{Reach}
use Rattle.lane_models.specs.WireEvent.{ByStep, giver}
use Rattle.lane_models.proofs.OwnCauses.{IsOwn, OwnLink, link_own}
use Rattle.lane_models.proofs.OwnMessages.{OwnFault, OwnHandshake, handshake_own, sid_own}
use Rattle.lane_models.specs.Fetching.{Fetched, IsFrame, NotReady, Refuses, copied, fetched, marked, read, slot_read, slots_cookies}
use Rattle.lane_models.specs.NetEndRule.{Fetches, NetRule, Takes}
use Rattle.lane_models.specs.NetEndState.{Activity, NetEndState, NetSession}
use Rattle.lane_models.specs.NetEndStep.{FetchFails, NetFails}
use Rattle.lane_models.specs.NetEndTaking.{GoesOn, HearsLink, NetTake, NetTakes, Resets, by_handshake, first_undone, in_session, reads, sid_first, slot_state, takes_done}

abbrev OwnTake : NetTake → Type 0
OwnTake (GoesOn s opens memory) = ⊤
OwnTake (Resets cause) = IsOwn cause

take_if : (b : Bool) (one other : NetTake) → OwnTake one → OwnTake other → OwnTake (if b then one else other)
take_if b one other own rest = grind arith

handshake_take_own : (role : Role) (s : NetEndState) (memory : List ℕ) (take : HandshakeTake) → OwnHandshake take → OwnTake (by_handshake role s memory take)
handshake_take_own role s memory take own = grind arith

fault_if : (b : Bool) (one other : Option Cause) → OwnFault one → OwnFault other → OwnFault (if b then one else other)
fault_if b one other own rest = grind arith

undone_own : (slots : ℕ) (memory : List ℕ) (number count : ℕ) → OwnFault (first_undone slots memory number count)
undone_own slots memory number zero = tt
undone_own slots memory number (suc count) =
    fault_if (slot_state (number % slots) memory == 4) (first_undone slots memory (number + 1) count)
    (Some (the_cause.NotDone (number % slots) (slot_state (number % slots) memory))) (undone_own slots memory (number + 1) count) refl

done_own : (s : NetEndState) (p : NetSession) (memory : List ℕ) (count : ℕ) (fault : Option Cause) → OwnFault fault → OwnTake (takes_done s p memory count fault)
done_own s p memory count fault own = grind arith

in_own : (role : Role) (s : NetEndState) (p : NetSession) (memory : List ℕ) (message : Message) (subtype : Subtype) (b : MsgBody)
    → OwnTake (in_session role s p memory message subtype b)
in_own role s p memory message subtype b =
    grind (arith, take_if, done_own, undone_own, handshake_take_own, handshake_own)

or_own : (fault : Option Cause) (rest : NetTake) → OwnFault fault → OwnTake rest → OwnTake (sid_first fault rest)
or_own fault rest own own_rest = grind arith

reads_own : (role : Role) (s : NetEndState) (memory : List ℕ) (d : Result Message TagFault) → OwnTake (reads role s memory d)
reads_own role s memory d = grind (arith, handshake_take_own, handshake_own, or_own, sid_own, in_own)

link_take_own : (role : Role) (s : NetEndState) (memory : List ℕ) (link : LinkTake) (take : NetTake) → OwnLink link → HearsLink role s memory link take → OwnTake take
link_take_own role s memory link take own is = grind (arith, reads_own)

takes_own : (role : Role) (s : NetEndState) (memory bytes : List ℕ) (take : NetTake) → NetTakes role s memory bytes take → OwnTake take
takes_own role s memory bytes take takes = link_take_own role s memory takes.link take (link_own s.link bytes takes.link takes.takes) takes.hears

-- a slot
abbrev OwnFetched : Fetched → Type 0
OwnFetched (IsFrame frame new) = ⊤
OwnFetched (NotReady state) = ⊤
OwnFetched (Refuses why) = IsOwn why

fetched_if : (b : Bool) (one other : Fetched) → OwnFetched one → OwnFetched other → OwnFetched (if b then one else other)
fetched_if b one other own rest = grind arith

marked_own : (s : NetEndState) (r : Reach) (slot : ℕ) (desc : NetDesc) (frame : List ℕ) (fault : Option CopyFault) → OwnFetched (marked s r slot desc frame fault)
marked_own s r slot desc frame fault = grind arith

copied_own : (s : NetEndState) (r : Reach) (slot : ℕ) (desc : NetDesc) (fault : Option CopyFault) → OwnFetched (copied s r slot desc fault)
copied_own s r slot desc fault = grind (arith, marked_own)

read_own : (s : NetEndState) (r : Reach) (slot : ℕ) (bytes : List ℕ) → OwnFetched (read s r slot bytes)
read_own s r slot bytes = grind (arith, fetched_if, copied_own)

slot_own : (s : NetEndState) (r : Reach) (slot : ℕ) (fault : Option CopyFault) → OwnFetched (slot_read s r slot fault)
slot_own s r slot None = read_own s r slot (moved_in r.table r.memory (slots_cookies s) (64 * slot) 64)
slot_own s r slot (Some why) = refl

fetch_own : (found : Fetched) (activity : Activity) (slot : ℕ) (cause : Cause) → OwnFetched found → FetchFails found activity slot cause → IsOwn cause
fetch_own found activity slot cause own fails = grind arith

pub net_resets_own : (role : Role) (rule : NetRule) (s : NetEndState) (memory : List ℕ) (r : Reach) (cause : Cause) (packet : Option (List ℕ))
    → NetFails role rule s memory r cause packet → giver cause ≡ ByStep
net_resets_own role (Takes bytes) s memory r cause packet fails = takes_own role s memory bytes (Resets cause) fails.1
net_resets_own role (Fetches p activity) s memory r cause packet fails =
    fetch_own (fetched s r p.place) activity p.place cause
    (slot_own s r p.place (first_copy_fault r.both Read r.table (slots_cookies s) (64 * p.place) 64)) fails.1
net_resets_own role _ s memory r cause packet fails = absurd fails
