-- An end stands as it should after each of its steps.
use Rattle.std.proofs.Common.{◌≡◌, ℕ, ◌+◌, ◌%◌, ◌<◌, List, Option, Some, refl, sym, subst, arith}
use Rattle.std.proofs.Math.Nat.{mod-lt}
use Rattle.cookie_copy.specs.Reach.{Reach}
use Rattle.ldc_queue.specs.ChannelView.{ChannelView}
use Rattle.map_table.specs.declared.table.Entry.{Entry}
use Rattle.vio_handshake.specs.declared.handshake.Phase.{Phase}
use Rattle.lane_models.specs.Seeing.{Seen}
use Rattle.lane_models.proofs.FramesKept.{step_stands as frames_stand}
use Rattle.lane_models.proofs.Ruling.{says_of}
use Rattle.lane_models.specs.FramesStand.{FramesStand}
use Rattle.lane_models.specs.NetEndRule.{Fetches, Publishes, port_rule}
use Rattle.lane_models.specs.NetEndState.{Activity, NetEndState, NetSession, joined_net_end}
use Rattle.lane_models.specs.NetEndStep.{Blocked, Frame, Idle, Joined, NetAnswer, NetEndStep, NetLeft, Published, Reset, Sent, Took, published, taken}
use Rattle.vnet_port.proofs.KeptPuts.{Core, Stays, core_of, fixed_of, held_stays, put_stays, through, with_core, within}
use Rattle.vnet_port.proofs.KeptTakes.{taken_stays}
use Rattle.vnet_port.proofs.Standing.{joined_stands}
use Rattle.vnet_port.specs.declared.net_out.NetOut.{NetOut}
use Rattle.vnet_port.specs.Standing.{Knows, KnowsRing, Stands}
use Rattle.port_frames.specs.Memories.{reach_over}
use Rattle.vnet_port.specs.Stepping.{Steps, net_answer, sees}

-- the place in the peer's ring, which has as many slots as the own
peer_slots_are : (s : NetEndState) (p : NetSession) → Core s → s.session ≡ Some p → s.handshake.draft.peer_slots ≡ s.slots
peer_slots_are s p core is =
    let ring : KnowsRing s.handshake.sid s.handshake.draft s.slots =
    subst (λ (x : Phase). Knows s.link.role x s.handshake.sid s.handshake.draft s.slots) (through s p core is) core.handshake.knows in
    ring.slots

taken_within : (s : NetEndState) (p : NetSession) → Core s → s.session ≡ Some p → (p.place + 1) % s.handshake.draft.peer_slots < s.slots
taken_within s p core is =
    let some = core.sized.some_slots in
    subst (λ (slots : ℕ). (p.place + 1) % slots < s.slots) (sym (peer_slots_are s p core is)) (mod-lt (p.place + 1) (omega arith))

published_stays : (s : NetEndState) (p : NetSession) → Core s → s.session ≡ Some p → Stays s (record s { session = Some (published p) })
published_stays s p core is =
    record { core = with_core s (published p) s.frames s.groups s.last core (through s p core is) (within s p core is) core.sized.groups; fixed = refl }

fetched_stays : (s : NetEndState) (p : NetSession) (activity : Activity) (frame : List ℕ) → Core s → s.session ≡ Some p
    → Stays s (record s { session = Some (taken s p activity); last = frame })
fetched_stays s p activity frame core is =
    record { core = with_core s (taken s p activity) s.frames s.groups frame core (through s p core is) (taken_within s p core is) core.sized.groups; fixed = refl }

joined_stays : (s : NetEndState) → Stands s → Stays s (joined_net_end s.link.role s)
joined_stays s stands = record { core = core_of (joined_net_end s.link.role s) (joined_stands s stands); fixed = refl }

abbrev LeftStays : NetEndState → NetLeft → Type 0
LeftStays s left = Stays s left.end

step_stays : (s : NetEndState) (at : Seen) (memory : List ℕ) (r : Reach) (answer : NetAnswer) (t : NetLeft) → Stands s
    → NetEndStep s.link.role s at memory r answer t → Stays s t.end
step_stays s at memory r (Joined lost) t stands step = subst (LeftStays s) (sym step.2) (joined_stays s stands)
step_stays s at memory r (Took packet opens) t stands step = taken_stays s t.end memory packet t.own opens (core_of s stands) step.1
step_stays s at memory r (Sent packet opens) t stands step =
    subst (LeftStays s) (sym step.is)
    (put_stays s.link.role s step.held (held_stays s.link.role s at r (port_rule s.link.role s at) step.held (core_of s stands) refl step.holds))
step_stays s at memory r Blocked t stands step = held_stays s.link.role s at r (port_rule s.link.role s at) t.end (core_of s stands) refl step.0
step_stays s at memory r Idle t stands step = subst (LeftStays s) (sym step.1) (record { core = core_of s stands; fixed = refl })
step_stays s at memory r (Published id) t stands step =
    let says = says_of s.link.role s at (Publishes step.session step.frame) step.rule in
    subst (LeftStays s) (sym step.is) (published_stays s step.session (core_of s stands) says.0.in_session.session)
step_stays s at memory r (Frame frame) t stands step =
    let says = says_of s.link.role s at (Fetches step.session step.activity) step.rule in
    subst (LeftStays s) (sym step.is) (fetched_stays s step.session step.activity frame (core_of s stands) says.0.session)
step_stays s at memory r (Reset cause packet lost) t stands step = subst (LeftStays s) (sym step.2) (joined_stays s stands)

-- A STEP
pub record StepKeeps (s t : NetEndState) : Type 0 where
  pub stands : Stands t
  pub fixed : fixed_of t ≡ fixed_of s

stands_of : (t : NetEndState) → Core t → FramesStand t → Stands t
stands_of t core frames =
    record { sized = core.sized; frames = frames; link = core.link; handshake = core.handshake; began = core.began; session = core.session }

pub steps_keep : (s t : NetEndState) (c d : ChannelView) (memory own peer new : List ℕ) (table : List (Option Entry)) (answer : NetOut) → Stands s
    → Steps s c memory table peer answer t d own new → StepKeeps s t
steps_keep s t c d memory own peer new table answer stands steps =
    let left : NetLeft = record { end = t; own = own; peer = new } in
    let stays : Stays s t = step_stays s (sees s c) memory (reach_over c table peer) (net_answer answer t.last) left stands steps.step in
    record {
      stands = stands_of t stays.core
          (frames_stand s.link.role s (sees s c) memory (reach_over c table peer) (net_answer answer t.last) left stands.frames steps.step);
      fixed = stays.fixed;
    }
