-- Each event of a port's lane keeps the counts of the frames of both ends in their order.
use Rattle.std.proofs.Common.{◌≡◌, ℕ, ◌+◌, ◌-◌, ◌<◌, ◌≤◌, true, false, Option, Some, None, List, length, drop, refl, sym, subst, arith}
use Rattle.std.specs.Prelude.{slice_get}
use Rattle.std.proofs.lemmas.List.{length-append, length-drop}
use Rattle.std.proofs.lemmas.Option.{slice_get_within}
use Rattle.ldc_link.specs.declared.phase.Role.{Role}
use Rattle.ldc_link.specs.declared.phase.Role.TheVariants.{Initiator, Responder}
use Rattle.ldc_queue.specs.declared.end.End.{End}
use Rattle.ldc_queue.specs.declared.end.End.TheVariants.{A, B}
use Rattle.runs.specs.Run.{run_keeps}
use Rattle.vio_tag.specs.declared.message.Message.{Message}
use Rattle.lane_models.specs.Seeing.{Seen}
use Rattle.cookie_copy.specs.Reach.{Reach}
use Rattle.lane_models.specs.Fetching.{Fetched, fetched}
use Rattle.lane_models.specs.FramesStand.{CountsStand, FramesStand}
use Rattle.lane_models.specs.NetEndPutting.{answer, announcement, answers, groups_answer, holding_own, net_holds, net_put}
use Rattle.lane_models.specs.Groups.{membership}
use Rattle.lane_models.specs.NetEndRule.{Announces, Fetches, NetRule, Publishes, Replies, Tells, port_rule}
use Rattle.lane_models.specs.NetEndState.{Activity, NetEndState, NetSession, fresh_net_end, joined_net_end, unseen, unseen_in, with_frame}
use Rattle.lane_models.specs.NetEndStep.{Frame, Given, Joined, Joining, NetAnswer, NetEndStep, NetGives, NetJoins, NetLeft, Published, Reset, Took}
use Rattle.lane_models.specs.NetEvent.{Asked, CalmTick, Declines, Gives, Injects, Joins, Loses, NetEvent, Pokes, Steps, Ticked}
use Rattle.lane_models.specs.NetLaneState.{NetLaneState, fresh_net, memory_of, net_end, reach_of, seen_at}
use Rattle.lane_models.specs.NetLaneStep.{NetLaneStep, Resets}
use Rattle.lane_models.specs.NetReached.{NetReached}
use Rattle.lane_models.specs.RuleFacts.{IfOpen}
use Rattle.lane_models.proofs.FramesTaken.{opened_stands, stands_with, taken_stands, with_stands}
use Rattle.lane_models.proofs.Ruling.{says_of}
use Rattle.lane_models.proofs.Refuting.{none_some, of_some, true_false}

-- what holds of one value holds of the other that the same `Some` has
-- IT BEGINS ANEW
pub held_in : (s : NetEndState) (session : Option NetSession) → s.session ≡ session → FramesStand s → unseen session ≤ length s.frames
held_in s session is stands = grind arith

pub lost_leave : (role : Role) (s : NetEndState) → FramesStand s → length (joined_net_end role s).frames + unseen s.session ≡ length s.frames
lost_leave role s stands =
    let held = held_in s s.session refl stands in
    let left : length (drop (unseen s.session) s.frames) ≡ length s.frames - unseen s.session = length-drop (unseen s.session) s.frames in
    omega arith

pub joined_stands : (role : Role) (s : NetEndState) → FramesStand s → FramesStand (joined_net_end role s)
joined_stands role s stands = grind (arith, length-drop)

-- IT PUTS
own_stands : (s : NetEndState) (message : Message) (p q : NetSession) → FramesStand s → s.session ≡ Some p → q.base ≡ p.base → q.published ≡ p.published → q.seen ≡ p.seen
    → q.infos ≡ p.infos → q.asking ≡ p.asking → FramesStand (holding_own message q s)
own_stands s message p q stands is base published seen infos asking = grind (arith, with_stands)

answers_stands : (s : NetEndState) (p : NetSession) (activity : Activity) (last : Option ℕ) (found : Fetched) (held : NetEndState) → FramesStand s → s.session ≡ Some p
    → answers s p activity last found ≡ Some held → FramesStand held
answers_stands s p activity last found held stands is same = grind (arith, of_some, own_stands, none_some)

announces_stands : (s : NetEndState) (p : NetSession) → FramesStand s → s.session ≡ Some p → p.seen < p.published → p.asking ≡ false
    → FramesStand (holding_own (announcement s p) (record p { infos = p.infos + 1; asking = true }) s)
announces_stands s p stands is less asking = grind (arith, true_false)

holds_stands : (role : Role) (s : NetEndState) (at : Seen) (r : Reach) (rule : NetRule) (held : NetEndState) → FramesStand s → port_rule role s at ≡ rule
    → net_holds rule s r ≡ Some held → FramesStand held
holds_stands role s at r (Replies p reply) held stands is same =
    let says = says_of role s at (Replies p reply) is in
    of_some FramesStand _ held same (own_stands s (groups_answer s reply) p (record p { reply = None }) stands says.0.session refl refl refl refl refl)
holds_stands role s at r (Fetches p activity) held stands is same =
    let says = says_of role s at (Fetches p activity) is in
    answers_stands s p activity activity.last (fetched s r p.place) held stands says.0.session same
holds_stands role s at r (Tells p) held stands is same =
    let says = says_of role s at (Tells p) is in
    of_some FramesStand _ held same
    (own_stands s (membership s.handshake.draft.sid s.groups) p (record p { untold = false; telling = true }) stands says.0.in_session.session refl refl refl refl refl)
holds_stands role s at r (Announces p) held stands is same =
    let says = says_of role s at (Announces p) is in
    of_some FramesStand _ held same (announces_stands s p stands says.0.in_session.session says.1 says.2)
holds_stands role s at r rule held stands is same = grind (arith, of_some, stands_with, none_some)

put_stands : (role : Role) (held : NetEndState) → FramesStand held → FramesStand (net_put role held)
put_stands role held stands = grind (arith, opened_stands, stands_with)

-- IT PUBLISHES, and takes a frame
published_stands : (s : NetEndState) (p : NetSession) (frame : List ℕ) → FramesStand s → s.session ≡ Some p → slice_get s.frames (unseen_in p) ≡ Some frame
    → FramesStand (record s { session = Some (record p { published = p.published + 1 }) })
published_stands s p frame stands is next =
    grind (
      arith,
      slice_get_within s.frames (unseen_in p) frame next,
      (subst (λ (x : Option NetSession). IfOpen x (CountsStand s)) is stands.session).seen,
    )

fetched_stands : (s : NetEndState) (p q : NetSession) (frame : List ℕ) → FramesStand s → s.session ≡ Some p → q.base ≡ p.base → q.published ≡ p.published → q.seen ≡ p.seen
    → q.infos ≡ p.infos → q.asking ≡ p.asking → FramesStand (record s { session = Some q; last = frame })
fetched_stands s p q frame stands is base published seen infos asking = grind (arith, with_stands)

abbrev LeftStands : NetLeft → Type 0
LeftStands left = FramesStand left.end

-- A STEP
pub step_stands : (role : Role) (s : NetEndState) (at : Seen) (memory : List ℕ) (r : Reach) (answer : NetAnswer) (t : NetLeft) → FramesStand s
    → NetEndStep role s at memory r answer t → FramesStand t.end
step_stands role s at memory r (Joined lost) t stands step = subst LeftStands (sym step.2) (joined_stands role s stands)
step_stands role s at memory r (Took packet opens) t stands step = taken_stands role s memory packet t.end opens t.own stands step.1
step_stands role s at memory r (Published id) t stands step =
    let says = says_of role s at (Publishes step.session step.frame) step.rule in
    subst LeftStands (sym step.is) (published_stands s step.session step.frame stands says.0.in_session.session says.1)
step_stands role s at memory r (Frame frame) t stands step =
    let says = says_of role s at (Fetches step.session step.activity) step.rule in
    subst LeftStands (sym step.is) (fetched_stands s step.session _ frame stands says.0.session refl refl refl refl refl)
step_stands role s at memory r (Reset cause packet lost) t stands step = subst LeftStands (sym step.2) (joined_stands role s stands)
step_stands role s at memory r answer t stands step = grind (arith, put_stands, holds_stands)

-- A FRAME, and a group
counts_more : (s : NetEndState) (frame : List ℕ) (session : Option NetSession) → IfOpen session (CountsStand s) → IfOpen session (CountsStand (with_frame frame s))
counts_more s frame session counts = grind (arith, length-append)

pub queued_stands : (s : NetEndState) (frame : List ℕ) → FramesStand s → length s.frames < s.slots → FramesStand (with_frame frame s)
queued_stands s frame stands less = grind (arith, length-append, counts_more)

pub gives_stands : (s : NetEndState) (given : Given) (t : NetEndState) → FramesStand s → NetGives s given t → FramesStand t
gives_stands s given t stands gives = grind (arith, queued_stands)

pub joins_stands : (s : NetEndState) (joining : Joining) (t : NetEndState) → FramesStand s → NetJoins s joining t → FramesStand t
joins_stands s joining t stands joins = grind (arith, with_stands)

-- AN EVENT
abbrev pub BothStand : NetLaneState → Type 0
BothStand s = FramesStand s.guest × FramesStand s.hub

resets_stand : (e : End) (event : NetEvent) (s : NetLaneState) (lost : ℕ) (t : NetLaneState) → BothStand s → Resets e event s lost t → BothStand t
resets_stand A event s lost t stands resets = subst BothStand (sym resets.1) (joined_stands Initiator s.guest stands.0, stands.1)
resets_stand B event s lost t stands resets = subst BothStand (sym resets.1) (stands.0, joined_stands Responder s.hub stands.1)

pub event_stands : (s : NetLaneState) (event : NetEvent) (t : NetLaneState) → NetLaneStep s event t → BothStand s → BothStand t
event_stands s (Asked e lost) t step stands = resets_stand e (Asked e lost) s lost t stands step
event_stands s (Ticked queued lost) t step stands = resets_stand A (Ticked queued lost) s lost t stands step.1
event_stands s (Steps A answer) t step stands =
    subst BothStand (sym step.is) (step_stands Initiator s.guest (seen_at A s) (memory_of A s) (reach_of A s) answer step.left stands.0 step.step, stands.1)
event_stands s (Steps B answer) t step stands =
    subst BothStand (sym step.is) (stands.0, step_stands Responder s.hub (seen_at B s) (memory_of B s) (reach_of B s) answer step.left stands.1 step.step)
event_stands s (CalmTick queued) t step stands = subst BothStand (sym step.1) stands
event_stands s (Gives A given) t step stands = subst BothStand (sym step.1) (gives_stands s.guest given t.guest stands.0 step.0, stands.1)
event_stands s (Gives B given) t step stands = subst BothStand (sym step.1) (stands.0, gives_stands s.hub given t.hub stands.1 step.0)
event_stands s (Joins joining) t step stands = subst BothStand (sym step.1) (joins_stands s.guest joining t.guest stands.0 step.0, stands.1)
event_stands s (Loses e packet) t step stands = subst BothStand (sym step.1) stands
event_stands s (Injects e packet) t step stands = subst BothStand (sym step.2) stands
event_stands s (Pokes A at bytes) t step stands = subst BothStand (sym step.1) stands
event_stands s (Pokes B at bytes) t step stands = subst BothStand (sym step.1) stands
event_stands s (Declines d) t step stands = subst BothStand (sym step.1) stands

-- EVERY RUN
pub fresh_stands : (role : Role) (address : List ℕ) (slots : ℕ) → FramesStand (fresh_net_end role address slots)
fresh_stands role address slots = record { room = omega arith; ids = omega arith; session = tt }

both_of : (s : NetLaneState) → NetReached s → BothStand s
both_of s reached =
    run_keeps NetLaneStep BothStand event_stands (fresh_net reached.shape) s reached.events reached.run
    (fresh_stands Initiator reached.shape.address reached.shape.slots, fresh_stands Responder reached.shape.address reached.shape.slots)

pub reached_stands : (s : NetLaneState) → NetReached s → (e : End) → FramesStand (net_end e s)
reached_stands s reached A = (both_of s reached).0
reached_stands s reached B = (both_of s reached).1
