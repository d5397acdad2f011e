-- A step of an end is one: its answer, and what it leaves.
use Rattle.std.proofs.Common.{◌≡◌, ℕ, Bool, true, false, Option, Some, None, List, sym, subst, ap, ◌∙◌, arith}
use Rattle.std.specs.Prelude.{◌%◌, ◌+◌}
use Rattle.ldc_link.specs.Calls.{Puts as PutsPacket}
use Rattle.ldc_link.specs.declared.phase.Role.{Role}
use Rattle.ldc_link.specs.LinkState.{LinkState}
use Rattle.ldc_link.specs.Taking.{Heard, LinkTake, TakesBytes, Unheard}
use Rattle.ldc_packet.proofs.Reading.{one_result as one_packet}
use Rattle.vio_tag.specs.declared.cause.Cause.{Cause}
use Rattle.vio_tag.specs.declared.cause.Cause.TheVariants as the_cause
use Rattle.vio_tag.proofs.Reading.{one_result as one_message}
use Rattle.lane_models.specs.Seeing.{Seen}
use Rattle.cookie_copy.specs.Reach.{Reach}
use Rattle.lane_models.specs.Fetching.{Fetched, IsFrame, NotReady, Refuses, fetched}
use Rattle.lane_models.specs.NetEndPutting.{answer, answers, cleared_by_put, holding_own, net_holds, net_opens, net_put}
use Rattle.lane_models.specs.NetEndRule.{Fetches, Idles, Joins, NetRule, Publishes, Takes, port_rule}
use Rattle.lane_models.specs.NetEndState.{Activity, NetEndState, NetSession, joined_net_end, unseen, with_session}
use Rattle.lane_models.specs.NetEndStep.{Blocked, FetchFails, Frame, Idle, Joined, NetAnswer, NetEndStep, NetFails, NetLeft, Published, Reset, Sent, Took, leaves, published, published_memory, taken}
use Rattle.lane_models.specs.NetEndTaking.{GoesOn, HearsLink, HearsWhole, NetTake, NetTakes, Resets, risen}
use Rattle.lane_models.proofs.Refuting.{false_true, none_some, true_false}

-- what a step comes to: an answer, and what it leaves
pub record Outcome : Type 0 where
  pub answer : NetAnswer
  pub left : NetLeft

abbrev out : NetAnswer → NetLeft → Outcome
out answer left = record { answer = answer; left = left }

same_out : (a b : NetAnswer) (t u : NetLeft) → a ≡ b → t ≡ u → out a t ≡ out b u
same_out a b t u answer left = ap (λ (x : NetAnswer). out x t) answer ∙ ap (λ (x : NetLeft). out b x) left

-- WHAT IT COMES TO, by its rule: of a message that it holds, by the room; of a packet, by what is made of it; of a
-- slot, by what is found
abbrev fails : Role → NetEndState → List ℕ → Reach → Cause → Option (List ℕ) → Outcome
fails role s memory reach cause packet = out (Reset cause packet (unseen s.session)) (leaves (joined_net_end role s) memory reach)

abbrev sends : Role → NetEndState → List ℕ → Reach → NetEndState → List ℕ → Outcome
sends role s memory reach held bytes = out (Sent bytes (net_opens held)) (leaves (net_put role held) (cleared_by_put role (net_opens held) s.slots memory) reach)

abbrev HeldComes : Role → Bool → NetEndState → List ℕ → Reach → NetEndState → Outcome → Type 0
HeldComes role true s memory reach held o = (bytes : List ℕ) × (link : LinkState) × PutsPacket held.link bytes link × (o ≡ sends role s memory reach held bytes)
HeldComes role false s memory reach held o = o ≡ out Blocked (leaves held memory reach)

abbrev took : Role → NetEndState → List ℕ → Reach → List ℕ → NetTake → Outcome
took role s memory reach packet (GoesOn t opens own) = out (Took packet opens) (record { end = t; own = own; peer = reach.memory })
took role s memory reach packet (Resets cause) = fails role s memory reach cause (Some packet)

abbrev SlotComes : Role → Bool → NetEndState → List ℕ → Reach → NetSession → Activity → Option ℕ → Fetched → Outcome → Type 0
SlotComes role room s memory reach p activity last (IsFrame frame new) o =
    o ≡ out (Frame frame) (record { end = record s { session = Some (taken s p activity); last = frame }; own = memory; peer = new })
SlotComes role room s memory reach p activity None (NotReady state) o = o ≡ fails role s memory reach (the_cause.NotReady p.place state) None
SlotComes role room s memory reach p activity (Some last) (NotReady state) o =
    HeldComes role room s memory reach (holding_own (answer s activity last) (record p { active = None }) s) o
SlotComes role room s memory reach p activity last (Refuses why) o = o ≡ fails role s memory reach why None

abbrev RuleComes : Role → NetRule → NetEndState → Seen → List ℕ → Reach → Outcome → Type 0
RuleComes role Joins s at memory reach o = o ≡ out (Joined (unseen s.session)) (leaves (joined_net_end role s) memory reach)
RuleComes role (Takes packet) s at memory reach o = (take : NetTake) × NetTakes role s memory packet take × (o ≡ took role s memory reach packet take)
RuleComes role (Fetches p activity) s at memory reach o = SlotComes role at.room s memory reach p activity activity.last (fetched s reach p.place) o
RuleComes role (Publishes p frame) s at memory reach o =
    o ≡ out (Published (p.base + p.published)) (leaves (with_session (published p) s) (published_memory (p.published % s.slots) frame memory) reach)
RuleComes role Idles s at memory reach o = o ≡ out Idle (leaves s memory reach)
RuleComes role rule s at memory reach o = (held : NetEndState) × (net_holds rule s reach ≡ Some held) × HeldComes role at.room s memory reach held o

-- EACH STEP comes to that
of_some : {X : Type 0} (P : X → Type 0) (x y : X) → Some x ≡ Some y → P y → P x
of_some {X} P x y same holds = let is : y ≡ x = cc in subst P is holds

slot_held : (role : Role) (room : Bool) (s : NetEndState) (memory : List ℕ) (reach : Reach) (p : NetSession) (activity : Activity) (last : Option ℕ) (found : Fetched) (held : NetEndState) (o : Outcome)
    → answers s p activity last found ≡ Some held → HeldComes role room s memory reach held o → SlotComes role room s memory reach p activity last found o
slot_held role room s memory reach p activity last found held o same comes = grind (arith, of_some, none_some)

rule_held : (role : Role) (rule : NetRule) (s : NetEndState) (at : Seen) (memory : List ℕ) (reach : Reach) (held : NetEndState) (o : Outcome)
    → net_holds rule s reach ≡ Some held → HeldComes role at.room s memory reach held o → RuleComes role rule s at memory reach o
rule_held role rule s at memory reach held o same comes = grind (arith, slot_held, none_some)

slot_fails : (role : Role) (room : Bool) (s : NetEndState) (memory : List ℕ) (reach : Reach) (p : NetSession) (activity : Activity) (last : Option ℕ) (found : Fetched) (cause : Cause) (o : Outcome)
    → activity.last ≡ last → FetchFails found activity p.place cause → o ≡ fails role s memory reach cause None → SlotComes role room s memory reach p activity last found o
slot_fails role room s memory reach p activity last found cause o is because comes = grind (arith, none_some)

rule_fails : (role : Role) (rule : NetRule) (s : NetEndState) (at : Seen) (memory : List ℕ) (reach : Reach) (cause : Cause) (packet : Option (List ℕ)) (o : Outcome)
    → NetFails role rule s memory reach cause packet → o ≡ fails role s memory reach cause packet → RuleComes role rule s at memory reach o
rule_fails role rule s at memory reach cause packet o because comes = grind (arith, slot_fails)

room_held : (role : Role) (room : Bool) (s : NetEndState) (memory : List ℕ) (reach : Reach) (held : NetEndState) (bytes : List ℕ) (link : LinkState) (opens : Bool) (t : NetLeft)
    → room ≡ true → PutsPacket held.link bytes link → opens ≡ net_opens held
    → t ≡ leaves (net_put role held) (cleared_by_put role (net_opens held) s.slots memory) reach
    → HeldComes role room s memory reach held (out (Sent bytes opens) t)
room_held role room s memory reach held bytes link opens t room_2 puts opens_is is = grind (arith, same_out, false_true)

blocked_held : (role : Role) (room : Bool) (s : NetEndState) (memory : List ℕ) (reach : Reach) (t : NetLeft)
    → room ≡ false → t ≡ leaves t.end memory reach → HeldComes role room s memory reach t.end (out Blocked t)
blocked_held role room s memory reach t room_2 is = grind (arith, same_out, true_false)

abbrev Comes : Role → NetEndState → Seen → List ℕ → Reach → Outcome → Type 0
Comes role s at memory reach o = RuleComes role (port_rule role s at) s at memory reach o

by_rule : (role : Role) (s : NetEndState) (at : Seen) (memory : List ℕ) (reach : Reach) (rule : NetRule) (o : Outcome) → port_rule role s at ≡ rule
    → RuleComes role rule s at memory reach o → Comes role s at memory reach o
by_rule role s at memory reach rule o is comes = subst (λ (x : NetRule). RuleComes role x s at memory reach o) (sym is) comes

step_comes : (role : Role) (s : NetEndState) (at : Seen) (memory : List ℕ) (reach : Reach) (a : NetAnswer) (t : NetLeft) → NetEndStep role s at memory reach a t
    → Comes role s at memory reach (out a t)
step_comes role s at memory reach (Sent packet opens) t step =
    rule_held role (port_rule role s at) s at memory reach step.held (out (Sent packet opens) t) step.holds
    (room_held role at.room s memory reach step.held packet t.end.link opens t step.room step.packet step.opens_is step.is)
step_comes role s at memory reach Blocked t step =
    rule_held role (port_rule role s at) s at memory reach t.end (out Blocked t) step.0 (blocked_held role at.room s memory reach t step.1 step.2)
step_comes role s at memory reach a t step = grind (arith, by_rule, same_out, rule_fails)

-- ONE OUTCOME
puts_once : (k : LinkState) (one other : List ℕ) (behind past : LinkState) → PutsPacket k one behind → PutsPacket k other past → one ≡ other
puts_once k one other behind past puts also = grind arith

held_once : (role : Role) (room : Bool) (s : NetEndState) (memory : List ℕ) (reach : Reach) (held : NetEndState) (o u : Outcome)
    → HeldComes role room s memory reach held o → HeldComes role room s memory reach held u → o ≡ u
held_once role room s memory reach held o u comes also = grind (arith, puts_once)

decoded_once : (role : Role) (s : NetEndState) (memory bytes : List ℕ) (one other : NetTake) → HearsWhole role s memory (Some bytes) one → HearsWhole role s memory (Some bytes) other → one ≡ other
decoded_once role s memory bytes one other hears also = grind (arith, one_message)

whole_once : (role : Role) (s : NetEndState) (memory : List ℕ) (whole : Option (List ℕ)) (one other : NetTake) → HearsWhole role s memory whole one → HearsWhole role s memory whole other → one ≡ other
whole_once role s memory None one other hears also = hears ∙ sym also
whole_once role s memory (Some bytes) one other hears also = decoded_once role s memory bytes one other hears also

link_once : (role : Role) (s : NetEndState) (memory : List ℕ) (link : LinkTake) (one other : NetTake) → HearsLink role s memory link one → HearsLink role s memory link other → one ≡ other
link_once role s memory (Heard k) one other hears also = whole_once role (record s { link = k; handshake = risen role s.link k s.handshake }) memory k.whole one other hears also
link_once role s memory (Unheard cause) one other hears also = hears ∙ sym also

bytes_once : (k : LinkState) (bytes : List ℕ) (one other : LinkTake) → TakesBytes k bytes one → TakesBytes k bytes other → one ≡ other
bytes_once k bytes one other takes also = grind (arith, one_packet)

takes_once : (role : Role) (s : NetEndState) (memory bytes : List ℕ) (one other : NetTake) → NetTakes role s memory bytes one → NetTakes role s memory bytes other → one ≡ other
takes_once role s memory bytes one other takes also =
    link_once _ s _ _ _ _ takes.hears (rw (bytes_once _ _ _ _ takes.takes also.takes) also.hears)

slot_once : (role : Role) (room : Bool) (s : NetEndState) (memory : List ℕ) (reach : Reach) (p : NetSession) (activity : Activity) (last : Option ℕ) (found : Fetched) (o u : Outcome)
    → SlotComes role room s memory reach p activity last found o → SlotComes role room s memory reach p activity last found u → o ≡ u
slot_once role room s memory reach p activity last found o u comes also = grind (arith, held_once)

rule_once : (role : Role) (rule : NetRule) (s : NetEndState) (at : Seen) (memory : List ℕ) (reach : Reach) (o u : Outcome)
    → RuleComes role rule s at memory reach o → RuleComes role rule s at memory reach u → o ≡ u
rule_once role (Takes packet) s at memory reach o u comes also =
    comes.2 ∙ ap (took role s memory reach packet) (takes_once role s memory packet comes.0 also.0 comes.1 also.1) ∙ sym also.2
rule_once role rule s at memory reach o u comes also = grind (arith, slot_once, held_once, of_some)

-- two steps of one state have one answer, and leave the same
pub step_once : (role : Role) (s : NetEndState) (at : Seen) (memory : List ℕ) (reach : Reach) (one other : NetAnswer) (t u : NetLeft)
    → NetEndStep role s at memory reach one t → NetEndStep role s at memory reach other u → (one ≡ other) × (t ≡ u)
step_once role s at memory reach one other t u step also =
    let same : out one t ≡ out other u = rule_once role (port_rule role s at) s at memory reach (out one t) (out other u) (step_comes role s at memory reach one t step) (step_comes role s at memory reach other u also) in
    (ap (λ (x : Outcome). x.answer) same, ap (λ (x : Outcome). x.left) same)
