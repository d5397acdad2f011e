-- An end always has a next step.
use Rattle.std.proofs.Common.{◌≡◌, ◌≢◌, ℕ, Bool, true, false, Option, Some, None, List, ◌∷◌, refl, sym, subst, ap, ◌∙◌, arith}
use Rattle.std.specs.Prelude.{is_some, ◌+◌, ◌%◌}
use Rattle.ldc_link.specs.declared.phase.LinkPhase.{LinkPhase}
use Rattle.ldc_link.specs.declared.phase.LinkPhase.TheVariants as phase
use Rattle.ldc_link.specs.declared.phase.Role.{Role}
use Rattle.ldc_link.specs.LinkState.{LinkState, cleared, is_established, is_up, offered}
use Rattle.ldc_link.specs.Putting.{behind_put, link_puts, owed_in, owed_packet, owes, with_link}
use Rattle.ldc_link.specs.Taking.{Heard, LinkTake, Unheard, takes_decoded}
use Rattle.ldc_packet.specs.declared.packet.Packet.{Packet}
use Rattle.ldc_packet.specs.Spelling.{canonical as packet_bytes}
use Rattle.ldc_packet.proofs.Deciding.{some_result as some_packet}
use Rattle.vio_tag.specs.declared.cause.Cause.TheVariants as the_cause
use Rattle.vio_tag.specs.declared.message.Message.{Message}
use Rattle.vio_tag.specs.Spelling.{canonical, type_code}
use Rattle.vio_tag.proofs.Deciding.{some_result as some_message}
use Rattle.lane_models.specs.Seeing.{Seen}
use Rattle.cookie_copy.specs.Reach.{Reach}
use Rattle.lane_models.specs.Fetching.{Fetched, IsFrame, NotReady, Refuses, fetched}
use Rattle.lane_models.specs.Groups.{membership}
use Rattle.lane_models.specs.NetEndPutting.{announcement, answer, answers, groups_answer, cleared_by_put, holding, holding_own, net_holds, net_opens, net_put, opened_by_put}
use Rattle.lane_models.specs.NetEndRule.{Announces, Fetches, Idles, Joins, NetRule, Publishes, Puts, Replies, Says, Takes, Tells, port_rule}
use Rattle.lane_models.specs.NetEndState.{Activity, NetEndState, NetSession, joined_net_end, unseen, with_session}
use Rattle.lane_models.specs.NetEndStep.{Blocked, FetchFails, Frame, Idle, Joined, NetAnswer, NetEndStep, NetFails, NetLeft, Published, Reset, Sent, Took, leaves, published, published_memory, taken}
use Rattle.lane_models.specs.NetEndTaking.{GoesOn, HearsLink, HearsWhole, NetTake, NetTakes, Resets, reads, risen}
use Rattle.lane_models.specs.StepStands.{CanStep, IsPacket}
use Rattle.lane_models.proofs.Ruling.{says_of}
use Rattle.lane_models.proofs.Refuting.{false_true, none_some, true_false}

-- some answer, and what is left behind it
pub record SomeStep (role : Role) (s : NetEndState) (at : Seen) (memory : List ℕ) (reach : Reach) : Type 0 where
  pub answer : NetAnswer
  pub left : NetLeft
  pub step : NetEndStep role s at memory reach answer left

some_step : {role : Role} {s : NetEndState} {at : Seen} {memory : List ℕ} {reach : Reach} (answer : NetAnswer) (left : NetLeft) → NetEndStep role s at memory reach answer left
    → SomeStep role s at memory reach
some_step answer left step = record { answer = answer; left = left; step = step }

-- A LINK that holds a message, or owes a packet, has a packet to put
established : (ph : LinkPhase) → is_established ph ≡ true → ph ≡ phase.Established
established ph is = grind (arith, false_true)

pub record HasPacket (k : LinkState) : Type 0 where
  pub packet : Packet
  pub next : link_puts k ≡ Some (packet, behind_put k)

owed_has : (k : LinkState) (owed : Option Packet) → owed_packet k ≡ owed → owes k ≡ true → HasPacket k
owed_has k (Some packet) is owing = record { packet = packet; next = ap (λ (x : Option Packet). with_link x (behind_put k)) is }
owed_has k None is owing = true_false (sym owing ∙ ap (λ (x : Option Packet). is_some x) is)

pub owing_has : (k : LinkState) → owes k ≡ true → HasPacket k
owing_has k owing = owed_has k (owed_packet k) refl owing

offered_owes : (k : LinkState) (byte : ℕ) (bytes : List ℕ) → k.phase ≡ phase.Established → owes (offered (byte ∷ bytes) k) ≡ true
offered_owes k byte bytes is = ap (λ (x : LinkPhase). is_some (owed_in x (offered (byte ∷ bytes) k))) is

message_owes : (k : LinkState) (message : Message) → is_up k ≡ true → owes (offered (canonical message) k) ≡ true
unfolding canonical
message_owes k message up = offered_owes k (type_code message.body) _ (established k.phase up)

-- THE STEP that puts what is held
puts_step : (role : Role) (s : NetEndState) (at : Seen) (memory : List ℕ) (reach : Reach) (held : NetEndState) → net_holds (port_rule role s at) s reach ≡ Some held
    → owes held.link ≡ true → (room : Bool) → at.room ≡ room → SomeStep role s at memory reach
puts_step role s at memory reach held holds owing true room =
    let has = owing_has held.link owing in
    let left : NetLeft = leaves (net_put role held) (cleared_by_put role (net_opens held) s.slots memory) reach in
    some_step (Sent (packet_bytes has.packet) (net_opens held)) left
    (record {
      held = held;
      holds = holds;
      room = room;
      packet = record { packet = has.packet; next = has.next ∙ ap (λ (x : LinkState). Some (has.packet, x)) (put_link role held); spelled = refl };
      opens_is = refl;
      is = refl;
    })
  where
    opened_link : (role : Role) (opens : Bool) (s : NetEndState) → (opened_by_put role opens s).link ≡ s.link
    opened_link role opens s = grind arith

    put_link : (role : Role) (held : NetEndState) → behind_put held.link ≡ (net_put role held).link
    put_link role held = sym (opened_link role (net_opens held) _)
puts_step role s at memory reach held holds owing false room = some_step Blocked (leaves held memory reach) (holds, room, refl)

-- A TAKE of a packet of 64 bytes
pub record SomeTake (role : Role) (s : NetEndState) (memory packet : List ℕ) : Type 0 where
  pub take : NetTake
  pub takes : NetTakes role s memory packet take

whole_take : (role : Role) (s : NetEndState) (memory : List ℕ) (whole : Option (List ℕ)) → (take : NetTake) × HearsWhole role s memory whole take
whole_take role s memory None = (GoesOn s false memory, refl)
whole_take role s memory (Some bytes) =
    let some = some_message bytes in
    (reads role (record s { link = cleared s.link }) memory some.0, (some.0, some.1, refl))

link_take_some : (role : Role) (s : NetEndState) (memory : List ℕ) (link : LinkTake) → (take : NetTake) × HearsLink role s memory link take
link_take_some role s memory (Heard k) = whole_take role (record s { link = k; handshake = risen role s.link k s.handshake }) memory k.whole
link_take_some role s memory (Unheard cause) = (Resets cause, refl)

some_take : (role : Role) (s : NetEndState) (memory packet : List ℕ) → IsPacket (Some packet) → SomeTake role s memory packet
some_take role s memory packet is =
    let some = some_packet packet is.0 is.1 in
    let link : LinkTake = takes_decoded s.link some.0 in
    let hears = link_take_some role s memory link in
    record { take = hears.0; takes = record { link = link; takes = record { decoded = some.0; unpacks = some.1; is = refl }; hears = hears.1 } }

take_step : (role : Role) (s : NetEndState) (at : Seen) (memory : List ℕ) (reach : Reach) (packet : List ℕ) (take : NetTake) → port_rule role s at ≡ Takes packet
    → NetTakes role s memory packet take → SomeStep role s at memory reach
take_step role s at memory reach packet (GoesOn t opens own) is takes = some_step (Took packet opens) (record { end = t; own = own; peer = reach.memory }) (is, takes, refl)
take_step role s at memory reach packet (Resets cause) is takes =
    some_step (Reset cause (Some packet) (unseen s.session)) (leaves (joined_net_end role s) memory reach)
    (subst (λ (x : NetRule). NetFails role x s memory reach cause (Some packet)) (sym is) (refl, takes), refl, refl)

-- A SLOT
slot_step : (role : Role) (s : NetEndState) (at : Seen) (memory : List ℕ) (reach : Reach) (p : NetSession) (activity : Activity) (last : Option ℕ) (found : Fetched)
    → port_rule role s at ≡ Fetches p activity → activity.last ≡ last → fetched s reach p.place ≡ found → is_up s.link ≡ true → SomeStep role s at memory reach
slot_step role s at memory reach p activity last (IsFrame frame new) is last_is found up =
    some_step (Frame frame) (record { end = record s { session = Some (taken s p activity); last = frame }; own = memory; peer = new })
    (record { session = p; activity = activity; new = new; rule = is; found = found; is = refl })
slot_step role s at memory reach p activity None (NotReady state) is last_is found up =
    some_step (Reset (the_cause.NotReady p.place state) None (unseen s.session)) (leaves (joined_net_end role s) memory reach) (
      subst (λ (x : NetRule). NetFails role x s memory reach (the_cause.NotReady p.place state) None) (sym is)
          (refl, subst (λ (x : Fetched). FetchFails x activity p.place (the_cause.NotReady p.place state)) (sym found) (last_is, refl)),
      refl,
      refl,
    )
slot_step role s at memory reach p activity (Some last) (NotReady state) is last_is found up =
    puts_step role s at memory reach (holding_own (answer s activity last) (record p { active = None }) s)
    (ap (λ (x : NetRule). net_holds x s reach) is ∙ ap (λ (x : Fetched). answers s p activity activity.last x) found ∙ ap (λ (x : Option ℕ). answers s p activity x (NotReady state)) last_is)
    (message_owes s.link (answer s activity last) up) at.room refl
slot_step role s at memory reach p activity last (Refuses why) is last_is found up =
    some_step (Reset why None (unseen s.session)) (leaves (joined_net_end role s) memory reach) (
      subst (λ (x : NetRule). NetFails role x s memory reach why None) (sym is)
          (refl, subst (λ (x : Fetched). FetchFails x activity p.place why) (sym found) refl),
      refl,
      refl,
    )

-- THE RULES
some_not_none : {X : Type 0} (x : Option X) (y : X) → x ≡ Some y → x ≢ None
some_not_none x y is none = none_some y (sym none ∙ is)

rule_step : (role : Role) (s : NetEndState) (at : Seen) (memory : List ℕ) (reach : Reach) (rule : NetRule) → CanStep s at → port_rule role s at ≡ rule → SomeStep role s at memory reach
rule_step role s at memory reach Joins can is = some_step (Joined (unseen s.session)) (leaves (joined_net_end role s) memory reach) (is, refl, refl)
rule_step role s at memory reach Puts can is =
    puts_step role s at memory reach s (ap (λ (x : NetRule). net_holds x s reach) is) (says_of role s at Puts is).1 at.room refl
rule_step role s at memory reach (Says message) can is =
    puts_step role s at memory reach (holding message s) (ap (λ (x : NetRule). net_holds x s reach) is)
    (message_owes s.link message (can.owed (some_not_none s.handshake.owed message (says_of role s at (Says message) is).2))) at.room refl
rule_step role s at memory reach (Replies p reply) can is =
    puts_step role s at memory reach (holding_own (groups_answer s reply) (record p { reply = None }) s) (ap (λ (x : NetRule). net_holds x s reach) is)
    (message_owes s.link (groups_answer s reply) (can.opened (some_not_none s.session p (says_of role s at (Replies p reply) is).0.session))) at.room refl
rule_step role s at memory reach (Fetches p activity) can is =
    slot_step role s at memory reach p activity activity.last (fetched s reach p.place) is refl refl
    (can.opened (some_not_none s.session p (says_of role s at (Fetches p activity) is).0.session))
rule_step role s at memory reach (Takes packet) can is =
    let some = some_take role s memory packet (subst IsPacket (says_of role s at (Takes packet) is).1 can.first) in
    take_step role s at memory reach packet some.take is some.takes
rule_step role s at memory reach (Tells p) can is =
    puts_step role s at memory reach (holding_own (membership s.handshake.draft.sid s.groups) (record p { untold = false; telling = true }) s) (ap (λ (x : NetRule). net_holds x s reach) is)
    (message_owes s.link (membership s.handshake.draft.sid s.groups) (can.opened (some_not_none s.session p (says_of role s at (Tells p) is).0.in_session.session))) at.room refl
rule_step role s at memory reach (Publishes p frame) can is =
    some_step (Published (p.base + p.published)) (leaves (with_session (published p) s) (published_memory (p.published % s.slots) frame memory) reach)
    (record { session = p; frame = frame; rule = is; id_is = refl; is = refl })
rule_step role s at memory reach (Announces p) can is =
    puts_step role s at memory reach (holding_own (announcement s p) (record p { infos = p.infos + 1; asking = true }) s) (ap (λ (x : NetRule). net_holds x s reach) is)
    (message_owes s.link (announcement s p) (can.opened (some_not_none s.session p (says_of role s at (Announces p) is).0.in_session.session))) at.room refl
rule_step role s at memory reach Idles can is = some_step Idle (leaves s memory reach) (is, refl)

-- an end has a step
pub always_step : (role : Role) (s : NetEndState) (at : Seen) (memory : List ℕ) (reach : Reach) → CanStep s at → (answer : NetAnswer) × (left : NetLeft) × NetEndStep role s at memory reach answer left
always_step role s at memory reach can =
    let some = rule_step role s at memory reach (port_rule role s at) can refl in
    (some.answer, some.left, some.step)
