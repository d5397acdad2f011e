-- Each step of an end of a port is a move of an end on a channel.
use Rattle.std.proofs.Common.{◌≡◌, ℕ, Bool, true, false, Option, Some, None, List, length, drop, refl, sym, subst, ap, ◌∙◌, arith}
use Rattle.std.specs.Prelude.{Ok, ◌+◌, ◌≤◌, ◌&&◌, not, nat_le, is_none, is_some}
use Rattle.std.proofs.lemmas.Bool.Decides.{nat_tests}
use Rattle.std.proofs.lemmas.List.{length-drop}
use Rattle.ldc_link.specs.Calls.{Puts as PutsPacket}
use Rattle.ldc_link.specs.declared.phase.LinkPhase.{LinkPhase}
use Rattle.ldc_link.specs.declared.phase.Role.{Role}
use Rattle.ldc_link.specs.declared.phase.Role.TheVariants.{Initiator, Responder}
use Rattle.ldc_link.specs.LinkState.{LinkState, cleared, is_established}
use Rattle.ldc_link.specs.Putting.{behind_put, owed_packet, owes, part_owed, with_link}
use Rattle.ldc_link.specs.Taking.{Heard, LinkTake, TakesBytes}
use Rattle.ldc_packet.specs.declared.packet.Packet.{Packet}
use Rattle.ldc_queue.specs.Messages.{is_empty}
use Rattle.vio_handshake.specs.declared.handshake.Handshake.{Handshake}
use Rattle.vio_tag.specs.declared.cause.Cause.{Cause}
use Rattle.vio_tag.specs.declared.message.Message.{Message}
use Rattle.vio_tag.specs.declared.message.MsgBody.{MsgBody}
use Rattle.vio_tag.specs.declared.message.MsgBody.TheVariants.{Mcast}
use Rattle.vio_tag.specs.Decoding.{Decodes}
use Rattle.vio_tag.specs.Spelling.{SpellsBody, addresses_at, canonical}
use Rattle.lane_models.specs.EndPuts.{handshake_behind, kind_in, put_kind}
use Rattle.lane_models.specs.Seeing.{Seen}
use Rattle.cookie_copy.specs.Reach.{Reach}
use Rattle.lane_models.specs.EndCore.{Begins, EndMove, Fails, Hears, Says as SaysPacket, Stays, Waits, holds}
use Rattle.lane_models.specs.EndStep.{EndBegins, EndFails, EndHears, EndSays, EndStays, EndStep, EndWaits, HearsWhole, Holding, Holds, HoldsOn, HoldsOwed, HoldsOwn, IsOfSession, LinkFails, MayTake, WholeFails, opened_by, risen_at}
use Rattle.lane_models.specs.Fetching.{Fetched, NotReady, fetched}
use Rattle.lane_models.specs.Groups.{membership}
use Rattle.lane_models.specs.NetEndPutting.{announcement, answer, answers, groups_answer, holding, holding_own, net_holds, net_kind, net_opens, net_put, opened_by_put}
use Rattle.lane_models.specs.NetEndRule.{Announces, Fetches, NetRule, Publishes, Puts, Replies, Says, Takes, Tells, port_rule}
use Rattle.lane_models.specs.NetEndState.{Activity, GroupsReply, NetEndState, NetSession, joined_net_end}
use Rattle.lane_models.specs.NetEndStep.{Blocked, Frame, Idle, Joined, NetAnswer, NetEndStep, NetFails, NetLeft, NetSends, Published, Reset, Sent, Took, taken}
use Rattle.lane_models.specs.NetEndTaking as take
use Rattle.lane_models.specs.Offers.{port_offer}
use Rattle.lane_models.specs.RuleFacts.{IsEndFree, IsFreeIn}
use Rattle.lane_models.proofs.Ruling.{says_of}
use Rattle.port_laws.specs.NetCore.{more_in, more_of, net_core, one_if}
use Rattle.port_laws.specs.NetFits.{AddressesAreShort, GroupsFit, NetFits, ReplyFits, SessionFits, SomeFits}
use Rattle.port_laws.proofs.ShortMessages.{announcement_short, answer_short, membership_short, read_long, read_short, reply_short}
use Rattle.port_laws.proofs.Taking.{BodyFits, TakeGoes, message_goes}
use Rattle.lane_models.proofs.Refuting.{false_true, none_some, of_some, true_false}

-- HOW MANY MORE messages
pub one_most : (b : Bool) → one_if b ≤ 1
one_most b = grind arith

pub more_most : (session : Option NetSession) → more_of session ≤ 4
more_most None = omega arith
more_most (Some p) = omega (arith, one_most (is_some p.reply), one_most (is_some p.active), one_most (not p.telling), one_most (not p.asking))

-- IT HOLDS a message of its session, of which it may say one fewer then
own_held : (role : Role) (s : NetEndState) (at : Seen) (message : Message) (p q : NetSession) → IsFreeIn s at p → IsOfSession message.body → message.sid ≡ s.handshake.draft.sid
    → length (canonical message) ≤ 56 → more_in q + 1 ≤ more_in p → Holds (net_core role s) (HoldsOwn message) (net_core role (holding_own message q s))
own_held role s at message p q free body sid short fewer =
    let fewer_here : more_in q + 1 ≤ more_of s.session = subst (λ (x : Option NetSession). more_in q + 1 ≤ more_of x) (sym free.session) fewer in
    record {
      quiet = free.free.quiet;
      owed = free.free.owed;
      opened = ap (λ (x : Option NetSession). is_some x) free.session;
      body = body;
      sid = sid;
      short = short;
      link = refl;
      handshake = refl;
      offer = refl;
      is_open = sym (ap (λ (x : Option NetSession). is_some x) free.session);
      own = ap (λ (x : Option Message). is_none x) free.free.owed;
      most = omega arith;
      more = λ up. fewer_here;
    }

-- the end that holds what the rule is to put
pub record HeldCore (role : Role) (s held : NetEndState) : Type 0 where
  pub what : Holding
  pub holds : Holds (net_core role s) what (net_core role held)

held_to : (role : Role) (s one held : NetEndState) (what : Holding) → Some one ≡ Some held → Holds (net_core role s) what (net_core role one) → HeldCore role s held
held_to role s one held what same holds = of_some (HeldCore role s) one held same (record { what = what; holds = holds })

pub reply_of : (s : NetEndState) (p : NetSession) (reply : GroupsReply) → SessionFits s.session → s.session ≡ Some p → p.reply ≡ Some reply → ReplyFits reply
reply_of s p reply fits session is = subst SomeFits is (subst SessionFits session fits)

slot_held : (role : Role) (s : NetEndState) (at : Seen) (p : NetSession) (activity : Activity) (last : Option ℕ) (found : Fetched) (held : NetEndState) → IsFreeIn s at p
    → p.active ≡ Some activity → answers s p activity last found ≡ Some held → HeldCore role s held
slot_held role s at p activity (Some last) (NotReady state) held free is same =
    let one : one_if (is_some p.active) ≡ 1 = ap (λ (x : Option Activity). one_if (is_some x)) is in
    held_to role s (holding_own (answer s activity last) (record p { active = None }) s) held (HoldsOwn (answer s activity last)) same
    (own_held role s at (answer s activity last) p (record p { active = None }) free tt refl (answer_short s activity last) (omega (arith, one)))
slot_held role s at p activity _ _ held free is same = none_some held same

pub held_core : (role : Role) (s : NetEndState) (at : Seen) (reach : Reach) (rule : NetRule) (held : NetEndState) → NetFits role s → port_rule role s at ≡ rule
    → net_holds rule s reach ≡ Some held → HeldCore role s held
held_core role s at reach Puts held fits is same = held_to role s s held HoldsOn same (record { is = refl; owing = (says_of role s at Puts is).1 })
held_core role s at reach (Says message) held fits is same =
    let says = says_of role s at (Says message) is in
    held_to role s (holding message s) held (HoldsOwed message) same
    (record {
      quiet = says.1;
      owed = says.2;
      link = refl;
      handshake = refl;
      offer = refl;
      is_open = refl;
      own = λ up. ap (λ (x : Option Message). is_none x) says.2;
      more = omega arith;
    })
held_core role s at reach (Replies p reply) held fits is same =
    let says = says_of role s at (Replies p reply) is in
    let one : one_if (is_some p.reply) ≡ 1 = ap (λ (x : Option GroupsReply). one_if (is_some x)) says.1 in
    held_to role s (holding_own (groups_answer s reply) (record p { reply = None }) s) held (HoldsOwn (groups_answer s reply)) same
    (own_held role s at (groups_answer s reply) p (record p { reply = None }) says.0 tt refl
    (reply_short s reply (reply_of s p reply fits.session says.0.session says.1)) (omega (arith, one)))
held_core role s at reach (Fetches p activity) held fits is same =
    let says = says_of role s at (Fetches p activity) is in
    slot_held role s at p activity activity.last (fetched s reach p.place) held says.0 says.1 same
held_core role s at reach (Tells p) held fits is same =
    let says = says_of role s at (Tells p) is in
    let one : one_if (not p.telling) ≡ 1 = ap (λ (b : Bool). one_if (not b)) says.3 in
    let short : AddressesAreShort s.groups = subst (λ (x : Role). GroupsFit x s.groups) says.1 fits.groups in
    held_to role s (holding_own (membership s.handshake.draft.sid s.groups) (record p { untold = false; telling = true }) s) held (HoldsOwn (membership s.handshake.draft.sid s.groups)) same
    (own_held role s at (membership s.handshake.draft.sid s.groups) p (record p { untold = false; telling = true }) says.0.in_session tt refl
    (membership_short s.handshake.draft.sid s.groups short) (omega (arith, one)))
held_core role s at reach (Announces p) held fits is same =
    let says = says_of role s at (Announces p) is in
    let one : one_if (not p.asking) ≡ 1 = ap (λ (b : Bool). one_if (not b)) says.2 in
    held_to role s (holding_own (announcement s p) (record p { infos = p.infos + 1; asking = true }) s) held (HoldsOwn (announcement s p)) same
    (own_held role s at (announcement s p) p (record p { infos = p.infos + 1; asking = true }) says.0.in_session tt refl (announcement_short s p) (omega (arith, one)))
held_core role s at reach _ held fits is same = none_some held same

-- IT PUTS. The handshake changes where its message ends, and then the link holds nothing.
empty_of : (xs : List ℕ) → length xs ≡ 0 → is_empty xs ≡ true
empty_of xs is = grind arith

ended_empty : (xs : List ℕ) → nat_le (length xs) 56 ≡ true → is_empty (drop 56 xs) ≡ true
ended_empty xs most =
    let few : length xs ≤ 56 = grind (arith, nat_tests, most) in
    empty_of (drop 56 xs) (omega (arith, few, length-drop 56 xs))

phase_keeps : (ph : LinkPhase) (k : LinkState) (own : Bool) (h : Handshake) → k.phase ≡ ph → holds k ≡ true → holds (behind_put k) ≡ true → handshake_behind (kind_in ph k own) h ≡ h
phase_keeps ph k own h is held left = grind (arith, true_false, ended_empty)

pub link_keeps : (k : LinkState) (own : Bool) (h : Handshake) → holds k ≡ true → holds (behind_put k) ≡ true → handshake_behind (put_kind k own) h ≡ h
link_keeps k own h held left = phase_keeps k.phase k own h refl held left

pub record PutCore (role : Role) (opens : Bool) (s t : NetEndState) : Type 0 where
  pub link : t.link ≡ s.link
  pub handshake : t.handshake ≡ s.handshake
  pub offer : port_offer role t.address t.slots ≡ port_offer role s.address s.slots
  pub is_open : is_some t.session ≡ opened_by role opens (is_some s.session)
  pub more : opens ≡ false → more_of t.session ≤ more_of s.session

pub opened_core : (role : Role) (opens : Bool) (s : NetEndState) → PutCore role opens s (opened_by_put role opens s)
opened_core Initiator true s = record { link = refl; handshake = refl; offer = refl; is_open = refl; more = λ is. true_false is }
opened_core Initiator false s = record { link = refl; handshake = refl; offer = refl; is_open = refl; more = λ is. omega arith }
opened_core Responder opens s = record { link = refl; handshake = refl; offer = refl; is_open = refl; more = λ is. omega arith }

abbrev pub says_core : (role : Role) (s held : NetEndState) (packet : List ℕ) → HeldCore role s held → PutsPacket held.link packet (behind_put held.link)
    → EndSays role (net_core role s) packet (net_opens held) (net_core role (net_put role held))
says_core role s held packet core puts =
    let t : NetEndState = record held { link = behind_put held.link; handshake = handshake_behind (net_kind held) held.handshake } in
    let opened = opened_core role (net_opens held) t in
    record {
      held = net_core role held;
      what = core.what;
      holds = core.holds;
      puts = subst (PutsPacket held.link packet) (sym opened.link) puts;
      handshake = opened.handshake;
      opens_is = refl;
      is_open = opened.is_open;
      offer = opened.offer;
      own = λ one two.
          ap (λ (x : Handshake). is_none x.owed) opened.handshake
          ∙ ap (λ (x : Handshake). is_none x.owed) (link_keeps held.link (is_none held.handshake.owed) held.handshake one (sym (ap holds opened.link) ∙ two));
      most = omega (arith, more_most (opened_by_put role (net_opens held) t).session);
      more = opened.more;
    }

-- the link behind a packet is that of the put
with_behind : (k behind : LinkState) (packet : Packet) (owed : Option Packet) → with_link owed (behind_put k) ≡ Some (packet, behind) → behind ≡ behind_put k
with_behind k behind packet owed is = grind (arith, none_some)

pub puts_behind : (k : LinkState) (packet : List ℕ) (behind : LinkState) → PutsPacket k packet behind → behind ≡ behind_put k
puts_behind k packet behind puts = with_behind k behind puts.packet (owed_packet k) puts.next

-- IT TAKES
some_left : (left : List ℕ) (k : LinkState) → is_some (part_owed k left) ≡ false → not (is_empty left) ≡ true → ⊥
some_left left k quiet held = grind (arith, false_true, true_false)

both_true : (a b : Bool) → (a && b) ≡ true → (a ≡ true) × (b ≡ true)
both_true a b is = grind (arith, false_true)

phase_held : (ph : LinkPhase) (k : LinkState) → k.phase ≡ ph → is_established ph ≡ true → owes k ≡ false → not (is_empty k.to_send) ≡ true → ⊥
phase_held ph k is up quiet held = grind (arith, some_left, false_true)

may_take : (role : Role) (s : NetEndState) (at : Seen) → IsEndFree s at → MayTake (net_core role s)
may_take role s at free = record { owed = free.owed; quiet = λ closed. free.quiet }

fits_of : (bytes : List ℕ) (b : MsgBody) → SpellsBody bytes b → BodyFits b
fits_of bytes (Mcast set count addresses) spells =
    let is : addresses ≡ addresses_at 10 7 bytes = spells.2 in
    (subst (λ (x : List (List ℕ)). length x ≤ 7) (sym is) (omega (arith, read_long 7 10 bytes)), subst AddressesAreShort (sym is) (read_short 7 10 bytes))
fits_of bytes _ spells = tt

-- WHAT COMES OF A MESSAGE that became whole, if one did
pub record GoesWhole (role : Role) (s : NetEndState) (whole : Option (List ℕ)) (t : NetEndState) (opens : Bool) : Type 0 where
  pub link : t.link ≡ cleared s.link
  pub address : t.address ≡ s.address
  pub slots : t.slots ≡ s.slots
  pub groups : role ≡ Initiator → t.groups ≡ s.groups
  pub fits : NetFits role t
  pub hears : HearsWhole role s.handshake (is_some s.session) whole opens (net_core role t)

abbrev WholeGoes : Role → NetEndState → Option (List ℕ) → take.NetTake → Type 0
WholeGoes role s whole (take.GoesOn t opens memory) = GoesWhole role s whole t opens
WholeGoes role s whole (take.Resets cause) = WholeFails s.handshake (is_some s.session) whole cause

message_whole : (role : Role) (s : NetEndState) (bytes : List ℕ) (message : Message) (tk : take.NetTake) → Decodes bytes (Ok message)
    → TakeGoes role (record s { link = cleared s.link }) message tk → WholeGoes role s (Some bytes) tk
message_whole role s bytes message tk decodes goes = grind arith

whole_goes : (role : Role) (s : NetEndState) (memory : List ℕ) (whole : Option (List ℕ)) (tk : take.NetTake) → NetFits role s → s.link.whole ≡ whole
    → take.HearsWhole role s memory whole tk → WholeGoes role s whole tk
whole_goes role s memory whole tk given is hears = grind (arith, message_whole, message_goes, fits_of)

-- WHAT COMES OF A PACKET
pub risen_same : (role : Role) (before behind : LinkState) (h : Handshake) → take.risen role before behind h ≡ risen_at role before behind h
risen_same role before behind h = grind arith

pub record PacketGoes (role : Role) (s : NetEndState) (packet : List ℕ) (t : NetEndState) (opens : Bool) : Type 0 where
  pub heard : LinkState
  pub takes : TakesBytes s.link packet (Heard heard)
  pub link : t.link ≡ cleared heard
  pub address : t.address ≡ s.address
  pub slots : t.slots ≡ s.slots
  pub groups : role ≡ Initiator → t.groups ≡ s.groups
  pub fits : NetFits role t
  pub hears : HearsWhole role (risen_at role s.link heard s.handshake) (is_some s.session) heard.whole opens (net_core role t)

abbrev LinkGoes : Role → NetEndState → List ℕ → take.NetTake → Type 0
LinkGoes role s packet (take.GoesOn t opens memory) = PacketGoes role s packet t opens
LinkGoes role s packet (take.Resets cause) = (link : LinkTake) × TakesBytes s.link packet link × LinkFails role (net_core role s) link cause

link_goes : (role : Role) (s : NetEndState) (memory packet : List ℕ) (link : LinkTake) (tk : take.NetTake) → NetFits role s → TakesBytes s.link packet link
    → take.HearsLink role s memory link tk → LinkGoes role s packet tk
link_goes role s memory packet link tk given takes hears = grind (arith, risen_same, whole_goes)

pub packet_goes : (role : Role) (s : NetEndState) (memory packet : List ℕ) (tk : take.NetTake) → NetFits role s → take.NetTakes role s memory packet tk → LinkGoes role s packet tk
packet_goes role s memory packet tk fits takes = link_goes role s memory packet takes.link tk fits takes.takes takes.hears

hears_core : (role : Role) (s : NetEndState) (at : Seen) (packet : List ℕ) (t : NetEndState) (opens : Bool) → IsEndFree s at → PacketGoes role s packet t opens
    → EndHears role (net_core role s) packet opens (net_core role t)
hears_core role s at packet t opens free goes = grind (arith, may_take, both_true, phase_held, more_most)

-- IT RESETS ITSELF
begins_core : (role : Role) (s : NetEndState) → EndBegins (net_core role s) (net_core role (joined_net_end role s))
begins_core role s = record { link = refl; handshake = refl; offer = refl; closed = refl; more = refl }

slot_fails : (role : Role) (s : NetEndState) (p : NetSession) (packet : Option (List ℕ)) (cause : Cause) → packet ≡ None → s.session ≡ Some p → EndFails role (net_core role s) cause packet
slot_fails role s p packet cause is session = subst (EndFails role (net_core role s) cause) (sym is) (ap (λ (x : Option NetSession). is_some x) session)

packet_fails : (role : Role) (s : NetEndState) (at : Seen) (memory bytes : List ℕ) (packet : Option (List ℕ)) (cause : Cause) → NetFits role s → IsEndFree s at → packet ≡ Some bytes
    → take.NetTakes role s memory bytes (take.Resets cause) → EndFails role (net_core role s) cause packet
packet_fails role s at memory bytes packet cause fits free is takes =
    let goes = packet_goes role s memory bytes (take.Resets cause) fits takes in
    subst (EndFails role (net_core role s) cause) (sym is) (record { may = may_take role s at free; take = goes.0; takes = goes.1; fails = goes.2 })

fails_core : (role : Role) (s : NetEndState) (at : Seen) (memory : List ℕ) (reach : Reach) (rule : NetRule) (cause : Cause) (packet : Option (List ℕ)) → NetFits role s
    → port_rule role s at ≡ rule → NetFails role rule s memory reach cause packet → EndFails role (net_core role s) cause packet
fails_core role s at memory reach (Takes bytes) cause packet fits is fails =
    packet_fails role s at memory bytes packet cause fits (says_of role s at (Takes bytes) is).0 fails.0 fails.1
fails_core role s at memory reach rule cause packet given is fails = grind (arith, slot_fails, says_of)

-- IT STAYS
pub stays_with : (role : Role) (s t : NetEndState) → t.link ≡ s.link → t.handshake ≡ s.handshake → t.address ≡ s.address → t.slots ≡ s.slots → is_some t.session ≡ is_some s.session
    → more_of t.session ≤ more_of s.session → EndStays (net_core role s) (net_core role t)
stays_with role s t link handshake address slots opened more = grind arith

session_stays : (role : Role) (s : NetEndState) (p q : NetSession) (last : List ℕ) → s.session ≡ Some p → more_in q ≤ more_in p
    → EndStays (net_core role s) (net_core role (record s { session = Some q; last = last }))
session_stays role s p q last is fewer = grind (arith, stays_with)

fetched_stays : (role : Role) (s : NetEndState) (p : NetSession) (activity : Activity) (frame : List ℕ) → s.session ≡ Some p → p.active ≡ Some activity
    → EndStays (net_core role s) (net_core role (record s { session = Some (taken s p activity); last = frame }))
fetched_stays role s p activity frame is active = grind (arith, session_stays)

-- A STEP IS A MOVE
abbrev pub move_by : NetAnswer → EndMove
move_by (Joined lost) = Begins
move_by (Took packet opens) = Hears packet opens
move_by (Sent packet opens) = SaysPacket packet opens
move_by Blocked = Waits
move_by (Reset cause packet lost) = Fails cause packet
move_by _ = Stays

abbrev LeftMoves : Role → NetEndState → EndMove → NetLeft → Type 0
LeftMoves role s move left = EndStep role (net_core role s) move (net_core role left.end)

sent_core : (role : Role) (s : NetEndState) (at : Seen) (memory : List ℕ) (reach : Reach) (packet : List ℕ) (opens : Bool) (t : NetLeft) → NetFits role s
    → NetSends role s at memory reach packet opens t → LeftMoves role s (SaysPacket packet opens) t
sent_core role s at memory reach packet opens t fits step =
    let core = held_core role s at reach (port_rule role s at) step.held fits refl step.holds in
    let puts : PutsPacket step.held.link packet (behind_put step.held.link) =
    subst (PutsPacket step.held.link packet) (puts_behind step.held.link packet t.end.link step.packet) step.packet in
    subst (λ (x : Bool). LeftMoves role s (SaysPacket packet x) t) (sym step.opens_is)
    (subst (LeftMoves role s (SaysPacket packet (net_opens step.held))) (sym step.is) (says_core role s step.held packet core puts))

pub waits_core : (role : Role) (s held : NetEndState) → HeldCore role s held → EndWaits (net_core role s) (net_core role held)
waits_core role s held core = record { what = core.what; holds = core.holds }

pub step_core : (role : Role) (s : NetEndState) (at : Seen) (memory : List ℕ) (reach : Reach) (answer : NetAnswer) (t : NetLeft) → NetFits role s
    → NetEndStep role s at memory reach answer t → LeftMoves role s (move_by answer) t
step_core role s at memory reach (Joined lost) t fits step = subst (LeftMoves role s Begins) (sym step.2) (begins_core role s)
step_core role s at memory reach (Took packet opens) t fits step =
    hears_core role s at packet t.end opens (says_of role s at (Takes packet) step.0).0 (packet_goes role s memory packet (take.GoesOn t.end opens t.own) fits step.1)
step_core role s at memory reach (Sent packet opens) t fits step = sent_core role s at memory reach packet opens t fits step
step_core role s at memory reach Blocked t fits step = waits_core role s t.end (held_core role s at reach (port_rule role s at) t.end fits refl step.0)
step_core role s at memory reach Idle t fits step = subst (LeftMoves role s Stays) (sym step.1) (stays_with role s s refl refl refl refl refl (omega arith))
step_core role s at memory reach (Published id) t fits step =
    grind (arith, says_of role s at (Publishes step.session step.frame) step.rule, session_stays)
step_core role s at memory reach (Frame frame) t fits step =
    let says = says_of role s at (Fetches step.session step.activity) step.rule in
    subst (LeftMoves role s Stays) (sym step.is) (fetched_stays role s step.session step.activity frame says.0.session says.1)
step_core role s at memory reach (Reset cause packet lost) t fits step =
    (fails_core role s at memory reach (port_rule role s at) cause packet fits refl step.0, subst (λ (x : NetLeft). EndBegins (net_core role s) (net_core role x.end)) (sym step.2) (begins_core role s))
