-- The message of its session that an end of a port forms, and that it puts: what it says, and what the end notes of it.
use Rattle.std.proofs.Common.{◌≡◌, ℕ, ◌+◌, ◌^◌, ◌<◌, Bool, true, false, Option, Some, None, List, [], ◌∷◌, ◌++◌, inl, inr, refl, sym, subst, ap, ◌∙◌, arith, length}
use Rattle.std.specs.Prelude.{◌%◌, is_none}
use Rattle.std.proofs.lemmas.Bool.{leb-false}
use Rattle.cookie_copy.specs.Reach.{Reach}
use Rattle.ldc_link.specs.Calls.{Puts as PutsPacket}
use Rattle.ldc_link.specs.declared.phase.Role.{Role}
use Rattle.ldc_link.specs.declared.phase.Role.TheVariants.{Initiator}
use Rattle.ldc_link.specs.LinkState.{LinkState, is_up, is_established}
use Rattle.ldc_link.specs.Putting.{behind_put, owes}
use Rattle.ldc_packet.specs.declared.packet.Subtype.TheVariants.{Ack, Info}
use Rattle.ldc_queue.specs.Transcript.{Said, Utterance}
use Rattle.vio_handshake.specs.declared.handshake.Handshake.{Handshake}
use Rattle.vio_tag.proofs.Canonical.{length_canonical}
use Rattle.vio_tag.specs.declared.message.Message.{Message}
use Rattle.vio_tag.specs.Spelling.{canonical}
use Rattle.lane_models.specs.Ranges.{wrapped}
use Rattle.lane_models.specs.Sayings.{half_said, said}
use Rattle.lane_models.specs.Seeing.{Seen}
use Rattle.lane_models.proofs.EndCases.{PutOwn, PutWhat, end_put, put_down, PutControl, PutHandshake, PutMore, PutReady}
use Rattle.lane_models.proofs.EndResting.{held_handshake}
use Rattle.lane_models.proofs.EndStanding.{stands_step, last_none}
use Rattle.lane_models.specs.EndCore.{Waits}
use Rattle.lane_models.specs.Standing.{EndStands}
use Rattle.lane_models.proofs.Refuting.{none_some, of_some, true_false}
use Rattle.lane_models.proofs.Ruling.{says_of}
use Rattle.lane_models.specs.EndLog.{EndLog}
use Rattle.lane_models.specs.Fetching.{Fetched, NotReady, fetched}
use Rattle.lane_models.specs.Groups.{membership}
use Rattle.lane_models.specs.NetEndPutting.{announcement, answer, answers, groups_answer, holding_own, net_holds, net_opens, net_put}
use Rattle.lane_models.specs.NetEndRule.{Announces, Fetches, NetRule, Puts, Replies, Says, Tells, port_rule}
use Rattle.lane_models.specs.NetEndState.{Activity, GroupsReply, NetEndState, NetSession}
use Rattle.lane_models.specs.NetEndStep.{NetLeft, NetSends}
use Rattle.lane_models.specs.RuleFacts.{IsFreeIn}
use Rattle.port_laws.specs.Counted.{EndCounts, unsaid}
use Rattle.port_laws.specs.NetCore.{net_core}
use Rattle.port_laws.proofs.EndCounting.{empty_unsaid, own_left}
use Rattle.port_laws.proofs.EndMoves.{HeldCore, held_core, puts_behind, says_core, waits_core}
use Rattle.port_laws.proofs.HearsIn.{AllAgreed}
use Rattle.port_laws.proofs.HeldCounts.{held_counts}
use Rattle.port_laws.proofs.Outbox.{SaysRange, says_range}
use Rattle.port_laws.proofs.PutCounts.{own_half, own_short, put_empty, put_end, shut_put}
use Rattle.port_laws.proofs.StepCounts.{Acting}
use Rattle.port_laws.proofs.TookCounts.{free_empty, session_up}
use Rattle.lane_models.proofs.Apart.{some_same}

-- IT FORMS a message, with which its link was free
pub record FormsIt (s held : NetEndState) (m : List ℕ) (q : NetSession) : Type 0 where
  pub now : unsaid held ≡ Some m
  pub none : unsaid s ≡ None
  pub session : held.session ≡ Some q
  pub groups : held.groups ≡ s.groups
  pub handshake : held.handshake ≡ s.handshake

pub data Formed (role : Role) (sid : ℕ) (s : NetEndState) (p : NetSession) (held : NetEndState) : Type 0 where
  Kept : held ≡ s → Formed role sid s p held
  Ranged : (m : List ℕ) (q : NetSession) → FormsIt s held m q → SaysRange role sid m → q.telling ≡ p.telling → q.reply ≡ p.reply → q.untold ≡ p.untold → Formed role sid s p held
  Replied : (m : List ℕ) (q : NetSession) (r : GroupsReply) → FormsIt s held m q → p.reply ≡ Some r → m ≡ canonical (groups_answer s r) → q.reply ≡ None → q.telling ≡ p.telling → Formed role sid s p held
  Told : (m : List ℕ) (q : NetSession) → FormsIt s held m q → role ≡ Initiator → m ≡ canonical (membership s.handshake.draft.sid s.groups) → p.telling ≡ false → q.telling ≡ true → q.reply ≡ p.reply
      → Formed role sid s p held

-- an end that may form one
pub record MayForm (role : Role) (sid : ℕ) (s : NetEndState) (p : NetSession) : Type 0 where
  pub session : s.session ≡ Some p
  pub agreed : AllAgreed s.handshake sid
  pub small : sid < 2 ^ 32
  pub empty : owes s.link ≡ false → s.link.to_send ≡ []

forms_it : (s : NetEndState) (at : Seen) (p q : NetSession) (message : Message) → IsFreeIn s at p → (owes s.link ≡ false → s.link.to_send ≡ []) → FormsIt s (holding_own message q s) (canonical message) q
forms_it s at p q message free empty = grind (arith, own_left, length_canonical, empty_unsaid)

slot_formed : (role : Role) (sid : ℕ) (s : NetEndState) (at : Seen) (p : NetSession) (activity : Activity) (last : Option ℕ) (found : Fetched) (held : NetEndState) → AllAgreed s.handshake sid → sid < 2 ^ 32
    → (owes s.link ≡ false → s.link.to_send ≡ []) → IsFreeIn s at p → answers s p activity last found ≡ Some held → Formed role sid s p held
slot_formed role sid s at p activity (Some last) (NotReady state) held agreed small empty free same =
    of_some (Formed role sid s p) (holding_own (answer s activity last) (record p { active = None }) s) held same
    (Ranged (canonical (answer s activity last)) (record p { active = None }) (forms_it s at p (record p { active = None }) (answer s activity last) free empty)
    (says_range role sid Ack s.handshake.draft.sid activity.seq s.handshake.draft.ident_peer activity.start last 2 (inr refl) agreed.peer small) refl refl refl)
slot_formed role sid s at p activity _ _ held agreed small empty free same = none_some held same

pub formed_by : (role : Role) (sid : ℕ) (s : NetEndState) (at : Seen) (reach : Reach) (rule : NetRule) (held : NetEndState) (p : NetSession) → MayForm role sid s p → port_rule role s at ≡ rule
    → net_holds rule s reach ≡ Some held → Formed role sid s p held
formed_by role sid s at reach Puts held p may is same = let kept : s ≡ held = cc same in Kept (sym kept)
formed_by role sid s at reach (Says message) held p may is same =
    let says = says_of role s at (Says message) is in none_some message (sym may.agreed.owed ∙ says.2)
formed_by role sid s at reach (Replies q reply) held p may is same =
    let says = says_of role s at (Replies q reply) is in
    subst (λ (x : NetSession). Formed role sid s x held) (some_same (sym says.0.session ∙ may.session))
    (of_some (Formed role sid s q) (holding_own (groups_answer s reply) (record q { reply = None }) s) held same
    (Replied (canonical (groups_answer s reply)) (record q { reply = None }) reply (forms_it s at q (record q { reply = None }) (groups_answer s reply) says.0 may.empty) says.1 refl refl refl))
formed_by role sid s at reach (Fetches q activity) held p may is same =
    let says = says_of role s at (Fetches q activity) is in
    subst (λ (x : NetSession). Formed role sid s x held) (some_same (sym says.0.session ∙ may.session))
    (slot_formed role sid s at q activity activity.last (fetched s reach q.place) held may.agreed may.small may.empty says.0 same)
formed_by role sid s at reach (Tells q) held p may is same =
    let says = says_of role s at (Tells q) is in
    subst (λ (x : NetSession). Formed role sid s x held) (some_same (sym says.0.in_session.session ∙ may.session))
    (of_some (Formed role sid s q) (holding_own (membership s.handshake.draft.sid s.groups) (record q { untold = false; telling = true }) s) held same
    (Told (canonical (membership s.handshake.draft.sid s.groups)) (record q { untold = false; telling = true })
    (forms_it s at q (record q { untold = false; telling = true }) (membership s.handshake.draft.sid s.groups) says.0.in_session may.empty) says.1 refl says.3 refl refl))
formed_by role sid s at reach (Announces q) held p may is same =
    let says = says_of role s at (Announces q) is in
    subst (λ (x : NetSession). Formed role sid s x held) (some_same (sym says.0.in_session.session ∙ may.session))
    (of_some (Formed role sid s q) (holding_own (announcement s q) (record q { infos = q.infos + 1; asking = true }) s) held same
    (Ranged (canonical (announcement s q)) (record q { infos = q.infos + 1; asking = true }) (forms_it s at q (record q { infos = q.infos + 1; asking = true }) (announcement s q) says.0.in_session may.empty)
    (says_range role sid Info s.handshake.draft.sid (wrapped (q.infos + 1)) s.handshake.draft.ident_own (q.seen % s.slots) 0xffffffff 1 (inl refl) may.agreed.own may.small) refl refl refl))
formed_by role sid s at reach _ held p may is same = none_some held same

-- IT PUTS the message that it holds, whole in one packet
pub record PutsIt (held t : NetEndState) (turns : List Utterance) (packet : List ℕ) : Type 0 where
  pub message : List ℕ
  pub was : unsaid held ≡ Some message
  pub says : said (Said packet ∷ turns) ≡ said turns ++ message ∷ []
  pub none : unsaid t ≡ None
  pub session : t.session ≡ held.session
  pub groups : t.groups ≡ held.groups
  pub handshake : t.handshake ≡ held.handshake

puts_own : (role : Role) (slots : ℕ) (queue : List (List ℕ)) (held : NetEndState) (l : EndLog) (turns : List Utterance) (packet : List ℕ) (q : NetSession) → EndCounts role slots queue held l
    → EndStands role (net_core role held) turns → held.session ≡ Some q → is_none held.handshake.owed ≡ true → is_up held.link ≡ true
    → PutWhat role (net_core role held) turns packet (net_opens held) (net_core role (net_put role held)) → PutsIt held (net_put role held) turns packet
puts_own role slots queue held l turns packet q counts stands session owns up (PutControl next gone link says same shut is_open) =
    true_false (sym up ∙ (put_down held.link.phase packet next gone).0)
puts_own role slots queue held l turns packet q counts stands session owns up (PutReady r at is link says same shut is_open) = true_false (sym up ∙ ap is_established at)
puts_own role slots queue held l turns packet q counts stands session owns up (PutMore at link says same shut is_open) =
    let some : 56 < length held.link.to_send = leb-false (length held.link.to_send) 56 says.long in
    let short = own_short role slots queue held l turns counts stands owns up (omega (arith, some)) in absurd (omega (arith, short, some))
puts_own role slots queue held l turns packet q counts stands session owns up (PutHandshake own at link says same opens_is is_open) = true_false (sym owns ∙ own)
puts_own role slots queue held l turns packet q counts stands session owns up (PutOwn own at link says same shut is_open) =
    let left : unsaid held ≡ Some held.link.to_send = own_left (is_none held.handshake.owed) held.link.to_send own says.some in
    let none : half_said turns ≡ [] = own_half role slots queue held l turns q counts stands session left in
    let put_is : net_put role held ≡ put_end held = shut_put role (net_opens held) (put_end held) shut in
    let empty : (net_core role (net_put role held)).link.to_send ≡ [] = ap (λ (x : LinkState). x.to_send) link ∙ last_none held.link turns packet says in
    grind (arith, put_empty)

pub sends_own : (role : Role) (slots : ℕ) (queue : List (List ℕ)) (s : NetEndState) (l : EndLog) (turns : List Utterance) (at : Seen) (memory : List ℕ) (reach : Reach) (packet : List ℕ) (opens : Bool)
    (t : NetLeft) (q : NetSession) → Acting role slots queue s l turns → (step : NetSends role s at memory reach packet opens t) → s.handshake.owed ≡ None → step.held.session ≡ Some q
    → PutsIt step.held t.end turns packet
sends_own role slots queue s l turns at memory reach packet opens t q acting step owed session =
    let held : NetEndState = step.held in
    let core : HeldCore role s held = held_core role s at reach (port_rule role s at) held acting.fits refl step.holds in
    let puts : PutsPacket held.link packet (behind_put held.link) = subst (PutsPacket held.link packet) (puts_behind held.link packet t.end.link step.packet) step.packet in
    let stands : EndStands role (net_core role held) turns = stands_step role (net_core role s) Waits (net_core role held) turns acting.ends (waits_core role s held core) in
    let counts : EndCounts role slots queue held l =
    held_counts role slots queue s l at reach (port_rule role s at) held
    (record { counts = acting.counts; fits = acting.fits; slots_fit = acting.slots_fit; empty = λ quiet. free_empty role s turns acting.ends quiet }) refl step.holds in
    let same : held.handshake ≡ s.handshake = held_handshake (net_core role s) (net_core role held) core.what core.holds in
    let owns : is_none held.handshake.owed ≡ true = ap (λ (h : Handshake). is_none h.owed) same ∙ ap (λ (x : Option Message). is_none x) owed in
    let what : PutWhat role (net_core role held) turns packet (net_opens held) (net_core role (net_put role held)) =
    end_put role (net_core role s) (net_core role (net_put role held)) turns packet (net_opens held) (says_core role s held packet core puts) stands in
    subst (λ (x : NetLeft). PutsIt held x.end turns packet) (sym step.is)
    (puts_own role slots queue held l turns packet q counts stands session owns (session_up role held turns q stands session) what)

-- AN END THAT OPENS by a packet holds nothing of its session then
opens_empty : (role : Role) (held : NetEndState) (turns : List Utterance) (packet : List ℕ) → net_opens held ≡ true → PutWhat role (net_core role held) turns packet (net_opens held) (net_core role (net_put role held))
    → (net_put role held).link.to_send ≡ []
opens_empty role held turns packet opens given = grind (arith, true_false, last_none)

pub opens_unsaid : (role : Role) (slots : ℕ) (queue : List (List ℕ)) (s : NetEndState) (l : EndLog) (turns : List Utterance) (at : Seen) (memory : List ℕ) (reach : Reach) (packet : List ℕ) (opens : Bool)
    (t : NetLeft) → Acting role slots queue s l turns → NetSends role s at memory reach packet opens t → opens ≡ true → unsaid t.end ≡ None
opens_unsaid role slots queue s l turns at memory reach packet opens t acting step is =
    let held : NetEndState = step.held in
    let core : HeldCore role s held = held_core role s at reach (port_rule role s at) held acting.fits refl step.holds in
    let puts : PutsPacket held.link packet (behind_put held.link) = subst (PutsPacket held.link packet) (puts_behind held.link packet t.end.link step.packet) step.packet in
    let stands : EndStands role (net_core role held) turns = stands_step role (net_core role s) Waits (net_core role held) turns acting.ends (waits_core role s held core) in
    let what : PutWhat role (net_core role held) turns packet (net_opens held) (net_core role (net_put role held)) =
    end_put role (net_core role s) (net_core role (net_put role held)) turns packet (net_opens held) (says_core role s held packet core puts) stands in
    subst (λ (x : NetLeft). unsaid x.end ≡ None) (sym step.is) (empty_unsaid (net_put role held) (opens_empty role held turns packet (sym step.opens_is ∙ is) what))
