-- What remains at an end of a port that joins, holds a message, puts a packet or publishes a frame.
use Rattle.std.proofs.Common.{◌≡◌, ℕ, ◌+◌, ◌*◌, ◌%◌, ◌<◌, ◌≤◌, Bool, true, false, Option, Some, None, List, length, refl, sym, subst, ◌∙◌, arith}
use Rattle.std.proofs.lemmas.Nat.{mod_below}
use Rattle.std.proofs.lemmas.Option.{slice_get_within}
use Rattle.ldc_link.specs.Calls.{Puts as PutsPacket}
use Rattle.ldc_link.specs.declared.phase.Role.{Role}
use Rattle.ldc_link.specs.declared.phase.Role.TheVariants.{Initiator}
use Rattle.ldc_link.specs.Putting.{behind_put}
use Rattle.ldc_queue.specs.declared.end.ChannelState.TheVariants.{Up}
use Rattle.ldc_queue.specs.Transcript.{Utterance}
use Rattle.vio_handshake.specs.declared.handshake.Handshake.{Handshake}
use Rattle.vio_handshake.specs.declared.handshake.Phase.{Phase}
use Rattle.vio_handshake.specs.Rules.{opens_by_put}
use Rattle.vio_tag.specs.declared.message.Message.{Message}
use Rattle.lane_models.specs.EndPuts.{PutKind, handshake_behind, put_opens}
use Rattle.lane_models.specs.Seeing.{Seen}
use Rattle.cookie_copy.specs.Reach.{Reach}
use Rattle.lane_models.proofs.EndStanding.{held_stands}
use Rattle.lane_models.proofs.PacketsLeft.{held_packets, loud_none, owing_none, own_most, says_packets}
use Rattle.lane_models.specs.EndStep.{EndSays, Holding, Holds}
use Rattle.lane_models.specs.PacketsLeft.{own_in}
use Rattle.lane_models.specs.Standing.{EndStands, is_open_in}
use Rattle.lane_models.proofs.Refuting.{false_true, none_some, of_some}
use Rattle.lane_models.proofs.Ruling.{says_of}
use Rattle.lane_models.specs.EndLog.{EndLog}
use Rattle.lane_models.specs.Fetching.{Fetched, fetched}
use Rattle.lane_models.specs.NetEndPutting.{announcement, answers, cleared_by_put, groups_answer, holding, holding_own, net_holds, net_kind, net_opens, net_put, opened_by_put}
use Rattle.lane_models.specs.Groups.{membership}
use Rattle.lane_models.specs.NetEndRule.{Announces, Fetches, NetRule, Publishes, Puts, Replies, Says, Tells, port_rule}
use Rattle.lane_models.specs.NetEndState.{Activity, GroupsReply, NetEndState, NetSession, unseen_in}
use Rattle.lane_models.specs.NetEndStep.{NetLeft, NetPublishes, NetSends, leaves, published}
use Rattle.port_laws.specs.NetCore.{net_core}
use Rattle.port_laws.specs.Remaining.{end_left, groups_left, put_weight, ready_slots, ready_weight, session_left}
use Rattle.port_laws.proofs.EndMoves.{HeldCore, held_core, puts_behind, says_core}
use Rattle.port_laws.proofs.RemainingReady.{cleared_none, published_more}
use Rattle.port_laws.proofs.StepCounts.{Acting, counts_stand}
use Rattle.port_laws.proofs.PutCounts.{not_some}

-- AN END THAT IS UP, with so many frames more: what remains falls by so much, and it holds no more frames
abbrev pub up_left : Role → ℕ → List ℕ → NetEndState → ℕ
up_left role more memory s = end_left Up role more memory s

abbrev pub own_left : Role → ℕ → List ℕ → NetEndState → ℕ
own_left role more memory s = session_left role s.slots (length s.frames + more) memory s.session

-- IT HOLDS a message: one of its session comes with a packet more, and what is left of the session falls by as much
abbrev OwnLess : Role → ℕ → List ℕ → NetEndState → Holding → NetEndState → Type 0
OwnLess role more memory s what held = own_left role more memory held + put_weight role * own_in what ≤ own_left role more memory s

no_less : (role : Role) (n own : ℕ) → own ≡ 0 → n + put_weight role * own ≤ n
no_less role n own none = grind arith

pub answers_less : (role : Role) (frames few many groups own : ℕ) → few + own ≤ many → frames + put_weight role * few + groups + put_weight role * own ≤ frames + put_weight role * many + groups
answers_less role frames few many groups own less = grind arith

-- with the session as it was
in_session_less : (role : Role) (more : ℕ) (memory : List ℕ) (s : NetEndState) (message : Message) (p q : NetSession) (what : Holding) → s.session ≡ Some p
    → session_left role s.slots (length s.frames + more) memory (Some q) + put_weight role * own_in what ≤ session_left role s.slots (length s.frames + more) memory (Some p)
    → OwnLess role more memory s what (holding_own message q s)
in_session_less role more memory s message p q what is less = grind arith

pub groups_same : (role : Role) (p q : NetSession) → q.untold ≡ p.untold → groups_left role (Some q) ≡ groups_left role (Some p)
groups_same role p q same = grind arith

replies_less : (role : Role) (more : ℕ) (memory : List ℕ) (s : NetEndState) (p : NetSession) (reply : GroupsReply) (what : Holding) → p.reply ≡ Some reply
    → session_left role s.slots (length s.frames + more) memory (Some (record p { reply = None })) + put_weight role * own_in what
    ≤ session_left role s.slots (length s.frames + more) memory (Some p)
replies_less role more memory s p reply what is = grind (arith, answers_less, own_most, groups_same)

tells_less : (role : Role) (more : ℕ) (memory : List ℕ) (s : NetEndState) (p : NetSession) (what : Holding) → role ≡ Initiator → p.untold ≡ true
    → session_left role s.slots (length s.frames + more) memory (Some (record p { untold = false; telling = true })) + put_weight role * own_in what
    ≤ session_left role s.slots (length s.frames + more) memory (Some p)
tells_less role more memory s p what is untold = grind (arith, own_most)

announces_less : (role : Role) (more : ℕ) (memory : List ℕ) (s : NetEndState) (p : NetSession) (what : Holding) → p.seen < p.published → p.asking ≡ false
    → session_left role s.slots (length s.frames + more) memory (Some (record p { infos = p.infos + 1; asking = true })) + put_weight role * own_in what
    ≤ session_left role s.slots (length s.frames + more) memory (Some p)
announces_less role more memory s p what some quiet = grind (arith, own_most, groups_same)

slot_less : (role : Role) (more : ℕ) (memory : List ℕ) (s : NetEndState) (p : NetSession) (activity : Activity) (last : Option ℕ) (found : Fetched) (held : NetEndState) (what : Holding)
    → s.session ≡ Some p → p.active ≡ Some activity → activity.last ≡ last → answers s p activity last found ≡ Some held → OwnLess role more memory s what held
slot_less role more memory s p activity last found held what is active some same =
    grind (arith, of_some, in_session_less, answers_less, own_most, groups_same, none_some)

own_less : (role : Role) (more : ℕ) (memory : List ℕ) (s : NetEndState) (at : Seen) (reach : Reach) (rule : NetRule) (held : NetEndState) (what : Holding)
    → port_rule role s at ≡ rule → net_holds rule s reach ≡ Some held → Holds (net_core role s) what (net_core role held) → OwnLess role more memory s what held
own_less role more memory s at reach Puts held what is same holds =
    let none = loud_none (net_core role s) (net_core role held) what (says_of role s at Puts is).1 holds in
    of_some (OwnLess role more memory s what) s held same (no_less role (own_left role more memory s) (own_in what) none)
own_less role more memory s at reach (Says message) held what is same holds =
    let none = owing_none (net_core role s) (net_core role held) message what (says_of role s at (Says message) is).2 holds in
    of_some (OwnLess role more memory s what) (holding message s) held same (no_less role (own_left role more memory s) (own_in what) none)
own_less role more memory s at reach (Replies p reply) held what is same holds =
    grind (arith, says_of role s at (Replies p reply) is, of_some, in_session_less, replies_less)
own_less role more memory s at reach (Fetches p activity) held what is same holds =
    let says = says_of role s at (Fetches p activity) is in
    slot_less role more memory s p activity activity.last (fetched s reach p.place) held what says.0.session says.1 refl same
own_less role more memory s at reach (Tells p) held what is same holds =
    grind (arith, says_of role s at (Tells p) is, of_some, in_session_less, tells_less)
own_less role more memory s at reach (Announces p) held what is same holds =
    grind (arith, says_of role s at (Announces p) is, of_some, in_session_less, announces_less)
own_less role more memory s at reach _ held what is same holds = none_some held same

sum_less : (role : Role) (few many own left less : ℕ) → few ≤ many + own → left + put_weight role * own ≤ less → put_weight role * few + left ≤ put_weight role * many + less
sum_less role few many own left less packets rest = grind arith

pub blocked_left : (role : Role) (more : ℕ) (memory : List ℕ) (s : NetEndState) (at : Seen) (reach : Reach) (held : NetEndState) (turns : List Utterance) → EndStands role (net_core role s) turns
    → HeldCore role s held → net_holds (port_rule role s at) s reach ≡ Some held → up_left role more memory held ≤ up_left role more memory s
blocked_left role more memory s at reach held turns ends core same =
    sum_less _ _ _ _ _ _ (held_packets role (net_core role s) (net_core role held) turns core.what ends core.holds)
    (own_less role more memory s at reach (port_rule role s at) held core.what refl same core.holds)

-- what its link holds doesn't change its ring
slots_some : (s held one : NetEndState) → Some one ≡ Some held → one.slots ≡ s.slots → held.slots ≡ s.slots
slots_some s held one same is = of_some (λ (x : NetEndState). x.slots ≡ s.slots) one held same is

pub held_slots : (s : NetEndState) (reach : Reach) (rule : NetRule) (held : NetEndState) → net_holds rule s reach ≡ Some held → held.slots ≡ s.slots
held_slots s reach (Fetches p activity) held same = slot_slots activity.last (fetched s reach p.place) same
  where
    slot_slots : (last : Option ℕ) (found : Fetched) → answers s p activity last found ≡ Some held → held.slots ≡ s.slots
    slot_slots last found is = grind (arith, slots_some, none_some)
held_slots s reach Puts held same = slots_some s held s same refl
held_slots s reach (Says message) held same = slots_some s held (holding message s) same refl
held_slots s reach (Replies p reply) held same = slots_some s held (holding_own (groups_answer s reply) (record p { reply = None }) s) same refl
held_slots s reach (Tells p) held same = slots_some s held (holding_own (membership s.handshake.draft.sid s.groups) (record p { untold = false; telling = true }) s) same refl
held_slots s reach (Announces p) held same = slots_some s held (holding_own (announcement s p) (record p { infos = p.infos + 1; asking = true }) s) same refl
held_slots s reach _ held same = none_some held same

-- IT PUTS. A guest's session opens by a packet that it puts only where none was open, and clears its ring.
last_shut : (role : Role) (at : Phase) → opens_by_put role at ≡ true → is_open_in at ≡ false
last_shut role at opens = grind (arith, false_true)

pub kind_shut : (kind : PutKind) (h : Handshake) → put_opens kind h ≡ true → is_open_in h.phase ≡ false
kind_shut kind h opens = grind (arith, last_shut, false_true)

opened_left : (role : Role) (opens : Bool) (more : ℕ) (memory : List ℕ) (s : NetEndState) → (opens ≡ true → s.session ≡ None)
    → own_left role more (cleared_by_put role opens s.slots memory) (opened_by_put role opens s) ≤ own_left role more memory s
opened_left role opens more memory s shut = grind (arith, cleared_none)

sum_puts : (role : Role) (few many own left less : ℕ) → few + 1 ≤ many + own → left + put_weight role * own ≤ less
    → put_weight role * few + left + put_weight role ≤ put_weight role * many + less
sum_puts role few many own left less packets rest = grind arith

put_left : (role : Role) (more : ℕ) (memory : List ℕ) (s : NetEndState) (at : Seen) (reach : Reach) (held : NetEndState) (packet : List ℕ) (turns : List Utterance)
    → EndStands role (net_core role s) turns → HeldCore role s held → net_holds (port_rule role s at) s reach ≡ Some held → PutsPacket held.link packet (behind_put held.link)
    → up_left role more (cleared_by_put role (net_opens held) s.slots memory) (net_put role held) + put_weight role ≤ up_left role more memory s
put_left role more memory s at reach held packet turns ends core same puts =
    let says : EndSays role (net_core role s) packet (net_opens held) (net_core role (net_put role held)) = says_core role s held packet core puts in
    let now : NetEndState = record held { link = behind_put held.link; handshake = handshake_behind (net_kind held) held.handshake } in
    let held_so = held_stands role (net_core role s) (net_core role held) turns core.what ends core.holds in
    let shut : net_opens held ≡ true → held.session ≡ None =
    λ opens. not_some held.session (held_so.opened ∙ kind_shut (net_kind held) held.handshake opens) in
    let slots : held.slots ≡ s.slots = held_slots s reach (port_rule role s at) held same in
    let opened = opened_left role (net_opens held) more memory now shut in
    let cleared : own_left role more (cleared_by_put role (net_opens held) s.slots memory) (net_put role held) ≤ own_left role more memory held =
    subst (λ (n : ℕ). own_left role more (cleared_by_put role (net_opens held) n memory) (net_put role held) ≤ own_left role more memory held) slots opened in
    let own = own_less role more memory s at reach (port_rule role s at) held core.what refl same core.holds in
    sum_puts _ _ _ _ _ _ (says_packets role (net_core role s) (net_core role (net_put role held)) turns packet
    (net_opens held) ends says) (omega (arith, cleared, own))

-- WHAT A STEP LEAVES at an end that acts
abbrev pub Lowers : Role → ℕ → List ℕ → NetEndState → NetLeft → Type 0
Lowers role by memory s left = (more : ℕ) → up_left role more left.own left.end + by ≤ up_left role more memory s

pub sends_lower : (role : Role) (slots : ℕ) (queue : List (List ℕ)) (s : NetEndState) (l : EndLog) (turns : List Utterance) (at : Seen) (memory : List ℕ) (reach : Reach) (packet : List ℕ) (opens : Bool)
    (t : NetLeft) → Acting role slots queue s l turns → NetSends role s at memory reach packet opens t → Lowers role (put_weight role) memory s t
sends_lower role slots queue s l turns at memory reach packet opens t acting step =
    let held : NetEndState = step.held in
    let core : HeldCore role s held = held_core role s at reach (port_rule role s at) held acting.fits refl step.holds in
    let puts : PutsPacket held.link packet (behind_put held.link) =
    subst (PutsPacket held.link packet) (puts_behind held.link packet t.end.link step.packet) step.packet in
    subst (Lowers role (put_weight role) memory s) (sym step.is) (λ more. put_left role more memory s at reach held packet turns acting.ends core step.holds puts)

pub blocks_lower : (role : Role) (slots : ℕ) (queue : List (List ℕ)) (s : NetEndState) (l : EndLog) (turns : List Utterance) (at : Seen) (memory : List ℕ) (reach : Reach) (t : NetLeft)
    → Acting role slots queue s l turns → net_holds (port_rule role s at) s reach ≡ Some t.end → t ≡ leaves t.end memory reach → Lowers role 0 memory s t
blocks_lower role slots queue s l turns at memory reach t acting same is =
    let core : HeldCore role s t.end = held_core role s at reach (port_rule role s at) t.end acting.fits refl same in
    subst (Lowers role 0 memory s) (sym is) (λ more. let less = blocked_left role more memory s at reach t.end turns acting.ends core same in omega (arith, less))

-- IT PUBLISHES a frame
ready_less : (role : Role) (fresh asks ready few many more rest : ℕ) → fresh ≡ few + 1 → asks ≤ many + 1 → ready ≤ more + 1
    → 8 * few + put_weight role * asks + ready_weight role * ready + rest + 1 ≤ 8 * fresh + put_weight role * many + ready_weight role * more + rest
ready_less role fresh asks ready few many more rest one two three = grind arith

published_left : (role : Role) (more : ℕ) (memory new : List ℕ) (s : NetEndState) (p : NetSession) → p.seen ≤ p.published → unseen_in p < length s.frames
    → ready_slots s.slots new ≤ ready_slots s.slots memory + 1
    → session_left role s.slots (length s.frames + more) new (Some (published p)) + 1 ≤ session_left role s.slots (length s.frames + more) memory (Some p)
published_left role more memory new s p seen within ready = grind (arith, ready_less, groups_same)

pub publishes_lower : (role : Role) (slots : ℕ) (queue : List (List ℕ)) (s : NetEndState) (l : EndLog) (turns : List Utterance) (at : Seen) (memory : List ℕ) (reach : Reach) (id : ℕ)
    (t : NetLeft) → Acting role slots queue s l turns → 8192 + 2048 * slots ≤ length memory → NetPublishes role s at memory reach id t → Lowers role 1 memory s t
publishes_lower role slots queue s l turns at memory reach id t acting room step =
    let p : NetSession = step.session in
    let says = says_of role s at (Publishes p step.frame) step.rule in
    let within : unseen_in p < length s.frames = slice_get_within s.frames (unseen_in p) step.frame says.1 in
    let slots_is : s.slots ≡ slots = acting.counts.slots_is in
    let some : 1 ≤ s.slots = omega (arith, slots_is, acting.slots_fit.some) in
    let ready = published_more s.slots (p.published % s.slots) step.frame memory (mod_below p.published s.slots some) (omega (arith, slots_is, acting.slots_fit.most)) (omega (arith, slots_is, room)) in
    grind (arith, published_left, counts_stand)
