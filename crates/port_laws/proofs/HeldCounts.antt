-- A message that an end forms is counted as said: the end notes it, and it is right to say.
use Rattle.std.proofs.Common.{◌≡◌, ℕ, ◌+◌, ◌^◌, ◌<◌, ◌≤◌, Bool, true, false, Option, Some, None, List, [], length, refl, subst, ap, arith}
use Rattle.std.specs.Prelude.{◌%◌, is_none}
use Rattle.std.proofs.Math.Nat.{mod-lt}
use Rattle.ldc_packet.specs.declared.packet.Subtype.{Subtype}
use Rattle.ldc_packet.specs.declared.packet.Subtype.TheVariants.{Info}
use Rattle.ldc_packet.specs.Spelling.{subtype_code}
use Rattle.ldc_link.specs.declared.phase.Role.{Role}
use Rattle.ldc_link.specs.declared.phase.Role.TheVariants.{Initiator, Responder}
use Rattle.ldc_link.specs.Putting.{owes}
use Rattle.vio_tag.proofs.Canonical.{length_canonical}
use Rattle.vio_tag.specs.declared.message.Message.{Message}
use Rattle.vio_tag.specs.Spelling.{canonical}
use Rattle.lane_models.specs.Seeing.{Seen}
use Rattle.cookie_copy.specs.Reach.{Reach}
use Rattle.lane_models.proofs.Refuting.{false_true, none_some, of_some, true_false}
use Rattle.lane_models.proofs.Ruling.{says_of}
use Rattle.lane_models.specs.EndLog.{EndLog, SessionLog, said_kind}
use Rattle.lane_models.specs.Fetching.{Fetched, NotReady, fetched}
use Rattle.lane_models.specs.Groups.{membership, seven}
use Rattle.lane_models.specs.NetEndPutting.{announcement, answer, answers, groups_answer, holding_own, net_holds}
use Rattle.lane_models.specs.NetEndRule.{Announces as AnnouncesRule, Fetches, NetRule, Puts, Replies, Says, Tells, port_rule}
use Rattle.lane_models.specs.NetEndState.{Activity, GroupsReply, NetEndState, NetSession}
use Rattle.lane_models.specs.RuleFacts.{IsFreeIn}
use Rattle.lane_models.specs.Spoken.{GroupsInfo, RangeAck, RangeInfo, Spoken, groups_spoken, spoken}
use Rattle.port_laws.specs.Counted.{ActiveCounts, AnswersFor, AnswersRightly, Counts, EndCounts, GuestCounts, GuestGroups, IsAnswer, PeerCounts, RingCounts, SaysRightly, SessionCounts, left_of, unsaid}
use Rattle.port_laws.specs.NetFits.{AddressesAreShort, NetFits, ReplyFits}
use Rattle.port_laws.proofs.EndCounting.{OpenCounts, guest_same, open_empty, own_left}
use Rattle.port_laws.proofs.OwnBytes.{end_is, groups_spoken_as, membership_reads, membership_says, range_spoken_as, reply_read, seq_is, start_is, state_is}
use Rattle.port_laws.proofs.ShortMessages.{announcement_short, answer_short, membership_short, reply_short}
use Rattle.port_laws.proofs.EndMoves.{reply_of}

-- a ring has 1 to 64 slots
pub record SlotsFit (slots : ℕ) : Type 0 where
  pub some : 1 ≤ slots
  pub most : slots ≤ 64

small_slot : (n slots : ℕ) → SlotsFit slots → n % slots < 2 ^ 32
small_slot n slots fit = grind (arith, mod-lt)

-- AN END that formed a message of its session
pub record Forms (role : Role) (slots : ℕ) (s : NetEndState) (p q : NetSession) (v : SessionLog) (published gone : ℕ) (message : Message) (k : Spoken) : Type 0 where
  pub owed : s.handshake.owed ≡ None
  pub short : length (canonical message) ≤ 56
  pub kind : spoken (canonical message) ≡ k
  pub right : SaysRightly slots s.groups v (canonical message) k
  pub ring : RingCounts q published gone (said_kind k (canonical message) v)
  pub peer : PeerCounts slots q (said_kind k (canonical message) v)
  pub guest : GuestCounts role q s.groups (said_kind k (canonical message) v)
  pub reply : AnswersRightly q.reply (said_kind k (canonical message) v).owed

formed : (role : Role) (slots : ℕ) (queue : List (List ℕ)) (s : NetEndState) (l : EndLog) (p q : NetSession) (v : SessionLog) (message : Message) (k : Spoken) → EndCounts role slots queue s l
    → l.session ≡ Some v → Forms role slots s p q v l.published l.gone message k → EndCounts role slots queue (holding_own message q s) l
formed role slots queue s l p q v message k counts log forms = grind (arith, length_canonical, own_left)

-- THE ANSWER to groups is the one that is owed
said_none : (s : Subtype) (message : List ℕ) (v : SessionLog) → IsAnswer s → said_kind (groups_spoken (subtype_code s)) message v ≡ record v { owed = None }
said_none s message v is = grind arith

replies_forms : (role : Role) (slots : ℕ) (s : NetEndState) (p : NetSession) (v : SessionLog) (published gone : ℕ) (reply : GroupsReply) (begun : Bool) → s.handshake.owed ≡ None → ReplyFits reply → AnswersFor reply v.owed
    → SessionCounts role slots s.groups published gone None begun p v
    → Forms role slots s p (record p { reply = None }) v published gone (groups_answer s reply) (groups_spoken (subtype_code reply.subtype))
replies_forms role slots s p v published gone reply begun owed given answers counts =
    grind (arith, said_none, reply_short, groups_spoken_as, reply_read, guest_same)

-- THE ANSWER to a ring
answers_forms : (role : Role) (slots : ℕ) (s : NetEndState) (p : NetSession) (v : SessionLog) (published gone : ℕ) (activity : Activity) (last : ℕ) (begun : Bool) → s.handshake.owed ≡ None
    → s.slots ≡ slots → SlotsFit slots → ActiveCounts slots v (Some activity) → activity.last ≡ Some last
    → SessionCounts role slots s.groups published gone None begun p v → Forms role slots s p (record p { active = None }) v published gone (answer s activity last) RangeAck
answers_forms role slots s p v published gone activity last begun owed same fit active is counts =
    grind (arith, small_slot, answer_short, range_spoken_as, seq_is, state_is, start_is, end_is, guest_same)

-- ITS GROUPS
tells_forms : (slots : ℕ) (s : NetEndState) (p : NetSession) (v : SessionLog) (published gone : ℕ) (begun : Bool) → s.handshake.owed ≡ None → AddressesAreShort s.groups → GuestGroups Initiator s.groups → p.untold ≡ true
    → SessionCounts Initiator slots s.groups published gone None begun p v
    → Forms Initiator slots s p (record p { untold = false; telling = true }) v published gone (membership s.handshake.draft.sid s.groups) GroupsInfo
tells_forms slots s p v published gone begun owed short groups untold counts =
    record {
      owed = owed;
      short = membership_short s.handshake.draft.sid s.groups short;
      kind = groups_spoken_as Info s.handshake.draft.sid 1 (length s.groups) (seven 7 s.groups);
      right = (counts.guest.behind untold, membership_says s.handshake.draft.sid s.groups groups);
      ring = record { all = counts.ring.all; left = counts.ring.left; here = counts.ring.here; seen = counts.ring.seen; infos = counts.ring.infos; asking = counts.ring.asking };
      peer = record { seq = counts.peer.seq; place = counts.peer.place; active = counts.peer.active };
      guest = record {
        named = λ is. ap (λ (x : List (List ℕ)). Some x) (membership_reads s.handshake.draft.sid s.groups groups);
        behind = λ is. false_true is;
        waits = λ is. (refl, refl);
        answered = λ is fresh. true_false is;
      };
      reply = counts.reply;
    }

-- AN INFO of its own ring
announces_forms : (role : Role) (slots : ℕ) (s : NetEndState) (p : NetSession) (v : SessionLog) (published gone : ℕ) (begun : Bool) → s.handshake.owed ≡ None → s.slots ≡ slots → SlotsFit slots
    → p.seen < p.published → p.asking ≡ false → SessionCounts role slots s.groups published gone None begun p v
    → Forms role slots s p (record p { infos = p.infos + 1; asking = true }) v published gone (announcement s p) RangeInfo
announces_forms role slots s p v published gone begun owed same fit less asking counts =
    grind (arith, small_slot, announcement_short, range_spoken_as, seq_is, start_is, end_is, state_is, guest_same)

-- AN END whose handshake's message the link holds
none_begun : (role : Role) (slots : ℕ) (groups : List (List ℕ)) (published gone : ℕ) (b c : Bool) (session : Option NetSession) (log : Option SessionLog)
    → Counts role slots groups published gone None b session log → Counts role slots groups published gone None c session log
none_begun role slots groups published gone b c session log counts = grind arith

-- with another link and handshake, where nothing of the session is held before and after
pub linked_counts : (role : Role) (slots : ℕ) (queue : List (List ℕ)) (s t : NetEndState) (l : EndLog) → EndCounts role slots queue s l → unsaid s ≡ None → unsaid t ≡ None → t.slots ≡ s.slots
    → t.frames ≡ s.frames → t.next_id ≡ s.next_id → t.groups ≡ s.groups → t.session ≡ s.session → EndCounts role slots queue t l
linked_counts role slots queue s t l counts left after same frames next groups session = grind (arith, none_begun)

owed_unsaid : (s : NetEndState) (message : Message) → s.handshake.owed ≡ Some message → unsaid s ≡ None
owed_unsaid s message is = ap (λ (x : Option Message). left_of (is_none x) s.link.to_send) is

-- THE RULE that forms one
pub record Holding (role : Role) (slots : ℕ) (queue : List (List ℕ)) (s : NetEndState) (l : EndLog) : Type 0 where
  pub counts : EndCounts role slots queue s l
  pub fits : NetFits role s
  pub slots_fit : SlotsFit slots
  -- a link that owes nothing holds nothing
  pub empty : owes s.link ≡ false → s.link.to_send ≡ []

opened_here : (role : Role) (slots : ℕ) (queue : List (List ℕ)) (s : NetEndState) (l : EndLog) (at : Seen) (p : NetSession) → Holding role slots queue s l → IsFreeIn s at p
    → OpenCounts role slots s.groups l.published l.gone None s.link.begun p l.session
opened_here role slots queue s l at p holding free = open_empty role slots queue s l p holding.counts free.session (holding.empty free.free.quiet)

slot_counts : (role : Role) (slots : ℕ) (queue : List (List ℕ)) (s : NetEndState) (l : EndLog) (at : Seen) (p : NetSession) (activity : Activity) (last : Option ℕ) (found : Fetched) (held : NetEndState)
    → Holding role slots queue s l → IsFreeIn s at p → p.active ≡ Some activity → activity.last ≡ last → answers s p activity last found ≡ Some held → EndCounts role slots queue held l
slot_counts role slots queue s l at p activity (Some last) (NotReady state) held holding free active is same =
    let here = opened_here role slots queue s l at p holding free in
    of_some (λ (x : NetEndState). EndCounts role slots queue x l) _ held same
    (formed role slots queue s l p (record p { active = None }) here.of_log (answer s activity last) RangeAck holding.counts here.is
    (answers_forms role slots s p here.of_log l.published l.gone activity last s.link.begun free.free.owed holding.counts.slots_is holding.slots_fit
    (subst (ActiveCounts slots here.of_log) active here.counts.peer.active) is here.counts))
slot_counts role slots queue s l at p activity _ _ held holding free active is same = none_some held same

tells_counts : (role : Role) (slots : ℕ) (queue : List (List ℕ)) (s : NetEndState) (l : EndLog) (at : Seen) (p : NetSession) → Holding role slots queue s l → IsFreeIn s at p → role ≡ Initiator → p.untold ≡ true
    → EndCounts role slots queue (holding_own (membership s.handshake.draft.sid s.groups) (record p { untold = false; telling = true }) s) l
tells_counts Initiator slots queue s l at p holding free guest untold =
    let here = opened_here Initiator slots queue s l at p holding free in
    formed Initiator slots queue s l p (record p { untold = false; telling = true }) here.of_log (membership s.handshake.draft.sid s.groups) GroupsInfo holding.counts here.is
    (tells_forms slots s p here.of_log l.published l.gone s.link.begun free.free.owed holding.fits.groups holding.counts.groups untold here.counts)
tells_counts Responder slots queue s l at p holding free guest untold = absurd (cc guest)

pub held_counts : (role : Role) (slots : ℕ) (queue : List (List ℕ)) (s : NetEndState) (l : EndLog) (at : Seen) (reach : Reach) (rule : NetRule) (held : NetEndState) → Holding role slots queue s l
    → port_rule role s at ≡ rule → net_holds rule s reach ≡ Some held → EndCounts role slots queue held l
held_counts role slots queue s l at reach Puts held holding is same = of_some (λ (x : NetEndState). EndCounts role slots queue x l) s held same holding.counts
held_counts role slots queue s l at reach (Says message) held holding is same =
    grind (arith, says_of role s at (Says message) is, of_some, linked_counts, owed_unsaid)
held_counts role slots queue s l at reach (Replies p reply) held holding is same =
    let says = says_of role s at (Replies p reply) is in
    let here = opened_here role slots queue s l at p holding says.0 in
    of_some (λ (x : NetEndState). EndCounts role slots queue x l) _ held same
    (formed role slots queue s l p (record p { reply = None }) here.of_log (groups_answer s reply) (groups_spoken (subtype_code reply.subtype)) holding.counts here.is
    (replies_forms role slots s p here.of_log l.published l.gone reply s.link.begun says.0.free.owed (reply_of s p reply holding.fits.session says.0.session says.1)
    (subst (λ (o : Option GroupsReply). AnswersRightly o here.of_log.owed) says.1 here.counts.reply) here.counts))
held_counts role slots queue s l at reach (Fetches p activity) held holding is same =
    let says = says_of role s at (Fetches p activity) is in
    slot_counts role slots queue s l at p activity activity.last (fetched s reach p.place) held holding says.0 says.1 refl same
held_counts role slots queue s l at reach (Tells p) held holding is same =
    let says = says_of role s at (Tells p) is in
    of_some (λ (x : NetEndState). EndCounts role slots queue x l) _ held same (tells_counts role slots queue s l at p holding says.0.in_session says.1 says.2)
held_counts role slots queue s l at reach (AnnouncesRule p) held holding is same =
    let says = says_of role s at (AnnouncesRule p) is in
    let here = opened_here role slots queue s l at p holding says.0.in_session in
    of_some (λ (x : NetEndState). EndCounts role slots queue x l) _ held same
    (formed role slots queue s l p (record p { infos = p.infos + 1; asking = true }) here.of_log (announcement s p) RangeInfo holding.counts here.is
    (announces_forms role slots s p here.of_log l.published l.gone s.link.begun says.0.in_session.free.owed holding.counts.slots_is holding.slots_fit says.1 says.2 here.counts))
held_counts role slots queue s l at reach _ held holding is same = none_some held same
