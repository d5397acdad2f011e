-- What always holds of an end stays so where it puts, but for its frames.
use Rattle.std.proofs.Common.{◌≡◌, ℕ, ◌+◌, ◌<◌, ◌≤◌, Bool, true, false, List, length, Option, Some, None, refl, sym, ap, ◌∙◌, subst, arith}
use Rattle.std.specs.Prelude.{is_none, nat_le}
use Rattle.cookie_copy.specs.Reach.{Reach}
use Rattle.ldc_link.specs.declared.phase.LinkPhase.{LinkPhase}
use Rattle.ldc_link.specs.declared.phase.LinkPhase.TheVariants as phase
use Rattle.ldc_link.specs.declared.phase.Role.{Role}
use Rattle.ldc_link.specs.declared.phase.Role.TheVariants.{Initiator, Responder}
use Rattle.ldc_link.specs.LinkState.{LinkState, is_established, is_up}
use Rattle.ldc_link.specs.Putting.{behind_put, left_behind_put, phase_behind_put}
use Rattle.vio_handshake.specs.declared.handshake.Handshake.{Handshake}
use Rattle.vio_handshake.specs.declared.handshake.Phase.{Phase}
use Rattle.vio_handshake.specs.declared.handshake.Phase.TheVariants as handshake
use Rattle.vio_handshake.specs.Rules.{handshake_sent}
use Rattle.vio_handshake.specs.State.{handshake_up}
use Rattle.vio_tag.specs.declared.message.Message.{Message}
use Rattle.lane_models.specs.EndPuts.{ComesUp, EndsHandshake, EndsOwn, Goes, PutKind, ending, handshake_behind, kind_in, put_opens}
use Rattle.lane_models.specs.Seeing.{Seen}
use Rattle.lane_models.specs.Fetching.{Fetched, IsFrame, NotReady, Refuses, fetched}
use Rattle.lane_models.specs.Groups.{membership}
use Rattle.lane_models.specs.NetEndPutting.{answer, announcement, answers, groups_answer, holding, holding_own, net_holds, net_kind, net_opens, net_put, opened_by_put}
use Rattle.lane_models.specs.NetEndRule.{Announces, Fetches, Idles, Joins, NetRule, Publishes, Puts, Replies, Says, Takes, Tells, port_rule}
use Rattle.lane_models.specs.NetEndState.{Activity, NetEndState, NetSession}
use Rattle.lane_models.proofs.Refuting.{none_some}
use Rattle.lane_models.proofs.Ruling.{says_of}
use Rattle.vnet_port.proofs.HandshakeKept.{HandshakeWent, put_open, sent_open, sent_went, up_version, up_went}
use Rattle.vnet_port.specs.Standing.{Began, Begins, HandshakeStands, IsPhaseOf, IsQuiet, IsSized, LinkStands, SessionStands, Stands}

-- WHAT NO STEP CHANGES: whose end it is, its slots and the next id
pub record Fixed : Type 0 where
  pub role : Role
  pub slots : ℕ
  pub next_id : ℕ

abbrev pub fixed_of : NetEndState → Fixed
fixed_of s = record { role = s.link.role; slots = s.slots; next_id = s.next_id }

-- what always holds, but for the frames
pub record Core (s : NetEndState) : Type 0 where
  pub sized : IsSized s.slots s.next_id (length s.groups)
  pub link : LinkStands s.link
  pub handshake : HandshakeStands s.link.role s.address s.slots s.handshake
  pub began : Began s.link s.handshake s.session
  pub session : SessionStands s.slots s.handshake.phase s.session

pub core_of : (s : NetEndState) → Stands s → Core s
core_of s stands = record { sized = stands.sized; link = stands.link; handshake = stands.handshake; began = stands.began; session = stands.session }

-- after a step of one end
pub record Stays (s t : NetEndState) : Type 0 where
  pub core : Core t
  pub fixed : fixed_of t ≡ fixed_of s

pub both_ways : (b : Bool) → b ≡ true → b ≡ false → ⊥
both_ways b is other = cc

some_same : (one other : NetEndState) → Some one ≡ Some other → one ≡ other
some_same one other is = cc

-- A LINK IS UP where the handshake is through, where its session is open, and where something is owed
up_in : (b : Bool) (k : LinkState) → is_up k ≡ b → (is_up k ≡ false → ⊥) → is_up k ≡ true
up_in true k is never = is
up_in false k is never = absurd (never is)

up_of : (k : LinkState) → (is_up k ≡ false → ⊥) → is_up k ≡ true
up_of k never = up_in (is_up k) k refl never

down_open : (p : Phase) → p ≡ handshake.Down → p ≡ handshake.Open → ⊥
down_open p down opened = cc

pub open_up : (s : NetEndState) → Core s → s.handshake.phase ≡ handshake.Open → is_up s.link ≡ true
open_up s core opened = up_of s.link (λ down. down_open s.handshake.phase (core.began.down down).phase opened)

owed_up : (s : NetEndState) (message : Message) → Core s → s.handshake.owed ≡ Some message → is_up s.link ≡ true
owed_up s message core owed = up_of s.link (λ down. none_some message (sym (core.began.down down).owed ∙ owed))

-- A SESSION that is open
module _ (s : NetEndState) (p : NetSession) (core : Core s) (is : s.session ≡ Some p) where
  stands_as : SessionStands s.slots s.handshake.phase (Some p)
  stands_as = subst (λ (x : Option NetSession). SessionStands s.slots s.handshake.phase x) is core.session

  pub through : s.handshake.phase ≡ handshake.Open
  through = stands_as.0

  pub within : p.place < s.slots
  within = stands_as.1

  pub in_up : is_up s.link ≡ true
  in_up = open_up s core through

-- another session in its place, or one that opens
pub with_core : (s : NetEndState) (q : NetSession) (frames groups : List (List ℕ)) (last : List ℕ) → Core s → s.handshake.phase ≡ handshake.Open → q.place < s.slots → length groups ≤ 7
    → Core (record s { frames = frames; groups = groups; session = Some q; last = last })
with_core s q frames groups last core opened place few = record {
  sized = record { some_slots = core.sized.some_slots; most_slots = core.sized.most_slots; ids = core.sized.ids; groups = few };
  link = core.link;
  handshake = core.handshake;
  began = record { down = λ down. absurd (both_ways (is_up s.link) (open_up s core opened) down); up = core.began.up };
  session = (opened, place);
}

-- WHAT A PUT'S KIND SAYS of the link
abbrev KindSays : PutKind → LinkState → Type 0
KindSays Goes k = is_up (behind_put k) ≡ is_up k
KindSays ComesUp k = k.phase ≡ phase.OwesRdx
KindSays EndsOwn k = is_up k ≡ true
KindSays EndsHandshake k = is_up k ≡ true

ending_says : (ends own : Bool) (k : LinkState) → is_up k ≡ true → is_up (behind_put k) ≡ is_up k → KindSays (ending ends own) k
ending_says false own k up same = same
ending_says true true k up same = up
ending_says true false k up same = up

same_up : (p : LinkPhase) (k : LinkState) → k.phase ≡ p → is_established (phase_behind_put p) ≡ is_established p → is_up (behind_put k) ≡ is_up k
same_up p k is same = ap (λ (q : LinkPhase). is_established (phase_behind_put q)) is ∙ same ∙ sym (ap is_established is)

kind_says : (p : LinkPhase) (k : LinkState) (own : Bool) → k.phase ≡ p → KindSays (kind_in p k own) k
kind_says phase.OwesRdx k own is = is
kind_says phase.Established k own is =
    ending_says (nat_le (length k.to_send) 56) own k (ap is_established is) (same_up phase.Established k is refl)
kind_says p k own is = same_up p k is refl

-- THE LINK after a put
begins_put : (p : LinkPhase) → Begins p → Begins (phase_behind_put p)
begins_put phase.AwaitsVersInfo begins = absurd begins
begins_put phase.OwesVersAck begins = absurd begins
begins_put (phase.OwesVersNack major) begins = absurd begins
begins_put phase.AwaitsRts begins = absurd begins
begins_put phase.OwesRtr begins = absurd begins
begins_put phase.AwaitsRdx begins = absurd begins
begins_put p begins = tt

phase_put : (role : Role) (p : LinkPhase) → IsPhaseOf role p → IsPhaseOf role (phase_behind_put p)
phase_put Initiator p is = begins_put p is
phase_put Responder p is = tt

left_put : (p : LinkPhase) (left : List ℕ) → is_established p ≡ false → left_behind_put p left ≡ left
left_put phase.Established left down = absurd (cc)
left_put p left down = refl

put_link : (k : LinkState) → LinkStands k → LinkStands (behind_put k)
put_link k stands = record { phase = phase_put k.role k.phase stands.phase; seen = stands.seen }

established_put : (k : LinkState) → is_up k ≡ true → is_up (behind_put k) ≡ true
established_put k up = established_in k.phase up
  where
    established_in : (p : LinkPhase) → is_established p ≡ true → is_established (phase_behind_put p) ≡ true
    established_in phase.Established up = refl
    established_in p up = absurd (cc)

-- THE END after it, by its kind
abbrev put_by : NetEndState → PutKind → NetEndState
put_by s kind = record s { link = behind_put s.link; handshake = handshake_behind kind s.handshake }

version_down : (p : Phase) → p ≡ handshake.Version → p ≡ handshake.Down → ⊥
version_down p version down = cc

sent_session : (slots : ℕ) (h : Handshake) (session : Option NetSession) → SessionStands slots h.phase session → SessionStands slots (handshake_sent h).phase session
sent_session slots h None stands = tt
sent_session slots h (Some p) stands = (sent_open h stands.0, stands.1)

module _ (s : NetEndState) (core : Core s) where
  put_goes : is_up (behind_put s.link) ≡ is_up s.link → Core (put_by s Goes)
  put_goes same = record {
    sized = core.sized;
    link = put_link s.link core.link;
    handshake = core.handshake;
    began = record {
      down = λ down.
          let was : is_up s.link ≡ false = sym same ∙ down in
          let quiet : IsQuiet s.link s.handshake s.session = core.began.down was in
          record { phase = quiet.phase; owed = quiet.owed; to_send = left_put s.link.phase s.link.to_send was ∙ quiet.to_send; closed = quiet.closed };
      up = λ up. core.began.up (sym same ∙ up);
    };
    session = core.session;
  }

  put_up : s.link.phase ≡ phase.OwesRdx → Core (put_by s ComesUp)
  put_up is =
      let up : is_up (behind_put s.link) ≡ true = ap (λ (p : LinkPhase). is_established (phase_behind_put p)) is in
      let quiet : IsQuiet s.link s.handshake s.session = core.began.down (ap is_established is) in
      record {
        sized = core.sized;
        link = put_link s.link core.link;
        handshake = (up_went s.link.role s.address s.slots s.handshake core.handshake).stands;
        began = record {
          down = λ down. absurd (both_ways (is_up (behind_put s.link)) up down);
          up = λ _ down. version_down (handshake_up s.handshake).phase (up_version s.handshake) down;
        };
        session = subst (λ (x : Option NetSession). SessionStands s.slots (handshake_up s.handshake).phase x) (sym quiet.closed) tt;
      }

  put_own : is_up s.link ≡ true → Core (put_by s EndsOwn)
  put_own up = record {
    sized = core.sized;
    link = put_link s.link core.link;
    handshake = core.handshake;
    began = record {
      down = λ down. absurd (both_ways (is_up (behind_put s.link)) (established_put s.link up) down);
      up = λ _. core.began.up up;
    };
    session = core.session;
  }

  put_handshake : is_up s.link ≡ true → Core (put_by s EndsHandshake)
  put_handshake up =
      let went : HandshakeWent s.link.role s.address s.slots s.handshake (handshake_sent s.handshake) = sent_went s.link.role s.address s.slots s.handshake core.handshake in
      record {
        sized = core.sized;
        link = put_link s.link core.link;
        handshake = went.stands;
        began = record {
          down = λ down. absurd (both_ways (is_up (behind_put s.link)) (established_put s.link up) down);
          up = λ _. went.began (core.began.up up);
        };
        session = sent_session s.slots s.handshake s.session core.session;
      }

  put_core : (kind : PutKind) → KindSays kind s.link → Core (put_by s kind)
  put_core Goes says = put_goes says
  put_core ComesUp says = put_up says
  put_core EndsOwn says = put_own says
  put_core EndsHandshake says = put_handshake says

-- the session opens by it
opens_open : (kind : PutKind) (h : Handshake) → put_opens kind h ≡ true → (handshake_behind kind h).phase ≡ handshake.Open
opens_open EndsHandshake h opens = put_open h opens
opens_open Goes h opens = absurd (cc opens)
opens_open ComesUp h opens = absurd (cc opens)
opens_open EndsOwn h opens = absurd (cc opens)

opened_core : (role : Role) (opens : Bool) (s : NetEndState) → Core s → (opens ≡ true → s.handshake.phase ≡ handshake.Open) → Stays s (opened_by_put role opens s)
opened_core Initiator true s core opened =
    let some = core.sized.some_slots in
    record { core = with_core s _ s.frames s.groups s.last core (opened refl) (omega arith) core.sized.groups; fixed = refl }
opened_core Initiator false s core opened = record { core = core; fixed = refl }
opened_core Responder opens s core opened = record { core = core; fixed = refl }

pub put_stays : (role : Role) (s held : NetEndState) → Stays s held → Stays s (net_put role held)
put_stays role s held stays =
    let opened : Stays (put_by held (net_kind held)) (net_put role held) =
    opened_core role (net_opens held) (put_by held (net_kind held))
    (put_core held stays.core (net_kind held) (kind_says held.link.phase held.link (is_none held.handshake.owed) refl))
    (opens_open (net_kind held) held.handshake) in
    record { core = opened.core; fixed = opened.fixed ∙ stays.fixed }

-- WHAT IS HELD: the end with the message in its link that the rule is to put
holding_core : (s : NetEndState) (message : Message) → Core s → is_up s.link ≡ true → Core (holding message s)
holding_core s message core up = record {
  sized = core.sized;
  link = record { phase = core.link.phase; seen = core.link.seen };
  handshake = core.handshake;
  began = record { down = λ down. absurd (both_ways (is_up s.link) up down); up = core.began.up };
  session = core.session;
}

own_stays : (s : NetEndState) (message : Message) (p q : NetSession) → Core s → s.session ≡ Some p → q.place ≡ p.place → Stays s (holding_own message q s)
own_stays s message p q core is place =
    let held : NetEndState = holding message s in
    let below : p.place < s.slots = within s p core is in
    record {
      core = with_core held q s.frames s.groups s.last (holding_core s message core (in_up s p core is)) (through s p core is) (omega (arith, place, below)) core.sized.groups;
      fixed = refl;
    }

answers_stay : (s : NetEndState) (p : NetSession) (activity : Activity) (last : Option ℕ) (found : Fetched) (held : NetEndState) → Core s → s.session ≡ Some p
    → answers s p activity last found ≡ Some held → Stays s held
answers_stay s p activity (Some last) (NotReady state) held core is same =
    subst (Stays s) (some_same _ held same) (own_stays s (answer s activity last) p (record p { active = None }) core is refl)
answers_stay s p activity (Some last) (IsFrame frame new) held core is same = none_some held same
answers_stay s p activity (Some last) (Refuses why) held core is same = none_some held same
answers_stay s p activity None found held core is same = none_some held same

pub held_stays : (role : Role) (s : NetEndState) (at : Seen) (r : Reach) (rule : NetRule) (held : NetEndState) → Core s → port_rule role s at ≡ rule
    → net_holds rule s r ≡ Some held → Stays s held
held_stays role s at r Puts held core is same = subst (Stays s) (some_same s held same) (record { core = core; fixed = refl })
held_stays role s at r (Says message) held core is same =
    let says = says_of role s at (Says message) is in
    subst (Stays s) (some_same (holding message s) held same) (record { core = holding_core s message core (owed_up s message core says.2); fixed = refl })
held_stays role s at r (Replies p reply) held core is same =
    let says = says_of role s at (Replies p reply) is in
    subst (Stays s) (some_same _ held same) (own_stays s (groups_answer s reply) p (record p { reply = None }) core says.0.session refl)
held_stays role s at r (Fetches p activity) held core is same =
    let says = says_of role s at (Fetches p activity) is in
    answers_stay s p activity activity.last (fetched s r p.place) held core says.0.session same
held_stays role s at r (Tells p) held core is same =
    let says = says_of role s at (Tells p) is in
    subst (Stays s) (some_same _ held same)
    (own_stays s (membership s.handshake.draft.sid s.groups) p (record p { untold = false; telling = true }) core says.0.in_session.session refl)
held_stays role s at r (Announces p) held core is same =
    let says = says_of role s at (Announces p) is in
    subst (Stays s) (some_same _ held same)
    (own_stays s (announcement s p) p (record p { infos = p.infos + 1; asking = true }) core says.0.in_session.session refl)
held_stays role s at r Joins held core is same = none_some held same
held_stays role s at r (Takes packet) held core is same = none_some held same
held_stays role s at r (Publishes p frame) held core is same = none_some held same
held_stays role s at r Idles held core is same = none_some held same
