-- A client stands as it should after a put.
use Rattle.std.proofs.Common.{◌≡◌, ◌≢◌, ℕ, ◌≤◌, Bool, true, false, List, [], ◌∷◌, length, drop, Option, Some, None, is_some, refl, ◌∙◌, ap, subst, arith, length-drop}
use Rattle.std.specs.Prelude.{nat_le}
use Rattle.std.proofs.lemmas.Bool.{le-leb, leb-true}
use Rattle.std.proofs.lemmas.List.{drop_all}
use Rattle.ldc_link.specs.declared.phase.LinkPhase.{LinkPhase}
use Rattle.ldc_link.specs.declared.phase.LinkPhase.TheVariants as phase
use Rattle.ldc_link.specs.declared.phase.Role.{Role}
use Rattle.ldc_link.specs.declared.phase.Role.TheVariants.{Initiator, Responder}
use Rattle.ldc_link.specs.LinkState.{LinkState, is_established, is_up}
use Rattle.ldc_link.specs.Putting.{begun_behind_put, left_behind_put, number_behind_put, phase_behind_put}
use Rattle.vio_handshake.proofs.WellFormed.{sent_owes, up_owes}
use Rattle.vio_handshake.specs.declared.handshake.Handshake.{Handshake}
use Rattle.vio_handshake.specs.declared.handshake.Phase.{Phase}
use Rattle.vio_handshake.specs.declared.handshake.Phase.TheVariants.{Open, PeerReadyTaken}
use Rattle.vio_handshake.specs.Rules.{opens_by_put, put_in, handshake_sent}
use Rattle.vio_handshake.specs.State.{handshake_up}
use Rattle.vio_tag.proofs.Canonical.{length_canonical}
use Rattle.vio_tag.specs.declared.message.Message.{Message}
use Rattle.vio_tag.specs.Spelling.{canonical}
use Rattle.lane_models.specs.ClientPutting.{announced, announcement, announcing, client_holds, client_put, holding, is_announcing, opened_if, session_behind}
use Rattle.lane_models.specs.ClientRule.{Announces, ClientRule, Completes, Joins, Publishes, Puts, Idles, Says, Takes, client_rule}
use Rattle.lane_models.specs.ClientState.{ClientSession, ClientState}
use Rattle.lane_models.specs.EndPuts.{ending, kind_in, handshake_behind}
use Rattle.lane_models.specs.Seeing.{Seen}
use Rattle.vdisk_client.proofs.Rules.{Known, Unannounced, rule_known}
use Rattle.vdisk_client.proofs.Handshaking.{HandshakeKeeps, begun_keeps, sent_keeps, up_begins}
use Rattle.vdisk_client.proofs.Standing.{not_true}
use Rattle.vdisk_client.specs.Standing.{CountsStand, IsBegun, IsInitiators, IsQuiet, SessionStands, Stands}

-- what a put leaves of the link but its phase, its numbers and its message
pub record SameLink (k m : LinkState) : Type 0 where
  pub role : m.role ≡ k.role
  pub whole : m.whole ≡ k.whole

none_announces : (session : Option ClientSession) → session ≡ None → is_announcing session ≡ true → ⊥
none_announces session is own = absurd (cc (own, ap is_announcing is))

-- a packet of the link's handshake
down_stands : (s : ClientState) (m : LinkState) → Stands s → is_up s.link ≡ false → SameLink s.link m → m.to_send ≡ s.link.to_send → IsInitiators m.phase → is_up m ≡ false
    → Stands (record s { link = m })
down_stands s m stands down same left phase still =
    let quiet : IsQuiet s.link s.handshake s.session = stands.transcript.quiet down in
    record {
      transcript = record {
        link = same.role ∙ stands.transcript.link;
        phase = phase;
        no_message = same.whole ∙ stands.transcript.no_message;
        handshake = stands.transcript.handshake;
        begun = λ up. absurd (not_true (is_up m) up still);
        opened = stands.transcript.opened;
        quiet = λ _. record { owed = quiet.owed; closed = quiet.closed; to_send = left ∙ quiet.to_send };
        holds = λ some. absurd (some (left ∙ quiet.to_send));
        announces = λ own. absurd (none_announces s.session quiet.closed own);
        owed = stands.transcript.owed;
      };
      requests = stands.requests;
      session = stands.session;
    }

none_open : (session : Option ClientSession) → session ≡ None → is_some session ≡ true → ⊥
none_open session is some = absurd (cc (some, ap is_some is))

-- RDX, by which the link comes up
up_stands : (s : ClientState) (m : LinkState) → Stands s → is_up s.link ≡ false → SameLink s.link m → m.to_send ≡ s.link.to_send → IsInitiators m.phase → is_up m ≡ true
    → Stands (record s { link = m; handshake = handshake_up s.handshake })
up_stands s m stands down same left phase up =
    let quiet : IsQuiet s.link s.handshake s.session = stands.transcript.quiet down in
    let begins : IsBegun (handshake_up s.handshake) × ((handshake_up s.handshake).role ≡ s.handshake.role) = up_begins s.handshake stands.transcript.handshake in
    record {
      transcript = record {
        link = same.role ∙ stands.transcript.link;
        phase = phase;
        no_message = same.whole ∙ stands.transcript.no_message;
        handshake = begins.1 ∙ stands.transcript.handshake;
        begun = λ _. begins.0;
        opened = λ some. absurd (none_open s.session quiet.closed some);
        quiet = λ other. absurd (not_true (is_up m) up other);
        holds = λ some. absurd (some (left ∙ quiet.to_send));
        announces = λ own. absurd (none_announces s.session quiet.closed own);
        owed = up_owes s.handshake stands.transcript.owed;
      };
      requests = stands.requests;
      session = stands.session;
    }

-- a part that isn't the last
part_stands : (s : ClientState) (m : LinkState) → Stands s → is_up s.link ≡ true → SameLink s.link m → (m.to_send ≢ [] → s.link.to_send ≢ []) → m.to_send ≢ [] → IsInitiators m.phase → is_up m ≡ true
    → Stands (record s { link = m })
part_stands s m stands was same left more phase up = record {
  transcript = record {
    link = same.role ∙ stands.transcript.link;
    phase = phase;
    no_message = same.whole ∙ stands.transcript.no_message;
    handshake = stands.transcript.handshake;
    begun = λ _. stands.transcript.begun was;
    opened = stands.transcript.opened;
    quiet = λ other. absurd (not_true (is_up m) up other);
    holds = λ some. stands.transcript.holds (left some);
    announces = λ own. more;
    owed = stands.transcript.owed;
  };
  requests = stands.requests;
  session = stands.session;
}

announced_counts : (pending next : ℕ) (session : Option ClientSession) → SessionStands pending next session → is_announcing session ≡ true → SessionStands pending next (announced session)
announced_counts pending next None stands own = tt
announced_counts pending next (Some session) stands own = record {
  completed = stands.completed;
  acked = omega (arith, stands.acked, stands.announced);
  announced = omega arith;
  published = stands.published;
  ids = stands.ids;
  infos = omega (arith, stands.infos, stands.announcing own);
  announcing = λ other. absurd (cc other);
}

announced_open : (session : Option ClientSession) → is_some (announced session) ≡ true → is_some session ≡ true
announced_open None some = some
announced_open (Some session) some = refl

announced_not : (session : Option ClientSession) → is_announcing (announced session) ≡ true → ⊥
announced_not None own = absurd (cc own)
announced_not (Some session) own = absurd (cc own)

-- the last part of the client's own INFO
own_stands : (s : ClientState) (m : LinkState) → Stands s → is_up s.link ≡ true → SameLink s.link m → m.to_send ≡ [] → IsInitiators m.phase → is_up m ≡ true → is_announcing s.session ≡ true
    → Stands (record s { link = m; session = announced s.session })
own_stands s m stands was same left phase up own = record {
  transcript = record {
    link = same.role ∙ stands.transcript.link;
    phase = phase;
    no_message = same.whole ∙ stands.transcript.no_message;
    handshake = stands.transcript.handshake;
    begun = λ _. stands.transcript.begun was;
    opened = λ some. stands.transcript.opened (announced_open s.session some);
    quiet = λ other. absurd (not_true (is_up m) up other);
    holds = λ some. absurd (some left);
    announces = λ other. absurd (announced_not s.session other);
    owed = stands.transcript.owed;
  };
  requests = stands.requests;
  session = announced_counts (length s.pending) s.next_id s.session stands.session own;
}

opens_open : (role : Role) (p : Phase) (h : Handshake) → opens_by_put role p ≡ true → (put_in role p h).phase ≡ Open
opens_open Initiator PeerReadyTaken h opens = refl
opens_open Initiator p h opens = absurd (cc opens)
opens_open Responder p h opens = absurd (cc opens)

session_open : (b : Bool) (s : ClientState) (h : Handshake) → (b ≡ true → h.phase ≡ Open) → (is_some s.session ≡ true → h.phase ≡ Open) → is_some (opened_if b s) ≡ true → h.phase ≡ Open
session_open true s h opens opened some = opens refl
session_open false s h opens opened some = opened some

opened_counts : (b : Bool) (s : ClientState) → length s.pending ≤ s.next_id → SessionStands (length s.pending) s.next_id s.session → SessionStands (length s.pending) s.next_id (opened_if b s)
opened_counts true s ids stands = record {
  completed = omega arith;
  acked = omega arith;
  announced = omega arith;
  published = omega arith;
  ids = omega (arith, ids);
  infos = omega arith;
  announcing = λ other. absurd (cc other);
}
opened_counts false s ids stands = stands

opened_not : (b : Bool) (s : ClientState) → is_announcing s.session ≡ false → is_announcing (opened_if b s) ≡ true → ⊥
opened_not true s other own = absurd (cc own)
opened_not false s other own = absurd (cc (other, own))

-- the last part of what the handshake owed
handshake_stands : (s : ClientState) (m : LinkState) → Stands s → is_up s.link ≡ true → SameLink s.link m → m.to_send ≡ [] → IsInitiators m.phase → is_up m ≡ true → is_announcing s.session ≡ false
    → Stands (record s { link = m; handshake = handshake_sent s.handshake; session = opened_if (opens_by_put s.handshake.role s.handshake.phase) s })
handshake_stands s m stands was same left phase up other =
    let keeps : HandshakeKeeps s.handshake (handshake_sent s.handshake) = sent_keeps s.handshake stands.transcript.handshake in
    record {
      transcript = record {
        link = same.role ∙ stands.transcript.link;
        phase = phase;
        no_message = same.whole ∙ stands.transcript.no_message;
        handshake = keeps.role ∙ stands.transcript.handshake;
        begun = λ _. begun_keeps s.handshake (handshake_sent s.handshake) keeps (stands.transcript.begun was);
        opened = session_open (opens_by_put s.handshake.role s.handshake.phase) s (handshake_sent s.handshake) (opens_open s.handshake.role s.handshake.phase s.handshake) (λ some. keeps.opened (stands.transcript.opened some));
        quiet = λ other. absurd (not_true (is_up m) up other);
        holds = λ some. absurd (some left);
        announces = λ own. absurd (opened_not (opens_by_put s.handshake.role s.handshake.phase) s other own);
        owed = sent_owes s.handshake stands.transcript.owed;
      };
      requests = stands.requests;
      session = opened_counts (opens_by_put s.handshake.role s.handshake.phase) s stands.requests.ids stands.session;
    }

-- the client after a put, where its link was in this phase
abbrev put_at : LinkPhase → ClientState → ClientState
put_at p s = record s {
  link = record s.link {
    phase = phase_behind_put p;
    put_next = number_behind_put p s.link.put_next;
    to_send = left_behind_put p s.link.to_send;
    begun = begun_behind_put p s.link.to_send s.link.begun;
  };
  handshake = handshake_behind (kind_in p s.link (is_announcing s.session)) s.handshake;
  session = session_behind (kind_in p s.link (is_announcing s.session)) s;
}

abbrev part_at : ClientState → LinkState
part_at s = record s.link {
  phase = phase.Established;
  put_next = number_behind_put phase.Established s.link.put_next;
  to_send = drop 56 s.link.to_send;
  begun = begun_behind_put phase.Established s.link.to_send s.link.begun;
}

nothing_left : (message : List ℕ) → drop 56 message ≢ [] → message ≢ []
nothing_left [] some none = some none
nothing_left (byte ∷ message) some none = absurd (cc none)

some_left : (message : List ℕ) → nat_le (length message) 56 ≡ false → drop 56 message ≢ []
some_left message more none =
    let long : length (drop 56 message) ≡ 0 = ap (λ (xs : List ℕ). length xs) none in
    let few : nat_le (length message) 56 ≡ true = le-leb (length message) 56 (omega (arith, long, length-drop 56 message)) in
    absurd (not_true (nat_le (length message) 56) few more)

-- whose message ends, if it does
end_at : (b own : Bool) (s : ClientState) → Stands s → is_up s.link ≡ true → nat_le (length s.link.to_send) 56 ≡ b → is_announcing s.session ≡ own
    → Stands (record s { link = part_at s; handshake = handshake_behind (ending b own) s.handshake; session = session_behind (ending b own) s })
end_at false own s stands up left whose = part_stands s (part_at s) stands up (record { role = refl; whole = refl }) (nothing_left s.link.to_send) (some_left s.link.to_send left) tt refl
end_at true true s stands up left whose =
    own_stands s (part_at s) stands up (record { role = refl; whole = refl }) (drop_all 56 s.link.to_send (leb-true (length s.link.to_send) 56 left)) tt refl whose
end_at true false s stands up left whose =
    handshake_stands s (part_at s) stands up (record { role = refl; whole = refl }) (drop_all 56 s.link.to_send (leb-true (length s.link.to_send) 56 left)) tt refl whose

phase_at : (p : LinkPhase) (s : ClientState) → Stands s → s.link.phase ≡ p → IsInitiators p → Stands (put_at p s)
phase_at phase.OwesVersInfo s stands is begins = down_stands s (put_at phase.OwesVersInfo s).link stands (ap is_established is) (record { role = refl; whole = refl }) refl tt refl
phase_at phase.AwaitsVersAck s stands is begins = down_stands s (put_at phase.AwaitsVersAck s).link stands (ap is_established is) (record { role = refl; whole = refl }) refl tt refl
phase_at phase.OwesRts s stands is begins = down_stands s (put_at phase.OwesRts s).link stands (ap is_established is) (record { role = refl; whole = refl }) refl tt refl
phase_at phase.AwaitsRtr s stands is begins = down_stands s (put_at phase.AwaitsRtr s).link stands (ap is_established is) (record { role = refl; whole = refl }) refl tt refl
phase_at phase.OwesRdx s stands is begins = up_stands s (put_at phase.OwesRdx s).link stands (ap is_established is) (record { role = refl; whole = refl }) refl tt refl
phase_at phase.AwaitsVersInfo s stands is begins = absurd begins
phase_at phase.OwesVersAck s stands is begins = absurd begins
phase_at (phase.OwesVersNack major) s stands is begins = absurd begins
phase_at phase.AwaitsRts s stands is begins = absurd begins
phase_at phase.OwesRtr s stands is begins = absurd begins
phase_at phase.AwaitsRdx s stands is begins = absurd begins
phase_at phase.Established s stands is begins = end_at (nat_le (length s.link.to_send) 56) (is_announcing s.session) s stands (ap is_established is) refl refl

pub put_stands : (s : ClientState) → Stands s → Stands (client_put s)
put_stands s stands = phase_at s.link.phase s stands refl stands.transcript.phase

some_bytes : (message : Message) → canonical message ≢ []
some_bytes message none =
    let long : length (canonical message) ≡ 0 = ap (λ (xs : List ℕ). length xs) none in
    absurd (omega (arith, long, length_canonical message))

-- A MESSAGE THAT THE LINK HOLDS: one that the handshake owes, or the client's own INFO
holding_stands : (s : ClientState) (message : Message) → Stands s → s.handshake.owed ≡ Some message → Stands (holding message s)
holding_stands s message stands owed = record {
  transcript = record {
    link = stands.transcript.link;
    phase = stands.transcript.phase;
    no_message = stands.transcript.no_message;
    handshake = stands.transcript.handshake;
    begun = stands.transcript.begun;
    opened = stands.transcript.opened;
    quiet = λ down. absurd (cc (owed, (stands.transcript.quiet down).owed));
    holds = λ _ _. ap is_some owed;
    announces = λ _. some_bytes message;
    owed = stands.transcript.owed;
  };
  requests = stands.requests;
  session = stands.session;
}

announcing_stands : (s : ClientState) (session : ClientSession) (message : Message) → Stands s → Unannounced s session → Stands (announcing session (holding message s))
announcing_stands s session message stands says =
    let counts : CountsStand (length s.pending) s.next_id session = subst (λ (x : Option ClientSession). SessionStands (length s.pending) s.next_id x) says.is_open stands.session in
    record {
      transcript = record {
        link = stands.transcript.link;
        phase = stands.transcript.phase;
        no_message = stands.transcript.no_message;
        handshake = stands.transcript.handshake;
        begun = stands.transcript.begun;
        opened = λ _. stands.transcript.opened (ap is_some says.is_open);
        quiet = λ down. absurd (cc (says.is_open, (stands.transcript.quiet down).closed));
        holds = λ _ other. absurd (cc other);
        announces = λ _. some_bytes message;
        owed = stands.transcript.owed;
      };
      requests = stands.requests;
      session = record {
        completed = counts.completed;
        acked = counts.acked;
        announced = counts.announced;
        published = counts.published;
        ids = counts.ids;
        infos = counts.infos;
        announcing = λ _. says.some;
      };
    }

held_by : (s : ClientState) (at : Seen) (rule : ClientRule) (held : ClientState) → Stands s → Known s at rule → client_holds rule s ≡ Some held → Stands held
held_by s at Puts held stands knows is = let same : s ≡ held = cc is in subst Stands same stands
held_by s at (Says message) held stands knows is = let same : holding message s ≡ held = cc is in subst Stands same (holding_stands s message stands knows.0)
held_by s at (Announces session) held stands knows is =
    let same : announcing session (holding (announcement s session) s) ≡ held = cc is in
    subst Stands same (announcing_stands s session (announcement s session) stands knows)
held_by s at Joins held stands knows is = absurd (cc is)
held_by s at (Completes session) held stands knows is = absurd (cc is)
held_by s at (Takes packet) held stands knows is = absurd (cc is)
held_by s at (Publishes session request) held stands knows is = absurd (cc is)
held_by s at Idles held stands knows is = absurd (cc is)

pub held_stands : (s : ClientState) (at : Seen) (held : ClientState) → Stands s → client_holds (client_rule s at) s ≡ Some held → Stands held
held_stands s at held stands is = held_by s at (client_rule s at) held stands (rule_known s at) is
