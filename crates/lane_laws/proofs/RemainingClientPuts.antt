-- What a client has left of its session as it holds a message, puts a packet, publishes or completes a request: with the packets that its end has
-- still to put, what remains falls.
use Rattle.std.proofs.Common.{◌≡◌, ℕ, ◌+◌, ◌-◌, ◌*◌, ◌≤◌, Bool, true, false, Option, Some, None, List, length, drop, refl, sym, ◌∙◌, subst, arith, length-drop}
use Rattle.std.specs.Prelude.{is_some, max}
use Rattle.ldc_link.specs.declared.phase.LinkPhase.{LinkPhase}
use Rattle.ldc_link.specs.declared.phase.Role.TheVariants.{Initiator}
use Rattle.ldc_link.specs.LinkState.{LinkState}
use Rattle.ldc_queue.specs.declared.end.ChannelState.TheVariants.{Up}
use Rattle.ldc_queue.specs.Transcript.{Utterance}
use Rattle.vio_handshake.specs.Rules.{opens_by_put}
use Rattle.lane_models.specs.ClientPutting.{announced, client_holds, client_kind, client_put, is_announcing, opened_if, session_behind}
use Rattle.lane_models.specs.ClientRule.{Announces, ClientRule, Completes, Publishes, client_rule}
use Rattle.lane_models.specs.ClientState.{ClientSession, ClientState}
use Rattle.lane_models.specs.ClientStep.{ClientCompletes, ClientPublishes, ClientSends}
use Rattle.lane_models.specs.EndPuts.{ComesUp, EndsOwn, EndsHandshake, Goes, PutKind, kind_in}
use Rattle.lane_models.specs.Seeing.{Seen}
use Rattle.lane_models.proofs.EndStanding.{held_stands}
use Rattle.lane_models.proofs.PacketsLeft.{opening_shut, says_packets, stays_packets, waits_packets}
use Rattle.lane_models.specs.EndCore.{EndCore}
use Rattle.lane_models.specs.EndStep.{Holding, Holds}
use Rattle.lane_models.specs.PacketsLeft.{own_in}
use Rattle.lane_models.specs.Standing.{EndStands}
use Rattle.lane_laws.proofs.ClientHolding.{client_held}
use Rattle.lane_laws.proofs.ClientMoves.{client_completed, client_published, client_says, client_waits}
use Rattle.lane_laws.proofs.ClientSteps.{client_sends, front_some}
use Rattle.lane_laws.proofs.RulesFree.{puts_owe}
use Rattle.lane_laws.proofs.Ruling.{client_may}
use Rattle.lane_laws.proofs.Sharing.{in_order}
use Rattle.lane_laws.specs.Budget.{infos_begun, one_if}
use Rattle.lane_laws.specs.ChannelEnds.{client_core}
use Rattle.lane_laws.specs.Remaining.{client_remaining, client_packets, requests_left, total}
use Rattle.lane_laws.specs.RuleFacts.{ClientMay}
use Rattle.lane_laws.specs.Sound.{ClientSound, CountsInOrder, SessionInOrder}
use Rattle.lane_laws.proofs.Requesting.{got_below}

-- WHAT ITS SESSION HAS LEFT, where the server was asked for so many requests
abbrev pub session_left : ℕ → Option ClientSession → ℕ → ℕ
session_left pending session asked = requests_left pending session + 12 * (total pending session - asked)

-- it begins so many INFO, and what is left falls by two for each, and by so much more
pub record ClientSpends (own by : ℕ) (s t : ClientState) : Type 0 where
  pub pending : length t.pending ≤ length s.pending
  pub infos : infos_begun t.session ≡ infos_begun s.session + own
  pub left : (asked : ℕ) → session_left (length t.pending) t.session asked + (2 * own + by) ≤ session_left (length s.pending) s.session asked

-- with its end, which put so many packets
pub record ClientFalls (put by : ℕ) (s t : ClientState) : Type 0 where
  pub own : ℕ
  pub packets : client_packets t + put ≤ client_packets s + own
  pub spends : ClientSpends own by s t

-- what remains at a client that is up falls by so much
pub record ClientLowers (by : ℕ) (s t : ClientState) : Type 0 where
  pub pending : length t.pending ≤ length s.pending
  pub lowers : (asked : ℕ) → client_remaining Up asked t + by ≤ client_remaining Up asked s

pub falls_lower : (put by : ℕ) (s t : ClientState) → ClientFalls put by s t → ClientLowers (2 * put + by) s t
falls_lower put by s t falls = grind arith

pub session_spends : (own by : ℕ) (s t : ClientState) (open_one : Option ClientSession) → s.session ≡ open_one → length t.pending ≤ length s.pending
    → infos_begun t.session ≡ infos_begun open_one + own
    → ((asked : ℕ) → session_left (length t.pending) t.session asked + (2 * own + by) ≤ session_left (length s.pending) open_one asked) → ClientSpends own by s t
session_spends own by s t open_one is pending infos left = grind arith

pub same_spends : (s t : ClientState) → t.pending ≡ s.pending → t.session ≡ s.session → ClientSpends 0 0 s t
same_spends s t pending session = grind arith

then_spends : (own : ℕ) (s h t : ClientState) → ClientSpends own 0 s h → ClientSpends 0 0 h t → ClientSpends own 0 s t
then_spends own s h t first next = grind arith

-- IT HOLDS a message: an INFO where it announces
abbrev begun_by : ClientRule → ℕ
begun_by (Announces session) = 1
begun_by _ = 0

holds_spend : (s : ClientState) (at : Seen) (rule : ClientRule) (held : ClientState) (turns : List Utterance) → ClientMay s at rule → client_holds rule s ≡ Some held → ClientSound s
    → EndStands Initiator (client_core s) turns → ClientSpends (begun_by rule) 0 s held
holds_spend s at rule held turns may holds sound stands = grind arith

own_begun : (s : ClientState) (at : Seen) (rule : ClientRule) (held : ClientState) (core : EndCore) (what : Holding) → client_rule s at ≡ rule → ClientMay s at rule
    → client_holds rule s ≡ Some held → Holds (client_core s) what core → own_in what ≤ begun_by rule
own_begun s at rule held core what is_holds may holds is = grind (arith, puts_owe)

-- IT PUTS a packet: all that is published is announced by the last of its INFO, and its session may open by one of its handshake
own_in_kind : (ph : LinkPhase) (k : LinkState) (own : Bool) → kind_in ph k own ≡ EndsOwn → own ≡ true
own_in_kind ph k own is = grind arith

abbrev behind : ClientState → Option ClientSession → ClientState
behind c session = record (client_put c) { session = session }

announced_spends : (c : ClientState) (open_one : Option ClientSession) → c.session ≡ open_one → is_announcing open_one ≡ true → CountsInOrder (length c.pending) open_one
    → ClientSpends 0 0 c (behind c (announced open_one))
announced_spends c open_one is own counts = grind arith

opened_spends : (b : Bool) (c : ClientState) → (b ≡ true → c.session ≡ None) → ClientSpends 0 0 c (behind c (opened_if b c))
opened_spends true c closed = session_spends 0 0 c (behind c (opened_if true c)) None (closed refl) (omega arith) refl (λ asked. omega arith)
opened_spends false c closed = same_spends c (behind c (opened_if false c)) refl refl

kind_spends : (kind : PutKind) (c : ClientState) → (kind ≡ EndsOwn → is_announcing c.session ≡ true) → (opens_by_put c.handshake.role c.handshake.phase ≡ true → c.session ≡ None)
    → CountsInOrder (length c.pending) c.session → ClientSpends 0 0 c (behind c (session_behind kind c))
kind_spends EndsOwn c own closed counts = announced_spends c c.session refl (own refl) counts
kind_spends EndsHandshake c own closed counts = opened_spends (opens_by_put c.handshake.role c.handshake.phase) c closed
kind_spends Goes c own closed counts = same_spends c (behind c c.session) refl refl
kind_spends ComesUp c own closed counts = same_spends c (behind c c.session) refl refl

shut_none : (open_one : Option ClientSession) → is_some open_one ≡ false → open_one ≡ None
shut_none None shut = refl
shut_none (Some session) shut = absurd (cc shut)

put_spends : (c : ClientState) (turns : List Utterance) → ClientSound c → EndStands Initiator (client_core c) turns → ClientSpends 0 0 c (client_put c)
put_spends c turns sound stands =
    kind_spends (client_kind c) c (own_in_kind c.link.phase c.link (is_announcing c.session))
    (λ opens. shut_none c.session (stands.opened ∙ (opening_shut c.handshake.role c.handshake.phase opens).1)) sound.counts

pub blocked_falls : (s : ClientState) (at : Seen) (held : ClientState) (turns : List Utterance) → client_holds (client_rule s at) s ≡ Some held → ClientSound s
    → EndStands Initiator (client_core s) turns → ClientFalls 0 0 s held
blocked_falls s at held turns holds sound stands =
    let may = client_may s at in
    let waits = client_waits s at held sound holds in
    record {
      own = begun_by (client_rule s at);
      packets = omega (
        arith,
        waits_packets Initiator (client_core s) (client_core held) turns stands waits,
        own_begun s at (client_rule s at) held (client_core held) waits.what refl may holds waits.holds,
      );
      spends = holds_spend s at (client_rule s at) held turns may holds sound stands;
    }

pub sends_falls : (s : ClientState) (at : Seen) (memory packet : List ℕ) (opens : Bool) (t : ClientState) (new : List ℕ) (turns : List Utterance) → ClientSends s at memory packet opens t new
    → ClientSound s → EndStands Initiator (client_core s) turns → ClientFalls 1 0 s t
sends_falls s at memory packet opens t new turns sends sound stands =
    let may = client_may s at in
    let held = client_held s at (client_rule s at) sends.held may sends.holds sound in
    let waits = client_waits s at sends.held sound sends.holds in
    let says = client_says s at memory packet opens t new sound (client_sends s at memory packet opens t new sound sends) sends in
    record {
      own = begun_by (client_rule s at);
      packets = omega (
        arith,
        says_packets Initiator (client_core s) (client_core t) turns packet opens stands says,
        own_begun s at (client_rule s at) sends.held says.held says.what refl may sends.holds says.holds,
      );
      spends = subst (ClientSpends (begun_by (client_rule s at)) 0 s) (sym sends.is)
          (then_spends (begun_by (client_rule s at)) s sends.held (client_put sends.held) (holds_spend s at (client_rule s at) sends.held turns may sends.holds sound stands)
          (put_spends sends.held turns held (held_stands Initiator (client_core s) (client_core sends.held) turns waits.what stands waits.holds)));
    }

-- IT PUBLISHES a request
published_sum : (pending completed published announced rest : ℕ) → published + 1 ≤ pending + completed
    → ((pending + completed) - (published + 1)) + 2 * ((pending + completed) - announced) + pending + rest + (2 * 0 + 1)
    ≤ ((pending + completed) - published) + 2 * ((pending + completed) - announced) + pending + rest
published_sum pending completed published announced rest some = omega (arith, some)

pub publishes_falls : (s : ClientState) (at : Seen) (memory : List ℕ) (id : ℕ) (t : ClientState) (new : List ℕ) → ClientSound s → ClientPublishes s at memory id t new → ClientFalls 0 1 s t
publishes_falls s at memory id t new sound step =
    let may : ClientMay s at (Publishes step.session step.request) = subst (ClientMay s at) step.rule (client_may s at) in
    let session : ClientSession = step.session in
    let counts : SessionInOrder (length s.pending) session = in_order (length s.pending) s.session session may.1 sound.counts in
    let some = got_below s.pending (session.published - session.completed) step.request may.2 in
    record {
      own = 0;
      packets = omega (arith, stays_packets (client_core s) (client_core t) (client_published s at memory id t new step));
      spends = subst (ClientSpends 0 1 s) (sym step.is)
          (session_spends 0 1 s (record s { ever_published = max s.ever_published (id + 1); session = Some (record session { published = session.published + 1 }) }) (Some session) may.1
          (omega arith) (omega arith)
          (λ asked. published_sum (length s.pending) session.completed session.published (session.announced + one_if session.announcing)
          (12 * ((length s.pending + session.completed) - asked)) (omega (arith, counts.completed, counts.acked, counts.announced, some))));
    }

-- IT COMPLETES one
completed_sum : (few many completed published announced asked : ℕ) → few + 1 ≡ many
    → ((few + (completed + 1)) - published) + 2 * ((few + (completed + 1)) - announced) + few + 12 * ((few + (completed + 1)) - asked) + (2 * 0 + 1)
    ≤ ((many + completed) - published) + 2 * ((many + completed) - announced) + many + 12 * ((many + completed) - asked)
completed_sum few many completed published announced asked one = grind arith

pub completes_falls : (s : ClientState) (at : Seen) (memory : List ℕ) (id operation status : ℕ) (bytes : List ℕ) (t : ClientState) (new : List ℕ)
    → ClientCompletes s at memory id operation status bytes t new → ClientFalls 0 1 s t
completes_falls s at memory id operation status bytes t new step =
    let may : ClientMay s at (Completes step.session) = subst (ClientMay s at) step.rule (client_may s at) in
    let session : ClientSession = step.session in
    let some = front_some s.pending step.request step.front in
    let less = length-drop 1 s.pending in
    record {
      own = 0;
      packets = omega (arith, stays_packets (client_core s) (client_core t) (client_completed s at memory id operation status bytes t new step));
      spends = subst (ClientSpends 0 1 s) (sym step.is)
          (session_spends 0 1 s (record s { pending = drop 1 s.pending; session = Some (record session { completed = session.completed + 1 }); last = bytes }) (Some session) may.1
          (omega (arith, less)) (omega arith)
          (λ asked. completed_sum (length (drop 1 s.pending)) (length s.pending) session.completed session.published (session.announced + one_if session.announcing) asked
          (omega (arith, less, some))));
    }
