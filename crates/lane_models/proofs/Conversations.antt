-- Each act of an end keeps the conversation of the two.
use Rattle.std.proofs.Common.{◌≡◌, ℕ, ◌+◌, ◌≤◌, Bool, true, false, ◌⊎◌, List, [], ◌∷◌, ◌++◌, length, drop, Some, refl, sym, ap, subst, arith, length-append}
use Rattle.std.specs.Prelude.{slice_get}
use Rattle.ldc_packet.specs.declared.packet.Body.TheVariants.{Rdx}
use Rattle.ldc_packet.specs.declared.packet.Subtype.TheVariants.{Info}
use Rattle.ldc_packet.specs.Spelling.{canonical}
use Rattle.ldc_link.proofs.Following.{takes_follow}
use Rattle.ldc_link.proofs.FollowingPuts.{puts_follow}
use Rattle.ldc_link.specs.declared.phase.LinkPhase.{LinkPhase}
use Rattle.ldc_link.specs.declared.phase.Role.{Role}
use Rattle.ldc_link.specs.declared.phase.Role.TheVariants.{Initiator, Responder}
use Rattle.ldc_link.specs.LinkState.{LinkState, fresh_link}
use Rattle.ldc_link.specs.Putting.{control}
use Rattle.ldc_queue.proofs.Streams.{stream_step}
use Rattle.ldc_queue.specs.declared.end.ChannelState.{ChannelState}
use Rattle.ldc_queue.specs.declared.end.ChannelState.TheVariants.{Up}
use Rattle.ldc_queue.specs.declared.end.End.TheVariants.{A}
use Rattle.ldc_queue.specs.Numbered.{is_numbered, numbered}
use Rattle.ldc_queue.specs.QueueEvent.{Close, Join, Lose, Put, Take}
use Rattle.ldc_queue.specs.QueueLog.{WaitsLongest, lost_behind, lost_past}
use Rattle.ldc_queue.specs.Transcript.{Utterance}
use Rattle.ldc_queue.specs.Wire.{peer_behind, queue_behind, upset}
use Rattle.lane_models.specs.WireLog.{lossy_behind}
use Rattle.lane_models.proofs.Budgets.{anew_budget, budget_small, says_budget, stays_budget, waits_budget}
use Rattle.lane_models.proofs.EndCases.{PutControl, PutMore, PutOwn, PutReady, PutHandshake, PutWhat, end_put, end_took}
use Rattle.lane_models.proofs.EndStanding.{held_stands, stands_step}
use Rattle.lane_models.proofs.FewLost.{below_turn, few_begins, few_lost, few_lower, few_peer_lost, few_peer_put, few_peer_took, few_put, few_took, first_length, first_unnumbered, live_lower, live_small, unnumbered-append, up_budget, up_puts, up_takes}
use Rattle.lane_models.proofs.LinkCases.{ControlPut, LinkHeard, behind_part, canonical_is, put_quiet, ready_loud}
use Rattle.lane_models.proofs.UtteranceCases.{SaysPart}
use Rattle.lane_models.specs.Budget.{budget}
use Rattle.lane_models.specs.Conversing.{FewAreLost, Converse, controls, live_budget, live_puts, live_takes, puts_left, queue_log, takes_left, unless, unnumbered}
use Rattle.lane_models.specs.EndCore.{EndCore, Hears}
use Rattle.lane_models.specs.EndStep.{EndAnew, EndHears, EndSays, EndStays, EndWaits, Holding, Holds}
use Rattle.lane_models.specs.Sides.{Sides, anew, goes_on, missed, other, put, shut, swapped, took}
use Rattle.lane_models.specs.Standing.{EndStands, IsPhaseOf}

-- FROM THE OTHER SIDE
pub swap_converse : (role : Role) (s : Sides) → Converse role s → Converse (other role) (swapped s)
swap_converse role s c = grind arith

-- IT GOES ON beside the wire
goes_left : (role : Role) (s : Sides) (t : EndCore) → t.link.phase ≡ s.mine.core.link.phase
    → (controls role (goes_on t s) ≡ controls role s) × (controls (other role) (swapped (goes_on t s)) ≡ controls (other role) (swapped s))
goes_left Initiator s t same = (ap (live_takes s.mine.state) same, ap (λ (p : LinkPhase). live_puts s.mine.state p + unnumbered s.theirs.waiting) same)
goes_left Responder s t same = (refl, refl)

goes_converse : (role : Role) (s : Sides) (t : EndCore) → t.link.phase ≡ s.mine.core.link.phase → budget t ≤ budget s.mine.core → Converse role s → Converse role (goes_on t s)
goes_converse role s t same less c =
    let left = goes_left role s t same in
    let lower = live_lower s.mine.state (budget t) (budget s.mine.core) less in
    record {
      entries = c.entries;
      lost_mine = c.lost_mine;
      lost_theirs = c.lost_theirs;
      whole = c.whole;
      stream = c.stream;
      to_mine = record {
        left = omega (arith, left.0, c.to_mine.left);
        queue = c.to_mine.queue;
        few = few_lower _ _ _ _ _ _ _ _ _ c.to_mine.few (omega arith) lower (omega (arith, left.0));
      };
      to_theirs = record {
        left = omega (arith, left.1, c.to_theirs.left);
        queue = c.to_theirs.queue;
        few = few_lower _ _ _ _ _ _ _ _ _ c.to_theirs.few lower (omega arith) (omega (arith, left.1));
      };
    }

pub stays_converse : (role : Role) (s : Sides) (t : EndCore) → EndStays s.mine.core t → Converse role s → Converse role (goes_on t s)
stays_converse role s t stays c = goes_converse role s t (ap (λ (k : LinkState). k.phase) stays.link) (stays_budget s.mine.core t stays) c

pub held_phase : (c held : EndCore) (what : Holding) → Holds c what held → held.link.phase ≡ c.link.phase
held_phase c held what is = grind arith

pub waits_converse : (role : Role) (s : Sides) (t : EndCore) → EndStands role s.mine.core s.mine.utterances → EndWaits s.mine.core t → Converse role s → Converse role (goes_on t s)
waits_converse role s t stands waits c =
    goes_converse role s t (held_phase s.mine.core t waits.what waits.holds) (waits_budget role s.mine.core t s.mine.utterances stands waits) c

-- IT PUTS a packet: an initiator comes nearer to the end of its link's handshake
record PutAdvances (has_number : Bool) (before after : LinkPhase) : Type 0 where
  puts : puts_left after + unless has_number 0 ≤ puts_left before
  takes : takes_left after ≤ takes_left before

with_number : (b : Bool) → b ≡ true → unless b 0 ≡ 0
with_number b is = ap (λ (x : Bool). unless x 0) is

control_advances : (before next : LinkPhase) (bytes : List ℕ) → IsPhaseOf Initiator before → ControlPut before bytes next → PutAdvances false before next
control_advances before next bytes of put_holds = grind arith

numbered_advances : (b : Bool) (before after : LinkPhase) → b ≡ true → puts_left after ≤ puts_left before → takes_left after ≤ takes_left before → PutAdvances b before after
numbered_advances b before after is puts takes = record { puts = omega (arith, puts, with_number b is); takes = takes }

put_ready : (held : EndCore) (turns : List Utterance) (packet : List ℕ) → EndStands Initiator held turns → packet ≡ canonical (control Info held.link.put_next Rdx)
    → is_numbered packet ≡ true
put_ready held turns packet stands spelled =
    (ready_loud packet Info (canonical_is packet Info held.link.put_next Rdx tt (omega (arith, stands.link.follows.puts), tt) spelled)).0

part_advances : (held t : EndCore) (packet : List ℕ) → t.link ≡ behind_part held.link → SaysPart held.link packet → PutAdvances (is_numbered packet) held.link.phase t.link.phase
part_advances held t packet link part = grind arith

put_advances : (held t : EndCore) (turns : List Utterance) (packet : List ℕ) (opens : Bool) → EndStands Initiator held turns → PutWhat Initiator held turns packet opens t
    → PutAdvances (is_numbered packet) held.link.phase t.link.phase
put_advances held t turns packet opens stands (PutControl next gone link quiet handshake not is_open) =
    subst (λ (p : LinkPhase). PutAdvances (is_numbered packet) held.link.phase p) (sym (ap (λ (k : LinkState). k.phase) link))
    (subst (λ (b : Bool). PutAdvances b held.link.phase next) (sym (put_quiet held.link.phase packet next stands.link.follows.offers gone).0)
    (control_advances held.link.phase next packet stands.link.of_role gone))
put_advances held t turns packet opens stands (PutReady role_is at spelled link quiet handshake not is_open) =
    let now = ap (λ (k : LinkState). k.phase) link in
    numbered_advances (is_numbered packet) held.link.phase t.link.phase (put_ready held turns packet stands spelled)
    (omega (arith, ap puts_left now)) (omega (arith, ap takes_left now))
put_advances held t turns packet opens stands (PutMore at link more handshake not is_open) = part_advances held t packet link more.part
put_advances held t turns packet opens stands (PutOwn own at link last handshake not is_open) = part_advances held t packet link last.part
put_advances held t turns packet opens stands (PutHandshake own at link last handshake flag is_open) = part_advances held t packet link last.part

put_left : (role : Role) (s : Sides) (held t : EndCore) (packet : List ℕ) (opens : Bool) → s.mine.state ≡ Up → held.link.phase ≡ s.mine.core.link.phase
    → EndStands role held s.mine.utterances → PutWhat role held s.mine.utterances packet opens t
    → (controls role (put packet t s) ≤ controls role s) × (controls (other role) (swapped (put packet t s)) ≤ controls (other role) (swapped s))
put_left Initiator s held t packet opens up same stands what =
    let advances = put_advances held t s.mine.utterances packet opens stands what in
    let puts = ap puts_left same in
    let takes = ap takes_left same in (
      omega (arith, up_takes s.mine.state t.link.phase up, up_takes s.mine.state s.mine.core.link.phase up, takes, advances.takes),
      omega (
        arith,
        up_puts s.mine.state t.link.phase up,
        up_puts s.mine.state s.mine.core.link.phase up,
        puts,
        advances.puts,
        unnumbered-append s.theirs.waiting packet,
      ),
    )
put_left Responder s held t packet opens up same stands what = (omega arith, omega arith)

pub put_converse : (role : Role) (s : Sides) (t : EndCore) (packet : List ℕ) (opens : Bool) → s.mine.state ≡ Up → length s.theirs.waiting + 1 ≤ s.entries
    → EndStands role s.mine.core s.mine.utterances → EndSays role s.mine.core packet opens t → Converse role s → Converse role (put packet t s)
put_converse role s t packet opens up room stands says c =
    let held : EndCore = says.held in
    let stands_held = held_stands role s.mine.core held s.mine.utterances says.what stands says.holds in
    let counts = (puts_follow held.link s.mine.utterances packet t.link stands_held.link.follows says.puts).0 in
    let left = put_left role s held t packet opens up (held_phase s.mine.core held says.what says.holds) stands_held
    (end_put role s.mine.core t s.mine.utterances packet opens says stands_held) in
    let longer : length (s.theirs.waiting ++ packet ∷ []) ≡ length s.theirs.waiting + 1 = length-append s.theirs.waiting (packet ∷ []) in
    let lower : live_budget s.mine.state (budget t) + 1 ≤ live_budget s.mine.state (budget s.mine.core) =
    omega (
      arith,
      up_budget s.mine.state (budget t) up,
      up_budget s.mine.state (budget s.mine.core) up,
      says_budget role s.mine.core t s.mine.utterances packet opens stands says,
    ) in
    record {
      entries = c.entries;
      lost_mine = c.lost_mine;
      lost_theirs = c.lost_theirs;
      whole = c.whole;
      stream = stream_step (queue_log s c.lost_mine c.lost_theirs) (Put A packet) (up, counts) c.stream;
      to_mine = record {
        left = omega (arith, left.0, c.to_mine.left);
        queue = c.to_mine.queue;
        few = few_peer_put _ _ _ _ _ _ _ _ _ c.to_mine.few longer lower left.0;
      };
      to_theirs = record {
        left = omega (arith, left.1, c.to_theirs.left);
        queue = omega (arith, longer, room, c.entries);
        few = few_put _ _ _ _ _ _ _ _ _ c.to_theirs.few longer lower left.1;
      };
    }

-- IT TAKES a packet
took_left : (role : Role) (s : Sides) (t : EndCore) (now : LinkState) (packet : List ℕ) → s.mine.state ≡ Up → WaitsLongest packet s.mine.waiting → IsPhaseOf role s.mine.core.link.phase
    → LinkHeard s.mine.core.link packet now → t.link.phase ≡ now.phase
    → (controls role (took packet t s) + unless (is_numbered packet) 0 ≤ controls role s) × (controls (other role) (swapped (took packet t s)) ≤ controls (other role) (swapped s))
took_left role s t now packet up first of how same = grind arith

past_none : (packets : List (List ℕ)) (lost : ℕ) → lost ≡ 0 → lost_past packets lost ≡ 0
past_none [] lost none = none
past_none (packet ∷ packets) lost none = refl

pub first_waits : (packet : List ℕ) (waiting : List (List ℕ)) → slice_get waiting 0 ≡ Some packet → WaitsLongest packet waiting
first_waits packet [] is = absurd (cc is)
first_waits packet (one ∷ waiting) is = let same : one ≡ packet = cc is in ap (λ (x : List ℕ). x ∷ waiting) same

pub took_converse : (role : Role) (s : Sides) (t : EndCore) (packet : List ℕ) (opens : Bool) → s.mine.state ≡ Up → slice_get s.mine.waiting 0 ≡ Some packet
    → EndStands role s.mine.core s.mine.utterances → EndStands (other role) s.theirs.core s.theirs.utterances → EndHears role s.mine.core packet opens t → Converse role s
    → Converse role (took packet t s)
took_converse role s t packet opens up at_front stands peer_stands hears c =
    let first = first_waits packet s.mine.waiting at_front in
    let took_so = end_took role s.mine.core t s.mine.utterances packet opens stands hears in
    let counts = (takes_follow s.mine.core.link s.mine.utterances packet took_so.now stands.link.follows took_so.takes).0 in
    let shorter = first_length packet s.mine.waiting first in
    let left = took_left role s t took_so.now packet up first stands.link.of_role took_so.how (ap (λ (k : LinkState). k.phase) took_so.link) in
    let small = live_small s.mine.state (budget t) (budget_small role t _ (stands_step role s.mine.core (Hears packet opens) t s.mine.utterances stands hears)) in
    let their_small = live_small s.theirs.state (budget s.theirs.core) (budget_small (other role) s.theirs.core s.theirs.utterances peer_stands) in
    record {
      entries = c.entries;
      lost_mine = lost_past (numbered (packet ∷ [])) c.lost_mine;
      lost_theirs = c.lost_theirs;
      whole = λ full. (past_none (numbered (packet ∷ [])) c.lost_mine (c.whole full).0, (c.whole full).1);
      stream = stream_step (queue_log s c.lost_mine c.lost_theirs) (Take A packet) (up, first, counts, λ one. below_turn _ _ _ _ _ _ c.to_mine.few) c.stream;
      to_mine = record {
        left = omega (arith, left.0, c.to_mine.left);
        queue = omega (arith, shorter, c.to_mine.queue);
        few = few_took (is_numbered packet) packet _ _ _ _ _ _ _ _ _ c.to_mine.few shorter c.to_mine.queue their_small c.to_theirs.queue small left.0 c.to_mine.left;
      };
      to_theirs = record {
        left = omega (arith, left.1, c.to_theirs.left);
        queue = c.to_theirs.queue;
        few = few_peer_took _ _ _ _ _ _ _ _ _ c.to_theirs.few shorter small left.1;
      };
    }

-- ONE IS LOST
missed_left : (role : Role) (s : Sides) (packet : List ℕ) → WaitsLongest packet s.mine.waiting
    → (controls role (missed s) ≤ controls role s) × (controls (other role) (swapped (missed s)) ≡ controls (other role) (swapped s))
missed_left Initiator s packet first = (omega arith, refl)
missed_left Responder s packet first = (omega (arith, first_unnumbered packet s.mine.waiting first), refl)

pub missed_converse : (role : Role) (s : Sides) (packet : List ℕ) → slice_get s.mine.waiting 0 ≡ Some packet → Converse role s → Converse role (missed s)
missed_converse role s packet at_front c =
    let first = first_waits packet s.mine.waiting at_front in
    let shorter = first_length packet s.mine.waiting first in
    let left = missed_left role s packet first in
    record {
      entries = c.entries;
      lost_mine = c.lost_mine + length (numbered (packet ∷ []));
      lost_theirs = c.lost_theirs;
      whole = λ full. absurd (cc full);
      stream = stream_step (queue_log s c.lost_mine c.lost_theirs) (Lose A packet) first c.stream;
      to_mine = record {
        left = omega (arith, left.0, c.to_mine.left);
        queue = omega (arith, shorter, c.to_mine.queue);
        few = few_lost (is_numbered packet) packet _ _ _ _ _ _ _ _ c.to_mine.few shorter left.0;
      };
      to_theirs = record {
        left = omega (arith, left.1, c.to_theirs.left);
        queue = c.to_theirs.queue;
        few = subst (λ (n : ℕ). FewAreLost c.lost_theirs (length s.theirs.waiting) (live_budget s.mine.state (budget s.mine.core)) (length (drop 1 s.mine.waiting))
            (live_budget s.theirs.state (budget s.theirs.core)) n) (sym left.1) (few_peer_lost _ _ _ _ _ _ _ c.to_theirs.few shorter);
      };
    }

-- IT BEGINS, or is closed
queue_shorter : (e : ChannelState) (waiting : List (List ℕ)) → length (queue_behind e waiting) ≤ length waiting
queue_shorter Up waiting = omega arith
queue_shorter _ waiting = omega arith

-- what may be lost for an end that begins, and for its peer; with as many packets without a number as before, or at most two
joined_few : (e peer : ChannelState) (waiting beyond : List (List ℕ)) (lost theirs own new left now : ℕ)
    → FewAreLost lost (length waiting) (live_budget peer theirs) (length beyond) (live_budget e own) left → theirs ≤ 34000 → new ≤ 1 → now ≤ 2
    → (now ≤ left) ⊎ (e ≡ Up)
    → FewAreLost (lost_behind e lost) (length (queue_behind e waiting)) (live_budget (peer_behind e peer) theirs) (length (queue_behind e beyond)) new now
joined_few e peer waiting beyond lost theirs own new left now f small few two or_up = grind arith

peer_joined_few : (e peer : ChannelState) (waiting beyond : List (List ℕ)) (lost theirs own new left now : ℕ)
    → FewAreLost lost (length waiting) (live_budget e own) (length beyond) (live_budget peer theirs) left → theirs ≤ 34000 → new ≤ 1 → now ≤ 2
    → (now ≤ left) ⊎ (e ≡ Up)
    → FewAreLost (lost_behind e lost) (length (queue_behind e waiting)) new (length (queue_behind e beyond)) (live_budget (peer_behind e peer) theirs) now
peer_joined_few e peer waiting beyond lost theirs own new left now f small few two or_up = grind arith

-- the packets without a number that are left then: at most two, and as many as before where the end wasn't up
record LeftBehind (e : ChannelState) (before now : ℕ) : Type 0 where
  two : now ≤ 2
  left : (now ≤ before) ⊎ (e ≡ Up)

record AnewLeft (role : Role) (s : Sides) (t : EndCore) : Type 0 where
  mine : LeftBehind s.mine.state (controls role s) (controls role (anew t s))
  theirs : LeftBehind s.mine.state (controls (other role) (swapped s)) (controls (other role) (swapped (anew t s)))

anew_left : (role : Role) (s : Sides) (t : EndCore) → t.link ≡ fresh_link role → controls role s ≤ 2 → controls (other role) (swapped s) ≤ 2 → AnewLeft role s t
anew_left role s t link mine theirs = grind arith

whole_behind : (e : ChannelState) (lossy : Bool) (lost_mine lost_theirs : ℕ) → (lossy ≡ false → (lost_mine ≡ 0) × (lost_theirs ≡ 0)) → lossy_behind e lossy ≡ false
    → (lost_behind e lost_mine ≡ 0) × (lost_behind e lost_theirs ≡ 0)
whole_behind e lossy lost_mine lost_theirs whole full = grind arith

pub anew_converse : (role : Role) (s : Sides) (t : EndCore) → EndStands (other role) s.theirs.core s.theirs.utterances → EndAnew role s.mine.core t → Converse role s
    → Converse role (anew t s)
anew_converse role s t peer_stands begins c =
    let one = anew_budget role s.mine.core t begins in
    let their_small = budget_small (other role) s.theirs.core s.theirs.utterances peer_stands in
    let left = anew_left role s t begins.link c.to_mine.left c.to_theirs.left in
    record {
      entries = c.entries;
      lost_mine = lost_behind s.mine.state c.lost_mine;
      lost_theirs = lost_behind s.mine.state c.lost_theirs;
      whole = λ full. whole_behind s.mine.state s.lossy c.lost_mine c.lost_theirs c.whole full;
      stream = stream_step (queue_log s c.lost_mine c.lost_theirs) (Join A) tt c.stream;
      to_mine = record {
        left = left.mine.two;
        queue = omega (arith, queue_shorter s.mine.state s.mine.waiting, c.to_mine.queue);
        few = joined_few s.mine.state s.theirs.state s.mine.waiting s.theirs.waiting c.lost_mine (budget s.theirs.core) (budget s.mine.core) (budget t) _ _ c.to_mine.few their_small one
            left.mine.two left.mine.left;
      };
      to_theirs = record {
        left = left.theirs.two;
        queue = omega (arith, queue_shorter s.mine.state s.theirs.waiting, c.to_theirs.queue);
        few = peer_joined_few s.mine.state s.theirs.state s.theirs.waiting s.mine.waiting c.lost_theirs (budget s.theirs.core) (budget s.mine.core) (budget t) _ _ c.to_theirs.few their_small
            one left.theirs.two left.theirs.left;
      };
    }

shut_left : (role : Role) (s : Sides) (t : EndCore) → (controls role (shut t s) ≤ 2) × (controls (other role) (swapped (shut t s)) ≤ 2)
shut_left role s t = grind arith

pub shut_converse : (role : Role) (s : Sides) (t : EndCore) → EndStands (other role) s.theirs.core s.theirs.utterances → Converse role s → Converse role (shut t s)
shut_converse role s t peer_stands c =
    let left = shut_left role s t in
    let small = live_small (upset s.theirs.state) (budget s.theirs.core) (budget_small (other role) s.theirs.core s.theirs.utterances peer_stands) in
    record {
      entries = c.entries;
      lost_mine = 0;
      lost_theirs = 0;
      whole = λ full. (refl, refl);
      stream = stream_step (queue_log s c.lost_mine c.lost_theirs) (Close A) tt c.stream;
      to_mine = record { left = left.0; queue = omega arith; few = few_begins _ _ _ small (omega arith) left.0 };
      to_theirs = record { left = left.1; queue = omega arith; few = few_begins _ _ _ (omega arith) small left.1 };
    }
