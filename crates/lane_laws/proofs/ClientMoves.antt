-- Each step of a disk's client is a move of an end that begins.
use Rattle.std.proofs.Common.{◌≡◌, ℕ, ◌+◌, ◌-◌, ◌≤◌, ◌<◌, Bool, true, false, Option, Some, None, List, length, drop, refl, sym, ap, ◌∙◌, subst, arith, length-drop}
use Rattle.std.specs.Prelude.{◌&&◌, ◌||◌, is_some, is_none, nat_le, Ok, Err}
use Rattle.std.proofs.lemmas.Bool.{leb-true}
use Rattle.ldc_link.specs.declared.phase.LinkPhase.{LinkPhase}
use Rattle.ldc_link.specs.declared.phase.LinkPhase.TheVariants as phase
use Rattle.ldc_link.specs.declared.phase.Role.TheVariants.{Initiator}
use Rattle.ldc_link.specs.LinkState.{LinkState, cleared, is_established, is_up, offered}
use Rattle.ldc_link.specs.Putting.{behind_put, left_behind_put, owes, owes_control}
use Rattle.ldc_link.specs.Taking.{Heard, LinkTake, Unheard}
use Rattle.vio_tag.proofs.Canonical.{length_canonical}
use Rattle.vio_tag.specs.declared.cause.Cause.{Cause}
use Rattle.vio_tag.specs.declared.cause.Cause.TheVariants as the_cause
use Rattle.vio_tag.specs.declared.message.Message.{Message}
use Rattle.vio_tag.specs.Decoding.{Decodes}
use Rattle.vio_tag.specs.Spelling.{canonical}
use Rattle.lane_models.specs.ClientPutting.{announcement, announcing, client_holds, client_opens, client_put, holding, is_announcing, session_behind}
use Rattle.lane_models.specs.ClientRule.{Announces, ClientRule, Completes, Puts, Says, Takes, client_rule}
use Rattle.lane_models.specs.ClientState.{ClientSession, ClientState, joined_client}
use Rattle.lane_models.specs.ClientStep.{ClientAdmits, ClientCompletes, ClientFails, ClientPublishes, ClientSends}
use Rattle.lane_models.specs.ClientTaking.{ClientTake, ClientTakes, GoesOn, HearsLink, Resets}
use Rattle.lane_models.specs.DiskEvent.{Admitted}
use Rattle.lane_models.specs.EndPuts.{ending, kind_in}
use Rattle.lane_models.specs.Offering.{client_offer}
use Rattle.lane_models.specs.Seeing.{Seen}
use Rattle.lane_models.proofs.Apart.{none_is_some, some_same, true_is_false}
use Rattle.lane_models.specs.EndCore.{EndCore, holds}
use Rattle.lane_models.specs.EndStep.{EndBegins, EndFails, EndHears, EndSays, EndStays, EndWaits, HearsWhole, Holding, Holds, HoldsOn, HoldsOwed, HoldsOwn, KeepsOwn, LinkFails, MayTake, WholeFails}
use Rattle.lane_laws.proofs.ClientAnswers.{Answers, comes_to, goes_by}
use Rattle.lane_laws.proofs.ClientHolding.{client_held, not_own}
use Rattle.lane_models.proofs.EndStanding.{up_empty}
use Rattle.lane_laws.proofs.RulesFree.{nothing_owed, puts_owe, takes_calm}
use Rattle.lane_laws.proofs.Ruling.{client_may}
use Rattle.lane_laws.proofs.Sharing.{in_order, infos_few}
use Rattle.lane_laws.specs.Budget.{infos_left, one_if}
use Rattle.lane_laws.specs.ChannelEnds.{client_core}
use Rattle.lane_laws.specs.RuleFacts.{ClientMay}
use Rattle.lane_laws.specs.Sound.{ClientSound, SessionInOrder}

-- IT BEGINS
pub client_begins : (s t : ClientState) → t ≡ joined_client s → EndBegins (client_core s) (client_core t)
client_begins s t is = subst (λ (x : ClientState). EndBegins (client_core s) (client_core x)) (sym is) (record { link = refl; handshake = refl; offer = refl; closed = refl; more = refl })

-- never more INFO than the ring has slots
pub infos_most : (s : ClientState) → ClientSound s → infos_left s.slots s.session ≤ 256
infos_most s sound = omega (arith, infos_few s.slots (length s.pending) s.session sound.counts, sound.slots)

-- IT TAKES a packet, where its rule is to take it
none_is : (o : Option ClientSession) → is_some o ≡ false → is_none o ≡ true
none_is None is = refl
none_is (Some session) is = absurd (cc is)

neither : (a b c d : Bool) → (a || b || (c && d)) ≡ false → (b ≡ false) × (c ≡ true → d ≡ false)
neither true b c d is = absurd (cc is)
neither false true c d is = absurd (cc is)
neither false false true true is = absurd (cc is)
neither false false true false is = (refl, λ closed. refl)
neither false false false d is = (refl, λ closed. absurd (cc closed))

client_may_take : (s : ClientState) (at : Seen) (packet : List ℕ) → client_rule s at ≡ Takes packet → MayTake (client_core s)
client_may_take s at packet rule =
    let free = neither (owes_control s.link) (is_some s.handshake.owed) (is_none s.session) (owes s.link) (takes_calm s at packet rule) in
    record { owed = nothing_owed s.handshake.owed free.0; quiet = λ closed. free.1 (none_is s.session closed) }

-- what it comes to: it goes on with the link behind the packet, or resets itself
record TookTo (s : ClientState) (k : LinkState) (t : ClientState) : Type 0 where
  link : t.link ≡ k
  blocks : t.blocks ≡ s.blocks
  slots : t.slots ≡ s.slots
  own : is_announcing t.session ≡ is_announcing s.session

abbrev HearsAs : ClientState → Option (List ℕ) → ClientState → Type 0
HearsAs s whole t = HearsWhole Initiator s.handshake (is_some s.session) whole false (client_core t)

abbrev FailsAs : ClientState → Option (List ℕ) → Cause → Type 0
FailsAs s whole cause = WholeFails s.handshake (is_some s.session) whole cause

abbrev Comes : ClientState → LinkState → ClientTake → Type 0
Comes s k (GoesOn t) = TookTo s (cleared k) t × HearsAs s k.whole t
Comes s k (Resets cause) = FailsAs s k.whole cause

answers : (s : ClientState) (k : LinkState) (bytes : List ℕ) (message : Message) → k.whole ≡ Some bytes → Decodes bytes (Ok message) → Answers s (cleared k) message (Comes s k)
answers s k bytes message whole decodes = grind arith

pub cleared_is : (k : LinkState) → k.whole ≡ None → k ≡ cleared k
cleared_is k none = ap (λ (w : Option (List ℕ)). record k { whole = w }) none

client_comes : (s : ClientState) (k : LinkState) (take : ClientTake) → HearsLink s (Heard k) take → Comes s k take
client_comes s k take hears =
    comes_to s k (Comes s k) take (record {
      none = λ none. (
        record { link = cleared_is k none; blocks = refl; slots = refl; own = refl },
        subst (λ (w : Option (List ℕ)). HearsAs s w (record s { link = k })) (sym none) (refl, refl, refl),
      );
      some = λ bytes message whole decodes. answers s k bytes message whole decodes;
      tags = λ bytes fault whole decodes. subst (λ (w : Option (List ℕ)). FailsAs s w (the_cause.Tag fault)) (sym whole) (Err fault, decodes, refl);
    }) hears

-- it goes on
offers_same : (s t : ClientState) → t.blocks ≡ s.blocks → t.slots ≡ s.slots → client_offer t.blocks t.slots ≡ client_offer s.blocks s.slots
offers_same s t blocks slots = ap (λ (n : ℕ). client_offer n t.slots) blocks ∙ ap (λ (n : ℕ). client_offer s.blocks n) slots

pub client_hears : (s : ClientState) (at : Seen) (packet : List ℕ) (t : ClientState) → ClientSound t → client_rule s at ≡ Takes packet → ClientTakes s packet (GoesOn t)
    → EndHears Initiator (client_core s) packet false (client_core t)
client_hears s at packet t sound rule takes =
    let by = goes_by s packet t takes in
    let to : Comes s by.link (GoesOn t) = client_comes s by.link (GoesOn t) by.hears in
    record {
      may = client_may_take s at packet rule;
      heard = by.link;
      takes = by.takes;
      link = to.0.link;
      hears = to.1;
      offer = offers_same s t to.0.blocks to.0.slots;
      own = λ before behind. to.0.own;
      most = infos_most t sound;
    }

-- IT RESETS ITSELF
resets_link : (s : ClientState) (cause : Cause) (link : LinkTake) → HearsLink s link (Resets cause) → LinkFails Initiator (client_core s) link cause
resets_link s cause (Heard k) hears = client_comes s k (Resets cause) hears
resets_link s cause (Unheard why) hears = cc hears

pub client_refuses : (s : ClientState) (at : Seen) (packet : List ℕ) (cause : Cause) → client_rule s at ≡ Takes packet → ClientTakes s packet (Resets cause)
    → EndFails Initiator (client_core s) cause (Some packet)
client_refuses s at packet cause rule takes =
    record { may = client_may_take s at packet rule; take = takes.link; takes = takes.takes; fails = resets_link s cause takes.link takes.hears }

fails_by : (s : ClientState) (at : Seen) (memory : List ℕ) (rule : ClientRule) (cause : Cause) (packet : Option (List ℕ)) → client_rule s at ≡ rule → ClientMay s at rule
    → ClientFails rule s memory cause packet → EndFails Initiator (client_core s) cause packet
fails_by s at memory (Takes bytes) cause packet rule may fails =
    subst (EndFails Initiator (client_core s) cause) (sym fails.0) (client_refuses s at bytes cause rule fails.1)
fails_by s at memory (Completes session) cause packet rule may fails =
    subst (EndFails Initiator (client_core s) cause) (sym fails.0) (ap is_some may.1)
fails_by s at memory _ cause packet rule may fails = absurd fails

pub client_fails : (s : ClientState) (at : Seen) (memory : List ℕ) (cause : Cause) (packet : Option (List ℕ)) → ClientFails (client_rule s at) s memory cause packet
    → EndFails Initiator (client_core s) cause packet
client_fails s at memory cause packet fails = fails_by s at memory (client_rule s at) cause packet refl (client_may s at) fails

-- IT HOLDS a message
record HoldsTo (s held : ClientState) : Type 0 where
  what : Holding
  holds : Holds (client_core s) what (client_core held)

pub holds_and : (k : LinkState) → holds k ≡ true → is_up k ≡ true
holds_and k is = grind arith

holds_says : (s : ClientState) (message : Message) → ClientSound s → owes s.link ≡ false → s.handshake.owed ≡ Some message → HoldsTo s (holding message s)
holds_says s message sound quiet owed = record {
  what = HoldsOwed message;
  holds = record {
    quiet = quiet;
    owed = owed;
    link = refl;
    handshake = refl;
    offer = refl;
    is_open = refl;
    own = λ up. not_own (is_announcing s.session) s.link.to_send sound.own (up_empty s.link (holds_and (offered (canonical message) s.link) up) quiet);
    more = omega arith;
  };
}

holds_announces : (s : ClientState) (session : ClientSession) → ClientSound s → owes s.link ≡ false → s.handshake.owed ≡ None → s.session ≡ Some session
    → session.announced < session.published → HoldsTo s (announcing session (holding (announcement s session) s))
holds_announces s session sound quiet owed is more =
    let counts : SessionInOrder (length s.pending) session = in_order (length s.pending) s.session session is sound.counts in
    let infos : infos_left s.slots s.session ≡ (session.acked + s.slots) - (session.announced + one_if session.announcing) = ap (infos_left s.slots) is in
    let fewer : one_if session.announcing ≤ 1 = one_or session.announcing in
    record {
      what = HoldsOwn (announcement s session);
      holds = record {
        quiet = quiet;
        owed = owed;
        opened = ap is_some is;
        body = tt;
        sid = refl;
        short = omega (arith, length_canonical (announcement s session));
        link = refl;
        handshake = refl;
        offer = refl;
        is_open = ap is_some (sym is);
        own = refl;
        most = omega (arith, infos, fewer);
        more = λ up.
            (let own : is_announcing s.session ≡ false = not_own (is_announcing s.session) s.link.to_send sound.own (up_empty s.link up quiet) in
            let none : one_if session.announcing ≡ 0 = ap one_if (sym (ap is_announcing is) ∙ own) in
            omega (arith, infos, none, more, counts.published, counts.completed, sound.pending));
      };
    }
  where
    one_or : (b : Bool) → one_if b ≤ 1
    one_or true = omega arith
    one_or false = omega arith

to_the : (s one other : ClientState) → Some one ≡ Some other → HoldsTo s one → HoldsTo s other
to_the s one other is to = let same : one ≡ other = some_same is in subst (HoldsTo s) same to

holds_by : (s : ClientState) (at : Seen) (rule : ClientRule) (held : ClientState) → client_rule s at ≡ rule → ClientSound s → ClientMay s at rule → client_holds rule s ≡ Some held
    → HoldsTo s held
holds_by s at Puts held rule_is sound may is = to_the s s held is (record { what = HoldsOn; holds = record { is = refl; owing = puts_owe s at rule_is } })
holds_by s at (Says message) held rule_is sound may is = to_the s (holding message s) held is (holds_says s message sound may.1 may.2)
holds_by s at (Announces session) held rule_is sound may is =
    to_the s (announcing session (holding (announcement s session) s)) held is (holds_announces s session sound may.1 may.2 may.3 may.4)
holds_by s at _ held rule_is sound may is = none_is_some is

pub client_waits : (s : ClientState) (at : Seen) (t : ClientState) → ClientSound s → client_holds (client_rule s at) s ≡ Some t → EndWaits (client_core s) (client_core t)
client_waits s at t sound is = let to = holds_by s at (client_rule s at) t refl sound (client_may s at) is in record { what = to.what; holds = to.holds }

pub held_open : (s : ClientState) (at : Seen) (held : ClientState) → ClientSound s → client_holds (client_rule s at) s ≡ Some held → is_some held.session ≡ is_some s.session
held_open s at held sound is = let to = holds_by s at (client_rule s at) held refl sound (client_may s at) is in by_what to.what to.holds
  where
    by_what : (what : Holding) → Holds (client_core s) what (client_core held) → is_some held.session ≡ is_some s.session
    by_what HoldsOn still = ap (λ (x : EndCore). x.is_open) still.is
    by_what (HoldsOwed message) offers = offers.is_open
    by_what (HoldsOwn message) offers = offers.is_open

-- IT PUTS a packet: whose the link's message is stays, unless it is wholly put
pub holds_none : (k : LinkState) (xs : List ℕ) (X : Type 0) → k.to_send ≡ xs → length xs ≤ 0 → holds k ≡ true → X
holds_none k xs X is few up = grind arith

put_own_in : (ph : LinkPhase) (c : ClientState) (last : Bool) → c.link.phase ≡ ph → nat_le (length c.link.to_send) 56 ≡ last → is_up c.link ≡ true → holds (behind_put c.link) ≡ true
    → is_announcing (session_behind (kind_in ph c.link (is_announcing c.session)) c) ≡ is_announcing c.session
put_own_in phase.Established c true at short up still =
    holds_none (behind_put c.link) (drop 56 c.link.to_send) _ (ap (λ (p : LinkPhase). left_behind_put p c.link.to_send) at)
    (omega (arith, leb-true (length c.link.to_send) 56 short, length-drop 56 c.link.to_send)) still
put_own_in phase.Established c false at long up still =
    ap (λ (b : Bool). is_announcing (session_behind (ending b (is_announcing c.session)) c)) long
put_own_in _ c last at short up still = true_is_false (sym up ∙ ap is_established at)

record PutsTo (packet : List ℕ) (opens : Bool) (held t : ClientState) : Type 0 where
  handshake : t.handshake ≡ (client_put held).handshake
  is_open : is_some t.session ≡ (opens || is_some held.session)
  offer : client_offer t.blocks t.slots ≡ client_offer held.blocks held.slots
  own : KeepsOwn (client_core held) (client_core t)
  more : opens ≡ false → infos_left t.slots t.session ≤ infos_left held.slots held.session

puts_to : (packet : List ℕ) (opens : Bool) (held : ClientState) → ClientSound held → opens ≡ client_opens held → PutsTo packet opens held (client_put held)
puts_to packet opens held sound is = grind (arith, put_own_in)

pub client_says : (s : ClientState) (at : Seen) (memory packet : List ℕ) (opens : Bool) (t : ClientState) (new : List ℕ) → ClientSound s → ClientSound t
    → ClientSends s at memory packet opens t new → EndSays Initiator (client_core s) packet opens (client_core t)
client_says s at memory packet opens t new sound behind sends =
    let to = holds_by s at (client_rule s at) sends.held refl sound (client_may s at) sends.holds in
    let puts : PutsTo packet opens sends.held t = subst (PutsTo packet opens sends.held) (sym sends.is) (puts_to packet opens sends.held (client_held s at (client_rule s at) sends.held (client_may s at) sends.holds sound) sends.opens_is) in
    record {
      held = client_core sends.held;
      what = to.what;
      holds = to.holds;
      puts = sends.packet;
      handshake = puts.handshake;
      opens_is = sends.opens_is;
      is_open = puts.is_open;
      offer = puts.offer;
      own = puts.own;
      most = infos_most t behind;
      more = puts.more;
    }

-- IT WORKS, or is asked
stays : (s : ClientState) → EndStays (client_core s) (client_core s)
stays s = record { link = refl; handshake = refl; offer = refl; is_open = refl; own = refl; more = omega arith }

pub client_same : (s t : ClientState) → t ≡ s → EndStays (client_core s) (client_core t)
client_same s t is = subst (λ (x : ClientState). EndStays (client_core s) (client_core x)) (sym is) (stays s)

pub client_asked : (s : ClientState) (event : Admitted) (t : ClientState) → ClientAdmits s event t → EndStays (client_core s) (client_core t)
client_asked s event t admits = grind arith

pub client_published : (s : ClientState) (at : Seen) (memory : List ℕ) (id : ℕ) (t : ClientState) (new : List ℕ) → ClientPublishes s at memory id t new
    → EndStays (client_core s) (client_core t)
client_published s at memory id t new step = grind (arith, client_may)

pub client_completed : (s : ClientState) (at : Seen) (memory : List ℕ) (id operation status : ℕ) (bytes : List ℕ) (t : ClientState) (new : List ℕ)
    → ClientCompletes s at memory id operation status bytes t new → EndStays (client_core s) (client_core t)
client_completed s at memory id operation status bytes t new step = grind (arith, client_may)
