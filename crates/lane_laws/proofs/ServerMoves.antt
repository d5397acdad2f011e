-- Each step of a disk's server is a move of an end that answers.
use Rattle.std.proofs.Common.{◌≡◌, ℕ, ◌+◌, ◌≤◌, inl, inr, Bool, true, false, Option, Some, None, List, length, drop, refl, sym, ap, ◌∙◌, subst, arith, length-drop}
use Rattle.std.specs.Prelude.{◌&&◌, is_some, is_none, not, nat_le, Ok, Err}
use Rattle.std.proofs.lemmas.Bool.{leb-false, leb-true}
use Rattle.cookie_copy.specs.declared.fault.CopyFault.{CopyFault}
use Rattle.ldc_link.specs.declared.phase.LinkPhase.{LinkPhase}
use Rattle.ldc_link.specs.declared.phase.LinkPhase.TheVariants as phase
use Rattle.ldc_link.specs.declared.phase.Role.TheVariants.{Responder}
use Rattle.ldc_link.specs.LinkState.{LinkState, cleared, is_established, is_up, offered}
use Rattle.ldc_link.specs.Calls.{Puts as PutsPacket}
use Rattle.ldc_link.specs.Putting.{behind_put, left_behind_put, owed_in, owes, phase_behind_put, with_link}
use Rattle.ldc_link.specs.Taking.{Heard, LinkTake, Unheard}
use Rattle.ldc_packet.specs.declared.packet.Packet.{Packet}
use Rattle.ldc_queue.specs.Messages.{is_empty}
use Rattle.vio_tag.proofs.Canonical.{length_canonical}
use Rattle.vio_tag.specs.declared.cause.Cause.{Cause}
use Rattle.vio_tag.specs.declared.cause.Cause.TheVariants as the_cause
use Rattle.vio_tag.specs.declared.message.Message.{Message}
use Rattle.vio_tag.specs.Decoding.{Decodes}
use Rattle.vio_tag.specs.Spelling.{canonical}
use Rattle.vio_handshake.specs.declared.handshake.Handshake.{Handshake}
use Rattle.vio_handshake.specs.Rules.{HandshakeTake, handshake_take}
use Rattle.lane_models.specs.EndPuts.{PutKind, ending, kind_in, put_opens, handshake_behind, handshake_risen}
use Rattle.lane_models.specs.Offering.{server_offer}
use Rattle.lane_models.specs.Ranges.{wrapped}
use Rattle.lane_models.specs.Seeing.{Seen}
use Rattle.lane_models.specs.ServerPutting.{server_holds, server_kind, server_put, session_behind}
use Rattle.lane_models.specs.ServerRule.{Fetches, Puts, Says, ServerRule, Serves, Takes, answer, server_rule}
use Rattle.lane_models.specs.ServerState.{ServerSession, ServerState, SlotRange, Work, joined_server, restarted_server}
use Rattle.lane_models.specs.ServerStep.{ServerFails, ServerFetches, ServerFinishes, ServerMoves, ServerSends, ServerStores}
use Rattle.lane_models.specs.ServerTaking.{GoesOn, HearsLink, Resets, ServerTake, ServerTakes, asked}
use Rattle.cookie_copy.specs.Reach.{Reach}
use Rattle.lane_models.specs.ServerWork.{first_progress}
use Rattle.vdisk_msg.specs.Descriptor as slot_says
use Rattle.lane_models.proofs.Apart.{none_is_some, some_same, true_is_false}
use Rattle.lane_models.specs.EndCore.{holds}
use Rattle.lane_models.specs.EndStep.{EndBegins, EndFails, EndHears, EndRenews, EndSays, EndStays, EndWaits, HandshakeTakes, HearsWhole, Holding, Holds, HoldsOn, HoldsOwed, HoldsOwn, IsOfSession, KeepsOwn, LinkFails, MayTake, WholeFails}
use Rattle.lane_models.specs.EndStep as core
use Rattle.lane_laws.proofs.ClientAnswers.{HandshakesTo}
use Rattle.lane_laws.proofs.ClientMoves.{cleared_is, holds_none}
use Rattle.lane_models.proofs.EndStanding.{holds_some, up_empty}
use Rattle.lane_laws.proofs.Ruling.{server_may}
use Rattle.lane_laws.proofs.RulesFree.{ServerFree, server_free}
use Rattle.lane_laws.proofs.RuleTests.{TakesFree}
use Rattle.lane_laws.proofs.ServerAnswers.{Answers, comes_to, goes_by, heard_on, opened_or}
use Rattle.lane_laws.proofs.ServerSpeaking.{range_few}
use Rattle.lane_models.proofs.Short.{some_bytes}
use Rattle.lane_laws.specs.Budget.{one_range, range_packets}
use Rattle.lane_laws.specs.ChannelEnds.{answers_to_begin, server_core}
use Rattle.lane_laws.specs.RuleFacts.{ServerMay, ServerSays}

-- THE ANSWERS that it owes and hasn't begun
pub answers_less : (b : Bool) (ranges : ℕ) → answers_to_begin b ranges ≤ ranges
answers_less true ranges = omega arith
answers_less false ranges = omega arith

answers_owed : (b : Bool) (owed : Option Message) (message : Message) (ranges : ℕ) → owed ≡ Some message → answers_to_begin (b && is_none owed) ranges ≡ ranges
answers_owed true None message ranges is = absurd (cc is)
answers_owed true (Some one) message ranges is = refl
answers_owed false owed message ranges is = refl

answers_free : (b none : Bool) (ranges : ℕ) → b ≡ false → answers_to_begin (b && none) ranges ≡ ranges
answers_free true none ranges is = absurd (cc is)
answers_free false none ranges is = refl

answers_begun : (b : Bool) (owed : Option Message) (ranges : ℕ) → b ≡ true → owed ≡ None → answers_to_begin (b && is_none owed) ranges ≡ 0
answers_begun true None ranges up is = refl
answers_begun true (Some message) ranges up is = absurd (cc is)
answers_begun false owed ranges up is = absurd (cc up)

answers_later : (one other none : Bool) (ranges : ℕ) → one ≡ true → answers_to_begin (one && none) ranges ≤ answers_to_begin (other && none) ranges
answers_later true other true ranges is = omega arith
answers_later true true false ranges is = omega arith
answers_later true false false ranges is = omega arith
answers_later false other none ranges is = absurd (cc is)

-- a link that isn't up, or owes nothing, holds nothing
not_held : (b c : Bool) → (b ≡ true → c ≡ false) → (b && c) ≡ false
not_held true c none = none refl
not_held false c none = refl

quiet_holds : (k : LinkState) → owes k ≡ false → holds k ≡ false
quiet_holds k quiet = not_held (is_up k) (not (is_empty k.to_send)) (λ up. ap (λ (bytes : List ℕ). not (is_empty bytes)) (up_empty k up quiet))

-- whose the message of its link is
and_owed : (b : Bool) (owed : Option Message) (message : Message) → owed ≡ Some message → (b && is_none owed) ≡ false
and_owed true None message is = absurd (cc is)
and_owed true (Some one) message is = refl
and_owed false owed message is = refl

and_free : (bytes : List ℕ) (owed : Option Message) → 1 ≤ length bytes → owed ≡ None → (not (is_empty bytes) && is_none owed) ≡ true
and_free bytes owed some is = grind arith

-- IT BEGINS, or its values are made new
pub server_begins : (s t : ServerState) → t ≡ joined_server s → EndBegins (server_core s) (server_core t)
server_begins s t is = grind arith

pub server_renews : (s t : ServerState) → t ≡ restarted_server s → EndRenews Responder (server_core s) (server_core t)
server_renews s t is = search

-- IT TAKES a packet
server_takes_free : (s : ServerState) (at : Seen) (packet : List ℕ) → server_rule s at ≡ Takes packet → TakesFree s
server_takes_free s at packet rule = subst (ServerFree s) rule (server_free s at)

server_may_take : (s : ServerState) → TakesFree s → MayTake (server_core s)
server_may_take s free = record { owed = free.owed; quiet = λ closed. free.free }

-- what it comes to: it goes on, or resets itself
abbrev FailsAs : ServerState → LinkState → Option (List ℕ) → Cause → Type 0
FailsAs s k whole cause = WholeFails (handshake_risen s.link k s.handshake) (is_some s.session) whole cause

record GoesTo (s : ServerState) (k : LinkState) (whole : Option (List ℕ)) (opens : Bool) (t : ServerState) : Type 0 where
  link : t.link ≡ cleared k
  blocks : t.blocks ≡ s.blocks
  slots : t.slots ≡ s.slots
  hears : HearsWhole Responder (handshake_risen s.link k s.handshake) (is_some s.session) whole opens (server_core t)

abbrev Comes : ServerState → LinkState → ServerTake → Type 0
Comes s k (GoesOn t opens) = GoesTo s k k.whole opens t
Comes s k (Resets cause) = FailsAs s k k.whole cause

goes_to : (x : ServerState) (message : Message) (opens : Bool) (h : Handshake) → HandshakesTo x.handshake (handshake_take x.handshake message) opens h
    → HandshakeTakes Responder (is_some x.session) (handshake_take x.handshake message) opens (server_core (record x { handshake = h; session = opened_or opens x.session }))
goes_to x message false h is =
    subst (λ (a : HandshakeTake). HandshakeTakes Responder (is_some x.session) a false (server_core (record x { handshake = h }))) (sym is) (refl, refl, refl)
goes_to x message true h is =
    subst (λ (a : HandshakeTake). HandshakeTakes Responder (is_some x.session) a true (server_core (record x { handshake = h; session = opened_or true x.session }))) (sym is) (refl, refl, refl)

answers : (s : ServerState) (k : LinkState) (bytes : List ℕ) (message : Message) → k.whole ≡ Some bytes → Decodes bytes (Ok message)
    → Answers (heard_on s k (cleared k)) message (Comes s k)
answers s k bytes message whole decodes =
    let x : ServerState = heard_on s k (cleared k) in
    record {
      goes = λ opens h to.
          subst (λ (w : Option (List ℕ)). GoesTo s k w opens (record x { handshake = h; session = opened_or opens x.session })) (sym whole)
          (record { link = refl; blocks = refl; slots = refl; hears = (Ok message, decodes, inl (goes_to x message opens h to)) });
      faults = λ cause is. subst (λ (w : Option (List ℕ)). FailsAs s k w cause) (sym whole) (Ok message, decodes, inl is);
      asks = λ a.
          subst (λ (w : Option (List ℕ)). GoesTo s k w false (asked x a.session a.range)) (sym whole)
          (record {
            link = refl;
            blocks = refl;
            slots = refl;
            hears = (Ok message, decodes, inr (record { opened = ap is_some a.session_is; sid = a.sid_is; body = subst IsOfSession (sym a.body_is) tt }, refl, refl, ap is_some (sym a.session_is)));
          });
      refuses = λ cause refuses. subst (λ (w : Option (List ℕ)). FailsAs s k w cause) (sym whole) (Ok message, decodes, inr refuses.own);
    }

server_comes : (s : ServerState) (k : LinkState) (take : ServerTake) → HearsLink s (Heard k) take → Comes s k take
server_comes s k take hears =
    comes_to s k (Comes s k) take (record {
      none = λ none.
          subst (λ (w : Option (List ℕ)). GoesTo s k w false (heard_on s k k)) (sym none) (record { link = cleared_is k none; blocks = refl; slots = refl; hears = (refl, refl, refl) });
      some = λ bytes message whole decodes. answers s k bytes message whole decodes;
      tags = λ bytes fault whole decodes. subst (λ (w : Option (List ℕ)). FailsAs s k w (the_cause.Tag fault)) (sym whole) (Err fault, decodes, refl);
    }) hears

-- it goes on
offers_same : (s t : ServerState) → t.blocks ≡ s.blocks → t.slots ≡ s.slots → server_offer t.blocks t.slots ≡ server_offer s.blocks s.slots
offers_same s t blocks slots = ap (λ (n : ℕ). server_offer n t.slots) blocks ∙ ap (λ (n : ℕ). server_offer s.blocks n) slots

answers_most : (b : Bool) (session : Option ServerSession) → answers_to_begin b (range_packets session) ≤ 256
answers_most b session = omega (arith, answers_less b (range_packets session), range_few session)

pub server_hears : (s : ServerState) (at : Seen) (packet : List ℕ) (t : ServerState) (opens : Bool) → server_rule s at ≡ Takes packet → ServerTakes s packet (GoesOn t opens)
    → EndHears Responder (server_core s) packet opens (server_core t)
server_hears s at packet t opens rule takes =
    let free = server_takes_free s at packet rule in
    let by = goes_by s packet t opens takes in
    let to : Comes s by.link (GoesOn t opens) = server_comes s by.link (GoesOn t opens) by.hears in
    record {
      may = server_may_take s free;
      heard = by.link;
      takes = by.takes;
      link = to.link;
      hears = to.hears;
      offer = offers_same s t to.blocks to.slots;
      own = λ before behind. absurd (cc (sym before ∙ quiet_holds s.link free.free));
      most = answers_most (holds t.link && is_none t.handshake.owed) t.session;
    }

-- IT RESETS ITSELF
resets_link : (s : ServerState) (cause : Cause) (link : LinkTake) → HearsLink s link (Resets cause) → LinkFails Responder (server_core s) link cause
resets_link s cause (Heard k) hears = server_comes s k (Resets cause) hears
resets_link s cause (Unheard why) hears = cc hears

pub server_refuses : (s : ServerState) (at : Seen) (packet : List ℕ) (cause : Cause) → server_rule s at ≡ Takes packet → ServerTakes s packet (Resets cause)
    → EndFails Responder (server_core s) cause (Some packet)
server_refuses s at packet cause rule takes = search (server_may_take, server_takes_free, resets_link)

no_packet : (s : ServerState) (cause : Cause) (packet : Option (List ℕ)) (session : ServerSession) → packet ≡ None → s.session ≡ Some session
    → EndFails Responder (server_core s) cause packet
no_packet s cause packet session none is = subst (EndFails Responder (server_core s) cause) (sym none) (ap is_some is)

fails_by : (s : ServerState) (at : Seen) (r : Reach) (rule : ServerRule) (cause : Cause) (packet : Option (List ℕ)) (new : List ℕ) → server_rule s at ≡ rule → ServerMay s at rule
    → ServerFails rule s r cause packet new → EndFails Responder (server_core s) cause packet
fails_by s at r (Takes bytes) cause packet new rule may fails =
    subst (EndFails Responder (server_core s) cause) (sym fails.0) (server_refuses s at bytes cause rule fails.1)
fails_by s at r (Fetches session) cause packet new rule may fails = no_packet s cause packet session fails.0 may.1
fails_by s at r (Serves session work) cause packet new rule may fails = no_packet s cause packet session fails.0 may.1
fails_by s at r _ cause packet new rule may fails = absurd fails

pub server_fails : (s : ServerState) (at : Seen) (r : Reach) (cause : Cause) (packet : Option (List ℕ)) (new : List ℕ) → ServerFails (server_rule s at) s r cause packet new
    → EndFails Responder (server_core s) cause packet
server_fails s at r cause packet new fails = fails_by s at r (server_rule s at) cause packet new refl (server_may s at) fails

-- IT HOLDS a message
record HoldsTo (s held : ServerState) : Type 0 where
  what : Holding
  holds : Holds (server_core s) what (server_core held)

abbrev holding : Message → ServerState → ServerState
holding message s = record s { link = offered (canonical message) s.link }

holds_owed : (s : ServerState) (message : Message) → owes s.link ≡ false → s.handshake.owed ≡ Some message → HoldsTo s (holding message s)
holds_owed s message quiet owed = record {
  what = HoldsOwed message;
  holds = record {
    quiet = quiet;
    owed = owed;
    link = refl;
    handshake = refl;
    offer = refl;
    is_open = refl;
    own = λ up. and_owed (not (is_empty (canonical message))) s.handshake.owed message owed;
    more = omega (
      arith,
      answers_owed (holds s.link) s.handshake.owed message (range_packets s.session) owed,
      answers_owed (holds (offered (canonical message) s.link)) s.handshake.owed message (range_packets s.session) owed,
    );
  };
}

holds_answer : (s : ServerState) (range : SlotRange) (session : ServerSession) → owes s.link ≡ false → s.handshake.owed ≡ None → s.session ≡ Some session
    → session.range ≡ Some range → HoldsTo s (holding (answer s range) s)
holds_answer s range session quiet owed is ranged =
    let before : answers_to_begin (holds s.link && is_none s.handshake.owed) (range_packets s.session) ≡ range_packets s.session =
    answers_free (holds s.link) (is_none s.handshake.owed) (range_packets s.session) (quiet_holds s.link quiet) in
    let one : range_packets s.session ≡ 1 = ap range_packets is ∙ ap one_range ranged in
    let link : LinkState = offered (canonical (answer s range)) s.link in
    let less : answers_to_begin (holds link && is_none s.handshake.owed) (range_packets s.session) ≤ range_packets s.session =
    answers_less (holds link && is_none s.handshake.owed) (range_packets s.session) in
    record {
      what = HoldsOwn (answer s range);
      holds = record {
        quiet = quiet;
        owed = owed;
        opened = ap is_some is;
        body = tt;
        sid = refl;
        short = omega (arith, length_canonical (answer s range));
        link = refl;
        handshake = refl;
        offer = refl;
        is_open = refl;
        own = and_free (canonical (answer s range)) s.handshake.owed (some_bytes (answer s range)) owed;
        most = omega (arith, before, less);
        more = λ up.
            (let begun : answers_to_begin (holds link && is_none s.handshake.owed) (range_packets s.session) ≡ 0 =
            answers_begun (holds link) s.handshake.owed (range_packets s.session) (holds_some link up (some_bytes (answer s range))) owed in
            omega (arith, before, one, begun));
      };
    }

holds_says : (s : ServerState) (message : Message) → owes s.link ≡ false → ServerSays s message → HoldsTo s (holding message s)
holds_says s message quiet says = grind (arith, holds_owed, holds_answer)

to_the : (s one other : ServerState) → Some one ≡ Some other → HoldsTo s one → HoldsTo s other
to_the s one other is to = let same : one ≡ other = some_same is in subst (HoldsTo s) same to

holds_by : (s : ServerState) (at : Seen) (rule : ServerRule) (held : ServerState) → ServerFree s rule → ServerMay s at rule → server_holds rule s ≡ Some held → HoldsTo s held
holds_by s at Puts held free may is = to_the s s held is (record { what = HoldsOn; holds = record { is = refl; owing = free } })
holds_by s at (Says message) held free may is = to_the s (holding message s) held is (holds_says s message may.1 may.2)
holds_by s at _ held free may is = none_is_some is

pub server_waits : (s : ServerState) (at : Seen) (t : ServerState) → server_holds (server_rule s at) s ≡ Some t → EndWaits (server_core s) (server_core t)
server_waits s at t is = let to = holds_by s at (server_rule s at) t (server_free s at) (server_may s at) is in record { what = to.what; holds = to.holds }

-- IT PUTS a packet
abbrev behind_in : LinkPhase → ServerState → Handshake
behind_in ph v = handshake_behind (kind_in ph v.link (is_none v.handshake.owed)) v.handshake

put_own_in : (ph : LinkPhase) (v : ServerState) (last : Bool) → v.link.phase ≡ ph → nat_le (length v.link.to_send) 56 ≡ last → is_up v.link ≡ true → holds (behind_put v.link) ≡ true
    → is_none (behind_in ph v).owed ≡ is_none v.handshake.owed
put_own_in phase.Established v true at short up still =
    holds_none (behind_put v.link) (drop 56 v.link.to_send) _ (ap (λ (p : LinkPhase). left_behind_put p v.link.to_send) at)
    (omega (arith, leb-true (length v.link.to_send) 56 short, length-drop 56 v.link.to_send)) still
put_own_in phase.Established v false at long up still = ap (λ (b : Bool). is_none (handshake_behind (ending b (is_none v.handshake.owed)) v.handshake).owed) long
put_own_in _ v last at short up still = true_is_false (sym up ∙ ap is_established at)

abbrev left_in : LinkPhase → ServerState → ℕ
left_in ph v = answers_to_begin (holds (behind_put v.link) && is_none (behind_in ph v).owed) (range_packets (session_behind (kind_in ph v.link (is_none v.handshake.owed)) v.session))

abbrev left_by : Bool → ServerState → ℕ
left_by last v =
    answers_to_begin (holds (behind_put v.link) && is_none (handshake_behind (ending last (is_none v.handshake.owed)) v.handshake).owed)
    (range_packets (session_behind (ending last (is_none v.handshake.owed)) v.session))

abbrev left_now : ServerState → ℕ
left_now v = answers_to_begin (holds v.link && is_none v.handshake.owed) (range_packets v.session)

last_left : (v : ServerState) (owed : Option Message) → v.handshake.owed ≡ owed
    → answers_to_begin (holds (behind_put v.link) && is_none (handshake_behind (ending true (is_none owed)) v.handshake).owed) (range_packets (session_behind (ending true (is_none owed)) v.session))
    ≤ left_now v
last_left v owed is = grind (arith, answers_less)

parts_left : (v : ServerState) (last : Bool) → v.link.phase ≡ phase.Established → nat_le (length v.link.to_send) 56 ≡ last → left_by last v ≤ left_now v
parts_left v true at short = last_left v v.handshake.owed refl
parts_left v false at long =
    answers_later (holds (behind_put v.link)) (holds v.link) (is_none v.handshake.owed) (range_packets v.session)
    (holds_some (behind_put v.link) (ap (λ (p : LinkPhase). is_established (phase_behind_put p)) at)
    (subst (λ (bytes : List ℕ). 1 ≤ length bytes) (sym (ap (λ (p : LinkPhase). left_behind_put p v.link.to_send) at))
    (omega (arith, leb-false (length v.link.to_send) 56 long, length-drop 56 v.link.to_send))))

put_left_in : (ph : LinkPhase) (v : ServerState) → v.link.phase ≡ ph → left_in ph v ≤ left_now v
put_left_in ph v at = grind (arith, parts_left)

-- what the packet brings about goes by whose the message is
kind_same : (ph : LinkPhase) (k m : LinkState) (one : Packet × LinkState) (none : Bool) → with_link (owed_in ph k) m ≡ Some one
    → kind_in ph k (not (is_empty k.to_send) && none) ≡ kind_in ph k none
kind_same ph k m one none is = grind arith

server_kind_is : (v : ServerState) (packet : List ℕ) (m : LinkState) → PutsPacket v.link packet m → core.kind_of (server_core v) ≡ server_kind v
server_kind_is v packet m puts = kind_same v.link.phase v.link (behind_put v.link) (puts.packet, m) (is_none v.handshake.owed) puts.next

record PutsTo (held t : ServerState) : Type 0 where
  handshake : t.handshake ≡ (server_put held).handshake
  is_open : is_some t.session ≡ is_some held.session
  offer : server_offer t.blocks t.slots ≡ server_offer held.blocks held.slots
  own : KeepsOwn (server_core held) (server_core t)
  more : (server_core t).more ≤ (server_core held).more

puts_to : (held : ServerState) → PutsTo held (server_put held)
puts_to held = grind (arith, put_own_in, put_left_in)

pub server_says : (s : ServerState) (at : Seen) (packet : List ℕ) (opens : Bool) (t : ServerState) → ServerSends s at packet opens t
    → EndSays Responder (server_core s) packet opens (server_core t)
server_says s at packet opens t sends =
    let to = holds_by s at (server_rule s at) sends.held (server_free s at) (server_may s at) sends.holds in
    let puts : PutsTo sends.held t = subst (PutsTo sends.held) (sym sends.is) (puts_to sends.held) in
    let kind = server_kind_is sends.held packet t.link sends.packet in
    record {
      held = server_core sends.held;
      what = to.what;
      holds = to.holds;
      puts = sends.packet;
      handshake = puts.handshake ∙ ap (λ (kind : PutKind). handshake_behind kind sends.held.handshake) (sym kind);
      opens_is = sends.opens_is ∙ ap (λ (one : PutKind). put_opens one sends.held.handshake) (sym kind);
      is_open = puts.is_open;
      offer = puts.offer;
      own = puts.own;
      most = answers_most (holds t.link && is_none t.handshake.owed) t.session;
      more = λ closed. puts.more;
    }

-- IT WORKS, or does nothing
abbrev Stays : ServerState → ServerState → Type 0
Stays s t = EndStays (server_core s) (server_core t)

pub server_same : (s t : ServerState) → t ≡ s → Stays s t
server_same s t is = subst (Stays s) (sym is) (record { link = refl; handshake = refl; offer = refl; is_open = refl; own = refl; more = omega arith })

-- its session and its work change, and not its range
works_on : (s : ServerState) (session : Option ServerSession) (work : Option Work) → is_some session ≡ is_some s.session → range_packets session ≡ range_packets s.session
    → Stays s (record s { session = session; work = work })
works_on s session work opened range = grind arith

pub server_fetched : (s : ServerState) (at : Seen) (r : Reach) (slot : ℕ) (bytes : List ℕ) (t : ServerState) (new : List ℕ) → ServerFetches s at r slot bytes t new → Stays s t
server_fetched s at r slot bytes t new step =
    let may : ServerMay s at (Fetches step.session) = subst (ServerMay s at) step.rule (server_may s at) in
    subst (Stays s) (sym step.is) (works_on s (Some (record step.session { descs = wrapped (step.session.descs + 1) }))
    (Some (record { bytes = bytes; progress = first_progress s.blocks (slot_says.disk_desc_of bytes) })) (ap is_some (sym may.1)) (ap range_packets (sym may.1)))

pub server_moved : (s : ServerState) (at : Seen) (r : Reach) (unit : ℕ) (fault : Option CopyFault) (t : ServerState) (new : List ℕ) → ServerMoves s at r unit fault t new → Stays s t
server_moved s at r unit fault t new step = subst (Stays s) (sym step.is) (works_on s s.session (Some (record step.work { progress = step.next })) refl refl)

pub server_stored : (s : ServerState) (at : Seen) (operation block count : ℕ) (failed : Bool) (gave : List ℕ) (t : ServerState) → ServerStores s at operation block count failed gave t
    → Stays s t
server_stored s at operation block count failed gave t step = subst (Stays s) (sym step.is) (works_on s s.session (Some (record step.work { progress = step.next })) refl refl)

pub server_finished : (s : ServerState) (at : Seen) (r : Reach) (slot status : ℕ) (t : ServerState) (new : List ℕ) → ServerFinishes s at r slot status t new → Stays s t
server_finished s at r slot status t new step = grind (arith, server_may)
