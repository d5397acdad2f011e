-- How many packets an end has still to put: the number falls with each packet that it puts, and rises by one as its link holds a message of
-- its session. Where the messages that it may begin count too, it doesn't rise.
use Rattle.std.proofs.Common.{◌≡◌, ℕ, ◌+◌, ◌≤◌, Bool, true, false, Option, Some, List, [], ◌∷◌, length, drop, refl, sym, ap, ◌∙◌, arith, length-drop}
use Rattle.std.proofs.lemmas.Bool.{leb-false}
use Rattle.ldc_link.specs.declared.phase.LinkPhase.{LinkPhase}
use Rattle.ldc_link.specs.declared.phase.LinkPhase.TheVariants as phase
use Rattle.ldc_link.specs.declared.phase.Role.{Role}
use Rattle.ldc_link.specs.declared.phase.Role.TheVariants.{Initiator, Responder}
use Rattle.ldc_link.specs.LinkState.{LinkState, is_established}
use Rattle.ldc_link.specs.Putting.{owes}
use Rattle.ldc_queue.specs.Transcript.{Utterance}
use Rattle.vio_handshake.specs.declared.handshake.Handshake.{Handshake}
use Rattle.vio_handshake.specs.declared.handshake.Phase.{Phase}
use Rattle.vio_handshake.specs.Messages.{info, own_ring}
use Rattle.vio_handshake.specs.Rules.{handshake_sent, opens_by_put}
use Rattle.vio_handshake.specs.State.{begun, handshake_up, joined_handshake}
use Rattle.vio_tag.proofs.Canonical.{length_canonical}
use Rattle.vio_tag.specs.declared.message.Message.{Message}
use Rattle.vio_tag.specs.declared.message.MsgBody.TheVariants.{Rdx, Ver}
use Rattle.vio_tag.specs.Spelling.{canonical}
use Rattle.lane_models.specs.EndPuts.{EndsHandshake, PutKind, put_opens}
use Rattle.lane_models.proofs.EndCases.{PutControl, PutHandshake, PutMore, PutOwn, PutReady, PutWhat, end_put}
use Rattle.lane_models.proofs.EndStanding.{few_offered, held_stands, holds_some, last_none}
use Rattle.lane_models.proofs.HandshakeCases.{RowSent, row_sent}
use Rattle.lane_models.proofs.LinkCases.{ControlPut, behind_part, behind_ready}
use Rattle.lane_models.proofs.Short.{short_within}
use Rattle.lane_models.proofs.UtteranceCases.{SaysLast}
use Rattle.lane_models.specs.EndCore.{EndCore, holds}
use Rattle.lane_models.specs.EndStep.{EndAnew, EndSays, EndStays, EndWaits, Holding, Holds, HoldsOn, kind_of}
use Rattle.lane_models.specs.PacketsLeft.{all_in, all_of, first_packets, held_left, later_in, left_in, messages_in, own_in, packets_left, parts, parts_owed}
use Rattle.lane_models.specs.Standing.{EndStands, HandshakeStands, is_open_in}

-- SUMS
part_less : (xs : List ℕ) → 57 ≤ length xs → parts (length (drop 56 xs)) + 1 ≤ parts (length xs)
part_less xs long = omega (arith, length-drop 56 xs, long)

pub held_empty : (own : Bool) (xs : List ℕ) (owed : Option Message) → xs ≡ [] → held_left own xs owed ≡ parts_owed owed
held_empty own [] owed empty = refl
held_empty own (x ∷ xs) owed empty = absurd (cc empty)

held_own : (xs : List ℕ) (owed : Option Message) → 1 ≤ length xs → held_left true xs owed ≡ parts (length xs) + parts_owed owed
held_own [] owed some = absurd (omega (arith, some))
held_own (x ∷ xs) owed some = refl

held_other : (xs : List ℕ) (owed : Option Message) → 1 ≤ length xs → held_left false xs owed ≡ parts (length xs)
held_other [] owed some = absurd (omega (arith, some))
held_other (x ∷ xs) owed some = refl

held_part : (own : Bool) (xs ys : List ℕ) (owed : Option Message) → 1 ≤ length xs → 1 ≤ length ys → parts (length xs) + 1 ≤ parts (length ys)
    → held_left own xs owed + 1 ≤ held_left own ys owed
held_part own xs ys owed some more less = grind arith

-- THE HANDSHAKE, as its link comes up
version_part : (sid major minor class : ℕ) → parts (length (canonical (info sid (Ver major minor class)))) ≡ 1
version_part sid major minor class = omega (arith, length_canonical (info sid (Ver major minor class)))

ready_part : (sid : ℕ) → parts (length (canonical (info sid Rdx))) ≡ 1
ready_part sid = omega (arith, length_canonical (info sid Rdx))

begun_left : (role : Role) (h : Handshake) → h.role ≡ role
    → later_in (begun role (joined_handshake h)) + parts_owed (begun role (joined_handshake h)).owed ≤ all_of h.offer.both_rings role
begun_left role h is = grind (arith, version_part)

pub up_left : (h : Handshake) → later_in (handshake_up h) + parts_owed (handshake_up h).owed ≤ all_in h
up_left h = begun_left h.role h refl

ring_parts : (role : Role) (c : EndCore) (turns : List Utterance) → EndStands role c turns → parts (length (canonical (info c.handshake.draft.sid (own_ring c.handshake.offer)))) ≤ 5
ring_parts role c turns stands =
    omega (arith, short_within (info c.handshake.draft.sid (own_ring c.handshake.offer)) (few_offered role c.offer c.handshake stands.handshake))

abbrev SentLeft : Handshake → Handshake → Type 0
SentLeft h t = later_in t + parts_owed t.owed ≤ later_in h

sent_left : (role : Role) (c : EndCore) (turns : List Utterance) (t : Handshake) (opens : Bool) → EndStands role c turns → RowSent c.handshake t opens → SentLeft c.handshake t
sent_left role c turns t opens stands sent = grind (arith, ready_part, ring_parts)

-- IT BEGINS
pub anew_packets : (role : Role) (c t : EndCore) → HandshakeStands role c.offer c.handshake → EndAnew role c t → packets_left t ≡ first_packets c.offer.both_rings role
anew_packets role c t stands begins = grind arith

-- IT WORKS, or does nothing
pub stays_packets : (c t : EndCore) → EndStays c t → packets_left t ≡ packets_left c
stays_packets c t stays = search

-- IT HOLDS a message: one of its session only where its link owed no packet and its handshake no message
pub own_most : (what : Holding) → own_in what ≤ 1
own_most HoldsOn = omega arith
own_most _ = omega arith

pub loud_none : (c held : EndCore) (what : Holding) → owes c.link ≡ true → Holds c what held → own_in what ≡ 0
loud_none c held what loud holds = grind arith

pub owing_none : (c held : EndCore) (message : Message) (what : Holding) → c.handshake.owed ≡ Some message → Holds c what held → own_in what ≡ 0
owing_none c held message what owed holds = grind arith

pub held_packets : (role : Role) (c held : EndCore) (turns : List Utterance) (what : Holding) → EndStands role c turns → Holds c what held
    → packets_left held ≤ packets_left c + own_in what
held_packets role c held turns what stands is = grind arith

pub waits_packets : (role : Role) (c t : EndCore) (turns : List Utterance) → EndStands role c turns → (waits : EndWaits c t) → packets_left t ≤ packets_left c + own_in waits.what
waits_packets role c t turns stands waits = held_packets role c t turns waits.what stands waits.holds

-- IT PUTS a packet
control_left : (before next : LinkPhase) (bytes : List ℕ) (all n m : ℕ) → ControlPut before bytes next → left_in next all n + 1 ≤ left_in before all m
control_left before next bytes all n m put = grind arith

-- with the message that is left, and the handshake
part_left : (held t : EndCore) (left : List ℕ) (h : Handshake) → held.link.phase ≡ phase.Established → t.link ≡ behind_part held.link → left ≡ drop 56 held.link.to_send → t.handshake ≡ h
    → later_in h + held_left t.own left h.owed + 1 ≤ messages_in held → packets_left t + 1 ≤ packets_left held
part_left held t left h at link is handshake less = grind arith

ready_left : (role : Role) (held t : EndCore) (turns : List Utterance) → EndStands role held turns → held.link.phase ≡ phase.OwesRdx → t.link ≡ behind_ready held.link
    → t.handshake ≡ handshake_up held.handshake → packets_left t + 1 ≤ packets_left held
ready_left role held t turns stands at link handshake = grind (arith, up_left)

last_left : (held t : EndCore) (turns : List Utterance) (packet : List ℕ) (h : Handshake) → held.link.phase ≡ phase.Established → t.link ≡ behind_part held.link
    → SaysLast held.link turns packet → t.handshake ≡ h → later_in h + parts_owed h.owed + 1 ≤ messages_in held → packets_left t + 1 ≤ packets_left held
last_left held t turns packet h at link last handshake less =
    part_left held t [] h at link (sym (last_none held.link turns packet last)) handshake (omega (arith, less, held_empty t.own [] h.owed refl))

some_part : (n : ℕ) → 1 ≤ n → 1 ≤ parts n
some_part n some = omega (arith, some)

put_packets : (role : Role) (held t : EndCore) (turns : List Utterance) (packet : List ℕ) (opens : Bool) → EndStands role held turns
    → (holds held.link ≡ true → holds t.link ≡ true → t.own ≡ held.own) → PutWhat role held turns packet opens t → packets_left t + 1 ≤ packets_left held
put_packets role held t turns packet opens stands own (PutControl next gone link quiet handshake not is_open) =
    omega (
      arith,
      ap (λ (k : LinkState). left_in k.phase (all_in t.handshake) (messages_in t)) link ∙ ap (λ (h : Handshake). left_in next (all_in h) (messages_in t)) handshake,
      control_left held.link.phase next packet (all_in held.handshake) (messages_in t) (messages_in held) gone,
    )
put_packets role held t turns packet opens stands own (PutReady role_is at spelled link quiet handshake not is_open) = ready_left role held t turns stands at link handshake
put_packets role held t turns packet opens stands own (PutMore at link part handshake not is_open) =
    let long = leb-false (length held.link.to_send) 56 part.long in
    let less = length-drop 56 held.link.to_send in
    let some : 1 ≤ length held.link.to_send = omega (arith, long) in
    let left : 1 ≤ length (drop 56 held.link.to_send) = omega (arith, less, long) in
    let same : t.own ≡ held.own = own (holds_some held.link (ap is_established at) some) (ap holds link ∙ holds_some (behind_part held.link) (ap is_established at) left) in
    part_left held t (drop 56 held.link.to_send) held.handshake at link refl handshake
    (omega (
      arith,
      ap (λ (b : Bool). held_left b (drop 56 held.link.to_send) held.handshake.owed) same,
      held_part held.own (drop 56 held.link.to_send) held.link.to_send held.handshake.owed left some (part_less held.link.to_send (omega (arith, long))),
    ))
put_packets role held t turns packet opens stands own (PutOwn is at link last handshake not is_open) =
    last_left held t turns packet held.handshake at link last handshake
    (omega (
      arith,
      some_part (length held.link.to_send) last.some,
      ap (λ (b : Bool). held_left b held.link.to_send held.handshake.owed) is ∙ held_own held.link.to_send held.handshake.owed last.some,
    ))
put_packets role held t turns packet opens stands own (PutHandshake is at link last handshake flag is_open) =
    last_left held t turns packet (handshake_sent held.handshake) at link last handshake
    (omega (
      arith,
      some_part (length held.link.to_send) last.some,
      sent_left role held turns (handshake_sent held.handshake) _ stands (row_sent held.handshake),
      ap (λ (b : Bool). held_left b held.link.to_send held.handshake.owed) is ∙ held_other held.link.to_send held.handshake.owed last.some,
    ))

pub says_packets : (role : Role) (c t : EndCore) (turns : List Utterance) (packet : List ℕ) (opens : Bool) → EndStands role c turns → (says : EndSays role c packet opens t)
    → packets_left t + 1 ≤ packets_left c + own_in says.what
says_packets role c t turns packet opens stands says =
    let holds_so = held_stands role c says.held turns says.what stands says.holds in
    omega (
      arith,
      held_packets role c says.held turns says.what stands says.holds,
      put_packets role says.held t turns packet opens holds_so says.own (end_put role c t turns packet opens says holds_so),
    )

-- WITH THE MESSAGES that it may begin
held_more : (role : Role) (c held : EndCore) (turns : List Utterance) (what : Holding) → EndStands role c turns → Holds c what held → held.more + own_in what ≤ c.more
held_more role c held turns what stands is = grind arith

pub waits_left : (role : Role) (c t : EndCore) (turns : List Utterance) → EndStands role c turns → EndWaits c t → packets_left t + t.more ≤ packets_left c + c.more
waits_left role c t turns stands waits =
    omega (arith, held_packets role c t turns waits.what stands waits.holds, held_more role c t turns waits.what stands waits.holds)

pub says_left : (role : Role) (c t : EndCore) (turns : List Utterance) (packet : List ℕ) (opens : Bool) → EndStands role c turns → EndSays role c packet opens t → opens ≡ false
    → packets_left t + t.more + 1 ≤ packets_left c + c.more
says_left role c t turns packet opens stands says shut =
    omega (arith, says_packets role c t turns packet opens stands says, held_more role c says.held turns says.what stands says.holds, says.more shut)

-- A SESSION OPENS by a message that an initiator puts, and wasn't open before
pub opening_shut : (role : Role) (at : Phase) → opens_by_put role at ≡ true → (role ≡ Initiator) × (is_open_in at ≡ false)
opening_shut role at opens = grind arith

pub shut_in : (kind : PutKind) (h : Handshake) → h.role ≡ Responder → put_opens kind h ≡ false
shut_in EndsHandshake h role_is = ap (λ (r : Role). opens_by_put r h.phase) role_is
shut_in _ h role_is = refl

pub answering_shut : (c t : EndCore) (turns : List Utterance) (packet : List ℕ) (opens : Bool) → EndStands Responder c turns → EndSays Responder c packet opens t → opens ≡ false
answering_shut c t turns packet opens stands says =
    says.opens_is ∙ shut_in (kind_of says.held) says.held.handshake (held_stands Responder c says.held turns says.what stands says.holds).handshake.role_is
