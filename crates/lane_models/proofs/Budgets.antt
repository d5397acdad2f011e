-- The budget of an end: it is never above 34,000, doesn't grow but by what the end takes, and falls with each packet that it puts.
use Rattle.std.proofs.Common.{◌≡◌, ℕ, ◌+◌, ◌*◌, ◌≤◌, Bool, true, false, Option, List, [], ◌∷◌, length, drop, refl, sym, ap, ◌∙◌, arith, length-drop}
use Rattle.std.proofs.lemmas.Bool.{leb-false}
use Rattle.ldc_link.specs.declared.phase.LinkPhase.{LinkPhase}
use Rattle.ldc_link.specs.declared.phase.LinkPhase.TheVariants as phase
use Rattle.ldc_link.specs.declared.phase.Role.{Role}
use Rattle.ldc_link.specs.declared.phase.Role.TheVariants.{Initiator, Responder}
use Rattle.ldc_link.specs.LinkState.{LinkState, first_phase, is_established}
use Rattle.ldc_queue.specs.Transcript.{Utterance}
use Rattle.vio_handshake.specs.declared.handshake.Handshake.{Handshake}
use Rattle.vio_handshake.specs.Rules.{opens_by_put, handshake_sent}
use Rattle.vio_handshake.specs.State.{handshake_up}
use Rattle.vio_tag.specs.declared.message.Message.{Message}
use Rattle.lane_models.proofs.EndCases.{PutControl, PutMore, PutOwn, PutReady, PutHandshake, PutWhat, end_put}
use Rattle.lane_models.proofs.EndStanding.{held_stands, holds_some, last_none}
use Rattle.lane_models.proofs.HandshakeCases.{RowSent, row_sent}
use Rattle.lane_models.proofs.LinkCases.{ControlPut, behind_part, behind_ready}
use Rattle.lane_models.proofs.Short.{short_within}
use Rattle.lane_models.proofs.UtteranceCases.{SaysLast}
use Rattle.lane_models.specs.Budget.{budget, budget_in, messages_left, one_more, one_owed, opening_left, owed_packets}
use Rattle.lane_models.specs.EndCore.{EndCore, holds}
use Rattle.lane_models.specs.EndStep.{EndAnew, EndSays, EndStays, EndWaits, Holding, Holds}
use Rattle.lane_models.specs.Standing.{EndStands}

-- SUMS
owed_held : (xs : List ℕ) (owed : Option Message) → 1 ≤ length xs → owed_packets false xs owed ≡ 0
owed_held [] owed some = absurd (omega (arith, some))
owed_held (x ∷ xs) owed some = refl

owed_beside : (xs : List ℕ) (owed : Option Message) → owed_packets true xs owed ≡ one_owed owed
owed_beside [] owed = refl
owed_beside (x ∷ xs) owed = refl

owed_same : (own : Bool) (xs ys : List ℕ) (owed : Option Message) → 1 ≤ length xs → 1 ≤ length ys → owed_packets own xs owed ≡ owed_packets own ys owed
owed_same own xs ys owed some more = grind arith

-- once its message was put: the next one was counted, and so were the messages of a session that opens
record SentLess (h t : Handshake) (opens : Bool) (more now : ℕ) : Type 0 where
  owed : one_owed t.owed + one_more t.role t.phase ≤ one_more h.role h.phase
  opening : opening_left t.role t.phase + now ≤ opening_left h.role h.phase + more

sent_less : (h t : Handshake) (opens : Bool) (more now : ℕ) → now ≤ 256 → (opens ≡ false → now ≤ more) → RowSent h t opens → SentLess h t opens more now
sent_less h t opens more now most less sent = grind arith

-- ITS BOUND
pub budget_small : (role : Role) (c : EndCore) (turns : List Utterance) → EndStands role c turns → budget c ≤ 34000
budget_small role c turns stands = grind arith

-- IT BEGINS
first_budget : (role : Role) (n : ℕ) → budget_in (first_phase role) n ≤ 1
first_budget Initiator n = omega arith
first_budget Responder n = omega arith

pub anew_budget : (role : Role) (c t : EndCore) → EndAnew role c t → budget t ≤ 1
anew_budget role c t anew =
    omega (arith, ap (λ (k : LinkState). budget_in k.phase (messages_left t)) anew.link, first_budget role (messages_left t))

-- IT GOES ON beside the wire, or holds a message
same_budget : (c t : EndCore) → t.link ≡ c.link → t.handshake ≡ c.handshake → t.own ≡ c.own → t.more ≤ c.more → budget t ≤ budget c
same_budget c t link handshake own more = grind arith

pub stays_budget : (c t : EndCore) → EndStays c t → budget t ≤ budget c
stays_budget c t stays = same_budget c t stays.link stays.handshake stays.own stays.more

pub held_budget : (role : Role) (c held : EndCore) (turns : List Utterance) (what : Holding) → EndStands role c turns → Holds c what held → budget held ≤ budget c
held_budget role c held turns what stands is = grind (arith, short_within)

pub waits_budget : (role : Role) (c t : EndCore) (turns : List Utterance) → EndStands role c turns → EndWaits c t → budget t ≤ budget c
waits_budget role c t turns stands waits = held_budget role c t turns waits.what stands waits.holds

-- IT PUTS a packet
control_budget : (before next : LinkPhase) (bytes : List ℕ) (n m : ℕ) → ControlPut before bytes next → budget_in next n + 1 ≤ budget_in before m
control_budget before next bytes n m put = grind arith

-- with the message that is left, the handshake and the messages of the session
up_budget : (held t : EndCore) (left : List ℕ) (h : Handshake) → held.link.phase ≡ phase.Established → t.link ≡ behind_part held.link → left ≡ drop 56 held.link.to_send → t.handshake ≡ h
    → length left + 257 * (owed_packets t.own left h.owed + one_more h.role h.phase) + 60 * (opening_left h.role h.phase + t.more) + 1 ≤ messages_left held → budget t + 1 ≤ budget held
up_budget held t left h at link is handshake less = grind arith

ready_budget : (role : Role) (held t : EndCore) (turns : List Utterance) → EndStands role held turns → held.link.phase ≡ phase.OwesRdx → t.link ≡ behind_ready held.link
    → t.handshake ≡ handshake_up held.handshake → t.more ≤ held.more → budget t + 1 ≤ budget held
ready_budget role held t turns stands at link handshake more = grind arith

last_budget : (held t : EndCore) (turns : List Utterance) (packet : List ℕ) (h : Handshake) → held.link.phase ≡ phase.Established → t.link ≡ behind_part held.link
    → SaysLast held.link turns packet → t.handshake ≡ h
    → one_owed h.owed + one_more h.role h.phase ≤ owed_packets held.own held.link.to_send held.handshake.owed + one_more held.handshake.role held.handshake.phase
    → opening_left h.role h.phase + t.more ≤ opening_left held.handshake.role held.handshake.phase + held.more → budget t + 1 ≤ budget held
last_budget held t turns packet h at link last handshake owed opening =
    up_budget held t [] h at link (sym (last_none held.link turns packet last)) handshake (omega (arith, last.some, owed, opening))

put_budget : (role : Role) (held t : EndCore) (turns : List Utterance) (packet : List ℕ) (opens : Bool) → EndStands role held turns → t.more ≤ 256 → (opens ≡ false → t.more ≤ held.more)
    → (holds held.link ≡ true → holds t.link ≡ true → t.own ≡ held.own) → PutWhat role held turns packet opens t → budget t + 1 ≤ budget held
put_budget role held t turns packet opens stands most more own (PutControl next gone link quiet handshake not is_open) =
    omega (arith, ap (λ (k : LinkState). budget_in k.phase (messages_left t)) link, control_budget held.link.phase next packet (messages_left t) (messages_left held) gone)
put_budget role held t turns packet opens stands most more own (PutReady role_is at spelled link quiet handshake not is_open) =
    ready_budget role held t turns stands at link handshake (more not)
put_budget role held t turns packet opens stands most more own (PutMore at link part handshake not is_open) =
    let long = leb-false (length held.link.to_send) 56 part.long in
    let less = length-drop 56 held.link.to_send in
    let some : 1 ≤ length held.link.to_send = omega (arith, long) in
    let left : 1 ≤ length (drop 56 held.link.to_send) = omega (arith, less, long) in
    let same : t.own ≡ held.own = own (holds_some held.link (ap is_established at) some) (ap holds link ∙ holds_some (behind_part held.link) (ap is_established at) left) in
    up_budget held t (drop 56 held.link.to_send) held.handshake at link refl handshake
    (omega (
      arith,
      less,
      long,
      more not,
      ap (λ (b : Bool). owed_packets b (drop 56 held.link.to_send) held.handshake.owed) same ∙ owed_same held.own (drop 56 held.link.to_send) held.link.to_send held.handshake.owed left some,
    ))
put_budget role held t turns packet opens stands most more own (PutOwn is at link last handshake not is_open) =
    last_budget held t turns packet held.handshake at link last handshake
    (omega (arith, ap (λ (b : Bool). owed_packets b held.link.to_send held.handshake.owed) is ∙ owed_beside held.link.to_send held.handshake.owed)) (omega (arith, more not))
put_budget role held t turns packet opens stands most more own (PutHandshake is at link last handshake flag is_open) =
    let sent = sent_less held.handshake (handshake_sent held.handshake) (opens_by_put held.handshake.role held.handshake.phase) held.more t.more most
    (λ not. more (flag ∙ not)) (row_sent held.handshake) in
    last_budget held t turns packet (handshake_sent held.handshake) at link last handshake
    (omega (arith, sent.owed, ap (λ (b : Bool). owed_packets b held.link.to_send held.handshake.owed) is ∙ owed_held held.link.to_send held.handshake.owed last.some)) sent.opening

pub says_budget : (role : Role) (c t : EndCore) (turns : List Utterance) (packet : List ℕ) (opens : Bool) → EndStands role c turns → EndSays role c packet opens t → budget t + 1 ≤ budget c
says_budget role c t turns packet opens stands says =
    let holds_so = held_stands role c says.held turns says.what stands says.holds in
    omega (
      arith,
      held_budget role c says.held turns says.what stands says.holds,
      put_budget role says.held t turns packet opens holds_so says.most says.more says.own (end_put role c t turns packet opens says holds_so),
    )
