-- A step of a guest keeps what is known of all that is on the way between it and the switch's end.
use Rattle.std.proofs.Common.{◌≡◌, ◌≢◌, ℕ, ◌^◌, ◌<◌, ◌≤◌, Bool, true, false, Option, Some, None, List, [], ◌∷◌, ◌++◌, length, drop, inl, inr, refl, sym, subst, ap, ◌∙◌, arith}
use Rattle.std.specs.Prelude.{is_none, is_some, zero, suc}
use Rattle.std.proofs.lemmas.List.{append-nil}
use Rattle.ldc_link.specs.declared.phase.Role.{Role}
use Rattle.ldc_link.specs.declared.phase.Role.TheVariants.{Initiator, Responder}
use Rattle.ldc_link.specs.LinkState.{is_up}
use Rattle.ldc_queue.specs.declared.end.End.TheVariants.{A, B}
use Rattle.ldc_queue.specs.OneStream.{IsFront}
use Rattle.ldc_queue.specs.Transcript.{Heard, Said, Utterance}
use Rattle.lane_models.specs.Sayings.{heard, said}
use Rattle.lane_models.specs.WireAt.{IsUp}
use Rattle.lane_models.specs.Sides.{sides_of, swapped}
use Rattle.lane_models.specs.Standing.{EndStands}
use Rattle.lane_models.proofs.Refuting.{none_some, true_false}
use Rattle.lane_models.proofs.Ruling.{says_of}
use Rattle.lane_models.specs.NetEndPutting.{net_holds, opened_by_put}
use Rattle.lane_models.specs.NetEndRule.{Fetches, Publishes, port_rule}
use Rattle.lane_models.specs.NetEndState.{NetEndState, NetSession, first_id, opened_session}
use Rattle.lane_models.specs.NetEndStep.{Blocked, Frame, NetAnswer, NetLeft, Published, Sent, Took, published, taken}
use Rattle.lane_models.specs.NetEndTaking.{GoesOn, NetTakes, Resets}
use Rattle.lane_models.specs.NetEvent.{Steps}
use Rattle.lane_models.specs.NetLaneState.{NetLaneState, NetShape, seen_at, reach_of}
use Rattle.lane_models.specs.PortLog.{PortLog, after}
use Rattle.lane_models.specs.PortState.{OnLane, PortState}
use Rattle.port_laws.specs.Counted.{unsaid}
use Rattle.port_laws.specs.NetCore.{lane_core, net_core}
use Rattle.port_laws.proofs.EndCounting.{empty_unsaid, shut_counts}
use Rattle.port_laws.proofs.FormsOwn.{MayForm, PutsIt, formed_by, opens_unsaid, sends_own}
use Rattle.port_laws.proofs.HearsIn.{AllAgreed, OwnRead, hears_in, mine_agreed, theirs_agreed}
use Rattle.port_laws.proofs.MessageDoes.{Does, TakeDoes, message_does}
use Rattle.port_laws.proofs.Outbox.{listed, low_fits, low_none, low_tells, outbox, unheard}
use Rattle.port_laws.proofs.PortTwoEnds.{PortTwoEnds, answers_of, asks_of}
use Rattle.port_laws.proofs.PutCounts.{not_some, own_session, owing_left, put_end}
use Rattle.port_laws.proofs.RingActs.{Acts, acting_at, acts_up_at, open_both, turned_at}
use Rattle.port_laws.proofs.RingEvents.{Goes, turns_at, utterances_now}
use Rattle.port_laws.proofs.SessionsHeard.{grown_most, said_grown}
use Rattle.port_laws.proofs.StepCounts.{Acting}
use Rattle.port_laws.proofs.TakesIn.{GuestNotes, InSession, guest_notes, in_own_session, next_read}
use Rattle.port_laws.proofs.GroupsExchanged.{ExchangeIn, guest_hears, same_exchange}
use Rattle.port_laws.proofs.ExchangeSteps.{GuestForms, guest_forms, outbox_heard, outbox_put}
use Rattle.port_laws.proofs.PortRuns.{by_option}
use Rattle.port_laws.proofs.TookCounts.{free_empty, session_open, session_up}
use Rattle.port_laws.proofs.WayMoves.{EachLow, Plain}
use Rattle.port_laws.proofs.WayPlain.{closed_plain, open_said}
use Rattle.port_laws.proofs.WayRuns.{guest_goes, hub_none, opening_sent, peer_was_up}
use Rattle.lane_models.proofs.Apart.{some_same}

-- BOTH ENDS, and what they said and heard
abbrev pub Between : NetEndState → NetEndState → List Utterance → List Utterance → NetSession → Type 0
Between guest hub client server p =
    ExchangeIn guest.handshake.draft.sid guest.groups p (outbox guest client server) (outbox hub server client) hub.session hub.groups

abbrev pub ExchangeStands : NetLaneState → PortLog → Type 0
ExchangeStands u l = (p : NetSession) → IsUp A u.wire.wire → IsUp B u.wire.wire → u.guest.session ≡ Some p → Between u.guest u.hub l.transcript.a l.transcript.b p

-- an end of a guest as it is now
pub guest_as : (s t : NetEndState) (q : NetSession) (asks now answers : List (List ℕ)) (session : Option NetSession) (known : List (List ℕ)) → t.groups ≡ s.groups → t.handshake ≡ s.handshake → now ≡ asks
    → ExchangeIn s.handshake.draft.sid s.groups q asks answers session known → ExchangeIn t.handshake.draft.sid t.groups q now answers session known
guest_as s t q asks now answers session known groups handshake same exchange = grind arith

same_left : (s t : NetEndState) → t.handshake ≡ s.handshake → t.link.to_send ≡ s.link.to_send → unsaid t ≡ unsaid s
same_left s t handshake sends = grind arith

pub same_outbox : (s t : NetEndState) (mine theirs : List Utterance) → t.handshake ≡ s.handshake → t.link.to_send ≡ s.link.to_send → outbox t mine theirs ≡ outbox s mine theirs
same_outbox s t mine theirs handshake sends = ap (λ (o : Option (List ℕ)). unheard (said mine) (heard theirs) ++ listed o) (same_left s t handshake sends)

-- THE SESSION'S NUMBER, where nobody forged
pub record GuestSid (u : NetLaneState) : Type 0 where
  pub agreed : AllAgreed u.guest.handshake u.guest.handshake.draft.sid
  pub small : u.guest.handshake.draft.sid < 2 ^ 32

pub guest_sid : (shape : NetShape) (u : NetLaneState) (l : PortLog) → PortTwoEnds shape (lane_core u) l → IsUp A u.wire.wire → is_some u.guest.session ≡ true → GuestSid u
guest_sid shape u l two_ends up opened =
    let one = two_ends.two_ends A in grind arith

pub hub_agreed : (shape : NetShape) (u : NetLaneState) (l : PortLog) → PortTwoEnds shape (lane_core u) l → IsUp A u.wire.wire → is_some u.guest.session ≡ true → IsUp B u.wire.wire → is_some u.hub.session ≡ true
    → AllAgreed u.hub.handshake u.guest.handshake.draft.sid
hub_agreed shape u l two_ends up opened other_up other_opened =
    let one = two_ends.two_ends A in
    let agreed = mine_agreed (asks_of shape) (answers_of shape) Initiator (sides_of (lane_core u) l.transcript) one up opened in
    subst (AllAgreed u.hub.handshake) (sym agreed.draft) (theirs_agreed (asks_of shape) (answers_of shape) Initiator (sides_of (lane_core u) l.transcript) one other_up other_opened)

-- AN END WITHOUT A SESSION says what is low
low_drop : (n : ℕ) (messages : List (List ℕ)) → EachLow messages → EachLow (drop n messages)
low_drop zero messages low = low
low_drop (suc n) [] low = tt
low_drop (suc n) (m ∷ messages) low = low_drop n messages low.1

pub low_outbox : (s : NetEndState) (mine theirs : List Utterance) → EachLow (said mine) → unsaid s ≡ None → EachLow (outbox s mine theirs)
low_outbox s mine theirs low none = grind (arith, append-nil, low_drop)

pub shut_unsaid : (role : Role) (s : NetEndState) (turns : List Utterance) → EndStands role (net_core role s) turns → s.session ≡ None → unsaid s ≡ None
shut_unsaid role s turns stands none =
    let by_send : (b : Bool) → is_none s.handshake.owed ≡ b → is_up s.link ≡ true → (bytes : List ℕ) → s.link.to_send ≡ bytes → unsaid s ≡ None = λ b own up bytes is.
    grind (arith, empty_unsaid, owing_left, own_session, none_some) in
    let by_up : (b : Bool) → is_up s.link ≡ b → unsaid s ≡ None = λ b down. grind (arith, by_send, empty_unsaid) in
    by_up (is_up s.link) refl

-- WHAT NO SESSION SAID YET
low_exchange : (sid : ℕ) (groups : List (List ℕ)) (q : NetSession) (asks answers : List (List ℕ)) (session : Option NetSession) (known : List (List ℕ)) → EachLow asks → EachLow answers → session ≡ None
    → known ≡ [] → q.telling ≡ false → q.reply ≡ None → q.untold ≡ true → ExchangeIn sid groups q asks answers session known
low_exchange sid groups q asks answers session known asks_low answers_low none nothing telling reply untold = grind (arith, low_fits, low_none, low_tells, true_false)

-- a session that opens tells nothing yet
opened_fresh : (s : NetEndState) (base : ℕ) (q : NetSession) → s.session ≡ Some q → s.session ≡ Some (opened_session base) → (q.telling ≡ false) × (q.reply ≡ None) × (q.untold ≡ true)
opened_fresh s base q now is = grind arith

-- A STEP IN SESSION
module _ (shape : NetShape) (u t : PortState) (l : PortLog) (left : NetLeft) (p q : NetSession) (session : u.lane.guest.session ≡ Some p) (now : left.end.session ≡ Some q) (other_up : IsUp B u.lane.wire.wire)
    (was : Between u.lane.guest u.lane.hub l.transcript.a l.transcript.b p) where
  abbrev s : NetEndState
  s = u.lane.guest

  abbrev Now : List Utterance → Type 0
  Now turns = Between left.end u.lane.hub turns l.transcript.b q

  -- with the same link, handshake and groups
  quiet_now : (now_is : NetSession) → left.end.session ≡ Some now_is → left.end.groups ≡ s.groups → left.end.handshake ≡ s.handshake → left.end.link.to_send ≡ s.link.to_send → now_is.telling ≡ p.telling
      → now_is.reply ≡ p.reply → now_is.untold ≡ p.untold → Now l.transcript.a
  quiet_now now_is is groups handshake sends telling reply untold = grind (arith, guest_as, same_outbox, same_exchange)

  may_form : GuestSid u.lane → (acting : Acting Initiator shape.slots [] s l.guest l.transcript.a) → MayForm Initiator s.handshake.draft.sid s p
  may_form sid acting = record { session = session; agreed = sid.agreed; small = sid.small; empty = λ quiet. free_empty Initiator s l.transcript.a acting.ends quiet }

  forms_now : (held : NetEndState) → Acting Initiator shape.slots [] s l.guest l.transcript.a → GuestSid u.lane
      → net_holds (port_rule Initiator s (seen_at A u.lane)) s (reach_of A u.lane) ≡ Some held → GuestForms held s s.handshake.draft.sid l.transcript.a l.transcript.b (outbox u.lane.hub l.transcript.b l.transcript.a) u.lane.hub.session u.lane.hub.groups
  forms_now held acting sid holds =
      guest_forms s held p s.handshake.draft.sid l.transcript.a l.transcript.b (outbox u.lane.hub l.transcript.b l.transcript.a) u.lane.hub.session u.lane.hub.groups session
      acting.counts.groups sid.small refl
      (formed_by Initiator s.handshake.draft.sid s (seen_at A u.lane) (reach_of A u.lane) (port_rule Initiator s (seen_at A u.lane)) held p (may_form sid acting) refl holds) was

  -- it takes a packet
  took_now : (packet : List ℕ) (opens : Bool) → Acting Initiator shape.slots [] s l.guest l.transcript.a → PortTwoEnds shape (lane_core u.lane) l → IsUp A u.lane.wire.wire
      → IsFront (heard (Heard packet ∷ l.transcript.a)) (said l.transcript.b) → NetTakes Initiator s u.lane.guest_memory packet (GoesOn left.end opens left.own) → Now (Heard packet ∷ l.transcript.a)
  took_now packet opens acting two_ends up front takes =
      let opened : is_some s.session ≡ true = ap is_some session in
      elim (hears_in Initiator s l.transcript.a u.lane.guest_memory packet (GoesOn left.end opens left.own) acting.ends (session_up Initiator s l.transcript.a p acting.ends session) takes) [
        | inl none ↦ grind (arith, none.is)
        | inr (inl one) ↦
            let sides = sides_of (lane_core u.lane) l.transcript in
            let exchange = two_ends.two_ends A in
            let grown : IsFront (heard l.transcript.a ++ one.bytes ∷ []) (said l.transcript.b) = subst (λ (xs : List (List ℕ)). IsFront xs (said l.transcript.b)) one.messages front in
            let first = outbox_heard u.lane.hub l.transcript.b l.transcript.a packet one.bytes one.messages grown in
            let before : ExchangeIn s.handshake.draft.sid s.groups p (outbox s l.transcript.a l.transcript.b) (one.bytes ∷ outbox u.lane.hub l.transcript.b (Heard packet ∷ l.transcript.a))
            u.lane.hub.session u.lane.hub.groups = rw first at was in
            let own : OwnRead one.bytes exchange.meets.handshakes.sid =
            next_read (asks_of shape) (answers_of shape) Initiator Responder sides one.bytes s.handshake.draft.sid exchange up opened other_up grown before.answers_fit.0 in
            let agreed = mine_agreed (asks_of shape) (answers_of shape) Initiator sides exchange up opened in
            let in_it : InSession Initiator (record s { link = one.link }) p u.lane.guest_memory own.message (GoesOn left.end opens left.own) =
            in_own_session Initiator s p u.lane.guest_memory packet l.transcript.a (GoesOn left.end opens left.own) exchange.meets.handshakes.sid one session agreed.knows own in
            let does : Does Initiator (record s { link = one.link }) p u.lane.guest_memory own.message.subtype own.message.body left.end opens left.own =
            subst (TakeDoes Initiator (record s { link = one.link }) p u.lane.guest_memory own.message.subtype own.message.body) (sym in_it.hears)
            (message_does Initiator (record s { link = one.link }) p u.lane.guest_memory own.message (session_open Initiator s l.transcript.a p acting.ends session)) in
            let noted = guest_notes (record s { link = one.link }) left.end p u.lane.guest_memory left.own one.bytes own.message own.of own.spells does.does in
            let notes : GuestNotes (record s { link = one.link }) left.end p noted.0 one.bytes = noted.1 in
            let same : noted.0 ≡ q = some_same (sym notes.session ∙ now) in
            guest_as s left.end q (outbox s l.transcript.a l.transcript.b) (outbox left.end (Heard packet ∷ l.transcript.a) l.transcript.b)
            (outbox u.lane.hub l.transcript.b (Heard packet ∷ l.transcript.a)) u.lane.hub.session u.lane.hub.groups notes.groups notes.handshake
            (same_outbox s left.end l.transcript.a l.transcript.b notes.handshake (notes.sends ∙ one.sends))
            (subst (λ (x : NetSession). ExchangeIn s.handshake.draft.sid s.groups x (outbox s l.transcript.a l.transcript.b)
            (outbox u.lane.hub l.transcript.b (Heard packet ∷ l.transcript.a)) u.lane.hub.session u.lane.hub.groups) same
            (guest_hears s.handshake.draft.sid s.groups p noted.0 (outbox s l.transcript.a l.transcript.b) (outbox u.lane.hub l.transcript.b (Heard packet ∷ l.transcript.a))
            u.lane.hub.session u.lane.hub.groups one.bytes notes.told notes.same notes.reply notes.untold before))
        | inr (inr refused) ↦ let never : GoesOn left.end opens left.own ≡ Resets refused.cause = refused.is in absurd (cc never)
      ]

-- EACH ANSWER in session
guest_in : (shape : NetShape) (u t : PortState) (l : PortLog) (answer : NetAnswer) (left : NetLeft) (p q : NetSession) → Acts shape A u t l answer left → Goes answer → u.lane.guest.session ≡ Some p
    → left.end.session ≡ Some q → IsUp A u.lane.wire.wire → IsUp B u.lane.wire.wire → IsFront (heard (utterances_now answer l.transcript.a)) (said l.transcript.b)
    → Between u.lane.guest u.lane.hub l.transcript.a l.transcript.b p → Between left.end u.lane.hub (utterances_now answer l.transcript.a) l.transcript.b q
guest_in shape u t l (Published id) left p q acts goes session now up other front was =
    let step = acts.step in
    let says = says_of Initiator u.lane.guest (seen_at A u.lane) (Publishes step.session step.frame) step.rule in
    let same : left.end ≡ record u.lane.guest { session = Some (published step.session) } = ap (λ (x : NetLeft). x.end) step.is in
    let here : step.session ≡ p = some_same (sym says.0.in_session.session ∙ session) in
    grind (arith, quiet_now)
guest_in shape u t l (Frame frame) left p q acts goes session now up other front was =
    let step = acts.step in
    let says = says_of Initiator u.lane.guest (seen_at A u.lane) (Fetches step.session step.activity) step.rule in
    let same : left.end ≡ record u.lane.guest { session = Some (taken u.lane.guest step.session step.activity); last = frame } = ap (λ (x : NetLeft). x.end) step.is in
    let here : step.session ≡ p = some_same (sym says.0.session ∙ session) in
    grind (arith, quiet_now)
guest_in shape u t l Blocked left p q acts goes session now up other front was =
    let acting = acting_at shape A u l acts.finds up in
    let sid = guest_sid shape u.lane l acts.finds.two_ends up (ap is_some session) in
    let forms = forms_now shape u t l left p q session now other was left.end acting sid acts.step.0 in
    let same : forms.q ≡ q = some_same (sym forms.session_is ∙ now) in grind (arith, guest_as)
guest_in shape u t l (Sent packet opens) left p q acts goes session now up other front was =
    let step = acts.step in
    let acting = acting_at shape A u l acts.finds up in
    let sid = guest_sid shape u.lane l acts.finds.two_ends up (ap is_some session) in
    let forms = forms_now shape u t l left p q session now other was step.held acting sid step.holds in
    let puts : PutsIt step.held left.end l.transcript.a packet =
    sends_own Initiator shape.slots [] u.lane.guest l.guest l.transcript.a (seen_at A u.lane) u.lane.guest_memory (reach_of A u.lane) packet opens left forms.q acting step sid.agreed.owed forms.session_is in
    let same : forms.q ≡ q = some_same (sym (puts.session ∙ forms.session_is) ∙ now) in
    guest_as u.lane.guest left.end q (outbox step.held l.transcript.a l.transcript.b) (outbox left.end (Said packet ∷ l.transcript.a) l.transcript.b)
    (outbox u.lane.hub l.transcript.b l.transcript.a) u.lane.hub.session u.lane.hub.groups (puts.groups ∙ forms.groups) (puts.handshake ∙ forms.handshake)
    (outbox_put step.held left.end l.transcript.a l.transcript.b packet puts (acts.finds.two_ends.front other))
    (subst (λ (x : NetSession). ExchangeIn u.lane.guest.handshake.draft.sid u.lane.guest.groups x (outbox step.held l.transcript.a l.transcript.b)
    (outbox u.lane.hub l.transcript.b l.transcript.a) u.lane.hub.session u.lane.hub.groups) same forms.exchange)
guest_in shape u t l (Took packet opens) left p q acts goes session now up other front was =
    took_now shape u t l left p q session now other was packet opens (acting_at shape A u l acts.finds up) acts.finds.two_ends up front acts.step.1
guest_in shape u t l answer left p q acts goes session now up other front was = grind (arith, quiet_now)

-- IT OPENS
guest_opens : (shape : NetShape) (u t : PortState) (l : PortLog) (packet : List ℕ) (left : NetLeft) (q : NetSession) → Acts shape A u t l (Sent packet true) left → IsUp A t.lane.wire.wire → IsUp B t.lane.wire.wire
    → l.guest.session ≡ None → u.lane.hub.groups ≡ [] → left.end.session ≡ Some q → Between left.end u.lane.hub (Said packet ∷ l.transcript.a) l.transcript.b q
guest_opens shape u t l packet left q acts up other none nothing now =
    let few = (turned_at shape A u t l (Sent packet true) left acts tt).few none in
    let then_ = after l (OnLane (Steps A (Sent packet true))) in
    let up_before = acts_up_at shape A u t l (Sent packet true) left acts tt in
    let other_before = peer_was_up shape A u t l (Sent packet true) left acts tt other in
    let hub_shut : l.hub.session ≡ None = hub_none shape u l acts.finds other_before none in
    let hub = open_both Responder shape.slots u.queue u.lane.hub l.hub acts.finds.ready.hub in
    let guest = open_both Initiator shape.slots [] t.lane.guest then_.guest acts.counts.guest in
    let opened : is_some t.lane.guest.session ≡ true = guest.opened (λ gone. none_some _ (sym gone)) in
    let short : length (said (Said packet ∷ l.transcript.a)) ≤ 6 =
    omega (arith, few, grown_most _ (said l.transcript.a) (said (Said packet ∷ l.transcript.a)) (said_grown l.transcript.a packet)) in
    let mine : Plain (said (Said packet ∷ l.transcript.a)) =
    open_said (asks_of shape) (answers_of shape) Initiator (sides_of (lane_core t.lane) then_.transcript) (acts.two_ends.two_ends A) up opened short in
    let theirs = closed_plain (asks_of shape) (answers_of shape) Responder (swapped (sides_of (lane_core u.lane) l.transcript)) (acts.finds.two_ends.two_ends B) other_before (hub.shut hub_shut) in
    let none_here : u.lane.hub.session ≡ None = not_some u.lane.hub.session (hub.shut hub_shut) in
    let hub_acting = acting_at shape B u l acts.finds other_before in
    let asks_low = low_outbox left.end (Said packet ∷ l.transcript.a) l.transcript.b mine.low
    (opens_unsaid Initiator shape.slots [] u.lane.guest l.guest l.transcript.a (seen_at A u.lane) u.lane.guest_memory (reach_of A u.lane) packet true left (acting_at shape A u l acts.finds up_before) acts.step refl) in
    let answers_low = low_outbox u.lane.hub l.transcript.b (Said packet ∷ l.transcript.a) theirs.said_plain.low (shut_unsaid Responder u.lane.hub l.transcript.b hub_acting.ends none_here) in
    let step = acts.step in
    let from : left.end.session ≡ Some (opened_session (first_id (put_end step.held))) =
    ap (λ (x : NetLeft). x.end.session) step.is ∙ ap (λ (b : Bool). (opened_by_put Initiator b (put_end step.held)).session) (sym step.opens_is) in
    let fresh = opened_fresh left.end (first_id (put_end step.held)) q now from in
    low_exchange left.end.handshake.draft.sid left.end.groups q (outbox left.end (Said packet ∷ l.transcript.a) l.transcript.b)
    (outbox u.lane.hub l.transcript.b (Said packet ∷ l.transcript.a)) u.lane.hub.session u.lane.hub.groups asks_low answers_low none_here nothing fresh.0 fresh.1 fresh.2

-- A STEP
pub guest_exchange : (shape : NetShape) (u t : PortState) (l : PortLog) (answer : NetAnswer) (left : NetLeft) → Acts shape A u t l answer left
    → ExchangeStands u.lane l → ExchangeStands t.lane (after l (OnLane (Steps A answer)))
guest_exchange shape u t l answer left acts exchange q up other some =
    let then_ : PortLog = after l (OnLane (Steps A answer)) in
    let now : left.end.session ≡ Some q = ap (λ (x : NetEndState). x.session) (sym acts.now.end) ∙ some in
    let as_now : Between left.end u.lane.hub (utterances_now answer l.transcript.a) l.transcript.b q → Between t.lane.guest t.lane.hub then_.transcript.a then_.transcript.b q = λ one.
    grind (arith, turns_at) in
    let front : IsFront (heard (utterances_now answer l.transcript.a)) (said l.transcript.b) =
    let turns = turns_at A l.transcript answer in rw turns.mine at (rw turns.theirs at (acts.two_ends.front_a up)) in
    let in_log : then_.guest.session ≢ None = grind (arith, open_both, true_false) in
    let goes : Goes answer = guest_goes l.shape.slots l.transcript.a answer l.guest in_log in
    let up_before : IsUp A u.lane.wire.wire = acts_up_at shape A u t l answer left acts goes in
    let other_before : IsUp B u.lane.wire.wire = peer_was_up shape A u t l answer left acts goes other in
    as_now (by_option u.lane.guest.session
    (λ p is. guest_in shape u t l answer left p q acts goes is now up_before other_before front
    (exchange p up_before other_before is))
    (λ is.
    let before = open_both Initiator shape.slots [] u.lane.guest l.guest acts.finds.ready.guest in
    let none : l.guest.session ≡ None = before.none is in
    let turned = turned_at shape A u t l answer left acts goes in
    let opening = opening_sent l.shape.slots l.transcript.a answer l.guest none in_log (turned.few none) (turned.many in_log) in
    let hub = open_both Responder shape.slots u.queue u.lane.hub l.hub acts.finds.ready.hub in
    let hub_shut : u.lane.hub.session ≡ None = not_some u.lane.hub.session (hub.shut (hub_none shape u l acts.finds other_before none)) in
    grind (arith, now, guest_opens, shut_counts)))
