-- A step of the switch's end keeps what is known of all that is on the way between it and a guest in session.
use Rattle.std.proofs.Common.{◌≡◌, ◌≢◌, ℕ, ◌<◌, ◌⊎◌, Bool, true, false, Option, Some, None, List, [], ◌∷◌, ◌++◌, inl, inr, refl, sym, subst, ap, ◌∙◌, arith}
use Rattle.std.specs.Prelude.{is_some, Result, ⊤}
use Rattle.std.proofs.lemmas.Bool.{eqb-true}
use Rattle.cookie_copy.specs.Reach.{Reach}
use Rattle.ldc_link.specs.declared.phase.Role.TheVariants.{Initiator, Responder}
use Rattle.ldc_link.specs.Taking.{Heard as HeardBy, LinkTake, TakesBytes, Unheard}
use Rattle.ldc_queue.specs.declared.end.ChannelState.{ChannelState}
use Rattle.ldc_queue.specs.declared.end.ChannelState.TheVariants.{Up}
use Rattle.ldc_queue.specs.declared.end.End.TheVariants.{A, B}
use Rattle.ldc_queue.specs.OneStream.{IsFront}
use Rattle.ldc_queue.specs.Transcript.{Heard, Utterance}
use Rattle.vio_handshake.specs.Rules.{HandshakeTake}
use Rattle.vio_tag.specs.declared.message.Message.{Message}
use Rattle.vio_tag.specs.declared.message.TagFault.{TagFault}
use Rattle.vio_tag.specs.Spelling.{envelope_at}
use Rattle.lane_models.specs.Messages.{ended_by}
use Rattle.lane_models.specs.Sayings.{half_heard, heard, said}
use Rattle.lane_models.specs.Seeing.{Seen}
use Rattle.lane_models.specs.WireAt.{IsUp}
use Rattle.lane_models.specs.WireLog.{WireLog}
use Rattle.lane_models.proofs.LinkCases.{link_heard}
use Rattle.lane_models.specs.Sides.{sides_of, swapped}
use Rattle.lane_models.specs.Standing.{EndStands}
use Rattle.lane_models.proofs.Refuting.{none_some, true_false}
use Rattle.lane_models.proofs.Ruling.{says_of}
use Rattle.lane_models.specs.NetEndPutting.{holding, net_holds}
use Rattle.lane_models.specs.NetEndRule.{Announces, Fetches, NetRule, Publishes, Puts, Replies, Says, Takes, Tells, port_rule}
use Rattle.lane_models.specs.NetEndState.{NetEndState, NetSession}
use Rattle.lane_models.specs.NetEndStep.{Blocked, Frame, Idle, Joined, NetAnswer, NetEndStep, NetLeft, Published, Reset, Sent, Took, published, taken}
use Rattle.lane_models.specs.NetEndTaking.{GoesOn, HearsLink, HearsWhole, NetTakes, Resets, by_handshake, reads, risen}
use Rattle.lane_models.specs.NetEvent.{Steps}
use Rattle.lane_models.specs.NetLaneState.{NetShape, reach_of, seen_at}
use Rattle.lane_models.specs.PortLog.{PortLog, after}
use Rattle.lane_models.specs.PortState.{OnLane, PortState}
use Rattle.lane_models.specs.RuleFacts.{IfOpen, MayListen}
use Rattle.lane_models.specs.Spoken.{addresses_of}
use Rattle.port_laws.specs.Counted.{unsaid}
use Rattle.port_laws.specs.NetCore.{is_begun, lane_core, net_core, net_core_at}
use Rattle.port_laws.proofs.EndCounting.{empty_unsaid}
use Rattle.port_laws.proofs.FormsOwn.{MayForm, PutsIt, formed_by, sends_own}
use Rattle.port_laws.proofs.GroupsLearnt.{Fresh, learnt}
use Rattle.port_laws.proofs.HearsIn.{Hears, OwnRead, hears_in, mine_agreed}
use Rattle.port_laws.proofs.MessageDoes.{Does, TakeDoes, message_does}
use Rattle.port_laws.proofs.Outbox.{is_groups, listed, low_fits, low_none, outbox, unheard}
use Rattle.port_laws.proofs.PortTwoEnds.{PortTwoEnds, answers_of, asks_of}
use Rattle.port_laws.proofs.RingActs.{Acts, acting_at, acts_up_at, open_both}
use Rattle.port_laws.proofs.RingEvents.{Goes, theirs_now, turns_at, utterances_now, wire_now}
use Rattle.port_laws.proofs.SessionsHeard.{Grown, heard_grown}
use Rattle.port_laws.proofs.StepCounts.{Acting}
use Rattle.port_laws.proofs.TakesIn.{HubLearns, HubNotes, InSession, hub_notes, in_own_session, next_read}
use Rattle.port_laws.proofs.GroupsExchanged.{ExchangeIn, hub_hears, hub_learns, reply_in, same_exchange}
use Rattle.port_laws.proofs.ExchangeGuest.{Between, ExchangeStands, guest_sid, hub_agreed, low_outbox, same_outbox, shut_unsaid}
use Rattle.port_laws.proofs.ExchangeSteps.{HubForms, hub_forms, outbox_heard, outbox_put}
use Rattle.port_laws.proofs.TookCounts.{free_empty, heard_send, session_open, session_up}
use Rattle.port_laws.proofs.WayActs.{ClosedFits}
use Rattle.port_laws.proofs.WayMoves.{EachLow, low_rest}
use Rattle.port_laws.proofs.WayPlain.{closed_plain}
use Rattle.port_laws.proofs.WayRuns.{guest_open_up, hub_goes, hub_plain, peer_was_up}
use Rattle.lane_models.proofs.Apart.{some_same}

named_in : (m : List ℕ) → is_groups m ≡ true → envelope_at m ≡ 0x0101
named_in m is = eqb-true (envelope_at m) 0x0101 is

-- IN SESSION
module _ (shape : NetShape) (u t : PortState) (l : PortLog) (left : NetLeft) (p q : NetSession) (session : u.lane.hub.session ≡ Some q) (fresh : Fresh [] u.lane.guest.groups)
    (was : Between u.lane.guest u.lane.hub l.transcript.a l.transcript.b p) where
  abbrev sid : ℕ
  sid = u.lane.guest.handshake.draft.sid

  abbrev Now : List Utterance → Type 0
  Now turns = Between u.lane.guest left.end l.transcript.a turns p

  quiet_now : (now_is : NetSession) → left.end.session ≡ Some now_is → left.end.groups ≡ u.lane.hub.groups → left.end.handshake ≡ u.lane.hub.handshake → left.end.link.to_send ≡ u.lane.hub.link.to_send
      → now_is.reply ≡ q.reply → Now l.transcript.b
  quiet_now now_is is groups handshake sends reply = grind (arith, same_outbox, same_exchange)

  forms_now : (held : NetEndState) → Acting Responder shape.slots u.queue u.lane.hub l.hub l.transcript.b → MayForm Responder sid u.lane.hub q
      → net_holds (port_rule Responder u.lane.hub (seen_at B u.lane)) u.lane.hub (reach_of B u.lane) ≡ Some held
      → HubForms held u.lane.hub sid u.lane.guest.groups p (outbox u.lane.guest l.transcript.a l.transcript.b) l.transcript.a l.transcript.b
  forms_now held acting may holds =
      hub_forms u.lane.hub held q sid u.lane.guest.groups p (outbox u.lane.guest l.transcript.a l.transcript.b) l.transcript.a l.transcript.b session
      (formed_by Responder sid u.lane.hub (seen_at B u.lane) (reach_of B u.lane) (port_rule Responder u.lane.hub (seen_at B u.lane)) held q may refl holds) was

  took_now : (packet : List ℕ) (opens : Bool) → Acting Responder shape.slots u.queue u.lane.hub l.hub l.transcript.b → PortTwoEnds shape (lane_core u.lane) l → IsUp A u.lane.wire.wire → IsUp B u.lane.wire.wire
      → q.reply ≡ None → IsFront (heard (Heard packet ∷ l.transcript.b)) (said l.transcript.a) → NetTakes Responder u.lane.hub u.lane.hub_memory packet (GoesOn left.end opens left.own)
      → Now (Heard packet ∷ l.transcript.b)
  took_now packet opens acting two_ends up other_up listens front takes =
      by_hears (hears_in Responder u.lane.hub l.transcript.b u.lane.hub_memory packet (GoesOn left.end opens left.own) acting.ends (session_up Responder u.lane.hub l.transcript.b q acting.ends session) takes)
    where
      opened : is_some u.lane.hub.session ≡ true
      opened = ap is_some session

      by_hears : Hears Responder u.lane.hub u.lane.hub_memory l.transcript.b packet (GoesOn left.end opens left.own) → Now (Heard packet ∷ l.transcript.b)
      by_hears (inl none) = grind (arith, none.is)
      by_hears (inr (inr refused)) = let never : GoesOn left.end opens left.own ≡ Resets refused.cause = refused.is in absurd (cc never)
      by_hears (inr (inl one)) = by_notes noted.1
        where
          grown : IsFront (heard l.transcript.b ++ one.bytes ∷ []) (said l.transcript.a)
          grown = subst (λ (xs : List (List ℕ)). IsFront xs (said l.transcript.a)) one.messages front

          asks : List (List ℕ)
          asks = outbox u.lane.guest l.transcript.a (Heard packet ∷ l.transcript.b)

          first : outbox u.lane.guest l.transcript.a l.transcript.b ≡ one.bytes ∷ asks
          first = outbox_heard u.lane.guest l.transcript.a l.transcript.b packet one.bytes one.messages grown

          before : ExchangeIn sid u.lane.guest.groups p (one.bytes ∷ asks) (outbox u.lane.hub l.transcript.b l.transcript.a) u.lane.hub.session u.lane.hub.groups
          before = subst (λ (xs : List (List ℕ)). ExchangeIn sid u.lane.guest.groups p xs (outbox u.lane.hub l.transcript.b l.transcript.a) u.lane.hub.session u.lane.hub.groups) first was

          own : OwnRead one.bytes (two_ends.two_ends B).meets.handshakes.sid
          own = next_read (asks_of shape) (answers_of shape) Responder Initiator (swapped (sides_of (lane_core u.lane) l.transcript)) one.bytes sid (two_ends.two_ends B) other_up opened up grown before.asks_fit.0

          in_it : InSession Responder (record u.lane.hub { link = one.link }) q u.lane.hub_memory own.message (GoesOn left.end opens left.own)
          in_it =
              in_own_session Responder u.lane.hub q u.lane.hub_memory packet l.transcript.b (GoesOn left.end opens left.own) (two_ends.two_ends B).meets.handshakes.sid one session
              (mine_agreed (asks_of shape) (answers_of shape) Responder (swapped (sides_of (lane_core u.lane) l.transcript)) (two_ends.two_ends B) other_up opened).knows own

          does : Does Responder (record u.lane.hub { link = one.link }) q u.lane.hub_memory own.message.subtype own.message.body left.end opens left.own
          does =
              subst (TakeDoes Responder (record u.lane.hub { link = one.link }) q u.lane.hub_memory own.message.subtype own.message.body) (sym in_it.hears)
              (message_does Responder (record u.lane.hub { link = one.link }) q u.lane.hub_memory own.message (session_open Responder u.lane.hub l.transcript.b q acting.ends session))

          noted : (now : NetSession) × (HubNotes (record u.lane.hub { link = one.link }) left.end q now one.bytes ⊎ HubLearns (record u.lane.hub { link = one.link }) left.end now one.bytes)
          noted =
              hub_notes (record u.lane.hub { link = one.link }) left.end q u.lane.hub_memory left.own one.bytes own.message opens own.of own.spells own.long
              (λ named. learnt u.lane.guest.groups u.lane.hub.groups one.bytes fresh before.front (before.tells.0 named)) in_it.is does.does

          with_out : (known : List (List ℕ)) → left.end.groups ≡ known → left.end.handshake ≡ u.lane.hub.handshake → left.end.link.to_send ≡ u.lane.hub.link.to_send
              → ExchangeIn sid u.lane.guest.groups p asks (outbox u.lane.hub l.transcript.b l.transcript.a) left.end.session known → Now (Heard packet ∷ l.transcript.b)
          with_out known groups handshake sends exchange = grind (arith, same_outbox)

          by_notes : HubNotes (record u.lane.hub { link = one.link }) left.end q noted.0 one.bytes ⊎ HubLearns (record u.lane.hub { link = one.link }) left.end noted.0 one.bytes
              → Now (Heard packet ∷ l.transcript.b)
          by_notes (inl notes) =
              with_out u.lane.hub.groups notes.groups notes.handshake (notes.sends ∙ one.sends)
              (hub_hears sid u.lane.guest.groups p asks (outbox u.lane.hub l.transcript.b l.transcript.a) u.lane.hub.session left.end.session u.lane.hub.groups one.bytes notes.range
              (ap reply_in notes.session ∙ notes.reply ∙ sym (ap reply_in session)) before)
          by_notes (inr learns) =
              with_out (addresses_of one.bytes) learns.groups learns.handshake (learns.sends ∙ one.sends)
              (hub_learns sid u.lane.guest.groups p asks (outbox u.lane.hub l.transcript.b l.transcript.a) u.lane.hub.session left.end.session u.lane.hub.groups one.bytes learns.answer
              (before.tells.0 (named_in one.bytes learns.named)) learns.named (ap reply_in session ∙ listens) (ap reply_in learns.session ∙ learns.reply) learns.agrees before)

hub_in : (shape : NetShape) (u t : PortState) (l : PortLog) (answer : NetAnswer) (left : NetLeft) (p q : NetSession) → Acts shape B u t l answer left → Goes answer → u.lane.hub.session ≡ Some q
    → u.lane.guest.session ≡ Some p → Fresh [] u.lane.guest.groups → IsUp A u.lane.wire.wire → IsUp B u.lane.wire.wire → IsFront (heard (utterances_now answer l.transcript.b)) (said l.transcript.a)
    → Between u.lane.guest u.lane.hub l.transcript.a l.transcript.b p → Between u.lane.guest left.end l.transcript.a (utterances_now answer l.transcript.b) p
hub_in shape u t l (Published id) left p q acts goes session guest fresh up other front was =
    let step = acts.step in
    let says = says_of Responder u.lane.hub (seen_at B u.lane) (Publishes step.session step.frame) step.rule in
    let same : left.end ≡ record u.lane.hub { session = Some (published step.session) } = ap (λ (x : NetLeft). x.end) step.is in
    let here : step.session ≡ q = some_same (sym says.0.in_session.session ∙ session) in
    grind (arith, quiet_now)
hub_in shape u t l (Frame frame) left p q acts goes session guest fresh up other front was =
    let step = acts.step in
    let says = says_of Responder u.lane.hub (seen_at B u.lane) (Fetches step.session step.activity) step.rule in
    let same : left.end ≡ record u.lane.hub { session = Some (taken u.lane.hub step.session step.activity); last = frame } = ap (λ (x : NetLeft). x.end) step.is in
    let here : step.session ≡ q = some_same (sym says.0.session ∙ session) in
    grind (arith, quiet_now)
hub_in shape u t l Blocked left p q acts goes session guest fresh up other front was =
    let acting = acting_at shape B u l acts.finds other in
    let agreed = hub_agreed shape u.lane l acts.finds.two_ends up (ap is_some guest) other (ap is_some session) in
    let small = (guest_sid shape u.lane l acts.finds.two_ends up (ap is_some guest)).small in
    let forms = forms_now shape u t l left p q session fresh was left.end acting
    (record { session = session; agreed = agreed; small = small; empty = λ quiet. free_empty Responder u.lane.hub l.transcript.b acting.ends quiet }) acts.step.0 in
    rw forms.groups_are forms.exchange
hub_in shape u t l (Sent packet opens) left p q acts goes session guest fresh up other front was =
    let step = acts.step in
    let acting = acting_at shape B u l acts.finds other in
    let agreed = hub_agreed shape u.lane l acts.finds.two_ends up (ap is_some guest) other (ap is_some session) in
    let small = (guest_sid shape u.lane l acts.finds.two_ends up (ap is_some guest)).small in
    let forms = forms_now shape u t l left p q session fresh was step.held acting
    (record { session = session; agreed = agreed; small = small; empty = λ quiet. free_empty Responder u.lane.hub l.transcript.b acting.ends quiet }) step.holds in
    let puts : PutsIt step.held left.end l.transcript.b packet =
    sends_own Responder shape.slots u.queue u.lane.hub l.hub l.transcript.b (seen_at B u.lane) u.lane.hub_memory (reach_of B u.lane) packet opens left forms.q acting step agreed.owed forms.session_is in
    rw (puts.groups ∙ forms.groups_are, puts.session) (rw (outbox_put step.held left.end l.transcript.b
    l.transcript.a packet puts (acts.finds.two_ends.front_a up)) forms.exchange)
hub_in shape u t l (Took packet opens) left p q acts goes session guest fresh up other front was =
    let says = says_of Responder u.lane.hub (seen_at B u.lane) (Takes packet) acts.step.0 in
    let listens : MayListen q = subst (λ (x : Option NetSession). IfOpen x MayListen) session says.2 in
    took_now shape u t l left p q session fresh was packet opens (acting_at shape B u l acts.finds other) acts.finds.two_ends up other listens.0 front acts.step.1
hub_in shape u t l answer left p q acts goes session guest fresh up other front was = grind (arith, quiet_now)

-- WITHOUT A SESSION
pub record ShutLeft (s t : NetEndState) : Type 0 where
  pub groups : t.groups ≡ s.groups
  pub reply : reply_in t.session ≡ None

record ShutTook (s t : NetEndState) : Type 0 where
  groups : t.groups ≡ s.groups
  reply : reply_in t.session ≡ None
  sends : t.link.to_send ≡ s.link.to_send

shut_took : (s t : NetEndState) (memory packet new : List ℕ) (opens : Bool) → s.session ≡ None → NetTakes Responder s memory packet (GoesOn t opens new) → ShutTook s t
shut_took s t memory packet new opens none takes = by_link takes.link takes.takes takes.hears
  where
    by_take : (r : NetEndState) → r.session ≡ None → r.groups ≡ s.groups → r.link.to_send ≡ s.link.to_send → (x : HandshakeTake) → GoesOn t opens new ≡ by_handshake Responder r memory x → ShutTook s t
    by_take r shut groups sends x is = grind arith

    by_decoded : (r : NetEndState) → r.session ≡ None → r.groups ≡ s.groups → r.link.to_send ≡ s.link.to_send → (d : Result Message TagFault) → GoesOn t opens new ≡ reads Responder r memory d → ShutTook s t
    by_decoded r shut groups sends d is = grind (arith, by_take)

    by_whole : (r : NetEndState) → r.session ≡ None → r.groups ≡ s.groups → r.link.to_send ≡ s.link.to_send → (whole : Option (List ℕ)) → HearsWhole Responder r memory whole (GoesOn t opens new) → ShutTook s t
    by_whole r shut groups sends whole is = grind (arith, by_decoded)

    by_link : (link : LinkTake) → TakesBytes s.link packet link → HearsLink Responder s memory link (GoesOn t opens new) → ShutTook s t
    by_link (HeardBy k) took hears =
        by_whole (record s { link = k; handshake = risen Responder s.link k s.handshake }) none refl (heard_send s.link k packet (link_heard s.link k packet took)) k.whole hears
    by_link (Unheard cause) took is = absurd (cc is)

-- what it holds then
shut_held : (s : NetEndState) (at : Seen) (reach : Reach) (rule : NetRule) (held : NetEndState) → s.session ≡ None → port_rule Responder s at ≡ rule → net_holds rule s reach ≡ Some held
    → (held.session ≡ None) × (held.groups ≡ s.groups)
shut_held s at reach Puts held none is same =
    let kept : s ≡ held = cc same in (ap (λ (x : NetEndState). x.session) (sym kept) ∙ none, ap (λ (x : NetEndState). x.groups) (sym kept))
shut_held s at reach (Says message) held none is same =
    let kept : holding message s ≡ held = cc same in (ap (λ (x : NetEndState). x.session) (sym kept) ∙ none, ap (λ (x : NetEndState). x.groups) (sym kept))
shut_held s at reach (Replies p reply) held none is same = none_some p (sym none ∙ (says_of Responder s at (Replies p reply) is).0.session)
shut_held s at reach (Fetches p activity) held none is same = none_some p (sym none ∙ (says_of Responder s at (Fetches p activity) is).0.session)
shut_held s at reach (Tells p) held none is same = none_some p (sym none ∙ (says_of Responder s at (Tells p) is).0.in_session.session)
shut_held s at reach (Announces p) held none is same = none_some p (sym none ∙ (says_of Responder s at (Announces p) is).0.in_session.session)
shut_held s at reach _ held none is same = none_some held same

-- a session that isn't open stays so, but by what it takes
abbrev pub ShutStays : NetAnswer → NetEndState → Type 0
ShutStays (Took packet opens) t = ⊤
ShutStays _ t = t.session ≡ None

pub record ShutAfter (answer : NetAnswer) (s t : NetEndState) : Type 0 where
  pub left : ShutLeft s t
  pub stays : ShutStays answer t

pub shut_after : (s : NetEndState) (at : Seen) (memory : List ℕ) (reach : Reach) (answer : NetAnswer) (left : NetLeft) → s.session ≡ None → Goes answer → NetEndStep Responder s at memory reach answer left
    → ShutAfter answer s left.end
shut_after s at memory reach Idle left none goes step = grind (arith, ap (λ (x : NetLeft). x.end) step.1)
shut_after s at memory reach (Published id) left none goes step =
    none_some step.session (sym none ∙ (says_of Responder s at (Publishes step.session step.frame) step.rule).0.in_session.session)
shut_after s at memory reach (Frame frame) left none goes step = none_some step.session (sym none ∙ (says_of Responder s at (Fetches step.session step.activity) step.rule).0.session)
shut_after s at memory reach Blocked left none goes step =
    let held = shut_held s at reach (port_rule Responder s at) left.end none refl step.0 in record { left = record { groups = held.1; reply = ap reply_in held.0 }; stays = held.0 }
shut_after s at memory reach (Sent packet opens) left none goes step =
    let shut = shut_held s at reach (port_rule Responder s at) step.held none refl step.holds in
    grind (arith, shut, ap (λ (x : NetLeft). x.end.session) step.is)
shut_after s at memory reach (Took packet opens) left none goes step =
    let took = shut_took s left.end memory packet left.own opens none step.1 in record { left = record { groups = took.groups; reply = took.reply }; stays = tt }
shut_after s at memory reach _ left none goes step = absurd goes

-- WHAT IS ON THE WAY then
not_low : (m : List ℕ) → envelope_at m < 0x0042 → is_groups m ≡ false
not_low m low = grind (arith, named_in)

shut_same : (sid : ℕ) (groups : List (List ℕ)) (p : NetSession) (asks answers now : List (List ℕ)) (session after_session : Option NetSession) (known : List (List ℕ)) → EachLow answers → EachLow now
    → reply_in session ≡ None → reply_in after_session ≡ None → ExchangeIn sid groups p asks answers session known → ExchangeIn sid groups p asks now after_session known
shut_same sid groups p asks answers now session after_session known low low_now none none_now exchange = grind (arith, low_fits, low_none)

abbrev HeardAs : PortState → PortLog → NetSession → List (List ℕ) → Option NetSession → List (List ℕ) → Type 0
HeardAs u l p now after_session messages =
    ExchangeIn u.lane.guest.handshake.draft.sid u.lane.guest.groups p (unheard (said l.transcript.a) messages ++ listed (unsaid u.lane.guest)) now after_session u.lane.hub.groups

asks_now : (shape : NetShape) (u : PortState) (l : PortLog) (answer : NetAnswer) (p : NetSession) (now : List (List ℕ)) (after_session : Option NetSession) → Goes answer → reply_in after_session ≡ None
    → ClosedFits l.transcript.b l.transcript.a answer
    → ExchangeIn u.lane.guest.handshake.draft.sid u.lane.guest.groups p (outbox u.lane.guest l.transcript.a l.transcript.b) now after_session u.lane.hub.groups
    → ExchangeIn u.lane.guest.handshake.draft.sid u.lane.guest.groups p (outbox u.lane.guest l.transcript.a (utterances_now answer l.transcript.b)) now after_session u.lane.hub.groups
asks_now shape u l (Joined lost) p now after_session goes none fits exchange = absurd goes
asks_now shape u l (Reset cause packet lost) p now after_session goes none fits exchange = absurd goes
asks_now shape u l (Took packet opens) p now after_session goes none fits exchange = by_ended (ended_by (half_heard l.transcript.b) packet) (heard_grown l.transcript.b packet)
  where
    by_ended : (o : Option (List ℕ)) → Grown o (heard l.transcript.b) (heard (Heard packet ∷ l.transcript.b)) → HeardAs u l p now after_session (heard (Heard packet ∷ l.transcript.b))
    by_ended o is = grind (arith, low_rest, outbox_heard, hub_hears, not_low)
asks_now shape u l _ p now after_session goes none fits exchange = exchange

-- A STEP
pub hub_exchange : (shape : NetShape) (u t : PortState) (l : PortLog) (answer : NetAnswer) (left : NetLeft) → Acts shape B u t l answer left → Fresh [] u.lane.guest.groups → ExchangeStands u.lane l
    → ExchangeStands t.lane (after l (OnLane (Steps B answer)))
hub_exchange shape u t l answer left acts fresh exchange p up other some = as_now (by_session u.lane.hub.session refl)
  where
    then_ : PortLog
    then_ = after l (OnLane (Steps B answer))

    guest_some : u.lane.guest.session ≡ Some p
    guest_some = ap (λ (x : NetEndState). x.session) (sym acts.now.peer_end) ∙ some

    in_log : l.guest.session ≢ None
    in_log = grind (arith, guest_some, open_both, true_false)

    theirs : theirs_now answer u.lane.wire.wire.end_b u.lane.wire.wire.end_a ≡ Up
    theirs = sym (ap (λ (w : WireLog). w.wire.end_a) acts.now.wire ∙ (wire_now B u.lane answer).theirs) ∙ up

    goes : Goes answer
    goes = hub_goes answer u.lane.wire.wire.end_b u.lane.wire.wire.end_a (λ guest_up. guest_open_up shape u l acts.finds guest_up in_log) theirs

    guest_before : IsUp A u.lane.wire.wire
    guest_before = peer_was_up shape B u t l answer left acts goes up

    up_before : IsUp B u.lane.wire.wire
    up_before = acts_up_at shape B u t l answer left acts goes

    turns : then_.transcript.b ≡ utterances_now answer l.transcript.b
    turns = (turns_at B l.transcript answer).mine

    same : then_.transcript.a ≡ l.transcript.a
    same = (turns_at B l.transcript answer).theirs

    front : IsFront (heard (utterances_now answer l.transcript.b)) (said l.transcript.a)
    front = subst (λ (xs : List Utterance). IsFront (heard xs) (said l.transcript.a)) turns (subst (λ (xs : List Utterance). IsFront (heard then_.transcript.b) (said xs)) same (acts.two_ends.front other))

    as_now : Between u.lane.guest left.end l.transcript.a (utterances_now answer l.transcript.b) p → Between t.lane.guest t.lane.hub then_.transcript.a then_.transcript.b p
    as_now one = rw (turns, same, acts.now.peer_end, acts.now.end) one

    was : Between u.lane.guest u.lane.hub l.transcript.a l.transcript.b p
    was = exchange p guest_before up_before guest_some

    stands_now : EndStands Responder (net_core Responder t.lane.hub) then_.transcript.b
    stands_now = subst (λ (x : ChannelState). EndStands Responder (net_core_at Responder (is_begun x) t.lane.hub) then_.transcript.b) other (acts.two_ends.two_ends B).mine

    shut_now : left.end.session ≡ None → unsaid left.end ≡ None
    shut_now none =
        subst (λ (x : NetEndState). unsaid x ≡ None) acts.now.end
        (shut_unsaid Responder t.lane.hub then_.transcript.b stands_now (ap (λ (x : NetEndState). x.session) acts.now.end ∙ none))

    -- nothing of a session is held
    none_left : u.lane.hub.session ≡ None → (given : NetAnswer) → answer ≡ given → ShutStays given left.end → unsaid left.end ≡ None
    none_left none (Took packet opens) is stays =
        let step = subst (λ (given : NetAnswer). Acts shape B u t l given left) is acts in
        let says = says_of Responder u.lane.hub (seen_at B u.lane) (Takes packet) step.step.0 in
        let took = shut_took u.lane.hub left.end u.lane.hub_memory packet left.own opens none step.step.1 in
        empty_unsaid left.end (took.sends ∙ free_empty Responder u.lane.hub l.transcript.b (acting_at shape B u l acts.finds up_before).ends says.0.quiet)
    none_left none _ is stays = shut_now stays

    by_session : (session : Option NetSession) → u.lane.hub.session ≡ session → Between u.lane.guest left.end l.transcript.a (utterances_now answer l.transcript.b) p
    by_session (Some q) is = hub_in shape u t l answer left p q acts goes is guest_some fresh guest_before up_before front was
    by_session None is =
        let before = open_both Responder shape.slots u.queue u.lane.hub l.hub acts.finds.ready.hub in
        let none : l.hub.session ≡ None = before.none is in
        let fits = hub_plain shape u t l answer left acts goes other none in
        let plain = closed_plain (asks_of shape) (answers_of shape) Responder (swapped (sides_of (lane_core u.lane) l.transcript)) (acts.finds.two_ends.two_ends B) up_before (before.shut none) in
        let low = low_outbox u.lane.hub l.transcript.b l.transcript.a plain.said_plain.low
        (shut_unsaid Responder u.lane.hub l.transcript.b (acting_at shape B u l acts.finds up_before).ends is) in
        let here = shut_after u.lane.hub (seen_at B u.lane) u.lane.hub_memory (reach_of B u.lane) answer left is goes acts.step in
        let low_now = low_outbox left.end (utterances_now answer l.transcript.b) l.transcript.a fits.said_plain.low (none_left is answer refl here.stays) in
        subst (λ (xs : List (List ℕ)). ExchangeIn u.lane.guest.handshake.draft.sid u.lane.guest.groups p (outbox u.lane.guest l.transcript.a (utterances_now answer l.transcript.b))
        (outbox left.end (utterances_now answer l.transcript.b) l.transcript.a) left.end.session xs) (sym here.left.groups)
        (asks_now shape u l answer p (outbox left.end (utterances_now answer l.transcript.b) l.transcript.a) left.end.session goes here.left.reply fits
        (shut_same u.lane.guest.handshake.draft.sid u.lane.guest.groups p (outbox u.lane.guest l.transcript.a l.transcript.b) (outbox u.lane.hub l.transcript.b l.transcript.a)
        (outbox left.end (utterances_now answer l.transcript.b) l.transcript.a) u.lane.hub.session left.end.session u.lane.hub.groups low low_now (ap reply_in is) here.left.reply was))
