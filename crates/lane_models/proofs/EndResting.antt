-- Each move of an end leaves its handshake resting on the messages that it heard.
use Rattle.std.proofs.Common.{◌≡◌, ℕ, Bool, true, false, Option, Some, None, inl, inr, List, [], ◌∷◌, ◌++◌, refl, sym, ap, ◌∙◌, subst, arith}
use Rattle.ldc_link.specs.declared.phase.Role.{Role}
use Rattle.ldc_link.specs.declared.phase.Role.TheVariants.{Initiator, Responder}
use Rattle.ldc_queue.specs.Transcript.{Heard, Utterance}
use Rattle.map_table.specs.declared.cookie.Cookie.{Cookie}
use Rattle.ldc_link.specs.LinkState.{LinkState}
use Rattle.vio_handshake.specs.declared.handshake.Handshake.{Handshake}
use Rattle.vio_handshake.specs.declared.handshake.Phase.{Phase}
use Rattle.vio_handshake.specs.declared.handshake.Phase.TheVariants.{Attributes, Open, OwnReady, OwnRing, PeerReady, PeerReadyTaken, PeerRing, PeerRingTaken, Version}
use Rattle.vio_handshake.specs.declared.session.Session.{Session}
use Rattle.vio_handshake.specs.Messages.{ack, info, nack}
use Rattle.vio_handshake.specs.Rules.{behind_ring, owes, peer_named, handshake_sent, sid_fault}
use Rattle.vio_handshake.specs.State.{begun, fresh_handshake, joined_handshake, handshake_up}
use Rattle.vio_tag.specs.declared.message.Message.{Message}
use Rattle.vio_tag.specs.declared.message.MsgBody.TheVariants.{DringReg, Ver}
use Rattle.vio_tag.specs.Form.{IsWellFormed}
use Rattle.vio_tag.specs.Spelling.{SpellsMessage}
use Rattle.lane_models.specs.Sayings.{heard}
use Rattle.lane_models.proofs.EndCases.{NoMessage, PutControl, PutMore, PutOwn, PutReady, PutHandshake, PutWhat, Rises, TookMessage, TookOwn, TookHandshake, TookWhat, end_put, end_took}
use Rattle.lane_models.proofs.EndStanding.{held_stands, stands_step}
use Rattle.lane_models.proofs.HandshakeCases.{AttributesAgreed, AttributesAsked, AttributesRefused, Declined, OneRingAgreed, Opened, Opens, Owes, OwnReadyFollows, PeerAgreed, ReadyAgreed, ReadyAsked, ReadyFollows, RingAgreed, RingAsked, RingFollows, RingRefused, RowSent, RowTaken, VersionAgreed, VersionAsked, VersionRefused, row_sent}
use Rattle.lane_models.specs.EndCore.{Begins, EndCore, EndMove, Fails, Hears, Renews, Says, Stays, Waits}
use Rattle.lane_models.specs.EndStep.{EndBegins, EndHears, EndSays, EndStep, Holding, Holds}
use Rattle.lane_models.specs.Grounds.{Among, OpenRests, OwnHeard, PeerHeard, RestsOn, RestsIn, VersionHeard, When, has_named, knows_own, knows_sid, knows_version}
use Rattle.lane_models.specs.LaneCore.{utterances_after}
use Rattle.lane_models.specs.Standing.{EndStands}

-- WHAT WAS HEARD before is heard still
abbrev Grows : List (List ℕ) → List (List ℕ) → Type 0
Grows before now = (message : Message) → Among message before → Among message now

more_heard : (before more : List (List ℕ)) → Grows before (before ++ more)
more_heard [] more message among = absurd among
more_heard (bytes ∷ before) more message (inl is) = inl is
more_heard (bytes ∷ before) more message (inr among) = inr (more_heard before more message among)

last_heard : (before : List (List ℕ)) (bytes : List ℕ) (message : Message) → IsWellFormed message → SpellsMessage bytes message → Among message (before ++ bytes ∷ [])
last_heard [] bytes message form spells = inl (form, spells)
last_heard (one ∷ before) bytes message form spells = inr (last_heard before bytes message form spells)

version_grows : (role : Role) (own : ℕ) (draft : Session) (before now : List (List ℕ)) → Grows before now → VersionHeard role own draft before → VersionHeard role own draft now
version_grows Initiator own draft before now grows (class, among, least) = (class, grows (ack draft.sid (Ver 1 draft.minor class)) among, least)
version_grows Responder own draft before now grows (minor, class, among, is) = (minor, class, grows (info draft.sid (Ver 1 minor class)) among, is)

own_grows : (draft : Session) (before now : List (List ℕ)) → Grows before now → OwnHeard draft before → OwnHeard draft now
own_grows draft before now grows (slots, slot_size, options, count, cookies, among) =
    (slots, slot_size, options, count, cookies, grows (ack draft.sid (DringReg draft.ident_own slots slot_size options count cookies)) among)

peer_grows : (draft : Session) (before now : List (List ℕ)) → Grows before now → PeerHeard draft before → PeerHeard draft now
peer_grows draft before now grows (ident, slot_size, options, among, is) =
    (ident, slot_size, options, grows (info draft.sid (DringReg ident draft.peer_slots slot_size options draft.peer_count draft.peer_cookies)) among, is)

when_grows : (b : Bool) (P Q : Type 0) → (P → Q) → When b P → When b Q
when_grows true P Q goes holds = goes holds
when_grows false P Q goes holds = tt

when_have : (b : Bool) (P : Type 0) → P → When b P
when_have true P holds = holds
when_have false P holds = tt

rests_grow : (role : Role) (h : Handshake) (before now : List (List ℕ)) → Grows before now → RestsOn role h before → RestsOn role h now
rests_grow role h before now grows rests = search (when_grows, version_grows, own_grows, peer_grows)

-- A HANDSHAKE of this role in this phase, and one that it becomes
at_phase : (role r : Role) (p : Phase) (h : Handshake) (now : List (List ℕ)) → RestsOn role h now → h.role ≡ r → h.phase ≡ p → RestsIn r p h now
at_phase role r p h now rests is at =
    subst (λ (x : Role). RestsIn x p h now) (sym rests.role_is ∙ is) (subst (λ (x : Phase). RestsIn role x h now) at rests)

rests_to : (role r : Role) (h t x : Handshake) (now : List (List ℕ)) → RestsOn role h now → h.role ≡ r → t ≡ x → RestsOn r x now → RestsOn role t now
rests_to role r h t x now rests is to behind =
    subst (λ (y : Role). RestsOn y t now) (sym is ∙ rests.role_is) (subst (λ (y : Handshake). RestsOn r y now) (sym to) behind)

-- with the same draft, where as much is known
same_rests : (role : Role) (p q : Phase) (h : Handshake) (owed : Option Message) (now : List (List ℕ)) → h.phase ≡ p → knows_sid q role ≡ knows_sid p role
    → knows_version q ≡ knows_version p → knows_own role h.offer.both_rings q ≡ knows_own role h.offer.both_rings p → has_named role q ≡ has_named role p → RestsOn role h now → RestsOn role (record h { phase = q; owed = owed }) now
same_rests role p q h owed now at sid version own named rests = grind arith

-- the sid is the one that is known
pub of_sid : (h : Handshake) (sid : ℕ) → sid_fault h.sid sid ≡ None → h.sid ≡ Some h.draft.sid → sid ≡ h.draft.sid
of_sid h sid fine known = grind arith

among_is : (message other : Message) (now : List (List ℕ)) → message ≡ other → Among message now → Among other now
among_is message other now is among = subst (λ (x : Message). Among x now) is among

-- A MESSAGE that is one of what was heard, row by row
ring_rests : (role : Role) (both : Bool) (h : Handshake) (message : Message) (owed : Message) (ident slots slot_size options count : ℕ) (cookies : List Cookie) (now : List (List ℕ))
    → h.offer.both_rings ≡ both → RestsIn role PeerRing h now → message ≡ info message.sid (DringReg ident slots slot_size options count cookies)
    → message.sid ≡ h.draft.sid → Among message now → RestsOn role (owes (behind_ring both) owed (peer_named h message.sid slots count cookies)) now
ring_rests role both h message owed ident slots slot_size options count cookies now has rests m sid among = grind arith

-- in every phase but the first a sid is known
knows_there : (role : Role) (p : Phase) (h : Handshake) (now : List (List ℕ)) → knows_sid p role ≡ true → RestsIn role p h now → h.sid ≡ Some h.draft.sid
knows_there role p h now is rests = subst (λ (b : Bool). When b (h.sid ≡ Some h.draft.sid)) is rests.sid

asked_again : (r : Role) → (knows_sid PeerReady r ≡ true) × (knows_sid PeerRing r ≡ true)
asked_again Initiator = (refl, refl)
asked_again Responder = (refl, refl)

row_rests : (role : Role) (h t : Handshake) (message : Message) (opens : Bool) (now : List (List ℕ)) → RestsOn role h now → Among message now → sid_fault h.sid message.sid ≡ None
    → RowTaken h message t opens → RestsOn role t now
row_rests role h t message opens now rests among fine (Declined test is not) =
    rests_to role role h t _ now rests rests.role_is is (same_rests role h.phase h.phase h (Some (nack message.sid message.body)) now refl refl refl refl refl rests)
row_rests role h t message opens now rests among fine (VersionAgreed minor class r at m low is not) =
    let here = at_phase role Initiator Version h now rests r at in
    rests_to role Initiator h t _ now rests r is (record {
      role_is = here.role_is;
      sid = here.sid;
      version = (class, among_is message _ now (m ∙ ap (λ n. ack n (Ver 1 minor class)) (of_sid h message.sid fine here.sid)) among, low);
      own = tt;
      peer = tt;
    })
row_rests role h t message opens now rests among fine (VersionAsked minor class r at m is not) =
    rests_to role Responder h t _ now rests r is
    (record { role_is = r; sid = refl; version = (minor, class, among_is message _ now m among, refl); own = tt; peer = tt })
row_rests role h t message opens now rests among fine (VersionRefused major minor class other low r at m is not) =
    rests_to role Responder h t _ now rests r is (record { role_is = r; sid = tt; version = tt; own = tt; peer = tt })
row_rests role h t message opens now rests among fine (AttributesAgreed bytes r at m test is not) =
    let here = at_phase role Initiator Attributes h now rests r at in
    rests_to role Initiator h t _ now rests r is (record { role_is = r; sid = here.sid; version = here.version; own = tt; peer = tt })
row_rests role h t message opens now rests among fine (AttributesAsked bytes r at m test is not) =
    let here = at_phase role Responder Attributes h now rests r at in
    rests_to role Responder h t _ now rests r is (record { role_is = r; sid = here.sid; version = here.version; own = tt; peer = tt })
row_rests role h t message opens now rests among fine (AttributesRefused bytes r at m is not) =
    let here = at_phase role Responder Attributes h now rests r at in
    rests_to role Responder h t _ now rests r is (record { role_is = r; sid = here.sid; version = here.version; own = tt; peer = tt })
row_rests role h t message opens now rests among fine (RingAgreed ident slots slot_size options count cookies r at both m is not) =
    let here = at_phase role Initiator OwnRing h now rests r at in
    rests_to role Initiator h t _ now rests r is (record {
      role_is = r;
      sid = here.sid;
      version = here.version;
      own = (
        slots,
        slot_size,
        options,
        count,
        cookies,
        among_is message _ now (m ∙ ap (λ n. ack n (DringReg ident slots slot_size options count cookies)) (of_sid h message.sid fine here.sid)) among,
      );
      peer = tt;
    })
row_rests role h t message opens now rests among fine (OneRingAgreed ident slots slot_size options count cookies r at one m is not) =
    let here = at_phase role Initiator OwnRing h now rests r at in
    rests_to role Initiator h t _ now rests r is (record {
      role_is = r;
      sid = here.sid;
      version = here.version;
      own = (
        slots,
        slot_size,
        options,
        count,
        cookies,
        among_is message _ now (m ∙ ap (λ n. ack n (DringReg ident slots slot_size options count cookies)) (of_sid h message.sid fine here.sid)) among,
      );
      peer = subst (λ (b : Bool). When b (PeerHeard h.draft now)) (sym one) tt;
    })
row_rests role h t message opens now rests among fine (PeerAgreed ident slots slot_size options count cookies r at m is not) =
    let here = at_phase role Responder OwnRing h now rests r at in
    rests_to role Responder h t _ now rests r is (record {
      role_is = r;
      sid = here.sid;
      version = here.version;
      own = when_have h.offer.both_rings _ (
        slots,
        slot_size,
        options,
        count,
        cookies,
        among_is message _ now (m ∙ ap (λ n. ack n (DringReg ident slots slot_size options count cookies)) (of_sid h message.sid fine here.sid)) among,
      );
      peer = here.peer;
    })
row_rests role h t message opens now rests among fine (RingAsked ident slots slot_size options count cookies at m test is not) =
    let here = at_phase role role PeerRing h now rests rests.role_is at in
    rests_to role role h t _ now rests rests.role_is is
    (ring_rests role h.offer.both_rings h message _ ident slots slot_size options count cookies now refl here m
    (of_sid h message.sid fine (knows_there role PeerRing h now (asked_again role).1 here)) among)
row_rests role h t message opens now rests among fine (RingRefused ident slots slot_size options count cookies at m is not) =
    rests_to role role h t _ now rests rests.role_is is (same_rests role PeerRing PeerRing h _ now at refl refl refl refl rests)
row_rests role h t message opens now rests among fine (ReadyAgreed r at m is not) =
    rests_to role Initiator h t _ now rests r is (same_rests Initiator OwnReady PeerReady h h.owed now at refl refl refl refl (subst (λ (y : Role). RestsOn y h now) (sym rests.role_is ∙ r) rests))
row_rests role h t message opens now rests among fine (ReadyAsked at m is not) =
    rests_to role role h t _ now rests rests.role_is is (same_rests role PeerReady PeerReadyTaken h _ now at refl refl refl refl rests)
row_rests role h t message opens now rests among fine (Opened r at m is now_open) =
    rests_to role Responder h t _ now rests r is (same_rests Responder OwnReady Open h h.owed now at refl refl refl refl (subst (λ (y : Role). RestsOn y h now) (sym rests.role_is ∙ r) rests))

-- ONE THAT IS PUT
sent_rests : (role : Role) (h t : Handshake) (opens : Bool) (now : List (List ℕ)) → RestsOn role h now → RowSent h t opens → RestsOn role t now
sent_rests role h t opens now rests (ReadyFollows r at is not) =
    rests_to role Initiator h t _ now rests r is
    (same_rests Initiator PeerRingTaken OwnReady h _ now at refl refl refl refl (subst (λ (y : Role). RestsOn y h now) (sym rests.role_is ∙ r) rests))
sent_rests role h t opens now rests (RingFollows r at is not) =
    rests_to role Responder h t _ now rests r is
    (same_rests Responder PeerRingTaken OwnRing h _ now at refl refl refl refl (subst (λ (y : Role). RestsOn y h now) (sym rests.role_is ∙ r) rests))
sent_rests role h t opens now rests (OwnReadyFollows r at is not) =
    rests_to role Responder h t _ now rests r is
    (same_rests Responder PeerReadyTaken OwnReady h _ now at refl refl refl refl (subst (λ (y : Role). RestsOn y h now) (sym rests.role_is ∙ r) rests))
sent_rests role h t opens now rests (Opens r at is now_open) =
    rests_to role Initiator h t _ now rests r is
    (same_rests Initiator PeerReadyTaken Open h None now at refl refl refl refl (subst (λ (y : Role). RestsOn y h now) (sym rests.role_is ∙ r) rests))
sent_rests role h t opens now rests (Owes follows is not) =
    rests_to role role h t _ now rests rests.role_is is (same_rests role h.phase h.phase h None now refl refl refl refl refl rests)

-- IT BEGINS, and as its link comes up
begun_rests : (role : Role) (h : Handshake) (now : List (List ℕ)) → h.role ≡ role → RestsOn role (begun role (joined_handshake h)) now
begun_rests Initiator h now is = record { role_is = is; sid = refl; version = tt; own = tt; peer = tt }
begun_rests Responder h now is = record { role_is = is; sid = tt; version = tt; own = tt; peer = tt }

up_rests : (role : Role) (h : Handshake) (now : List (List ℕ)) → h.role ≡ role → RestsOn role (handshake_up h) now
up_rests role h now is = subst (λ (r : Role). RestsOn role (begun r (joined_handshake h)) now) (sym is) (begun_rests role h now is)

-- EACH MOVE
pub record StandsResting (role : Role) (c : EndCore) (turns : List Utterance) : Type 0 where
  pub stands : EndStands role c turns
  pub rests : RestsOn role c.handshake (heard turns)

same_handshake : (role : Role) (h g : Handshake) (now : List (List ℕ)) → g ≡ h → RestsOn role h now → RestsOn role g now
same_handshake role h g now is rests = subst (λ (x : Handshake). RestsOn role x now) (sym is) rests

begins_rests : (role : Role) (c t : EndCore) (turns : List Utterance) → EndStands role c turns → EndBegins c t → RestsOn role t.handshake []
begins_rests role c t turns stands begins =
    same_handshake role (joined_handshake c.handshake) t.handshake [] begins.handshake (record { role_is = stands.handshake.role_is; sid = tt; version = tt; own = tt; peer = tt })

pub held_handshake : (c held : EndCore) (what : Holding) → Holds c what held → held.handshake ≡ c.handshake
held_handshake c held what is = grind arith

hears_rests : (role : Role) (c t : EndCore) (turns : List Utterance) (packet : List ℕ) (opens : Bool) → StandsResting role c turns → EndHears role c packet opens t
    → RestsOn role t.handshake (heard (Heard packet ∷ turns))
hears_rests role c t turns packet opens all hears = by_what (end_took role c t turns packet opens all.stands hears).what
  where
    now : List (List ℕ)
    now = heard (Heard packet ∷ turns)

    grown : (message : Message) (k : LinkState) → TookMessage c turns packet k message → RestsOn role c.handshake now × Among message now
    grown message k took = (
      subst (RestsOn role c.handshake) (sym took.messages) (rests_grow role c.handshake (heard turns) (heard turns ++ took.bytes ∷ []) (more_heard (heard turns) (took.bytes ∷ [])) all.rests),
      subst (Among message) (sym took.messages) (last_heard (heard turns) took.bytes message took.form took.spells),
    )

    by_what : TookWhat role c turns packet opens t (end_took role c t turns packet opens all.stands hears).now → RestsOn role t.handshake now
    by_what (NoMessage up messages handshake not is_open) = same_handshake role c.handshake t.handshake now handshake (subst (RestsOn role c.handshake) (sym messages) all.rests)
    by_what (Rises role_is down up messages handshake not is_open) =
        same_handshake role (handshake_up c.handshake) t.handshake now handshake (up_rests role c.handshake now all.stands.handshake.role_is)
    by_what (TookOwn message took own handshake not is_open) = same_handshake role c.handshake t.handshake now handshake (grown message _ took).0
    by_what (TookHandshake message took handshake is_open) =
        let both = grown message _ took in row_rests role c.handshake t.handshake message opens now both.0 both.1 handshake.sid handshake.row

says_rests : (role : Role) (c t : EndCore) (turns : List Utterance) (packet : List ℕ) (opens : Bool) → StandsResting role c turns → EndSays role c packet opens t
    → RestsOn role t.handshake (heard turns)
says_rests role c t turns packet opens all says = by_what (end_put role c t turns packet opens says held)
  where
    held : EndStands role says.held turns
    held = held_stands role c says.held turns says.what all.stands says.holds

    rests : RestsOn role says.held.handshake (heard turns)
    rests = same_handshake role c.handshake says.held.handshake (heard turns) (held_handshake c says.held says.what says.holds) all.rests

    by_what : PutWhat role says.held turns packet opens t → RestsOn role t.handshake (heard turns)
    by_what (PutControl next gone link quiet handshake not is_open) = same_handshake role says.held.handshake t.handshake (heard turns) handshake rests
    by_what (PutReady role_is at spelled link quiet handshake not is_open) =
        same_handshake role (handshake_up says.held.handshake) t.handshake (heard turns) handshake (up_rests role says.held.handshake (heard turns) held.handshake.role_is)
    by_what (PutMore at link more handshake not is_open) = same_handshake role says.held.handshake t.handshake (heard turns) handshake rests
    by_what (PutOwn own at link last handshake not is_open) = same_handshake role says.held.handshake t.handshake (heard turns) handshake rests
    by_what (PutHandshake own at link last handshake flag is_open) =
        same_handshake role (handshake_sent says.held.handshake) t.handshake (heard turns) handshake
        (sent_rests role says.held.handshake (handshake_sent says.held.handshake) _ (heard turns) rests (row_sent says.held.handshake))

rests_step : (role : Role) (c : EndCore) (move : EndMove) (t : EndCore) (turns : List Utterance) → StandsResting role c turns → EndStep role c move t
    → RestsOn role t.handshake (heard (utterances_after turns move))
rests_step role c Begins t turns all step = begins_rests role c t turns all.stands step
rests_step Initiator c Renews t turns all step =
    same_handshake Initiator (joined_handshake c.handshake) t.handshake [] step.handshake
    (record { role_is = all.stands.handshake.role_is; sid = tt; version = tt; own = tt; peer = tt })
rests_step Responder c Renews t turns all step =
    same_handshake Responder (fresh_handshake Responder c.offer) t.handshake [] step.handshake (record { role_is = refl; sid = tt; version = tt; own = tt; peer = tt })
rests_step role c (Fails cause packet) t turns all step = begins_rests role c t turns all.stands step.1
rests_step role c (Hears packet opens) t turns all step = hears_rests role c t turns packet opens all step
rests_step role c (Says packet opens) t turns all step = says_rests role c t turns packet opens all step
rests_step role c Waits t turns all step = same_handshake role c.handshake t.handshake (heard turns) (held_handshake c t step.what step.holds) all.rests
rests_step role c Stays t turns all step = same_handshake role c.handshake t.handshake (heard turns) step.handshake all.rests

pub resting_step : (role : Role) (c : EndCore) (move : EndMove) (t : EndCore) (turns : List Utterance) → StandsResting role c turns → EndStep role c move t
    → StandsResting role t (utterances_after turns move)
resting_step role c move t turns all step = record { stands = stands_step role c move t turns all.stands step; rests = rests_step role c move t turns all step }

-- AN OPEN SESSION
pub open_rests : (role : Role) (c : EndCore) (turns : List Utterance) → StandsResting role c turns → c.is_open ≡ true → OpenRests role c.handshake (heard turns)
open_rests role c turns all is = grind arith
