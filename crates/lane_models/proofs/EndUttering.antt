-- Each move of an end leaves what it said as its handshake has it.
use Rattle.std.proofs.Common.{◌≡◌, ◌≤◌, min, ℕ, Bool, true, false, Option, Some, None, List, [], ◌∷◌, ◌++◌, refl, sym, ap, ◌∙◌, subst, arith}
use Rattle.runs.specs.Run.{Run}
use Rattle.ldc_link.specs.declared.phase.LinkPhase.TheVariants as phase
use Rattle.ldc_link.specs.declared.phase.Role.{Role}
use Rattle.ldc_link.specs.declared.phase.Role.TheVariants.{Initiator, Responder}
use Rattle.ldc_link.specs.LinkState.{is_established}
use Rattle.ldc_packet.specs.declared.packet.Subtype.{Subtype}
use Rattle.ldc_queue.specs.OneStream.{IsFront}
use Rattle.ldc_queue.specs.Transcript.{Said, Utterance}
use Rattle.map_table.specs.declared.cookie.Cookie.{Cookie}
use Rattle.vio_handshake.specs.Attributes.{answered_attributes, said_attributes}
use Rattle.vio_handshake.specs.declared.handshake.Handshake.{Handshake}
use Rattle.vio_handshake.specs.declared.handshake.Phase.{Phase}
use Rattle.vio_handshake.specs.declared.handshake.Phase.TheVariants.{Attributes, Down, Open, OwnReady, OwnRing, PeerReady, PeerReadyTaken, PeerRing, PeerRingTaken, Version}
use Rattle.vio_handshake.specs.declared.session.Offer.{Offer}
use Rattle.vio_handshake.specs.Messages.{ack, info, nack, own_ring}
use Rattle.vio_handshake.specs.Rules.{agrees_minor, behind_ring, knows, owes, own_named, peer_named, refuses_version, handshake_sent}
use Rattle.vio_handshake.specs.State.{begun, joined_handshake, handshake_up}
use Rattle.vio_tag.specs.declared.message.Message.{Message}
use Rattle.vio_tag.specs.declared.message.MsgBody.{MsgBody}
use Rattle.vio_tag.specs.declared.message.MsgBody.TheVariants.{Attr, DringReg, Rdx, Ver}
use Rattle.lane_models.specs.Sayings.{half_said, said}
use Rattle.lane_models.proofs.Apart.{false_is_true, not_taken}
use Rattle.lane_models.proofs.EndCases.{EndTook, NoMessage, PutControl, PutMore, PutOwn, PutReady, PutHandshake, PutWhat, Rises, TookOwn, TookHandshake, TookWhat, end_put, end_took}
use Rattle.lane_models.proofs.EndResting.{StandsResting, held_handshake, of_sid, resting_step}
use Rattle.lane_models.proofs.EndStanding.{fresh_end_stands, held_stands, holds_some}
use Rattle.lane_models.proofs.HandshakeCases.{AttributesAgreed, AttributesAsked, AttributesRefused, Declined, OneRingAgreed, Opened, PeerAgreed, ReadyAgreed, ReadyAsked, RingAgreed, RingAsked, RingRefused, RowSent, RowTaken, VersionAgreed, VersionAsked, VersionRefused, row_sent}
use Rattle.lane_models.proofs.Lifting.{EndsAll, ends_run}
use Rattle.lane_models.proofs.UtteranceCases.{SaysLast}
use Rattle.lane_models.specs.Cuts.{CarriesEither}
use Rattle.lane_models.specs.EndCore.{Begins, EndCore, fresh_end, EndMove, Fails, Hears, Renews, Says as Says_, Stays, Waits}
use Rattle.lane_models.specs.EndStep.{EndHears, EndSays, EndStep, IsOfSession}
use Rattle.lane_models.specs.Grounds.{When, has_named, knows_sid, knows_version}
use Rattle.lane_models.specs.LaneCore.{CoreEvent, CoreFits, CoreStep, LaneCore, fresh_core, transcript_behind, utterances_after}
use Rattle.lane_models.specs.Standing.{EndStands}
use Rattle.lane_models.specs.Utterances.{OwesSo, SaysByPhase, SaysBody, SaysBytes, SaysEach, SaysSid, Utters}

-- WHAT A MESSAGE that was said may speak of stays
record KeepsWords (role : Role) (h t : Handshake) : Type 0 where
  offer : t.offer ≡ h.offer
  sid : role ≡ Initiator → knows_sid t.phase Initiator ≡ true → (knows_sid h.phase Initiator ≡ true) × (t.draft.sid ≡ h.draft.sid)
  minor : role ≡ Responder → knows_version h.phase ≡ true → (knows_version t.phase ≡ true) × (t.draft.minor ≡ h.draft.minor)
  ident : has_named role h.phase ≡ true → (has_named role t.phase ≡ true) × (t.draft.ident_peer ≡ h.draft.ident_peer)

when_keeps : (b c : Bool) (x m n : ℕ) → (c ≡ true → (b ≡ true) × (n ≡ m)) → When b (x ≡ m) → When c (x ≡ n)
when_keeps b false x m n keeps is = tt
when_keeps b true x m n keeps is =
    let known = keeps refl in
    let here : x ≡ m = subst (λ (d : Bool). When d (x ≡ m)) known.0 is in here ∙ sym known.1

sid_keeps : (role : Role) (h t : Handshake) (sid : ℕ) → KeepsWords role h t → SaysSid role h.phase h.draft sid → SaysSid role t.phase t.draft sid
sid_keeps Initiator h t sid keeps says = when_keeps (knows_sid h.phase Initiator) (knows_sid t.phase Initiator) sid h.draft.sid t.draft.sid (keeps.sid refl) says
sid_keeps Responder h t sid keeps says = tt

body_keeps : (role : Role) (h t : Handshake) (subtype : Subtype) (body : MsgBody) → KeepsWords role h t → SaysBody role h.phase h.offer h.draft subtype body
    → SaysBody role t.phase t.offer t.draft subtype body
body_keeps role h t subtype body keeps says = grind arith

says_keep : (role : Role) (h t : Handshake) (message : Message) → KeepsWords role h t → SaysByPhase role h.phase h.offer h.draft message → SaysByPhase role t.phase t.offer t.draft message
says_keep role h t message keeps says = (sid_keeps role h t message.sid keeps says.0, body_keeps role h t message.subtype message.body keeps says.1)

each_keep : (role : Role) (h t : Handshake) (messages : List (List ℕ)) → KeepsWords role h t → SaysEach role h.phase h.offer h.draft messages
    → SaysEach role t.phase t.offer t.draft messages
each_keep role h t [] keeps says = tt
each_keep role h t (bytes ∷ others) keeps says = ((says.0.0, says.0.1, says_keep role h t says.0.0 keeps says.0.2), each_keep role h t others keeps says.1)

owes_keep : (role : Role) (h t : Handshake) (owed : Option Message) → KeepsWords role h t → OwesSo role h.phase h.offer h.draft owed
    → OwesSo role t.phase t.offer t.draft owed
owes_keep role h t None keeps so = tt
owes_keep role h t (Some message) keeps so = says_keep role h t message keeps so

each_more : (role : Role) (h : Handshake) (messages : List (List ℕ)) (bytes : List ℕ) → SaysEach role h.phase h.offer h.draft messages
    → SaysBytes role h.phase h.offer h.draft bytes → SaysEach role h.phase h.offer h.draft (messages ++ bytes ∷ [])
each_more role h [] bytes each says = (says, tt)
each_more role h (one ∷ messages) bytes each says = (each.0, each_more role h messages bytes each.1 says)

-- A HANDSHAKE AFTER ANOTHER, which keeps the words, and owes what it may
record GoesBehind (role : Role) (h t : Handshake) : Type 0 where
  keeps : KeepsWords role h t
  owed : OwesSo role t.phase t.offer t.draft t.owed
  taken : t.phase ≡ PeerRingTaken → t.offer.both_rings ≡ true

utters_behind : (role : Role) (h t : Handshake) (messages : List (List ℕ)) → GoesBehind role h t → Utters role h messages → Utters role t messages
utters_behind role h t messages goes utters = grind (arith, each_keep)

goes_to : (role : Role) (h t x : Handshake) → t ≡ x → GoesBehind role h x → GoesBehind role h t
goes_to role h t x is goes = subst (GoesBehind role h) (sym is) goes

-- the same draft and offer in a phase that knows as much
same_words : (role : Role) (p q : Phase) (h : Handshake) (owed : Option Message) → h.phase ≡ p → (role ≡ Initiator → knows_sid q Initiator ≡ true → knows_sid p Initiator ≡ true)
    → (knows_version p ≡ true → knows_version q ≡ true) → (has_named role p ≡ true → has_named role q ≡ true) → KeepsWords role h (record h { phase = q; owed = owed })
same_words role p q h owed at sid minor ident = grind arith

-- one of the roles has the sid of the message that it answers
sid_said : (role : Role) (h : Handshake) (sid : ℕ) → (role ≡ Initiator → knows_sid h.phase Initiator ≡ true → sid ≡ h.draft.sid) → SaysSid role h.phase h.draft sid
sid_said role h sid is = grind arith

refusal_says : (role : Role) (h : Handshake) (sid : ℕ) (body : MsgBody) → SaysSid role h.phase h.draft sid → SaysByPhase role h.phase h.offer h.draft (nack sid body)
refusal_says Initiator h sid body own = (own, tt)
refusal_says Responder h sid body own = (own, tt)

-- THE ROWS: what it says has the sid of the message that it answers
abbrev Own : Role → Handshake → ℕ → Type 0
Own role h sid = role ≡ Initiator → knows_sid h.phase Initiator ≡ true → sid ≡ h.draft.sid

own_words : (h t : Handshake) → t.offer ≡ h.offer → knows_sid h.phase Initiator ≡ true → t.draft.sid ≡ h.draft.sid
    → (has_named Initiator h.phase ≡ true → (has_named Initiator t.phase ≡ true) × (t.draft.ident_peer ≡ h.draft.ident_peer)) → KeepsWords Initiator h t
own_words h t offer known sid ident = record { offer = offer; sid = λ is now. (known, sid); minor = λ is. absurd (cc is); ident = ident }

peer_words : (h t : Handshake) → t.offer ≡ h.offer → (knows_version h.phase ≡ true → (knows_version t.phase ≡ true) × (t.draft.minor ≡ h.draft.minor))
    → (has_named Responder h.phase ≡ true → (has_named Responder t.phase ≡ true) × (t.draft.ident_peer ≡ h.draft.ident_peer)) → KeepsWords Responder h t
peer_words h t offer minor ident = record { offer = offer; sid = λ is. absurd (cc is); minor = λ is. minor; ident = ident }

-- in this phase the other end's ring has no number yet
unnamed : (role : Role) (h : Handshake) (p : Phase) (X : Type 0) → h.phase ≡ p → has_named role p ≡ false → has_named role h.phase ≡ true → X
unnamed role h p X at not named = false_is_true (sym not ∙ sym (ap (has_named role) at) ∙ named)

at_role : (role r : Role) (h t x : Handshake) → h.role ≡ role → h.role ≡ r → t ≡ x → GoesBehind r h x → GoesBehind role h t
at_role role r h t x role_is is to goes = subst (λ (y : Role). GoesBehind y h t) (sym is ∙ role_is) (subst (GoesBehind r h) (sym to) goes)

ring_words : (role : Role) (both : Bool) (h : Handshake) (sid slots slot_size options count : ℕ) (cookies : List Cookie) → h.offer.both_rings ≡ both → h.phase ≡ PeerRing → Own role h sid
    → GoesBehind role h (owes (behind_ring both) (ack sid (DringReg sid slots slot_size options count cookies)) (peer_named h sid slots count cookies))
ring_words Initiator true h sid slots slot_size options count cookies has at own = record {
  keeps = own_words h (owes PeerRingTaken (ack sid (DringReg sid slots slot_size options count cookies)) (peer_named h sid slots count cookies)) refl
      (ap (λ (p : Phase). knows_sid p Initiator) at) refl (unnamed Initiator h PeerRing _ at refl);
  owed = (own refl (ap (λ (p : Phase). knows_sid p Initiator) at), refl);
  taken = λ is. has;
}
ring_words Initiator false h sid slots slot_size options count cookies has at own = record {
  keeps = own_words h (owes PeerReady (ack sid (DringReg sid slots slot_size options count cookies)) (peer_named h sid slots count cookies)) refl
      (ap (λ (p : Phase). knows_sid p Initiator) at) refl (unnamed Initiator h PeerRing _ at refl);
  owed = (own refl (ap (λ (p : Phase). knows_sid p Initiator) at), refl);
  taken = λ is. absurd (cc is);
}
ring_words Responder true h sid slots slot_size options count cookies has at own = record {
  keeps = peer_words h (owes PeerRingTaken (ack sid (DringReg sid slots slot_size options count cookies)) (peer_named h sid slots count cookies)) refl (λ known. (refl, refl))
      (unnamed Responder h PeerRing _ at refl);
  owed = (tt, refl);
  taken = λ is. has;
}
ring_words Responder false h sid slots slot_size options count cookies has at own = record {
  keeps = peer_words h (owes PeerReady (ack sid (DringReg sid slots slot_size options count cookies)) (peer_named h sid slots count cookies)) refl (λ known. (refl, refl))
      (unnamed Responder h PeerRing _ at refl);
  owed = (tt, refl);
  taken = λ is. absurd (cc is);
}

ready_says : (role : Role) (h : Handshake) (sid : ℕ) → h.phase ≡ PeerReady → Own role h sid → SaysByPhase role PeerReadyTaken h.offer h.draft (ack sid Rdx)
ready_says Initiator h sid at own = (own refl (ap (λ (p : Phase). knows_sid p Initiator) at), tt)
ready_says Responder h sid at own = (tt, tt)

row_words : (role : Role) (h t : Handshake) (message : Message) (opens : Bool) (messages : List (List ℕ)) → h.role ≡ role → Own role h message.sid → Utters role h messages
    → RowTaken h message t opens → GoesBehind role h t
row_words role h t message opens messages role_is own utters (Declined test is not) =
    goes_to role h t _ is (record {
      keeps = same_words role h.phase h.phase h (Some (nack message.sid message.body)) refl (λ r now. now) (λ known. known) (λ known. known);
      owed = refusal_says role h message.sid message.body (sid_said role h message.sid own);
      taken = utters.taken;
    })
row_words role h t message opens messages role_is own utters (VersionAgreed minor class r at m low is not) =
    at_role role Initiator h t _ role_is r is (record {
      keeps = own_words h (owes Attributes (info message.sid (Attr (said_attributes h.offer minor))) (agrees_minor minor h)) refl (ap (λ (p : Phase). knows_sid p Initiator) at) refl
          (unnamed Initiator h Version _ at refl);
      owed = (own (sym role_is ∙ r) (ap (λ (p : Phase). knows_sid p Initiator) at), tt);
      taken = λ at_ring. not_taken at_ring refl;
    })
row_words role h t message opens messages role_is own utters (VersionAsked minor class r at m is not) =
    at_role role Responder h t _ role_is r is (record {
      keeps = peer_words h (owes Attributes (ack message.sid (Ver 1 (min minor h.offer.minor) h.offer.class)) (agrees_minor (min minor h.offer.minor) (knows message.sid h))) refl
          (λ known. false_is_true (sym (ap knows_version at) ∙ known)) (unnamed Responder h Version _ at refl);
      owed = (tt, refl);
      taken = λ at_ring. not_taken at_ring refl;
    })
row_words role h t message opens messages role_is own utters (VersionRefused major minor class other low r at m is not) =
    at_role role Responder h t _ role_is r is (record {
      keeps = peer_words h (refuses_version message.sid other low class (knows message.sid h)) refl (λ known. false_is_true (sym (ap knows_version at) ∙ known))
          (unnamed Responder h Version _ at refl);
      owed = (tt, tt);
      taken = λ at_ring. not_taken at_ring refl;
    })
row_words role h t message opens messages role_is own utters (AttributesAgreed bytes r at m test is not) =
    at_role role Initiator h t _ role_is r is (record {
      keeps = own_words h (owes OwnRing (info message.sid (own_ring h.offer)) h) refl (ap (λ (p : Phase). knows_sid p Initiator) at) refl (unnamed Initiator h Attributes _ at refl);
      owed = (own (sym role_is ∙ r) (ap (λ (p : Phase). knows_sid p Initiator) at), (refl, tt));
      taken = λ at_ring. not_taken at_ring refl;
    })
row_words role h t message opens messages role_is own utters (AttributesAsked bytes r at m test is not) =
    at_role role Responder h t _ role_is r is (record {
      keeps = peer_words h (owes PeerRing (ack message.sid (Attr (answered_attributes h.offer h.draft.minor bytes))) h) refl (λ known. (refl, refl))
          (unnamed Responder h Attributes _ at refl);
      owed = (tt, tt);
      taken = λ at_ring. not_taken at_ring refl;
    })
row_words role h t message opens messages role_is own utters (AttributesRefused bytes r at m is not) =
    at_role role Responder h t _ role_is r is (record {
      keeps = peer_words h (owes Attributes (nack message.sid (Attr bytes)) h) refl (λ known. (refl, refl)) (unnamed Responder h Attributes _ at refl);
      owed = (tt, tt);
      taken = λ at_ring. not_taken at_ring refl;
    })
row_words role h t message opens messages role_is own utters (RingAgreed ident slots slot_size options count cookies r at both m is not) =
    let x : Handshake = record (own_named h ident) { phase = PeerRing } in
    let keeps = own_words h x refl (ap (λ (p : Phase). knows_sid p Initiator) at) refl (unnamed Initiator h OwnRing _ at refl) in
    at_role role Initiator h t x role_is r is (record {
      keeps = keeps;
      owed = owes_keep Initiator h x h.owed keeps (subst (λ (y : Role). OwesSo y h.phase h.offer h.draft h.owed) (sym role_is ∙ r) utters.owed);
      taken = λ at_ring. not_taken at_ring refl;
    })
row_words role h t message opens messages role_is own utters (OneRingAgreed ident slots slot_size options count cookies r at one m is not) =
    at_role role Initiator h t _ role_is r is (record {
      keeps = own_words h (owes OwnReady (info message.sid Rdx) (own_named h ident)) refl (ap (λ (p : Phase). knows_sid p Initiator) at) refl (unnamed Initiator h OwnRing _ at refl);
      owed = (own (sym role_is ∙ r) (ap (λ (p : Phase). knows_sid p Initiator) at), tt);
      taken = λ at_ring. not_taken at_ring refl;
    })
row_words role h t message opens messages role_is own utters (PeerAgreed ident slots slot_size options count cookies r at m is not) =
    let x : Handshake = record (own_named h ident) { phase = PeerReady } in
    let keeps = peer_words h x refl (λ known. (refl, refl)) (λ known. (refl, refl)) in
    at_role role Responder h t x role_is r is (record {
      keeps = keeps;
      owed = owes_keep Responder h x h.owed keeps (subst (λ (y : Role). OwesSo y h.phase h.offer h.draft h.owed) (sym role_is ∙ r) utters.owed);
      taken = λ at_ring. not_taken at_ring refl;
    })
row_words role h t message opens messages role_is own utters (RingAsked ident slots slot_size options count cookies at m test is not) =
    goes_to role h t _ is (ring_words role h.offer.both_rings h message.sid slots slot_size options count cookies refl at own)
row_words role h t message opens messages role_is own utters (RingRefused ident slots slot_size options count cookies at m is not) =
    goes_to role h t _ is (record {
      keeps = same_words role PeerRing PeerRing h (Some (nack message.sid (DringReg ident slots slot_size options count cookies))) at (λ r now. now) (λ known. known) (λ known. known);
      owed = subst (λ (p : Phase). SaysByPhase role p h.offer h.draft (nack message.sid (DringReg ident slots slot_size options count cookies))) at
          (refusal_says role h message.sid (DringReg ident slots slot_size options count cookies) (sid_said role h message.sid own));
      taken = λ at_ring. not_taken at_ring refl;
    })
row_words role h t message opens messages role_is own utters (ReadyAgreed r at m is not) =
    let keeps = same_words Initiator OwnReady PeerReady h h.owed at (λ i now. refl) (λ known. refl) (λ known. refl) in
    at_role role Initiator h t (record h { phase = PeerReady }) role_is r is (record {
      keeps = keeps;
      owed = owes_keep Initiator h (record h { phase = PeerReady }) h.owed keeps (subst (λ (y : Role). OwesSo y h.phase h.offer h.draft h.owed) (sym role_is ∙ r) utters.owed);
      taken = λ at_ring. not_taken at_ring refl;
    })
row_words role h t message opens messages role_is own utters (ReadyAsked at m is not) =
    goes_to role h t _ is (record {
      keeps = same_words role PeerReady PeerReadyTaken h (Some (ack message.sid Rdx)) at (λ r now. refl) (λ known. refl) (λ known. refl);
      owed = ready_says role h message.sid at own;
      taken = λ at_ring. not_taken at_ring refl;
    })
row_words role h t message opens messages role_is own utters (Opened r at m is now_open) =
    let keeps = same_words Responder OwnReady Open h h.owed at (λ i now. refl) (λ known. refl) (λ known. refl) in
    at_role role Responder h t (record h { phase = Open }) role_is r is (record {
      keeps = keeps;
      owed = owes_keep Responder h (record h { phase = Open }) h.owed keeps (subst (λ (y : Role). OwesSo y h.phase h.offer h.draft h.owed) (sym role_is ∙ r) utters.owed);
      taken = λ at_ring. not_taken at_ring refl;
    })

-- ONE THAT IS PUT
sent_words : (role : Role) (h t : Handshake) (opens : Bool) (messages : List (List ℕ)) → h.role ≡ role → Utters role h messages → RowSent h t opens → GoesBehind role h t
sent_words role h t opens messages role_is utters sent = grind arith

-- ITS LINK COMES UP, or it begins
begun_utters : (role : Role) (h : Handshake) → Utters role (begun role (joined_handshake h)) []
begun_utters Initiator h = record { said = tt; owed = (refl, refl); small = λ is now. omega arith; taken = λ at_ring. not_taken at_ring refl }
begun_utters Responder h = record { said = tt; owed = tt; small = λ is. absurd (cc is); taken = λ at_ring. not_taken at_ring refl }

up_utters : (role : Role) (h : Handshake) → h.role ≡ role → Utters role (handshake_up h) []
up_utters role h is = subst (λ (r : Role). Utters role (begun r (joined_handshake h)) []) (sym is) (begun_utters role h)

down_utters : (role : Role) (h : Handshake) → h.phase ≡ Down → h.owed ≡ None → Utters role h []
down_utters role h down none = grind arith

-- WHAT A LINK HOLDS is said as its handshake has it
own_says : (role : Role) (h : Handshake) (message : Message) → IsOfSession message.body → message.sid ≡ h.draft.sid → SaysByPhase role h.phase h.offer h.draft message
own_says role h message of sid = grind arith

carried_says : (role : Role) (own : Bool) (h : Handshake) (messages : List (List ℕ)) (bytes : List ℕ) → Utters role h messages → CarriesEither own h bytes
    → SaysBytes role h.phase h.offer h.draft bytes
carried_says role false h messages bytes utters carries =
    (carries.message, carries.is, subst (OwesSo role h.phase h.offer h.draft) carries.owed utters.owed)
carried_says role true h messages bytes utters carries = (carries.message, carries.is, own_says role h carries.message carries.body carries.sid)

-- EACH MOVE
pub record EndSpeaks (role : Role) (c : EndCore) (turns : List Utterance) : Type 0 where
  pub knows : StandsResting role c turns
  pub utters : Utters role c.handshake (said turns)

same_utters : (role : Role) (h g : Handshake) (before now : List (List ℕ)) → g ≡ h → now ≡ before → Utters role h before → Utters role g now
same_utters role h g before now is same utters = subst (λ (x : Handshake). Utters role x now) (sym is) (subst (Utters role h) (sym same) utters)

hears_utters : (role : Role) (c t : EndCore) (turns : List Utterance) (packet : List ℕ) (opens : Bool) → EndSpeaks role c turns → EndHears role c packet opens t
    → Utters role t.handshake (said turns)
hears_utters role c t turns packet opens all hears = by_what took.what
  where
    took : EndTook role c turns packet opens t
    took = end_took role c t turns packet opens all.knows.stands hears

    by_what : TookWhat role c turns packet opens t took.now → Utters role t.handshake (said turns)
    by_what (NoMessage up messages handshake not is_open) = same_utters role c.handshake t.handshake (said turns) (said turns) handshake refl all.utters
    by_what (Rises role_is down up messages handshake not is_open) =
        same_utters role (handshake_up c.handshake) t.handshake [] (said turns) handshake (all.knows.stands.below down).said_none
        (up_utters role c.handshake all.knows.stands.handshake.role_is)
    by_what (TookOwn message took_message own handshake not is_open) = same_utters role c.handshake t.handshake (said turns) (said turns) handshake refl all.utters
    by_what (TookHandshake message took_message handshake is_open) =
        utters_behind role c.handshake t.handshake (said turns)
        (row_words role c.handshake t.handshake message opens (said turns) all.knows.stands.handshake.role_is own all.utters handshake.row) all.utters
      where
        own : Own role c.handshake message.sid
        own is known =
            of_sid c.handshake message.sid handshake.sid
            (subst (λ (b : Bool). When b (c.handshake.sid ≡ Some c.handshake.draft.sid)) (ap (knows_sid c.handshake.phase) is ∙ known) all.knows.rests.sid)

says_utters : (role : Role) (c t : EndCore) (turns : List Utterance) (packet : List ℕ) (opens : Bool) → EndSpeaks role c turns → EndSays role c packet opens t
    → Utters role t.handshake (said (Said packet ∷ turns))
says_utters role c t turns packet opens all says = by_what (end_put role c t turns packet opens says stands)
  where
    held : EndCore
    held = says.held

    stands : EndStands role held turns
    stands = held_stands role c held turns says.what all.knows.stands says.holds

    utters : Utters role held.handshake (said turns)
    utters = same_utters role c.handshake held.handshake (said turns) (said turns) (held_handshake c held says.what says.holds) refl all.utters

    whole : held.link.phase ≡ phase.Established → SaysLast held.link turns packet → Utters role held.handshake (said (Said packet ∷ turns))
    whole at last =
        let carried = carried_says role held.own held.handshake (said turns) (half_said turns ++ held.link.to_send) utters
        (stands.carries (holds_some held.link (ap is_established at) last.some)) in
        subst (Utters role held.handshake) (sym last.messages)
        (record { said = each_more role held.handshake (said turns) (half_said turns ++ held.link.to_send) utters.said carried; owed = utters.owed; small = utters.small; taken = utters.taken })

    by_what : PutWhat role held turns packet opens t → Utters role t.handshake (said (Said packet ∷ turns))
    by_what (PutControl next gone link quiet handshake not is_open) =
        same_utters role held.handshake t.handshake (said turns) (said (Said packet ∷ turns)) handshake quiet.messages utters
    by_what (PutReady role_is at spelled link quiet handshake not is_open) =
        same_utters role (handshake_up held.handshake) t.handshake [] (said (Said packet ∷ turns)) handshake (quiet.messages ∙ (stands.below (ap is_established at)).said_none)
        (up_utters role held.handshake stands.handshake.role_is)
    by_what (PutMore at link more handshake not is_open) =
        same_utters role held.handshake t.handshake (said turns) (said (Said packet ∷ turns)) handshake more.messages utters
    by_what (PutOwn own at link last handshake not is_open) =
        same_utters role held.handshake t.handshake (said (Said packet ∷ turns)) (said (Said packet ∷ turns)) handshake refl (whole at last)
    by_what (PutHandshake own at link last handshake flag is_open) =
        same_utters role (handshake_sent held.handshake) t.handshake (said (Said packet ∷ turns)) (said (Said packet ∷ turns)) handshake refl
        (utters_behind role held.handshake (handshake_sent held.handshake) (said (Said packet ∷ turns))
        (sent_words role held.handshake (handshake_sent held.handshake) _ (said (Said packet ∷ turns)) stands.handshake.role_is (whole at last) (row_sent held.handshake)) (whole at last))

utters_step : (role : Role) (c : EndCore) (move : EndMove) (t : EndCore) (turns : List Utterance) → EndSpeaks role c turns → EndStep role c move t
    → Utters role t.handshake (said (utterances_after turns move))
utters_step role c Begins t turns all step = down_utters role t.handshake (ap (λ (h : Handshake). h.phase) step.handshake) (ap (λ (h : Handshake). h.owed) step.handshake)
utters_step Initiator c Renews t turns all step = down_utters Initiator t.handshake (ap (λ (h : Handshake). h.phase) step.handshake) (ap (λ (h : Handshake). h.owed) step.handshake)
utters_step Responder c Renews t turns all step = down_utters Responder t.handshake (ap (λ (h : Handshake). h.phase) step.handshake) (ap (λ (h : Handshake). h.owed) step.handshake)
utters_step role c (Fails cause packet) t turns all step =
    down_utters role t.handshake (ap (λ (h : Handshake). h.phase) step.1.handshake) (ap (λ (h : Handshake). h.owed) step.1.handshake)
utters_step role c (Hears packet opens) t turns all step = hears_utters role c t turns packet opens all step
utters_step role c (Says_ packet opens) t turns all step = says_utters role c t turns packet opens all step
utters_step role c Waits t turns all step =
    same_utters role c.handshake t.handshake (said turns) (said turns) (held_handshake c t step.what step.holds) refl all.utters
utters_step role c Stays t turns all step = same_utters role c.handshake t.handshake (said turns) (said turns) step.handshake refl all.utters

pub speaks_step : (role : Role) (c : EndCore) (move : EndMove) (t : EndCore) (turns : List Utterance) → EndSpeaks role c turns → EndStep role c move t
    → EndSpeaks role t (utterances_after turns move)
speaks_step role c move t turns all step =
    record { knows = resting_step role c move t turns all.knows step; utters = utters_step role c move t turns all step }

pub fresh_speaks : (role : Role) (offer : Offer) → offer.count ≤ 14 → EndSpeaks role (fresh_end role offer) []
fresh_speaks role offer few = search (fresh_end_stands, down_utters)

-- ALONG EVERY RUN
pub speaks_run : (entries : ℕ) (asks answers : Offer) (events : List CoreEvent) (s : LaneCore) → CoreFits entries asks answers
    → Run CoreStep (fresh_core entries asks answers) events s → EndsAll EndSpeaks s (transcript_behind events)
speaks_run entries asks answers events s fits run = search (ends_run, speaks_step, fresh_speaks)

-- WHAT IS HEARD is as the other end has it, where nobody forged
each_before : (role : Role) (h : Handshake) (xs rest : List (List ℕ)) → SaysEach role h.phase h.offer h.draft (xs ++ rest) → SaysEach role h.phase h.offer h.draft xs
each_before role h [] rest says = tt
each_before role h (bytes ∷ xs) rest says = (says.0, each_before role h xs rest says.1)

pub each_front : (role : Role) (h : Handshake) (xs ys : List (List ℕ)) → IsFront xs ys → SaysEach role h.phase h.offer h.draft ys → SaysEach role h.phase h.offer h.draft xs
each_front role h xs ys front says = each_before role h xs front.0 (subst (SaysEach role h.phase h.offer h.draft) front.1 says)
