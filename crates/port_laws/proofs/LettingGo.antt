-- What a message that an end takes does to the counts of its frames: an ACK lets those go that it names, and nothing
-- else does.
use Rattle.std.proofs.Common.{◌≡◌, ℕ, ◌+◌, Bool, true, false, Some, None, List, refl, sym, subst, ap, ◌∙◌, arith}
use Rattle.ldc_link.specs.declared.phase.Role.{Role}
use Rattle.ldc_packet.specs.declared.packet.Subtype.{Subtype}
use Rattle.ldc_packet.specs.Spelling.{subtype_code}
use Rattle.vio_handshake.specs.declared.handshake.Handshake.{Handshake}
use Rattle.vio_handshake.specs.Rules.{HandshakeTake, handshake_take, is_declined}
use Rattle.vio_tag.specs.declared.message.Message.{Message}
use Rattle.vio_tag.specs.declared.message.MsgBody.{MsgBody}
use Rattle.vio_tag.specs.declared.message.MsgBody.TheVariants.{DringData}
use Rattle.vio_tag.specs.Form.{HasForm, IsWellFormed}
use Rattle.vio_tag.specs.Spelling.{SpellsBody, SpellsMessage, envelope_code}
use Rattle.dring.specs.Slots.{range_length}
use Rattle.port_laws.proofs.MessageDoes.{Acks, MessageDoes, TakeDoes, message_does, Asks, Declines, Names, Told}
use Rattle.port_laws.specs.LetsGo.{SessionInOrder, LetsGo, TakeLetsGo, TakeLetsNoneGo, acks}
use Rattle.lane_models.proofs.Refuting.{false_true}
use Rattle.lane_models.specs.EndLog.{acked_by}
use Rattle.lane_models.specs.NetEndState.{NetEndState, NetSession}
use Rattle.lane_models.specs.NetEndTaking.{GoesOn, NetTake, Resets, by_handshake, hears_message, opens_by_take}
use Rattle.lane_models.specs.Spoken.{Spoken, spoken, spoken_by}

-- WHAT AN ACK NAMES, by the bytes of the message
pub spoken_same : (bytes : List ℕ) (message : Message) → SpellsMessage bytes message → spoken bytes ≡ spoken_by (envelope_code message.body) (subtype_code message.subtype)
spoken_same bytes message spells = grind arith

body_acks : (slots : ℕ) (bytes : List ℕ) (subtype : Subtype) (b : MsgBody) → HasForm b → SpellsBody bytes b
    → acked_by slots (spoken_by (envelope_code b) (subtype_code subtype)) bytes ≡ acks slots b subtype
body_acks slots bytes subtype b form spells = grind arith

pub message_acks : (slots : ℕ) (bytes : List ℕ) (message : Message) → IsWellFormed message → SpellsMessage bytes message
    → acked_by slots (spoken bytes) bytes ≡ acks slots message.body message.subtype
message_acks slots bytes message form spells =
    ap (λ (k : Spoken). acked_by slots k bytes) (spoken_same bytes message spells) ∙ body_acks slots bytes message.subtype message.body form spells.body

-- IN SESSION
declined_none : (slots : ℕ) (subtype : Subtype) (b : MsgBody) → is_declined subtype b ≡ true → acks slots b subtype ≡ 0
declined_none slots subtype b is = grind (arith, false_true)

-- the same session, and all frames
same_seen : (s : NetEndState) (p q : NetSession) (t : NetEndState) (opens : Bool) → t.session ≡ Some q → q.base ≡ p.base → q.published ≡ p.published → q.seen ≡ p.seen → t.frames ≡ s.frames
    → t.next_id ≡ s.next_id → opens ≡ false → LetsGo s p 0 t opens
same_seen s p q t opens session base published seen frames next shut = grind arith

kind_seen : (role : Role) (s : NetEndState) (p : NetSession) (memory : List ℕ) (subtype : Subtype) (b : MsgBody) (t : NetEndState) (opens : Bool) (new : List ℕ) → SessionInOrder s p → opens ≡ false
    → MessageDoes role s p memory subtype b t new → LetsGo s p (acks s.slots b subtype) t opens
kind_seen role s p memory subtype b t opens new order shut (Asks seq ident start end state kind body place stays is) =
    let none : acks s.slots b subtype ≡ 0 = ap (λ (x : MsgBody). acks s.slots x subtype) body ∙ ap (acks s.slots (DringData seq ident start end state)) kind in
    grind (arith, same_seen)
kind_seen role s p memory subtype b t opens new order shut (Acks seq ident start end state kind body begins inside most undone stays is) =
    let count : ℕ = range_length s.slots start end in
    let named : acks s.slots b subtype ≡ count = ap (λ (x : MsgBody). acks s.slots x subtype) body ∙ ap (acks s.slots (DringData seq ident start end state)) kind in
    subst (λ (n : ℕ). LetsGo s p n t opens) (sym named)
    (record {
      after = record p { seen = p.seen + count; asking = false };
      session = ap (λ (x : NetEndState). x.session) is;
      base = refl;
      published = refl;
      seen = refl;
      within = omega (arith, most, order.held);
      frames = ap (λ (x : NetEndState). x.frames) is;
      next = ap (λ (x : NetEndState). x.next_id) is;
      shut = shut;
    })
kind_seen role s p memory subtype b t opens new order shut (Names set count addresses groups reply answer guest kind body stays is) =
    grind (arith, ap (λ (x : MsgBody). acks s.slots x subtype) body, same_seen)
kind_seen role s p memory subtype b t opens new order shut (Told set count addresses guest kind body telling stays is) =
    grind (arith, ap (λ (x : MsgBody). acks s.slots x subtype) body, same_seen)
kind_seen role s p memory subtype b t opens new order shut (Declines h declined stays is) =
    subst (λ (n : ℕ). LetsGo s p n t opens) (sym (declined_none s.slots subtype b declined))
    (same_seen s p p t opens (ap (λ (x : NetEndState). x.session) is ∙ order.session) refl refl refl (ap (λ (x : NetEndState). x.frames) is) (ap (λ (x : NetEndState). x.next_id) is) shut)

take_seen : (role : Role) (s : NetEndState) (p : NetSession) (memory : List ℕ) (subtype : Subtype) (b : MsgBody) (take : NetTake) → SessionInOrder s p → TakeDoes role s p memory subtype b take
    → TakeLetsGo s p (acks s.slots b subtype) take
take_seen role s p memory subtype b (GoesOn t opens new) order does = kind_seen role s p memory subtype b t opens new order does.shut does.does
take_seen role s p memory subtype b (Resets cause) order does = tt

pub message_seen : (role : Role) (s : NetEndState) (p : NetSession) (memory : List ℕ) (message : Message) → SessionInOrder s p
    → TakeLetsGo s p (acks s.slots message.body message.subtype) (hears_message role s memory (Some p) message)
message_seen role s p memory message order =
    take_seen role s p memory message.subtype message.body (hears_message role s memory (Some p) message) order (message_does role s p memory message order.opened)

-- WITHOUT A SESSION nothing of the frames changes, and one may open
opens_none : (role : Role) (s : NetEndState) (memory : List ℕ) (h : Handshake) → s.session ≡ None → TakeLetsNoneGo s (opens_by_take role (record s { handshake = h }) memory)
opens_none role s memory h is = grind arith

handshake_none : (role : Role) (s : NetEndState) (memory : List ℕ) (take : HandshakeTake) → s.session ≡ None → TakeLetsNoneGo s (by_handshake role s memory take)
handshake_none role s memory take is = grind (arith, opens_none)

pub message_none : (role : Role) (s : NetEndState) (memory : List ℕ) (message : Message) → s.session ≡ None → TakeLetsNoneGo s (hears_message role s memory None message)
message_none role s memory message is = handshake_none role s memory (handshake_take s.handshake message) is
