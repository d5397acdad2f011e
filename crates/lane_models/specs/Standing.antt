-- What always holds of an end by itself, by its role, also where somebody forges packets.
use Rattle.std.specs.Prelude.{◌≡◌, ◌≤◌, Bool, true, false, List, [], length, Option, Some, None, ⊤}
use Rattle.ldc_link.specs.declared.phase.LinkPhase.{LinkPhase}
use Rattle.ldc_link.specs.declared.phase.LinkPhase.TheVariants as phase
use Rattle.ldc_link.specs.declared.phase.Role.{Role}
use Rattle.ldc_link.specs.declared.phase.Role.TheVariants.{Initiator, Responder}
use Rattle.ldc_link.specs.Following.{Follows}
use Rattle.ldc_link.specs.LinkState.{LinkState, is_up}
use Rattle.ldc_queue.specs.Transcript.{Utterance}
use Rattle.vio_handshake.specs.declared.handshake.Handshake.{Handshake}
use Rattle.vio_handshake.specs.declared.handshake.Phase.{Phase}
use Rattle.vio_handshake.specs.declared.handshake.Phase.TheVariants.{Down, Open}
use Rattle.vio_handshake.specs.declared.session.Offer.{Offer}
use Rattle.vio_tag.specs.declared.message.Message.{Message}
use Rattle.vio_tag.specs.declared.message.MsgBody.{MsgBody}
use Rattle.vio_tag.specs.declared.message.MsgBody.TheVariants.{Attr, DringData, DringReg, DringUnreg, Mcast, Plain, Rdx, Ver}
use Rattle.vio_tag.specs.Form.{HasForm}
use Rattle.lane_models.specs.Sayings.{heard, said}
use Rattle.lane_models.specs.Cuts.{Cuts, HoldsIts}
use Rattle.lane_models.specs.EndCore.{EndCore}

-- A LINK in a phase of its role, which follows what its end said and heard
abbrev pub IsPhaseOf : Role → LinkPhase → Type 0
IsPhaseOf role phase.Established = ⊤
IsPhaseOf Initiator phase.OwesVersInfo = ⊤
IsPhaseOf Initiator phase.AwaitsVersAck = ⊤
IsPhaseOf Initiator phase.OwesRts = ⊤
IsPhaseOf Initiator phase.AwaitsRtr = ⊤
IsPhaseOf Initiator phase.OwesRdx = ⊤
IsPhaseOf Responder phase.AwaitsVersInfo = ⊤
IsPhaseOf Responder phase.OwesVersAck = ⊤
IsPhaseOf Responder (phase.OwesVersNack major) = ⊤
IsPhaseOf Responder phase.AwaitsRts = ⊤
IsPhaseOf Responder phase.OwesRtr = ⊤
IsPhaseOf Responder phase.AwaitsRdx = ⊤
IsPhaseOf role _ = ⊥

pub record LinkStands (role : Role) (k : LinkState) (utterances : List Utterance) : Type 0 where
  pub role_is : k.role ≡ role
  pub of_role : IsPhaseOf role k.phase
  pub follows : Follows k utterances
  pub seen : k.whole ≡ None
  pub cuts : Cuts k utterances

-- A HANDSHAKE, which owes a message of at most 256 bytes, never one of the session, and is open where that is
abbrev pub IsShort : MsgBody → Type 0
IsShort (Ver major minor class) = ⊤
IsShort (Attr bytes) = length bytes ≤ 48
IsShort (DringReg ident slots slot_size options count cookies) = count ≤ 14
IsShort (DringUnreg ident) = ⊤
IsShort Rdx = ⊤
IsShort (DringData seq ident start end state) = ⊥
IsShort (Mcast set count addresses) = ⊥
IsShort (Plain envelope) = HasForm (Plain envelope)

abbrev pub OwedIsShort : Option Message → Type 0
OwedIsShort None = ⊤
OwedIsShort (Some message) = IsShort message.body

abbrev pub is_open_in : Phase → Bool
is_open_in Open = true
is_open_in _ = false

pub record HandshakeStands (role : Role) (offer : Offer) (h : Handshake) : Type 0 where
  pub role_is : h.role ≡ role
  pub offer_is : h.offer ≡ offer
  pub few : offer.count ≤ 14
  pub owed : OwedIsShort h.owed

-- BEFORE ITS LINK IS UP an end holds nothing and owes nothing, and said and heard no message
pub record IsBelow (k : LinkState) (h : Handshake) (utterances : List Utterance) : Type 0 where
  pub left : k.to_send ≡ []
  pub owed : h.owed ≡ None
  pub down : h.phase ≡ Down
  pub said_none : said utterances ≡ []
  pub heard_none : heard utterances ≡ []

pub record EndStands (role : Role) (c : EndCore) (utterances : List Utterance) : Type 0 where
  pub link : LinkStands role c.link utterances
  pub handshake : HandshakeStands role c.offer c.handshake
  pub opened : c.is_open ≡ is_open_in c.handshake.phase
  pub more : c.more ≤ 256
  pub below : is_up c.link ≡ false → IsBelow c.link c.handshake utterances
  pub carries : HoldsIts c.own c.link c.handshake utterances
