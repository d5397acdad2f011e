-- What the ends of one session know of each other's device: the attributes that each offer says at the minor which both agreed on, the smaller
-- of theirs. The responder heard the initiator's, and the initiator the answer to them.
use Rattle.std.specs.Prelude.{ℕ, List, min}
use Rattle.vio_handshake.specs.Attributes.{answered_attributes, said_attributes}
use Rattle.vio_handshake.specs.Messages.{ack, info}
use Rattle.vio_handshake.specs.declared.session.Offer.{Offer}
use Rattle.vio_tag.specs.declared.message.MsgBody.TheVariants.{Attr}
use Rattle.lane_models.specs.Grounds.{Among}

abbrev pub agreed_minor : Offer → Offer → ℕ
agreed_minor asks answers = min asks.minor answers.minor

abbrev pub asked_attributes : Offer → Offer → List ℕ
asked_attributes asks answers = said_attributes asks (agreed_minor asks answers)

pub record KnowAttributes (asks answers : Offer) (sid : ℕ) (initiator responder : List (List ℕ)) : Type 0 where
  pub asked : Among (info sid (Attr (asked_attributes asks answers))) responder
  pub answered : Among (ack sid (Attr (answered_attributes answers (agreed_minor asks answers) (asked_attributes asks answers)))) initiator
