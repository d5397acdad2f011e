-- How a link stands to what its end said since it last began, and whose message it holds.
use Rattle.std.specs.Prelude.{◌≡◌, ◌+◌, ◌≤◌, Bool, true, false, not, List, [], ◌++◌, ℕ, length, Option, Some}
use Rattle.ldc_link.specs.LinkState.{LinkState}
use Rattle.ldc_queue.specs.Messages.{is_empty}
use Rattle.ldc_queue.specs.Transcript.{Utterance}
use Rattle.vio_handshake.specs.declared.handshake.Handshake.{Handshake}
use Rattle.vio_handshake.specs.declared.handshake.Phase.TheVariants.{Open}
use Rattle.vio_tag.specs.declared.message.Message.{Message}
use Rattle.vio_tag.specs.Spelling.{canonical}
use Rattle.lane_models.specs.Sayings.{half_said}
use Rattle.lane_models.specs.EndCore.{holds}
use Rattle.lane_models.specs.EndStep.{IsOfSession}

-- part of its message is put where part of one was said, what was said of a message and what is left of it are at most 256 bytes, and where
-- nothing is left nothing of a message was said
pub record Cuts (k : LinkState) (utterances : List Utterance) : Type 0 where
  pub begun : k.begun ≡ not (is_empty (half_said utterances))
  pub most : length (half_said utterances) + length k.to_send ≤ 256
  pub free : k.to_send ≡ [] → half_said utterances ≡ []

-- what was put of a message and what is left of it: one of the end's session, which is open, or the message that its handshake owes
pub record CarriesOwed (owing : Option Message) (bytes : List ℕ) : Type 0 where
  pub message : Message
  pub owed : owing ≡ Some message
  pub is : bytes ≡ canonical message

pub record CarriesOwn (h : Handshake) (bytes : List ℕ) : Type 0 where
  pub message : Message
  pub body : IsOfSession message.body
  pub sid : message.sid ≡ h.draft.sid
  pub opened : h.phase ≡ Open
  pub is : bytes ≡ canonical message

abbrev pub CarriesEither : Bool → Handshake → List ℕ → Type 0
CarriesEither false h bytes = CarriesOwed h.owed bytes
CarriesEither true h bytes = CarriesOwn h bytes

abbrev pub HoldsIts : Bool → LinkState → Handshake → List Utterance → Type 0
HoldsIts own k h utterances = holds k ≡ true → CarriesEither own h (half_said utterances ++ k.to_send)
