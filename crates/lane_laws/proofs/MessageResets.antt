-- A message of its session for which an end of a disk resets itself says why.
use Rattle.std.proofs.Common.{◌≡◌, ℕ, true, None, List, ap, ◌∙◌, subst, arith}
use Rattle.vio_bytes.specs.Place.{number_at}
use Rattle.vio_tag.specs.declared.cause.Cause.{Cause}
use Rattle.vio_tag.specs.declared.cause.Cause.TheVariants as the_cause
use Rattle.vio_tag.specs.declared.message.Message.{Message}
use Rattle.vio_tag.specs.declared.message.MsgBody.TheVariants.{DringData}
use Rattle.vio_tag.specs.Fault.{first_fault}
use Rattle.vio_tag.specs.Spelling.{SpellsBody, envelope_at, envelope_code}
use Rattle.lane_models.specs.ClientState.{ClientState}
use Rattle.lane_models.specs.Ranges.{is_other}
use Rattle.lane_models.specs.ServerState.{ServerState, SlotRange}
use Rattle.lane_models.specs.ResetSays.{IsOther, MessageSays}
use Rattle.lane_models.proofs.HandshakeResets.{Spelled}
use Rattle.lane_laws.proofs.ClientAnswers as client
use Rattle.lane_laws.proofs.ServerAnswers as server

-- what is another than was expected
is_other_why : (expected found there : ℕ) → is_other expected found ≡ true → found ≡ there → IsOther expected found there
is_other_why expected found there is same = grind arith

-- what its bytes say of a range of slots
record SaysRange (bytes : List ℕ) (seq ident start end state : ℕ) : Type 0 where
  sound : first_fault bytes ≡ None
  envelope : envelope_at bytes ≡ 0x0042
  body : SpellsBody bytes (DringData seq ident start end state)

says_range : (bytes : List ℕ) (message : Message) (seq ident start end state : ℕ) → Spelled bytes message → message.body ≡ DringData seq ident start end state
    → SaysRange bytes seq ident start end state
says_range bytes message seq ident start end state spelled is =
    record { sound = spelled.sound; envelope = spelled.spells.envelope ∙ ap envelope_code is; body = subst (SpellsBody bytes) is spelled.spells.body }

-- THE CLIENT
ack_says : (bytes : List ℕ) (seq ident start end state : ℕ) (cause : Cause) → SaysRange bytes seq ident start end state → client.AckFails ident start end cause → MessageSays bytes cause
ack_says bytes seq ident start end state (the_cause.Ident expected found) says fails =
    (says.sound, says.envelope, is_other_why expected found (number_at 8 16 bytes) fails.0 (fails.1 ∙ says.body.1))
ack_says bytes seq ident start end state (the_cause.Slot expected found) says fails =
    (says.sound, says.envelope, is_other_why expected found (number_at 4 24 bytes) fails.0 (fails.1 ∙ says.body.2))
ack_says bytes seq ident start end state (the_cause.RangeEnd found) says fails = (says.sound, says.envelope, fails ∙ says.body.3)
ack_says bytes seq ident start end state the_cause.Refused says fails = says.sound
ack_says bytes seq ident start end state _ says fails = absurd fails

pub client_says_why : (bytes : List ℕ) (message : Message) (s : ClientState) (cause : Cause) → Spelled bytes message → client.Refuses s message cause → MessageSays bytes cause
client_says_why bytes message s cause spelled refuses =
    ack_says bytes refuses.seq refuses.ident refuses.start refuses.end refuses.state cause (says_range bytes message refuses.seq refuses.ident refuses.start refuses.end refuses.state spelled refuses.body_is) refuses.fails

-- THE SERVER
info_says : (bytes : List ℕ) (ident : ℕ) (range : SlotRange) (cause : Cause) → SaysRange bytes range.seq ident range.start range.end range.state → server.InfoFails ident range cause
    → MessageSays bytes cause
info_says bytes ident range (the_cause.Ident expected found) says fails =
    (says.sound, says.envelope, is_other_why expected found (number_at 8 16 bytes) fails.0 (fails.1 ∙ says.body.1))
info_says bytes ident range (the_cause.Seq expected found) says fails =
    (says.sound, says.envelope, is_other_why expected found (number_at 8 8 bytes) fails.0 (fails.1 ∙ says.body.0))
info_says bytes ident range (the_cause.Slot expected found) says fails =
    (says.sound, says.envelope, is_other_why expected found (number_at 4 24 bytes) fails.0 (fails.1 ∙ says.body.2))
info_says bytes ident range (the_cause.RangeEnd found) says fails = (says.sound, says.envelope, fails ∙ says.body.3)
info_says bytes ident range _ says fails = absurd fails

pub server_says_why : (bytes : List ℕ) (message : Message) (s : ServerState) (cause : Cause) → Spelled bytes message → server.Refuses s message cause → MessageSays bytes cause
server_says_why bytes message s cause spelled refuses =
    info_says bytes refuses.ident refuses.range cause (says_range bytes message refuses.range.seq refuses.ident refuses.range.start refuses.range.end refuses.range.state spelled refuses.body_is) refuses.fails
