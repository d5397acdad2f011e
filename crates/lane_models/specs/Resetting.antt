-- Why an end resets itself: the packet that it carries says why, by its own bytes or by those of the message that it ends; or its session is
-- open, and the cause lies in a message of that which the packet ends, or in no packet.
use Rattle.std.specs.Prelude.{◌≡◌, ℕ, Bool, true, ◌⊎◌, List, Option, Some, None, ⊤}
use Rattle.ldc_queue.specs.Transcript.{Utterance}
use Rattle.vio_tag.specs.declared.cause.Cause.{Cause}
use Rattle.vio_tag.specs.declared.cause.Cause.TheVariants as the_cause
use Rattle.lane_models.specs.ResetSays.{EndsMessage, PacketSays}
use Rattle.lane_models.specs.WireAt.{GapOf}
use Rattle.lane_models.specs.EndCore.{EndCore}

-- a slot of a ring that isn't DONE lies in no packet
abbrev pub LiesInPacket : Cause → Type 0
LiesInPacket (the_cause.NotDone slot state) = ⊥
LiesInPacket _ = ⊤

pub record SaysWhy (utterances : List Utterance) (packet : List ℕ) (cause : Cause) : Type 0 where
  pub says : PacketSays utterances packet cause
  pub gap : GapOf utterances cause (Some packet)
  pub carried : LiesInPacket cause

-- a cause of the session's own
pub record LiesInMessage (c : EndCore) (packet : List ℕ) : Type 0 where
  pub opened : c.is_open ≡ true
  pub ends : EndsMessage packet

abbrev pub LiesInSession : EndCore → Option (List ℕ) → Type 0
LiesInSession c (Some packet) = LiesInMessage c packet
LiesInSession c None = c.is_open ≡ true

abbrev pub ResetsFor : EndCore → List Utterance → Cause → Option (List ℕ) → Type 0
ResetsFor c utterances cause (Some packet) = SaysWhy utterances packet cause ⊎ LiesInMessage c packet
ResetsFor c utterances cause None = c.is_open ≡ true

-- a gap, where a packet was lost since the queues were last emptied
pub record IsGapBehindLoss (lossy : Bool) (cause : Cause) : Type 0 where
  pub expected : ℕ
  pub found : ℕ
  pub gap : cause ≡ the_cause.Gap expected found
  pub lossy_is : lossy ≡ true
