-- An end rests on what it heard, and said what its handshake holds.
use Rattle.std.specs.Prelude.{◌≡◌, true, false, None, List, []}
use Rattle.ldc_link.specs.declared.phase.Role.{Role}
use Rattle.ldc_link.specs.LinkState.{is_up}
use Rattle.ldc_queue.specs.Transcript.{Utterance}
use Rattle.vio_handshake.specs.declared.handshake.Phase.TheVariants.{Down, Open}
use Rattle.lane_models.specs.Sayings.{half_said, heard, said}
use Rattle.lane_models.specs.EndCore.{EndCore}
use Rattle.lane_models.specs.Grounds.{RestsOn}
use Rattle.lane_models.specs.HandshakeFits.{HandshakeFits}
use Rattle.lane_models.specs.Standing.{EndStands}
use Rattle.lane_models.specs.Utterances.{Utters}

-- An end stands by its role; its handshake rests on what it heard, holds what it said, and fits its offer. Then each whole message was seen, the
-- handshake is down while the link isn't up, and open where the session is.
pub record EndRests (role : Role) (c : EndCore) (utterances : List Utterance) : Type 0 where
  pub stands : EndStands role c utterances
  pub rests : RestsOn role c.handshake (heard utterances)
  pub utters : Utters role c.handshake (said utterances)
  pub fits : HandshakeFits role c.offer c.handshake
  pub whole : c.link.whole ≡ None
  pub down : is_up c.link ≡ false → c.handshake.phase ≡ Down
  pub opened : c.is_open ≡ true → c.handshake.phase ≡ Open

-- where nothing is left to put nothing of a message was said; and before its link is up an end said nothing, and has nothing to say
pub record EndUtters (c : EndCore) (utterances : List Utterance) : Type 0 where
  pub half : c.link.to_send ≡ [] → half_said utterances ≡ []
  pub silent : is_up c.link ≡ false → said utterances ≡ []
  pub idle : is_up c.link ≡ false → c.link.to_send ≡ []
  pub free : is_up c.link ≡ false → c.handshake.owed ≡ None
