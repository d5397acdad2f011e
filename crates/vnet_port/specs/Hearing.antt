-- What an end makes of a packet and of a message, by the answers of the code.
use Rattle.std.specs.Prelude.{◌≡◌, ◌≢◌, ℕ, Bool, ◌&&◌, not, if◌then◌else◌, List, length, Option, Some, None, Result, Ok, Err, ⊤}
use Rattle.ldc_link.specs.declared.phase.Role.{Role}
use Rattle.ldc_link.specs.declared.phase.Role.TheVariants.{Initiator, Responder}
use Rattle.ldc_link.specs.LinkState.{cleared, is_up}
use Rattle.vio_handshake.specs.declared.handshake.Handshake.{Handshake}
use Rattle.vio_handshake.specs.declared.handshake.Phase.TheVariants.{Down, Open}
use Rattle.vio_handshake.specs.State.{handshake_up}
use Rattle.vio_tag.specs.declared.cause.Cause.{Cause}
use Rattle.lane_models.specs.FramesStand.{FramesStand}
use Rattle.lane_models.specs.NetEndState.{NetEndState, NetSession}
use Rattle.lane_models.specs.NetEndTaking.{GoesOn, NetTake, Resets}
use Rattle.vnet_port.specs.Standing.{IsSized}

-- the end goes on as it is left, with its memory so, or resets itself
abbrev pub take_of : Result Bool Cause → NetEndState → List ℕ → NetTake
take_of (Ok opens) t memory = GoesOn t opens memory
take_of (Err cause) t memory = Resets cause

-- the handshake of the switch's end begins where its link came up, which wasn't up before
abbrev pub rose : Role → Bool → NetEndState → NetEndState
rose Initiator was_up s = s
rose Responder was_up s = if is_up s.link && not was_up then record s { handshake = handshake_up s.handshake } else s

-- the link without its message
abbrev pub looked_at : NetEndState → NetEndState
looked_at s = record s { link = cleared s.link }

-- a session that is open was agreed on
abbrev pub AgreedIn : Option NetSession → Handshake → Type 0
AgreedIn None h = ⊤
AgreedIn (Some session) h = (h.phase ≡ Open) × (h.sid ≡ Some h.draft.sid)

-- an end that may hear a message
pub record MayHear (s : NetEndState) : Type 0 where
  pub begun : s.handshake.phase ≢ Down
  pub free : s.handshake.owed ≡ None
  pub agreed : AgreedIn s.session s.handshake
  pub frames : FramesStand s
  pub sized : IsSized s.slots s.next_id (length s.groups)

-- the whole message, if one stands, may be heard
abbrev pub MayHearWhole : Option (List ℕ) → NetEndState → Type 0
MayHearWhole None s = ⊤
MayHearWhole (Some bytes) s = MayHear s
