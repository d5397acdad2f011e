-- What a server makes of a message, by the answers of the code.
use Rattle.std.specs.Prelude.{◌≡◌, ◌≢◌, ℕ, ◌<◌, Bool, ◌&&◌, not, if◌then◌else◌, List, Option, Some, None, Result, Ok, Err}
use Rattle.ldc_link.specs.LinkState.{is_up}
use Rattle.vio_handshake.specs.declared.handshake.Handshake.{Handshake}
use Rattle.vio_handshake.specs.declared.handshake.Phase.TheVariants as handshake
use Rattle.vio_handshake.specs.State.{handshake_up}
use Rattle.vio_tag.specs.declared.cause.Cause.{Cause}
use Rattle.vio_tag.specs.declared.message.Message.{Message}
use Rattle.vio_tag.specs.declared.message.TagFault.{TagFault}
use Rattle.vio_tag.specs.Decoding.{Decodes}
use Rattle.lane_models.specs.ServerState.{ServerSession, ServerState}
use Rattle.lane_models.specs.ServerTaking.{GoesOn, Resets, ServerTake}

-- the server goes on as it is left, or resets itself
abbrev pub took : Result Bool Cause → ServerState → ServerTake
took (Ok opens) t = GoesOn t opens
took (Err cause) t = Resets cause

-- the handshake begins where the link came up, which wasn't up before
abbrev pub risen : Bool → ServerState → ServerState
risen was_up s = if is_up s.link && not was_up then record s { handshake = handshake_up s.handshake } else s

-- the whole message as it decodes, if one stands
abbrev pub DecodesWhole : Option (List ℕ) → Option (Result Message TagFault) → Type 0
DecodesWhole None None = Unit {0}
DecodesWhole (Some bytes) (Some decoded) = Decodes bytes decoded
DecodesWhole _ _ = ⊥

-- a session that is open knows its number and its ring
abbrev pub SessionKnows : Option ServerSession → Handshake → Type 0
SessionKnows None h = Unit {0}
SessionKnows (Some session) h = (h.phase ≡ handshake.Open) × (h.sid ≡ Some h.draft.sid) × (0 < h.draft.peer_slots)

-- a message can be heard: the handshake has begun, and nothing is owed
pub record CanHear (s : ServerState) : Type 0 where
  pub began : s.handshake.phase ≢ handshake.Down
  pub free : s.handshake.owed ≡ None
  pub session : SessionKnows s.session s.handshake

-- the whole message, if one stands, can be heard
abbrev pub CanHearWhole : Option (List ℕ) → ServerState → Type 0
CanHearWhole None s = Unit {0}
CanHearWhole (Some bytes) s = CanHear s
