-- What the client makes of a message that it heard whole, by the answer of the function that hears it, and what that
-- needs of it.
use Rattle.std.specs.Prelude.{◌≡◌, length, Option, Some, None, Result, Ok, Err, ⊤}
use Rattle.vio_handshake.specs.declared.handshake.Handshake.{Handshake}
use Rattle.vio_handshake.specs.declared.handshake.Phase.TheVariants.{Open}
use Rattle.vio_tag.specs.declared.cause.Cause.{Cause}
use Rattle.lane_models.specs.ClientState.{ClientSession, ClientState}
use Rattle.lane_models.specs.ClientTaking.{ClientTake, GoesOn, Resets}
use Rattle.vdisk_client.specs.Standing.{RequestsStand, SessionStands}

abbrev pub take_of : {U : Type 0} → Result U Cause → ClientState → ClientTake
take_of (Ok done) s = GoesOn s
take_of (Err cause) s = Resets cause

-- a session that is open was agreed on
pub record IsAgreed (h : Handshake) : Type 0 where
  pub phase : h.phase ≡ Open
  pub sid : h.sid ≡ Some h.draft.sid

abbrev pub AgreesIn : Option ClientSession → Handshake → Type 0
AgreesIn None h = ⊤
AgreesIn (Some session) h = IsAgreed h

-- a client that may hear a message
pub record MayHear (s : ClientState) : Type 0 where
  pub free : s.handshake.owed ≡ None
  pub agreed : AgreesIn s.session s.handshake
  pub requests : RequestsStand s
  pub session : SessionStands (length s.pending) s.next_id s.session
