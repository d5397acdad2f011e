-- An end as its channel sees it, whatever kind of lane it is of, and what may happen to it.
use Rattle.std.specs.Prelude.{ℕ, Bool, false, ◌&&◌, not, List, Option}
use Rattle.ldc_link.specs.declared.phase.Role.{Role}
use Rattle.ldc_link.specs.LinkState.{LinkState, fresh_link, is_up}
use Rattle.ldc_queue.specs.Messages.{is_empty}
use Rattle.vio_handshake.specs.declared.handshake.Handshake.{Handshake}
use Rattle.vio_handshake.specs.declared.session.Offer.{Offer}
use Rattle.vio_handshake.specs.State.{fresh_handshake}
use Rattle.vio_tag.specs.declared.cause.Cause.{Cause}

pub record EndCore : Type 0 where
  pub link : LinkState
  pub handshake : Handshake
  -- what its handshake offers once its values are made new
  pub offer : Offer
  pub is_open : Bool
  -- the message that its link holds, where it holds one, is of its session
  pub own : Bool
  -- so many messages of its session it may begin before it takes a packet
  pub more : ℕ

abbrev pub fresh_end : Role → Offer → EndCore
fresh_end role offer = record {
  link = fresh_link role;
  handshake = fresh_handshake role offer;
  offer = offer;
  is_open = false;
  own = false;
  more = 0;
}

-- its link is up and holds a message, of which something is left to put
abbrev pub holds : LinkState → Bool
holds link = is_up link && not (is_empty link.to_send)

-- A packet is its 64 bytes; a flag says whether the session opens by it.
pub data EndMove : Type 0 where
  -- it is configured, by a step of its own or for a cause that lies outside
  Begins : EndMove
  -- it is configured or closed, and its values are made new
  Renews : EndMove
  -- it resets itself for a cause, which may lie in a packet that it took
  Fails : (cause : Cause) (packet : Option (List ℕ)) → EndMove
  Hears : (packet : List ℕ) (opens : Bool) → EndMove
  Says : (packet : List ℕ) (opens : Bool) → EndMove
  -- it has no room for its next packet
  Waits : EndMove
  -- it works on its session, or does nothing
  Stays : EndMove
