-- What a packet that an end puts brings about, besides the link's own step.
use Rattle.std.specs.Prelude.{Bool, true, false, ◌&&◌, not, nat_le, if◌then◌else◌, length}
use Rattle.ldc_link.specs.declared.phase.LinkPhase.{LinkPhase}
use Rattle.ldc_link.specs.declared.phase.LinkPhase.TheVariants as phase
use Rattle.ldc_link.specs.LinkState.{LinkState, is_up}
use Rattle.vio_handshake.specs.declared.handshake.Handshake.{Handshake}
use Rattle.vio_handshake.specs.Rules.{opens_by_put, handshake_sent}
use Rattle.vio_handshake.specs.State.{handshake_up}

pub data PutKind : Type 0 where
  -- a packet of the link's handshake, or a part of a message that goes on
  Goes : PutKind
  -- RDX, with which an initiator's link is up
  ComesUp : PutKind
  -- the last part of a message of the end's own, and of one of its handshake
  EndsOwn : PutKind
  EndsHandshake : PutKind

-- the end of a message, whose it is
abbrev pub ending : Bool → Bool → PutKind
ending false own = Goes
ending true own = if own then EndsOwn else EndsHandshake

abbrev pub kind_in : LinkPhase → LinkState → Bool → PutKind
kind_in phase.OwesRdx k own = ComesUp
kind_in phase.Established k own = ending (nat_le (length k.to_send) 56) own
kind_in _ k own = Goes

-- of the packet that the link owes, where the flag says that its message is the end's own
abbrev pub put_kind : LinkState → Bool → PutKind
put_kind k own = kind_in k.phase k own

-- the handshake after it
abbrev pub handshake_behind : PutKind → Handshake → Handshake
handshake_behind Goes h = h
handshake_behind ComesUp h = handshake_up h
handshake_behind EndsOwn h = h
handshake_behind EndsHandshake h = handshake_sent h

-- whether the session opens by it
abbrev pub put_opens : PutKind → Handshake → Bool
put_opens EndsHandshake h = opens_by_put h.role h.phase
put_opens _ h = false

-- a responder's link that comes up by what it took begins a session
abbrev pub handshake_risen : LinkState → LinkState → Handshake → Handshake
handshake_risen before behind h = if is_up behind && not (is_up before) then handshake_up h else h
