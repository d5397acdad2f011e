-- One end of a link: where its handshake stands, the next numbers, what it has heard of a message and what it has still to send.
use Rattle.std.specs.Prelude.{ℕ, ◌+◌, ◌%◌, Bool, true, false, List, [], Option, None}
use Rattle.ldc_link.specs.declared.phase.LinkPhase.{LinkPhase}
use Rattle.ldc_link.specs.declared.phase.LinkPhase.TheVariants as phase
use Rattle.ldc_link.specs.declared.phase.Role.{Role}
use Rattle.ldc_link.specs.declared.phase.Role.TheVariants.{Initiator, Responder}

pub record LinkState : Type 0 where
  pub role : Role
  pub phase : LinkPhase
  -- the seqids of the next RDX or data packet that it puts, and of the next that it takes, modulo 2^32
  pub put_next : ℕ
  pub take_next : ℕ
  -- the bytes of a message whose last part hasn't come, and a message that is whole
  pub half_heard : List ℕ
  pub whole : Option (List ℕ)
  -- what is left of the offered message, and whether a part of it was put
  pub to_send : List ℕ
  pub begun : Bool

abbrev pub first_phase : Role → LinkPhase
first_phase Initiator = phase.OwesVersInfo
first_phase Responder = phase.AwaitsVersInfo

-- a link before its handshake
abbrev pub fresh_link : Role → LinkState
fresh_link role = record {
  role = role;
  phase = first_phase role;
  put_next = 1;
  take_next = 1;
  half_heard = [];
  whole = None;
  to_send = [];
  begun = false;
}

-- it begins anew
abbrev pub joined_link : LinkState → LinkState
joined_link k = fresh_link k.role

abbrev pub is_established : LinkPhase → Bool
is_established phase.Established = true
is_established _ = false

abbrev pub is_up : LinkState → Bool
is_up k = is_established k.phase

abbrev pub next_number : ℕ → ℕ
next_number n = (n + 1) % 4294967296

-- a message is offered, of which nothing was put yet
abbrev pub offered : List ℕ → LinkState → LinkState
offered message k = record k { to_send = message; begun = false }

-- the whole message was seen
abbrev pub cleared : LinkState → LinkState
cleared k = record k { whole = None }
