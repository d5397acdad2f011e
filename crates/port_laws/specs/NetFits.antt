-- The addresses of an end of a port have at most 6 bytes, so that each message of its session takes one packet.
use Rattle.std.specs.Prelude.{ℕ, ◌≤◌, List, [], ◌∷◌, length, Option, Some, None, ⊤}
use Rattle.ldc_link.specs.declared.phase.Role.{Role}
use Rattle.ldc_link.specs.declared.phase.Role.TheVariants.{Initiator, Responder}
use Rattle.lane_models.specs.NetEndState.{GroupsReply, NetEndState, NetSession}

abbrev pub AddressesAreShort : List (List ℕ) → Type 0
AddressesAreShort [] = ⊤
AddressesAreShort (address ∷ addresses) = (length address ≤ 6) × AddressesAreShort addresses

-- a guest's own groups, and those in an answer that the switch's end owes
abbrev pub GroupsFit : Role → List (List ℕ) → Type 0
GroupsFit Initiator groups = AddressesAreShort groups
GroupsFit Responder groups = ⊤

pub record ReplyFits (reply : GroupsReply) : Type 0 where
  pub few : length reply.addresses ≤ 7
  pub short : AddressesAreShort reply.addresses

abbrev pub SomeFits : Option GroupsReply → Type 0
SomeFits None = ⊤
SomeFits (Some reply) = ReplyFits reply

abbrev pub SessionFits : Option NetSession → Type 0
SessionFits None = ⊤
SessionFits (Some p) = SomeFits p.reply

pub record NetFits (role : Role) (s : NetEndState) : Type 0 where
  pub groups : GroupsFit role s.groups
  pub session : SessionFits s.session
