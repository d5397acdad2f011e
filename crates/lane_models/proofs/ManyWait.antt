-- Both links are up where many packets wait for both ends; and a link that is up and owes a packet holds a message.
use Rattle.std.proofs.Common.{◌≡◌, ℕ, ◌≤◌, Bool, true, List, [], ◌∷◌, length, sym, ap, ◌∙◌, arith}
use Rattle.std.specs.Prelude.{is_some}
use Rattle.ldc_link.specs.declared.phase.Role.TheVariants.{Initiator, Responder}
use Rattle.ldc_link.specs.declared.phase.LinkPhase.{LinkPhase}
use Rattle.ldc_link.specs.declared.phase.LinkPhase.TheVariants as phase
use Rattle.ldc_link.specs.LinkState.{LinkState}
use Rattle.ldc_link.specs.Putting.{owed_in, owes, part_owed}
use Rattle.lane_models.specs.LinkPlaces.{BothUp, LinkPlace, WaitsAt}

pub many_wait : (place : LinkPlace) (lossy : Bool) (to_a to_b : List (List ℕ)) → WaitsAt Responder lossy place to_b → WaitsAt Initiator lossy place to_a → 2 ≤ length to_a → 2 ≤ length to_b → place ≡ BothUp
many_wait place lossy to_a to_b to_server to_client many_a many_b = grind arith

-- A LINK THAT IS UP and owes a packet holds a message
some_part : (k : LinkState) (left : List ℕ) → is_some (part_owed k left) ≡ true → 1 ≤ length left
some_part k [] owed = absurd (cc owed)
some_part k (byte ∷ bytes) owed = omega arith

pub owes_some : (k : LinkState) → k.phase ≡ phase.Established → owes k ≡ true → 1 ≤ length k.to_send
owes_some k at owed = some_part k k.to_send (ap (λ (ph : LinkPhase). is_some (owed_in ph k)) (sym at) ∙ owed)
