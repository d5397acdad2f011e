-- The ports that a script declares are ports of a world: within the limits, each with an address of six bytes.
use Rattle.std.proofs.Common.{◌≡◌, ℕ, suc, List, [], ◌∷◌, length, Option, refl, ap, arith}
use Rattle.domain_script.specs.Declarations.{ArePorts, IsPort}
use Rattle.domain_script.specs.declared.event.PortDecl.{PortDecl}
use Rattle.domain_script.specs.declared.event.Event.{Event}
use Rattle.domain_script.specs.NamesState.{NamesState}
use Rattle.lane_kinds.specs.Lanes.{EachOf}
use Rattle.world_parts.specs.lane_models.NetLaneState.{IsNetShape}
use Rattle.world_parts.specs.Declared.{net_of, nets_of}
use Rattle.script_laws.specs.Script.{ReadSoFar}
use Rattle.script_laws.proofs.ReadLemmas.{read_declared}

is_net : (port : PortDecl) → IsPort port → IsNetShape (net_of port)
is_net port is = grind arith

pub are_nets : (ports : List PortDecl) → ArePorts ports → EachOf IsNetShape (nets_of ports)
are_nets [] are = tt
are_nets (port ∷ ports) are = (is_net port are.0, are_nets ports are.1)

pub read_nets : (start left : Option (List ℕ)) (events : List Event) (names : NamesState) (count : ℕ)
    → ReadSoFar start left events names count → EachOf IsNetShape (nets_of names.ports)
read_nets start left events names count read = are_nets names.ports (read_declared start left events names count read).ports

pub many_nets : (ports : List PortDecl) → length (nets_of ports) ≡ length ports
many_nets [] = refl
many_nets (port ∷ ports) = ap (λ (n : ℕ). suc n) (many_nets ports)
