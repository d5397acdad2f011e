-- Fresh lanes: nothing was asked of a disk, and no frame was given to a port.
use Rattle.std.proofs.Common.{◌≡◌, List, [], ◌∷◌, map, refl, ap, sym, subst, ◌∙◌, arith}
use Rattle.recorded_lanes.specs.world_parts.domain_laws.Domain.{DomainState}
use Rattle.recorded_lanes.specs.world_parts.lane_models.NetLaneState.{NetShape}
use Rattle.recorded_lanes.specs.world_parts.lane_models.PortState.{PortState, fresh_port}
use Rattle.recorded_lanes.specs.world_parts.world_laws.Issued.{issued_on}
use Rattle.recorded_lanes.specs.world_parts.lane_models.LaneState.{Shape, fresh}
use Rattle.recorded_lanes.specs.switched_ports.Given.{GivenBelow}
use Rattle.recorded_lanes.proofs.switched_ports.Fresh.{fresh_below}
use Rattle.recorded_lanes.specs.Steps.{Counted}

none_issued : (shapes : List Shape) → issued_on (map fresh shapes) ≡ 0
none_issued [] = refl
none_issued (shape ∷ shapes) = omega (arith, none_issued shapes)

pub none_counted : (shapes : List Shape) (nets : List NetShape) (w : DomainState) → w.first.lanes ≡ map fresh shapes
    → w.second ≡ map fresh_port nets → Counted [] w
none_counted shapes nets w disks ports = record {
  accepted = sym (ap issued_on disks ∙ none_issued shapes);
  given = subst (λ (l : List PortState). GivenBelow 1 l) (sym ports) (fresh_below nets);
}
