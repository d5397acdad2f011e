-- The lanes of a world, by what a script declared.
use Rattle.std.specs.Prelude.{◌≡◌, length}
use Rattle.ldom_world.specs.world_parts.domain_laws.Domain.{DomainState}
use Rattle.domain_script.specs.NamesState.{NamesState}

-- as many disks and as many ports as were declared
pub record HasLanes (names : NamesState) (w : DomainState) : Type 0 where
  pub disks : length w.first.lanes ≡ length names.disks
  pub ports : length w.second ≡ length names.ports
