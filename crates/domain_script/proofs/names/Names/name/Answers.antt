use Rattle.std.proofs.Common.{Some}
use Rattle.domain_script.specs.declared.fields.LaneKind.TheVariants as lanes
use Rattle.domain_script.proofs.LaneNames.{name_of_lane}
use Rattle.domain_script.proofs.names.Names.name.Goals as goal

pub returns-in_ok-disk-in-Disk-clause-name : goal.returns-in_ok-disk-in-Disk-clause-name
returns-in_ok-disk-in-Disk-clause-name c =
    name_of_lane c.args.self.now c.args.lane lanes.Disk (Some c.in_ok-disk-in-Disk.field-0) c.in-Disk.is c.in_ok-disk-in-Disk.ensures.value

pub returns-in_ok-port-in-Port-clause-name : goal.returns-in_ok-port-in-Port-clause-name
returns-in_ok-port-in-Port-clause-name c =
    name_of_lane c.args.self.now c.args.lane lanes.Port (Some c.in_ok-port-in-Port.field-0) c.in-Port.is c.in_ok-port-in-Port.ensures.value
