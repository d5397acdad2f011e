use Rattle.std.proofs.Common.{List}
use Rattle.recorded_lanes.specs.world_parts.domain_laws.Domain.{PortsStep}
use Rattle.recorded_lanes.specs.world_parts.lane_models.PortState.{PortState}
use Rattle.recorded_lanes.specs.ldom_report.LaneEvents.{end_of}
use Rattle.std.proofs.lemmas.Result.{on_err_weaker, on_ok_weaker}
use Rattle.domain_script.specs.declared.fields.LaneKind.TheVariants as kinds
use Rattle.ldom_world.proofs.Lifted.{both, given_at, lift_ports, port_within, ports_counted, ports_same_numbers, same_at, step_at}
use Rattle.ldom_world.proofs.kinds.ports.step.Goals as goal

pub step-requires-clause-port : goal.step-requires-clause-port
step-requires-clause-port g c = port_within c.world.inside.disks c.world.inside.ports c.args.world.now c.world.view_is c.args.port c.requires.port

pub step-requires-clause-agrees : goal.step-requires-clause-agrees
step-requires-clause-agrees g c = given_at c.world.inside.disks c.world.inside.ports c.args.world.now c.world.view_is c.args.journal.now.entries c.requires.agrees

pub returns-clause-made : goal.returns-clause-made
returns-clause-made g c =
    on_ok_weaker c.step.result
    (λ made. step_at kinds.Port PortsStep (λ (d : List PortState). both c.world.inside.disks d) (lift_ports c.world.inside.disks)
    c.world.inside.ports c.args.world.now c.world.view_is
    (end_of c.args.side) c.args.port c.step.new.self c.args.journal.now.entries c.step.new.journal.entries made) c.step.ensures.made

pub returns-clause-same : goal.returns-clause-same
returns-clause-same g c =
    on_err_weaker c.step.result
    (λ same. same_at kinds.Port PortsStep (λ (d : List PortState). both c.world.inside.disks d) (lift_ports c.world.inside.disks)
    c.world.inside.ports c.args.world.now c.world.view_is
    c.step.new.self c.args.journal.now.entries c.step.new.journal.entries same) c.step.ensures.same

pub returns-clause-many : goal.returns-clause-many
returns-clause-many g c = ports_same_numbers c.world.inside.disks c.world.inside.ports c.args.world.now c.world.view_is c.step.new.self c.step.ensures.many

pub returns-clause-agrees : goal.returns-clause-agrees
returns-clause-agrees g c =
    ports_counted c.world.inside.disks c.world.inside.ports c.args.world.now c.world.view_is c.step.new.self c.args.journal.now.entries c.step.new.journal.entries
    c.requires.agrees c.step.ensures.accepted c.step.ensures.agrees
