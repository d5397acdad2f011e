use Rattle.std.proofs.Common.{Bool, List}
use Rattle.std.proofs.lemmas.Result.{IfOk-weaker, on_err_weaker}
use Rattle.recorded_lanes.specs.world_parts.domain_laws.Domain.{DomainStep, PortsStep}
use Rattle.recorded_lanes.specs.world_parts.lane_models.PortState.{PortState}
use Rattle.recorded_lanes.specs.ldom_report.LaneEvents.{end_of}
use Rattle.recorded_lanes.specs.Steps.{MakesQuietStep, moment}
use Rattle.domain_script.specs.LaneKinds.{port_lane}
use Rattle.domain_script.specs.declared.fields.LaneKind.TheVariants as kinds
use Rattle.ldom_world.proofs.Lifted.{both, given_at, lift_ports, port_within, ports_counted, ports_same_numbers, quiet_step_at, same_at}
use Rattle.ldom_world.proofs.kinds.ports.quiet_step.Goals as goal

pub quiet_step-requires-clause-port : goal.quiet_step-requires-clause-port
quiet_step-requires-clause-port g c = port_within c.world.inside.disks c.world.inside.ports c.args.world.now c.world.view_is c.args.port c.requires.port

pub quiet_step-requires-clause-agrees : goal.quiet_step-requires-clause-agrees
quiet_step-requires-clause-agrees g c = given_at c.world.inside.disks c.world.inside.ports c.args.world.now c.world.view_is c.args.journal.now.entries c.requires.agrees

pub returns-clause-made : goal.returns-clause-made
returns-clause-made g c =
    IfOk-weaker c.quiet_step.result
    (λ (calm : Bool). MakesQuietStep PortsStep (port_lane c.args.port) (end_of c.args.side)
    (moment c.world.inside.ports c.args.journal.now.entries) calm (moment c.quiet_step.new.self c.quiet_step.new.journal.entries))
    (λ (calm : Bool). MakesQuietStep DomainStep (port_lane c.args.port) (end_of c.args.side)
    (moment c.args.world.now c.args.journal.now.entries) calm (moment (both c.world.inside.disks c.quiet_step.new.self) c.quiet_step.new.journal.entries))
    (λ calm made. quiet_step_at kinds.Port PortsStep (λ (d : List PortState). both c.world.inside.disks d) (lift_ports c.world.inside.disks)
    c.world.inside.ports c.args.world.now c.world.view_is
    (end_of c.args.side) c.args.port c.quiet_step.new.self c.args.journal.now.entries c.quiet_step.new.journal.entries calm made)
    c.quiet_step.ensures.made

pub returns-clause-same : goal.returns-clause-same
returns-clause-same g c =
    on_err_weaker c.quiet_step.result
    (λ same. same_at kinds.Port PortsStep (λ (d : List PortState). both c.world.inside.disks d) (lift_ports c.world.inside.disks)
    c.world.inside.ports c.args.world.now c.world.view_is
    c.quiet_step.new.self c.args.journal.now.entries c.quiet_step.new.journal.entries same) c.quiet_step.ensures.same

pub returns-clause-many : goal.returns-clause-many
returns-clause-many g c = ports_same_numbers c.world.inside.disks c.world.inside.ports c.args.world.now c.world.view_is c.quiet_step.new.self c.quiet_step.ensures.many

pub returns-clause-agrees : goal.returns-clause-agrees
returns-clause-agrees g c =
    ports_counted c.world.inside.disks c.world.inside.ports c.args.world.now c.world.view_is c.quiet_step.new.self c.args.journal.now.entries c.quiet_step.new.journal.entries c.requires.agrees c.quiet_step.ensures.accepted c.quiet_step.ensures.agrees
