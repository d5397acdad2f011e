use Rattle.std.proofs.Common.{List}
use Rattle.recorded_lanes.specs.world_parts.domain_laws.Domain.{PortsStep}
use Rattle.recorded_lanes.specs.world_parts.lane_models.PortState.{PortState}
use Rattle.std.proofs.Common.{refl}
use Rattle.std.proofs.lemmas.Result.{on_err_weaker, on_ok_weaker}
use Rattle.recorded_lanes.specs.world_parts.domain_laws.Lines.{AnswersPortCall, Calls, Pokes, PortLane}
use Rattle.recorded_lanes.specs.ldom_report.LaneEvents.{end_of}
use Rattle.domain_script.specs.declared.fields.LaneKind.TheVariants as kinds
use Rattle.ldom_world.proofs.Lifted.{answer_fits, both, given_at, lift_ports, nothing_begun, port_within, ports_counted}
use Rattle.ldom_world.proofs.kinds.ports.poke.Goals as goal

pub poke-requires-clause-port : goal.poke-requires-clause-port
poke-requires-clause-port g c = port_within c.world.inside.disks c.world.inside.ports c.args.world.now c.world.view_is c.args.port c.requires.port

pub poke-requires-clause-agrees : goal.poke-requires-clause-agrees
poke-requires-clause-agrees g c = given_at c.world.inside.disks c.world.inside.ports c.args.world.now c.world.view_is c.args.journal.now.entries c.requires.agrees

pub returns-clause-fits : goal.returns-clause-fits
returns-clause-fits g c =
    on_ok_weaker c.poke.result
    (λ made. answer_fits kinds.Port PortsStep (λ (d : List PortState). both c.world.inside.disks d) (lift_ports c.world.inside.disks)
    c.world.inside.ports c.args.world.now c.world.view_is
    (Calls (PortLane c.args.port) (Pokes (end_of c.args.side) c.args.at c.args.bytes.now)) c.args.port (AnswersPortCall (Pokes (end_of c.args.side) c.args.at c.args.bytes.now)) c.poke.new.self c.args.journal.now.entries c.poke.new.journal.entries
    (λ event answers. record { event = event; answers = answers; is = refl }) made) c.poke.ensures.made

pub returns-clause-so_far : goal.returns-clause-so_far
returns-clause-so_far g c =
    on_err_weaker c.poke.result
    (λ same. nothing_begun kinds.Port PortsStep (λ (d : List PortState). both c.world.inside.disks d) (lift_ports c.world.inside.disks)
    c.world.inside.ports c.args.world.now c.world.view_is
    (Calls (PortLane c.args.port) (Pokes (end_of c.args.side) c.args.at c.args.bytes.now)) c.args.port (AnswersPortCall (Pokes (end_of c.args.side) c.args.at c.args.bytes.now)) c.poke.new.self c.args.journal.now.entries c.poke.new.journal.entries refl same) c.poke.ensures.same

pub returns-clause-agrees : goal.returns-clause-agrees
returns-clause-agrees g c =
    ports_counted c.world.inside.disks c.world.inside.ports c.args.world.now c.world.view_is c.poke.new.self c.args.journal.now.entries c.poke.new.journal.entries
    c.requires.agrees c.poke.ensures.accepted c.poke.ensures.agrees
