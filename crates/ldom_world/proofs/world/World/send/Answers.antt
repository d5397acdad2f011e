use Rattle.std.proofs.Common.{List}
use Rattle.recorded_lanes.specs.world_parts.domain_laws.Domain.{PortsStep}
use Rattle.recorded_lanes.specs.world_parts.lane_models.PortState.{PortState}
use Rattle.std.proofs.Common.{refl}
use Rattle.std.proofs.lemmas.Result.{on_err_weaker, on_ok_weaker}
use Rattle.recorded_lanes.specs.world_parts.domain_laws.Lines.{AnswersFrame, Sends}
use Rattle.domain_script.specs.declared.fields.LaneKind.TheVariants as kinds
use Rattle.ldom_world.proofs.Lifted.{answer_fits, both, given_at, lift_ports, nothing_begun, port_within, ports_counted}
use Rattle.ldom_world.proofs.world.World.send.Goals as goal

pub send-requires-clause-port : goal.send-requires-clause-port
send-requires-clause-port g c = port_within c.self.inside.disks c.self.inside.ports c.args.self.now c.self.view_is c.args.port c.requires.port

pub send-requires-clause-agrees : goal.send-requires-clause-agrees
send-requires-clause-agrees g c = given_at c.self.inside.disks c.self.inside.ports c.args.self.now c.self.view_is c.args.journal.now.entries c.requires.agrees

pub returns-clause-fits : goal.returns-clause-fits
returns-clause-fits g c =
    on_ok_weaker c.send.result
    (λ made. answer_fits kinds.Port PortsStep (λ (d : List PortState). both c.self.inside.disks d) (lift_ports c.self.inside.disks)
    c.self.inside.ports c.args.self.now c.self.view_is
    (Sends c.args.port c.args.frame.now) c.args.port (AnswersFrame c.args.frame.now) c.send.new.self c.args.journal.now.entries c.send.new.journal.entries
    (λ event answers. record { event = event; answers = answers; is = refl }) made) c.send.ensures.made

pub returns-clause-so_far : goal.returns-clause-so_far
returns-clause-so_far g c =
    on_err_weaker c.send.result
    (λ same. nothing_begun kinds.Port PortsStep (λ (d : List PortState). both c.self.inside.disks d) (lift_ports c.self.inside.disks)
    c.self.inside.ports c.args.self.now c.self.view_is
    (Sends c.args.port c.args.frame.now) c.args.port (AnswersFrame c.args.frame.now) c.send.new.self c.args.journal.now.entries c.send.new.journal.entries refl same) c.send.ensures.same

pub returns-clause-agrees : goal.returns-clause-agrees
returns-clause-agrees g c =
    ports_counted c.self.inside.disks c.self.inside.ports c.args.self.now c.self.view_is c.send.new.self c.args.journal.now.entries c.send.new.journal.entries
    c.requires.agrees c.send.ensures.accepted c.send.ensures.agrees
