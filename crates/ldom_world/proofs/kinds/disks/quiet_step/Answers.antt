use Rattle.std.proofs.Common.{Bool}
use Rattle.std.proofs.lemmas.Result.{IfOk-weaker, on_err_weaker}
use Rattle.recorded_lanes.specs.world_parts.domain_laws.Domain.{DomainStep}
use Rattle.recorded_lanes.specs.world_parts.domain_laws.Lines.{Nothing}
use Rattle.recorded_lanes.specs.ldom_report.LaneEvents.{end_of}
use Rattle.recorded_lanes.specs.world_parts.world_laws.World.{WorldState, WorldStep}
use Rattle.recorded_lanes.specs.Steps.{MakesQuietStep, moment}
use Rattle.domain_script.specs.LaneKinds.{disk_lane}
use Rattle.domain_script.specs.declared.fields.LaneKind.TheVariants as kinds
use Rattle.ldom_world.proofs.Lifted.{both, counted_at, disk_within, disks_counted, disks_same_numbers, lift_disks, quiet_grows, quiet_step_at, same_at}
use Rattle.ldom_world.proofs.kinds.disks.quiet_step.Goals as goal

pub quiet_step-requires-clause-disk : goal.quiet_step-requires-clause-disk
quiet_step-requires-clause-disk g c = disk_within c.world.inside.disks c.world.inside.ports c.args.world.now c.world.view_is c.args.disk c.requires.disk

pub quiet_step-requires-clause-agrees : goal.quiet_step-requires-clause-agrees
quiet_step-requires-clause-agrees g c = counted_at c.world.inside.disks c.world.inside.ports c.args.world.now c.world.view_is c.args.journal.now.entries c.requires.agrees

pub returns-clause-made : goal.returns-clause-made
returns-clause-made g c =
    IfOk-weaker c.quiet_step.result
    (λ (calm : Bool). MakesQuietStep WorldStep (disk_lane c.args.disk) (end_of c.args.side)
    (moment c.world.inside.disks c.args.journal.now.entries) calm (moment c.quiet_step.new.self c.quiet_step.new.journal.entries))
    (λ (calm : Bool). MakesQuietStep DomainStep (disk_lane c.args.disk) (end_of c.args.side)
    (moment c.args.world.now c.args.journal.now.entries) calm (moment (both c.quiet_step.new.self c.world.inside.ports) c.quiet_step.new.journal.entries))
    (λ calm made. quiet_step_at kinds.Disk WorldStep (λ (d : WorldState). both d c.world.inside.ports) (lift_disks c.world.inside.ports)
    c.world.inside.disks c.args.world.now c.world.view_is
    (end_of c.args.side) c.args.disk c.quiet_step.new.self c.args.journal.now.entries c.quiet_step.new.journal.entries calm made)
    c.quiet_step.ensures.made

pub returns-clause-same : goal.returns-clause-same
returns-clause-same g c =
    on_err_weaker c.quiet_step.result
    (λ same. same_at kinds.Disk WorldStep (λ (d : WorldState). both d c.world.inside.ports) (lift_disks c.world.inside.ports)
    c.world.inside.disks c.args.world.now c.world.view_is
    c.quiet_step.new.self c.args.journal.now.entries c.quiet_step.new.journal.entries same) c.quiet_step.ensures.same

pub returns-clause-many : goal.returns-clause-many
returns-clause-many g c = disks_same_numbers c.world.inside.disks c.world.inside.ports c.args.world.now c.world.view_is c.quiet_step.new.self c.quiet_step.ensures.many

pub returns-clause-agrees : goal.returns-clause-agrees
returns-clause-agrees g c =
    disks_counted c.world.inside.disks c.world.inside.ports c.args.world.now c.world.view_is c.quiet_step.new.self c.args.journal.now.entries c.quiet_step.new.journal.entries c.requires.agrees
    (quiet_grows c.quiet_step.result _ _ c.args.journal.now.entries c.quiet_step.new.journal.entries
    (λ calm made. (_, made.adds Nothing)) c.quiet_step.ensures.made c.quiet_step.ensures.same)
    c.quiet_step.ensures.agrees
