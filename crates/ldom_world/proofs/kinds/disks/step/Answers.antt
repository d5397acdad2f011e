use Rattle.recorded_lanes.specs.world_parts.world_laws.World.{WorldState, WorldStep}
use Rattle.recorded_lanes.specs.ldom_report.LaneEvents.{end_of}
use Rattle.std.proofs.lemmas.Result.{on_err_weaker, on_ok_weaker}
use Rattle.recorded_lanes.specs.world_parts.domain_laws.Lines.{Nothing}
use Rattle.domain_script.specs.declared.fields.LaneKind.TheVariants as kinds
use Rattle.ldom_world.proofs.Lifted.{adds_grow, both, counted_at, disk_within, disks_counted, disks_same_numbers, grows_by, lift_disks, same_at, same_grows, step_at}
use Rattle.ldom_world.proofs.kinds.disks.step.Goals as goal

pub step-requires-clause-disk : goal.step-requires-clause-disk
step-requires-clause-disk g c = disk_within c.world.inside.disks c.world.inside.ports c.args.world.now c.world.view_is c.args.disk c.requires.disk

pub step-requires-clause-agrees : goal.step-requires-clause-agrees
step-requires-clause-agrees g c = counted_at c.world.inside.disks c.world.inside.ports c.args.world.now c.world.view_is c.args.journal.now.entries c.requires.agrees

pub returns-clause-made : goal.returns-clause-made
returns-clause-made g c =
    on_ok_weaker c.step.result
    (λ made. step_at kinds.Disk WorldStep (λ (d : WorldState). both d c.world.inside.ports) (lift_disks c.world.inside.ports)
    c.world.inside.disks c.args.world.now c.world.view_is
    (end_of c.args.side) c.args.disk c.step.new.self c.args.journal.now.entries c.step.new.journal.entries made) c.step.ensures.made

pub returns-clause-same : goal.returns-clause-same
returns-clause-same g c =
    on_err_weaker c.step.result
    (λ same. same_at kinds.Disk WorldStep (λ (d : WorldState). both d c.world.inside.ports) (lift_disks c.world.inside.ports)
    c.world.inside.disks c.args.world.now c.world.view_is
    c.step.new.self c.args.journal.now.entries c.step.new.journal.entries same) c.step.ensures.same

pub returns-clause-many : goal.returns-clause-many
returns-clause-many g c = disks_same_numbers c.world.inside.disks c.world.inside.ports c.args.world.now c.world.view_is c.step.new.self c.step.ensures.many

pub returns-clause-agrees : goal.returns-clause-agrees
returns-clause-agrees g c =
    disks_counted c.world.inside.disks c.world.inside.ports c.args.world.now c.world.view_is c.step.new.self c.args.journal.now.entries c.step.new.journal.entries
    c.requires.agrees
    (grows_by c.step.result _ _ c.args.journal.now.entries c.step.new.journal.entries
    (λ made. adds_grow _ c.args.journal.now.entries c.step.new.journal.entries _ (made.adds Nothing))
    (λ same. same_grows c.args.journal.now.entries c.step.new.journal.entries same.1) c.step.ensures.made
    c.step.ensures.same)
    c.step.ensures.agrees
