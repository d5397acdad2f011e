use Rattle.recorded_lanes.specs.world_parts.world_laws.World.{WorldState, WorldStep}
use Rattle.std.proofs.Common.{refl}
use Rattle.std.proofs.lemmas.Result.{on_err_weaker, on_ok_weaker}
use Rattle.recorded_lanes.specs.world_parts.domain_laws.Lines.{AnswersCall, Calls, DiskLane, Pokes}
use Rattle.ldc_queue.specs.declared.end.End.TheVariants.{A}
use Rattle.domain_script.specs.declared.fields.LaneKind.TheVariants as kinds
use Rattle.ldom_world.proofs.Lifted.{adds_grow, answer_fits, both, counted_at, disk_within, disks_counted, grows_by, lift_disks, nothing_begun, same_grows}
use Rattle.ldom_world.proofs.kinds.disks.poke_client.Goals as goal

pub poke-requires-clause-disk : goal.poke-requires-clause-disk
poke-requires-clause-disk g c = disk_within c.world.inside.disks c.world.inside.ports c.args.world.now c.world.view_is c.args.disk c.requires.disk

pub poke-requires-clause-agrees : goal.poke-requires-clause-agrees
poke-requires-clause-agrees g c = counted_at c.world.inside.disks c.world.inside.ports c.args.world.now c.world.view_is c.args.journal.now.entries c.requires.agrees

pub returns-clause-fits : goal.returns-clause-fits
returns-clause-fits g c =
    on_ok_weaker c.poke.result
    (λ made. answer_fits kinds.Disk WorldStep (λ (d : WorldState). both d c.world.inside.ports) (lift_disks c.world.inside.ports)
    c.world.inside.disks c.args.world.now c.world.view_is
    (Calls (DiskLane c.args.disk) (Pokes A c.args.at c.args.bytes.now)) c.args.disk (AnswersCall (Pokes A c.args.at c.args.bytes.now)) c.poke.new.self c.args.journal.now.entries c.poke.new.journal.entries
    (λ event answers. record { event = event; answers = answers; is = refl }) made) c.poke.ensures.made

pub returns-clause-so_far : goal.returns-clause-so_far
returns-clause-so_far g c =
    on_err_weaker c.poke.result
    (λ same. nothing_begun kinds.Disk WorldStep (λ (d : WorldState). both d c.world.inside.ports) (lift_disks c.world.inside.ports)
    c.world.inside.disks c.args.world.now c.world.view_is
    (Calls (DiskLane c.args.disk) (Pokes A c.args.at c.args.bytes.now)) c.args.disk (AnswersCall (Pokes A c.args.at c.args.bytes.now)) c.poke.new.self c.args.journal.now.entries c.poke.new.journal.entries refl same) c.poke.ensures.same

pub returns-clause-agrees : goal.returns-clause-agrees
returns-clause-agrees g c =
    disks_counted c.world.inside.disks c.world.inside.ports c.args.world.now c.world.view_is c.poke.new.self c.args.journal.now.entries c.poke.new.journal.entries
    c.requires.agrees
    (grows_by c.poke.result _ _ c.args.journal.now.entries c.poke.new.journal.entries
    (λ made. adds_grow _ c.args.journal.now.entries c.poke.new.journal.entries _ made.adds)
    (λ same. same_grows c.args.journal.now.entries c.poke.new.journal.entries same.1) c.poke.ensures.made
    c.poke.ensures.same)
    c.poke.ensures.agrees
