use Rattle.recorded_lanes.specs.world_parts.world_laws.World.{WorldState, WorldStep}
use Rattle.std.proofs.Common.{refl}
use Rattle.std.proofs.lemmas.Result.{on_err_weaker, on_ok_weaker}
use Rattle.recorded_lanes.specs.world_parts.domain_laws.Lines.{AnswersCall, Calls, DiskLane}
use Rattle.recorded_lanes.specs.Called.{call_of}
use Rattle.domain_script.specs.declared.fields.LaneKind.TheVariants as kinds
use Rattle.ldom_world.proofs.Lifted.{adds_grow, answer_fits, both, counted_at, disk_within, disks_counted, grows_by, lift_disks, nothing_begun, same_grows}
use Rattle.ldom_world.proofs.kinds.disks.answer.Goals as goal

pub answer_call-requires-clause-disk : goal.answer_call-requires-clause-disk
answer_call-requires-clause-disk g c = disk_within c.world.inside.disks c.world.inside.ports c.args.world.now c.world.view_is c.args.disk c.requires.disk

pub answer_call-requires-clause-agrees : goal.answer_call-requires-clause-agrees
answer_call-requires-clause-agrees g c = counted_at c.world.inside.disks c.world.inside.ports c.args.world.now c.world.view_is c.args.journal.now.entries c.requires.agrees

pub returns-clause-fits : goal.returns-clause-fits
returns-clause-fits g c =
    on_ok_weaker c.answer_call.result
    (λ made. answer_fits kinds.Disk WorldStep (λ (d : WorldState). both d c.world.inside.ports) (lift_disks c.world.inside.ports)
    c.world.inside.disks c.args.world.now c.world.view_is
    (Calls (DiskLane c.args.disk) (call_of c.args.call)) c.args.disk (AnswersCall (call_of c.args.call)) c.answer_call.new.self c.args.journal.now.entries c.answer_call.new.journal.entries
    (λ event answers. record { event = event; answers = answers; is = refl }) made) c.answer_call.ensures.made

pub returns-clause-so_far : goal.returns-clause-so_far
returns-clause-so_far g c =
    on_err_weaker c.answer_call.result
    (λ same. nothing_begun kinds.Disk WorldStep (λ (d : WorldState). both d c.world.inside.ports) (lift_disks c.world.inside.ports)
    c.world.inside.disks c.args.world.now c.world.view_is
    (Calls (DiskLane c.args.disk) (call_of c.args.call)) c.args.disk (AnswersCall (call_of c.args.call)) c.answer_call.new.self c.args.journal.now.entries c.answer_call.new.journal.entries refl same) c.answer_call.ensures.same

pub returns-clause-agrees : goal.returns-clause-agrees
returns-clause-agrees g c =
    disks_counted c.world.inside.disks c.world.inside.ports c.args.world.now c.world.view_is c.answer_call.new.self c.args.journal.now.entries c.answer_call.new.journal.entries
    c.requires.agrees
    (grows_by c.answer_call.result _ _ c.args.journal.now.entries c.answer_call.new.journal.entries
    (λ made. adds_grow _ c.args.journal.now.entries c.answer_call.new.journal.entries _ made.adds)
    (λ same. same_grows c.args.journal.now.entries c.answer_call.new.journal.entries same.1) c.answer_call.ensures.made
    c.answer_call.ensures.same)
    c.answer_call.ensures.agrees
