use Rattle.recorded_lanes.specs.world_parts.world_laws.World.{WorldState, WorldStep}
use Rattle.std.proofs.Common.{refl}
use Rattle.std.proofs.lemmas.Result.{on_err_weaker, on_ok_weaker}
use Rattle.recorded_lanes.specs.world_parts.domain_laws.Lines.{AnswersRequest, Asked}
use Rattle.domain_script.specs.declared.fields.LaneKind.TheVariants as kinds
use Rattle.ldom_world.proofs.Lifted.{adds_grow, answer_fits, both, counted_at, disk_within, disks_counted, grows_by, lift_disks, nothing_begun, same_grows}
use Rattle.ldom_world.proofs.world.World.issue.Goals as goal

pub issue-requires-clause-disk : goal.issue-requires-clause-disk
issue-requires-clause-disk g c = disk_within c.self.inside.disks c.self.inside.ports c.args.self.now c.self.view_is c.args.disk c.requires.disk

pub issue-requires-clause-agrees : goal.issue-requires-clause-agrees
issue-requires-clause-agrees g c = counted_at c.self.inside.disks c.self.inside.ports c.args.self.now c.self.view_is c.args.journal.now.entries c.requires.agrees

pub returns-clause-fits : goal.returns-clause-fits
returns-clause-fits g c =
    on_ok_weaker c.issue.result
    (λ made. answer_fits kinds.Disk WorldStep (λ (d : WorldState). both d c.self.inside.ports) (lift_disks c.self.inside.ports)
    c.self.inside.disks c.args.self.now c.self.view_is
    (Asked c.args.disk c.args.request.now) c.args.disk (AnswersRequest c.args.request.now) c.issue.new.self c.args.journal.now.entries c.issue.new.journal.entries
    (λ event answers. record { event = event; answers = answers; is = refl }) made) c.issue.ensures.made

pub returns-clause-so_far : goal.returns-clause-so_far
returns-clause-so_far g c =
    on_err_weaker c.issue.result
    (λ same. nothing_begun kinds.Disk WorldStep (λ (d : WorldState). both d c.self.inside.ports) (lift_disks c.self.inside.ports)
    c.self.inside.disks c.args.self.now c.self.view_is
    (Asked c.args.disk c.args.request.now) c.args.disk (AnswersRequest c.args.request.now) c.issue.new.self c.args.journal.now.entries c.issue.new.journal.entries refl same) c.issue.ensures.same

pub returns-clause-agrees : goal.returns-clause-agrees
returns-clause-agrees g c =
    disks_counted c.self.inside.disks c.self.inside.ports c.args.self.now c.self.view_is c.issue.new.self c.args.journal.now.entries c.issue.new.journal.entries
    c.requires.agrees
    (grows_by c.issue.result _ _ c.args.journal.now.entries c.issue.new.journal.entries
    (λ made. adds_grow _ c.args.journal.now.entries c.issue.new.journal.entries _ made.adds)
    (λ same. same_grows c.args.journal.now.entries c.issue.new.journal.entries same.1) c.issue.ensures.made
    c.issue.ensures.same)
    c.issue.ensures.agrees
