use Rattle.std.proofs.Common.{◌≤◌, ap, subst, sym}
use Rattle.vdisk_msg.specs.Check.{most_bytes}
use Rattle.vdisk_msg.specs.declared.desc.DiskDesc.{DiskDesc}
use Rattle.descriptor_work.proofs.PieceSteps.{next_test, unit_next}
use Rattle.descriptor_work.proofs.work.Work.has_next.Goals as goal

pub returns-clause-next : goal.returns-clause-next
returns-clause-next c = next_test c.args.unit c.desc.result.now.size _ (ap (λ (desc : DiskDesc). desc.size) c.desc.ensures)

pub returns-clause-below : goal.returns-clause-below
returns-clause-below c =
    λ more. unit_next c.args.unit c.desc.result.now.size (subst (λ (desc : DiskDesc). desc.size ≤ most_bytes) (sym c.desc.ensures) c.requires) more
