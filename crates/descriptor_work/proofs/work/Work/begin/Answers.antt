use Rattle.std.proofs.Common.{ℕ, List, ap, ◌∙◌}
use Rattle.vdisk_msg.specs.Descriptor.{disk_desc_of}
use Rattle.vdisk_msg.specs.declared.desc.DiskDesc.{DiskDesc}
use Rattle.lane_models.specs.ServerState.{Progress, Work}
use Rattle.lane_models.specs.ServerWork.{first_progress}
use Rattle.descriptor_work.proofs.work.Work.begin.Goals as goal

pub returns : goal.returns
returns c =
    λ (held : List ℕ). ap (λ (p : Progress). let work : Work = record { bytes = c.new-descriptor.result; progress = p } in work)
    (c.first_progress-progress.ensures held ∙ ap (λ (desc : DiskDesc). first_progress c.args.blocks desc) c.desc.ensures)
    ∙ ap (λ (bytes : List ℕ). let work : Work = record { bytes = bytes; progress = first_progress c.args.blocks (disk_desc_of bytes) } in work) c.new-descriptor.ensures
