use Rattle.std.proofs.Common.{ℕ, List, take, ap}
use Rattle.vdisk_msg.specs.declared.desc.DiskDesc.{DiskDesc}
use Rattle.descriptor_work.proofs.work.Work.cookies.Goals as goal

pub returns : goal.returns
returns c = λ (bytes : List ℕ). ap (λ (desc : DiskDesc). take desc.count desc.cookies) c.desc-desc.ensures
