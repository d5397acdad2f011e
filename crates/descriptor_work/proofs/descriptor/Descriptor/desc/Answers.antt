use Rattle.std.proofs.Common.{◌≡◌, ℕ, List, subst}
use Rattle.vdisk_msg.specs.Descriptor.{disk_desc_of}
use Rattle.descriptor_work.proofs.descriptor.Descriptor.desc.Goals as goal

pub returns : goal.returns
returns c = subst (λ (bytes : List ℕ). c.self.inside.desc ≡ disk_desc_of bytes) c.self.view_is c.self.invariant
