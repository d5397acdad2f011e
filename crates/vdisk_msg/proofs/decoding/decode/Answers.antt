use Rattle.std.proofs.Common.{ap, ◌∙◌}
use Rattle.vdisk_msg.specs.Descriptor.{disk_desc_with}
use Rattle.vdisk_msg.proofs.decoding.decode.Goals as goal

pub returns : goal.returns
returns c = c.desc_with.ensures ∙ ap (disk_desc_with c.args.bytes.now) c.get_cookies.ensures
