use Rattle.std.proofs.Common.{ap, ◌∙◌}
use Rattle.vnet_msg.specs.Descriptor.{net_desc_with}
use Rattle.vnet_msg.proofs.decoding.decode.Goals as goal

pub returns : goal.returns
returns c = c.desc_with.ensures ∙ ap (net_desc_with c.args.bytes.now) c.get_cookies.ensures
