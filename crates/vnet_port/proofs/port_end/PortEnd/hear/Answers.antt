use Rattle.std.proofs.Common.{refl, ap, sym, ◌∙◌}
use Rattle.std.specs.Option.{option_copied}
use Rattle.vnet_port.proofs.HeardWhole.{heard_whole, may_of}
use Rattle.vnet_port.specs.Calls.{role_of}
use Rattle.vnet_port.specs.contracts.port_end.PortEnd.{the_view}
use Rattle.vnet_port.specs.Hearing.{take_of}
use Rattle.vnet_port.proofs.port_end.PortEnd.hear.Goals as goal

pub hear_decoded-requires-clause-may : goal.hear_decoded-requires-clause-may
hear_decoded-requires-clause-may c =
    may_of (role_of c.args.self.now) c.args.was_up c.args.self.now (the_view c.self.inside) c.in-Some.bytes.now c.clear_message.new.self
    (c.self.view_is ∙ c.rise.ensures)
    (sym c.message.ensures ∙ ap option_copied c.in-Some.is)
    c.requires.may

pub returns-clause-heard : goal.returns-clause-heard
returns-clause-heard c =
    heard_whole (role_of c.args.self.now) c.args.was_up c.args.self.now (the_view c.self.inside) c.in-Some.bytes.now c.clear_message.new.self
    (c.self.view_is ∙ c.rise.ensures)
    (sym c.message.ensures ∙ ap option_copied c.in-Some.is)
    c.decode-decoded.result c.args.memory.now (take_of c.hear_decoded.result c.hear_decoded.new.self c.hear_decoded.new.memory)
    refl c.decode-decoded.ensures.decodes c.clear_message.ensures c.hear_decoded.ensures.heard
