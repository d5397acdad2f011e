use Rattle.std.proofs.Common.{true, Option, ap, sym}
use Rattle.std.specs.Prelude.{is_none}
use Rattle.vio_tag.specs.declared.message.Message.{Message}
use Rattle.vnet_port.specs.Putting.{put_of}
use Rattle.vnet_port.proofs.SaidSteps.{owed_steps}
use Rattle.vnet_port.proofs.port_end.PortEnd.say_owed.Goals as goal

pub say-requires-clause-whose : goal.say-requires-clause-whose
say-requires-clause-whose c = ap (λ (o : Option Message). put_of true (is_none o)) (sym c.requires.owed)

pub returns-clause-step : goal.returns-clause-step
returns-clause-step c =
    owed_steps c.args.self.now c.say.new.self c.args.message.now c.args.channel.now c.say.new.channel c.args.memory.now c.say.new.memory c.say.new.out
    c.requires.rule c.say.ensures.put
