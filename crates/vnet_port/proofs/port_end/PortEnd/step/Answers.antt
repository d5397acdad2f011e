use Rattle.vnet_port.proofs.port_end.PortEnd.step.Goals as goal

pub returns-then-ne-clause-step : goal.returns-then-ne-clause-step
returns-then-ne-clause-step c = c.rejoin.ensures.step c.args.memory.now c.args.table.now c.args.peer.now

pub returns-then-owes-clause-step : goal.returns-then-owes-clause-step
returns-then-owes-clause-step c = c.put_rest.ensures.step c.args.table.now c.args.peer.now

pub returns-then-owes-2-clause-step : goal.returns-then-owes-2-clause-step
returns-then-owes-2-clause-step c = c.say_next.ensures.step c.args.table.now c.args.peer.now

pub returns-then-owes_reply-clause-step : goal.returns-then-owes_reply-clause-step
returns-then-owes_reply-clause-step c = c.say_reply.ensures.step c.args.table.now c.args.peer.now

pub returns-then-waiting-gt0-clause-step : goal.returns-then-waiting-gt0-clause-step
returns-then-waiting-gt0-clause-step c = c.take.ensures.step c.args.table.now c.args.peer.now

pub returns-clause-step : goal.returns-clause-step
returns-clause-step c = c.offer_next.ensures.step c.args.table.now c.args.peer.now
