use Rattle.vdisk_client.proofs.end.ClientEnd.step.Goals as goal

pub returns-then-waiting-gt0-clause-step : goal.returns-then-waiting-gt0-clause-step
returns-then-waiting-gt0-clause-step c = c.take.ensures.step c.args.memory.now
