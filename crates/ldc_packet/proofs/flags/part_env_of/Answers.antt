use Rattle.std.proofs.Common.{arith}
use Rattle.ldc_packet.proofs.Payload.{env_whole}
use Rattle.ldc_packet.proofs.flags.part_env_of.Goals as goal

pub returns-clause-whole : goal.returns-clause-whole
returns-clause-whole c = env_whole c.args.env (omega arith)
