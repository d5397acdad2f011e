use Rattle.std.proofs.Common.{drop, refl, replicate, arith}
use Rattle.ldc_packet.proofs.Payload.{zeros_behind}
use Rattle.ldc_packet.proofs.decoding.part_bytes.Goals as goal

pub returns-clause-zeros : goal.returns-clause-zeros
returns-clause-zeros c =
    zeros_behind c.args.len c.copy_from_slice.new.self (drop c.args.len (replicate 56 0)) (search arith) refl
