use Rattle.std.proofs.Common.{arith}
use Rattle.cookie_copy.proofs.OwnPages.{own_within}
use Rattle.part_bench.specs.Sizes.{memory_long}
use Rattle.part_bench.proofs.copies.run.Goals as goal

pub repeat-requires-clause-within : goal.repeat-requires-clause-within
repeat-requires-clause-within c = own_within c.in_ok-table.table 4 memory_long c.in_ok-table.ensures.own (omega arith)
