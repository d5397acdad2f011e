use Rattle.std.proofs.Common.{arith}
use Rattle.ldom_journal.proofs.Decoding.{kept_more}
use Rattle.ldom_journal.proofs.kept_entries.KeptEntries.push_frame.Goals as goal

pub invariant_of-self : goal.invariant_of-self
invariant_of-self c = search (arith, kept_more)
