use Rattle.std.proofs.Common.{length}
use Rattle.ldom_entries.specs.Seen.{PassesUnseen}
use Rattle.ldom_entries.proofs.entries.Entries.pass_unseen.Given as goal

-- what was passed over so far
abbrev pub invariant-loop : goal.invariant-loop
invariant-loop l = PassesUnseen l.fn.self l.self

abbrev pub decreases-loop : goal.decreases-loop
decreases-loop l = length l.self
