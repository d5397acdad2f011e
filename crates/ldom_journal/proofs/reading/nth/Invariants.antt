use Rattle.std.proofs.Common.{◌≡◌, drop}
use Rattle.ldom_journal.proofs.reading.nth.Given as goal

-- as many were read as there were turns
abbrev pub invariant-loop : goal.invariant-loop
invariant-loop l = l.rest ≡ drop l.counter l.fn.entries
