use Rattle.std.proofs.Common.{refl, arith}
use Rattle.ldom_journal.proofs.Decoding.{entries_more, kept_more}
use Rattle.ldom_journal.proofs.kept_entries.KeptEntries.push_accepted.Goals as goal

pub invariant_of-self : goal.invariant_of-self
invariant_of-self c = search (arith, kept_more)

pub returns : goal.returns
returns c = grind (arith, entries_more _ _ _ _ _ _ c.self.invariant.complete c.push_reserved.ensures.items c.put_request.ensures refl)
