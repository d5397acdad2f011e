use Rattle.std.proofs.Common.{None, subst, sym, set, ℕ}
use Rattle.map_table.specs.Table.{KeepsTaken}
use Rattle.map_table.proofs.Taken.{keeps_freed}
use Rattle.map_table.proofs.table.MapTable.revoke.Goals as goal

pub invariant_of-self : goal.invariant_of-self
invariant_of-self c =
    subst (λ (n : ℕ). KeepsTaken (set c.self.inside.entries.items c.args.index None) n) (sym c.min-self-inside.ensures)
    (keeps_freed c.self.inside.entries.items c.self.inside.taken c.args.index c.self.invariant)
