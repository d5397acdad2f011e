use Rattle.std.proofs.Common.{rules, ◌≡◌, Some, length, ap, arith}
use Rattle.map_table.specs.Table.{first_free}
use Rattle.map_table.proofs.Taken.{keeps_granted, taken_within}
use Rattle.map_table.proofs.table.MapTable.grant.Goals as goal

pub first_free_behind-requires-clause-within : goal.first_free_behind-requires-clause-within
first_free_behind-requires-clause-within c =
    let within = taken_within c.self.inside.entries.items in omega (arith, within, c.self.invariant.taken, c.deref.ensures.len, ap length c.deref.ensures.value)

pub invariant_of-self : goal.invariant_of-self
invariant_of-self c =
    let first : Some c.in_ok-index.index ≡ first_free c.self.inside.entries.items = search rules in
    keeps_granted c.self.inside.entries.items c.self.inside.taken c.in_ok-index.index (record { page = c.args.page; rights = c.args.rights }) c.self.invariant first
