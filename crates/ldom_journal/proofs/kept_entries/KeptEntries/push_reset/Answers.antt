use Rattle.std.proofs.Common.{◌≡◌, is_some, sym, ap, ◌∙◌, arith}
use Rattle.std.specs.Option.{option_copied}
use Rattle.ldom_journal.proofs.Decoding.{entries_more, kept_more, reset_entry, reset_share}
use Rattle.ldom_journal.proofs.kept_entries.KeptEntries.push_reset.Goals as goal

pub invariant_of-self : goal.invariant_of-self
invariant_of-self c =
    let is : c.is_some.result ≡ is_some (option_copied c.as_ref.result) = c.is_some.ensures ∙ ap is_some (sym c.as_ref.ensures.value) in
    kept_more _ _ _ _ _ _ _ _ _ c.self.invariant c.put_cause.ensures c.push_reserved.ensures.items
    (reset_share c.mark_of.result c.args.end.lane.number c.from.result c.args.cause _ _ is) c.push_reserved.ensures.capacity

pub returns : goal.returns
returns c =
    let is : c.is_some.result ≡ is_some (option_copied c.as_ref.result) = c.is_some.ensures ∙ ap is_some (sym c.as_ref.ensures.value) in
    grind (
      arith,
      entries_more _ _ _ _ _ _ c.self.invariant.complete c.push_reserved.ensures.items c.put_cause.ensures (reset_share c.mark_of.result c.args.end.lane.number c.from.result c.args.cause _ _ is),
      reset_entry c.mark_of.result c.args.end.lane.number c.from.result c.args.cause c.is_some.result (option_copied c.as_ref.result) is,
    )
