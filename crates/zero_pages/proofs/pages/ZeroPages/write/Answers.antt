use Rattle.std.proofs.Common.{ℕ, ◌+◌, ◌*◌, ◌≤◌, List, length, sym, subst, arith}
use Rattle.zero_pages.proofs.Zeros.{within_pages}
use Rattle.zero_pages.proofs.pages.ZeroPages.write.Goals as goal

pub write_bytes-requires-clause-within : goal.write_bytes-requires-clause-within
write_bytes-requires-clause-within c = subst (λ (l : List ℕ). c.args.at + length c.args.bytes.now ≤ 4096 * length l) (sym c.deref_mut.ensures.value)
    (within_pages c.self.inside.kept.items c.self.inside.places.items c.args.self.now (c.args.at + length c.args.bytes.now) c.self.invariant.0 c.self.view_is c.requires)

pub write_bytes-requires-clause-end : goal.write_bytes-requires-clause-end
write_bytes-requires-clause-end c =
    let within : c.args.at + length c.args.bytes.now ≤ 4096 * length c.self.inside.places.items =
    within_pages c.self.inside.kept.items c.self.inside.places.items c.args.self.now (c.args.at + length c.args.bytes.now) c.self.invariant.0 c.self.view_is c.requires in
    omega (arith, within, c.self.invariant.1, c.self.inside.kept.small)
