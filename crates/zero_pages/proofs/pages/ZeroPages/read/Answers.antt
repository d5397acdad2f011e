use Rattle.std.proofs.Common.{ℕ, ◌+◌, ◌*◌, ◌≤◌, List, length, sym, subst, arith}
use Rattle.zero_pages.proofs.Zeros.{within_pages}
use Rattle.zero_pages.proofs.pages.ZeroPages.read.Goals as goal

pub read_bytes-requires-clause-within : goal.read_bytes-requires-clause-within
read_bytes-requires-clause-within c = subst (λ (l : List ℕ). c.args.at + length c.args.buf.now ≤ 4096 * length l) (sym c.deref.ensures.value)
    (within_pages c.self.inside.kept.items c.self.inside.places.items c.args.self.now (c.args.at + length c.args.buf.now) c.self.invariant.0 c.self.view_is c.requires)

pub read_bytes-requires-clause-end : goal.read_bytes-requires-clause-end
read_bytes-requires-clause-end c =
    let within : c.args.at + length c.args.buf.now ≤ 4096 * length c.self.inside.places.items =
    within_pages c.self.inside.kept.items c.self.inside.places.items c.args.self.now (c.args.at + length c.args.buf.now) c.self.invariant.0 c.self.view_is c.requires in
    omega (arith, within, c.self.invariant.1, c.self.inside.kept.small)
