use Rattle.std.proofs.Common.{◌≡◌, ◌+◌, ◌*◌, ◌/◌, ◌≤◌, length, ap, sym, subst, ◌∙◌, arith}
use Rattle.vio_io.specs.Causes.{count_after, next_count}
use Rattle.cached_store.specs.CachedState.{CachedState, calls_of}
use Rattle.cached_store.proofs.Agreeing.{agrees_failed, agrees_written}
use Rattle.vio_io.proofs.Counts.{one_before}
use Rattle.cached_store.proofs.cached.CachedStore.write_at.Goals as goal

pub invariant_of-self : goal.invariant_of-self
invariant_of-self g c =
    let at = c.args.at in
    let bytes = c.args.bytes.now in
    let inner = c.self.inside.inner in
    let place : at ≡ 512 * (at / 512) = omega (arith, c.requires.place) in
    let long : length bytes ≡ 512 * (length bytes / 512) = omega (arith, c.requires.blocks) in
    agrees_written (g.D.Store.content inner) (g.D.Store.content c.write_at.new.self) at (at / 512) (length bytes / 512) (g.D.Store.size inner) bytes
    c.self.inside.blocks.kept c.put_all.new.self.kept c.self.invariant c.in-Ok.ensures.told c.write_at.ensures.untold (g.met.D.Store.told_size inner)
    (subst (λ (s : CachedState _). at + length bytes ≤ g.D.Store.size s.inner) (sym c.self.view_is) c.requires.within) place long c.put_all.ensures.keeps

pub invariant_of-self-in-Err : goal.invariant_of-self-in-Err
invariant_of-self-in-Err g c =
    let at = c.args.at in
    let bytes = c.args.bytes.now in
    let inner = c.self.inside.inner in
    let place : at ≡ 512 * (at / 512) = omega (arith, c.requires.place) in
    let long : length bytes ≡ 512 * (length bytes / 512) = omega (arith, c.requires.blocks) in
    agrees_failed (g.D.Store.content inner) (g.D.Store.content c.write_at.new.self) at (at / 512) (length bytes / 512) (length bytes)
    c.self.inside.blocks.kept c.forget_all.new.self.kept c.self.invariant c.write_at.ensures.outside c.write_at.ensures.untold place long c.forget_all.ensures.gone

pub returns-in-Ok-clause-calls : goal.returns-in-Ok-clause-calls
returns-in-Ok-clause-calls g c =
    ap (count_after c.self.inside.spared) c.write_at.ensures.calls
    ∙ one_before c.self.inside.spared (g.D.Store.calls c.self.inside.inner)
    ∙ ap (λ (s : CachedState _). next_count (calls_of g.D.Store.calls s)) c.self.view_is

pub returns-in-Err-clause-calls : goal.returns-in-Err-clause-calls
returns-in-Err-clause-calls g c =
    ap (count_after c.self.inside.spared) c.write_at.ensures.calls
    ∙ one_before c.self.inside.spared (g.D.Store.calls c.self.inside.inner)
    ∙ ap (λ (s : CachedState _). next_count (calls_of g.D.Store.calls s)) c.self.view_is
