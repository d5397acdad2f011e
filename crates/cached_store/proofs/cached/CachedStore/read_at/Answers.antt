use Rattle.std.proofs.Common.{◌≡◌, ◌*◌, ◌/◌, ◌≤◌, ℕ, length, ap, sym, subst, ◌∙◌, arith}
use Rattle.vio_io.specs.Causes.{count_after, last_count, next_count}
use Rattle.vio_io.specs.Stores.{ReadsRange}
use Rattle.cached_store.specs.CachedState.{CachedState, calls_of}
use Rattle.cached_store.specs.Kept.{Agrees}
use Rattle.cached_store.proofs.Agreeing.{agrees_read, agrees_used, reads_kept}
use Rattle.vio_io.proofs.Counts.{one_before}
use Rattle.cached_store.proofs.Counting.{spared_more}
use Rattle.cached_store.proofs.cached.CachedStore.read_at.Goals as goal

pub invariant_of-self : goal.invariant_of-self
invariant_of-self g c =
    subst (Agrees (g.D.Store.content c.self.inside.inner)) (sym c.use_all.ensures.used)
    (agrees_used (g.D.Store.content c.self.inside.inner) (c.args.at / 512) (length c.args.buf.now / 512) c.self.inside.blocks.kept c.self.invariant)

pub returns-then-holds-clause-told : goal.returns-then-holds-clause-told
returns-then-holds-clause-told g c =
    let at = c.args.at in
    let buf = c.args.buf.now in
    let out = c.use_all.new.out in
    let same = c.use_all.auto.out in
    let place : at ≡ 512 * (at / 512) = omega (arith, c.requires.place) in
    let long : length out ≡ 512 * (length buf / 512) = omega (arith, c.requires.blocks, same) in
    subst (λ (s : CachedState _). ReadsRange (g.D.Store.content s.inner) at out) c.self.view_is
    (reads_kept (g.D.Store.content c.self.inside.inner) at (at / 512) (length buf / 512) c.self.inside.blocks.kept out c.self.invariant
    (sym c.holds.ensures ∙ c.if-holds.true) c.use_all.ensures.bytes place long)

pub returns-then-holds-clause-calls : goal.returns-then-holds-clause-calls
returns-then-holds-clause-calls g c =
    let spared = c.self.inside.spared in
    let calls = g.D.Store.calls c.self.inside.inner in
    let few : spared ≤ last_count = omega arith in
    let next : c.saturating_add-self-inside.result ≡ next_count spared = omega arith in
    ap (λ (n : ℕ). count_after n calls) next ∙ spared_more spared calls few ∙ ap (λ (s : CachedState _). next_count (calls_of g.D.Store.calls s)) c.self.view_is

pub returns-in_err-read_at-clause-calls : goal.returns-in_err-read_at-clause-calls
returns-in_err-read_at-clause-calls g c =
    ap (count_after c.self.inside.spared) c.read_at.ensures.calls
    ∙ one_before c.self.inside.spared (g.D.Store.calls c.self.inside.inner)
    ∙ ap (λ (s : CachedState _). next_count (calls_of g.D.Store.calls s)) c.self.view_is

pub invariant_of-self-2 : goal.invariant_of-self-2
invariant_of-self-2 g c =
    let at = c.args.at in
    let buf = c.read_at.new.buf in
    let same = c.read_at.auto.buf in
    let place : at ≡ 512 * (at / 512) = omega (arith, c.requires.place) in
    let long : length buf ≡ 512 * (length buf / 512) = omega (arith, c.requires.blocks, same) in
    subst (λ told. Agrees told c.put_all.new.self.kept) (sym c.read_at.ensures.content)
    (agrees_read (g.D.Store.content c.self.inside.inner) at (at / 512) (length buf / 512) buf c.self.inside.blocks.kept c.put_all.new.self.kept c.self.invariant
    c.in_ok-read_at.ensures.told place long c.put_all.ensures.keeps)

pub returns-clause-calls : goal.returns-clause-calls
returns-clause-calls g c =
    ap (count_after c.self.inside.spared) c.read_at.ensures.calls
    ∙ one_before c.self.inside.spared (g.D.Store.calls c.self.inside.inner)
    ∙ ap (λ (s : CachedState _). next_count (calls_of g.D.Store.calls s)) c.self.view_is
