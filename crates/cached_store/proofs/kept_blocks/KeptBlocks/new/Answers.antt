use Rattle.std.proofs.Common.{rules, ◌≡◌, ◌*◌, ℕ, suc, arith, length, sym, subst}
use Rattle.lru.specs.LruCache.{LruCache}
use Rattle.cached_store.specs.Slots.{IsRoom}
use Rattle.cached_store.proofs.Slots.{room_first}
use Rattle.cached_store.proofs.kept_blocks.KeptBlocks.new.Goals as goal

pub invariant_of-result : goal.invariant_of-result
invariant_of-result c =
    let most = c.args.most in
    let many = c.in_ok-vec.ensures.len in
    let long : length c.in_ok-vec.field-0.items ≡ 512 * suc most = omega (arith, many) in
    let room = room_first most c.in_ok-numbers_below.field-0.items c.in_ok-vec.field-0.items c.in_ok-numbers_below.ensures.slots c.in_ok-numbers_below.ensures.many long in
    (subst (λ (t : LruCache ℕ ℕ). IsRoom most most t.entries c.in_ok-numbers_below.field-0.items c.in_ok-vec.field-0.items) (sym c.in_ok-new.ensures) room, search rules)
