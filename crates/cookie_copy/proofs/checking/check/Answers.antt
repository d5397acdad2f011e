use Rattle.std.proofs.Common.{ℕ, refl, sym, ◌∙◌}
use Rattle.map_table.specs.declared.cookie.Cookie.{Cookie}
use Rattle.cookie_copy.specs.Faults.{has_page, is_aligned_cookie, is_allowed, is_found, is_mapped, may_move}
use Rattle.cookie_copy.specs.Moved.{moved_spots}
use Rattle.cookie_copy.proofs.Addresses.{aligned_end, aligned_on, all_paged, asked_all, asked_on, left_end, left_on}
use Rattle.cookie_copy.proofs.checking.check.Goals as goal

pub loop-cookie-preserved : goal.loop-cookie-preserved
loop-cookie-preserved c =
    let i = c.loop-cookie.cookie-index in
    let d : Cookie = record { address = 0; size = 0 } in
    let old = c.loop-cookie.checked in
    let new = c.with-checked.result in
    let cookies = c.args.cookies.now in
    let below = c.loop-cookie-test.true in
    record {
      aligned = aligned_on is_aligned_cookie cookies i d old.aligned new.aligned _ below c.with-checked.ensures.aligned c.loop-cookie.invariant.aligned;
      left = left_on cookies i d old.left new.left _ below c.with-checked.ensures.left c.loop-cookie.invariant.left;
      paged = asked_on has_page cookies i d old.left new.left old.asked.paged new.asked.paged _ _ below c.with-checked.ensures.left c.with-checked.ensures.paged refl c.loop-cookie.invariant.paged;
      mapped = asked_on (is_found c.args.table.now) cookies i d old.left new.left old.asked.mapped new.asked.mapped _ _ below c.with-checked.ensures.left c.with-checked.ensures.mapped refl c.loop-cookie.invariant.mapped;
      allowed = asked_on (may_move c.args.access c.args.table.now) cookies i d old.left new.left old.asked.allowed new.asked.allowed _ _ below c.with-checked.ensures.left c.with-checked.ensures.allowed refl c.loop-cookie.invariant.allowed;
    }

pub returns-clause-aligned : goal.returns-clause-aligned
returns-clause-aligned c = aligned_end is_aligned_cookie c.args.cookies.now c.loop-cookie.cookie-index _ _ c.loop-cookie-test.false c.loop-cookie.invariant.aligned

pub returns-clause-left : goal.returns-clause-left
returns-clause-left c = left_end c.args.cookies.now c.loop-cookie.cookie-index _ _ c.loop-cookie-test.false c.loop-cookie.invariant.left

pub returns-clause-paged : goal.returns-clause-paged
returns-clause-paged c =
    asked_all has_page c.args.cookies.now c.loop-cookie.cookie-index c.loop-cookie.checked.left.skip c.loop-cookie.checked.left.len _ _ c.loop-cookie-test.false c.loop-cookie.invariant.paged

pub returns-clause-mapped : goal.returns-clause-mapped
returns-clause-mapped c paged =
    let w = c.loop-cookie.checked.left in
    asked_all (is_found c.args.table.now) c.args.cookies.now c.loop-cookie.cookie-index w.skip w.len _ _ c.loop-cookie-test.false c.loop-cookie.invariant.mapped
    ∙ all_paged (is_found c.args.table.now) (is_mapped c.args.table.now) (λ (a : ℕ). refl)
    (moved_spots c.args.cookies.now c.args.window.skip c.args.window.len) (sym (returns-clause-paged c) ∙ paged)

pub returns-clause-allowed : goal.returns-clause-allowed
returns-clause-allowed c paged =
    let w = c.loop-cookie.checked.left in
    asked_all (may_move c.args.access c.args.table.now) c.args.cookies.now c.loop-cookie.cookie-index w.skip w.len _ _ c.loop-cookie-test.false c.loop-cookie.invariant.allowed
    ∙ all_paged (may_move c.args.access c.args.table.now) (is_allowed c.args.access c.args.table.now) (λ (a : ℕ). refl)
    (moved_spots c.args.cookies.now c.args.window.skip c.args.window.len) (sym (returns-clause-paged c) ∙ paged)
