use Rattle.std.proofs.Common.{◌+◌, ℕ, refl, sym, ◌∙◌, arith}
use Rattle.std.specs.List.{range_with_len}
use Rattle.cookie_copy.specs.Faults.{is_allowed, is_found, is_mapped, may_move}
use Rattle.cookie_copy.proofs.Addresses.{asked_one, found_by_page, movable_by_page, part_paged, unpaged}
use Rattle.cookie_copy.proofs.asking.ask_part.Goals as goal

pub returns-then-not-ends_in_time-clause-paged : goal.returns-then-not-ends_in_time-clause-paged
returns-then-not-ends_in_time-clause-paged c =
    c.if-not-ends_in_time.ensures ∙ part_paged c.args.cookie.now.address c.args.skip c.args.part c.requires.some

pub returns-then-not-ends_in_time-clause-mapped : goal.returns-then-not-ends_in_time-clause-mapped
returns-then-not-ends_in_time-clause-mapped c =
    sym (unpaged (is_found c.args.table.now) (is_mapped c.args.table.now) (λ (a : ℕ). refl)
    (range_with_len (c.args.cookie.now.address + c.args.skip) c.args.part) (sym (returns-then-not-ends_in_time-clause-paged c)))

pub returns-then-not-ends_in_time-clause-allowed : goal.returns-then-not-ends_in_time-clause-allowed
returns-then-not-ends_in_time-clause-allowed c =
    sym (unpaged (may_move c.args.access c.args.table.now) (is_allowed c.args.access c.args.table.now) (λ (a : ℕ). refl)
    (range_with_len (c.args.cookie.now.address + c.args.skip) c.args.part) (sym (returns-then-not-ends_in_time-clause-paged c)))

pub returns-clause-paged : goal.returns-clause-paged
returns-clause-paged c =
    c.ask_pages.ensures.paged ∙ c.if-not-ends_in_time.ensures ∙ part_paged c.args.cookie.now.address c.args.skip c.args.part c.requires.some

pub returns-then-part-page_rest-clause-paged : goal.returns-then-part-page_rest-clause-paged
returns-then-part-page_rest-clause-paged c =
    c.ask_page.ensures.paged ∙ c.if-not-ends_in_time.ensures ∙ part_paged c.args.cookie.now.address c.args.skip c.args.part c.requires.some

pub returns-then-part-page_rest-clause-mapped : goal.returns-then-part-page_rest-clause-mapped
returns-then-part-page_rest-clause-mapped c =
    c.ask_page.ensures.mapped
    ∙ asked_one (is_found c.args.table.now) (found_by_page c.args.table.now) (c.args.cookie.now.address + c.args.skip) c.args.part c.requires.some
    (omega (arith, c.if-part-page_rest.true, c.page_rest.ensures))

pub returns-then-part-page_rest-clause-allowed : goal.returns-then-part-page_rest-clause-allowed
returns-then-part-page_rest-clause-allowed c =
    c.ask_page.ensures.allowed
    ∙ asked_one (may_move c.args.access c.args.table.now) (movable_by_page c.args.access c.args.table.now) (c.args.cookie.now.address + c.args.skip) c.args.part c.requires.some
    (omega (arith, c.if-part-page_rest.true, c.page_rest.ensures))
