use Rattle.std.proofs.Common.{◌&&◌, Bool, ap, ◌∙◌, arith}
use Rattle.cookie_copy.specs.Faults.{is_found, may_move}
use Rattle.cookie_copy.proofs.Addresses.{asked_page_on, found_by_page, movable_by_page}
use Rattle.cookie_copy.proofs.asking.ask_pages.Goals as goal

pub loop-done-preserved : goal.loop-done-preserved
loop-done-preserved c = record {
  within = omega arith;
  paged = c.and-asked.ensures.paged ∙ ap (λ (b : Bool). b && c.ask_page.result.paged) c.loop-done.invariant.paged ∙ c.ask_page.ensures.paged;
  mapped = asked_page_on (is_found c.args.table.now) (found_by_page c.args.table.now) c.args.address c.loop-done.done c.args.len c.min-done.result c.page_rest.result
      c.loop-done.asked.mapped c.and-asked.result.mapped c.ask_page.result.mapped _ c.loop-done-test.true c.page_rest.ensures c.min-done.ensures c.and-asked.ensures.mapped c.ask_page.ensures.mapped c.loop-done.invariant.mapped;
  allowed = asked_page_on (may_move c.args.access c.args.table.now) (movable_by_page c.args.access c.args.table.now) c.args.address c.loop-done.done c.args.len c.min-done.result c.page_rest.result
      c.loop-done.asked.allowed c.and-asked.result.allowed c.ask_page.result.allowed _ c.loop-done-test.true c.page_rest.ensures c.min-done.ensures c.and-asked.ensures.allowed c.ask_page.ensures.allowed c.loop-done.invariant.allowed;
}
