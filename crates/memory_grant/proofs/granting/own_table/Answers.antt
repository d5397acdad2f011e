use Rattle.std.proofs.Common.{◌+◌, ◌<◌, ℕ, List, Option, Some, length, set, sym, subst, ap, ◌∙◌, arith}
use Rattle.cookie_copy.proofs.OwnPages.{own_grant}
use Rattle.cookie_copy.specs.Identity.{IsIdentity, own_entry}
use Rattle.map_table.specs.Table.{first_free}
use Rattle.map_table.specs.declared.table.Entry.{Entry}
use Rattle.memory_grant.proofs.Granted.{granted_next, long_front, next_free}
use Rattle.memory_grant.proofs.granting.own_table.Goals as goal

pub grant_own-requires : goal.grant_own-requires
grant_own-requires c = ap first_free c.loop-page.invariant.front ∙ next_free c.loop-page.page c.args.pages c.loop-page-test.true

pub loop-page-preserved : goal.loop-page-preserved
loop-page-preserved c =
    let page : ℕ = c.loop-page.page in
    let room : page < length c.loop-page.table =
    subst (λ (t : List (Option Entry)). page < length t) (sym c.loop-page.invariant.front) (long_front page c.args.pages c.loop-page-test.true) in
    record {
      front = c.grant_own.ensures
          ∙ ap (λ (t : List (Option Entry)). set t page (Some (own_entry page))) c.loop-page.invariant.front
          ∙ granted_next page c.args.pages c.loop-page-test.true;
      own = subst (λ (t : List (Option Entry)). IsIdentity t (page + 1)) (sym c.grant_own.ensures)
          (own_grant c.loop-page.table page c.loop-page.invariant.own (omega (arith, c.loop-page-test.true, c.requires.most)) room);
    }
