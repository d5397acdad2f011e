use Rattle.std.proofs.Common.{◌≡◌}
use Rattle.cookie_copy.specs.Identity.{IsIdentity}
use Rattle.memory_grant.specs.Granting.{granted_front}
use Rattle.memory_grant.proofs.granting.own_table.Given as goal

abbrev pub invariant-loop-page : goal.invariant-loop-page
invariant-loop-page l = record {
  front : l.table ≡ granted_front l.page l.fn.pages;
  own : IsIdentity l.table l.page;
}
