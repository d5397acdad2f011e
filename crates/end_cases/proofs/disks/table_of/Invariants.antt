use Rattle.std.proofs.Common.{◌*◌}
use Rattle.cookie_copy.specs.Faults.{PagesWithin}
use Rattle.end_cases.proofs.disks.table_of.Given as goal

abbrev pub invariant-loop-page : goal.invariant-loop-page
invariant-loop-page l = PagesWithin l.table (8192 * l.fn.pages)
