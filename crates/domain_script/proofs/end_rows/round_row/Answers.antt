use Rattle.std.proofs.Common.{refl}
use Rattle.domain_script.proofs.end_rows.round_row.Goals as goal

pub returns-clause-some : goal.returns-clause-some
returns-clause-some c = record {
  values = (c.in_ok-count.field-0, tt);
  spelled = rw c.in_ok-one_word.ensures ((c.in_ok-count.ensures.some, c.in_ok-count.ensures.within), tt);
  makes = refl;
}
