use Rattle.std.proofs.Common.{arith, refl}
use Rattle.domain_script.specs.declared.rows.RowKind.TheVariants as row
use Rattle.script_words.specs.Words.{words}
use Rattle.domain_script.proofs.RowLemmas.{no_row_at}
use Rattle.domain_script.proofs.port_rows.net_row.Goals as goal

pub returns-in_err-new_name-clause-none : goal.returns-in_err-new_name-clause-none
returns-in_err-new_name-clause-none c = rw c.from_residual-in_err-new_name.ensures
    (no_row_at 0 row.Net (words c.args.fields.now) _ c.args.names.now c.in_ok-word.ensures (omega arith)
    (λ name spelled. c.in_err-new_name.ensures.none name spelled.0 spelled.1))

pub returns-in_err-new_address-clause-none : goal.returns-in_err-new_address-clause-none
returns-in_err-new_address-clause-none c = rw c.from_residual-in_err-new_address.ensures
    (no_row_at 1 row.Net (words c.args.fields.now) _ c.args.names.now c.in_ok-word.ensures (omega arith)
    (λ address spelled. c.in_err-new_address.ensures.none address spelled.0 spelled.1 spelled.2))

pub returns-clause-some : goal.returns-clause-some
returns-clause-some c = record {
  values = (c.in_ok-new_name.field-0, (c.in_ok-new_address.field-0, (c.in_ok-number_within.field-0, (c.in_ok-number_within-2.field-0, tt))));
  spelled = rw c.in_ok-word.ensures (
    (c.in_ok-new_name.ensures.some, c.in_ok-new_name.ensures.can),
    (
      (c.in_ok-new_address.ensures.some, c.in_ok-new_address.ensures.own, c.in_ok-new_address.ensures.free),
      (
        (c.in_ok-number_within.ensures.some, c.in_ok-number_within.ensures.within),
        ((c.in_ok-number_within-2.ensures.some, c.in_ok-number_within-2.ensures.within), tt),
      ),
    ),
  );
  makes = refl;
}
