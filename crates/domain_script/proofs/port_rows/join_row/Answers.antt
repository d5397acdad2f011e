use Rattle.std.proofs.Common.{arith, refl}
use Rattle.domain_script.specs.declared.rows.RowKind.TheVariants as row
use Rattle.script_words.specs.Words.{words}
use Rattle.domain_script.proofs.RowLemmas.{no_row_at}
use Rattle.domain_script.proofs.port_rows.join_row.Goals as goal

pub returns-in_err-port-clause-none : goal.returns-in_err-port-clause-none
returns-in_err-port-clause-none c = rw c.from_residual-in_err-port.ensures
    (no_row_at 0 row.Join (words c.args.fields.now) _ c.args.names.now c.in_ok-word.ensures (omega arith) c.in_err-port.ensures.none)

pub returns-in_err-address-clause-none : goal.returns-in_err-address-clause-none
returns-in_err-address-clause-none c = rw c.from_residual-in_err-address.ensures
    (no_row_at 1 row.Join (words c.args.fields.now) _ c.args.names.now c.in_ok-word.ensures (omega arith)
    (λ address spelled. c.in_err-address.ensures.none address spelled.0 spelled.1))

pub returns-clause-some : goal.returns-clause-some
returns-clause-some c = record {
  values = (c.in_ok-port.port, (c.in_ok-address.address, tt));
  spelled = rw c.in_ok-word.ensures (c.in_ok-port.ensures.some, ((c.in_ok-address.ensures.some, c.in_ok-address.ensures.group), tt));
  makes = refl;
}
