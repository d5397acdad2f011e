use Rattle.std.proofs.Common.{arith, refl}
use Rattle.domain_script.specs.declared.rows.RowKind.TheVariants as row
use Rattle.script_words.specs.Words.{words}
use Rattle.domain_script.proofs.RowLemmas.{no_row_at}
use Rattle.domain_script.proofs.disk_rows.read_row.Goals as goal

pub returns-in_err-disk-clause-none : goal.returns-in_err-disk-clause-none
returns-in_err-disk-clause-none c = rw c.from_residual-in_err-disk.ensures
    (no_row_at 0 row.Read (words c.args.fields.now) _ c.args.names.now c.in_ok-word.ensures (omega arith) c.in_err-disk.ensures.none)

pub returns-clause-some : goal.returns-clause-some
returns-clause-some c = record {
  values = (c.in_ok-disk.disk, (c.in_ok-number.field-0, (c.in_ok-number-2.field-0, tt)));
  spelled = rw c.in_ok-word.ensures (c.in_ok-disk.ensures.some, ((c.in_ok-number.ensures.some, tt), ((c.in_ok-number-2.ensures.some, tt), tt)));
  makes = refl;
}
