use Rattle.std.proofs.Common.{◌≡◌, arith}
use Rattle.std.proofs.lemmas.Grind.{common_steps}
use Rattle.domain_script.specs.declared.rows.RowKind.TheVariants as row
use Rattle.script_words.specs.Words.{words}
use Rattle.domain_script.proofs.RowLemmas.{if_filled, if_unfilled, no_row_at}
use Rattle.domain_script.proofs.disk_rows.write_row.Goals as goal

pub returns-in_err-disk-clause-none : goal.returns-in_err-disk-clause-none
returns-in_err-disk-clause-none c = rw c.from_residual-in_err-disk.ensures
    (no_row_at 0 row.Write (words c.args.fields.now) _ c.args.names.now c.in_ok-word.ensures (omega arith) c.in_err-disk.ensures.none)

pub returns-clause-some : goal.returns-clause-some
returns-clause-some c =
    let disk : c.in-Issue-default-Write.disk ≡ c.in_ok-disk.disk = grind (arith, common_steps) in
    let block : c.in-Issue-default-Write.request-0 ≡ c.in_ok-number.field-0 = grind (arith, common_steps) in
    let count : c.in-Issue-default-Write.request-1 ≡ c.in_ok-number-2.field-0 = grind (arith, common_steps) in
    rw (disk, block, count)
    (if_filled c.put_fill.result (words c.args.fields.now) c.args.names.now _ _ _ _ c.in_ok-disk.disk c.in_ok-number.field-0 c.in_ok-number-2.field-0 c.put_fill.new.fill
    c.in_ok-word.ensures c.in_ok-disk.ensures.some c.in_ok-number.ensures.some c.in_ok-number-2.ensures.some c.put_fill.ensures.some)

pub returns-clause-none : goal.returns-clause-none
returns-clause-none c = if_unfilled c.put_fill.result (words c.args.fields.now) c.args.names.now _ _ _ _ c.in_ok-word.ensures c.put_fill.ensures.none
