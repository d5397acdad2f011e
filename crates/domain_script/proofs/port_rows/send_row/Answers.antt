use Rattle.std.proofs.Common.{◌≡◌, arith}
use Rattle.std.proofs.lemmas.Grind.{common_steps}
use Rattle.domain_script.specs.declared.rows.RowKind.TheVariants as row
use Rattle.script_words.specs.Words.{words}
use Rattle.domain_script.proofs.RowLemmas.{if_sent, no_row_at}
use Rattle.domain_script.proofs.port_rows.send_row.Goals as goal

pub returns-in_err-declared_number-clause-none : goal.returns-in_err-declared_number-clause-none
returns-in_err-declared_number-clause-none c = rw c.from_residual-in_err-declared_number.ensures
    (no_row_at 0 row.Send (words c.args.fields.now) _ c.args.names.now c.in_ok-word.ensures (omega arith) c.in_err-declared_number.ensures.none)

pub returns-clause-some : goal.returns-clause-some
returns-clause-some c =
    let port : c.in-Send.port ≡ c.in_ok-declared_number.field-0 = grind (arith, common_steps) in
    rw port
    (if_sent c.put_piece.result (words c.args.fields.now) c.args.names.now _ _ c.in_ok-declared_number.field-0 c.put_piece.new.piece
    c.in_ok-word.ensures c.in_ok-declared_number.ensures.some c.put_piece.ensures.some)
