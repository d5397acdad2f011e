use Rattle.std.proofs.Common.{◌≡◌, arith}
use Rattle.std.proofs.lemmas.Grind.{common_steps}
use Rattle.domain_script.specs.declared.rows.RowKind.TheVariants as row
use Rattle.script_words.specs.Words.{words}
use Rattle.domain_script.proofs.RowLemmas.{if_injected, no_row_at}
use Rattle.domain_script.proofs.forging_rows.inject_row.Goals as goal

pub returns-in_err-lane-clause-none : goal.returns-in_err-lane-clause-none
returns-in_err-lane-clause-none c = rw c.from_residual-in_err-lane.ensures
    (no_row_at 0 row.Inject (words c.args.fields.now) _ c.args.names.now c.in_ok-word.ensures (omega arith)
    (λ end spelled. c.in_err-lane.ensures.none end spelled.0 spelled.1))

pub returns-clause-some : goal.returns-clause-some
returns-clause-some c =
    let end : c.in-Inject.end ≡ c.in_ok-lane.field-0 = grind (arith, common_steps) in
    rw end
    (if_injected c.put_packet.result (words c.args.fields.now) c.args.names.now _ _ c.in_ok-lane.field-0 c.put_packet.new.packet
    c.in_ok-word.ensures (c.in_ok-lane.ensures.some, c.in_ok-lane.ensures.kind) c.put_packet.ensures.some)
