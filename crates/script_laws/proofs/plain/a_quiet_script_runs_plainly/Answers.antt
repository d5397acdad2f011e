use Rattle.script_laws.proofs.PlainLaw.{plain_law}
use Rattle.script_laws.proofs.plain.a_quiet_script_runs_plainly.Goals as goal

pub returns : goal.returns
returns c = record {
  text = λ disk image content parts v is told holds quiet whole fits well. (plain_law disk image content parts v is told holds quiet whole fits well).text;
  content = λ disk image content parts v is told holds quiet whole fits well. (plain_law disk image content parts v is told holds quiet whole fits well).told;
  ids = λ disk image content parts v is told holds quiet whole fits well. (plain_law disk image content parts v is told holds quiet whole fits well).ids;
}
