use Rattle.domain_laws.proofs.Running.{disks_run, ports_run}
use Rattle.domain_laws.proofs.ScriptEntries.{lines_run}
use Rattle.domain_laws.specs.Lines.{entries_of_lines}
use Rattle.domain_laws.proofs.line_laws.a_script_runs_a_world_by_its_parts.Goals as goal

pub returns : goal.returns
returns c = record {
  world = lines_run;
  disks = λ w lines v run. disks_run w (entries_of_lines lines) v (lines_run w lines v run);
  ports = λ w lines v run. ports_run w (entries_of_lines lines) v (lines_run w lines v run);
}
