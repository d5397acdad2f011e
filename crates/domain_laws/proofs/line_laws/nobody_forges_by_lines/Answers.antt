use Rattle.domain_laws.proofs.ByLines.{running_begun, running_behind, unforged_begun, unforged_behind}
use Rattle.domain_laws.proofs.line_laws.nobody_forges_by_lines.Goals as goal

pub returns : goal.returns
returns c = record { unforged = unforged_behind; begun = unforged_begun; running = running_behind; running_begun = running_begun }
