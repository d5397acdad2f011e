use Rattle.std.proofs.Common.{map}
use Rattle.lane_models.specs.PortState.{fresh_port}
use Rattle.domain_laws.proofs.Running.{fresh_many, fresh_reached, port_runs, ports_move, stay_reached}
use Rattle.domain_laws.proofs.run_laws.each_port_runs_by_its_events.Goals as goal

pub returns : goal.returns
returns c = record {
  moves = ports_move;
  each = port_runs;
  many = fresh_many;
  reached = λ nets entries behind are run. stay_reached (map fresh_port nets) entries behind (fresh_reached nets are) run;
  stays = stay_reached;
}
