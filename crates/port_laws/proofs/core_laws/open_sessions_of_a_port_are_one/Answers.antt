use Rattle.port_laws.specs.NetCore.{core_events}
use Rattle.port_laws.specs.PortCore.{port_events}
use Rattle.port_laws.proofs.CoreLaws.{core_one, core_up}
use Rattle.port_laws.proofs.LaneMoves.{fresh_run_core}
use Rattle.port_laws.proofs.PortRuns.{fresh_port_core}
use Rattle.port_laws.proofs.core_laws.open_sessions_of_a_port_are_one.Goals as goal

pub returns : goal.returns
returns c = record {
  up = λ shape events s is run. core_up shape is (core_events events) s (fresh_run_core shape events s run);
  one = λ shape events s is run. core_one shape is (core_events events) s (fresh_run_core shape events s run);
  queued_up = λ shape events s is run. core_up shape is (port_events events) s.lane (fresh_port_core shape events s run);
  queued_one = λ shape events s is run. core_one shape is (port_events events) s.lane (fresh_port_core shape events s run);
}
