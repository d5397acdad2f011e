use Rattle.port_laws.specs.NetCore.{core_events}
use Rattle.port_laws.specs.PortCore.{port_events}
use Rattle.port_laws.proofs.CoreLaws.{core_loss_kept, core_loss_told}
use Rattle.port_laws.proofs.LaneMoves.{fresh_run_core}
use Rattle.port_laws.proofs.PortRuns.{fresh_port_core}
use Rattle.port_laws.proofs.core_laws.a_port_is_lossy_behind_a_loss.Goals as goal

pub returns : goal.returns
returns c = record {
  lossy = λ shape events s is run. core_loss_told shape is (core_events events) s (fresh_run_core shape events s run);
  lost = λ shape events s is run. core_loss_kept shape is (core_events events) s (fresh_run_core shape events s run);
  queued_lossy = λ shape events s is run. core_loss_told shape is (port_events events) s.lane (fresh_port_core shape events s run);
  queued_lost = λ shape events s is run. core_loss_kept shape is (port_events events) s.lane (fresh_port_core shape events s run);
}
