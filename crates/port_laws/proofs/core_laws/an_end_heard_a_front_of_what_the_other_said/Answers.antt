use Rattle.port_laws.specs.NetCore.{core_events}
use Rattle.port_laws.proofs.CoreLaws.{core_front, port_front}
use Rattle.port_laws.proofs.LaneMoves.{fresh_run_core}
use Rattle.port_laws.proofs.core_laws.an_end_heard_a_front_of_what_the_other_said.Goals as goal

pub returns : goal.returns
returns c = record {
  lane = λ shape events s e is run. core_front shape is (core_events events) s (fresh_run_core shape events s run) e;
  queued = port_front;
}
