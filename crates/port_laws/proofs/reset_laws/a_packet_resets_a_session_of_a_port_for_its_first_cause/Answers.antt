use Rattle.std.proofs.Common.{Some, sym}
use Rattle.lane_models.specs.NetEndStep.{Reset, Took}
use Rattle.lane_models.specs.NetEndTaking.{Resets}
use Rattle.lane_models.specs.NetEvent.{Steps}
use Rattle.port_laws.specs.NetCore.{core_events}
use Rattle.port_laws.proofs.LaneMoves.{fresh_run_core}
use Rattle.port_laws.proofs.PortCauses.{cause_before, fails_takes, fails_with, take_cause}
use Rattle.port_laws.proofs.reset_laws.a_packet_resets_a_session_of_a_port_for_its_first_cause.Goals as goal

pub returns : goal.returns
returns c = record {
  taken = λ shape events s e session packet opens t is run opened step.
      sym (take_cause shape (core_events events) s is (fresh_run_core shape events s run) e session packet _ opened step.step.1);
  reset = λ shape events s e session cause packet lost t is run opened step.
      fails_with shape (core_events events) s is (fresh_run_core shape events s run) e session cause packet opened step.step.0;
  queued_taken = λ shape events s e session packet opens t is run opened step.
      cause_before shape events s is run (Steps e (Took packet opens)) e session packet _ opened step.1.step.1;
  queued_reset = λ shape events s e session cause packet lost t is run opened step.
      cause_before shape events s is run (Steps e (Reset cause (Some packet) lost)) e session packet (Resets cause) opened
      (fails_takes _ _ _ _ _ cause packet step.1.step.0);
}
