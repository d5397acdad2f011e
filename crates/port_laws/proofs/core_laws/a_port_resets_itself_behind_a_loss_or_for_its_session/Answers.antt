use Rattle.port_laws.specs.NetCore.{core_events}
use Rattle.port_laws.proofs.CoreLaws.{core_resets, port_resets_unforged}
use Rattle.port_laws.proofs.LaneMoves.{fits_behind, fresh_run_core}
use Rattle.port_laws.proofs.core_laws.a_port_resets_itself_behind_a_loss_or_for_its_session.Goals as goal

pub returns : goal.returns
returns c = record {
  lane = λ shape events s e cause packet lost t is run.
      core_resets shape is (core_events events) s (fresh_run_core shape events s run) e cause packet lost t (fits_behind shape events s run);
  queued = port_resets_unforged;
}
