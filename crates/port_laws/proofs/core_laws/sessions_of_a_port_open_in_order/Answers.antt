use Rattle.lane_models.proofs.OpeningOrder.{opens_hearing, opens_saying}
use Rattle.lane_models.specs.NetEndStep.{Sent, Took}
use Rattle.lane_models.specs.NetEvent.{Steps}
use Rattle.port_laws.proofs.CoreLaws.{order_at, sizes_fit}
use Rattle.port_laws.proofs.LaneMoves.{event_core_step, fits_behind, fresh_run_core}
use Rattle.std.proofs.Common.{true}
use Rattle.port_laws.proofs.core_laws.sessions_of_a_port_open_in_order.Goals as goal

pub returns : goal.returns
returns c = record {
  saying = λ shape events s e packet t is run step.
      order_at e s _ (opens_saying _ _ _ _ _ e packet _ (sizes_fit shape is) (fresh_run_core shape events s run)
      (event_core_step s (Steps e (Sent packet true)) t (fits_behind shape events s run) step));
  hearing = λ shape events s e packet t is run step.
      order_at e s _ (opens_hearing _ _ _ _ _ e packet _ (sizes_fit shape is) (fresh_run_core shape events s run)
      (event_core_step s (Steps e (Took packet true)) t (fits_behind shape events s run) step));
}
