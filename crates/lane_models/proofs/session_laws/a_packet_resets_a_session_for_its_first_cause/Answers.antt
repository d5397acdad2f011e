use Rattle.lane_models.proofs.CausesSaid.{cause_said}
use Rattle.lane_models.proofs.PacketCauses.{run_judges}
use Rattle.lane_models.proofs.session_laws.a_packet_resets_a_session_for_its_first_cause.Goals as goal

pub returns : goal.returns
returns c = record { first = run_judges; says = cause_said }
