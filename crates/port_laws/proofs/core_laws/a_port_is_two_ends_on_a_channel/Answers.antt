use Rattle.port_laws.proofs.CoreLaws.{offers_match, sizes_fit}
use Rattle.port_laws.proofs.LaneMoves.{fresh_run_core}
use Rattle.port_laws.proofs.PortRuns.{fresh_port_core}
use Rattle.port_laws.proofs.core_laws.a_port_is_two_ends_on_a_channel.Goals as goal

pub returns : goal.returns
returns c = record { run = fresh_run_core; queued = fresh_port_core; sizes = sizes_fit; offers = offers_match }
