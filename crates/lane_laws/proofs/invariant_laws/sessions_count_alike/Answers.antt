use Rattle.lane_laws.proofs.Agreeing.{always_agree, client_counts, server_counts}
use Rattle.lane_laws.proofs.CountsFollow.{counts_in_turn}
use Rattle.lane_laws.proofs.invariant_laws.sessions_count_alike.Goals as goal

pub returns : goal.returns
returns c = record { client = client_counts; server = server_counts; agree = always_agree; turn = counts_in_turn }
