use Rattle.world_laws.proofs.LeftLanes.{out_why}
use Rattle.world_laws.proofs.Naming.{out_names}
use Rattle.world_laws.proofs.Stuck.{out_moves, part_never}
use Rattle.world_laws.proofs.settle_laws.each_round_of_a_settle_moves.Goals as goal

pub returns : goal.returns
returns c = record { stuck = part_never; moves = out_moves; names = out_names; left = out_why }
