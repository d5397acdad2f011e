use Rattle.world_laws.proofs.Moving.{begun_moves, moved_reached, part_moves}
use Rattle.world_laws.proofs.TicksOnce.{part_ticks}
use Rattle.world_laws.proofs.settle_laws.a_settle_moves_each_lane_by_its_part.Goals as goal

pub returns : goal.returns
returns c = record { runs = part_moves; ticks = part_ticks; begun = begun_moves; reached = moved_reached }
