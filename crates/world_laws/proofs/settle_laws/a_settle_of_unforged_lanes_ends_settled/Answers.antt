use Rattle.world_laws.proofs.Falling.{ends_settled, never_out, rounds_few, rounds_lower}
use Rattle.world_laws.proofs.settle_laws.a_settle_of_unforged_lanes_ends_settled.Goals as goal

pub returns : goal.returns
returns c = record { falls = rounds_lower; few = rounds_few; never = never_out; ends = ends_settled }
