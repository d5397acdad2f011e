use Rattle.lane_models.proofs.CoreLaws.{room_stands, who_is_up, wire_is}
use Rattle.lane_models.proofs.Numbering.{table_lawful}
use Rattle.lane_models.proofs.pair_laws.events_stand_by_both_ends.Goals as goal

pub returns : goal.returns
returns c = record { table = table_lawful; room = room_stands; wire = wire_is; up = who_is_up }
