use Rattle.world_laws.proofs.LoopKeeping.{issued_set, keeps_shape, next_is}
use Rattle.world_laws.proofs.loop_laws.each_event_gives_an_id_where_it_accepts.Goals as goal

pub returns : goal.returns
returns c = record { next = next_is; shape = keeps_shape; all = issued_set }
