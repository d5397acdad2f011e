use Rattle.lane_laws.proofs.TableRuns.{answers_lawful, table_lawful}
use Rattle.lane_laws.proofs.invariant_laws.events_stand_by_states_and_queues.Goals as goal

pub returns : goal.returns
returns c = record { table = table_lawful; answers = answers_lawful }
