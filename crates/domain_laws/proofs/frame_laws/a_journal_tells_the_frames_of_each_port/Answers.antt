use Rattle.domain_laws.proofs.Telling.{arrived_told, put_told, queued_told, switched_told}
use Rattle.domain_laws.proofs.frame_laws.a_journal_tells_the_frames_of_each_port.Goals as goal

pub returns : goal.returns
returns c = record { queued = queued_told; put = put_told; switched = switched_told; arrived = arrived_told }
