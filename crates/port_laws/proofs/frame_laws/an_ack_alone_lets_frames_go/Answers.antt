use Rattle.port_laws.proofs.LettingGo.{message_acks, message_none, message_seen}
use Rattle.port_laws.proofs.frame_laws.an_ack_alone_lets_frames_go.Goals as goal

pub returns : goal.returns
returns c = record { in_session = message_seen; without = message_none; by_bytes = message_acks }
