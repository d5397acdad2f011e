use Rattle.ldc_queue.specs.QueueLog.{nothing_yet, transcript_of}
use Rattle.ldc_queue.specs.Transcript.{numbered_heard, numbered_said}
use Rattle.ldc_queue.specs.Wire.{peer_of}
use Rattle.ldc_queue.proofs.Messages.{messages_front}
use Rattle.ldc_queue.proofs.Streams.{heard_front, stream_begins, stream_run, stream_step}
use Rattle.ldc_queue.proofs.laws.heard_is_a_front_of_said.Goals as goal

pub returns-clause-begins : goal.returns-clause-begins
returns-clause-begins c = stream_begins

pub returns-clause-kept : goal.returns-clause-kept
returns-clause-kept c = stream_step

pub returns-clause-holds : goal.returns-clause-holds
returns-clause-holds c = λ events all. stream_run nothing_yet events all stream_begins

pub returns-clause-packets : goal.returns-clause-packets
returns-clause-packets c = heard_front

pub returns-clause-messages : goal.returns-clause-messages
returns-clause-messages c =
    λ l e s up. messages_front (numbered_heard (transcript_of e l)) (numbered_said (transcript_of (peer_of e) l)) (heard_front l e s up)
