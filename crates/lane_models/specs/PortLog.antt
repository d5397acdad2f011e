-- The log of what happened to a port: what its laws speak of.
use Rattle.std.specs.Prelude.{ℕ, List, [], ◌∷◌, ◌++◌, Option, Some, None}
use Rattle.ldc_queue.specs.declared.end.End.{End}
use Rattle.ldc_queue.specs.declared.end.End.TheVariants.{A, B}
use Rattle.ldc_queue.specs.Transcript.{Utterance}
use Rattle.lane_models.specs.Messages.{ended_by, opening_sid}
use Rattle.lane_models.specs.Sayings.{half_heard, half_said}
use Rattle.lane_models.specs.TranscriptLog.{TranscriptLog, nothing_said, transcript_moved, transcript_of}
use Rattle.lane_models.specs.WireEvent.{WireEvent}
use Rattle.lane_models.specs.WireLog.{WireLog, nothing_on_wire}
use Rattle.lane_models.specs.EndLog.{EndLog, ends_log, gives_log, hears_log, no_frames, opens_log, publishes_log, says_log, takes_log}
use Rattle.lane_models.specs.NetEndStep.{Already, BadLength, Blocked, Frame, Full, Given, GroupsFull, Idle, Joined, Joining, Member, NetAnswer, Published, Queued, Reset, Sent, Took}
use Rattle.lane_models.specs.NetEvent.{Asked, Gives, Joins, NetEvent, Steps, Ticked, on_wire}
use Rattle.lane_models.specs.NetLaneState.{NetShape}
use Rattle.lane_models.specs.NetLaneStep.{moved_on}
use Rattle.lane_models.specs.PortState.{OnLane, PortEvent, Receives}

pub record PortLog : Type 0 where
  pub shape : NetShape
  pub wire : WireLog
  pub transcript : TranscriptLog
  pub guest : EndLog
  -- its frames are those that the switch put into the out queue
  pub hub : EndLog
  -- the groups that the guest joined, in order
  pub members : List (List ℕ)
  -- the end whose idle step was the last event of the lane
  pub last_idle : Option End

abbrev pub no_events : NetShape → PortLog
no_events shape = record {
  shape = shape;
  wire = nothing_on_wire;
  transcript = nothing_said;
  guest = no_frames;
  hub = no_frames;
  members = [];
  last_idle = None;
}

abbrev pub log_of_end : End → PortLog → EndLog
log_of_end A l = l.guest
log_of_end B l = l.hub

-- WHAT AN ANSWER is for its end, which said and heard these utterances before
abbrev pub after_answer : ℕ → List Utterance → NetAnswer → EndLog → EndLog
after_answer slots utterances (Joined lost) l = ends_log lost l
after_answer slots utterances (Took packet opens) l =
    opens_log opens (opening_sid (half_heard utterances) packet) (hears_log slots (ended_by (half_heard utterances) packet) l)
after_answer slots utterances (Sent packet opens) l =
    opens_log opens (opening_sid (half_said utterances) packet) (says_log (ended_by (half_said utterances) packet) l)
after_answer slots utterances Blocked l = l
after_answer slots utterances Idle l = l
after_answer slots utterances (Published id) l = publishes_log l
after_answer slots utterances (Frame frame) l = takes_log l
after_answer slots utterances (Reset cause packet lost) l = ends_log lost l

abbrev pub after_given : Given → EndLog → EndLog
after_given (Queued id frame) l = gives_log frame l
after_given (Full frame) l = l
after_given (BadLength frame) l = l

-- what an event is for an end
abbrev pub at_end : End → End → EndLog → EndLog → EndLog
at_end A A there otherwise = there
at_end A B there otherwise = otherwise
at_end B A there otherwise = otherwise
at_end B B there otherwise = there

abbrev pub end_after : End → PortLog → NetEvent → EndLog
end_after e l (Steps end answer) =
    at_end e end (after_answer l.shape.slots (transcript_of e l.transcript) answer (log_of_end e l)) (log_of_end e l)
end_after e l (Asked end lost) = at_end e end (ends_log lost (log_of_end e l)) (log_of_end e l)
end_after e l (Ticked queued lost) = at_end e A (ends_log lost (log_of_end e l)) (log_of_end e l)
end_after e l (Gives end given) = at_end e end (after_given given (log_of_end e l)) (log_of_end e l)
end_after e l _ = log_of_end e l

abbrev pub joined_by : Joining → List (List ℕ) → List (List ℕ)
joined_by (Member address) members = members ++ address ∷ []
joined_by (Already address) members = members
joined_by (GroupsFull address) members = members

abbrev pub members_after : NetEvent → List (List ℕ) → List (List ℕ)
members_after (Joins joining) members = joined_by joining members
members_after _ members = members

abbrev pub spoken_on : TranscriptLog → Option WireEvent → TranscriptLog
spoken_on l None = l
spoken_on l (Some event) = transcript_moved l event

abbrev pub idle_in : NetEvent → Option End
idle_in (Steps e Idle) = Some e
idle_in _ = None

-- THE LOG after one more event. What another port gives is no event of the lane.
abbrev pub after : PortLog → PortEvent → PortLog
after l (OnLane event) = record {
  shape = l.shape;
  wire = moved_on l.wire (on_wire event);
  transcript = spoken_on l.transcript (on_wire event);
  guest = end_after A l event;
  hub = end_after B l event;
  members = members_after event l.members;
  last_idle = idle_in event;
}
after l (Receives frame) = record l { hub = gives_log frame l.hub }
