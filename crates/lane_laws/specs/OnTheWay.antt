-- WHAT IS ON THE WAY between two ends in session: the messages that one end said and the other hasn't heard. The INFO among them name all
-- requests that are announced and that the server wasn't asked for yet. The ACK name all that the server answered and that aren't
-- acknowledged. Each packet of them waits for its end, or was lost.
use Rattle.std.specs.Prelude.{◌≡◌, ℕ, ◌+◌, ◌%◌, ◌<◌, Bool, false, List, [], ◌∷◌, ◌++◌, drop, filter, length, Option, Some, None, ⊤}
use Rattle.ldc_queue.specs.declared.end.ChannelState.TheVariants.{Up}
use Rattle.ldc_queue.specs.Numbered.{numbered}
use Rattle.ldc_queue.specs.Transcript.{numbered_heard, numbered_said}
use Rattle.lane_laws.specs.DiskLog.{DiskLog}
use Rattle.lane_models.specs.LaneState.{LaneState}
use Rattle.lane_models.specs.Messages.{end_slot_of, is_range, seq_of, start_slot_of}
use Rattle.lane_models.specs.Ranges.{wrapped}
use Rattle.dring.specs.Slots.{range_length}
use Rattle.lane_models.specs.Sayings.{heard, said}
use Rattle.lane_models.specs.ServerState.{ServerSession}
use Rattle.lane_laws.specs.WorkLog.{ClientCounts, ServerCounts}

-- of what an end said, the ranges of a subtype, INFO 1 or ACK 2, that the other hasn't heard: it heard the first ones
abbrev pub ranges_behind : ℕ → List (List ℕ) → List (List ℕ) → List (List ℕ)
ranges_behind subtype told taken = filter (is_range subtype) (drop (length taken) told)

-- Ranges name, one after the other, all the numbers from one to another, in a ring of so many slots.
abbrev pub NameAll : ℕ → ℕ → ℕ → List (List ℕ) → Type 0
NameAll slots from to [] = from ≡ to
NameAll slots from to (message ∷ messages) =
    (start_slot_of message ≡ from % slots) × (end_slot_of message < slots) × NameAll slots (from + range_length slots (start_slot_of message) (end_slot_of message)) to messages

-- their seq go up by one
abbrev pub SeqsFrom : ℕ → List (List ℕ) → Type 0
SeqsFrom seq [] = ⊤
SeqsFrom seq (message ∷ messages) = (seq_of message ≡ seq) × SeqsFrom (wrapped (seq + 1)) messages

-- THE SERVER'S PLACE: for how many it was asked, and the seq that it expects; before its session is open for none, and the first
abbrev pub asked_count : Option ServerCounts → ℕ
asked_count None = 0
asked_count (Some d) = d.asked

abbrev pub answered_count : Option ServerCounts → ℕ
answered_count None = 0
answered_count (Some d) = d.answered

abbrev pub expected_by : Option ServerSession → ℕ
expected_by None = 1
expected_by (Some session) = session.seq

-- ONE DIRECTION, by its packets with numbers: all that was put was taken first, then was lost, then waits.
pub record WaitsOrLost (put taken waiting : List (List ℕ)) (lossy : Bool) : Type 0 where
  pub gone : List (List ℕ)
  pub is : put ≡ taken ++ (gone ++ waiting)
  pub whole : lossy ≡ false → gone ≡ []

pub record OnTheWay (s : LaneState) (l : DiskLog) (k : ClientCounts) : Type 0 where
  pub server_up : l.wire.wire.end_b ≡ Up
  pub infos : NameAll l.shape.slots (asked_count l.work.server) k.announced (ranges_behind 1 (said l.transcript.a) (heard l.transcript.b))
  pub seqs : SeqsFrom (expected_by s.server.session) (ranges_behind 1 (said l.transcript.a) (heard l.transcript.b))
  pub acks : NameAll l.shape.slots k.acked (answered_count l.work.server) (ranges_behind 2 (said l.transcript.b) (heard l.transcript.a))
  pub to_server : WaitsOrLost (numbered_said l.transcript.a) (numbered_heard l.transcript.b) (numbered l.wire.wire.to_b) l.wire.lossy
  pub to_client : WaitsOrLost (numbered_said l.transcript.b) (numbered_heard l.transcript.a) (numbered l.wire.wire.to_a) l.wire.lossy
