-- What a list of queue events comes to: the channel, what each end said and heard, and how much was lost.
use Rattle.std.specs.Prelude.{◌≡◌, ℕ, ◌+◌, ◌<◌, true, List, [], ◌∷◌, drop, length, ⊤}
use Rattle.ldc_queue.specs.declared.end.ChannelState.{ChannelState}
use Rattle.ldc_queue.specs.declared.end.ChannelState.TheVariants.{Down, Up, Resetting}
use Rattle.ldc_queue.specs.declared.end.End.{End}
use Rattle.ldc_queue.specs.declared.end.End.TheVariants.{A, B}
use Rattle.ldc_queue.specs.Numbered.{CountUp, is_numbered, numbered}
use Rattle.ldc_queue.specs.QueueEvent.{Close, Forge, Join, Lose, Put, QueueEvent, Take}
use Rattle.ldc_queue.specs.Transcript.{Heard, Said, Utterance, numbered_heard, numbered_said}
use Rattle.ldc_queue.specs.Wire.{Wire, closed, configured, fresh_wire, put_for, state_of, taken_for, waiting_for}

pub record QueueLog : Type 0 where
  pub wire : Wire
  -- since each end was last configured or closed, newest first
  pub transcript_a : List Utterance
  pub transcript_b : List Utterance
  -- how many numbered packets for each end were lost since the last that it took, or since its queue was emptied
  pub lost_a : ℕ
  pub lost_b : ℕ

abbrev pub transcript_of : End → QueueLog → List Utterance
transcript_of A l = l.transcript_a
transcript_of B l = l.transcript_b

abbrev pub lost_for : End → QueueLog → ℕ
lost_for A l = l.lost_a
lost_for B l = l.lost_b

abbrev pub nothing_yet : QueueLog
nothing_yet = record { wire = fresh_wire; transcript_a = []; transcript_b = []; lost_a = 0; lost_b = 0 }

-- a count of lost packets after configuring an end that was in the state, and after taking a packet
abbrev pub lost_behind : ChannelState → ℕ → ℕ
lost_behind Up lost = 0
lost_behind Down lost = lost
lost_behind Resetting lost = lost

abbrev pub lost_past : List (List ℕ) → ℕ → ℕ
lost_past [] lost = lost
lost_past (packet ∷ packets) lost = 0

-- the log after one more event
abbrev pub after : QueueLog → QueueEvent → QueueLog
after l (Join A) = record {
  wire = configured A l.wire;
  transcript_a = [];
  transcript_b = l.transcript_b;
  lost_a = lost_behind l.wire.end_a l.lost_a;
  lost_b = lost_behind l.wire.end_a l.lost_b;
}
after l (Join B) = record {
  wire = configured B l.wire;
  transcript_a = l.transcript_a;
  transcript_b = [];
  lost_a = lost_behind l.wire.end_b l.lost_a;
  lost_b = lost_behind l.wire.end_b l.lost_b;
}
after l (Close A) = record { wire = closed A l.wire; transcript_a = []; transcript_b = l.transcript_b; lost_a = 0; lost_b = 0 }
after l (Close B) = record { wire = closed B l.wire; transcript_a = l.transcript_a; transcript_b = []; lost_a = 0; lost_b = 0 }
after l (Put A packet) = record l { wire = put_for B packet l.wire; transcript_a = Said packet ∷ l.transcript_a }
after l (Put B packet) = record l { wire = put_for A packet l.wire; transcript_b = Said packet ∷ l.transcript_b }
after l (Take A packet) = record l {
  wire = taken_for A l.wire;
  transcript_a = Heard packet ∷ l.transcript_a;
  lost_a = lost_past (numbered (packet ∷ [])) l.lost_a;
}
after l (Take B packet) = record l {
  wire = taken_for B l.wire;
  transcript_b = Heard packet ∷ l.transcript_b;
  lost_b = lost_past (numbered (packet ∷ [])) l.lost_b;
}
after l (Lose A packet) = record l { wire = taken_for A l.wire; lost_a = l.lost_a + length (numbered (packet ∷ [])) }
after l (Lose B packet) = record l { wire = taken_for B l.wire; lost_b = l.lost_b + length (numbered (packet ∷ [])) }
after l (Forge e packet) = record l { wire = put_for e packet l.wire }

-- the packet has waited longest
abbrev pub WaitsLongest : List ℕ → List (List ℕ) → Type 0
WaitsLongest packet waiting = waiting ≡ packet ∷ drop 1 waiting

-- Where an event may stand at a channel of two links that nobody forges. The ends that put and take are up; what is taken or lost
-- has waited longest; the numbered packets that an end put, and those that it took, count up from 1 since it was configured; of
-- two numbered ones that it takes one after the other fewer than 2^32 between them were lost.
abbrev pub MayStand : QueueLog → QueueEvent → Type 0
MayStand l (Join e) = ⊤
MayStand l (Close e) = ⊤
MayStand l (Put e packet) =
    (state_of e l.wire ≡ Up) × CountUp (length (numbered_said (transcript_of e l)) + 1) (numbered (packet ∷ []))
MayStand l (Take e packet) =
    (state_of e l.wire ≡ Up) × WaitsLongest packet (waiting_for e l.wire)
    × CountUp (length (numbered_heard (transcript_of e l)) + 1) (numbered (packet ∷ []))
    × (is_numbered packet ≡ true → lost_for e l < 4294967296)
MayStand l (Lose e packet) = WaitsLongest packet (waiting_for e l.wire)
MayStand l (Forge e packet) = ⊥

-- the log of a list of events that begins at a log, and that each may stand after those before it
abbrev pub log_of : QueueLog → List QueueEvent → QueueLog
log_of l [] = l
log_of l (event ∷ events) = log_of (after l event) events

abbrev pub AllMayStand : QueueLog → List QueueEvent → Type 0
AllMayStand l [] = ⊤
AllMayStand l (event ∷ events) = MayStand l event × AllMayStand (after l event) events
