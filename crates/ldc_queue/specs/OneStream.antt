-- Each direction of a channel is one stream: all that was said is what was heard, then what was lost, then what waits.
use Rattle.std.specs.Prelude.{◌≡◌, ℕ, ◌≤◌, List, [], ◌++◌, length}
use Rattle.ldc_queue.specs.declared.end.ChannelState.{ChannelState}
use Rattle.ldc_queue.specs.declared.end.ChannelState.TheVariants.{Down, Up, Resetting}
use Rattle.ldc_queue.specs.Numbered.{CountUp, numbered}
use Rattle.ldc_queue.specs.QueueLog.{QueueLog}
use Rattle.ldc_queue.specs.Transcript.{numbered_heard, numbered_said}

-- ys begin with xs
abbrev pub IsFront : {X : Type 0} → List X → List X → Type 0
IsFront {X} xs ys = (rest : List X) × (ys ≡ xs ++ rest)

-- what an end that isn't up once said or heard counts no more: its next life begins with nothing
abbrev pub live : ChannelState → List (List ℕ) → List (List ℕ)
live Up packets = packets
live Down packets = []
live Resetting packets = []

-- One direction, by its numbered packets. What was lost since the last packet was heard stands between what was heard and what
-- waits, since only the first of those that wait is ever lost.
pub record OneWay (said heard waiting : List (List ℕ)) (lost : ℕ) : Type 0 where
  pub gone : List (List ℕ)
  pub is : said ≡ heard ++ (gone ++ waiting)
  pub few : length gone ≤ lost
  pub numbers : CountUp 1 said

pub record OneStream (l : QueueLog) : Type 0 where
  pub to_a : OneWay (live l.wire.end_b (numbered_said l.transcript_b)) (live l.wire.end_a (numbered_heard l.transcript_a)) (numbered l.wire.to_a) l.lost_a
  pub to_b : OneWay (live l.wire.end_a (numbered_said l.transcript_a)) (live l.wire.end_b (numbered_heard l.transcript_b)) (numbered l.wire.to_b) l.lost_b
