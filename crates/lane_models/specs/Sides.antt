-- The two ends of a lane from the side of one of them, and what its acts do to both. What is proved of an act from the side of the end that
-- acts, by its role, is proved for both ends.
use Rattle.std.specs.Prelude.{ℕ, Bool, true, false, List, [], ◌∷◌, ◌++◌, drop}
use Rattle.ldc_queue.specs.declared.end.ChannelState.{ChannelState}
use Rattle.ldc_queue.specs.declared.end.ChannelState.TheVariants.{Down, Up}
use Rattle.ldc_queue.specs.Transcript.{Heard, Said, Utterance}
use Rattle.ldc_queue.specs.Wire.{peer_behind, queue_behind, upset}
pub use Rattle.vio_handshake.specs.Pairing.{other}
use Rattle.lane_models.specs.TranscriptLog.{TranscriptLog}
use Rattle.lane_models.specs.WireLog.{WireLog, lossy_behind}
use Rattle.lane_models.specs.EndCore.{EndCore}
use Rattle.lane_models.specs.LaneCore.{LaneCore}

-- an end, its state and what waits for it, and what it said and heard
pub record Side : Type 0 where
  pub state : ChannelState
  pub waiting : List (List ℕ)
  pub core : EndCore
  pub utterances : List Utterance

pub record Sides : Type 0 where
  pub entries : ℕ
  pub lossy : Bool
  pub mine : Side
  pub theirs : Side

abbrev pub swapped : Sides → Sides
swapped s = record s { mine = s.theirs; theirs = s.mine }

-- the lane from its initiator's side
abbrev pub sides_in : ℕ → WireLog → EndCore → EndCore → TranscriptLog → Sides
sides_in entries l a b transcript = record {
  entries = entries;
  lossy = l.lossy;
  mine = record { state = l.wire.end_a; waiting = l.wire.to_a; core = a; utterances = transcript.a };
  theirs = record { state = l.wire.end_b; waiting = l.wire.to_b; core = b; utterances = transcript.b };
}

abbrev pub sides_of : LaneCore → TranscriptLog → Sides
sides_of s transcript = sides_in s.entries s.wire s.a s.b transcript

-- THE ACTS of an end, which is `t` after them: it goes on beside the wire, it is configured, closed, takes a packet or puts one; and the packet
-- that has waited longest for it is lost
abbrev pub goes_on : EndCore → Sides → Sides
goes_on t s = record s { mine = record s.mine { core = t } }

abbrev pub anew : EndCore → Sides → Sides
anew t s = record s {
  lossy = lossy_behind s.mine.state s.lossy;
  mine = record { state = Up; waiting = queue_behind s.mine.state s.mine.waiting; core = t; utterances = [] };
  theirs = record s.theirs { state = peer_behind s.mine.state s.theirs.state; waiting = queue_behind s.mine.state s.theirs.waiting };
}

abbrev pub shut : EndCore → Sides → Sides
shut t s = record s {
  lossy = false;
  mine = record { state = Down; waiting = []; core = t; utterances = [] };
  theirs = record s.theirs { state = upset s.theirs.state; waiting = [] };
}

abbrev pub took : List ℕ → EndCore → Sides → Sides
took packet t s = record s { mine = record s.mine { waiting = drop 1 s.mine.waiting; core = t; utterances = Heard packet ∷ s.mine.utterances } }

abbrev pub put : List ℕ → EndCore → Sides → Sides
put packet t s = record s {
  mine = record s.mine { core = t; utterances = Said packet ∷ s.mine.utterances };
  theirs = record s.theirs { waiting = s.theirs.waiting ++ packet ∷ [] };
}

abbrev pub missed : Sides → Sides
missed s = record s { lossy = true; mine = record s.mine { waiting = drop 1 s.mine.waiting } }
