-- What a run comes to, counted from its events alone: the wire, and what each end said and heard since it last began; and where an event may
-- stand by that.
use Rattle.std.specs.Prelude.{◌≡◌, false, ℕ, ◌+◌, ◌≤◌, length, ⊤}
use Rattle.lane_models.specs.TranscriptLog.{TranscriptLog, is_rdx, more_if, nothing_said}
use Rattle.lane_models.specs.WireAt.{IsUp, WireHeardAt, WireSaidAt}
use Rattle.lane_models.specs.WireEvent.{Blocked, Sent, WireEvent}
use Rattle.lane_models.specs.WireLog.{WireLog, nothing_on_wire}
use Rattle.ldc_queue.specs.declared.end.ChannelState.TheVariants.{Down, Resetting}
use Rattle.ldc_queue.specs.declared.end.End.{End}
use Rattle.ldc_queue.specs.declared.end.End.TheVariants.{A}
use Rattle.ldc_queue.specs.Wire.{peer_of, state_of, waiting_for}
use Rattle.lane_models.specs.LaneCore.{CoreEvent, CoreStands, LaneCore, OnChannel, end_of, transcript_after, wire_after}

pub record CoreLog : Type 0 where
  pub entries : ℕ
  pub wire : WireLog
  pub transcript : TranscriptLog

abbrev pub nothing_yet : ℕ → CoreLog
nothing_yet entries = record { entries = entries; wire = nothing_on_wire; transcript = nothing_said }

abbrev pub after : CoreLog → CoreEvent → CoreLog
after l event = record { entries = l.entries; wire = wire_after l.wire event; transcript = transcript_after l.transcript event }

abbrev pub OfChannel : (WireEvent → Type 0) → CoreEvent → Type 0
OfChannel May (OnChannel event) = May event
OfChannel May _ = ⊤

-- each packet that is said, and each that is heard
abbrev pub SaidAt : CoreLog → CoreEvent → Type 0
SaidAt l event = OfChannel (WireSaidAt l.transcript) event

abbrev pub HeardAt : CoreLog → CoreEvent → Type 0
HeardAt l event = OfChannel (WireHeardAt l.transcript) event

-- THE TABLE of states and queues: where a packet finds no room, the queue holds as many as it can
abbrev pub TableAt : CoreLog → CoreEvent → Type 0
TableAt l (OnChannel (Blocked e)) = IsUp e l.wire.wire × (length (waiting_for (peer_of e) l.wire.wire) + 1 ≡ l.entries)
TableAt l event = CoreStands l.entries l.wire event

-- each queue holds fewer packets than it has entries
pub record RoomStands (l : CoreLog) : Type 0 where
  pub to_a : length l.wire.wire.to_a + 1 ≤ l.entries
  pub to_b : length l.wire.wire.to_b + 1 ≤ l.entries

-- WHO IS UP: never do both ends wait to begin anew, and the session of an end that was never configured, or is closed, isn't open
pub record UpStands (s : LaneCore) : Type 0 where
  pub one : s.wire.wire.end_a ≡ Resetting → s.wire.wire.end_b ≡ Resetting → ⊥
  pub closed : (e : End) → state_of e s.wire.wire ≡ Down → (end_of e s).is_open ≡ false

-- HOW OFTEN the initiator's link came up
abbrev pub comings_after : ℕ → CoreEvent → ℕ
comings_after n (OnChannel (Sent A packet opens)) = more_if (is_rdx packet) n
comings_after n event = n
