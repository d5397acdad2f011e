-- Two ends that speak over a channel which nobody forges: each direction is one stream, and fewer packets than the numbers of 32 bits tell
-- apart are lost between two that an end takes.
use Rattle.std.specs.Prelude.{◌≡◌, ℕ, ◌+◌, ◌*◌, ◌≤◌, Bool, true, false, List, [], ◌∷◌, length}
use Rattle.ldc_link.specs.declared.phase.LinkPhase.{LinkPhase}
use Rattle.ldc_link.specs.declared.phase.LinkPhase.TheVariants as phase
use Rattle.ldc_link.specs.declared.phase.Role.{Role}
use Rattle.ldc_link.specs.declared.phase.Role.TheVariants.{Initiator, Responder}
use Rattle.ldc_queue.specs.declared.end.ChannelState.{ChannelState}
use Rattle.ldc_queue.specs.declared.end.ChannelState.TheVariants.{Down, Resetting, Up}
use Rattle.ldc_queue.specs.Numbered.{is_numbered}
use Rattle.ldc_queue.specs.OneStream.{OneStream}
use Rattle.ldc_queue.specs.QueueLog.{QueueLog}
use Rattle.lane_models.specs.Budget.{budget}
use Rattle.lane_models.specs.Sides.{Sides, other, swapped}

-- how many packets without a number an initiator's link may still put, and take
abbrev pub puts_left : LinkPhase → ℕ
puts_left phase.OwesVersInfo = 2
puts_left phase.AwaitsVersAck = 1
puts_left phase.OwesRts = 1
puts_left _ = 0

abbrev pub takes_left : LinkPhase → ℕ
takes_left phase.OwesVersInfo = 2
takes_left phase.AwaitsVersAck = 2
takes_left phase.OwesRts = 1
takes_left phase.AwaitsRtr = 1
takes_left _ = 0

-- an end that isn't up is as one that begins
abbrev pub live_budget : ChannelState → ℕ → ℕ
live_budget Up n = n
live_budget Down n = 1
live_budget Resetting n = 1

abbrev pub live_puts : ChannelState → LinkPhase → ℕ
live_puts Up ph = puts_left ph
live_puts Down ph = 2
live_puts Resetting ph = 2

abbrev pub live_takes : ChannelState → LinkPhase → ℕ
live_takes Up ph = takes_left ph
live_takes Down ph = 2
live_takes Resetting ph = 2

-- how many of the packets have no number
abbrev pub unless : Bool → ℕ → ℕ
unless true n = n
unless false n = n + 1

abbrev pub unnumbered : List (List ℕ) → ℕ
unnumbered [] = 0
unnumbered (packet ∷ packets) = unless (is_numbered packet) (unnumbered packets)

-- how many packets without a number this end may still take: those that an initiator waits for, or that it puts
abbrev pub controls : Role → Sides → ℕ
controls Initiator s = live_takes s.mine.state s.mine.core.link.phase
controls Responder s = live_puts s.theirs.state s.theirs.core.link.phase + unnumbered s.mine.waiting

-- So many were lost since the end last took one with a number. What waits for it, what its peer may put, what waits for the peer, what the
-- end may put itself, and the packets without a number that it may still take, bound what can be lost until then.
pub record FewAreLost (lost waiting theirs peer_waiting mine left : ℕ) : Type 0 where
  pub few : lost + waiting + theirs + 34001 * (peer_waiting + mine) + 1156068001 * left ≤ 3476908514

pub record FewLost (role : Role) (s : Sides) (lost : ℕ) : Type 0 where
  pub left : controls role s ≤ 2
  pub queue : length s.mine.waiting ≤ 256
  pub few : FewAreLost lost (length s.mine.waiting) (live_budget s.theirs.state (budget s.theirs.core)) (length s.theirs.waiting) (live_budget s.mine.state (budget s.mine.core))
      (controls role s)

-- the channel's log, as of an end A and its peer
abbrev pub queue_log : Sides → ℕ → ℕ → QueueLog
queue_log s lost_mine lost_theirs = record {
  wire = record { end_a = s.mine.state; end_b = s.theirs.state; to_a = s.mine.waiting; to_b = s.theirs.waiting };
  transcript_a = s.mine.utterances;
  transcript_b = s.theirs.utterances;
  lost_a = lost_mine;
  lost_b = lost_theirs;
}

pub record Converse (role : Role) (s : Sides) : Type 0 where
  pub entries : s.entries ≤ 256
  pub lost_mine : ℕ
  pub lost_theirs : ℕ
  -- nothing is lost of what was put since the queues were last emptied, where the wire isn't lossy
  pub whole : s.lossy ≡ false → (lost_mine ≡ 0) × (lost_theirs ≡ 0)
  pub stream : OneStream (queue_log s lost_mine lost_theirs)
  pub to_mine : FewLost role s lost_mine
  pub to_theirs : FewLost (other role) (swapped s) lost_theirs
