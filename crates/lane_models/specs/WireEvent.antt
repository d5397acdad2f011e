-- What may happen between the two ends of a lane. The client's end is A, the server's B; a packet is its 64 bytes.
use Rattle.std.specs.Prelude.{ℕ, Bool, List, Option}
use Rattle.ldc_queue.specs.declared.end.End.{End}
use Rattle.vio_tag.specs.declared.cause.Cause.{Cause}
use Rattle.vio_tag.specs.declared.cause.Cause.TheVariants as the_cause

-- what was asked of the wire, and came to nothing
pub data Declined : Type 0 where
  -- no packet waited for the end
  NothingLost : (e : End) → Declined
  -- the end wasn't up, and so many packets waited for it as its queue holds
  NotInjected : (e : End) (packet : List ℕ) → Declined
  InjectedFull : (e : End) (packet : List ℕ) → Declined
  -- the range leaves the end's memory
  PokeRefused : (e : End) (at count : ℕ) → Declined

pub data WireEvent : Type 0 where
  -- the end was configured by its own step, and so many frames were lost by that
  Joined : (e : End) (lost : ℕ) → WireEvent
  -- the end was configured for a cause, which may lie in a packet that it took
  Reset : (e : End) (cause : Cause) (packet : Option (List ℕ)) (lost : ℕ) → WireEvent
  Took : (e : End) (packet : List ℕ) (opens : Bool) → WireEvent
  Sent : (e : End) (packet : List ℕ) (opens : Bool) → WireEvent
  -- the end had nothing to do, or no room for its next packet
  Idle : (e : End) → WireEvent
  Blocked : (e : End) → WireEvent
  -- the packet that had waited longest for the end was lost
  Lost : (e : End) (packet : List ℕ) → WireEvent
  -- a packet that the peer never put waits for the end, and bytes that the end never wrote stand in its memory
  Injected : (e : End) (packet : List ℕ) → WireEvent
  Poked : (e : End) (at : ℕ) (bytes : List ℕ) → WireEvent
  Declines : (d : Declined) → WireEvent

-- who resets an end: the script, the restart of a server, a tick of a client that isn't finished, or the end's own step
pub data Giver : Type 0 where
  ByScript : Giver
  ByRestart : Giver
  ByTick : Giver
  ByStep : Giver

abbrev pub giver : Cause → Giver
giver the_cause.Asked = ByScript
giver the_cause.Restart = ByRestart
giver the_cause.Tick = ByTick
giver _ = ByStep
