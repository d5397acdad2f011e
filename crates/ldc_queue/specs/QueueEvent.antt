-- What may happen at a channel.
use Rattle.std.specs.Prelude.{ℕ, List}
use Rattle.ldc_queue.specs.declared.end.End.{End}

pub data QueueEvent : Type 0 where
  -- the end is configured, by a join or a reset
  Join : End → QueueEvent
  Close : End → QueueEvent
  -- the end puts a packet, which then waits for the other end
  Put : End → List ℕ → QueueEvent
  -- the packet that has waited longest for the end is taken, or lost
  Take : End → List ℕ → QueueEvent
  Lose : End → List ℕ → QueueEvent
  -- a packet waits for the end that the other end never put
  Forge : End → List ℕ → QueueEvent
