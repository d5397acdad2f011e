-- A switch as it is seen: its ports, and how many frames are kept for them.
use Rattle.std.specs.Prelude.{ℕ, List, Option}

-- A port, whose queue holds frames or what stands for them.
pub record PortView (Frame : Type 0) : Type 0 where
  -- none where the port's end has no open session
  pub address : Option (List ℕ)
  pub groups : List (List ℕ)
  -- how many frames the queue holds at most
  pub room : ℕ
  -- first what has waited longest
  pub queue : List Frame

pub record SwitchView : Type 0 where
  pub ports : List (PortView (List ℕ))
  -- the frames that are kept, each counted once however many queues hold it
  pub kept : ℕ
