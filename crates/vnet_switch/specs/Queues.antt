-- What becomes of ports and their queues.
use Rattle.std.specs.Prelude.{◌≡◌, ℕ, ◌<◌, ◌≤◌, List, [], ◌∷◌, ◌++◌, drop, length, Option, None, slice_get, sum_by}
use Rattle.std.specs.Option.{option_map, option_map_or}
use Rattle.vnet_switch.specs.PortView.{PortView}

module _ {Frame : Type 0} where
  -- no session, and nothing waits
  abbrev pub fresh_port : ℕ → PortView Frame
  fresh_port room = record { address = None; groups = []; room = room; queue = [] }

  -- the queue holds fewer frames than its room, or its room
  abbrev pub QueueHasRoom : PortView Frame → Type 0
  QueueHasRoom port = length port.queue < port.room

  abbrev pub IsFull : PortView Frame → Type 0
  IsFull port = port.room ≤ length port.queue

  abbrev pub with_session : Option (List ℕ) → List (List ℕ) → PortView Frame → PortView Frame
  with_session address groups port = record port { address = address; groups = groups }

  abbrev pub with_last : Frame → PortView Frame → PortView Frame
  with_last frame port = record port { queue = port.queue ++ frame ∷ [] }

  abbrev pub without_first : PortView Frame → PortView Frame
  without_first port = record port { queue = drop 1 port.queue }

  -- what waits for the port k
  abbrev pub waiting_for : ℕ → List (PortView Frame) → List Frame
  waiting_for k ports = option_map_or (λ port. port.queue) (slice_get ports k) []

  -- how much waits for all ports together
  abbrev pub waiting_in_all : List (PortView Frame) → ℕ
  waiting_in_all ports = sum_by (λ port. length port.queue) ports

  -- the ports of a set are changed so, and all others are as they were
  pub record ChangesAt (IsIn : ℕ → Type 0) (change : PortView Frame → PortView Frame)
      (old new : List (PortView Frame)) : Type 0 where
    pub same_length : length new ≡ length old
    pub these : (k : ℕ) → IsIn k → slice_get new k ≡ option_map change (slice_get old k)
    pub others : (k : ℕ) → ¬ (IsIn k) → slice_get new k ≡ slice_get old k

-- the buffer once the frame, if there is one, is written to its front
abbrev pub written_front : Option (List ℕ) → List ℕ → List ℕ
written_front frame buffer = option_map_or (λ bytes. bytes ++ drop (length bytes) buffer) frame buffer
