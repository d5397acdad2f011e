-- What always holds of a switch: each kept frame is named by as many queues as it says, so the memory for as many frames
-- as the queues can name is enough.
use Rattle.std.specs.Prelude.{◌≡◌, ◌==◌, ℕ, ◌<◌, ◌≤◌, List, length, Some, count_by, slice_get, sum_by}
use Rattle.vnet_switch.specs.Forward.{HasAddress}
use Rattle.vnet_switch.specs.Kept.{names_at, slot_at, FrameSlots}
use Rattle.vnet_switch.specs.PortView.{PortView}
use Rattle.vnet_switch.specs.declared.kept_frames.KeptFrame.{KeptFrame}

-- how many times the queue of the port names the key
abbrev pub names_by : ℕ → PortView ℕ → ℕ
names_by key port = count_by (λ name. name == key) port.queue

-- how many times the queues of all ports name it
abbrev pub names_in : ℕ → List (PortView ℕ) → ℕ
names_in key ports = sum_by (names_by key) ports

-- some queue names the frame, and it has 14 to 1,514 bytes
pub record IsWholeFrame (frame : KeptFrame) : Type 0 where
  pub named : 0 < frame.names
  pub long : 14 ≤ length frame.bytes
  pub short : length frame.bytes ≤ 1514

-- no queue holds more than its room
abbrev pub AllFit : List (PortView ℕ) → Type 0
AllFit ports = (k : ℕ) (port : PortView ℕ) → slice_get ports k ≡ Some port → length port.queue ≤ port.room

-- no two ports have one address
abbrev pub AddressesDiffer : List (PortView ℕ) → Type 0
AddressesDiffer ports = (address : List ℕ) (j k : ℕ) → HasAddress ports address j → HasAddress ports address k → j ≡ k

pub record IsSound (ports : List (PortView ℕ)) (frames : FrameSlots) : Type 0 where
  pub few : length ports ≤ 32
  pub differ : AddressesDiffer ports
  pub fit : AllFit ports
  pub counted : (key : ℕ) → names_at frames.slots key ≡ names_in key ports
  pub whole : (key : ℕ) (frame : KeptFrame) → slot_at frames.slots key ≡ Some frame → IsWholeFrame frame
  pub enough : sum_by (λ port. port.room) ports ≡ frames.room
