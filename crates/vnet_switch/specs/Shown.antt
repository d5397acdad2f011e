-- A switch as its callers see it: frames in the place of their keys.
use Rattle.std.specs.Prelude.{ℕ, List, map}
use Rattle.vnet_switch.specs.Kept.{bytes_at, kept_count, FrameSlots}
use Rattle.vnet_switch.specs.PortView.{PortView, SwitchView}
use Rattle.vnet_switch.specs.Queues.{fresh_port}
use Rattle.vnet_switch.specs.declared.kept_frames.KeptFrame.{KeptFrame}
use Rattle.std.specs.Prelude.{Option}

abbrev pub port_shown : List (Option KeptFrame) → PortView ℕ → PortView (List ℕ)
port_shown slots port = record {
  address = port.address;
  groups = port.groups;
  room = port.room;
  queue = map (bytes_at slots) port.queue;
}

abbrev pub switch_shown : List (PortView ℕ) → FrameSlots → SwitchView
switch_shown ports frames = record { ports = map (port_shown frames.slots) ports; kept = kept_count frames.slots }

abbrev pub fresh_switch : List ℕ → SwitchView
fresh_switch rooms = record { ports = map fresh_port rooms; kept = 0 }
