-- A step of an end, over its channel and the memories, as what the port's model says of it.
use Rattle.std.specs.Prelude.{◌≡◌, ℕ, List, length, Option, ⊤}
use Rattle.ldc_queue.specs.ChannelView.{ChannelView, channel_with, channel_without_first, configured_channel}
use Rattle.ldc_queue.specs.declared.end.End.{End}
use Rattle.ldc_queue.specs.Wire.{peer_of}
use Rattle.map_table.specs.declared.table.Entry.{Entry}
use Rattle.lane_models.specs.Seeing.{Seen, seen}
use Rattle.port_frames.specs.Memories.{reach_over}
use Rattle.lane_models.specs.NetEndRule.{NetRule, port_rule}
use Rattle.lane_models.specs.NetEndState.{NetEndState}
use Rattle.lane_models.specs.NetEndStep.{Blocked, Frame, Idle, Joined, NetAnswer, NetEndStep, Published, Reset, Sent, Took}
use Rattle.vnet_port.specs.Calls.{end_of, role_of}
use Rattle.vnet_port.specs.declared.net_out.NetOut.{NetOut}
use Rattle.vnet_port.specs.declared.net_out.NetOut.TheVariants as out

-- what the end sees of the channel
abbrev pub sees : NetEndState → ChannelView → Seen
sees s c = seen (end_of s) c.entries c.wire

-- the rule of its next step
abbrev pub rule_of : NetEndState → ChannelView → NetRule
rule_of s c = port_rule (role_of s) s (sees s c)

-- the answer as the model has it, where these are the bytes of the last frame
abbrev pub net_answer : NetOut → List ℕ → NetAnswer
net_answer out.Idle last = Idle
net_answer out.Blocked last = Blocked
net_answer (out.Joined lost) last = Joined lost
net_answer (out.Took packet opens) last = Took packet opens
net_answer (out.Sent packet opens) last = Sent packet opens
net_answer (out.Published id) last = Published id
net_answer (out.Frame len) last = Frame last
net_answer (out.Reset cause packet lost) last = Reset cause packet lost

-- the channel after it. A packet for which the end resets itself has left a queue that is emptied.
abbrev pub channel_after : End → NetOut → ChannelView → ChannelView
channel_after e out.Idle c = c
channel_after e out.Blocked c = c
channel_after e (out.Joined lost) c = configured_channel e c
channel_after e (out.Took packet opens) c = channel_without_first e c
channel_after e (out.Sent packet opens) c = channel_with (peer_of e) packet c
channel_after e (out.Published id) c = c
channel_after e (out.Frame len) c = c
channel_after e (out.Reset cause packet lost) c = configured_channel e c

-- a frame's answer tells how many bytes it has
abbrev pub TellsLength : NetOut → List ℕ → Type 0
TellsLength (out.Frame len) last = len ≡ length last
TellsLength out.Idle last = ⊤
TellsLength out.Blocked last = ⊤
TellsLength (out.Joined lost) last = ⊤
TellsLength (out.Took packet opens) last = ⊤
TellsLength (out.Sent packet opens) last = ⊤
TellsLength (out.Published id) last = ⊤
TellsLength (out.Reset cause packet lost) last = ⊤

-- THE STEP of an end, with its channel, its memory and the peer's before and after: the model's, exactly, by its answer
pub record Steps (s : NetEndState) (c : ChannelView) (memory : List ℕ) (table : List (Option Entry)) (peer : List ℕ) (answer : NetOut) (t : NetEndState) (d : ChannelView) (own new : List ℕ) : Type 0 where
  pub step : NetEndStep (role_of s) s (sees s c) memory (reach_over c table peer) (net_answer answer t.last) (record { end = t; own = own; peer = new })
  pub channel : d ≡ channel_after (end_of s) answer c
  pub count : TellsLength answer t.last

-- a step that doesn't reach the peer's memory
abbrev pub StepsAlone : NetEndState → ChannelView → List ℕ → NetOut → NetEndState → ChannelView → List ℕ → Type 0
StepsAlone s c memory answer t d own = (table : List (Option Entry)) (peer : List ℕ) → Steps s c memory table peer answer t d own peer
