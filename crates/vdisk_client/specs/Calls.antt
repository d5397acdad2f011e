-- The client's calls as steps of a disk's lane: which event an answer is, and what it makes of the channel.
use Rattle.std.specs.Prelude.{◌≡◌, ℕ, List, [], ◌∷◌, length, Result, Ok, Err, ⊤}
use Rattle.ldc_queue.specs.ChannelView.{ChannelView, channel_with, channel_without_first, configured_channel}
use Rattle.ldc_queue.specs.declared.end.End.TheVariants.{A, B}
use Rattle.vdisk_msg.specs.declared.request.Request.{Request}
use Rattle.vdisk_msg.specs.Requests.{BadCount, BadRange, given_count}
use Rattle.lane_models.specs.WireEvent as wire
use Rattle.lane_models.specs.ClientRule.{ClientRule, client_rule}
use Rattle.lane_models.specs.ClientState.{ClientState}
use Rattle.lane_models.specs.ClientStep.{ClientStep}
use Rattle.lane_models.specs.DiskEvent.{Accepted, Admitted, DiskEvent, Done, Full, OnWire, Published, Refused, Works}
use Rattle.lane_models.specs.Seeing.{Seen, seen}
use Rattle.vdisk_client.specs.declared.answers.ClientOut.{ClientOut}
use Rattle.vdisk_client.specs.declared.answers.ClientOut.TheVariants as out
use Rattle.vdisk_client.specs.declared.answers.IssueFault.{IssueFault}
use Rattle.vdisk_client.specs.declared.answers.IssueFault.TheVariants as fault

-- what the client sees of the channel, whose end A is its own
abbrev pub sees : ChannelView → Seen
sees c = seen A c.entries c.wire

-- the rule of its next step
abbrev pub rule_of : ClientState → ChannelView → ClientRule
rule_of s c = client_rule s (sees c)

-- A step's answer as an event of the lane, where these are the bytes of the last completion. No frames are lost at a
-- disk.
abbrev pub client_event : ClientOut → List ℕ → DiskEvent
client_event out.Idle last = OnWire (wire.Idle A)
client_event out.Blocked last = OnWire (wire.Blocked A)
client_event out.Joined last = OnWire (wire.Joined A 0)
client_event (out.Took packet opens) last = OnWire (wire.Took A packet opens)
client_event (out.Sent packet opens) last = OnWire (wire.Sent A packet opens)
client_event (out.Published id) last = Works (Published id)
client_event (out.Done id operation status len) last = Works (Done id operation status last)
client_event (out.Reset cause packet) last = OnWire (wire.Reset A cause packet 0)

-- the channel after it
abbrev pub channel_after : ClientOut → ChannelView → ChannelView
channel_after out.Idle c = c
channel_after out.Blocked c = c
channel_after out.Joined c = configured_channel A c
channel_after (out.Took packet opens) c = channel_without_first A c
channel_after (out.Sent packet opens) c = channel_with B packet c
channel_after (out.Published id) c = c
channel_after (out.Done id operation status len) c = c
channel_after (out.Reset cause packet) c = configured_channel A c

-- a completion tells how many bytes it carries
abbrev pub TellsLength : ClientOut → List ℕ → Type 0
TellsLength (out.Done id operation status len) last = len ≡ length last
TellsLength out.Idle last = ⊤
TellsLength out.Blocked last = ⊤
TellsLength out.Joined last = ⊤
TellsLength (out.Took packet opens) last = ⊤
TellsLength (out.Sent packet opens) last = ⊤
TellsLength (out.Published id) last = ⊤
TellsLength (out.Reset cause packet) last = ⊤

-- THE STEP of a client, with its channel and its memory before and after: the lane's step, exactly, by its answer
pub record Steps (s : ClientState) (c : ChannelView) (memory : List ℕ) (answer : ClientOut) (t : ClientState) (d : ChannelView) (new : List ℕ) : Type 0 where
  pub step : ClientStep s (sees c) memory (client_event answer t.last) t new
  pub channel : d ≡ channel_after answer c
  pub count : TellsLength answer t.last

-- what comes of a request
abbrev pub admitted : Result ℕ IssueFault → Request → Admitted
admitted (Ok id) request = Accepted id request
admitted (Err fault.Count) request = Refused BadCount request
admitted (Err fault.Range) request = Refused BadRange request
admitted (Err fault.Full) request = Full request

-- what the first of the pending requests gives where it succeeds
abbrev pub front_count : List Request → ℕ
front_count [] = 0
front_count (request ∷ requests) = given_count request
