-- What sending and taking do to a link and its channel, by their answers.
use Rattle.std.specs.Prelude.{◌≡◌, ℕ, true, List, [], Some, None, slice_get}
use Rattle.ldc_packet.specs.declared.packet.Packet.{Packet}
use Rattle.ldc_packet.specs.Spelling.{canonical}
use Rattle.ldc_queue.specs.declared.end.End.{End}
use Rattle.ldc_queue.specs.ChannelView.{ChannelView, HasRoom, IsFull, channel_with, channel_without_first}
use Rattle.ldc_queue.specs.Wire.{peer_of, waiting_for}
use Rattle.ldc_link.specs.declared.answers.SendOut.{SendOut}
use Rattle.ldc_link.specs.declared.answers.SendOut.TheVariants as send
use Rattle.ldc_link.specs.declared.answers.TakeOut.{TakeOut}
use Rattle.ldc_link.specs.declared.answers.TakeOut.TheVariants as taken
use Rattle.ldc_link.specs.LinkState.{LinkState}
use Rattle.ldc_link.specs.Putting.{link_puts, owes}
use Rattle.ldc_link.specs.Taking.{Heard, TakesBytes, Unheard}

-- the canonical bytes of the packet that is put next are put
pub record Puts (k : LinkState) (bytes : List ℕ) (behind : LinkState) : Type 0 where
  pub packet : Packet
  pub next : link_puts k ≡ Some (packet, behind)
  pub spelled : bytes ≡ canonical packet

abbrev pub Sends : End → LinkState → ChannelView → SendOut → LinkState → ChannelView → Type 0
Sends e k c send.Nothing behind d = (link_puts k ≡ None) × (behind ≡ k) × (d ≡ c)
Sends e k c send.Blocked behind d = (owes k ≡ true) × IsFull (peer_of e) c × (behind ≡ k) × (d ≡ c)
Sends e k c (send.Sent bytes) behind d =
    Puts k bytes behind × HasRoom (peer_of e) c × (d ≡ channel_with (peer_of e) bytes c)

-- the packet has waited longest for the end, and goes
abbrev pub Leaves : End → ChannelView → List ℕ → ChannelView → Type 0
Leaves e c bytes d = (slice_get (waiting_for e c.wire) 0 ≡ Some bytes) × (d ≡ channel_without_first e c)

abbrev pub Takes : End → LinkState → ChannelView → TakeOut → LinkState → ChannelView → Type 0
Takes e k c taken.Nothing behind d = (waiting_for e c.wire ≡ []) × (behind ≡ k) × (d ≡ c)
Takes e k c (taken.Took bytes) behind d = Leaves e c bytes d × TakesBytes k bytes (Heard behind)
Takes e k c (taken.Fault bytes cause) behind d = Leaves e c bytes d × TakesBytes k bytes (Unheard cause) × (behind ≡ k)
