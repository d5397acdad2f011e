-- What a packet that was put brings about, by what the link is after it.
use Rattle.std.specs.Prelude.{◌≡◌, ◌≢◌, ℕ, ◌-◌, ◌^◌, ◌<◌, Bool, true, false, if◌then◌else◌, List, [], Option, IfSome, is_some}
use Rattle.dring.specs.Slots.{free_slots}
use Rattle.vio_bytes.specs.Place.{put_at}
use Rattle.ldc_link.specs.Calls.{Puts as PutsPacket}
use Rattle.ldc_link.specs.LinkState.{LinkState, is_up}
use Rattle.ldc_link.specs.Putting.{owes}
use Rattle.lane_models.specs.ClientPutting.{client_opens, client_put, is_announcing, memory_put, session_behind}
use Rattle.lane_models.specs.ClientState.{ClientSession, ClientState}
use Rattle.lane_models.specs.EndPuts.{ComesUp, EndsOwn, EndsHandshake, Goes, PutKind, handshake_behind}
use Rattle.ldc_queue.specs.ChannelView.{ChannelView}
use Rattle.vdisk_client.specs.Calls.{channel_after, sees}
use Rattle.vdisk_client.specs.declared.answers.ClientOut.{ClientOut}
use Rattle.vdisk_client.specs.declared.answers.ClientOut.TheVariants as out
use Rattle.vdisk_client.specs.declared.putting.PutOf.{PutOf}
use Rattle.vdisk_client.specs.declared.putting.PutOf.TheVariants as the_put

-- what the packet is that is put next, of a link that is up or isn't: a part of the client's own INFO, or of a message
-- that the handshake owes
abbrev pub put_of : Bool → Bool → PutOf
put_of false own = the_put.Control
put_of true true = the_put.Own
put_of true false = the_put.Handshake

-- what such a packet brings about, by the link after it: the link comes up by RDX, or a message ends where no more is owed
abbrev pub kind_of : PutOf → LinkState → PutKind
kind_of the_put.Control k = if is_up k then ComesUp else Goes
kind_of the_put.Handshake k = if owes k then Goes else EndsHandshake
kind_of the_put.Own k = if owes k then Goes else EndsOwn

-- the handshake and the session after it, and the memory, whose ring is cleared as the session opens
abbrev pub noted : PutKind → ClientState → ClientState
noted kind s = record s { handshake = handshake_behind kind s.handshake; session = session_behind kind s }

abbrev pub cleared_if : Bool → ℕ → List ℕ → List ℕ
cleared_if opens slots memory = if opens then put_at 0 (free_slots 128 slots) memory else memory

-- the client with this message in its link puts the next packet of it, or there is no room
abbrev pub PutsHeld : ClientState → ChannelView → List ℕ → ClientOut → ClientState → ChannelView → List ℕ → Type 0
PutsHeld held c memory (out.Sent packet opens) t d new =
    ((sees c).room ≡ true) × PutsPacket held.link packet t.link × (opens ≡ client_opens held)
    × (t ≡ client_put held) × (new ≡ memory_put held memory) × (d ≡ channel_after (out.Sent packet opens) c)
PutsHeld held c memory out.Blocked t d new = ((sees c).room ≡ false) × (t ≡ held) × (new ≡ memory) × (d ≡ c)
PutsHeld held c memory _ t d new = ⊥

-- an INFO more can be counted, and so can one that the link holds
abbrev pub CountsMore : Option ClientSession → Type 0
CountsMore session = IfSome session (λ (x : ClientSession). x.infos < 2 ^ 64 - 1)

-- an INFO that the link holds can be counted
abbrev pub CanCount : Option ClientSession → Type 0
CanCount session = IfSome session (λ (x : ClientSession). x.announcing ≡ true → x.infos < 2 ^ 64 - 1)

-- a message that the link holds is the client's own or owed by the handshake, and an INFO can be counted
pub record HoldsOwn (s : ClientState) : Type 0 where
  pub owed : s.link.to_send ≢ [] → is_announcing s.session ≡ false → is_some s.handshake.owed ≡ true
  pub infos : CanCount s.session
