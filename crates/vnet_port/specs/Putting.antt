-- What a packet that was put brings about, by what the link is after it.
use Rattle.std.specs.Prelude.{◌≡◌, ℕ, ◌≤◌, Bool, true, false, if◌then◌else◌, List, [], length, is_none}
use Rattle.ldc_link.specs.Calls.{Puts as PutsPacket}
use Rattle.ldc_link.specs.LinkState.{LinkState, is_up}
use Rattle.ldc_link.specs.Putting.{owes}
use Rattle.ldc_queue.specs.ChannelView.{ChannelView}
use Rattle.lane_models.specs.EndPuts.{ComesUp, EndsHandshake, EndsOwn, Goes, PutKind, handshake_behind, put_opens}
use Rattle.lane_models.specs.NetEndPutting.{cleared_by_put, cleared_ring, net_opens, net_put}
use Rattle.lane_models.specs.NetEndState.{NetEndState, opened_net_end}
use Rattle.vnet_port.specs.Calls.{end_of, role_of}
use Rattle.vnet_port.specs.Stepping.{channel_after, sees}
use Rattle.vnet_port.specs.declared.net_out.NetOut.{NetOut}
use Rattle.vnet_port.specs.declared.net_out.NetOut.TheVariants as out
use Rattle.vnet_port.specs.declared.putting.PutOf.{PutOf}
use Rattle.vnet_port.specs.declared.putting.PutOf.TheVariants as the_put

-- what the packet is that is put next, of a link that is up or isn't: a part of a message of the session, or of one that
-- the handshake owes
abbrev pub put_of : Bool → Bool → PutOf
put_of false own = the_put.Control
put_of true true = the_put.Own
put_of true false = the_put.Handshake

-- a message is of the session where the handshake owes none
abbrev pub next_put : NetEndState → PutOf
next_put s = put_of (is_up s.link) (is_none s.handshake.owed)

-- what such a packet brings about, by the link after it: the link comes up by RDX, or a message ends where no more is owed
abbrev pub kind_of : PutOf → LinkState → PutKind
kind_of the_put.Control k = if is_up k then ComesUp else Goes
kind_of the_put.Handshake k = if owes k then Goes else EndsHandshake
kind_of the_put.Own k = if owes k then Goes else EndsOwn

-- the session opens, and the ring is cleared
abbrev pub opened_if : Bool → NetEndState → NetEndState
opened_if true s = opened_net_end s
opened_if false s = s

abbrev pub cleared_if : Bool → ℕ → List ℕ → List ℕ
cleared_if true slots memory = cleared_ring slots memory
cleared_if false slots memory = memory

abbrev pub noted : PutKind → NetEndState → NetEndState
noted kind s = opened_if (put_opens kind s.handshake) (record s { handshake = handshake_behind kind s.handshake })

-- the end with this message in its link puts the next packet of it, or there is no room
abbrev pub PutsHeld : NetEndState → ChannelView → List ℕ → NetOut → NetEndState → ChannelView → List ℕ → Type 0
PutsHeld held c memory (out.Sent packet opens) t d new =
    ((sees held c).room ≡ true) × PutsPacket held.link packet t.link × (opens ≡ net_opens held)
    × (t ≡ net_put (role_of held) held) × (new ≡ cleared_by_put (role_of held) (net_opens held) held.slots memory)
    × (d ≡ channel_after (end_of held) (out.Sent packet opens) c)
PutsHeld held c memory out.Blocked t d new = ((sees held c).room ≡ false) × (t ≡ held) × (new ≡ memory) × (d ≡ c)
PutsHeld held c memory _ t d new = ⊥

-- an end whose session may open by a put
pub record MayOpen (s : NetEndState) : Type 0 where
  pub same_role : s.handshake.role ≡ s.link.role
  pub ids : length s.frames ≤ s.next_id

-- an end that can say a message
pub record CanSay (s : NetEndState) : Type 0 where
  pub link : is_up s.link ≡ true
  pub free : s.link.to_send ≡ []
  pub may : MayOpen s
