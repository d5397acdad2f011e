-- What an end reaches of the ring of the other, by its cookies.
use Rattle.std.specs.Prelude.{◌≡◌, ◌≢◌, ℕ, ◌<◌, ◌≤◌, List, take, slice_index, Option, Some, None}
use Rattle.cookie_copy.specs.declared.fault.CopyFault.{CopyFault}
use Rattle.map_table.specs.declared.cookie.Cookie.{Cookie}
use Rattle.dring.specs.declared.peer.PeerRing.{PeerRing}
use Rattle.dring.specs.declared.peer.RingFault.{RingFault}
use Rattle.dring.specs.declared.peer.RingFault.TheVariants.{Copy, NotReady}
use Rattle.dring.specs.Slots.{ready_state}

-- the cookies that name the ring
abbrev pub ring_cookies : PeerRing → List Cookie
ring_cookies ring = take ring.count ring.cookies

-- a slot of such a ring
pub record IsSlotOf (ring : PeerRing) (slot : ℕ) : Type 0 where
  pub slot_in : slot < ring.slots
  pub few_slots : ring.slots ≤ 256
  pub few_cookies : ring.count ≤ 14

-- why a descriptor isn't fetched: the copy's fault, or the state that these bytes have
abbrev pub RefusesFetch : Option CopyFault → List ℕ → RingFault → Type 0
RefusesFetch fault bytes (Copy why) = fault ≡ Some why
RefusesFetch fault bytes (NotReady state) = (fault ≡ None) × (state ≡ slice_index bytes 0) × (state ≢ ready_state)
