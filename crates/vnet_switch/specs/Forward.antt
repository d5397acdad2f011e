-- To which ports a frame goes.
use Rattle.std.specs.Prelude.{◌≡◌, ◌≢◌, ◌⊎◌, ℕ, ◌%◌, List, Some, slice_get, slice_index, Contains, IsSomeAnd}
use Rattle.vio_bytes.specs.Ethernet.{broadcast}
use Rattle.vnet_switch.specs.PortView.{PortView}
use Rattle.vnet_switch.specs.declared.cast.Cast.{Cast}
use Rattle.vnet_switch.specs.declared.cast.Cast.TheVariants.{Broadcast, Multicast, Unicast}

-- the first byte of a group's address is odd
abbrev pub IsGroup : List ℕ → Type 0
IsGroup destination = slice_index destination 0 % 2 ≡ 1

-- whom a destination names
abbrev pub IsCast : Cast → List ℕ → Type 0
IsCast Broadcast destination = destination ≡ broadcast
IsCast Multicast destination = (destination ≢ broadcast) × IsGroup destination
IsCast Unicast destination = ¬ (IsGroup destination)

module _ {Frame : Type 0} where
  -- The port has an open session, and the destination is broadcast, a group in its list, or its own address.
  abbrev pub IsFor : List ℕ → PortView Frame → Type 0
  IsFor destination port = IsSomeAnd port.address (λ address.
      (destination ≡ broadcast)
      ⊎ ((IsGroup destination × Contains port.groups destination)
      ⊎ ((¬ (IsGroup destination)) × (address ≡ destination))))

  -- there is a port k, of which this holds
  abbrev pub PortIs : List (PortView Frame) → ℕ → (PortView Frame → Type 0) → Type 0
  PortIs ports k Holds = IsSomeAnd (slice_get ports k) Holds

  -- the port k gets a frame for the destination that came from a port: never that port itself
  abbrev pub GetsFrame : List (PortView Frame) → List ℕ → ℕ → ℕ → Type 0
  GetsFrame ports destination from k = (k ≢ from) × PortIs ports k (IsFor destination)

  -- the port k has this address
  abbrev pub HasAddress : List (PortView Frame) → List ℕ → ℕ → Type 0
  HasAddress ports address k = PortIs ports k (λ port. port.address ≡ Some address)
