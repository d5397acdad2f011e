-- What putting a frame's key into the queues of a set of ports comes to.
use Rattle.std.specs.Prelude.{◌≡◌, ◌≢◌, ◌⊎◌, ℕ, ◌+◌, ◌<◌, ◌≤◌, ◌↔◌, Bool, true, false, List, sum_by, IsBitSet}
use Rattle.vnet_switch.specs.Forward.{PortIs}
use Rattle.vnet_switch.specs.Named.{names_in}
use Rattle.vnet_switch.specs.PortSet.{IsSetOf, WithPort}
use Rattle.vnet_switch.specs.PortView.{PortView}
use Rattle.vnet_switch.specs.Queues.{waiting_in_all, with_last, ChangesAt, QueueHasRoom, IsFull}
use Rattle.vnet_switch.specs.declared.forwarding.Offered.{Offered}

pub record TakesKey (k key : ℕ) (port : PortView ℕ) (offered : Offered) (new_port : PortView ℕ) (new_offered : Offered)
    : Type 0 where
  pub room : QueueHasRoom port
  pub is : new_port ≡ with_last key port
  pub out : WithPort offered.switched.out k new_offered.switched.out
  pub full : new_offered.switched.full ≡ offered.switched.full
  pub names : new_offered.names ≡ offered.names + 1

pub record Declines (k : ℕ) (port : PortView ℕ) (offered : Offered) (new_port : PortView ℕ) (new_offered : Offered) :
    Type 0 where
  pub no_room : IsFull port
  pub is : new_port ≡ port
  pub out : new_offered.switched.out ≡ offered.switched.out
  pub full : WithPort offered.switched.full k new_offered.switched.full
  pub names : new_offered.names ≡ offered.names

-- The port k was offered the key: it took it and is counted, or was full. One that doesn't belong to the set was offered
-- nothing.
abbrev pub OffersTo : Bool → ℕ → ℕ → PortView ℕ → Offered → PortView ℕ → Offered → Type 0
OffersTo false k key port offered new_port new_offered = (new_port ≡ port) × (new_offered ≡ offered)
OffersTo true k key port offered new_port new_offered =
    TakesKey k key port offered new_port new_offered ⊎ Declines k port offered new_port new_offered

-- the first ports of the set, those below the limit, were offered the key
pub record OffersBelow (limit : ℕ) (old : List (PortView ℕ)) (set key : ℕ) (offered : Offered)
    (new : List (PortView ℕ)) : Type 0 where
  pub out : IsSetOf offered.switched.out (λ k. (k < limit) × (IsBitSet set k × PortIs old k QueueHasRoom))
  pub full : IsSetOf offered.switched.full (λ k. (k < limit) × (IsBitSet set k × PortIs old k IsFull))
  pub queues : ChangesAt (IsBitSet offered.switched.out) (with_last key) old new
  -- how many names the key has won, and that no other has
  pub names : names_in key new ≡ names_in key old + offered.names
  pub other_names : (other : ℕ) → other ≢ key → names_in other new ≡ names_in other old
  pub waiting : waiting_in_all new ≡ waiting_in_all old + offered.names
  pub none : (offered.names ≡ 0) ↔ (offered.switched.out ≡ 0)
  pub few : offered.names ≤ limit
  pub rooms : sum_by (λ port. port.room) new ≡ sum_by (λ port. port.room) old
