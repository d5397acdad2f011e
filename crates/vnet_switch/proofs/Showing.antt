-- What a switch's callers see of what becomes of its ports.
use Rattle.std.proofs.Common.{◌≡◌, ◌≢◌, ◌⊎◌, ◌↔◌, ℕ, zero, suc, ◌<◌, List, [], ◌∷◌, ◌++◌, length, map, drop, sum_by, Option, Some, None, option_map, slice_get, slice_set, Contains, IsBitSet, IsSomeAnd, inl, inr, arith, sym, subst, ap, ap₂, ◌∙◌, refl}
use Rattle.std.proofs.lemmas.Bool.{cases_eq}
use Rattle.std.proofs.lemmas.List.{length-map, map-append}
use Rattle.std.proofs.lemmas.List.Sums.{sum_by-cons}
use Rattle.std.proofs.lemmas.Option.{slice_get-map, slice_get_within}
use Rattle.std.specs.Option.{option_map_or}
use Rattle.vnet_switch.proofs.Bits.{nothing_in_zero}
use Rattle.vnet_switch.proofs.Changes.{changes_one, changes_shown, port_found, port_is, port_shown_is}
use Rattle.vnet_switch.proofs.Counting.{names_by_within}
use Rattle.vnet_switch.proofs.Pigeons.{same_as, same_as_self}
use Rattle.vnet_switch.proofs.Sound.{next_sound, slot_left, slot_taken, unnamed_whole, Taken}
use Rattle.vio_bytes.specs.Ethernet.{broadcast}
use Rattle.vnet_switch.specs.Forward.{GetsFrame, HasAddress, IsFor, IsGroup, PortIs}
use Rattle.vnet_switch.specs.Kept.{bytes_at, names_at, slot_at, unnamed, FrameSlots, KeepsNamed}
use Rattle.vnet_switch.specs.Named.{names_in, IsSound}
use Rattle.vnet_switch.specs.Offering.{OffersBelow}
use Rattle.vnet_switch.specs.PortSet.{IsSetOf}
use Rattle.vnet_switch.specs.PortView.{PortView}
use Rattle.vnet_switch.specs.Queues.{waiting_for, with_last, with_session, without_first, ChangesAt, QueueHasRoom, IsFull}
use Rattle.vnet_switch.specs.Shown.{port_shown}
use Rattle.vnet_switch.specs.declared.forwarding.Offered.{Offered}
use Rattle.vnet_switch.specs.declared.kept_frames.KeptFrame.{KeptFrame}

-- keys that are named have the same bytes, so a queue of them shows the same frames
same_frames : (now then : ℕ → List ℕ) (keys : List ℕ) →
    ((key : ℕ) → 0 < sum_by (same_as key) keys → now key ≡ then key) → map now keys ≡ map then keys
same_frames now then [] same = refl
same_frames now then (key ∷ keys) same =
    ap₂ (λ (bytes : List ℕ) (rest : List (List ℕ)). bytes ∷ rest)
    (same key (omega (arith, sum_by-cons (same_as key) key keys, same_as_self key)))
    (same_frames now then keys (λ other named. same other (omega (arith, sum_by-cons (same_as other) key keys, named))))

pub gets_shown : (slots : List (Option KeptFrame)) (ports : List (PortView ℕ)) (destination : List ℕ) (from k : ℕ)
    → GetsFrame ports destination from k ↔ GetsFrame (map (port_shown slots) ports) destination from k
gets_shown slots ports destination from k =
    let same : PortIs ports k (IsFor destination) ↔ PortIs (map (port_shown slots) ports) k (IsFor destination) =
    port_shown_is (port_shown slots) ports k (IsFor destination) (IsFor destination) (λ port. (λ x. x, λ x. x)) in
    (λ gets. (gets.0, same.0 gets.1), λ gets. (gets.0, same.1 gets.1))

pub address_shown : (slots : List (Option KeptFrame)) (ports : List (PortView ℕ)) (address : List ℕ) (k : ℕ)
    → HasAddress ports address k ↔ HasAddress (map (port_shown slots) ports) address k
address_shown slots ports address k =
    port_shown_is (port_shown slots) ports k (λ port. port.address ≡ Some address)
    (λ port. port.address ≡ Some address) (λ port. (λ x. x, λ x. x))

room_shown : (slots : List (Option KeptFrame)) (ports : List (PortView ℕ)) (k : ℕ)
    → PortIs ports k QueueHasRoom ↔ PortIs (map (port_shown slots) ports) k QueueHasRoom
room_shown slots ports k =
    port_shown_is (port_shown slots) ports k QueueHasRoom QueueHasRoom (λ port. (
      λ room. omega (arith, room, length-map port.queue (bytes_at slots)),
      λ room. omega (arith, room, length-map port.queue (bytes_at slots)),
    ))

full_shown : (slots : List (Option KeptFrame)) (ports : List (PortView ℕ)) (k : ℕ)
    → PortIs ports k IsFull ↔ PortIs (map (port_shown slots) ports) k IsFull
full_shown slots ports k =
    port_shown_is (port_shown slots) ports k IsFull IsFull (λ port. (
      λ full. omega (arith, full, length-map port.queue (bytes_at slots)),
      λ full. omega (arith, full, length-map port.queue (bytes_at slots)),
    ))

within_ports : (ports : List (PortView ℕ)) (k : ℕ) (Holds : PortView ℕ → Type 0) → PortIs ports k Holds
    → k < length ports
within_ports ports k Holds holds =
    let port : (port : PortView ℕ) × (slice_get ports k ≡ Some port) × Holds port = port_found ports k Holds holds in
    slice_get_within ports k port.0 port.1

-- which ports got a frame, and which were full
pub out_shown : (slots : List (Option KeptFrame)) (ports new_ports : List (PortView ℕ)) (set key : ℕ)
    (offered : Offered) (destination : List ℕ) (from : ℕ) → IsSetOf set (GetsFrame ports destination from)
    → OffersBelow (length ports) ports set key offered new_ports
    → IsSetOf offered.switched.out (λ k. GetsFrame (map (port_shown slots) ports) destination from k × PortIs
    (map (port_shown slots) ports) k QueueHasRoom)
out_shown slots ports new_ports set key offered destination from is_set offers = λ k. (
  λ in_out.
      let was : (k < length ports) × (IsBitSet set k × PortIs ports k QueueHasRoom) = (offers.out k).0 in_out in
      ((gets_shown slots ports destination from k).0 ((is_set k).0 was.1.0), (room_shown slots ports k).0 was.1.1),
  λ both.
      let room : PortIs ports k QueueHasRoom = (room_shown slots ports k).1 both.1 in
      (offers.out k).1 (
        within_ports ports k QueueHasRoom room,
        ((is_set k).1 ((gets_shown slots ports destination from k).1 both.0), room),
      ),
)

pub full_set_shown : (slots : List (Option KeptFrame)) (ports new_ports : List (PortView ℕ)) (set key : ℕ)
    (offered : Offered) (destination : List ℕ) (from : ℕ) → IsSetOf set (GetsFrame ports destination from)
    → OffersBelow (length ports) ports set key offered new_ports
    → IsSetOf offered.switched.full (λ k. GetsFrame (map (port_shown slots) ports) destination from k × PortIs
    (map (port_shown slots) ports) k IsFull)
full_set_shown slots ports new_ports set key offered destination from is_set offers = λ k. (
  λ in_full.
      let was : (k < length ports) × (IsBitSet set k × PortIs ports k IsFull) = (offers.full k).0 in_full in
      ((gets_shown slots ports destination from k).0 ((is_set k).0 was.1.0), (full_shown slots ports k).0 was.1.1),
  λ both.
      let full : PortIs ports k IsFull = (full_shown slots ports k).1 both.1 in
      (offers.full k).1 (
        within_ports ports k IsFull full,
        ((is_set k).1 ((gets_shown slots ports destination from k).1 both.0), full),
      ),
)

own_address : (destination : List ℕ) (address : Option (List ℕ)) (groups : List (List ℕ)) → ¬ (IsGroup destination)
    → IsSomeAnd address (λ own. (destination ≡ broadcast) ⊎
    ((IsGroup destination × Contains groups destination) ⊎ ((¬ (IsGroup destination)) × (own ≡ destination))))
    → address ≡ Some destination
own_address destination None groups single is_for = absurd is_for
own_address destination (Some own) groups single (inl all) = absurd (single (subst IsGroup (sym all) refl))
own_address destination (Some own) groups single (inr (inl group)) = absurd (single group.0)
own_address destination (Some own) groups single (inr (inr one)) = ap Some one.1

-- a frame for one address goes to one port
for_address : (ports : List (PortView ℕ)) (destination : List ℕ) (k : ℕ) → ¬ (IsGroup destination)
    → PortIs ports k (IsFor destination) → HasAddress ports destination k
for_address ports destination k single is_for =
    let port : (port : PortView ℕ) × (slice_get ports k ≡ Some port) × IsFor destination port = port_found ports k
    (IsFor destination) is_for in
    port_is ports k port.0 (λ p. p.address ≡ Some destination) port.1
    (own_address destination port.0.address port.0.groups single port.2)

pub one_port : (ports : List (PortView ℕ)) (frames : FrameSlots) (destination : List ℕ) (from set : ℕ)
    → IsSound ports frames → IsSetOf set (GetsFrame ports destination from) → (j k : ℕ) → ¬ (IsGroup destination)
    → IsBitSet set j → IsBitSet set k → j ≡ k
one_port ports frames destination from set sound is_set j k single in_j in_k =
    sound.differ destination j k (for_address ports destination j single ((is_set j).0 in_j).1)
    (for_address ports destination k single ((is_set k).0 in_k).1)

-- ---- a frame is accepted

-- a frame that was named has its bytes
accept_bytes : (ports new_ports : List (PortView ℕ)) (frames new_frames : FrameSlots) (key : ℕ) (bytes : List ℕ)
    (names : ℕ) → key ≡ frames.next_key → slot_at frames.slots key ≡ None → IsSound ports frames
    → KeepsNamed frames bytes names new_frames → (other : ℕ) → 0 < names_in other ports
    → bytes_at new_frames.slots other ≡ bytes_at frames.slots other
accept_bytes ports new_ports frames new_frames key bytes zero at free sound keeps other named =
    ap (λ (f : FrameSlots). bytes_at f.slots other) keeps
accept_bytes ports new_ports frames new_frames key bytes (suc n) at free sound keeps other named =
    let names_then : names_at frames.slots key ≡ 0 = ap
    (λ (slot : Option KeptFrame). option_map_or (λ (f : KeptFrame). f.names) slot 0) free in
    let apart : other ≢ frames.next_key = λ same. absurd
    (omega (arith, names_then, sound.counted key, subst (λ (k : ℕ). 0 < names_in k ports) (same ∙ sym at) named)) in
    ap (λ (slot : Option KeptFrame). option_map_or (λ (f : KeptFrame). f.bytes) slot []) (keeps.others other apart)

new_bytes : (frames new_frames : FrameSlots) (key : ℕ) (bytes : List ℕ) (names : ℕ) → key ≡ frames.next_key
    → 0 < names → KeepsNamed frames bytes names new_frames → bytes_at new_frames.slots key ≡ bytes
new_bytes frames new_frames key bytes zero at some keeps = absurd (omega (arith, some))
new_bytes frames new_frames key bytes (suc n) at some keeps =
    ap (λ (k : ℕ). bytes_at new_frames.slots k) at ∙ ap
    (λ (slot : Option KeptFrame). option_map_or (λ (f : KeptFrame). f.bytes) slot []) keeps.it

-- the same port with another queue
abbrev with_queue : PortView ℕ → List (List ℕ) → PortView (List ℕ)
with_queue port queue = record { address = port.address; groups = port.groups; room = port.room; queue = queue }

pub accept_shown : (ports new_ports : List (PortView ℕ)) (frames new_frames : FrameSlots) (set key : ℕ)
    (offered : Offered) (bytes : List ℕ) → key ≡ frames.next_key → slot_at frames.slots key ≡ None
    → IsSound ports frames → OffersBelow (length ports) ports set key offered new_ports
    → KeepsNamed frames bytes offered.names new_frames
    → ChangesAt (IsBitSet offered.switched.out) (with_last bytes) (map (port_shown frames.slots) ports)
    (map (port_shown new_frames.slots) new_ports)
accept_shown ports new_ports frames new_frames set key offered bytes at free sound offers keeps =
    let stay : (k : ℕ) (port : PortView ℕ) → slice_get ports k ≡ Some port
    → map (bytes_at new_frames.slots) port.queue ≡ map (bytes_at frames.slots) port.queue =
    λ k port is. same_frames (bytes_at new_frames.slots) (bytes_at frames.slots) port.queue (λ other named.
    accept_bytes ports new_ports frames new_frames key bytes offered.names at free sound keeps other
    (omega (arith, named, names_by_within ports k port other is))) in
    changes_shown (IsBitSet offered.switched.out) (with_last key) (with_last bytes) (port_shown frames.slots)
    (port_shown new_frames.slots) ports new_ports offers.queues
    (λ k port in_out is.
    let some : 0 < offered.names = elim (cases_eq offered.names 0) [
      | inl no_names ↦ absurd (nothing_in_zero k (subst (λ (n : ℕ). IsBitSet n k) (offers.none.0 no_names) in_out))
      | inr other ↦ omega (arith, other)
    ] in
    ap (with_queue port) (
    map-append (bytes_at new_frames.slots) port.queue (key ∷ [])
    ∙ ap₂ (λ (front : List (List ℕ)) (last : List ℕ). front ++ last ∷ []) (stay k port is)
    (new_bytes frames new_frames key bytes offered.names at some keeps)))
    (λ k port outside is. ap (with_queue port) (stay k port is))

-- ---- a frame is taken

pub waits_first : (slots : List (Option KeptFrame)) (ports : List (PortView ℕ)) (k : ℕ) (port : PortView ℕ)
    → slice_get ports k ≡ Some port → slice_get (waiting_for k (map (port_shown slots) ports)) 0 ≡ option_map
    (bytes_at slots) (slice_get port.queue 0)
waits_first slots ports k port is =
    ap (λ (o : Option (PortView (List ℕ))). slice_get (option_map_or (λ (p : PortView (List ℕ)). p.queue) o []) 0)
    (slice_get-map (port_shown slots) ports k ∙ ap (option_map (port_shown slots)) is)
    ∙ slice_get-map (bytes_at slots) port.queue 0

pub waits_all : (slots : List (Option KeptFrame)) (ports : List (PortView ℕ)) (k : ℕ) (port : PortView ℕ)
    → slice_get ports k ≡ Some port → waiting_for k (map (port_shown slots) ports) ≡ map (bytes_at slots) port.queue
waits_all slots ports k port is =
    ap (λ (o : Option (PortView (List ℕ))). option_map_or (λ (p : PortView (List ℕ)). p.queue) o [])
    (slice_get-map (port_shown slots) ports k ∙ ap (option_map (port_shown slots)) is)

some_left : (slot : Option KeptFrame) → 0 < option_map_or (λ (f : KeptFrame). f.names) slot 0
    → (left : KeptFrame) × (slot ≡ Some left)
some_left None named = absurd (omega (arith, named))
some_left (Some left) named = (left, refl)

next_bytes : (ports : List (PortView ℕ)) (frames new_frames : FrameSlots) (k : ℕ) (port : PortView ℕ) (key : ℕ)
    (frame : KeptFrame) → IsSound ports frames → Taken ports frames new_frames k port key frame → (other : ℕ)
    → 0 < names_in other (slice_set ports k (without_first port))
    → bytes_at new_frames.slots other ≡ bytes_at frames.slots other
next_bytes ports frames new_frames k port key frame sound taken other named = elim (cases_eq other key) [
  | inl same ↦
      let new_sound : IsSound (slice_set ports k (without_first port)) new_frames = next_sound ports frames
      new_frames k port key frame sound taken in
      let it : slot_at new_frames.slots key ≡ unnamed (Some frame) = slot_taken ports frames new_frames k port key
      frame taken in
      let still : 0 < names_at new_frames.slots key = subst (λ (n : ℕ). 0 < names_at new_frames.slots n) same
      (omega (arith, new_sound.counted other, named)) in
      let left : (left : KeptFrame) × (slot_at new_frames.slots key ≡ Some left) = some_left
      (slot_at new_frames.slots key) still in
      let bytes : left.0.bytes ≡ frame.bytes = (unnamed_whole frame left.0 (sym it ∙ left.1)
      (sound.whole key frame taken.is)).1 in
      subst (λ (n : ℕ). bytes_at new_frames.slots n ≡ bytes_at frames.slots n) (sym same) (
      ap (λ (slot : Option KeptFrame). option_map_or (λ (f : KeptFrame). f.bytes) slot []) left.1
      ∙ (bytes
      ∙ sym (ap (λ (slot : Option KeptFrame). option_map_or (λ (f : KeptFrame). f.bytes) slot []) taken.is)))
  | inr apart ↦ ap (λ (slot : Option KeptFrame). option_map_or (λ (f : KeptFrame). f.bytes) slot [])
      (slot_left ports frames new_frames k port key frame taken other apart)
]

drop-map : (f : ℕ → List ℕ) (keys : List ℕ) → map f (drop 1 keys) ≡ drop 1 (map f keys)
drop-map f [] = refl
drop-map f (key ∷ keys) = refl

pub next_shown : (ports : List (PortView ℕ)) (frames new_frames : FrameSlots) (k : ℕ) (port : PortView ℕ) (key : ℕ)
    (frame : KeptFrame) → IsSound ports frames → Taken ports frames new_frames k port key frame
    → ChangesAt (λ j. j ≡ k) without_first (map (port_shown frames.slots) ports)
    (map (port_shown new_frames.slots) (slice_set ports k (without_first port)))
next_shown ports frames new_frames k port key frame sound taken =
    let changes : ChangesAt (λ j. j ≡ k) without_first ports (slice_set ports k (without_first port)) = changes_one
    without_first ports k port taken.at in
    let stay : (j : ℕ) (other : PortView ℕ) → slice_get (slice_set ports k (without_first port)) j ≡ Some other
    → map (bytes_at new_frames.slots) other.queue ≡ map (bytes_at frames.slots) other.queue =
    λ j other is. same_frames (bytes_at new_frames.slots) (bytes_at frames.slots) other.queue (λ name named.
    next_bytes ports frames new_frames k port key frame sound taken name
    (omega (arith, named, names_by_within (slice_set ports k (without_first port)) j other name is))) in
    changes_shown (λ j. j ≡ k) without_first without_first (port_shown frames.slots) (port_shown new_frames.slots)
    ports (slice_set ports k (without_first port)) changes
    (λ j other at is. ap (with_queue other) (stay j (without_first other)
    (changes.these j at ∙ ap (option_map without_first) is) ∙ drop-map (bytes_at frames.slots) other.queue))
    (λ j other apart is. ap (with_queue other) (stay j other (changes.others j apart ∙ is)))

-- ---- a port is set

pub set_shown : (slots : List (Option KeptFrame)) (ports : List (PortView ℕ)) (k : ℕ) (port : PortView ℕ)
    (address : Option (List ℕ)) (groups : List (List ℕ)) → slice_get ports k ≡ Some port
    → ChangesAt (λ j. j ≡ k) (with_session address groups) (map (port_shown slots) ports)
    (map (port_shown slots) (slice_set ports k (with_session address groups port)))
set_shown slots ports k port address groups is =
    changes_shown (λ j. j ≡ k) (with_session address groups) (with_session address groups) (port_shown slots)
    (port_shown slots) ports (slice_set ports k (with_session address groups port))
    (changes_one (with_session address groups) ports k port is)
    (λ j other at was. refl)
    (λ j other apart was. refl)
