-- What a call of a switch reads of the port that it names, and what leaves that port's queue.
use Rattle.std.proofs.Common.{◌≡◌, ℕ, ◌<◌, List, [], ◌++◌, length, map, take, drop, Option, Some, None, IsSome, option_map, slice_get, slice_set, slice_index_or, ap, subst, sym, refl, ◌∙◌}
use Rattle.std.proofs.lemmas.Option.{same_Some}
use Rattle.vnet_switch.proofs.Calls.{empty_waits, port_at, port_inside, refilled}
use Rattle.vnet_switch.proofs.Showing.{next_shown, waits_first}
use Rattle.vnet_switch.proofs.Sound.{named_kept, next_sound, Taken}
use Rattle.vnet_switch.specs.Forward.{GetsFrame}
use Rattle.vnet_switch.specs.Kept.{bytes_at, slot_at, unnamed, FrameSlots}
use Rattle.vnet_switch.specs.Named.{IsSound}
use Rattle.vnet_switch.specs.Offering.{OffersBelow}
use Rattle.vnet_switch.specs.PortSet.{IsSetOf}
use Rattle.vnet_switch.specs.PortView.{PortView, SwitchView}
use Rattle.vnet_switch.specs.Queues.{waiting_for, without_first, ChangesAt}
use Rattle.vnet_switch.specs.Shown.{port_shown, switch_shown}
use Rattle.vnet_switch.specs.declared.forwarding.Offered.{Offered}
use Rattle.vnet_switch.specs.declared.kept_frames.KeptFrame.{KeptFrame}

-- a port that was read, by a number that the switch as it is seen has
pub record PortRead (ports : List (PortView ℕ)) (frames : FrameSlots) (seen : SwitchView) (k : ℕ) (port : PortView ℕ) : Type 0 where
  pub shown : switch_shown ports frames ≡ seen
  pub within : k < length seen.ports
  pub read : port ≡ slice_index_or ports k port

pub port_read : (ports : List (PortView ℕ)) (frames : FrameSlots) (seen : SwitchView) (k : ℕ) (port : PortView ℕ)
    → PortRead ports frames seen k port → slice_get ports k ≡ Some port
port_read ports frames seen k port is =
    port_at ports k port
    (port_inside frames.slots ports k (subst (λ (s : SwitchView). k < length s.ports) (sym is.shown) is.within)) is.read

-- nothing waits for a port whose queue has no key
pub nothing_waits : (ports : List (PortView ℕ)) (frames : FrameSlots) (seen : SwitchView) (k : ℕ) (port : PortView ℕ)
    → PortRead ports frames seen k port → slice_get port.queue 0 ≡ None → waiting_for k seen.ports ≡ []
nothing_waits ports frames seen k port is none =
    subst (λ (s : SwitchView). waiting_for k s.ports ≡ []) is.shown
    (empty_waits frames.slots ports k port (port_read ports frames seen k port is) none)

-- the frame of its first key has waited longest, and is kept
pub first_waits : (ports : List (PortView ℕ)) (frames : FrameSlots) (seen : SwitchView) (k : ℕ) (port : PortView ℕ) (key : ℕ)
    → PortRead ports frames seen k port → slice_get port.queue 0 ≡ Some key
    → slice_get (waiting_for k seen.ports) 0 ≡ Some (bytes_at frames.slots key)
first_waits ports frames seen k port key is first =
    subst (λ (s : SwitchView). slice_get (waiting_for k s.ports) 0 ≡ Some (bytes_at frames.slots key)) is.shown
    (waits_first frames.slots ports k port (port_read ports frames seen k port is)
    ∙ ap (option_map (bytes_at frames.slots)) first)

pub first_is_kept : (ports : List (PortView ℕ)) (frames : FrameSlots) (seen : SwitchView) (k : ℕ) (port : PortView ℕ) (key : ℕ)
    → IsSound ports frames → PortRead ports frames seen k port → slice_get port.queue 0 ≡ Some key
    → IsSome (slot_at frames.slots key)
first_is_kept ports frames seen k port key sound is first =
    let kept : (frame : KeptFrame) × (slot_at frames.slots key ≡ Some frame) =
    named_kept ports frames k port key sound (port_read ports frames seen k port is) first in
    subst (λ (slot : Option KeptFrame). IsSome slot) (sym kept.1) refl

-- The first key leaves a port's queue, and the frame loses a name. The port is read a second time to be written.
pub record LosesFirst (ports : List (PortView ℕ)) (frames new_frames : FrameSlots) (seen : SwitchView) (k : ℕ) (port again left : PortView ℕ) (key : ℕ) : Type 0 where
  pub is : PortRead ports frames seen k port
  pub again_is : PortRead ports frames seen k again
  pub first : slice_get port.queue 0 ≡ Some key
  pub left_is : left ≡ without_first again
  pub slots : new_frames.slots ≡ slice_set frames.slots key (unnamed (slot_at frames.slots key))
  pub room : new_frames.room ≡ frames.room

left_behind : (ports : List (PortView ℕ)) (frames new_frames : FrameSlots) (seen : SwitchView) (k : ℕ) (port again left : PortView ℕ) (key : ℕ)
    → LosesFirst ports frames new_frames seen k port again left key → left ≡ without_first port
left_behind ports frames new_frames seen k port again left key loses =
    loses.left_is
    ∙ ap without_first (same_Some again port (sym (port_read ports frames seen k again loses.again_is) ∙ port_read ports frames seen k port loses.is))

taken : (ports : List (PortView ℕ)) (frames new_frames : FrameSlots) (seen : SwitchView) (k : ℕ) (port again left : PortView ℕ) (key : ℕ)
    → IsSound ports frames → LosesFirst ports frames new_frames seen k port again left key
    → (frame : KeptFrame) × Taken ports frames new_frames k port key frame
taken ports frames new_frames seen k port again left key sound loses =
    let at : slice_get ports k ≡ Some port = port_read ports frames seen k port loses.is in
    let kept : (frame : KeptFrame) × (slot_at frames.slots key ≡ Some frame) = named_kept ports frames k port key sound at loses.first in (
      kept.0,
      record {
        at = at;
        first = loses.first;
        is = kept.1;
        slots = loses.slots ∙ ap (λ (slot : Option KeptFrame). slice_set frames.slots key (unnamed slot)) kept.1;
        room = loses.room;
      },
    )

pub sound_behind : (ports : List (PortView ℕ)) (frames new_frames : FrameSlots) (seen : SwitchView) (k : ℕ) (port again left : PortView ℕ) (key : ℕ)
    → IsSound ports frames → LosesFirst ports frames new_frames seen k port again left key
    → IsSound (slice_set ports k left) new_frames
sound_behind ports frames new_frames seen k port again left key sound loses =
    let it : (frame : KeptFrame) × Taken ports frames new_frames k port key frame =
    taken ports frames new_frames seen k port again left key sound loses in
    subst (λ (p : PortView ℕ). IsSound (slice_set ports k p) new_frames)
    (sym (left_behind ports frames new_frames seen k port again left key loses))
    (next_sound ports frames new_frames k port key it.0 sound it.1)

pub shown_behind : (ports : List (PortView ℕ)) (frames new_frames : FrameSlots) (seen : SwitchView) (k : ℕ) (port again left : PortView ℕ) (key : ℕ)
    → IsSound ports frames → LosesFirst ports frames new_frames seen k port again left key
    → ChangesAt (λ j. j ≡ k) without_first seen.ports (map (port_shown new_frames.slots) (slice_set ports k left))
shown_behind ports frames new_frames seen k port again left key sound loses =
    let it : (frame : KeptFrame) × Taken ports frames new_frames k port key frame =
    taken ports frames new_frames seen k port again left key sound loses in
    subst (λ (s : SwitchView). ChangesAt (λ j. j ≡ k) without_first s.ports (map (port_shown new_frames.slots) (slice_set ports k left)))
    loses.is.shown
    (subst (λ (p : PortView ℕ). ChangesAt (λ j. j ≡ k) without_first (map (port_shown frames.slots) ports) (map (port_shown new_frames.slots) (slice_set ports k p)))
    (sym (left_behind ports frames new_frames seen k port again left key loses))
    (next_shown ports frames new_frames k port key it.0 sound it.1))

-- a frame is offered to the ports, which are lent for it
pub offers_of : (ports lent new : List (PortView ℕ)) (set key : ℕ) (offered : Offered) → lent ≡ ports
    → OffersBelow (length lent) lent set key offered new → OffersBelow (length ports) ports set key offered new
offers_of ports lent new set key offered is offers =
    subst (λ (these : List (PortView ℕ)). OffersBelow (length these) these set key offered new) is offers

pub given_back : (ports lent new : List (PortView ℕ)) (count set key : ℕ) (offered : Offered) → lent ≡ ports → length lent ≡ count
    → OffersBelow (length lent) lent set key offered new → take count (new ++ drop (length new) ports) ≡ new
given_back ports lent new count set key offered is counted offers =
    refilled count new ports (offers.queues.same_length ∙ counted)

pub set_for : (ports lent : List (PortView ℕ)) (destination given : List ℕ) (from set : ℕ) → lent ≡ ports → given ≡ destination
    → IsSetOf set (GetsFrame lent given from) → IsSetOf set (GetsFrame ports destination from)
set_for ports lent destination given from set is same holds =
    subst (λ (these : List (PortView ℕ)). IsSetOf set (GetsFrame these destination from)) is
    (subst (λ (those : List ℕ). IsSetOf set (GetsFrame lent those from)) same holds)
