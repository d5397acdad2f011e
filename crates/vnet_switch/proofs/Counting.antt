-- How often keys are named, and how much waits.
use Rattle.std.proofs.Common.{◌≡◌, ℕ, zero, suc, ◌+◌, ◌<◌, ◌≤◌, List, [], ◌∷◌, length, Option, Some, sum_by, flat_map, slice_get, slice_set, arith, sym, subst, ap, ◌∙◌, refl}
use Rattle.std.proofs.lemmas.List.Concat.{length-flat_map}
use Rattle.std.proofs.lemmas.List.Sums.{get_or-le-sum_by, sum_by-append, sum_by-cons, sum_by-set, sum_by_push}
use Rattle.std.proofs.lemmas.Option.{get_or_from_slice_get, slice_get_within}
use Rattle.vnet_switch.proofs.Pigeons.{held_within, same_as}
use Rattle.vnet_switch.specs.Kept.{kept_count, names_at, slot_at, FrameSlots}
use Rattle.vnet_switch.specs.Named.{names_by, names_in, AllFit, IsSound}
use Rattle.vnet_switch.specs.PortView.{PortView}
use Rattle.vnet_switch.specs.Queues.{waiting_in_all, with_last}
use Rattle.vnet_switch.specs.declared.kept_frames.KeptFrame.{KeptFrame}
use Rattle.std.specs.Option.{option_map_or}

pub names_with_last : (key last : ℕ) (port : PortView ℕ)
    → names_by key (with_last last port) ≡ names_by key port + same_as key last
names_with_last key last port = sum_by_push (same_as key) port.queue last

pub names_by_within : (ports : List (PortView ℕ)) (k : ℕ) (port : PortView ℕ) (key : ℕ)
    → slice_get ports k ≡ Some port → names_by key port ≤ names_in key ports
names_by_within ports k port key is =
    subst (λ (p : PortView ℕ). names_by key p ≤ names_in key ports) (get_or_from_slice_get ports k port port is)
    (get_or-le-sum_by (names_by key) ports k port (slice_get_within ports k port is))

-- a sum over ports where one changes
pub sum_changes : (f : PortView ℕ → ℕ) (ports : List (PortView ℕ)) (k : ℕ) (port new : PortView ℕ)
    → slice_get ports k ≡ Some port → sum_by f (slice_set ports k new) + f port ≡ sum_by f ports + f new
sum_changes f ports k port new is =
    subst (λ (p : PortView ℕ). sum_by f (slice_set ports k new) + f p ≡ sum_by f ports + f new)
    (get_or_from_slice_get ports k port port is)
    (sum_by-set f ports k new port (slice_get_within ports k port is))

abbrev all_names : List (PortView ℕ) → List ℕ
all_names ports = flat_map (λ port. port.queue) ports

count_all : (key : ℕ) (ports : List (PortView ℕ)) → sum_by (same_as key) (all_names ports) ≡ names_in key ports
count_all key [] = refl
count_all key (port ∷ ports) =
    sum_by-append (same_as key) port.queue (all_names ports)
    ∙ (ap (λ (n : ℕ). names_by key port + n) (count_all key ports)
    ∙ sym (sum_by-cons (names_by key) port ports))

-- each kept frame is named, so there are no more of them than names
pub kept_named : (ports : List (PortView ℕ)) (frames : FrameSlots) → IsSound ports frames
    → kept_count frames.slots ≤ waiting_in_all ports
kept_named ports frames sound =
    let named : (key : ℕ) (frame : KeptFrame) → slot_at frames.slots key ≡ Some frame
    → 0 < sum_by (same_as key) (all_names ports) =
    λ key frame is.
    let names : names_at frames.slots key ≡ frame.names = ap
    (λ (slot : Option KeptFrame). option_map_or (λ (f : KeptFrame). f.names) slot 0) is in
    omega (arith, names, sound.counted key, count_all key ports, (sound.whole key frame is).named) in
    subst (λ (n : ℕ). kept_count frames.slots ≤ n) (length-flat_map (λ (port : PortView ℕ). port.queue) ports)
    (held_within (all_names ports) frames.slots named)

-- where no queue holds more than its room, all together hold no more than all rooms
pub all_within : (ports : List (PortView ℕ)) → AllFit ports → waiting_in_all ports ≤ sum_by (λ port. port.room) ports
all_within [] fit = omega arith
all_within (port ∷ ports) fit =
    omega (
      arith,
      sum_by-cons (λ (p : PortView ℕ). length p.queue) port ports,
      sum_by-cons (λ (p : PortView ℕ). p.room) port ports,
      fit zero port refl,
      all_within ports (λ k p is. fit (suc k) p is),
    )
