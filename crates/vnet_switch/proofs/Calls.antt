-- What the calls of a switch need besides.
use Rattle.std.proofs.Common.{◌≡◌, ℕ, ◌<◌, ◌≤◌, List, [], ◌∷◌, ◌++◌, length, map, take, drop, Option, Some, None, IfSome, IfNone, option_map, slice_get, slice_index_or, arith, sym, subst, ap, ◌∙◌, refl, take_at}
use Rattle.std.proofs.lemmas.List.{length-map}
use Rattle.std.proofs.lemmas.List.Sums.{sum_by-cons}
use Rattle.std.proofs.lemmas.Option.{none-some, slice_get_read}
use Rattle.std.specs.Option.{option_map_or}
use Rattle.vnet_switch.proofs.Counting.{kept_named}
use Rattle.vnet_switch.proofs.Showing.{waits_all}
use Rattle.vnet_switch.specs.Forward.{HasAddress}
use Rattle.vnet_switch.specs.Kept.{bytes_at, fresh_frames, kept_count, FrameSlots}
use Rattle.vnet_switch.specs.Named.{IsSound}
use Rattle.vnet_switch.specs.PortView.{PortView}
use Rattle.vnet_switch.specs.Queues.{fresh_port, waiting_for, waiting_in_all, without_first, ChangesAt}
use Rattle.vnet_switch.specs.Shown.{fresh_switch, port_shown, switch_shown}
use Rattle.vnet_switch.specs.declared.kept_frames.KeptFrame.{KeptFrame}

-- a slice that was lent is the list again
pub refilled : {X : Type 0} (n : ℕ) (new old : List X) → length new ≡ n → take n (new ++ drop (length new) old) ≡ new
refilled n new old is = take_at new (drop (length new) old) n is

pub port_inside : (slots : List (Option KeptFrame)) (ports : List (PortView ℕ)) (k : ℕ)
    → k < length (map (port_shown slots) ports) → k < length ports
port_inside slots ports k within = omega (arith, within, length-map ports (port_shown slots))

-- a port that was read
pub port_at : (ports : List (PortView ℕ)) (k : ℕ) (port : PortView ℕ) → k < length ports
    → port ≡ slice_index_or ports k port → slice_get ports k ≡ Some port
port_at ports k port within is = slice_get_read ports (length ports) k port refl within is

fresh_ports : (rooms : List ℕ) → map (port_shown []) (map fresh_port rooms) ≡ map fresh_port rooms
fresh_ports [] = refl
fresh_ports (room ∷ rooms) = ap (λ (ports : List (PortView (List ℕ))). fresh_port room ∷ ports) (fresh_ports rooms)

pub fresh_shown : (rooms : List ℕ) (room : ℕ) → switch_shown (map fresh_port rooms) (fresh_frames room) ≡
    fresh_switch rooms
fresh_shown rooms room = ap (λ (ports : List (PortView (List ℕ))). record { ports = ports; kept = 0 })
    (fresh_ports rooms)

all_waiting : (slots : List (Option KeptFrame)) (ports : List (PortView ℕ))
    → waiting_in_all (map (port_shown slots) ports) ≡ waiting_in_all ports
all_waiting slots [] = refl
all_waiting slots (port ∷ ports) =
    omega (
      arith,
      sum_by-cons (λ (p : PortView (List ℕ)). length p.queue) (port_shown slots port) (map (port_shown slots) ports),
      sum_by-cons (λ (p : PortView ℕ). length p.queue) port ports,
      length-map port.queue (bytes_at slots),
      all_waiting slots ports,
    )

pub kept_shown : (ports : List (PortView ℕ)) (frames : FrameSlots) → IsSound ports frames
    → kept_count frames.slots ≤ waiting_in_all (map (port_shown frames.slots) ports)
kept_shown ports frames sound = omega (arith, kept_named ports frames sound, all_waiting frames.slots ports)

-- at most one port has an address
pub only_port : (ports : List (PortView ℕ)) (frames : FrameSlots) (address : List ℕ) (result : Option ℕ)
    → IsSound ports frames → IfSome result (HasAddress ports address)
    → IfNone result ((k : ℕ) → ¬ (HasAddress ports address k)) → (k : ℕ) → HasAddress ports address k
    → result ≡ Some k
only_port ports frames address None sound found none k has = absurd (none k has)
only_port ports frames address (Some j) sound found none k has = ap Some (sound.differ address j k found has)

no_first : (queue : List ℕ) → slice_get queue 0 ≡ None → queue ≡ []
no_first [] is = refl
no_first (key ∷ queue) is = absurd (none-some key (sym is))

pub empty_waits : (slots : List (Option KeptFrame)) (ports : List (PortView ℕ)) (k : ℕ) (port : PortView ℕ)
    → slice_get ports k ≡ Some port → slice_get port.queue 0 ≡ None
    → waiting_for k (map (port_shown slots) ports) ≡ []
empty_waits slots ports k port at is =
    waits_all slots ports k port at ∙ ap (λ (queue : List ℕ). map (bytes_at slots) queue) (no_first port.queue is)

emptied : {F : Type 0} (o : Option (PortView F)) → option_map_or (λ (p : PortView F). p.queue) o [] ≡ []
    → o ≡ option_map without_first o
emptied None is = refl
emptied {F} (Some port) is =
    let same : port.queue ≡ drop 1 port.queue = is ∙ sym (ap (λ (queue : List F). drop 1 queue) is) in
    ap (λ (queue : List F). Some (record port { queue = queue })) same

-- nothing leaves an empty queue
pub nothing_leaves : {F : Type 0} (ports : List (PortView F)) (k : ℕ) → waiting_for k ports ≡ []
    → ChangesAt (λ j. j ≡ k) without_first ports ports
nothing_leaves ports k is = record {
  same_length = refl;
  these = λ j at. subst (λ (i : ℕ). slice_get ports i ≡ option_map without_first (slice_get ports i)) (sym at)
      (emptied (slice_get ports k) is);
  others = λ j other. refl;
}
