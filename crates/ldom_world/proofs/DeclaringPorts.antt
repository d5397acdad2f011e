-- The ports of a script's declarations, as the switch is made with them.
use Rattle.std.proofs.Common.{◌≡◌, ℕ, ◌+◌, ◌<◌, ◌≤◌, Some, None, List, [], ◌∷◌, ◌++◌, length, map, take, slice_get, option_map, refl, sym, ap, subst, ◌∙◌}
use Rattle.std.specs.List.{AllByRecursion}
use Rattle.std.proofs.lemmas.List.{take_all}
use Rattle.std.proofs.lemmas.Option.{slice_get-map}
use Rattle.recorded_lanes.specs.world_parts.lane_models.NetLaneState.{IsNetShape, NetShape}
use Rattle.domain_script.specs.Declarations.{AddressesDiffer, IsPort, addresses}
use Rattle.domain_script.specs.declared.event.PortDecl.{PortDecl}
use Rattle.lane_kinds.proofs.Places.{map_both}
use Rattle.lane_kinds.specs.Lanes.{EachOf}
use Rattle.recorded_lanes.specs.switched_ports.Shapes.{AddressesDiffer as ShapesDiffer, shape_of, shapes_of}
use Rattle.recorded_lanes.specs.switched_ports.declared.shape.PortShape.{PortShape}
use Rattle.recorded_lanes.specs.world_parts.Declared.{net_of, nets_of}
use Rattle.ldom_world.proofs.Declaring.{take_more, take_none}

-- a declared port has the shape of one
pub net_shape : (port : PortDecl) → IsPort port → AllByRecursion (λ (byte : ℕ). byte < 256) port.address
    → IsNetShape (net_of port)
net_shape port is bytes = record {
  address = is.address.long;
  bytes = bytes;
  some_slots = is.least_ring;
  most_slots = is.most_ring;
  slots = is.ring_power;
  some_entries = is.least_queue;
  most_entries = is.most_queue;
  entries = is.queue_power;
}

-- ONE MORE among the first
each_push : (nets : List NetShape) (net : NetShape) → EachOf IsNetShape nets → IsNetShape net
    → EachOf IsNetShape (nets ++ net ∷ [])
each_push [] net each is = (is, tt)
each_push (n ∷ nets) net each is = (each.0, each_push nets net each.1 is)

module _ (ports : List PortDecl) (k : ℕ) (port : PortDecl) (there : slice_get ports k ≡ Some port) where
  nets_more : nets_of (take (k + 1) ports) ≡ nets_of (take k ports) ++ net_of port ∷ []
  nets_more =
      ap (λ (l : List PortDecl). nets_of l) (take_more ports k port there)
      ∙ map_both net_of (take k ports) (port ∷ [])

  pub shapes_more : (shapes new : List PortShape) (shape : PortShape) → shapes_of shapes ≡ nets_of (take k ports)
      → shape_of shape ≡ net_of port → new ≡ shapes ++ shape ∷ [] → shapes_of new ≡ nets_of (take (k + 1) ports)
  shapes_more shapes new shape so_far is grew =
      ap (λ (l : List PortShape). shapes_of l) grew ∙ map_both shape_of shapes (shape ∷ [])
      ∙ ap (λ (l : List NetShape). l ++ shape_of shape ∷ []) so_far
      ∙ ap (λ (s : NetShape). nets_of (take k ports) ++ s ∷ []) is ∙ sym nets_more

  pub sound_more : EachOf IsNetShape (nets_of (take k ports)) → IsNetShape (net_of port)
      → EachOf IsNetShape (nets_of (take (k + 1) ports))
  sound_more each is =
      subst (λ (l : List NetShape). EachOf IsNetShape l) (sym nets_more)
      (each_push (nets_of (take k ports)) (net_of port) each is)

-- ALL OF THEM: there are no more than these
pub all_if_none : (ports : List PortDecl) (k : ℕ) → slice_get ports k ≡ None
    → nets_of (take k ports) ≡ nets_of ports
all_if_none ports k none = ap (λ (l : List PortDecl). nets_of l) (take_none ports k none)

pub all_if_few : (ports : List PortDecl) (k : ℕ) → length ports ≤ k → nets_of (take k ports) ≡ nets_of ports
all_if_few ports k few = ap (λ (l : List PortDecl). nets_of l) (take_all k ports few)

-- no two of them have one address
addresses_are : (ports : List PortDecl) → addresses ports ≡ map (λ (shape : NetShape). shape.address) (nets_of ports)
addresses_are [] = refl
addresses_are (port ∷ ports) = ap (λ (l : List (List ℕ)). port.address ∷ l) (addresses_are ports)

address_at : (ports : List PortDecl) (k : ℕ) (shape : NetShape) → slice_get (nets_of ports) k ≡ Some shape
    → slice_get (addresses ports) k ≡ Some shape.address
address_at ports k shape there =
    ap (λ (l : List (List ℕ)). slice_get l k) (addresses_are ports)
    ∙ slice_get-map (λ (shape : NetShape). shape.address) (nets_of ports) k
    ∙ ap (option_map (λ (shape : NetShape). shape.address)) there

pub shapes_differ : (ports : List PortDecl) → AddressesDiffer ports → ShapesDiffer (nets_of ports)
shapes_differ ports differ =
    λ j k s t at other same. differ j k s.address (address_at ports j s at)
    (address_at ports k t other ∙ ap (λ (a : List ℕ). Some a) (sym same))
