-- Ports as they are made.
use Rattle.std.proofs.Common.{◌≡◌, ℕ, zero, suc, ◌+◌, ◌<◌, ◌≤◌, List, [], ◌∷◌, ◌++◌, length, map, take, get_or, refl, sym, ap, ap₂, subst, ◌∙◌, arith}
use Rattle.std.proofs.lemmas.List.{length-map}
use Rattle.lane_kinds.specs.Lanes.{EachOf}
use Rattle.net_lane.specs.NetLaneState.{IsNetShape, NetLaneState, NetShape, fresh_net}
use Rattle.lane_models.specs.PortState.{PortState, fresh_port}
use Rattle.switch_laws.specs.Forwards.{views}
use Rattle.switch_laws.specs.Reached.{IsReached}
use Rattle.vnet_switch.specs.PortView.{PortView}
use Rattle.vnet_switch.specs.Queues.{fresh_port as fresh_view}
use Rattle.switched_ports.specs.HubSteps.{Known}
use Rattle.switched_ports.specs.Given.{GivenBelow}
use Rattle.switched_ports.specs.Shapes.{AddressesDiffer, lane_of, shape_of, shapes_of}
use Rattle.switched_ports.specs.declared.shape.PortShape.{PortShape}
use Rattle.switched_ports.specs.States.{lanes_in, shapes_in, states}
use Rattle.switched_ports.specs.Tied.{Tied}
use Rattle.switched_ports.proofs.Places.{states_back}

fresh_lanes : (shapes : List NetShape) → map fresh_net shapes ≡ lanes_in (map fresh_port shapes)
fresh_lanes [] = refl
fresh_lanes (shape ∷ shapes) = ap (λ (l : List NetLaneState). fresh_net shape ∷ l) (fresh_lanes shapes)

fresh_views : (shapes : List NetShape) → map fresh_view (map (λ (shape : NetShape). shape.slots) shapes) ≡ views
    (map fresh_port shapes)
fresh_views [] = refl
fresh_views (shape ∷ shapes) = ap (λ (l : Known). fresh_view shape.slots ∷ l) (fresh_views shapes)

fresh_shapes : (shapes : List NetShape) → shapes ≡ shapes_in (map fresh_port shapes)
fresh_shapes [] = refl
fresh_shapes (shape ∷ shapes) = ap (λ (l : List NetShape). shape ∷ l) (fresh_shapes shapes)

fresh_reached : (shapes : List NetShape) → EachOf IsNetShape shapes → EachOf IsReached (map fresh_port shapes)
fresh_reached [] each = tt
fresh_reached (shape ∷ shapes) each =
    (record { shape = shape; sound = each.0; events = []; run = refl }, fresh_reached shapes each.1)

-- no end was given a frame
pub fresh_below : (shapes : List NetShape) → GivenBelow 1 (map fresh_port shapes)
fresh_below [] = tt
fresh_below (shape ∷ shapes) = (record { guest = omega arith; hub = omega arith }, fresh_below shapes)

lanes_made : (made : List PortShape) → map lane_of made ≡ map fresh_net (shapes_of made)
lanes_made [] = refl
lanes_made (shape ∷ made) = ap (λ (l : List NetLaneState). lane_of shape ∷ l) (lanes_made made)

rooms_made : (made : List PortShape) → map (λ (shape : PortShape). shape.slots) made ≡ map
    (λ (shape : NetShape). shape.slots) (shapes_of made)
rooms_made [] = refl
rooms_made (shape ∷ made) = ap (λ (l : List ℕ). shape.slots ∷ l) (rooms_made made)

pub shape_there : (made : List PortShape) (k : ℕ) (d : PortShape) → EachOf IsNetShape (shapes_of made) → k < length made
    → IsNetShape (shape_of (get_or made k d))
shape_there [] k d each within = absurd (omega (arith, within))
shape_there (x ∷ made) zero d each within = each.0
shape_there (x ∷ made) (suc k) d each within = shape_there made k d each.1 (omega (arith, within))

one_made : (made : List PortShape) (k : ℕ) (d : PortShape) → k < length made
    → map lane_of (take (suc k) made) ≡ map lane_of (take k made) ++ lane_of (get_or made k d) ∷ []
one_made [] k d within = absurd (omega (arith, within))
one_made (x ∷ made) zero d within = refl
one_made (x ∷ made) (suc k) d within =
    ap (λ (l : List NetLaneState). lane_of x ∷ l) (one_made made k d (omega (arith, within)))

pub lanes_more : (made : List PortShape) (k : ℕ) (d : PortShape) (lanes new : List NetLaneState) (lane : NetLaneState)
    → k < length made
    → lanes ≡ map lane_of (take k made) → new ≡ lanes ++ lane ∷ [] → lane ≡ lane_of (get_or made k d)
    → new ≡ map lane_of (take (k + 1) made)
lanes_more made k d lanes new lane within are put is =
    let next : suc k ≡ k + 1 = omega arith in
    put ∙ ap₂ (λ (l : List NetLaneState) (x : NetLaneState). l ++ x ∷ []) are is
    ∙ sym (one_made made k d within) ∙ ap (λ (n : ℕ). map lane_of (take n made)) next

module _ (made : List PortShape) (lanes : List NetLaneState) (rooms : List ℕ) (known : Known)
    (lanes_are : lanes ≡ map lane_of made)
    (rooms_are : rooms ≡ map (λ (shape : PortShape). shape.slots) made) (known_are : known ≡ map fresh_view rooms) where
  abbrev shapes : List NetShape
  shapes = shapes_of made

  lanes_is : lanes ≡ map fresh_net shapes
  lanes_is = lanes_are ∙ lanes_made made

  known_is : known ≡ map fresh_view (map (λ (shape : NetShape). shape.slots) shapes)
  known_is = known_are ∙ ap (λ (l : List ℕ). map fresh_view l) (rooms_are ∙ rooms_made made)

  pub fresh_states : states lanes known ≡ map fresh_port shapes
  fresh_states =
      ap₂ (λ (l : List NetLaneState) (p : Known). states l p) (lanes_is ∙ fresh_lanes shapes)
      (known_is ∙ fresh_views shapes)
      ∙ states_back (map fresh_port shapes)

  pub fresh_tied : length made ≤ 8 → EachOf IsNetShape shapes → AddressesDiffer shapes
      → Tied lanes known (states lanes known)
  fresh_tied few sound differ = subst (λ (l : List PortState). Tied lanes known l) (sym fresh_states) (record {
    lanes_are = lanes_is ∙ fresh_lanes shapes;
    known_are = known_is ∙ fresh_views shapes;
    few = subst (λ (n : ℕ). n ≤ 8) (sym (length-map shapes fresh_port ∙ length-map made shape_of)) few;
    reached = fresh_reached shapes sound;
    differ = subst (λ (l : List NetShape). AddressesDiffer l) (fresh_shapes shapes) differ;
  })
