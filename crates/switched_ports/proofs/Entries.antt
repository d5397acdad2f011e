-- An event of one port is one entry of all. What is kept of the ports is tied behind it, and no more frames were given
-- than the event gives.
use Rattle.std.proofs.Common.{◌≡◌, ◌≢◌, ℕ, ◌+◌, ◌≤◌, ◌<◌, ◌==◌, Bool, true, false, List, [], ◌∷◌, ◌++◌, length, Option, Some, None, option_map, slice_get, slice_set, IsBitSet, refl, sym, ap, ap₂, subst, ◌∙◌, arith, length-append}
use Rattle.std.proofs.lemmas.Bool.{eqb-true}
use Rattle.std.specs.Prelude.{⊤}
use Rattle.std.specs.Int.{bit_at}
use Rattle.std.proofs.lemmas.Option.{same_Some, slice_get-map, slice_get_within}
use Rattle.lane_kinds.specs.Lanes.{EachOf, EntryOf}
use Rattle.net_lane.specs.Frames.{IsFrame}
use Rattle.ldc_queue.specs.declared.end.End.{End}
use Rattle.std.specs.Option.{option_map_or}
use Rattle.net_lane.specs.NetLaneState.{NetLaneState, NetShape, net_end}
use Rattle.lane_models.specs.PortState.{PortState}
use Rattle.runs.specs.Run.{Run, run_keeps}
use Rattle.switch_laws.proofs.Steps.{reached_step}
use Rattle.switch_laws.specs.Events.{OnPort, SwitchEvent, SwitchStep, Switched}
use Rattle.switch_laws.specs.Forwards.{SeesSwitch, port_view, views}
use Rattle.switch_laws.specs.Ports.{gets, gift, ports as kind}
use Rattle.switch_laws.specs.Reached.{IsReached}
use Rattle.vnet_switch.proofs.Bits.{set_from}
use Rattle.vnet_switch.proofs.Changes.{port_holds}
use Rattle.vnet_switch.specs.Queues.{QueueHasRoom}
use Rattle.switched_ports.specs.Given.{GivenBelow, GivesNoMore, GivesOneMore, IsBelow}
use Rattle.switched_ports.specs.HubSteps.{Known}
use Rattle.switched_ports.specs.Shapes.{AddressesDiffer}
use Rattle.switched_ports.specs.States.{last_at, lanes_in, states}
use Rattle.switched_ports.specs.Tied.{Tied}
use Rattle.switched_ports.proofs.Became.{all_step, as_long, at_own, behind, each_behind, given_to, got, lanes_behind, seen_given, shapes_behind, views_behind}
use Rattle.switched_ports.proofs.Places.{states_back}

-- WHAT OTHERS GET
gift_run : (b : Bool) (frame : List ℕ) (y : PortState)
    → (b ≡ true → IsFrame frame × (length y.queue < y.lane.shape.slots))
    → Run SwitchStep y (gift b frame) (got b frame y)
gift_run true frame y may = let fits = may refl in (got true frame y, (tt, (fits.0, fits.1, refl), tt), refl)
gift_run false frame y may = refl

abbrev pub OfFrame : SwitchEvent → Type 0
OfFrame (Switched frame out full) = IsFrame frame
OfFrame (OnPort event) = ⊤

receives : (xs : List PortState) (k : ℕ) (event : SwitchEvent) → SeesSwitch xs k event → OfFrame event
    → (n : ℕ) (y : PortState) → slice_get xs n ≡ Some y → Run SwitchStep y (gets n event) (given_to n event y)
receives xs k (OnPort event) sees is n y at = refl
receives xs k (Switched frame out full) sees is n y at = gift_run (bit_at out n == 1) frame y (λ bit. (
  is,
  port_holds (views xs) n (port_view y) QueueHasRoom (slice_get-map port_view xs n ∙ ap (option_map port_view) at)
      ((sees.gets n).0 (set_from out n (eqb-true (bit_at out n) 1 bit))).1,
))

-- HOW MANY FRAMES an end was given, at most so many more
pub record Rises (r : ℕ) (x t : PortState) : Type 0 where
  pub guest : t.lane.guest.next_id ≤ x.lane.guest.next_id + r
  pub hub : t.lane.hub.next_id + length t.queue ≤ x.lane.hub.next_id + length x.queue + r

abbrev pub raises : SwitchEvent → ℕ
raises (Switched frame out full) = 1
raises (OnPort event) = 0

got_rises : (b : Bool) (frame : List ℕ) (y : PortState) → Rises 1 y (got b frame y)
got_rises true frame y = record { guest = omega arith; hub = omega (arith, length-append y.queue (frame ∷ [])) }
got_rises false frame y = record { guest = omega arith; hub = omega arith }

given_rises : (event : SwitchEvent) (n : ℕ) (y : PortState) → Rises (raises event) y (given_to n event y)
given_rises (Switched frame out full) n y = got_rises (bit_at out n == 1) frame y
given_rises (OnPort event) n y = record { guest = omega arith; hub = omega arith }

below_more : (n r m : ℕ) (x t : PortState) → r ≤ m → Rises r x t → IsBelow n x → IsBelow (n + m) t
below_more n r m x t few rises below = record {
  guest = omega (arith, few, rises.guest, below.guest);
  hub = omega (arith, few, rises.hub, below.hub);
}

pub below_later : (n m : ℕ) (xs : List PortState) → n ≤ m → GivenBelow n xs → GivenBelow m xs
below_later n m [] later each = tt
below_later n m (x ∷ xs) later each = (
  record { guest = omega (arith, later, each.0.guest); hub = omega (arith, later, each.0.hub) },
  below_later n m xs later each.1,
)

pub one_more : (xs ys : List PortState) → GivesNoMore xs ys → GivesOneMore xs ys
one_more xs ys same n below = below_later n (n + 1) ys (omega arith) (same n below)

-- THE EVENT, with what the switch knows behind it
pub record Move (known : Known) (xs : List PortState) (k : ℕ) (event : SwitchEvent) (x t : PortState)
    (new : Known) : Type 0 where
  pub here : slice_get xs k ≡ Some x
  pub step : SwitchStep x event t
  pub sees : SeesSwitch xs k event
  pub of_frame : OfFrame event
  pub shape : t.lane.shape ≡ x.lane.shape
  pub told : slice_get new k ≡ Some (port_view t)
  pub others : (n : ℕ) → n ≢ k → slice_get new n ≡ option_map (seen_given n event) (slice_get known n)

module _ (lanes : List NetLaneState) (known new : Known) (xs : List PortState) (k : ℕ) (event : SwitchEvent)
    (x t : PortState)
    (tied : Tied lanes known xs) (move : Move known xs k event x t new) where
  abbrev after : List PortState
  after = behind 0 k event t xs

  lanes_after : slice_set lanes k t.lane ≡ lanes_in after
  lanes_after =
      ap (λ (l : List NetLaneState). slice_set l k t.lane) tied.lanes_are ∙ lanes_behind k event t xs x move.here

  known_after : new ≡ views after
  known_after = views_behind k event t known new xs x tied.known_are move.here move.told move.others

  value_is : states (slice_set lanes k t.lane) new ≡ after
  value_is = ap₂ (λ (l : List NetLaneState) (p : Known). states l p) lanes_after known_after ∙ states_back after

  pub there_behind : slice_get (states (slice_set lanes k t.lane) new) k ≡ Some t
  there_behind = ap (λ (l : List PortState). slice_get l k) value_is ∙ at_own k event t xs x move.here

  pub last_behind : (e : End) → last_at e k (states (slice_set lanes k t.lane) new) ≡ (net_end e t.lane).last
  last_behind e =
      ap (λ (o : Option PortState). option_map_or (λ (p : PortState). (net_end e p.lane).last) o []) there_behind

  gets_run : (n : ℕ) (y : PortState) → slice_get xs n ≡ Some y → Run SwitchStep y (gets n event) (given_to n event y)
  gets_run = receives xs k event move.sees move.of_frame

  own_step : (y : PortState) → slice_get xs k ≡ Some y → SwitchStep y event t
  own_step y at = subst (λ (p : PortState). SwitchStep p event t) (same_Some x y (sym move.here ∙ at)) move.step

  pub entry : EntryOf kind k xs event (states (slice_set lanes k t.lane) new)
  entry = subst (λ (l : List PortState). EntryOf kind k xs event l) (sym value_is) (record {
    within = slice_get_within xs k x move.here;
    step = record {
      sees = move.sees;
      step = all_step k event t xs x move.here move.step (λ n y at other. gets_run n y at);
    };
  })

  tied_after : Tied (slice_set lanes k t.lane) new after
  tied_after = record {
    lanes_are = lanes_after;
    known_are = known_after;
    few = subst (λ (n : ℕ). n ≤ 8) (sym (as_long k event t 0 xs)) tied.few;
    reached = each_behind k event t IsReached IsReached xs tied.reached
        (λ y at reached. reached_step y event t reached (own_step y at))
        (λ n y at other reached.
        run_keeps SwitchStep IsReached (λ s e u step r. reached_step s e u r step) y (given_to n event y) (gets n event)
        (gets_run n y at) reached);
    differ =
        subst (λ (l : List NetShape). AddressesDiffer l) (sym (shapes_behind k event t xs x move.here move.shape))
        tied.differ;
  }

  pub tied_behind : Tied (slice_set lanes k t.lane) new (states (slice_set lanes k t.lane) new)
  tied_behind = subst (λ (l : List PortState). Tied (slice_set lanes k t.lane) new l) (sym value_is) tied_after

  below_behind : (n r m : ℕ) → r ≤ m → raises event ≤ m → Rises r x t → GivenBelow n xs
      → GivenBelow (n + m) (states (slice_set lanes k t.lane) new)
  below_behind n r m few raised rises below =
      subst (λ (l : List PortState). GivenBelow (n + m) l) (sym value_is)
      (each_behind k event t (IsBelow n) (IsBelow (n + m)) xs below
      (λ y at is. below_more n r m y t few (subst (λ (p : PortState). Rises r p t) (same_Some x y (sym move.here ∙ at))
      rises) is)
      (λ i y at other is. below_more n (raises event) m y (given_to i event y) raised (given_rises event i y) is))

  pub gives_one : (r : ℕ) → r ≤ 1 → raises event ≤ 1 → Rises r x t
      → GivesOneMore xs (states (slice_set lanes k t.lane) new)
  gives_one r few raised rises n below = below_behind n r 1 few raised rises below

  pub gives_none : raises event ≡ 0 → Rises 0 x t → GivesNoMore xs (states (slice_set lanes k t.lane) new)
  gives_none none rises n below =
      let zero_more : n + 0 ≡ n = omega arith in
      subst (λ (m : ℕ). GivenBelow m (states (slice_set lanes k t.lane) new)) zero_more
      (below_behind n 0 0 (omega arith) (omega (arith, none)) rises below)
