-- A step of the switch's end of a port, and a reset of an end, among all ports.
use Rattle.std.proofs.Common.{◌≡◌, ◌≢◌, ℕ, ◌+◌, ◌-◌, ◌^◌, ◌≤◌, ◌<◌, Bool, true, false, List, [], length, Option, Some, None, option_map, slice_get, slice_set, get_or, is_some, IfNone, IfSome, IsSomeAnd, refl, sym, ap, ap₂, subst, ◌∙◌, arith}
use Rattle.std.specs.Option.{option_map_or}
use Rattle.std.proofs.lemmas.Option.{slice_get-map}
use Rattle.lane_kinds.specs.Lanes.{EntryOf}
use Rattle.ldc_queue.specs.declared.end.End.{End}
use Rattle.ldc_queue.specs.declared.end.End.TheVariants.{A, B}
use Rattle.net_lane.specs.Events.{SameIds}
use Rattle.net_lane.specs.Stepping.{net_answer}
use Rattle.net_lane.specs.net_out.NetOut.{NetOut}
use Rattle.net_lane.specs.net_out.NetOut.TheVariants as out
use Rattle.lane_models.specs.NetEndState.{NetSession}
use Rattle.lane_models.specs.NetEndStep.{Frame, NetAnswer}
use Rattle.lane_models.specs.NetEvent.{Asked, NetEvent, Steps}
use Rattle.lane_models.specs.NetLaneState.{NetLaneState, NetShape, net_end}
use Rattle.lane_models.specs.NetLaneStep.{NetLaneStep}
use Rattle.lane_models.specs.PortState.{OnLane, PortState, PortStep}
use Rattle.switch_laws.proofs.Steps.{as_on_switch}
use Rattle.switch_laws.specs.Events.{OnPort, SwitchEvent, SwitchStep, Switched}
use Rattle.switch_laws.specs.Forwards.{SeesSwitch, address_in, port_view, views}
use Rattle.switch_laws.specs.Ports.{ports as kind}
use Rattle.switch_laws.specs.Reached.{IsReached}
use Rattle.vnet_switch.proofs.Changes.{option_map_some, port_found}
use Rattle.vnet_switch.specs.Forward.{HasAddress}
use Rattle.vnet_switch.specs.PortView.{PortView}
use Rattle.vnet_switch.specs.Queues.{ChangesAt, waiting_for, with_session}
use Rattle.vnet_switch.specs.declared.forwarding.Switched.{Switched as Sets}
use Rattle.switched_ports.specs.Events.{is_frame, step_event}
use Rattle.switched_ports.specs.Given.{GivenBelow, GivesNoMore, GivesOneMore, IsBelow}
use Rattle.switched_ports.specs.HubSteps.{GoesTo, HubSteps, Known, TakesFrame, given_by, port_at}
use Rattle.switched_ports.specs.States.{last_at, shapes_in, state_of, states}
use Rattle.switched_ports.specs.Tied.{Tied}
use Rattle.switched_ports.proofs.Asides.{Read, each_at, reads}
use Rattle.switched_ports.proofs.Became.{seen_given}
use Rattle.switched_ports.proofs.Entries.{Move, OfFrame, Rises, entry, gives_none, gives_one, last_behind, raises, tied_behind}
use Rattle.switched_ports.proofs.Places.{map_same, view_of}
use Rattle.switched_ports.proofs.Switching.{takes_frame}

-- THE EVENT by its answer: of the port's lane, or a frame that was switched
pub event_is : (P : SwitchEvent → Type 0) → ((event : NetEvent) → P (OnPort (OnLane event)))
    → ((frame : List ℕ) (out full : ℕ) → P (Switched frame out full))
    → (e : End) (answer : NetAnswer) (sets : Option Sets) → P (step_event e answer sets)
event_is P of_lane switched B (Frame frame) (Some sets) = switched frame sets.out sets.full
event_is P of_lane switched e answer sets = of_lane (Steps e answer)

step_by : (x t : PortState) (answer : NetOut) (last : List ℕ) (sets : Option Sets) → IsReached x
    → is_some sets ≡ is_frame answer
    → PortStep x (OnLane (Steps B (net_answer answer last))) t
    → SwitchStep x (step_event B (net_answer answer last) sets) t
step_by x t (out.Frame len) last (Some sets) at same step = step
step_by x t (out.Frame len) last None at same step = absurd (cc same)
step_by x t answer last (Some sets) at same step = absurd (cc same)
step_by x t answer last None at same step = as_on_switch x (OnLane (Steps B (net_answer answer last))) t at tt step

sees_by : (k : ℕ) (xs : List PortState) (answer : NetOut) (last : List ℕ) (sets : Option Sets)
    → is_some sets ≡ is_frame answer
    → IfSome sets (GoesTo k last (views xs)) → SeesSwitch xs k (step_event B (net_answer answer last) sets)
sees_by k xs (out.Frame len) last (Some sets) same goes = record { gets = goes.gets; lacks = goes.lacks }
sees_by k xs (out.Frame len) last None same goes = tt
sees_by k xs answer last sets same goes = tt

of_frame_by : (answer : NetOut) (last : List ℕ) (sets : Option Sets) → TakesFrame answer last
    → OfFrame (step_event B (net_answer answer last) sets)
of_frame_by (out.Frame len) last (Some sets) is = is
of_frame_by (out.Frame len) last None is = tt
of_frame_by answer last sets is = tt

others_by : (answer : NetOut) (last : List ℕ) (sets : Option Sets) (o n : Option (PortView (List ℕ))) (j : ℕ)
    → is_some sets ≡ is_frame answer
    → n ≡ option_map (given_by sets last j) o
    → n ≡ option_map (seen_given j (step_event B (net_answer answer last) sets)) o
others_by (out.Frame len) last (Some sets) o n j same is = is
others_by (out.Frame len) last None o n j same is = absurd (cc same)
others_by answer last (Some sets) o n j same is = absurd (cc same)
others_by answer last None o n j same is = is

raises_by : (answer : NetOut) (last : List ℕ) (sets : Option Sets)
    → raises (step_event B (net_answer answer last) sets) ≤ 1
raises_by (out.Frame len) last (Some sets) = omega arith
raises_by (out.Frame len) last None = omega arith
raises_by answer last sets = omega arith

pub none_more : (sets : Option Sets) (Holds : Type 0) → (sets ≡ None → Holds) → IfNone sets Holds
none_more None Holds holds = holds refl
none_more (Some sets) Holds holds = tt

raises_none : (answer : NetOut) (last : List ℕ) → raises (step_event B (net_answer answer last) None) ≡ 0
raises_none (out.Frame len) last = refl
raises_none answer last = refl

-- WHAT THE SWITCH KNOWS: no other port has the address
address_of : (session : Option NetSession) (own address : List ℕ) → address_in session own ≡ Some address
    → own ≡ address
address_of None own address is = absurd (cc is)
address_of (Some session) own address is = cc is

pub no_other : (lanes : List NetLaneState) (known : Known) (xs : List PortState) (k : ℕ) (x : PortState)
    → Tied lanes known xs
    → slice_get xs k ≡ Some x → (j : ℕ) → HasAddress known x.lane.shape.address j → j ≡ k
no_other lanes known xs k x tied at j has =
    let seen : (port : PortView (List ℕ)) × (slice_get known j ≡ Some port)
    × (port.address ≡ Some x.lane.shape.address) =
    port_found known j (λ port. port.address ≡ Some x.lane.shape.address) has in
    let mapped : option_map port_view (slice_get xs j) ≡ Some seen.0 =
    sym (slice_get-map port_view xs j) ∙ ap (λ (l : Known). slice_get l j) (sym tied.known_are) ∙ seen.1 in
    let from : (y : PortState) × (slice_get xs j ≡ Some y) × (seen.0 ≡ port_view y) =
    option_map_some port_view (slice_get xs j) seen.0 mapped in
    let own : y_address from.0 ≡ x.lane.shape.address =
    address_of from.0.lane.hub.session (y_address from.0) x.lane.shape.address
    (ap (λ (p : PortView (List ℕ)). p.address) (sym from.2) ∙ seen.2) in
    tied.differ j k from.0.lane.shape x.lane.shape (shape_at j from.0 from.1) (shape_at k x at) own
  where
    y_address : PortState → List ℕ
    y_address y = y.lane.shape.address

    shape_at : (n : ℕ) (y : PortState) → slice_get xs n ≡ Some y → slice_get (shapes_in xs) n ≡ Some y.lane.shape
    shape_at n y is =
        slice_get-map (λ (p : PortState). p.lane.shape) xs n ∙ ap (option_map (λ (p : PortState). p.lane.shape)) is

asked_shape : (e : End) (s t : NetLaneState) (lost : ℕ) → NetLaneStep s (Asked e lost) t → t.shape ≡ s.shape
asked_shape A s t lost step = ap (λ (l : NetLaneState). l.shape) step.1
asked_shape B s t lost step = ap (λ (l : NetLaneState). l.shape) step.1

-- THE PORT that a call reads, as what the switch's end wants of it
module _ (lanes : List NetLaneState) (known : Known) (xs : List PortState) (k : ℕ) (s : NetLaneState)
    (is : states lanes known ≡ xs) (seen : Tied lanes known (states lanes known)) (within : k < length xs)
    (at : s ≡ get_or lanes k s) where
  tied : Tied lanes known xs
  tied = subst (λ (l : List PortState). Tied lanes known l) is seen

  read : Read known xs k s
  read = reads lanes known xs k s tied within at

  port_is : port_at k s known ≡ read.port
  port_is = read.there_is.is

  pub known_there : slice_get known k ≡ Some (port_view (port_at k s known))
  known_there = read.there_is.seen ∙ ap (λ (p : PortState). Some (port_view p)) (sym port_is)

  pub reached_there : IsReached (port_at k s known)
  reached_there = subst IsReached (sym port_is) read.reached

  own_there : slice_get xs k ≡ Some (port_at k s known)
  own_there = read.there_is.at ∙ ap Some (sym port_is)

  pub differs : (j : ℕ) → HasAddress known s.shape.address j → j ≡ k
  differs = no_other lanes known xs k (port_at k s known) tied own_there

  pub few_ids : GivenBelow (2 ^ 64 - 1) xs → s.hub.next_id < 2 ^ 64 - 1
  few_ids below =
      let own : IsBelow (2 ^ 64 - 1) (port_at k s known) =
      each_at (IsBelow (2 ^ 64 - 1)) xs k (port_at k s known) below own_there in
      lower (s.hub.next_id) (length (waiting_for k known)) (2 ^ 64 - 1) own.hub
    where
      lower : (a b n : ℕ) → a + b < n → a < n
      lower a b n less = omega (arith, less)

  -- A STEP of the switch's end
  module _ (t : NetLaneState) (new : Known) (answer : NetOut) (sets : Option Sets)
      (same : is_some sets ≡ is_frame answer)
      (steps : HubSteps k s known answer sets t new) where
    abbrev event : SwitchEvent
    event = step_event B (net_answer answer t.hub.last) sets

    hub_move : Move known xs k event (port_at k s known) (port_at k t new) new
    hub_move = record {
      here = own_there;
      step = step_by (port_at k s known) (port_at k t new) answer t.hub.last sets reached_there same steps.step;
      sees =
          sees_by k xs answer t.hub.last sets same (subst (λ (l : Known). IfSome sets (GoesTo k t.hub.last l))
          tied.known_are steps.goes);
      of_frame =
          of_frame_by answer t.hub.last sets (takes_frame B (port_at k s known) (port_at k t new) answer t.hub.last
          reached_there steps.step);
      shape = steps.shape;
      told = steps.told;
      others =
          λ j other. others_by answer t.hub.last sets (slice_get known j) (slice_get new j) j same
          (steps.others j other);
    }

    pub hub_tied : Tied (slice_set lanes k t) new (states (slice_set lanes k t) new)
    hub_tied = tied_behind lanes known new xs k event (port_at k s known) (port_at k t new) tied hub_move

    pub hub_last : last_at B k (states (slice_set lanes k t) new) ≡ t.hub.last
    hub_last = last_behind lanes known new xs k event (port_at k s known) (port_at k t new) tied hub_move B

    pub hub_entry : EntryOf kind k xs (step_event B (net_answer answer (last_at B k (states (slice_set lanes k t) new)))
        sets) (states (slice_set lanes k t) new)
    hub_entry =
        subst (λ (last : List ℕ). EntryOf kind k xs (step_event B (net_answer answer last) sets)
        (states (slice_set lanes k t) new)) (sym hub_last)
        (entry lanes known new xs k event (port_at k s known) (port_at k t new) tied hub_move)

    hub_rises : Rises 0 (port_at k s known) (port_at k t new)
    hub_rises = record { guest = omega (arith, steps.guest_ids); hub = omega (arith, steps.hub_ids) }

    pub hub_one : GivesOneMore xs (states (slice_set lanes k t) new)
    hub_one = gives_one lanes known new xs k event (port_at k s known) (port_at k t new) tied hub_move 0 (omega arith)
        (raises_by answer t.hub.last sets) hub_rises

    pub hub_none : sets ≡ None → GivesNoMore xs (states (slice_set lanes k t) new)
    hub_none none = gives_none lanes known new xs k event (port_at k s known) (port_at k t new) tied hub_move
        (ap (λ (o : Option Sets). raises (step_event B (net_answer answer t.hub.last) o)) none ∙ raises_none answer
        t.hub.last) hub_rises

  -- A RESET of an end, of which the switch is told
  module _ (e : End) (lost : ℕ) (t : NetLaneState) (new : Known) (step : NetLaneStep s (Asked e lost) t) where
    pub reset_differs : (j : ℕ) → HasAddress known t.shape.address j → j ≡ k
    reset_differs =
        subst (λ (shape : NetShape). (j : ℕ) → HasAddress known shape.address j → j ≡ k)
        (sym (asked_shape e s t lost step)) differs

    module _ (told : ChangesAt (λ j. j ≡ k) (with_session (address_in t.hub.session t.shape.address) t.hub.groups) known
        new) where
      abbrev begun : PortState
      begun = state_of t (waiting_for k known)

      reset_move : Move known xs k (OnPort (OnLane (Asked e lost))) (port_at k s known) begun new
      reset_move = record {
        here = own_there;
        step = as_on_switch (port_at k s known) (OnLane (Asked e lost)) begun reached_there tt (tt, step, refl);
        sees = tt;
        of_frame = tt;
        shape = asked_shape e s t lost step;
        told = told.these k refl
            ∙ ap (option_map (with_session (address_in t.hub.session t.shape.address) t.hub.groups)) known_there
            ∙ ap (λ (room : ℕ). Some (view_of (address_in t.hub.session t.shape.address) t.hub.groups room
            (waiting_for k known)))
            (sym (ap (λ (shape : NetShape). shape.slots) (asked_shape e s t lost step)));
        others = λ j other. told.others j other ∙ sym (map_same (slice_get known j));
      }

      pub reset_tied : Tied (slice_set lanes k t) new (states (slice_set lanes k t) new)
      reset_tied =
          tied_behind lanes known new xs k (OnPort (OnLane (Asked e lost))) (port_at k s known) begun tied reset_move

      pub reset_entry : EntryOf kind k xs (OnPort (OnLane (Asked e lost))) (states (slice_set lanes k t) new)
      reset_entry =
          entry lanes known new xs k (OnPort (OnLane (Asked e lost))) (port_at k s known) begun tied reset_move

      pub reset_none : SameIds s t → GivesNoMore xs (states (slice_set lanes k t) new)
      reset_none same =
          gives_none lanes known new xs k (OnPort (OnLane (Asked e lost))) (port_at k s known) begun tied reset_move
          refl
          (record { guest = omega (arith, same.guest); hub = omega (arith, same.hub) })
