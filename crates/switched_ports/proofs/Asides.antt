-- A call of a port that leaves its end at the switch as it is, among all ports: the switch needn't be told.
use Rattle.std.proofs.Common.{◌≡◌, ◌≢◌, ℕ, zero, suc, option_map, ◌∷◌, ◌+◌, ◌≤◌, ◌<◌, List, [], length, Option, Some, None, slice_get, slice_set, get_or, refl, sym, ap, ap₂, subst, ◌∙◌, arith}
use Rattle.std.specs.Option.{option_map_or}
use Rattle.std.proofs.lemmas.Option.{slice_get-map, slice_get_read}
use Rattle.lane_kinds.specs.Lanes.{EachOf, EntryOf}
use Rattle.net_lane.specs.Events.{SameIds}
use Rattle.lane_models.specs.NetEndState.{NetEndState}
use Rattle.lane_models.specs.NetEvent.{NetEvent}
use Rattle.ldc_queue.specs.declared.end.End.{End}
use Rattle.lane_models.specs.NetLaneState.{NetLaneState, NetShape, net_end}
use Rattle.lane_models.specs.NetLaneStep.{NetLaneStep}
use Rattle.lane_models.specs.PortState.{OnLane, PortState, PortStep}
use Rattle.switch_laws.proofs.Steps.{as_on_switch}
use Rattle.switch_laws.specs.Events.{OnPort, SwitchEvent}
use Rattle.switch_laws.specs.Forwards.{address_in, port_view}
use Rattle.switch_laws.specs.Ports.{ports as kind}
use Rattle.switch_laws.specs.Reached.{IsReached}
use Rattle.vnet_switch.specs.PortView.{PortView}
use Rattle.vnet_switch.specs.Queues.{waiting_for}
use Rattle.switched_ports.specs.Given.{GivenBelow, GivesNoMore, GivesOneMore, IsBelow}
use Rattle.switched_ports.specs.HubSteps.{Known}
use Rattle.switched_ports.specs.States.{last_at, queue_at, state_of, states}
use Rattle.switched_ports.specs.Tied.{Tied}
use Rattle.switched_ports.proofs.Aside.{Aside, Keeps, aside_alone, aside_keeps, aside_step}
use Rattle.switched_ports.proofs.Became.{seen_given}
use Rattle.switched_ports.proofs.Entries.{Move, Rises, entry, gives_none, gives_one, last_behind, tied_behind}
use Rattle.switched_ports.proofs.Places.{There, as_many, map_same, there, view_of}

pub each_at : (P : PortState → Type 0) (xs : List PortState) (k : ℕ) (x : PortState) → EachOf P xs
    → slice_get xs k ≡ Some x → P x
each_at P [] k x each at = absurd (cc at)
each_at P (y ∷ xs) zero x each at = let same : y ≡ x = cc at in subst P same each.0
each_at P (y ∷ xs) (suc k) x each at = each_at P xs k x each.1 at

-- THE PORT that a call reads, where the ports are seen as a list
pub record Read (known : Known) (xs : List PortState) (k : ℕ) (s : NetLaneState) : Type 0 where
  pub port : PortState
  pub there_is : There known xs k s port
  pub reached : IsReached port

pub reads : (lanes : List NetLaneState) (known : Known) (xs : List PortState) (k : ℕ) (s : NetLaneState)
    → Tied lanes known xs
    → k < length xs → s ≡ get_or lanes k s → Read known xs k s
reads lanes known xs k s tied within at =
    let found =
    there lanes known xs k s tied (slice_get_read lanes (length lanes) k s refl
    (subst (λ (n : ℕ). k < n) (sym (as_many lanes known xs tied)) within) at) in
    record { port = found.0; there_is = found.1; reached = each_at IsReached xs k found.0 tied.reached found.1.at }

pub same_queue : (lanes : List NetLaneState) (known : Known) (xs : List PortState) (k : ℕ) → Tied lanes known xs
    → waiting_for k known ≡ queue_at k xs
same_queue lanes known xs k tied =
    ap (λ (l : Known). waiting_for k l) tied.known_are
    ∙ ap (λ (o : Option (PortView (List ℕ))). option_map_or (λ p. p.queue) o []) (slice_get-map port_view xs k)
    ∙ by_option (slice_get xs k)
  where
    by_option : (o : Option PortState) → option_map_or (λ (p : PortView (List ℕ)). p.queue) (option_map port_view o) []
        ≡ option_map_or (λ (p : PortState). p.queue) o []
    by_option None = refl
    by_option (Some x) = refl

pub queue_seen : (lanes : List NetLaneState) (known : Known) (xs : List PortState) (k : ℕ) → states lanes known ≡ xs
    → Tied lanes known (states lanes known) → waiting_for k known ≡ queue_at k xs
queue_seen lanes known xs k is tied =
    same_queue lanes known xs k (subst (λ (l : List PortState). Tied lanes known l) is tied)

view_kept : (s t : NetLaneState) (queue : List (List ℕ)) → Keeps s t
    → port_view (state_of t queue) ≡ port_view (state_of s queue)
view_kept s t queue keeps =
    ap₂ (λ (hub : NetEndState) (shape : NetShape). view_of (address_in hub.session shape.address) hub.groups shape.slots
    queue)
    keeps.hub keeps.shape

queue_there : (xs : List PortState) (k : ℕ) (x : PortState) → slice_get xs k ≡ Some x → queue_at k xs ≡ x.queue
queue_there xs k x at = ap (λ (o : Option PortState). option_map_or (λ (p : PortState). p.queue) o []) at

module _ (lanes : List NetLaneState) (known : Known) (xs : List PortState) (k : ℕ) (s t : NetLaneState)
    (event : NetEvent)
    (is : states lanes known ≡ xs) (seen : Tied lanes known (states lanes known)) (within : k < length xs)
    (at : s ≡ get_or lanes k s)
    (aside : Aside (queue_at k xs) event) (step : NetLaneStep s event t) where
  tied : Tied lanes known xs
  tied = subst (λ (l : List PortState). Tied lanes known l) is seen

  abbrev read : Read known xs k s
  read = reads lanes known xs k s tied within at

  aside_here : Aside read.port.queue event
  aside_here = subst (λ (q : List (List ℕ)). Aside q event) (queue_there xs k read.port read.there_is.at) aside

  step_here : NetLaneStep read.port.lane event t
  step_here = subst (λ (l : NetLaneState). NetLaneStep l event t) read.there_is.lane step

  abbrev behind_it : PortState
  behind_it = state_of t read.port.queue

  keeps : Keeps read.port.lane t
  keeps = aside_keeps read.port.queue read.port.lane t event aside_here step_here

  move : Move known xs k (OnPort (OnLane event)) read.port behind_it known
  move = record {
    here = read.there_is.at;
    step = as_on_switch read.port (OnLane event) behind_it read.reached (aside_alone read.port.queue event aside_here)
        (aside_step read.port.queue read.port.lane t event aside_here step_here);
    sees = tt;
    of_frame = tt;
    shape = keeps.shape;
    told = read.there_is.seen ∙ ap Some (sym (view_kept read.port.lane t read.port.queue keeps));
    others = λ n other. sym (map_same (slice_get known n));
  }

  pub aside_tied : Tied (slice_set lanes k t) known (states (slice_set lanes k t) known)
  aside_tied = tied_behind lanes known known xs k (OnPort (OnLane event)) read.port behind_it tied move

  pub aside_entry : EntryOf kind k xs (OnPort (OnLane event)) (states (slice_set lanes k t) known)
  aside_entry = entry lanes known known xs k (OnPort (OnLane event)) read.port behind_it tied move

  pub aside_last : (e : End) → last_at e k (states (slice_set lanes k t) known) ≡ (net_end e t).last
  aside_last = last_behind lanes known known xs k (OnPort (OnLane event)) read.port behind_it tied move

  rises : (r : ℕ) → t.guest.next_id ≤ s.guest.next_id + r → t.hub.next_id ≤ s.hub.next_id → Rises r read.port behind_it
  rises r guest hub =
      subst (λ (l : NetLaneState). (t.guest.next_id ≤ l.guest.next_id + r) → (t.hub.next_id ≤ l.hub.next_id) → Rises r
      read.port behind_it)
      (sym read.there_is.lane) (λ g h. record { guest = g; hub = omega (arith, h) }) guest hub

  pub aside_none : SameIds s t → GivesNoMore xs (states (slice_set lanes k t) known)
  aside_none same =
      gives_none lanes known known xs k (OnPort (OnLane event)) read.port behind_it tied move refl
      (rises 0 (omega (arith, same.guest)) (omega (arith, same.hub)))

  pub aside_one : t.guest.next_id ≤ s.guest.next_id + 1 → t.hub.next_id ≡ s.hub.next_id
      → GivesOneMore xs (states (slice_set lanes k t) known)
  aside_one guest hub =
      gives_one lanes known known xs k (OnPort (OnLane event)) read.port behind_it tied move 1 (omega arith)
      (omega arith)
      (rises 1 guest (omega (arith, hub)))

pub few_given : (lanes : List NetLaneState) (known : Known) (xs : List PortState) (k : ℕ) (s : NetLaneState)
    → states lanes known ≡ xs
    → Tied lanes known (states lanes known) → k < length xs → s ≡ get_or lanes k s → (n : ℕ) → GivenBelow n xs
    → s.guest.next_id < n
few_given lanes known xs k s is seen within at n below =
    let read : Read known xs k s =
    reads lanes known xs k s (subst (λ (l : List PortState). Tied lanes known l) is seen) within at in
    let own : IsBelow n read.port = each_at (IsBelow n) xs k read.port below read.there_is.at in
    subst (λ (l : NetLaneState). l.guest.next_id < n) (sym read.there_is.lane) own.guest
