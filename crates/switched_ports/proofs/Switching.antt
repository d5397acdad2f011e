-- A step of the switch's end of a port, with what the switch does for it.
use Rattle.std.proofs.Common.{◌≡◌, ◌≢◌, ◌↔◌, ℕ, ◌+◌, ◌<◌, ◌==◌, if◌then◌else◌, Bool, true, false, List, [], ◌∷◌, ◌++◌, length, take, Option, Some, None, option_map, slice_get, is_some, IfSome, IsSomeAnd, IsBitSet, inl, inr, refl, sym, ap, ap₂, subst, ◌∙◌, arith}
use Rattle.std.specs.Option.{option_map_or}
use Rattle.std.specs.Int.{bit_at}
use Rattle.std.proofs.lemmas.Bool.{cases_eq, eq-eqb, eqb-true}
use Rattle.ldc_queue.specs.declared.end.End.{End}
use Rattle.ldc_queue.specs.declared.end.End.TheVariants.{B}
use Rattle.net_lane.specs.Events.{SameIds}
use Rattle.net_lane.specs.Frames.{IsFrame}
use Rattle.net_lane.specs.Stepping.{net_answer}
use Rattle.net_lane.specs.net_out.NetOut.{NetOut}
use Rattle.net_lane.specs.net_out.NetOut.TheVariants as out
use Rattle.port_laws.proofs.RuleFrames.{port_takes}
use Rattle.lane_models.specs.FrameLaws.{TakingAt}
use Rattle.lane_models.specs.NetEndState.{NetEndState, NetSession}
use Rattle.lane_models.specs.NetEndStep.{Frame, NetAnswer}
use Rattle.lane_models.specs.NetEvent.{Steps}
use Rattle.lane_models.specs.NetLaneState.{NetLaneState, NetShape}
use Rattle.lane_models.specs.NetLaneStep.{NetLaneStep}
use Rattle.lane_models.specs.PortLog.{after, no_events}
use Rattle.lane_models.specs.PortState.{OnLane, PortState, PortStep, fresh_port, moved}
use Rattle.runs.specs.Lawful.{lawful_split}
use Rattle.runs.specs.Run.{run_push}
use Rattle.switch_laws.specs.Forwards.{address_in, port_view}
use Rattle.switch_laws.specs.Reached.{IsReached}
use Rattle.vnet_switch.proofs.Bits.{set_from, set_means}
use Rattle.vnet_switch.specs.Forward.{GetsFrame, HasAddress, IsFor, PortIs}
use Rattle.vnet_switch.specs.PortSet.{IsSetOf}
use Rattle.vnet_switch.specs.PortView.{PortView}
use Rattle.vnet_switch.specs.Queues.{ChangesAt, QueueHasRoom, IsFull, waiting_for, with_last, with_session}
use Rattle.vnet_switch.specs.declared.forwarding.Switched.{Switched as Sets}
use Rattle.switched_ports.specs.HubSteps.{GoesTo, HandsOn, HandsOver, HubSteps, Known, TakesFrame, given_by, port_at, with_queue}
use Rattle.switched_ports.specs.States.{state_of}
use Rattle.switched_ports.proofs.Moving.{same_guest, same_shape, same_sum}
use Rattle.switched_ports.proofs.Places.{map_same, view_of}

-- A FRAME that an end of a reached port takes has its length
frame_is : (e : End) (s t : PortState) (frame : List ℕ) → IsReached s
    → PortStep s (OnLane (Steps e (Frame frame))) t → IsFrame frame
frame_is e s t frame at step =
    let event = OnLane (Steps e (Frame frame)) in
    let lawful =
    port_takes at.shape (at.events ++ event ∷ []) t at.sound
    (run_push PortStep (fresh_port at.shape) s t at.events event at.run step) in
    (lawful_split TakingAt after (no_events at.shape) at.events (event ∷ []) lawful).1.0.0

pub takes_frame : (e : End) (s t : PortState) (answer : NetOut) (last : List ℕ) → IsReached s
    → PortStep s (OnLane (Steps e (net_answer answer last))) t
    → TakesFrame answer last
takes_frame e s t (out.Frame len) last at step = frame_is e s t last at step
takes_frame e s t _ last at step = tt

-- THE PORT'S OWN STEP
module _ (k : ℕ) (s mid t : NetLaneState) (old handed : Known) (answer : NetOut) (over : HandsOver k s old mid handed)
    (step : NetLaneStep mid (Steps B (net_answer answer t.hub.last)) t) where
  lane_step : NetLaneStep (moved (port_at k s old)).lane (Steps B (net_answer answer t.hub.last)) t
  lane_step = subst (λ (l : NetLaneState). NetLaneStep l (Steps B (net_answer answer t.hub.last)) t)
      (ap (λ (p : PortState). p.lane) over.moves) step

  own_step : (queue : List (List ℕ)) → queue ≡ waiting_for k handed
      → PortStep (port_at k s old) (OnLane (Steps B (net_answer answer t.hub.last))) (state_of t queue)
  own_step queue is = (tt, lane_step, is ∙ ap (λ (p : PortState). p.queue) over.moves)

  pub takes : IsReached (port_at k s old) → TakesFrame answer t.hub.last
  takes at =
      takes_frame B (port_at k s old) (state_of t (waiting_for k handed)) answer t.hub.last at
      (own_step (waiting_for k handed) refl)

  shape_mid : t.shape ≡ mid.shape
  shape_mid = ap (λ (l : NetLaneState). l.shape) step.is

  pub shape_is : t.shape ≡ s.shape
  shape_is = shape_mid ∙ ap (λ (p : PortState). p.lane.shape) over.moves ∙ same_shape (port_at k s old)

-- WHAT WAS HANDED ON leaves the port's own place, and gives others the frame
bit_given : (b : Bool) (frame : List ℕ) (o n : Option (PortView (List ℕ)))
    → (b ≡ true → n ≡ option_map (with_last frame) o)
    → (b ≡ false → n ≡ o) → n ≡ option_map (λ port. if b then with_last frame port else port) o
bit_given true frame o n set_ not_ = set_ refl
bit_given false frame o n set_ not_ = not_ refl ∙ sym (map_same o)

not_set : (n k : ℕ) → (bit_at n k == 1) ≡ false → ¬ (IsBitSet n k)
not_set n k is bit = (let wrong : true ≡ false = sym (eq-eqb (bit_at n k) 1 (set_means n k bit)) ∙ is in cc wrong)

module _ (k : ℕ) (frame : List ℕ) (old : Known) where
  pub others_given : (sets : Option Sets) (new : Known) → HandsOn k frame old sets new
      → (j : ℕ) → slice_get new j ≡ option_map (given_by sets frame j) (slice_get old j)
  others_given None new is j = ap (λ (l : Known). slice_get l j) is ∙ sym (map_same (slice_get old j))
  others_given (Some sets) new puts j =
      bit_given (bit_at sets.out j == 1) frame (slice_get old j) (slice_get new j)
      (λ is. puts.1.these j (set_from sets.out j (eqb-true (bit_at sets.out j) 1 is)))
      (λ is. puts.1.others j (not_set sets.out j is))

  pub own_stays : (sets : Option Sets) (new : Known) → HandsOn k frame old sets new → slice_get new k ≡ slice_get old k
  own_stays None new is = ap (λ (l : Known). slice_get l k) is
  own_stays (Some sets) new puts = puts.1.others k (λ bit. ((puts.0.gets k).0 bit).0.0 refl)

  pub as_long : (sets : Option Sets) (new : Known) → HandsOn k frame old sets new → length new ≡ length old
  as_long None new is = ap (λ (l : Known). length l) is
  as_long (Some sets) new puts = puts.1.same_length

  goes : (sets : Option Sets) (new : Known) → HandsOn k frame old sets new → IfSome sets (GoesTo k frame old)
  goes None new is = tt
  goes (Some sets) new puts = puts.0

-- TO WHICH PORTS IT GOES is the same where the other ports are
module _ (k : ℕ) (frame : List ℕ) (old new : Known) (same : (j : ℕ) → j ≢ k → slice_get new j ≡ slice_get old j) where
  abbrev Gets : Known → (PortView (List ℕ) → Type 0) → ℕ → Type 0
  Gets known Holds j = GetsFrame known (take 6 frame) k j × PortIs known j Holds

  gets_same : (Holds : PortView (List ℕ) → Type 0) (j : ℕ) → Gets new Holds j ↔ Gets old Holds j
  gets_same Holds j = (
    λ g. (
      (g.0.0, subst (λ (o : Option (PortView (List ℕ))). IsSomeAnd o (IsFor (take 6 frame))) (same j g.0.0) g.0.1),
      subst (λ (o : Option (PortView (List ℕ))). IsSomeAnd o Holds) (same j g.0.0) g.1,
    ),
    λ g. (
      (
        g.0.0,
        subst (λ (o : Option (PortView (List ℕ))). IsSomeAnd o (IsFor (take 6 frame))) (sym (same j g.0.0))
            g.0.1,
      ),
      subst (λ (o : Option (PortView (List ℕ))). IsSomeAnd o Holds) (sym (same j g.0.0)) g.1,
    ),
  )

  set_same : (set : ℕ) (Holds : PortView (List ℕ) → Type 0) → IsSetOf set (Gets new Holds)
      → IsSetOf set (Gets old Holds)
  set_same set Holds is j = (λ bit. (gets_same Holds j).0 ((is j).0 bit), λ g. (is j).1 ((gets_same Holds j).1 g))

  pub goes_same : (sets : Option Sets) → IfSome sets (GoesTo k frame new) → IfSome sets (GoesTo k frame old)
  goes_same None goes_ = tt
  goes_same (Some sets) goes_ =
      record { gets = set_same sets.out QueueHasRoom goes_.gets; lacks = set_same sets.full IsFull goes_.lacks }

-- AN ADDRESS is where it was
has_before : (o n : Option (PortView (List ℕ))) (sets : Option Sets) (frame address : List ℕ) (j : ℕ)
    → n ≡ option_map (given_by sets frame j) o
    → IsSomeAnd n (λ port. port.address ≡ Some address) → IsSomeAnd o (λ port. port.address ≡ Some address)
has_before None n sets frame address j is has =
    subst (λ (x : Option (PortView (List ℕ))). IsSomeAnd x (λ port. port.address ≡ Some address)) is has
has_before (Some port) n sets frame address j is has =
    kept sets (subst (λ (x : Option (PortView (List ℕ))). IsSomeAnd x (λ p. p.address ≡ Some address)) is has)
  where
    by_bit : (b : Bool) → (if b then with_last frame port else port).address ≡ Some address
        → port.address ≡ Some address
    by_bit true at = at
    by_bit false at = at

    kept : (s : Option Sets) → (given_by s frame j port).address ≡ Some address → port.address ≡ Some address
    kept None at = at
    kept (Some s) at = by_bit (bit_at s.out j == 1) at

module _ (k : ℕ) (s mid t : NetLaneState) (old handed behind : Known) (answer : NetOut) (sets : Option Sets)
    (over : HandsOver k s old mid handed) (step : NetLaneStep mid (Steps B (net_answer answer t.hub.last)) t)
    (on : HandsOn k t.hub.last handed sets behind) where
  others_before : (j : ℕ) → j ≢ k → slice_get behind j ≡ option_map (given_by sets t.hub.last j) (slice_get old j)
  others_before j other =
      others_given k t.hub.last handed sets behind on j
      ∙ ap (option_map (given_by sets t.hub.last j)) (over.known.others j other)

  pub still_differ : ((j : ℕ) → HasAddress old s.shape.address j → j ≡ k) → (j : ℕ)
      → HasAddress behind t.shape.address j → j ≡ k
  still_differ differ j has = elim (cases_eq j k) [
    | inl same ↦ same
    | inr other ↦ differ j (has_before (slice_get old j) (slice_get behind j) sets t.hub.last s.shape.address j
        (others_before j other)
        (subst (λ (shape : NetShape). HasAddress behind shape.address j)
        (shape_is k s mid t old handed answer over step) has))
  ]

  module _ (new : Known) (known : slice_get old k ≡ Some (port_view (port_at k s old))) (ids : SameIds mid t)
      (told : ChangesAt (λ j. j ≡ k) (with_session (address_in t.hub.session t.shape.address) t.hub.groups) behind
      new) where
    abbrev own : PortView (List ℕ)
    own =
        with_session (address_in t.hub.session t.shape.address) t.hub.groups
        (with_queue (waiting_for k handed) (port_view (port_at k s old)))

    own_is : slice_get new k ≡ Some own
    own_is =
        told.these k refl
        ∙ ap (option_map (with_session (address_in t.hub.session t.shape.address) t.hub.groups))
        (own_stays k t.hub.last handed sets behind on ∙ over.known.these k refl ∙ ap
        (option_map (with_queue (waiting_for k handed))) known)

    queue_is : waiting_for k new ≡ waiting_for k handed
    queue_is = ap (λ (o : Option (PortView (List ℕ))). option_map_or (λ (p : PortView (List ℕ)). p.queue) o []) own_is

    told_is : slice_get new k ≡ Some (port_view (port_at k t new))
    told_is =
        own_is
        ∙ ap₂ (λ (room : ℕ) (queue : List (List ℕ)). Some (view_of (address_in t.hub.session t.shape.address)
        t.hub.groups room queue))
        (sym (ap (λ (shape : NetShape). shape.slots) (shape_is k s mid t old handed answer over step))) (sym queue_is)

    moved_ids : mid.hub.next_id + length (waiting_for k handed) ≡ s.hub.next_id + length (waiting_for k old)
    moved_ids = ap (λ (p : PortState). p.lane.hub.next_id + length p.queue) over.moves ∙ same_sum (port_at k s old)

    pub hub_steps : HubSteps k s old answer sets t new
    hub_steps = record {
      step = own_step k s mid t old handed answer over step (waiting_for k new) queue_is;
      goes = goes_same k t.hub.last old handed over.known.others sets (goes k t.hub.last handed sets behind on);
      told = told_is;
      others = λ j other. told.others j other ∙ others_before j other;
      shape = shape_is k s mid t old handed answer over step;
      guest_ids = ids.guest ∙ ap (λ (p : PortState). p.lane.guest.next_id) over.moves ∙ same_guest (port_at k s old);
      hub_ids = ap₂ (λ (id : ℕ) (queue : List (List ℕ)). id + length queue) ids.hub queue_is ∙ moved_ids;
    }
