-- What a journal tells of the frames of a port is what its log has of them.
use Rattle.std.proofs.Common.{◌≡◌, ℕ, ◌+◌, ◌<◌, Bool, true, false, List, [], ◌∷◌, ◌++◌, map, refl, sym, ap, ◌∙◌, subst, append-nil, append_assoc, length, arith}
use Rattle.std.proofs.lemmas.Bool.{eqb-true}
use Rattle.std.specs.Int.{bit_at}
use Rattle.std.specs.Prelude.{◌==◌, if◌then◌else◌, IsBitSet, flat_map}
use Rattle.ldc_queue.specs.declared.end.End.{End}
use Rattle.ldc_queue.specs.declared.end.End.TheVariants.{A, B}
use Rattle.lane_kinds.specs.Lanes.{AllStep, EntryOf, own_or}
use Rattle.port_laws.specs.InOrder.{frames_taken, took}
use Rattle.lane_models.specs.EndLog.{EndLog}
use Rattle.lane_models.specs.NetEndStep.{BadLength, Blocked, Frame, Full, Idle, Joined, NetAnswer, Published, Queued, Reset, Sent, Took}
use Rattle.lane_models.specs.NetEvent.{Asked, Gives, NetEvent, Steps}
use Rattle.lane_models.specs.NetLaneState.{NetShape}
use Rattle.lane_models.specs.PortLog.{PortLog, after, after_answer, log_of_end, no_events}
use Rattle.lane_models.specs.PortState.{OnLane, PortEvent, PortState, Receives}
use Rattle.ldc_queue.specs.Transcript.{Utterance}
use Rattle.runs.specs.Lawful.{log_of}
use Rattle.runs.specs.Run.{Run}
use Rattle.lane_kinds.proofs.Places.{get_within}
use Rattle.switch_laws.proofs.Forwarding.{leaves_others, never_back}
use Rattle.switch_laws.specs.Events.{OnPort, SwitchEvent, SwitchStep, Switched, at_port}
use Rattle.switch_laws.specs.Forwards.{Forwards, SeesSwitch}
use Rattle.switch_laws.specs.Ports.{gets, gift, ports}
use Rattle.vnet_switch.proofs.Bits.{set_from}
use Rattle.world_laws.specs.Settle.{OfPort, SettleEntry}
use Rattle.domain_laws.specs.Along.{port_happened, port_said}
use Rattle.domain_laws.specs.Domain.{IsOwnEvent, PortMoves, PortsStep}
use Rattle.domain_laws.specs.Frames.{arrived_in, frames_arrived, frames_put, frames_queued, frames_switched, of_port, port_events, put_by, put_in, queued_in, switched_in}

-- THE FRAMES that an end is given by an event
abbrev gave : End → PortEvent → List (List ℕ)
gave A (OnLane (Gives A (Queued id frame))) = frame ∷ []
gave B (OnLane (Gives B (Queued id frame))) = frame ∷ []
gave B (Receives frame) = frame ∷ []
gave e _ = []

nothing_more : (given : List (List ℕ)) → given ≡ given ++ []
nothing_more given = sym (append-nil given)

answer_same : (slots : ℕ) (turns : List Utterance) (answer : NetAnswer) (l : EndLog) → (after_answer slots turns answer l).given ≡ l.given ++ []
answer_same slots turns (Took packet true) l = nothing_more l.given
answer_same slots turns (Took packet false) l = nothing_more l.given
answer_same slots turns (Sent packet true) l = nothing_more l.given
answer_same slots turns (Sent packet false) l = nothing_more l.given
answer_same slots turns Blocked l = nothing_more l.given
answer_same slots turns Idle l = nothing_more l.given
answer_same slots turns (Published id) l = nothing_more l.given
answer_same slots turns (Frame frame) l = nothing_more l.given
answer_same slots turns (Joined lost) l = nothing_more l.given
answer_same slots turns (Reset cause packet lost) l = nothing_more l.given

given_after : (e : End) (l : PortLog) (event : PortEvent) → (log_of_end e (after l event)).given ≡ (log_of_end e l).given ++ gave e event
given_after A l (OnLane (Steps A answer)) = answer_same l.shape.slots l.transcript.a answer l.guest
given_after B l (OnLane (Steps B answer)) = answer_same l.shape.slots l.transcript.b answer l.hub
given_after A l (OnLane (Gives A (Queued id frame))) = refl
given_after B l (OnLane (Gives B (Queued id frame))) = refl
given_after B l (Receives frame) = refl
given_after A l (OnLane (Asked A lost)) = nothing_more l.guest.given
given_after A l (OnLane (Asked B lost)) = nothing_more l.guest.given
given_after B l (OnLane (Asked A lost)) = nothing_more l.hub.given
given_after B l (OnLane (Asked B lost)) = nothing_more l.hub.given
given_after A l (OnLane (Gives B given)) = nothing_more l.guest.given
given_after B l (OnLane (Gives A given)) = nothing_more l.hub.given
given_after A l _ = nothing_more l.guest.given
given_after B l _ = nothing_more l.hub.given

given_along : (e : End) (l : PortLog) (events : List PortEvent) → (log_of_end e (log_of after l events)).given ≡ (log_of_end e l).given ++ flat_map (gave e) events
given_along e l [] = nothing_more (log_of_end e l).given
given_along e l (event ∷ events) =
    given_along e (after l event) events ∙ ap (λ (x : List (List ℕ)). x ++ flat_map (gave e) events) (given_after e l event)
    ∙ append_assoc (log_of_end e l).given (gave e event) (flat_map (gave e) events)

taken_along : (e : End) (events : List PortEvent) → frames_taken e events ≡ flat_map (took e) events
taken_along e [] = refl
taken_along e (event ∷ events) = ap (λ (x : List (List ℕ)). took e event ++ x) (taken_along e events)

-- ENTRY BY ENTRY, where each tells what the events tell
flat_both : (f : PortEvent → List (List ℕ)) (one two : List PortEvent) → flat_map f (one ++ two) ≡ flat_map f one ++ flat_map f two
flat_both f [] two = refl
flat_both f (x ∷ one) two = ap (λ (l : List (List ℕ)). f x ++ l) (flat_both f one two) ∙ sym (append_assoc (f x) (flat_map f one) (flat_map f two))

map_both : (one two : List SwitchEvent) → map at_port (one ++ two) ≡ map at_port one ++ map at_port two
map_both [] two = refl
map_both (x ∷ one) two = ap (λ (l : List PortEvent). at_port x ∷ l) (map_both one two)

module _ (k : ℕ) (told : SettleEntry → List (List ℕ)) (of_event : PortEvent → List (List ℕ))
    (each : (lanes : List PortState) (entry : SettleEntry) (behind : List PortState) → PortsStep lanes entry behind → told entry ≡ flat_map of_event (map at_port (port_said k entry))) where
  tells : (lanes : List PortState) (entries : List SettleEntry) (behind : List PortState) → Run PortsStep lanes entries behind → flat_map told entries ≡ flat_map of_event (port_events k entries)
  tells lanes [] behind run = refl
  tells lanes (entry ∷ entries) behind run =
      ap (λ (l : List (List ℕ)). l ++ flat_map told entries) (each lanes entry run.0 run.1)
      ∙ ap (λ (l : List (List ℕ)). flat_map of_event (map at_port (port_said k entry)) ++ l) (tells run.0 entries behind run.2)
      ∙ sym (flat_both of_event (map at_port (port_said k entry)) (port_events k entries))
      ∙ ap (flat_map of_event) (sym (map_both (port_said k entry) (port_happened k entries)))

-- THE PORT makes its own events
record OwnStep (event : SwitchEvent) : Type 0 where
  s : PortState
  t : PortState
  step : SwitchStep s event t

own_step : (j : ℕ) (lanes : List PortState) (event : SwitchEvent) (behind : List PortState) → EntryOf ports j lanes event behind → OwnStep event
own_step j lanes event behind at =
    let before = get_within lanes j at.within in
    let many = (leaves_others j lanes event behind at.step).many in
    let after = get_within behind j (omega (arith, at.within, many)) in
    record { s = before.0; t = after.0; step = (leaves_others j lanes event behind at.step).own before.0 after.0 before.1 after.1 }

-- ITS OWN EVENTS alone tell
module _ (k : ℕ) (frames : SwitchEvent → List (List ℕ)) (of_event : PortEvent → List (List ℕ)) (none : (frame : List ℕ) → of_event (Receives frame) ≡ [])
    (own_is : (event : SwitchEvent) → OwnStep event → frames event ≡ of_event (at_port event)) where
  gift_none : (c : Bool) (frame : List ℕ) → [] ≡ flat_map of_event (map at_port (gift c frame))
  gift_none true frame = sym (ap (λ (l : List (List ℕ)). l ++ []) (none frame))
  gift_none false frame = refl

  by_own : (b : Bool) (event : SwitchEvent) → OwnStep event → (if b then frames event else []) ≡ flat_map of_event (map at_port (own_or b event (gets k event)))
  by_own true event step = own_is event step ∙ nothing_more (of_event (at_port event))
  by_own false (OnPort event) step = refl
  by_own false (Switched frame out full) step = gift_none (bit_at out k == 1) frame

  own_each : (lanes : List PortState) (entry : SettleEntry) (behind : List PortState) → PortsStep lanes entry behind → of_port frames k entry ≡ flat_map of_event (map at_port (port_said k entry))
  own_each lanes (OfPort j event) behind step = by_own (k == j) event (own_step j lanes event behind step.entry)
  own_each lanes _ behind step = refl

queued_is : (event : SwitchEvent) → OwnStep event → queued_in event ≡ gave A (at_port event)
queued_is (OnPort (OnLane (Gives A (Queued id frame)))) step = refl
queued_is _ step = refl

arrived_is : (event : SwitchEvent) → OwnStep event → arrived_in event ≡ took A (at_port event)
arrived_is (OnPort (OnLane (Steps A (Frame frame)))) step = refl
arrived_is _ step = refl

switched_is : (event : SwitchEvent) → OwnStep event → switched_in event ≡ took B (at_port event)
switched_is (OnPort (OnLane (Steps B (Frame frame)))) step = absurd step.step.0
switched_is _ step = refl

-- WHAT THE SWITCH PUTS into its queue
never_own : (c : Bool) (k j : ℕ) (lanes : List PortState) (frame : List ℕ) (out full : ℕ) → (bit_at out k == 1) ≡ c → k ≡ j → Forwards lanes j frame out full → (if c then frame ∷ [] else []) ≡ []
never_own false k j lanes frame out full is same sees = refl
never_own true k j lanes frame out full is same sees =
    absurd ((never_back lanes j frame out full sees).0 (subst (IsBitSet out) same (set_from out k (eqb-true (bit_at out k) 1 is))))

own_put : (event : PortEvent) → IsOwnEvent (OnPort event) → OwnStep (OnPort event) → [] ≡ gave B event ++ []
own_put (OnLane (Gives B (Queued id frame))) own step = absurd step.step.1.0
own_put (Receives frame) own step = absurd own
own_put _ own step = refl

gift_put : (c : Bool) (frame : List ℕ) → (if c then frame ∷ [] else []) ≡ flat_map (gave B) (map at_port (gift c frame))
gift_put true frame = refl
gift_put false frame = refl

by_put : (b : Bool) (k j : ℕ) (lanes : List PortState) (event : SwitchEvent) → (b ≡ true → k ≡ j) → IsOwnEvent event → OwnStep event → SeesSwitch lanes j event
    → put_in k event ≡ flat_map (gave B) (map at_port (own_or b event (gets k event)))
by_put true k j lanes (OnPort event) same own step sees = own_put event own step
by_put true k j lanes (Switched frame out full) same own step sees = never_own (bit_at out k == 1) k j lanes frame out full refl (same refl) sees
by_put false k j lanes (OnPort event) same own step sees = refl
by_put false k j lanes (Switched frame out full) same own step sees = gift_put (bit_at out k == 1) frame

put_each : (k : ℕ) (lanes : List PortState) (entry : SettleEntry) (behind : List PortState) → PortsStep lanes entry behind → put_by k entry ≡ flat_map (gave B) (map at_port (port_said k entry))
put_each k lanes (OfPort j event) behind step = by_put (k == j) k j lanes event (eqb-true k j) step.own (own_step j lanes event behind step.entry) step.entry.step.sees
put_each k lanes _ behind step = refl

-- THE FOUR LISTS
module _ (shape : NetShape) (k : ℕ) (lanes : List PortState) (entries : List SettleEntry) (behind : List PortState) (run : Run PortsStep lanes entries behind) where
  pub queued_told : frames_queued k entries ≡ (log_of after (no_events shape) (port_events k entries)).guest.given
  queued_told =
      tells k (of_port queued_in k) (gave A) (own_each k queued_in (gave A) (λ frame. refl) queued_is) lanes entries behind run ∙ sym (given_along A (no_events shape) (port_events k entries))

  pub put_told : frames_put k entries ≡ (log_of after (no_events shape) (port_events k entries)).hub.given
  put_told = tells k (put_by k) (gave B) (put_each k) lanes entries behind run ∙ sym (given_along B (no_events shape) (port_events k entries))

  pub switched_told : frames_switched k entries ≡ frames_taken B (port_events k entries)
  switched_told = tells k (of_port switched_in k) (took B) (own_each k switched_in (took B) (λ frame. refl) switched_is) lanes entries behind run ∙ sym (taken_along B (port_events k entries))

  pub arrived_told : frames_arrived k entries ≡ frames_taken A (port_events k entries)
  arrived_told = tells k (of_port arrived_in k) (took A) (own_each k arrived_in (took A) (λ frame. refl) arrived_is) lanes entries behind run ∙ sym (taken_along A (port_events k entries))
