-- Along every run of a port both ends are counted by its log as they count themselves.
use Rattle.std.proofs.Common.{◌≡◌, ℕ, ◌≤◌, Bool, true, false, Option, Some, List, [], ◌∷◌, ◌++◌, length, drop, refl, sym, subst, ap, ◌∙◌, arith, append_assoc, length-append}
use Rattle.std.specs.Prelude.{is_some, nat_lt, ⊤}
use Rattle.std.proofs.lemmas.Bool.{and_parts, ltb-true}
use Rattle.std.proofs.lemmas.List.{append-nil, drop-append-le}
use Rattle.cookie_copy.specs.Faults.{is_up}
use Rattle.ldc_link.specs.declared.phase.Role.{Role}
use Rattle.ldc_link.specs.declared.phase.Role.TheVariants.{Initiator, Responder}
use Rattle.ldc_queue.specs.declared.end.ChannelState.{ChannelState}
use Rattle.ldc_queue.specs.declared.end.End.{End}
use Rattle.ldc_queue.specs.declared.end.End.TheVariants.{A, B}
use Rattle.ldc_queue.specs.Transcript.{Utterance}
use Rattle.runs.specs.Lawful.{log_append, log_of, run_lawful}
use Rattle.runs.specs.Run.{Run, run_push}
use Rattle.lane_models.specs.WireLog.{WireLog}
use Rattle.lane_models.proofs.Lifting.{EndsAll}
use Rattle.lane_models.specs.LaneCore.{LaneCore, transcript_behind}
use Rattle.lane_models.proofs.Moving.{before_keeps}
use Rattle.lane_models.proofs.FramesKept.{BothStand, event_stands, queued_stands}
use Rattle.lane_models.proofs.Refuting.{false_true, true_false}
use Rattle.lane_models.specs.EndLog.{EndLog, SessionLog, gives_log, said_in}
use Rattle.lane_models.specs.FramesStand.{FramesStand}
use Rattle.lane_models.specs.NetEndState.{NetEndState, NetSession, with_frame}
use Rattle.lane_models.specs.NetEndStep.{BadLength, Full, Given, Joining, NetAnswer, NetGives, NetJoins, Queued, untold}
use Rattle.lane_models.specs.NetEvent.{Asked, Gives, Joins, NetEvent, Steps, Ticked, on_wire}
use Rattle.lane_models.specs.NetLaneState.{IsNetShape, NetLaneState, NetShape, seen_at}
use Rattle.lane_models.specs.NetLaneStep.{NetLaneStep, moved_on}
use Rattle.lane_models.specs.Offers.{port_offer}
use Rattle.lane_models.specs.PortLog.{PortLog, after, after_answer, after_given, end_after, no_events}
use Rattle.lane_models.specs.PortState.{OfQueue, OnLane, PortEvent, PortState, PortStep, Receives, before, fresh_port, moves_first, takes_more}
use Rattle.lane_models.specs.Spoken.{Spoken}
use Rattle.port_laws.specs.Counted.{AreAddresses, Counts, EndCounts, GroupCounts, IsBehind, SaysRightly, UnsaidRight}
use Rattle.port_laws.specs.NetCore.{is_begun, lane_core, net_core_at}
use Rattle.port_laws.specs.NetFits.{NetFits}
use Rattle.port_laws.specs.PortCore.{port_core, port_events}
use Rattle.port_laws.proofs.CoreLaws.{sizes_fit}
use Rattle.port_laws.proofs.Fitting.{BothFit}
use Rattle.port_laws.proofs.GroupsAgree.{event_groups}
use Rattle.lane_models.proofs.HandshakeFitting.{EndFits, fits_run}
use Rattle.port_laws.proofs.HeldCounts.{SlotsFit}
use Rattle.port_laws.proofs.OwedSays.{EndOwes, owes_run}
use Rattle.port_laws.proofs.PortRuns.{before_core, before_fits, before_guest, fresh_port_core, port_fits_behind, spoken_behind}
use Rattle.port_laws.proofs.StepCounts.{Acting, begins_counts, step_counts}

abbrev pub queue_of : End → PortState → List (List ℕ)
queue_of A s = []
queue_of B s = s.queue

-- BOTH ENDS, behind a run
pub record PortCounts (shape : NetShape) (s : PortState) (l : PortLog) : Type 0 where
  pub events : List PortEvent
  pub run : Run PortStep (fresh_port shape) events s
  pub log : l ≡ log_of after (no_events shape) events
  pub shape_is : l.shape ≡ shape
  pub stands : BothStand s.lane
  pub guest : EndCounts Initiator shape.slots [] s.lane.guest l.guest
  pub hub : EndCounts Responder shape.slots s.queue s.lane.hub l.hub
  pub members : s.lane.guest.groups ≡ l.members
  pub wire : s.lane.wire ≡ l.wire

-- ONE MORE FRAME is held last, or waits last
more_given : (held : List (List ℕ)) (frame : List ℕ) (given : List (List ℕ)) (gone : ℕ) → gone ≤ length given → held ≡ drop gone given → held ++ frame ∷ [] ≡ drop gone (given ++ frame ∷ [])
more_given held frame given gone within is = ap (λ (x : List (List ℕ)). x ++ frame ∷ []) is ∙ sym (drop-append-le gone given (frame ∷ []) within)

queued_counts : (role : Role) (slots : ℕ) (s : NetEndState) (frame : List ℕ) (l : EndLog) → EndCounts role slots [] s l → EndCounts role slots [] (with_frame frame s) (gives_log frame l)
queued_counts role slots s frame l counts = grind (arith, append-nil, more_given, length-append)

received_counts : (role : Role) (slots : ℕ) (queue : List (List ℕ)) (s : NetEndState) (frame : List ℕ) (l : EndLog) → EndCounts role slots queue s l
    → EndCounts role slots (queue ++ frame ∷ []) s (gives_log frame l)
received_counts role slots queue s frame l counts = grind (arith, append_assoc, more_given, length-append)

moving_counts : (role : Role) (slots : ℕ) (frame : List ℕ) (queue : List (List ℕ)) (s : NetEndState) (l : EndLog) → EndCounts role slots (frame ∷ queue) s l → EndCounts role slots queue (with_frame frame s) l
moving_counts role slots frame queue s l counts = grind (arith, append_assoc)

-- THE HUB before its step
pub record HubReady (slots : ℕ) (u : PortState) (l : EndLog) : Type 0 where
  pub counts : EndCounts Responder slots u.queue u.lane.hub l
  pub stands : FramesStand u.lane.hub

moves_ready : (b : Bool) (queue : List (List ℕ)) (slots : ℕ) (s : PortState) (l : EndLog) → takes_more s.lane.hub ≡ b → s.queue ≡ queue → EndCounts Responder slots s.queue s.lane.hub l → FramesStand s.lane.hub
    → HubReady slots (moves_first b queue s) l
moves_ready true [] slots s l takes is counts stands = record { counts = counts; stands = stands }
moves_ready true (frame ∷ queue) slots s l takes is counts stands =
    let here : EndCounts Responder slots (frame ∷ queue) s.lane.hub l = subst (λ (x : List (List ℕ)). EndCounts Responder slots x s.lane.hub l) is counts in
    let room = (and_parts (is_some s.lane.hub.session) (nat_lt (length s.lane.hub.frames) s.lane.hub.slots) takes).1 in
    record {
      counts = moving_counts Responder slots frame queue s.lane.hub l here;
      stands = queued_stands s.lane.hub frame stands (ltb-true (length s.lane.hub.frames) s.lane.hub.slots room);
    }
moves_ready false queue slots s l takes is counts stands = record { counts = counts; stands = stands }

pub hub_ready : (slots : ℕ) (event : NetEvent) (s : PortState) (l : EndLog) → EndCounts Responder slots s.queue s.lane.hub l → FramesStand s.lane.hub → HubReady slots (before event s) l
hub_ready slots (Steps B answer) s l counts stands = moves_ready (takes_more s.lane.hub) s.queue slots s l refl refl counts stands
hub_ready slots _ s l counts stands = record { counts = counts; stands = stands }

pub before_wire : (event : NetEvent) (s : PortState) → (before event s).lane.wire ≡ s.lane.wire
before_wire event s = before_keeps (λ (x : PortState). x.lane.wire ≡ s.lane.wire) event s (λ frame frames. refl) refl

-- the wire after an event
pub wire_event : (u : NetLaneState) (event : NetEvent) (t : NetLaneState) → NetLaneStep u event t → t.wire ≡ moved_on u.wire (on_wire event)
wire_event u event t step = grind arith

-- WHAT IS KNOWN of an end that is up, before its step
up_begun : (c : ChannelState) → is_up c ≡ true → is_begun c ≡ true
up_begun c is = grind (arith, false_true)

slots_fit : (shape : NetShape) → IsNetShape shape → SlotsFit shape.slots
slots_fit shape is = record { some = omega (arith, is.some_slots); most = is.most_slots }

-- both ends and all that an event finds of them
pub record Ready (shape : NetShape) (u : PortState) (l : PortLog) : Type 0 where
  pub sound : IsNetShape shape
  pub shape_is : l.shape ≡ shape
  pub stands : BothStand u.lane
  pub guest : EndCounts Initiator shape.slots [] u.lane.guest l.guest
  pub hub : EndCounts Responder shape.slots u.queue u.lane.hub l.hub
  pub members : u.lane.guest.groups ≡ l.members
  pub wire : u.lane.wire ≡ l.wire
  pub fits : BothFit u.lane
  pub keeps : EndsAll EndFits (lane_core u.lane) l.transcript
  pub owes : EndsAll EndOwes (lane_core u.lane) l.transcript

acts_of : (role : Role) (slots : ℕ) (queue : List (List ℕ)) (s : NetEndState) (l : EndLog) (turns : List Utterance) (begun : Bool) → EndCounts role slots queue s l → FramesStand s → NetFits role s
    → EndFits role (net_core_at role begun s) turns → EndOwes role (net_core_at role begun s) turns → SlotsFit slots → begun ≡ true → Acting role slots queue s l turns
acts_of role slots queue s l turns begun counts stands given keeps owes fit is = grind (arith, slots_fit)

pub guest_acts : (shape : NetShape) (u : PortState) (l : PortLog) → Ready shape u l → is_up u.lane.wire.wire.end_a ≡ true
    → Acting Initiator shape.slots [] u.lane.guest l.guest l.transcript.a
guest_acts shape u l ready up = grind (arith, acts_of, slots_fit, up_begun)

pub hub_acts : (shape : NetShape) (u : PortState) (l : PortLog) → Ready shape u l → is_up u.lane.wire.wire.end_b ≡ true
    → Acting Responder shape.slots u.queue u.lane.hub l.hub l.transcript.b
hub_acts shape u l ready up = grind (arith, acts_of, slots_fit, up_begun)

pub ready_before : (shape : NetShape) (s : PortState) (l : PortLog) (event : NetEvent) → IsNetShape shape → PortCounts shape s l → Ready shape (before event s) l
ready_before shape s l event is counts =
    let transcript = spoken_behind shape counts.events ∙ sym (ap (λ (x : PortLog). x.transcript) counts.log) in
    let all : EndsAll EndFits (port_core s) (transcript_behind (port_events counts.events)) =
    fits_run shape.entries (port_offer Initiator shape.address shape.slots) (port_offer Responder shape.address shape.slots) (port_events counts.events) (port_core s)
    (sizes_fit shape is) (fresh_port_core shape counts.events s counts.run) in
    let owes : EndsAll EndOwes (port_core s) (transcript_behind (port_events counts.events)) =
    owes_run shape.entries (port_offer Initiator shape.address shape.slots) (port_offer Responder shape.address shape.slots) (port_events counts.events) (port_core s)
    (sizes_fit shape is) (fresh_port_core shape counts.events s counts.run) in
    let hub : HubReady shape.slots (before event s) l.hub = hub_ready shape.slots event s l.hub counts.hub counts.stands.1 in
    record {
      sound = is;
      shape_is = counts.shape_is;
      stands = (subst FramesStand (sym (before_guest event s)) counts.stands.0, hub.stands);
      guest = subst (λ (x : NetEndState). EndCounts Initiator shape.slots [] x l.guest) (sym (before_guest event s)) counts.guest;
      hub = hub.counts;
      members = ap (λ (x : NetEndState). x.groups) (before_guest event s) ∙ counts.members;
      wire = before_wire event s ∙ counts.wire;
      fits = before_fits event s (port_fits_behind shape counts.events s counts.run);
      keeps = subst (λ (x : LaneCore). EndsAll EndFits x l.transcript) (sym (before_core event s)) (subst (EndsAll EndFits (port_core s)) transcript all);
      owes = subst (λ (x : LaneCore). EndsAll EndOwes x l.transcript) (sym (before_core event s)) (subst (EndsAll EndOwes (port_core s)) transcript owes);
    }

-- WHAT IS ASKED
gives_counts : (role : Role) (slots : ℕ) (s : NetEndState) (given : Given) (t : NetEndState) (l : EndLog) → EndCounts role slots [] s l → NetGives s given t → EndCounts role slots [] t (after_given given l)
gives_counts role slots s (BadLength frame) t l counts gives = subst (λ (x : NetEndState). EndCounts role slots [] x l) (sym gives.1) counts
gives_counts role slots s (Full frame) t l counts gives = subst (λ (x : NetEndState). EndCounts role slots [] x l) (sym gives.2) counts
gives_counts role slots s (Queued id frame) t l counts gives = subst (λ (x : NetEndState). EndCounts role slots [] x (gives_log frame l)) (sym gives.4) (queued_counts role slots s frame l counts)

one_more : (groups : List (List ℕ)) (address : List ℕ) → AreAddresses groups → length address ≡ 6 → AreAddresses (groups ++ address ∷ [])
one_more [] address are six = (six, tt)
one_more (group ∷ groups) address are six = (are.0, one_more groups address are.1 six)

behind_more : (told : Option (List (List ℕ))) (groups : List (List ℕ)) (address : List ℕ) → IsBehind told groups → IsBehind told (groups ++ address ∷ [])
behind_more told groups address is = grind (arith, length-append)

behind_either : (b : Bool) (p : NetSession) (groups : List (List ℕ)) (address : List ℕ) (v : SessionLog) → p.untold ≡ b → GroupCounts p groups v → IsBehind v.membership (groups ++ address ∷ [])
behind_either b p groups address v is counts = grind (arith, behind_more, length-append)

right_more : (slots : ℕ) (groups : List (List ℕ)) (address : List ℕ) (v : SessionLog) (message : List ℕ) (k : Spoken) → SaysRightly slots groups v message k
    → SaysRightly slots (groups ++ address ∷ []) v message k
right_more slots groups address v message k right = grind (arith, behind_more)

unsaid_more : (slots : ℕ) (groups : List (List ℕ)) (address : List ℕ) (begun : Bool) (v : SessionLog) (left : Option (List ℕ)) → UnsaidRight slots groups begun v left
    → UnsaidRight slots (groups ++ address ∷ []) begun v left
unsaid_more slots groups address begun v left right = grind (arith, right_more)

member_counts : (slots : ℕ) (groups : List (List ℕ)) (address : List ℕ) (published gone : ℕ) (left : Option (List ℕ)) (begun : Bool) (session : Option NetSession) (log : Option SessionLog)
    → Counts Initiator slots groups published gone left begun session log → Counts Initiator slots (groups ++ address ∷ []) published gone left begun (untold session) log
member_counts slots groups address published gone left begun (Some p) (Some v) counts = record {
  right = unsaid_more slots groups address begun v left counts.right;
  ring = grind arith;
  peer = record { seq = counts.peer.seq; place = counts.peer.place; active = counts.peer.active };
  guest = record {
    named = λ is. true_false is;
    behind = λ is. behind_either p.untold p groups address (said_in left v) refl counts.guest;
    waits = counts.guest.waits;
    answered = λ is fresh. true_false fresh;
  };
  reply = counts.reply;
}
member_counts slots groups address published gone left begun session log counts = grind arith

joins_counts : (slots : ℕ) (s : NetEndState) (joining : Joining) (t : NetEndState) (l : EndLog) → EndCounts Initiator slots [] s l → NetJoins s joining t → EndCounts Initiator slots [] t l
joins_counts slots s joining t l counts joins = grind (arith, length-append, one_more, member_counts)

-- AN EVENT, for the guest's end and for the hub's
abbrev GuestIs : NetShape → EndLog → NetLaneState → Type 0
GuestIs shape l t = EndCounts Initiator shape.slots [] t.guest l

abbrev HubIs : NetShape → List (List ℕ) → EndLog → NetLaneState → Type 0
HubIs shape queue l t = EndCounts Responder shape.slots queue t.hub l

by_slots : (n m : ℕ) (turns : List Utterance) (answer : NetAnswer) (P : EndLog → Type 0) (l : EndLog) → n ≡ m → P (after_answer m turns answer l) → P (after_answer n turns answer l)
by_slots n m turns answer P l is holds = subst (λ (x : ℕ). P (after_answer x turns answer l)) (sym is) holds

guest_event : (shape : NetShape) (u : PortState) (l : PortLog) (event : NetEvent) (t : NetLaneState) → Ready shape u l → NetLaneStep u.lane event t → GuestIs shape (end_after A l event) t
guest_event shape u l (Steps A answer) t ready step =
    subst (GuestIs shape (end_after A l (Steps A answer))) (sym step.is)
    (by_slots l.shape.slots shape.slots l.transcript.a answer (λ (x : EndLog). EndCounts Initiator shape.slots [] step.left.end x) l.guest (ap (λ (x : NetShape). x.slots) ready.shape_is)
    (step_counts Initiator shape.slots [] u.lane.guest l.guest l.transcript.a (seen_at A u.lane) u.lane.guest_memory _ answer step.left ready.guest ready.stands.0 (guest_acts shape u l ready) step.step))
guest_event shape u l (Steps B answer) t ready step = subst (GuestIs shape l.guest) (sym step.is) ready.guest
guest_event shape u l (Asked A lost) t ready step = subst (GuestIs shape (end_after A l (Asked A lost))) (sym step.1) (begins_counts Initiator shape.slots [] u.lane.guest l.guest lost ready.guest ready.stands.0 step.0)
guest_event shape u l (Ticked queued lost) t ready step =
    subst (GuestIs shape (end_after A l (Ticked queued lost))) (sym step.1.1) (begins_counts Initiator shape.slots [] u.lane.guest l.guest lost ready.guest ready.stands.0 step.1.0)
guest_event shape u l (Gives A given) t ready step = gives_counts Initiator shape.slots u.lane.guest given t.guest l.guest ready.guest step.0
guest_event shape u l (Joins joining) t ready step = joins_counts shape.slots u.lane.guest joining t.guest l.guest ready.guest step.0
guest_event shape u l _ t ready step = grind arith

hub_event : (shape : NetShape) (u : PortState) (l : PortLog) (event : NetEvent) (t : NetLaneState) → OfQueue u event → Ready shape u l → NetLaneStep u.lane event t → HubIs shape u.queue (end_after B l event) t
hub_event shape u l (Steps B answer) t of_queue ready step =
    subst (HubIs shape u.queue (end_after B l (Steps B answer))) (sym step.is)
    (by_slots l.shape.slots shape.slots l.transcript.b answer (λ (x : EndLog). EndCounts Responder shape.slots u.queue step.left.end x) l.hub (ap (λ (x : NetShape). x.slots) ready.shape_is)
    (step_counts Responder shape.slots u.queue u.lane.hub l.hub l.transcript.b (seen_at B u.lane) u.lane.hub_memory _ answer step.left ready.hub ready.stands.1 (hub_acts shape u l ready) step.step))
hub_event shape u l (Steps A answer) t of_queue ready step = subst (HubIs shape u.queue l.hub) (sym step.is) ready.hub
hub_event shape u l (Asked B lost) t of_queue ready step =
    subst (HubIs shape u.queue (end_after B l (Asked B lost))) (sym step.1) (begins_counts Responder shape.slots u.queue u.lane.hub l.hub lost ready.hub ready.stands.1 step.0)
hub_event shape u l (Ticked queued lost) t of_queue ready step = subst (HubIs shape u.queue l.hub) (sym step.1.1) ready.hub
hub_event shape u l (Gives B given) t of_queue ready step = absurd of_queue
hub_event shape u l _ t of_queue ready step = grind arith

-- what an event may be by the queue stays so behind the frame that moved
pub before_queue : (event : NetEvent) (s : PortState) → OfQueue s event → OfQueue (before event s) event
before_queue event s is = grind arith

pub counts_step : (shape : NetShape) → IsNetShape shape → (s : PortState) (l : PortLog) (event : PortEvent) (t : PortState) → PortCounts shape s l → PortStep s event t → PortCounts shape t (after l event)
counts_step shape is s l (OnLane event) t counts step =
    let ready : Ready shape (before event s) l = ready_before shape s l event is counts in
    record {
      events = counts.events ++ OnLane event ∷ [];
      run = run_push PortStep (fresh_port shape) s t counts.events (OnLane event) counts.run step;
      log = ap (λ (x : PortLog). after x (OnLane event)) counts.log ∙ sym (log_append after (no_events shape) counts.events (OnLane event ∷ []));
      shape_is = counts.shape_is;
      stands = event_stands (before event s).lane event t.lane step.1 ready.stands;
      guest = guest_event shape (before event s) l event t.lane ready step.1;
      hub = subst (λ (x : List (List ℕ)). EndCounts Responder shape.slots x t.lane.hub (end_after B l event)) (sym step.2)
          (hub_event shape (before event s) l event t.lane (before_queue event s step.0) ready step.1);
      members = event_groups (before event s).lane event t.lane l.members ready.fits step.1 ready.members;
      wire = wire_event (before event s).lane event t.lane step.1 ∙ ap (λ (x : WireLog). moved_on x (on_wire event)) ready.wire;
    }
counts_step shape is s l (Receives frame) t counts step =
    let lane : t.lane ≡ s.lane = ap (λ (x : PortState). x.lane) step.2 in
    record {
      events = counts.events ++ Receives frame ∷ [];
      run = run_push PortStep (fresh_port shape) s t counts.events (Receives frame) counts.run step;
      log = ap (λ (x : PortLog). after x (Receives frame)) counts.log ∙ sym (log_append after (no_events shape) counts.events (Receives frame ∷ []));
      shape_is = counts.shape_is;
      stands = subst BothStand (sym lane) counts.stands;
      guest = subst (λ (x : NetLaneState). EndCounts Initiator shape.slots [] x.guest l.guest) (sym lane) counts.guest;
      hub = subst (λ (x : PortState). EndCounts Responder shape.slots x.queue x.lane.hub (gives_log frame l.hub)) (sym step.2)
          (received_counts Responder shape.slots s.queue s.lane.hub frame l.hub counts.hub);
      members = ap (λ (x : NetLaneState). x.guest.groups) lane ∙ counts.members;
      wire = ap (λ (x : NetLaneState). x.wire) lane ∙ counts.wire;
    }

fresh_counts : (shape : NetShape) → PortCounts shape (fresh_port shape) (no_events shape)
fresh_counts shape = grind arith

pub port_counts : (shape : NetShape) (events : List PortEvent) (s : PortState) → IsNetShape shape → Run PortStep (fresh_port shape) events s → PortCounts shape s (log_of after (no_events shape) events)
port_counts shape events s is run =
    (run_lawful PortStep (λ (l : PortLog) (e : PortEvent). ⊤) after (PortCounts shape) (λ (x : PortState) (l : PortLog) (e : PortEvent) (y : PortState) counts step. (tt, counts_step shape is x l e y counts step))
    (fresh_port shape) s (no_events shape) events (fresh_counts shape) run).1
