-- The slots of the ring stand in their order after every run of a lane that nobody forged, in its log and in its memory.
use Rattle.std.proofs.Common.{◌≡◌, ℕ, ◌%◌, ◌≤◌, true, false, Option, Some, None, List, [], ◌∷◌, ◌++◌, length, refl, sym, ap, ◌∙◌, subst, arith}
use Rattle.std.specs.Prelude.{⊤}
use Rattle.std.proofs.lemmas.Nat.{mod_below}
use Rattle.runs.specs.Lawful.{lawful_split, log_append, log_of, run_lawful}
use Rattle.runs.specs.Run.{Run, run_push}
use Rattle.dring.specs.Slots.{slot_bytes}
use Rattle.ldc_queue.specs.declared.end.ChannelState.TheVariants.{Up}
use Rattle.ldc_queue.specs.declared.end.End.TheVariants.{B}
use Rattle.lane_models.specs.WireEvent.{Sent, Took}
use Rattle.lane_models.specs.WireLog.{WireLog}
use Rattle.lane_laws.specs.Agreement.{ClientAgrees, ServerAgrees}
use Rattle.lane_models.specs.ClientState.{ClientSession}
use Rattle.lane_laws.specs.DiskLog.{DiskLog, after, nothing_yet}
use Rattle.lane_laws.specs.RingLog.{SlotLog}
use Rattle.lane_laws.specs.WorkLaws.{IfServer}
use Rattle.lane_laws.specs.WorkLog.{ClientCounts, ServerCounts, WorkLog}
use Rattle.lane_models.specs.DiskEvent.{DiskEvent, OnWire}
use Rattle.lane_models.specs.LaneState.{IsShape, LaneState, Shape, fresh}
use Rattle.lane_models.specs.LaneStep.{LaneStep}
use Rattle.lane_models.specs.ServerState.{ServerSession, Work}
use Rattle.lane_laws.proofs.AckedFinished.{acked_finished}
use Rattle.lane_laws.proofs.Agreeing.{always_agree, server_alive}
use Rattle.lane_laws.proofs.LaneCounting.{Knows, run_knows}
use Rattle.lane_laws.proofs.OnTheWay.{on_the_way}
use Rattle.lane_laws.proofs.RingAlong.{Along, along_run, along_step, run_ring}
use Rattle.lane_laws.proofs.RingRuns.{before, known_of}
use Rattle.lane_laws.proofs.RingTable.{some_entry}
use Rattle.lane_laws.proofs.ServerCounting.{opens_new}
use Rattle.lane_laws.proofs.EndMoves.{step_b}
use Rattle.lane_models.proofs.EndSending.{responder_never}
use Rattle.lane_laws.specs.ChannelEnds.{server_core}
use Rattle.lane_laws.proofs.ServerTaken.{server_took_what}
use Rattle.lane_laws.proofs.SlotsStepping.{StepFacts, event_slots}
use Rattle.lane_laws.proofs.TableRuns.{table_lawful}
use Rattle.lane_laws.specs.OnTheWay.{OnTheWay}
use Rattle.lane_laws.specs.RingAgreed.{OneRing, SessionsAgree, ring_in}
use Rattle.lane_laws.specs.RingSlots.{RingHolds, RingOf, SlotHolds}
use Rattle.lane_laws.specs.SlotsInOrder.{BytesOf, RingInOrder, ServerAt, SlotOf, SlotsIn, SlotsInOrder}
use Rattle.lane_laws.specs.Sound.{CountsInOrder}
use Rattle.lane_laws.specs.TableStands.{TableAt}

-- the counts of the ranges
pub announced_in : (pending : ℕ) (o : Option ClientSession) (done : ℕ) (q : Option ClientCounts) (k : ClientCounts) → q ≡ Some k → ClientAgrees o done q → CountsInOrder pending o
    → k.announced ≤ k.published
announced_in pending o done q k is agrees order = grind arith

-- WHAT IS KNOWN of an event after a run
none_log : (o : Option ServerSession) (w : Option Work) (q : Option ServerCounts) → o ≡ None → ServerAgrees o w q → q ≡ None
none_log o w q is agrees = grind arith

opens_none : (s : LaneState) (l : DiskLog) (event : DiskEvent) (t : LaneState) (packet : List ℕ) → Knows s l → LaneStep s event t → event ≡ OnWire (Took B packet true) → l.work.server ≡ None
opens_none s l event t packet knows step is =
    let here : LaneStep s (OnWire (Took B packet true)) t = subst (λ (e : DiskEvent). LaneStep s e t) is step in
    let took = server_took_what s.server l.transcript.b packet t.server true knows.rests.server.stands.link.follows knows.rests.server.whole here.1.step.1.1 in
    none_log s.server.session s.server.work l.work.server (opens_new s.server t.server l.transcript.b packet knows.rests.server took) knows.counted.server.agrees

pub never_sends : (s : LaneState) (l : DiskLog) (t : LaneState) (packet : List ℕ) → Knows s l → LaneStep s (OnWire (Sent B packet true)) t → ⊥
never_sends s l t packet knows step =
    responder_never (server_core s.server) (server_core t.server) l.transcript.b packet knows.rests.server.stands (step_b s (OnWire (Sent B packet true)) t step)

pub facts_at : (shape : Shape) (events : List DiskEvent) (s : LaneState) (event : DiskEvent) (t : LaneState) → IsShape shape → Along shape s (log_of after (nothing_yet shape) events)
    → Run LaneStep (fresh shape) events s → LaneStep s event t → (after (log_of after (nothing_yet shape) events) event).wire.forged ≡ false
    → StepFacts s (log_of after (nothing_yet shape) events) event t
facts_at shape events s event t sound along run step clean =
    let l = log_of after (nothing_yet shape) events in
    let more : List DiskEvent = events ++ event ∷ [] in
    let then_run : Run LaneStep (fresh shape) more t = run_push LaneStep (fresh shape) s t events event run step in
    let behind : log_of after (nothing_yet shape) more ≡ after l event = log_append after (nothing_yet shape) events (event ∷ []) in
    let agree = always_agree shape sound in
    let knows : Knows s l = run_knows shape events s sound run in
    let clean_before : l.wire.forged ≡ false = before l event clean in
    let clean_more : (log_of after (nothing_yet shape) more).wire.forged ≡ false = ap (λ (x : DiskLog). x.wire.forged) behind ∙ clean in
    let wire : t.wire ≡ (log_of after (nothing_yet shape) more).wire = (run_knows shape more t sound then_run).all.stands.wire in
    record {
      known = known_of s l along.all along.ring (agree events s run clean_before) clean_before;
      agree = subst (SessionsAgree t) behind (agree more t then_run clean_more);
      table = (lawful_split TableAt after (nothing_yet shape) events (event ∷ []) (table_lawful shape more t sound then_run)).1.0;
      alive = λ d up is.
          let up_b : t.wire.wire.end_b ≡ Up = ap (λ (w : WireLog). w.wire.end_b) wire ∙ ap (λ (x : DiskLog). x.wire.wire.end_b) behind ∙ up in
          let up_a : t.wire.wire.end_a ≡ Up =
          server_alive shape more t sound then_run (ap (λ (w : WireLog). w.forged) wire ∙ clean_more) up_b d (ap (λ (x : DiskLog). x.work.server) behind ∙ is) in
          sym (ap (λ (w : WireLog). w.wire.end_a) wire ∙ ap (λ (x : DiskLog). x.wire.wire.end_a) behind) ∙ up_a;
      opens = λ packet is. opens_none s l event t packet knows step is;
      sends = λ packet is. never_sends s l t packet knows (subst (λ (e : DiskEvent). LaneStep s e t) is step);
      announced = λ k is.
          let next : Knows t (log_of after (nothing_yet shape) more) = run_knows shape more t sound then_run in
          announced_in (length t.client.pending) t.client.session (log_of after (nothing_yet shape) more).work.done (log_of after (nothing_yet shape) more).work.client k
          (ap (λ (x : DiskLog). x.work.client) behind ∙ is) next.counted.client.agrees next.all.sound.counts;
      acked = λ k finished descs is up at.
          acked_finished shape more t k finished descs sound then_run clean_more (ap (λ (x : DiskLog). x.work.client) behind ∙ is)
          (ap (λ (x : DiskLog). x.wire.wire.end_a) behind ∙ up) (subst (λ (x : DiskLog). ServerAt x.wire.wire x.work.server finished descs) (sym behind) at);
    }

record AlongSlots (shape : Shape) (s : LaneState) (l : DiskLog) : Type 0 where
  along : Along shape s l
  slots : l.wire.forged ≡ false → SlotsInOrder l

slots_step : (shape : Shape) → IsShape shape → (s : LaneState) (l : DiskLog) (event : DiskEvent) (t : LaneState) → AlongSlots shape s l → LaneStep s event t → ⊤ × AlongSlots shape t (after l event)
slots_step shape sound s l event t along step = (
  tt,
  record {
    along = (along_step shape (always_agree shape sound) s l event t along.along step).1;
    slots = λ clean.
        let log = along.along.log in
        let facts : StepFacts s l event t =
        subst (λ (x : DiskLog). StepFacts s x event t) (sym log)
        (facts_at shape along.along.events s event t sound (subst (Along shape s) log along.along) along.along.run step
        (subst (λ (x : DiskLog). (after x event).wire.forged ≡ false) log clean)) in
        event_slots s l event t step facts (along.slots (before l event clean));
  },
)

pub run_slots : (shape : Shape) (events : List DiskEvent) (s : LaneState) → IsShape shape → Run LaneStep (fresh shape) events s
    → (log_of after (nothing_yet shape) events).wire.forged ≡ false → SlotsInOrder (log_of after (nothing_yet shape) events)
run_slots shape events s sound run clean =
    (run_lawful LaneStep (λ (l : DiskLog) (e : DiskEvent). ⊤) after (AlongSlots shape) (slots_step shape sound) (fresh shape) s (nothing_yet shape) events
    (record { along = along_run shape [] (fresh shape) sound (always_agree shape sound) refl; slots = λ now. tt }) run).1.slots clean

-- IN THE MEMORY
bytes_of : (r : RingOf) (base announced published finished descs j slot : ℕ) (is : SlotLog) (bytes : List ℕ) → SlotOf base announced published finished descs j is → SlotHolds r slot is bytes
    → BytesOf r base announced published finished descs j slot bytes
bytes_of r base announced published finished descs j slot is bytes of holds = grind arith

if_still : (P Q : ServerCounts → Type 0) (q : Option ServerCounts) → ((d : ServerCounts) → P d → Q d) → IfServer q P → IfServer q Q
if_still P Q None still holds = tt
if_still P Q (Some d) still holds = still d holds

asked_in : (s : LaneState) (w : WorkLog) (k : ClientCounts) → w.client ≡ Some k → (d : ServerCounts) → OneRing s w d → d.asked ≤ k.announced
asked_in s w k is d one = grind arith

ring_order : (s : LaneState) (l : DiskLog) (o : Option ClientCounts) (k : ClientCounts) → o ≡ Some k → SlotsIn l.shape.slots l.work l.wire.wire l.ring o
    → RingHolds (ring_in l) l.ring s.memory → 1 ≤ l.shape.slots → (l.wire.wire.end_b ≡ Up → IfServer l.work.server (λ d. d.asked ≤ k.announced))
    → (l.wire.wire.end_a ≡ Up → OnTheWay s l k) → RingInOrder s l k
ring_order s l o k is slots holds some asked way =
    let here : SlotsIn l.shape.slots l.work l.wire.wire l.ring (Some k) = subst (SlotsIn l.shape.slots l.work l.wire.wire l.ring) is slots in
    record {
      finished = here.0;
      descs = here.1;
      done_first = here.2.done_first;
      finished_first = here.2.finished_first;
      one = here.2.one;
      descs_first = here.2.descs_first;
      announced_first = here.2.announced_first;
      acked_first = here.4;
      asked_announced = asked;
      server = here.3;
      each = λ j lo hi.
          let slot = j % l.shape.slots in
          let entry = some_entry l.ring slot (omega (arith, mod_below j l.shape.slots some, holds.long)) in
          bytes_of (ring_in l) k.base k.announced k.published here.0 here.1 j slot entry.0 (slot_bytes 128 slot s.memory) (here.2.each j entry.0 lo hi entry.1) (holds.each slot entry.0 entry.1);
      way = way;
    }

pub run_order : (shape : Shape) (events : List DiskEvent) (s : LaneState) (k : ClientCounts) → IsShape shape → Run LaneStep (fresh shape) events s
    → (log_of after (nothing_yet shape) events).wire.forged ≡ false → (log_of after (nothing_yet shape) events).work.client ≡ Some k → RingInOrder s (log_of after (nothing_yet shape) events) k
run_order shape events s k sound run clean is =
    let l = log_of after (nothing_yet shape) events in
    let knows : Knows s l = run_knows shape events s sound run in
    ring_order s l l.work.client k is (run_slots shape events s sound run clean) ((run_ring shape events s sound run).unforged clean).holds
    (omega (arith, knows.all.memory.some, knows.counted.client.slots))
    (λ up. if_still (OneRing s l.work) (λ (d : ServerCounts). d.asked ≤ k.announced) l.work.server (asked_in s l.work k is) ((always_agree shape sound events s run clean).ring up))
    (on_the_way shape events s k sound run clean is)
