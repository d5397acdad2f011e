-- The near counts of a lane that nobody forged are those of its log.
use Rattle.std.proofs.Common.{◌≡◌, ℕ, ◌+◌, ◌-◌, ◌≤◌, Bool, true, false, Option, None, List, [], length, refl, sym, ap, ◌∙◌, arith}
use Rattle.std.specs.Prelude.{max, ◌==◌, if◌then◌else◌, ⊤}
use Rattle.std.proofs.lemmas.Bool.{eqb-true}
use Rattle.runs.specs.Lawful.{log_of, run_lawful}
use Rattle.runs.specs.Run.{Run}
use Rattle.ldc_queue.specs.declared.end.End.{End}
use Rattle.ldc_queue.specs.declared.end.End.TheVariants.{A, B}
use Rattle.ldc_queue.specs.Wire.{peer_behind}
use Rattle.vio_tag.specs.declared.cause.Cause.{Cause}
use Rattle.lane_models.specs.WireEvent.{Joined, Reset, Sent, Took, WireEvent}
use Rattle.lane_models.specs.WireLog.{WireLog, wire_moved}
use Rattle.lane_models.proofs.Apart.{ends_differ}
use Rattle.lane_laws.specs.Agreement.{NearAgrees}
use Rattle.lane_laws.specs.DiskLog.{DiskLog, after, nothing_yet}
use Rattle.lane_laws.specs.NearLog.{stored_more}
use Rattle.lane_models.specs.ClientState.{ClientState}
use Rattle.lane_models.specs.DiskEvent.{Accepted, Admitted, Asks, Desc, DiskEvent, Done, Finished, Misplaced, Moved, Off, OnWire, Published, Calms, Started, Stopped, Stored, Switches, Worked, Works}
use Rattle.lane_models.specs.LaneState.{IsShape, LaneState, NearCounts, Shape, fresh, near_disturbed, risen}
use Rattle.lane_models.specs.LaneStep.{LaneStep, WireStep, WorkStep, stored_blocks}
use Rattle.lane_models.specs.Seeing.{seen}
use Rattle.lane_models.specs.ServerState.{ServerState}
use Rattle.lane_laws.proofs.RingLeaves.{OpensNot}
use Rattle.lane_laws.proofs.RingRuns.{before as clean_before}
use Rattle.lane_laws.proofs.SlotsStepping.{StepFacts}
use Rattle.lane_laws.proofs.StandingSteps.{wire_only}
use Rattle.lane_laws.specs.LaneView.{work_while}
use Rattle.lane_laws.proofs.DoneChanges.{risen_one}
use Rattle.lane_laws.proofs.LaneRuns.{AlongContents, at_step, contents_step, run_contents}
use Rattle.lane_laws.proofs.Leaving.{client_opened}
use Rattle.lane_laws.proofs.PlacedViews.{placed}
use Rattle.lane_laws.proofs.QuietWire.{wire_quiet, work_on_wire}
use Rattle.lane_laws.proofs.Standing.{Before, ever_count}
use Rattle.lane_laws.proofs.StoredFew.{LaneRoom, lane_room, stored_few, work_room}
use Rattle.lane_laws.proofs.WireChanges.{Undisturbed, near_quiet, reset_drops, work_quiet}
use Rattle.lane_laws.proofs.LaneViews.{calm_same as calm}

-- THE LOG'S COUNTS, by what was ever published and what is done
pub record NearSame (s : LaneState) (l : DiskLog) : Type 0 where
  pub k : s.near.k ≡ l.near.k
  pub m : s.near.m ≡ l.near.m
  pub u : s.near.u ≡ l.near.u
  pub p : s.client.ever_published - l.work.done ≡ l.near.p
  pub room : LaneRoom s

-- what stays
stays : (s t : LaneState) (l n : DiskLog) → t.near ≡ s.near → n.near ≡ l.near → t.client.ever_published ≡ s.client.ever_published → n.work.done ≡ l.work.done → LaneRoom t → NearSame s l → NearSame t n
stays s t l n near log ever done room same = search

-- and what is disturbed
turned_down : (s t : LaneState) (l n : DiskLog) → Before s l → t.near ≡ near_disturbed s.client → n.near ≡ record { k = 0; m = l.near.p; u = 0; p = l.near.p } → t.client.ever_published ≡ s.client.ever_published
    → n.work.done ≡ l.work.done → LaneRoom t → NearSame s l → NearSame t n
turned_down s t l n before near log ever done room same = grind (arith, ever_count)

-- THE WIRE
wire_stays : (s : LaneState) (l : DiskLog) (event : WireEvent) (t : LaneState) → Before s l → StepFacts s l (OnWire event) t → OpensNot event → Undisturbed event
    → (after l (OnWire event)).near ≡ l.near → (after l (OnWire event)).work.done ≡ l.work.done → WireStep s event t → NearSame s l → NearSame t (after l (OnWire event))
wire_stays s l event t before facts not calm log done step same =
    let quiet = wire_quiet s l event t before.knows not step in
    let only = wire_only s event t step in
    let near : t.near ≡ s.near = quiet.near ∙ near_quiet s event calm in
    let work : work_while t.wire.wire.end_b t.server.work ≡ work_while s.wire.wire.end_b s.server.work =
    ap (λ (w : WireLog). work_while w.wire.end_b t.server.work) only.wire ∙ ap (work_while (wire_moved s.wire event).wire.end_b) quiet.work ∙ work_quiet s l event t before facts calm in
    stays s t l (after l (OnWire event)) near log quiet.client.ever done (lane_room t _ s.near.u work (ap (λ (x : NearCounts). x.u) near) same.room) same

wire_opens : (s : LaneState) (l : DiskLog) (packet : List ℕ) (t : LaneState) → WireStep s (Sent A packet true) t → NearSame s l → NearSame t (after l (OnWire (Sent A packet true)))
wire_opens s l packet t step same =
    let opened = client_opened s.client (seen A s.shape.entries s.wire.wire) s.memory packet t.client t.memory step.step in
    let near : t.near ≡ s.near = ap (λ (x : LaneState). x.near) step.is in
    stays s t l (after l (OnWire (Sent A packet true))) near refl opened.ever refl
    (lane_room t _ s.near.u (ap (λ (x : LaneState). work_while x.wire.wire.end_b x.server.work) step.is) (ap (λ (x : NearCounts). x.u) near) same.room) same

wire_disturbs : (e : End) (s : LaneState) (l : DiskLog) (cause : Cause) (packet : Option (List ℕ)) (lost : ℕ) (t : LaneState) → Before s l
    → (e ≡ B → work_on_wire (Reset e cause packet lost) s.server.work ≡ None) → (e ≡ A → work_on_wire (Reset e cause packet lost) s.server.work ≡ s.server.work)
    → (e ≡ A → (wire_moved s.wire (Reset e cause packet lost)).wire.end_b ≡ peer_behind s.wire.wire.end_a s.wire.wire.end_b)
    → (after l (OnWire (Reset e cause packet lost))).work.done ≡ l.work.done → WireStep s (Reset e cause packet lost) t → NearSame s l → NearSame t (after l (OnWire (Reset e cause packet lost)))
wire_disturbs e s l cause packet lost t before gone kept peer done step same =
    let event : WireEvent = Reset e cause packet lost in
    let quiet = wire_quiet s l event t before.knows tt step in
    let only = wire_only s event t step in
    let work : work_while t.wire.wire.end_b t.server.work ≡ None =
    ap (λ (w : WireLog). work_while w.wire.end_b t.server.work) only.wire ∙ ap (work_while (wire_moved s.wire event).wire.end_b) quiet.work
    ∙ reset_drops e s l (work_on_wire event s.server.work) before gone kept (wire_moved s.wire event).wire peer in
    turned_down s t l (after l (OnWire event)) before quiet.near refl quiet.client.ever done (lane_room t None 0 work (ap (λ (x : NearCounts). x.u) quiet.near) refl) same

wire_same_near : (s : LaneState) (l : DiskLog) (event : WireEvent) (t : LaneState) → Before s l → StepFacts s l (OnWire event) t → WireStep s event t → NearSame s l → NearSame t (after l (OnWire event))
wire_same_near s l (Sent A packet true) t before facts step same = wire_opens s l packet t step same
wire_same_near s l (Sent A packet false) t before facts step same = wire_stays s l (Sent A packet false) t before facts refl tt refl refl step same
wire_same_near s l (Took A packet opens) t before facts step same = wire_stays s l (Took A packet opens) t before facts step.step.2 tt refl refl step same
wire_same_near s l (Joined A lost) t before facts step same = wire_stays s l (Joined A lost) t before facts tt tt refl refl step same
wire_same_near s l (Reset A cause packet lost) t before facts step same = wire_disturbs A s l cause packet lost t before (λ is. ends_differ is) (λ is. refl) (λ is. refl) refl step same
wire_same_near s l (Reset B cause packet lost) t before facts step same = wire_disturbs B s l cause packet lost t before (λ is. refl) (λ is. ends_differ (sym is)) (λ is. ends_differ (sym is)) refl step same
wire_same_near s l event t before facts step same = wire_stays s l event t before facts tt tt refl refl step same

-- THE WORK
blocks_same : (operation count : ℕ) (failed : Bool) (u : ℕ) → (operation ≡ 2 → u + count ≤ 128) → stored_blocks operation count failed u ≡ stored_more operation count failed u
blocks_same operation count true u few = refl
blocks_same operation count false u few = by_kind (operation == 2) refl
  where
    by_kind : (b : Bool) → (operation == 2) ≡ b → (if b then risen u count else u) ≡ (if b then u + count else u)
    by_kind true is = let two : operation ≡ 2 = eqb-true operation 2 is in let room = few two in omega (arith, room)
    by_kind false is = refl

work_same : (s : LaneState) (l : DiskLog) (event : Worked) (t : LaneState) → Before s l → WorkStep s event t → NearSame s l → NearSame t (after l (Works event))
work_same s l (Published id) t before step same =
    let near : t.near ≡ s.near = ap (λ (x : LaneState). x.near) step.is in
    let ever : t.client.ever_published ≡ max s.client.ever_published (id + 1) = ap (λ (c : ClientState). c.ever_published) step.step.is in
    let p = same.p in
    record {
      k = ap (λ (x : NearCounts). x.k) near ∙ same.k;
      m = ap (λ (x : NearCounts). x.m) near ∙ same.m;
      u = ap (λ (x : NearCounts). x.u) near ∙ same.u;
      p = omega (arith, ever, p);
      room = work_room s l (Published id) t before step same.room;
    }
work_same s l (Done id operation status bytes) t before step same =
    let near = ap (λ (x : LaneState). x.near) step.is in
    let ever : t.client.ever_published ≡ s.client.ever_published = ap (λ (c : ClientState). c.ever_published) step.step.is in
    let p = same.p in
    record {
      k = ap (λ (x : NearCounts). x.k) near ∙ ap (λ (n : ℕ). n - 1) same.k;
      m = ap (λ (x : NearCounts). x.m) near ∙ ap (λ (n : ℕ). n - 1) same.m;
      u = ap (λ (x : NearCounts). x.u) near ∙ same.u;
      p = omega (arith, ever, p);
      room = work_room s l (Done id operation status bytes) t before step same.room;
    }
work_same s l (Desc slot bytes) t before step same =
    stays s t l (after l (Works (Desc slot bytes))) (ap (λ (x : LaneState). x.near) step.1.is) refl (ap (λ (x : LaneState). x.client.ever_published) step.1.is) refl
    (work_room s l (Desc slot bytes) t before step same.room) same
work_same s l (Moved unit fault) t before step same =
    stays s t l (after l (Works (Moved unit fault))) (ap (λ (x : LaneState). x.near) step.1.is) refl (ap (λ (x : LaneState). x.client.ever_published) step.1.is) refl
    (work_room s l (Moved unit fault) t before step same.room) same
work_same s l (Stored operation block count failed) t before step same =
    let near = ap (λ (x : LaneState). x.near) step.1.is in
    let ever : t.client.ever_published ≡ s.client.ever_published = ap (λ (x : LaneState). x.client.ever_published) step.1.is in
    record {
      k = ap (λ (x : NearCounts). x.k) near ∙ same.k;
      m = ap (λ (x : NearCounts). x.m) near ∙ same.m;
      u = ap (λ (x : NearCounts). x.u) near ∙ blocks_same operation count failed s.near.u (stored_few s l operation block count failed t before step same.room)
          ∙ ap (stored_more operation count failed) same.u;
      p = ap (λ (n : ℕ). n - l.work.done) ever ∙ same.p;
      room = work_room s l (Stored operation block count failed) t before step same.room;
    }
work_same s l (Finished slot status) t before step same =
    let near = ap (λ (x : LaneState). x.near) step.1.is in
    let ever : t.client.ever_published ≡ s.client.ever_published = ap (λ (x : LaneState). x.client.ever_published) step.1.is in
    let finished = (placed s l before).finished in
    let pending = before.known.sound.pending in
    let few = before.known.sound.slots in
    let k_is : t.near.k ≡ risen s.near.k 1 = ap (λ (x : NearCounts). x.k) near in
    record {
      k = risen_one s.near.k t.near.k (length s.client.pending) s.client.slots k_is finished pending few ∙ ap (λ (n : ℕ). n + 1) same.k;
      m = ap (λ (x : NearCounts). x.m) near ∙ same.m;
      u = ap (λ (x : NearCounts). x.u) near;
      p = ap (λ (n : ℕ). n - l.work.done) ever ∙ same.p;
      room = work_room s l (Finished slot status) t before step same.room;
    }
work_same s l Misplaced t before step same = absurd step

-- THE OTHERS
parts_room : (s t : LaneState) → t.wire ≡ s.wire → t.server ≡ s.server → t.near ≡ s.near → LaneRoom s → LaneRoom t
parts_room s t wire server near room =
    lane_room t _ s.near.u (ap (λ (w : WireLog). work_while w.wire.end_b t.server.work) wire ∙ ap (λ (v : ServerState). work_while s.wire.wire.end_b v.work) server) (ap (λ (x : NearCounts). x.u) near) room

asks_ever : (s : LaneState) (event : Admitted) (t : LaneState) → LaneStep s (Asks event) t → t.client.ever_published ≡ s.client.ever_published
asks_ever s event t step = grind arith

asks_log : (l : DiskLog) (event : Admitted) → (after l (Asks event)).work.done ≡ l.work.done
asks_log l (Accepted id request) = refl
asks_log l _ = refl

event_same : (s : LaneState) (l : DiskLog) (event : DiskEvent) (t : LaneState) → Before s l → StepFacts s l event t → LaneStep s event t → NearSame s l → NearSame t (after l event)
event_same s l (OnWire event) t before facts step same = wire_same_near s l event t before facts step same
event_same s l (Asks event) t before facts step same =
    let near : t.near ≡ s.near = ap (λ (x : LaneState). x.near) step.1 in
    stays s t l (after l (Asks event)) near refl (asks_ever s event t step) (asks_log l event)
    (parts_room s t (ap (λ (x : LaneState). x.wire) step.1) (ap (λ (x : LaneState). x.server) step.1) near same.room) same
event_same s l (Works event) t before facts step same = work_same s l event t before step same
event_same s l (Switches Stopped) t before facts step same =
    turned_down s t l (after l (Switches Stopped)) before (ap (λ (x : LaneState). x.near) step.1) refl (ap (λ (x : LaneState). x.client.ever_published) step.1) refl
    (lane_room t None 0 (ap (λ (x : LaneState). work_while x.wire.wire.end_b x.server.work) step.1) (ap (λ (x : LaneState). x.near.u) step.1) refl) same
event_same s l (Switches Started) t before facts step same =
    let near : t.near ≡ s.near = ap (λ (x : LaneState). x.near) step.1 in
    stays s t l (after l (Switches Started)) near refl (ap (λ (x : LaneState). x.client.ever_published) step.1) refl
    (parts_room s t (ap (λ (x : LaneState). x.wire) step.1) (ap (λ (x : LaneState). x.server) step.1) near same.room) same
event_same s l (Switches Off) t before facts step same =
    let near : t.near ≡ s.near = ap (λ (x : LaneState). x.near) step.1 in
    stays s t l (after l (Switches Off)) near refl (ap (λ (x : LaneState). x.client.ever_published) step.1) refl
    (parts_room s t (ap (λ (x : LaneState). x.wire) step.1) (ap (λ (x : LaneState). x.server) step.1) near same.room) same
event_same s l (Calms event) t before facts step same =
    let is = calm s event t step in
    let near : t.near ≡ s.near = ap (λ (x : LaneState). x.near) is in
    stays s t l (after l (Calms event)) near refl (ap (λ (x : LaneState). x.client.ever_published) is) refl
    (parts_room s t (ap (λ (x : LaneState). x.wire) is) (ap (λ (x : LaneState). x.server) is) near same.room) same

-- ALONG A RUN
record AlongSame (shape : Shape) (s : LaneState) (l : DiskLog) : Type 0 where
  holds : AlongContents shape s l
  same : l.wire.forged ≡ false → NearSame s l

same_step : (shape : Shape) → IsShape shape → (s : LaneState) (l : DiskLog) (event : DiskEvent) (t : LaneState) → AlongSame shape s l → LaneStep s event t → ⊤ × AlongSame shape t (after l event)
same_step shape sound s l event t along step = (
  tt,
  record {
    holds = (contents_step shape sound s l event t along.holds step).1;
    same = λ clean. let at = at_step shape sound s l event t along.holds step clean in event_same s l event t at.before at.facts step (along.same (clean_before l event clean));
  },
)

pub run_agrees : (shape : Shape) (events : List DiskEvent) (s : LaneState) → IsShape shape → Run LaneStep (fresh shape) events s → (log_of after (nothing_yet shape) events).wire.forged ≡ false
    → NearAgrees s (log_of after (nothing_yet shape) events).near
run_agrees shape events s sound run clean =
    let all = (run_lawful LaneStep (λ (l : DiskLog) (e : DiskEvent). ⊤) after (AlongSame shape) (same_step shape sound) (fresh shape) s (nothing_yet shape) events
    (record { holds = run_contents shape [] (fresh shape) sound refl; same = λ now. record { k = refl; m = refl; u = refl; p = refl; room = refl } }) run).1 in
    let same = all.same clean in
    record { k = same.k; m = same.m; u = same.u; p = ever_count s (log_of after (nothing_yet shape) events) all.holds.along.all.stands ∙ same.p }
