-- Along every run of a lane that nobody forged each descriptor that is fetched is that of its request, no copy of a unit is refused, and a
-- completion has the status that the server gave it.
use Rattle.std.proofs.Common.{◌≡◌, ℕ, ◌+◌, Bool, true, false, Option, Some, None, List, [], ◌∷◌, ◌++◌, set, refl, sym, ap, ◌∙◌, subst, arith}
use Rattle.std.specs.Prelude.{replicate, slice_get}
use Rattle.runs.specs.Lawful.{Lawful, log_append, log_of, run_lawful}
use Rattle.runs.specs.Run.{Run, run_push}
use Rattle.ldc_queue.specs.declared.end.End.TheVariants.{A, B}
use Rattle.ldc_queue.specs.Transcript.{Said}
use Rattle.lane_models.specs.Sayings.{half_heard, said}
use Rattle.lane_models.specs.WireEvent.{Injected, Joined, Lost, Reset, Sent, Took}
use Rattle.lane_laws.specs.DiskLog.{DiskLog, after, nothing_yet}
use Rattle.lane_laws.specs.RingLog.{Done as IsDone, Free, SlotLog, finished_at, id_at}
use Rattle.lane_laws.specs.WorkLaws.{IfClient, Unforged, WorkUnforgedAt}
use Rattle.lane_models.specs.Messages.{opening_sid}
use Rattle.lane_laws.specs.WorkLog.{ClientCounts, Opened, ServerCounts, change_server}
use Rattle.lane_models.specs.DiskEvent.{Accepted, Asks, Desc, DiskEvent, Done, Finished, Misplaced, Moved, OnWire, Published, Stopped, Stored, Switches, Worked, Works}
use Rattle.lane_models.specs.LaneState.{IsShape, LaneState, Shape, fresh}
use Rattle.lane_models.specs.LaneStep.{LaneStep, WorkStep}
use Rattle.lane_models.specs.Seeing.{seen}
use Rattle.lane_models.specs.ServerRule as server_rules
use Rattle.lane_laws.proofs.RingAlong.{run_fetches, run_status}
use Rattle.lane_laws.proofs.RingRuns.{before}
use Rattle.lane_laws.proofs.RingWork.{Known, at_work}
use Rattle.lane_laws.proofs.Ruling.{server_may}
use Rattle.lane_laws.specs.RuleFacts.{ServerMay}
use Rattle.lane_laws.proofs.StatusFacts.{Around, around, hears_session, names_session, none_given, opens_alone, sends_not}
use Rattle.lane_laws.proofs.StatusSteps.{cleared_none, fetched_keeps, freed_keeps, gives_status, keeps_changed, last_client, last_gone, last_server, named_changed, named_more, none_keeps, one_name, published_keeps}
use Rattle.lane_laws.proofs.UnforgedMoves.{moved_answered}
use Rattle.lane_laws.proofs.PieceLaw.{Working}
use Rattle.lane_laws.proofs.WorkRuns.{fresh_working, working_step}
use Rattle.lane_laws.specs.Statuses.{IsLastSession, IsSidNamed, KeepsStatus, LastIn, StatusesStand}
use Rattle.lane_models.proofs.Apart.{true_is_false}
use Rattle.lane_laws.proofs.ServerEndCounting.{finished_log as finished_counts}

-- A SESSION OPENS
opened_last : (l : DiskLog) (packet : List ℕ) (o : Option ClientCounts) → IfClient o (λ (k : ClientCounts). IsSidNamed k.sid (said l.transcript.a))
    → IsSidNamed (opening_sid (half_heard l.transcript.b) packet) (said l.transcript.a) → LastIn (after l (OnWire (Took B packet true))).work.server o (after l (OnWire (Took B packet true))).work.opened
opened_last l packet None named hears = tt
opened_last l packet (Some k) named hears = (one_name (opening_sid (half_heard l.transcript.b) packet) k.sid (said l.transcript.a) hears named, refl)

none_if : (ring : List SlotLog) (opened : List Opened) (o : Option ClientCounts) → ((k : ClientCounts) → o ≡ Some k → (slot id status : ℕ) → slice_get ring slot ≡ Some (IsDone id status) → ⊥)
    → IfClient o (KeepsStatus ring opened)
none_if ring opened None none = tt
none_if ring opened (Some k) none = λ slot id status got. absurd (none k refl slot id status got)

took_status : (opens : Bool) (shape : Shape) (s : LaneState) (l : DiskLog) (packet : List ℕ) (t : LaneState) → Around shape s l (OnWire (Took B packet opens)) t
    → LaneStep s (OnWire (Took B packet opens)) t → StatusesStand l → StatusesStand (after l (OnWire (Took B packet opens)))
took_status false shape s l packet t now step stand = record {
  done = stand.done;
  last = λ up. last_server _ l.work.server l.work.client l.work.opened (λ d. refl) (stand.last up);
  named = stand.named;
}
took_status true shape s l packet t now step stand = record {
  done = none_if l.ring (after l (OnWire (Took B packet true))).work.opened l.work.client (λ k is. none_given shape s l packet t now k is);
  last = λ up. opened_last l packet l.work.client stand.named (hears_session shape s l packet t now step);
  named = stand.named;
}

no_server : (q : Option ServerCounts) (o : Option ClientCounts) (opened : List Opened) → q ≡ None → LastIn q o opened
no_server None o opened is = tt
no_server (Some d) o opened is = absurd (cc is)

sent_status : (opens : Bool) (shape : Shape) (s : LaneState) (l : DiskLog) (packet : List ℕ) (t : LaneState) → Around shape s l (OnWire (Sent A packet opens)) t
    → LaneStep s (OnWire (Sent A packet opens)) t → StatusesStand l → StatusesStand (after l (OnWire (Sent A packet opens)))
sent_status false shape s l packet t now step stand = record {
  done = keeps_changed _ l.work.client l.ring l.work.opened (λ k. refl) (λ k. refl) stand.done;
  last = λ up. last_client _ l.work.server l.work.client l.work.opened (λ k. refl) (stand.last up);
  named = named_changed _ l.work.client (said (Said packet ∷ l.transcript.a)) (λ k. refl) (named_more l.work.client packet l.transcript.a stand.named);
}
sent_status true shape s l packet t now step stand = record {
  done = none_keeps (replicate l.shape.slots Free) l.work.opened (after l (OnWire (Sent A packet true))).work.client (cleared_none l.shape.slots);
  last = λ up. no_server l.work.server (after l (OnWire (Sent A packet true))).work.client l.work.opened (opens_alone shape s l packet t now step up);
  named = names_session shape s l packet t now step;
}

-- THE WIRE
-- THE WORK: a status is given
finished_status : (s : LaneState) (l : DiskLog) (slot status : ℕ) (t : LaneState) → Known s l → WorkStep s (Finished slot status) t → StatusesStand l → StatusesStand (after l (Works (Finished slot status)))
finished_status s l slot status t known step stand =
    let at = seen B s.shape.entries s.wire.wire in
    let f = step.1.step.1.0 in
    let may : ServerMay s.server at (server_rules.Serves f.session f.work) = subst (ServerMay s.server at) f.rule (server_may s.server at) in
    let work = at_work s l f.session known may.0 may.1 in
    let d = work.of.counts in
    let k = work.one.client in
    let m = after l (Works (Finished slot status)) in
    let here : LastIn (Some d) (Some k) l.work.opened =
    subst (λ (o : Option ClientCounts). LastIn (Some d) o l.work.opened) work.one.open_is (subst (λ (q : Option ServerCounts). LastIn q l.work.client l.work.opened) work.of.open_is (stand.last work.up)) in
    let keeps : KeepsStatus l.ring l.work.opened k = subst (λ (o : Option ClientCounts). IfClient o (KeepsStatus l.ring l.work.opened)) work.one.open_is stand.done in
    let gives = gives_status l.ring l.work.opened k d.finished slot status (record { keeps = keeps; last = here }) in
    let table : finished_at l.shape.slots l.work l.work.server slot status l.ring ≡ set l.ring slot (IsDone (k.base + d.finished) status) =
    ap (λ (q : Option ServerCounts). finished_at l.shape.slots l.work q slot status l.ring) work.of.open_is
    ∙ ap (λ (o : Option ClientCounts). set l.ring slot (IsDone (id_at o d.finished) status)) work.one.open_is in
    record {
      done = subst (λ (ring : List SlotLog). IfClient l.work.client (KeepsStatus ring m.work.opened)) (sym table)
          (subst (λ (o : Option ClientCounts). IfClient o (KeepsStatus (set l.ring slot (IsDone (k.base + d.finished) status)) m.work.opened)) (sym work.one.open_is) gives.keeps);
      last = λ up. subst (λ (q : Option ServerCounts). LastIn (change_server finished_counts q) l.work.client m.work.opened) (sym work.of.open_is)
          (subst (λ (o : Option ClientCounts). IfClient o (λ (c : ClientCounts). IsLastSession c.sid (d.finished + 1) m.work.opened)) (sym work.one.open_is) gives.last);
      named = stand.named;
    }

work_status : (s : LaneState) (l : DiskLog) (event : Worked) (t : LaneState) → Known s l → WorkStep s event t → StatusesStand l → StatusesStand (after l (Works event))
work_status s l (Published id) t known step stand = record {
  done = published_keeps l.shape.slots l.work.client id l.ring l.work.opened stand.done;
  last = λ up. last_client _ l.work.server l.work.client l.work.opened (λ k. refl) (stand.last up);
  named = named_changed _ l.work.client (said l.transcript.a) (λ k. refl) stand.named;
}
work_status s l (Done id operation status bytes) t known step stand =
    record { done = freed_keeps l.shape.slots l.work l.work.client l.ring l.work.opened stand.done; last = stand.last; named = stand.named }
work_status s l (Desc slot bytes) t known step stand = record {
  done = fetched_keeps l.shape.slots l.work l.work.server slot l.work.client l.ring l.work.opened stand.done;
  last = λ up. last_server _ l.work.server l.work.client l.work.opened (λ d. refl) (stand.last up);
  named = stand.named;
}
work_status s l (Moved unit fault) t known step stand = record {
  done = stand.done;
  last = λ up. last_server _ l.work.server l.work.client l.work.opened (λ d. refl) (stand.last up);
  named = stand.named;
}
work_status s l (Stored operation block count failed) t known step stand = record {
  done = stand.done;
  last = λ up. last_server _ l.work.server l.work.client l.work.opened (λ d. refl) (stand.last up);
  named = stand.named;
}
work_status s l (Finished slot status) t known step stand = finished_status s l slot status t known step stand
work_status s l Misplaced t known step stand = absurd step

-- EACH EVENT
event_status : (shape : Shape) (s : LaneState) (l : DiskLog) (event : DiskEvent) (t : LaneState) → Around shape s l event t → LaneStep s event t → StatusesStand l → StatusesStand (after l event)
event_status shape s l (OnWire (Joined A lost)) t now step stand = record { done = tt; last = λ up. last_gone l.work.server l.work.opened; named = tt }
event_status shape s l (OnWire (Joined B lost)) t now step stand = record { done = stand.done; last = λ up. tt; named = stand.named }
event_status shape s l (OnWire (Reset A cause packet lost)) t now step stand = record { done = tt; last = λ up. last_gone l.work.server l.work.opened; named = tt }
event_status shape s l (OnWire (Reset B cause packet lost)) t now step stand = record { done = stand.done; last = λ up. tt; named = stand.named }
event_status shape s l (OnWire (Took A packet false)) t now step stand = record {
  done = keeps_changed _ l.work.client l.ring l.work.opened (λ k. refl) (λ k. refl) stand.done;
  last = λ up. last_client _ l.work.server l.work.client l.work.opened (λ k. refl) (stand.last up);
  named = named_changed _ l.work.client (said l.transcript.a) (λ k. refl) stand.named;
}
event_status shape s l (OnWire (Took A packet true)) t now step stand = true_is_false (step.step.2)
event_status shape s l (OnWire (Took B packet opens)) t now step stand = took_status opens shape s l packet t now step stand
event_status shape s l (OnWire (Sent A packet opens)) t now step stand = sent_status opens shape s l packet t now step stand
event_status shape s l (OnWire (Sent B packet true)) t now step stand = absurd (sends_not shape s l packet t now step)
event_status shape s l (OnWire (Sent B packet false)) t now step stand = record {
  done = stand.done;
  last = λ up. last_server _ l.work.server l.work.client l.work.opened (λ d. refl) (stand.last up);
  named = stand.named;
}
event_status shape s l (OnWire (Lost A packet)) t now step stand = record { done = stand.done; last = stand.last; named = stand.named }
event_status shape s l (OnWire (Injected A packet)) t now step stand = record { done = stand.done; last = stand.last; named = stand.named }
event_status shape s l (Asks (Accepted id request)) t now step stand = record { done = stand.done; last = stand.last; named = stand.named }
event_status shape s l (Works event) t now step stand = work_status s l event t now.known step stand
event_status shape s l (Switches Stopped) t now step stand = record { done = stand.done; last = λ up. tt; named = stand.named }
event_status shape s l _ t now step stand = record { done = stand.done; last = stand.last; named = stand.named }

-- ALONG EVERY RUN
record AlongWork (shape : Shape) (s : LaneState) (l : DiskLog) : Type 0 where
  events : List DiskEvent
  run : Run LaneStep (fresh shape) events s
  log : l ≡ log_of after (nothing_yet shape) events
  working : Working s l
  statuses : l.wire.forged ≡ false → StatusesStand l

completes_with : (l : DiskLog) (k : ClientCounts) (id operation status : ℕ) (bytes : List ℕ) → l.work.client ≡ Some k → StatusesStand l
    → (slot : ℕ) → slice_get l.ring slot ≡ Some (IsDone id status) → Unforged l (Works (Done id operation status bytes))
completes_with l k id operation status bytes is stand slot got = grind arith

worked_unforged : (shape : Shape) (events : List DiskEvent) (s : LaneState) (event : Worked) (t : LaneState) → IsShape shape → Run LaneStep (fresh shape) events s
    → Working s (log_of after (nothing_yet shape) events) → StatusesStand (log_of after (nothing_yet shape) events) → (log_of after (nothing_yet shape) events).wire.forged ≡ false
    → LaneStep s (Works event) t → Unforged (log_of after (nothing_yet shape) events) (Works event)
worked_unforged shape events s (Desc slot bytes) t sound run working stand clean step = run_fetches shape events s t slot bytes sound run step clean
worked_unforged shape events s (Moved unit fault) t sound run working stand clean step = moved_answered shape events s t unit fault sound run working.work clean step
worked_unforged shape events s (Done id operation status bytes) t sound run working stand clean step =
    let l = log_of after (nothing_yet shape) events in
    let found = run_status shape events s t id operation status bytes sound run step clean in
    completes_with l found.0 id operation status bytes found.1.open_is stand _ found.1.done_is
worked_unforged shape events s _ t sound run working stand clean step = tt

unforged_at : (shape : Shape) (events : List DiskEvent) (s : LaneState) (event : DiskEvent) (t : LaneState) → IsShape shape → Run LaneStep (fresh shape) events s
    → Working s (log_of after (nothing_yet shape) events) → ((log_of after (nothing_yet shape) events).wire.forged ≡ false → StatusesStand (log_of after (nothing_yet shape) events))
    → LaneStep s event t → WorkUnforgedAt (log_of after (nothing_yet shape) events) event
unforged_at shape events s (Works event) t sound run working stand step = λ clean. worked_unforged shape events s event t sound run working (stand clean) clean step
unforged_at shape events s _ t sound run working stand step = λ clean. tt

along_step : (shape : Shape) → IsShape shape → (s : LaneState) (l : DiskLog) (event : DiskEvent) (t : LaneState) → AlongWork shape s l → LaneStep s event t
    → WorkUnforgedAt l event × AlongWork shape t (after l event)
along_step shape sound s l event t along step =
    let events = along.events in
    let m = log_of after (nothing_yet shape) events in
    let working : Working s m = subst (Working s) along.log along.working in
    let stand : m.wire.forged ≡ false → StatusesStand m = subst (λ (x : DiskLog). x.wire.forged ≡ false → StatusesStand x) along.log along.statuses in (
      subst (λ (x : DiskLog). WorkUnforgedAt x event) (sym along.log) (unforged_at shape events s event t sound along.run working stand step),
      record {
        events = events ++ event ∷ [];
        run = run_push LaneStep (fresh shape) s t events event along.run step;
        log = ap (λ (x : DiskLog). after x event) along.log ∙ sym (log_append after (nothing_yet shape) events (event ∷ []));
        working = working_step s l event t along.working step;
        statuses = subst (λ (x : DiskLog). (after x event).wire.forged ≡ false → StatusesStand (after x event)) (sym along.log)
            (λ clean. event_status shape s m event t (around shape events s event t sound along.run step clean) step (stand (before m event clean)));
      },
    )

pub unforged_lawful : (shape : Shape) (events : List DiskEvent) (s : LaneState) → IsShape shape → Run LaneStep (fresh shape) events s → Lawful WorkUnforgedAt after (nothing_yet shape) events
unforged_lawful shape events s sound run =
    (run_lawful LaneStep WorkUnforgedAt after (AlongWork shape) (along_step shape sound) (fresh shape) s (nothing_yet shape) events
    (record { events = []; run = refl; log = refl; working = fresh_working shape sound; statuses = λ clean. record { done = tt; last = λ up. tt; named = tt } }) run).0
