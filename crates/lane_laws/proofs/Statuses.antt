-- While no store failed each descriptor that a server ends gets the status 0, and so does each completion.
use Rattle.std.proofs.Common.{◌≡◌, ℕ, zero, suc, ◌-◌, ◌%◌, Bool, true, false, Option, Some, None, List, [], ◌∷◌, ◌++◌, set, refl, ap, ◌∙◌, subst, arith}
use Rattle.std.specs.Prelude.{slice_get, replicate, ⊤}
use Rattle.runs.specs.Lawful.{log_of, run_lawful}
use Rattle.runs.specs.Run.{Run}
use Rattle.cookie_copy.specs.declared.fault.CopyFault.{CopyFault}
use Rattle.ldc_queue.specs.declared.end.End.TheVariants.{A, B}
use Rattle.ldc_queue.specs.declared.end.ChannelState.{ChannelState}
use Rattle.lane_models.specs.WireEvent.{Joined, Reset, Sent, Took}
use Rattle.lane_models.proofs.Apart.{some_same}
use Rattle.lane_laws.specs.DiskLog.{DiskLog, after, nothing_yet}
use Rattle.lane_laws.specs.RingLog.{Done as IsDone, Free, Ready, SlotLog, Zeros, cleared_if, fetched_at, finished_at, freed_at, published_at}
use Rattle.lane_laws.specs.WorkLog.{ClientCounts, Opened, ServerCounts, WorkLog, finished_in, opened_more}
use Rattle.lane_models.specs.DiskEvent.{Accepted, Asks, Desc, DiskEvent, Done, Finished, Moved, OnWire, Published, Stopped, Switches, Works}
use Rattle.lane_models.specs.LaneState.{IsShape, LaneState, Shape, fresh}
use Rattle.lane_models.specs.LaneStep.{LaneStep, WorkStep, reach}
use Rattle.lane_models.specs.Seeing.{seen}
use Rattle.lane_models.specs.ServerRule as server_rules
use Rattle.lane_models.specs.ServerState.{Ends, Gathers, Gives, Progress, ServerState, Work}
use Rattle.cookie_copy.specs.Reach.{Reach}
use Rattle.lane_models.specs.ServerWork.{MovesIn}
use Rattle.lane_laws.proofs.RingClientSteps.{completes_slot}
use Rattle.lane_laws.proofs.RingRuns.{before as clean_before}
use Rattle.lane_laws.proofs.Ruling.{server_may}
use Rattle.lane_laws.specs.RuleFacts.{ServerMay}
use Rattle.lane_laws.specs.Contents.{ContentsStand, ProgressIs}
use Rattle.lane_laws.specs.LaneView.{view_of, work_while}
use Rattle.lane_laws.specs.ZeroStatuses.{AllZero, IsZero, OpenedZero, RingZero, StatusesZero}
use Rattle.lane_laws.proofs.FailedRuns.{failed_before}
use Rattle.lane_laws.proofs.LaneRuns.{AlongContents, at_step, contents_step, run_contents}
use Rattle.lane_laws.proofs.NearRuns.{run_step}
use Rattle.lane_laws.proofs.ServerChanges.{serves_now}
use Rattle.lane_laws.proofs.Standing.{Before}

-- THE RING
set_zero : (ring : List SlotLog) (k : ℕ) (e : SlotLog) → IsZero e → RingZero ring → RingZero (set ring k e)
set_zero [] k e here zeros = zeros
set_zero (x ∷ ring) zero e here zeros = (here, zeros.1)
set_zero (x ∷ ring) (suc k) e here zeros = (zeros.0, set_zero ring k e here zeros.1)

got_zero : (ring : List SlotLog) (k : ℕ) (is : SlotLog) → RingZero ring → slice_get ring k ≡ Some is → IsZero is
got_zero [] k is zeros got = absurd (cc got)
got_zero (x ∷ ring) zero is zeros got = let same : x ≡ is = some_same got in subst IsZero same zeros.0
got_zero (x ∷ ring) (suc k) is zeros got = got_zero ring k is zeros.1 got

many_zero : (n : ℕ) (e : SlotLog) → IsZero e → RingZero (replicate n e)
many_zero zero e here = tt
many_zero (suc n) e here = (here, many_zero n e here)

cleared_zero : (b : Bool) (slots : ℕ) (ring : List SlotLog) → RingZero ring → RingZero (cleared_if b slots ring)
cleared_zero true slots ring zeros = many_zero slots Free tt
cleared_zero false slots ring zeros = zeros

published_zero : (slots : ℕ) (o : Option ClientCounts) (id : ℕ) (ring : List SlotLog) → RingZero ring → RingZero (published_at slots o id ring)
published_zero slots None id ring zeros = zeros
published_zero slots (Some c) id ring zeros = set_zero ring (c.published % slots) (Ready id) tt zeros

freed_zero : (slots : ℕ) (w : WorkLog) (o : Option ClientCounts) (ring : List SlotLog) → RingZero ring → RingZero (freed_at slots w o ring)
freed_zero slots w None ring zeros = zeros
freed_zero slots w (Some c) ring zeros = set_zero ring ((w.done - c.base) % slots) Free tt zeros

fetched_zero : (slots : ℕ) (w : WorkLog) (o : Option ServerCounts) (slot : ℕ) (ring : List SlotLog) → RingZero ring → RingZero (fetched_at slots w o slot ring)
fetched_zero slots w None slot ring zeros = zeros
fetched_zero slots w (Some d) slot ring zeros = set_zero ring slot _ tt zeros

finished_zero : (slots : ℕ) (w : WorkLog) (o : Option ServerCounts) (slot status : ℕ) (ring : List SlotLog) → status ≡ 0 → RingZero ring → RingZero (finished_at slots w o slot status ring)
finished_zero slots w None slot status ring none zeros = zeros
finished_zero slots w (Some d) slot status ring none zeros = set_zero ring slot _ none zeros

-- THE SESSIONS
all_pushed : (statuses : List ℕ) (status : ℕ) → status ≡ 0 → AllZero statuses → AllZero (statuses ++ status ∷ [])
all_pushed [] status none zeros = (none, tt)
all_pushed (first ∷ statuses) status none zeros = (zeros.0, all_pushed statuses status none zeros.1)

finished_opened : (status : ℕ) (sessions : List Opened) → status ≡ 0 → OpenedZero sessions → OpenedZero (finished_in status sessions)
finished_opened status [] none zeros = zeros
finished_opened status (session ∷ sessions) none zeros = (all_pushed session.statuses status none zeros.0, zeros.1)

more_opened : (b : Bool) (sid : ℕ) (sessions : List Opened) → OpenedZero sessions → OpenedZero (opened_more b sid sessions)
more_opened true sid sessions zeros = (tt, zeros)
more_opened false sid sessions zeros = zeros

-- EACH EVENT
-- a descriptor ends with the status that its progress has
ends_zero : (s : LaneState) (l : DiskLog) (slot status : ℕ) (t : LaneState) → Before s l → ContentsStand (view_of s) → WorkStep s (Finished slot status) t → status ≡ 0
ends_zero s l slot status t before contents step =
    let at = seen B s.shape.entries s.wire.wire in
    let f = step.1.step.1.0 in
    let may : ServerMay s.server at (server_rules.Serves f.session f.work) = subst (ServerMay s.server at) f.rule (server_may s.server at) in
    let serves = serves_now s l f.work before may.0 may.2 in
    let is : ProgressIs (Ends status) s.near.u serves.on.request =
    subst (λ (p : Progress). ProgressIs p s.near.u serves.on.request) f.ends (contents.work f.work serves.now serves.on.request serves.on.next) in
    is.1

event_zero : (s : LaneState) (l : DiskLog) (event : DiskEvent) (t : LaneState) → Before s l → ContentsStand (view_of s) → LaneStep s event t → StatusesZero l → StatusesZero (after l event)
event_zero s l (OnWire (Joined A lost)) t before contents step zeros = record { ring = zeros.ring; opened = zeros.opened }
event_zero s l (OnWire (Reset A cause packet lost)) t before contents step zeros = record { ring = zeros.ring; opened = zeros.opened }
event_zero s l (OnWire (Took B packet opens)) t before contents step zeros = record { ring = zeros.ring; opened = more_opened opens _ l.work.opened zeros.opened }
event_zero s l (OnWire (Sent A packet opens)) t before contents step zeros = record { ring = cleared_zero opens l.shape.slots l.ring zeros.ring; opened = zeros.opened }
event_zero s l (OnWire (Sent B packet opens)) t before contents step zeros = record { ring = zeros.ring; opened = more_opened opens _ l.work.opened zeros.opened }
event_zero s l (Asks (Accepted id request)) t before contents step zeros = record { ring = zeros.ring; opened = zeros.opened }
event_zero s l (Works (Published id)) t before contents step zeros = record { ring = published_zero l.shape.slots l.work.client id l.ring zeros.ring; opened = zeros.opened }
event_zero s l (Works (Done id operation status bytes)) t before contents step zeros = record { ring = freed_zero l.shape.slots l.work l.work.client l.ring zeros.ring; opened = zeros.opened }
event_zero s l (Works (Desc slot bytes)) t before contents step zeros = record { ring = fetched_zero l.shape.slots l.work l.work.server slot l.ring zeros.ring; opened = zeros.opened }
event_zero s l (Works (Finished slot status)) t before contents step zeros =
    let none = ends_zero s l slot status t before contents step in
    record { ring = finished_zero l.shape.slots l.work l.work.server slot status l.ring none zeros.ring; opened = finished_opened status l.work.opened none zeros.opened }
event_zero s l (Switches Stopped) t before contents step zeros = record { ring = zeros.ring; opened = zeros.opened }
event_zero s l _ t before contents step zeros = record { ring = zeros.ring; opened = zeros.opened }

-- ALONG A RUN
record AlongZero (shape : Shape) (s : LaneState) (l : DiskLog) : Type 0 where
  holds : AlongContents shape s l
  zeros : l.wire.forged ≡ false → s.failed ≡ false → StatusesZero l

zero_step : (shape : Shape) → IsShape shape → (s : LaneState) (l : DiskLog) (event : DiskEvent) (t : LaneState) → AlongZero shape s l → LaneStep s event t → ⊤ × AlongZero shape t (after l event)
zero_step shape sound s l event t along step = (
  tt,
  record {
    holds = (contents_step shape sound s l event t along.holds step).1;
    zeros = λ clean well.
        let before = clean_before l event clean in
        let still = failed_before s event t step well in
        let at = at_step shape sound s l event t along.holds step clean in
        event_zero s l event t at.before (along.holds.contents before still) step (along.zeros before still);
  },
)

pub run_zero : (shape : Shape) (events : List DiskEvent) (s : LaneState) → IsShape shape → Run LaneStep (fresh shape) events s → (log_of after (nothing_yet shape) events).wire.forged ≡ false → s.failed ≡ false
    → StatusesZero (log_of after (nothing_yet shape) events)
run_zero shape events s sound run clean well =
    (run_lawful LaneStep (λ (l : DiskLog) (e : DiskEvent). ⊤) after (AlongZero shape) (zero_step shape sound) (fresh shape) s (nothing_yet shape) events
    (record { holds = run_contents shape [] (fresh shape) sound refl; zeros = λ now still. record { ring = many_zero shape.slots Zeros tt; opened = tt } }) run).1.zeros clean well

-- A COMPLETION has the status of its slot
pub run_done_zero : (shape : Shape) (events : List DiskEvent) (s : LaneState) (id operation status : ℕ) (bytes : List ℕ) (t : LaneState) → IsShape shape → Run LaneStep (fresh shape) events s
    → LaneStep s (Works (Done id operation status bytes)) t → t.wire.forged ≡ false → t.failed ≡ false → status ≡ 0
run_done_zero shape events s id operation status bytes t sound run step unforged well =
    let l = log_of after (nothing_yet shape) events in
    let event : DiskEvent = Works (Done id operation status bytes) in
    let here = run_step shape events s event t sound run step unforged well in
    let found = completes_slot s l id operation status bytes t here.at.before.known step in
    let zeros = run_zero shape events s sound run (clean_before l event here.clean) (failed_before s event t step well) in
    let is : IsZero (IsDone id status) = got_zero l.ring ((l.work.done - found.0.base) % l.shape.slots) (IsDone id status) zeros.ring found.1.done_is in
    is

pub run_finished_zero : (shape : Shape) (events : List DiskEvent) (s : LaneState) (slot status : ℕ) (t : LaneState) → IsShape shape → Run LaneStep (fresh shape) events s
    → LaneStep s (Works (Finished slot status)) t → t.wire.forged ≡ false → t.failed ≡ false → status ≡ 0
run_finished_zero shape events s slot status t sound run step unforged well =
    let here = run_step shape events s (Works (Finished slot status)) t sound run step unforged well in
    ends_zero s (log_of after (nothing_yet shape) events) slot status t here.at.before here.contents step

-- NO COPY is refused: what is refused ends a descriptor with another status
refused_ends : (p : Progress) (work : Work) (r : Reach) (unit : ℕ) (why : CopyFault) (next : Progress) (new : List ℕ) → MovesIn p work r unit (Some why) next new → next ≡ Ends 22
refused_ends (Gives u bytes) work r unit why next new moves = moves.2
refused_ends (Gathers u) work r unit why next new moves = moves.2
refused_ends _ work r unit why next new moves = absurd moves

moved_none : (s : LaneState) (l : DiskLog) (unit : ℕ) (fault : Option CopyFault) (t : LaneState) → Before s l → ContentsStand (view_of t) → WorkStep s (Moved unit fault) t → fault ≡ None
moved_none s l unit None t before contents step = refl
moved_none s l unit (Some why) t before contents step =
    let at = seen B s.shape.entries s.wire.wire in
    let m = step.1.step.1.0 in
    let may : ServerMay s.server at (server_rules.Serves m.session m.work) = subst (ServerMay s.server at) m.rule (server_may s.server at) in
    let serves = serves_now s l m.work before may.0 may.2 in
    let next : m.next ≡ Ends 22 = refused_ends m.work.progress m.work (reach s at.both) unit why m.next t.memory m.moves in
    let now : work_while t.wire.wire.end_b t.server.work ≡ Some (record m.work { progress = m.next }) =
    ap (λ (x : LaneState). work_while x.wire.wire.end_b t.server.work) step.1.is ∙ ap (λ (x : ChannelState). work_while x t.server.work) may.0 ∙ ap (λ (x : ServerState). x.work) m.is in
    let k : t.near.k ≡ s.near.k = ap (λ (x : LaneState). x.near.k) step.1.is in
    let got : slice_get t.client.pending t.near.k ≡ Some serves.on.request =
    ap (λ (x : LaneState). slice_get x.client.pending t.near.k) step.1.is ∙ ap (slice_get s.client.pending) k ∙ serves.on.next in
    let is : ProgressIs (Ends 22) t.near.u serves.on.request =
    subst (λ (p : Progress). ProgressIs p t.near.u serves.on.request) next (contents.work (record m.work { progress = m.next }) now serves.on.request got) in
    absurd (omega (arith, is.1))

pub run_moved_none : (shape : Shape) (events : List DiskEvent) (s : LaneState) (unit : ℕ) (fault : Option CopyFault) (t : LaneState) → IsShape shape → Run LaneStep (fresh shape) events s
    → LaneStep s (Works (Moved unit fault)) t → t.wire.forged ≡ false → t.failed ≡ false → fault ≡ None
run_moved_none shape events s unit fault t sound run step unforged well =
    let l = log_of after (nothing_yet shape) events in
    let event : DiskEvent = Works (Moved unit fault) in
    let here = run_step shape events s event t sound run step unforged well in
    let behind = (contents_step shape sound s l event t (run_contents shape events s sound run) step).1 in
    moved_none s l unit fault t here.at.before (behind.contents here.clean well) step
