-- Along every run a tick is calm exactly where the client's session is open and nothing is pending.
use Rattle.std.proofs.Common.{◌≡◌, ◌≢◌, ℕ, true, Option, Some, None, List, [], ◌∷◌, length, refl, sym, ◌∙◌, arith}
use Rattle.std.specs.Prelude.{is_some}
use Rattle.std.proofs.lemmas.Bool.{and_from, and_parts}
use Rattle.runs.specs.Lawful.{Lawful}
use Rattle.runs.specs.Run.{Run}
use Rattle.ldc_queue.specs.declared.end.End.{End}
use Rattle.vdisk_msg.specs.declared.request.Request.{Request}
use Rattle.vio_tag.specs.declared.cause.Cause.{Cause}
use Rattle.lane_models.specs.WireEvent.{Giver}
use Rattle.lane_laws.specs.Agreement.{ClientAgrees}
use Rattle.lane_laws.specs.DiskLog.{DiskLog, after, nothing_yet}
use Rattle.lane_laws.specs.QuietLaws.{IsFinished, TickAt, TickOf}
use Rattle.lane_laws.specs.WorkLog.{ClientCounts}
use Rattle.lane_models.specs.ClientState.{ClientSession, is_finished, is_nothing}
use Rattle.lane_models.specs.DiskEvent.{DiskEvent}
use Rattle.lane_models.specs.LaneState.{IsShape, LaneState, Shape, fresh}
use Rattle.lane_models.specs.LaneStep.{LaneStep, ResetBy}
use Rattle.lane_laws.proofs.StandingRuns.{pending_is}
use Rattle.lane_laws.proofs.WorkNumbers.{Grounded}
use Rattle.lane_laws.proofs.WorkRuns.{grounded_lawful}

-- the log has a session of the client exactly where the client has one
opened_in : (session : Option ClientSession) (done : ℕ) (k : Option ClientCounts) → ClientAgrees session done k → is_some session ≡ is_some k
opened_in session done k agrees = grind arith

some_of : (o : Option ClientCounts) → o ≢ None → is_some o ≡ true
some_of None other = absurd (other refl)
some_of (Some c) other = refl

not_none : (o : Option ClientCounts) → is_some o ≡ true → o ≢ None
not_none None some none = absurd (cc)
not_none (Some c) some none = absurd (cc)

pub nothing_of : (pending : List Request) → length pending ≡ 0 → is_nothing pending ≡ true
nothing_of [] none = refl
nothing_of (request ∷ pending) none = absurd (omega (arith, none))

of_nothing : (pending : List Request) → is_nothing pending ≡ true → length pending ≡ 0
of_nothing [] none = refl
of_nothing (request ∷ pending) none = absurd (cc)

finished_at : (s : LaneState) (l : DiskLog) → Grounded s l → IsFinished l → is_finished s.client ≡ true
finished_at s l grounded finished =
    let open_now = opened_in s.client.session l.work.done l.work.client grounded.knows.counted.client.agrees in
    let stands = grounded.knows.all.stands in
    and_from (is_some s.client.session) (is_nothing s.client.pending) (open_now ∙ some_of l.work.client finished.0)
    (nothing_of s.client.pending (omega (arith, pending_is s.client l.work stands.requests, finished.1)))

finished_in : (s : LaneState) (l : DiskLog) → Grounded s l → is_finished s.client ≡ true → IsFinished l
finished_in s l grounded finished =
    let open_now = opened_in s.client.session l.work.done l.work.client grounded.knows.counted.client.agrees in
    let stands = grounded.knows.all.stands in
    let parts = and_parts (is_some s.client.session) (is_nothing s.client.pending) finished in (
      not_none l.work.client (sym open_now ∙ parts.0),
      omega (arith, of_nothing s.client.pending parts.1, pending_is s.client l.work stands.requests, stands.requests.done),
    )

reset_tick : (by : Giver) (e : End) (s : LaneState) (l : DiskLog) (cause : Cause) (packet : Option (List ℕ)) (lost : ℕ) (t : LaneState) → Grounded s l → ResetBy by e s cause packet lost t → TickOf by l
reset_tick by e s l cause packet lost t grounded step = grind (arith, finished_at)

tick_at : (s : LaneState) (l : DiskLog) (event : DiskEvent) (t : LaneState) → Grounded s l → LaneStep s event t → TickAt l event
tick_at s l event t grounded step = grind (arith, reset_tick, finished_in)

pub tick_lawful : (shape : Shape) (events : List DiskEvent) (s : LaneState) → IsShape shape → Run LaneStep (fresh shape) events s → Lawful TickAt after (nothing_yet shape) events
tick_lawful = grounded_lawful TickAt tick_at
