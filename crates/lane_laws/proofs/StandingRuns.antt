-- Along every run the conditions on requests hold of each event.
use Rattle.std.proofs.Common.{◌≡◌, ℕ, Bool, None, ◌-◌, List, [], ◌∷◌, ◌++◌, length, refl, sym, ap, ◌∙◌, subst, arith, length-drop}
use Rattle.runs.specs.Lawful.{Lawful, run_lawful}
use Rattle.runs.specs.Run.{Run}
use Rattle.ldc_queue.specs.declared.end.End.TheVariants.{A}
use Rattle.lane_models.specs.WireLog.{WireLog}
use Rattle.lane_laws.specs.DiskLog.{DiskLog, after, after_wire, nothing_yet}
use Rattle.lane_laws.specs.RequestLaws.{AdmissionAt, Admits, OnceAt, ServerRunsAt}
use Rattle.lane_laws.specs.WorkLog.{WorkLog}
use Rattle.lane_models.specs.ClientState.{ClientState}
use Rattle.lane_models.specs.ClientStep.{ClientAdmits, ClientStep}
use Rattle.lane_models.specs.WireEvent.{Reset}
use Rattle.lane_models.specs.DiskEvent.{Accepted, Admitted, Asks, DiskEvent, Done, Full, OnWire, Published, Refused, Works}
use Rattle.lane_models.specs.LaneState.{IsShape, LaneState, Shape, fresh}
use Rattle.lane_models.specs.LaneStep.{LaneStep}
use Rattle.lane_laws.proofs.Requesting.{KeepsRequests, accepted_stand, completed_next, kept_stand, published_kept, same_stand}
use Rattle.lane_laws.proofs.StandingSteps.{client_kept, joined_client_kept, same_client, wired_keeps}
use Rattle.lane_laws.proofs.LaneViews.{Beside, ClientActs, ClientAsked, ClientCalled, ClientStays, ClientView, after_stopped, at_client, lane_view}
use Rattle.lane_laws.specs.Standing.{LaneInvariant, MayOfRequests, RequestsStand}

-- what is pending is counted by the log too
pub pending_is : (c : ClientState) (w : WorkLog) → RequestsStand c w → length c.pending ≡ length w.issued - w.done
pending_is c w stand = ap length stand.pending ∙ length-drop w.done w.issued

pub slots_is : (s : LaneState) (l : DiskLog) → LaneInvariant s l → s.client.slots ≡ l.shape.slots
slots_is s l stands = stands.slots ∙ ap (λ (y : Shape). y.slots) stands.shape

-- THE CLIENT, against the log of requests
record ClientBehind (c t : ClientState) (x : WorkLog) : Type 0 where
  blocks : t.blocks ≡ c.blocks
  slots : t.slots ≡ c.slots
  requests : RequestsStand t x

kept_behind : (c t : ClientState) (w x : WorkLog) → RequestsStand c w → x.issued ≡ w.issued → x.done ≡ w.done → KeepsRequests c t → ClientBehind c t x
kept_behind c t w x stand issued done kept = record { blocks = kept.blocks; slots = kept.slots; requests = same_stand t w x issued done (kept_stand c t w stand kept) }

steps_behind : (s : LaneState) (l : DiskLog) → RequestsStand s.client l.work → (event : DiskEvent) (t : ClientState) (new : List ℕ) → ClientStep s.client (at_client s) s.memory event t new
    → ClientBehind s.client t (after l event).work
steps_behind s l stand (OnWire event) t new step =
    let keeps = wired_keeps l.shape.slots l.transcript l.work event in
    kept_behind s.client t l.work (after l (OnWire event)).work stand keeps.issued keeps.done (client_kept s event t new step)
steps_behind s l stand (Works (Published id)) t new step =
    kept_behind s.client t l.work (after l (Works (Published id))).work stand refl refl (published_kept s.client (at_client s) s.memory id t new step)
steps_behind s l stand (Works (Done id operation status bytes)) t new step =
    let next = completed_next s.client l.work (at_client s) s.memory id operation status bytes t new stand step in
    record { blocks = next.blocks; slots = next.slots; requests = next.stand }
steps_behind s l stand _ t new step = absurd step

asks_behind : (c : ClientState) (l : DiskLog) (request : Admitted) (t : ClientState) → RequestsStand c l.work → ClientAdmits c request t → ClientBehind c t (after l (Asks request)).work
asks_behind c l (Refused why request) t stand admits = kept_behind c t l.work l.work stand refl refl (same_client c t admits.1)
asks_behind c l (Full request) t stand admits = kept_behind c t l.work l.work stand refl refl (same_client c t admits.2)
asks_behind c l (Accepted id request) t stand admits = record {
  blocks = ap (λ (x : ClientState). x.blocks) admits.5;
  slots = ap (λ (x : ClientState). x.slots) admits.5;
  requests = subst (λ (x : ClientState). RequestsStand x (record l.work { issued = l.work.issued ++ request ∷ [] })) (sym admits.5) (accepted_stand c l.work request stand);
}

-- an event beside it completes and accepts nothing
beside_keeps : (l : DiskLog) (event : DiskEvent) → Beside A event → ((after l event).work.issued ≡ l.work.issued) × ((after l event).work.done ≡ l.work.done)
beside_keeps l event beside = grind arith

client_behind : (s t : LaneState) (l : DiskLog) (event : DiskEvent) → RequestsStand s.client l.work → ClientView s t event → ClientBehind s.client t.client (after l event).work
client_behind s t l _ stand (ClientActs event own does) = steps_behind s l stand event t.client t.memory does
client_behind s t l _ stand (ClientAsked request admits) = asks_behind s.client l request t.client stand admits
client_behind s t l _ stand (ClientCalled cause begins is) =
    kept_behind s.client t.client l.work (after l (OnWire (Reset A cause None 0))).work stand refl refl (joined_client_kept s.client t.client is)
client_behind s t l _ stand (ClientStays event beside is) =
    let keeps = beside_keeps l event beside in kept_behind s.client t.client l.work (after l event).work stand keeps.0 keeps.1 (same_client s.client t.client is)

-- WHETHER THE SERVER is stopped, by the log
stopped_behind : (l : DiskLog) (event : DiskEvent) → after_stopped l.work.stopped event ≡ (after l event).work.stopped
stopped_behind l event = grind arith

invariant_step : (s : LaneState) (l : DiskLog) (event : DiskEvent) (t : LaneState) → LaneInvariant s l → LaneStep s event t → LaneInvariant t (after l event)
invariant_step s l event t stands step =
    let view = lane_view s event t step in
    let shape : t.shape ≡ s.shape = ap (λ (x : LaneState). x.shape) view.is in
    let behind = client_behind s t l event stands.requests view.client in
    record {
      shape = shape ∙ stands.shape;
      wire = ap (λ (x : LaneState). x.wire) view.is ∙ ap (λ (w : WireLog). after_wire w event) stands.wire;
      stopped = ap (λ (x : LaneState). x.stopped) view.is ∙ ap (λ (b : Bool). after_stopped b event) stands.stopped ∙ stopped_behind l event;
      blocks = behind.blocks ∙ stands.blocks ∙ ap (λ (y : Shape). y.blocks) (sym shape);
      slots = behind.slots ∙ stands.slots ∙ ap (λ (y : Shape). y.slots) (sym shape);
      requests = behind.requests;
    }

-- WHERE AN EVENT MAY STAND: what comes of a request, completions, and whether the server runs
asks_may : (s : LaneState) (l : DiskLog) (request : Admitted) (t : ClientState) → LaneInvariant s l → ClientAdmits s.client request t → Admits l request
asks_may s l request t stands admits = grind (arith, pending_is)

admission_at : (s : LaneState) (l : DiskLog) (event : DiskEvent) (t : LaneState) → LaneInvariant s l → LaneStep s event t → AdmissionAt l event
admission_at s l (Asks request) t stands step = asks_may s l request t.client stands step.0
admission_at s l _ t stands step = tt

once_at : (s : LaneState) (l : DiskLog) (event : DiskEvent) (t : LaneState) → LaneInvariant s l → LaneStep s event t → OnceAt l event
once_at s l (Works (Done id operation status bytes)) t stands step =
    let next = completed_next s.client l.work (at_client s) s.memory id operation status bytes t.client t.memory stands.requests step.step in
    record { next = next.next; request = step.step.request; accepted = next.accepted; operation_is = next.operation_is }
once_at s l _ t stands step = tt

turns_at : (s : LaneState) (l : DiskLog) (event : DiskEvent) (t : LaneState) → LaneInvariant s l → LaneStep s event t → ServerRunsAt l event
turns_at s l event t stands step = grind arith

-- EACH EVENT: where it may stand, and what it keeps
pub record Behind (s : LaneState) (l : DiskLog) (event : DiskEvent) (t : LaneState) : Type 0 where
  pub may : MayOfRequests l event
  pub stands : LaneInvariant t (after l event)

pub stands_step : (s : LaneState) (l : DiskLog) (event : DiskEvent) (t : LaneState) → LaneInvariant s l → LaneStep s event t → Behind s l event t
stands_step s l event t stands step = search (admission_at, once_at, turns_at, invariant_step)

-- ALONG EVERY RUN
pub fresh_stands : (shape : Shape) → LaneInvariant (fresh shape) (nothing_yet shape)
fresh_stands shape = grind arith

requests_step : (s : LaneState) (l : DiskLog) (event : DiskEvent) (t : LaneState) → LaneInvariant s l → LaneStep s event t → MayOfRequests l event × LaneInvariant t (after l event)
requests_step s l event t stands step = let behind = stands_step s l event t stands step in (behind.may, behind.stands)

pub requests_lawful : (shape : Shape) (events : List DiskEvent) (s : LaneState) → IsShape shape → Run LaneStep (fresh shape) events s → Lawful MayOfRequests after (nothing_yet shape) events
requests_lawful shape events s sound run =
    (run_lawful LaneStep MayOfRequests after LaneInvariant requests_step (fresh shape) s (nothing_yet shape) events (fresh_stands shape) run).0

-- a law that follows from another, event by event
pub lawful_by : (May Other : DiskLog → DiskEvent → Type 0) → ((l : DiskLog) (e : DiskEvent) → May l e → Other l e) → (l : DiskLog) (events : List DiskEvent) → Lawful May after l events
    → Lawful Other after l events
lawful_by May Other follows l [] lawful = tt
lawful_by May Other follows l (e ∷ events) lawful = (follows l e lawful.0, lawful_by May Other follows (after l e) events lawful.1)

pub admission_lawful : (shape : Shape) (events : List DiskEvent) (s : LaneState) → IsShape shape → Run LaneStep (fresh shape) events s → Lawful AdmissionAt after (nothing_yet shape) events
admission_lawful shape events s sound run =
    lawful_by MayOfRequests AdmissionAt (λ l e may. may.admission) (nothing_yet shape) events (requests_lawful shape events s sound run)

pub once_lawful : (shape : Shape) (events : List DiskEvent) (s : LaneState) → IsShape shape → Run LaneStep (fresh shape) events s → Lawful OnceAt after (nothing_yet shape) events
once_lawful shape events s sound run = lawful_by MayOfRequests OnceAt (λ l e may. may.once) (nothing_yet shape) events (requests_lawful shape events s sound run)

pub runs_lawful : (shape : Shape) (events : List DiskEvent) (s : LaneState) → IsShape shape → Run LaneStep (fresh shape) events s → Lawful ServerRunsAt after (nothing_yet shape) events
runs_lawful shape events s sound run = lawful_by MayOfRequests ServerRunsAt (λ l e may. may.runs) (nothing_yet shape) events (requests_lawful shape events s sound run)
