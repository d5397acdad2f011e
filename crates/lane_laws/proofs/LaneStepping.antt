-- Each event of a lane keeps what always holds of its client's session and requests.
use Rattle.std.proofs.Common.{ℕ, List, sym, subst, arith}
use Rattle.runs.specs.Run.{Run, run_keeps}
use Rattle.ldc_queue.specs.declared.end.End.TheVariants.{A}
use Rattle.lane_models.specs.WireEvent.{Blocked, Idle, Joined, Reset, Sent, Took}
use Rattle.lane_models.specs.DiskEvent.{DiskEvent, Done, OnWire, Published, Works}
use Rattle.lane_models.specs.LaneState.{IsShape, LaneState, Shape, fresh}
use Rattle.lane_models.specs.LaneStep.{LaneStep}
use Rattle.lane_laws.proofs.ClientHearing.{client_takes}
use Rattle.lane_laws.proofs.LaneViews.{ClientActs, ClientAsked, ClientCalled, ClientStays, ClientView, at_client, lane_view}
use Rattle.lane_models.specs.ClientState.{ClientState}
use Rattle.lane_models.specs.ClientStep.{ClientStep}
use Rattle.lane_laws.proofs.ClientSteps.{client_admits, client_blocked, client_completes, client_joined, client_publishes, client_sends}
use Rattle.lane_laws.specs.Sound.{ClientSound}

steps_sound : (s : LaneState) → ClientSound s.client → (event : DiskEvent) (t : ClientState) (new : List ℕ) → ClientStep s.client (at_client s) s.memory event t new → ClientSound t
steps_sound s sound (OnWire (Joined A lost)) t new step = subst ClientSound (sym step.2) (client_joined s.client sound)
steps_sound s sound (OnWire (Took A packet opens)) t new step = client_takes s.client packet t sound step.1
steps_sound s sound (OnWire (Sent A packet opens)) t new step = client_sends s.client (at_client s) s.memory packet opens t new sound step
steps_sound s sound (OnWire (Blocked A)) t new step = client_blocked s.client (at_client s) t sound step.0
steps_sound s sound (OnWire (Idle A)) t new step = subst ClientSound (sym step.1) sound
steps_sound s sound (OnWire (Reset A cause packet lost)) t new step = subst ClientSound (sym step.2) (client_joined s.client sound)
steps_sound s sound (Works (Published id)) t new step = client_publishes s.client (at_client s) s.memory id t new sound step
steps_sound s sound (Works (Done id operation status bytes)) t new step = client_completes s.client (at_client s) s.memory id operation status bytes t new sound step
steps_sound s sound _ t new step = absurd step

pub sound_step : (s : LaneState) (event : DiskEvent) (t : LaneState) → ClientSound s.client → LaneStep s event t → ClientSound t.client
sound_step s event t sound step = by event (lane_view s event t step).client
  where
    by : (event : DiskEvent) → ClientView s t event → ClientSound t.client
    by _ (ClientActs event own does) = steps_sound s sound event t.client t.memory does
    by _ (ClientAsked request admits) = client_admits s.client request t.client sound admits
    by _ (ClientCalled cause begins is) = subst ClientSound (sym is) (client_joined s.client sound)
    by _ (ClientStays event beside is) = subst ClientSound (sym is) sound

-- ALONG EVERY RUN
pub fresh_sound : (shape : Shape) → IsShape shape → ClientSound (fresh shape).client
fresh_sound shape sound = record { own = λ own. absurd (cc); slots = sound.most_slots; pending = omega arith; counts = tt }

pub run_sound : (shape : Shape) (events : List DiskEvent) (s : LaneState) → IsShape shape → Run LaneStep (fresh shape) events s → ClientSound s.client
run_sound shape events s sound run =
    run_keeps LaneStep (λ (x : LaneState). ClientSound x.client) (λ (x : LaneState) (e : DiskEvent) (y : LaneState) step holds. sound_step x e y holds step) (fresh shape) s events run (fresh_sound shape sound)
