-- Each step of a lane is a move of its client and a move of its server, as ends on a channel.
use Rattle.std.proofs.Common.{◌≡◌, ℕ, Bool, List, refl, sym, subst, arith}
use Rattle.ldc_link.specs.declared.phase.Role.TheVariants.{Initiator, Responder}
use Rattle.ldc_queue.specs.declared.end.End.{End}
use Rattle.ldc_queue.specs.declared.end.End.TheVariants.{A, B}
use Rattle.lane_models.specs.TranscriptLog.{TranscriptLog}
use Rattle.lane_models.specs.WireEvent.{Blocked, Giver, Idle, Joined, Reset, Sent, Took}
use Rattle.lane_models.specs.DiskEvent.{Desc, DiskEvent, Done, Finished, Moved, OnWire, Published, Stopped, Stored, Switches, Works}
use Rattle.lane_laws.specs.DiskLog.{after_transcript}
use Rattle.lane_models.specs.LaneState.{LaneState}
use Rattle.lane_models.specs.LaneStep.{LaneStep}
use Rattle.lane_models.specs.EndStep.{EndHears, EndStep}
use Rattle.lane_models.specs.LaneCore.{move_of, reset_move, transcript_after}
use Rattle.lane_laws.proofs.ClientMoves.{client_asked, client_begins, client_completed, client_fails, client_hears, client_published, client_same, client_says, client_waits}
use Rattle.lane_laws.proofs.ServerMoves.{server_begins, server_fails, server_fetched, server_finished, server_hears, server_moved, server_renews, server_same, server_says, server_stored, server_waits}
use Rattle.lane_laws.specs.ChannelEnds.{client_core, core_event, server_core}
use Rattle.lane_laws.specs.Sound.{ClientSound}
use Rattle.lane_laws.proofs.LaneViews.{Beside, ClientActs, ClientAsked, ClientCalled, ClientStays, ClientView, IsOwnStep, ServerActs, ServerCalled, ServerRenewed, ServerStays, ServerStopped, ServerView, at_client, at_server, lane_view, reach_of}
use Rattle.lane_models.specs.EndCore.{EndMove, Stays}
use Rattle.lane_models.specs.ClientStep.{ClientStep}
use Rattle.lane_models.specs.ServerStep.{ServerStep}

-- what always holds of its client, before the event and after it
pub record Sound (s t : LaneState) : Type 0 where
  pub before : ClientSound s.client
  pub behind : ClientSound t.client

-- BESIDE AN END an event is no move of it
beside_stays : (e : End) (event : DiskEvent) → Beside e event → move_of e (core_event event) ≡ Stays
beside_stays e event beside = grind arith

-- ITS CLIENT
abbrev MovesA : LaneState → LaneState → EndMove → Type 0
MovesA s t move = EndStep Initiator (client_core s.client) move (client_core t.client)

steps_a : (s t : LaneState) (event : DiskEvent) → Sound s t → IsOwnStep event → ClientStep s.client (at_client s) s.memory event t.client t.memory → MovesA s t (move_of A (core_event event))
steps_a s t (OnWire (Joined A lost)) sound own step = client_begins s.client t.client step.2
steps_a s t (OnWire (Took A packet opens)) sound own step =
    subst (λ (b : Bool). EndHears Initiator (client_core s.client) packet b (client_core t.client)) (sym step.2)
    (client_hears s.client (at_client s) packet t.client sound.behind step.0 step.1)
steps_a s t (OnWire (Sent A packet opens)) sound own step = client_says s.client (at_client s) s.memory packet opens t.client t.memory sound.before sound.behind step
steps_a s t (OnWire (Blocked A)) sound own step = client_waits s.client (at_client s) t.client sound.before step.0
steps_a s t (OnWire (Idle A)) sound own step = client_same s.client t.client step.1
steps_a s t (OnWire (Reset A cause packet lost)) sound own step =
    subst (λ (by : Giver). MovesA s t (reset_move by cause packet)) (sym own)
    (client_fails s.client (at_client s) s.memory cause packet step.0, client_begins s.client t.client step.2)
steps_a s t (Works (Published id)) sound own step = client_published s.client (at_client s) s.memory id t.client t.memory step
steps_a s t (Works (Done id operation status bytes)) sound own step = client_completed s.client (at_client s) s.memory id operation status bytes t.client t.memory step
steps_a s t _ sound own step = absurd step

pub step_a : (s : LaneState) (event : DiskEvent) (t : LaneState) → Sound s t → LaneStep s event t → EndStep Initiator (client_core s.client) (move_of A (core_event event)) (client_core t.client)
step_a s event t sound step = by event (lane_view s event t step).client
  where
    by : (event : DiskEvent) → ClientView s t event → MovesA s t (move_of A (core_event event))
    by _ (ClientActs event own does) = steps_a s t event sound own does
    by _ (ClientAsked request admits) = client_asked s.client request t.client admits
    by _ (ClientCalled cause begins is) = subst (MovesA s t) (sym begins) (client_begins s.client t.client is)
    by _ (ClientStays event beside is) = subst (MovesA s t) (sym (beside_stays A event beside)) (client_same s.client t.client is)

-- ITS SERVER
abbrev MovesB : LaneState → LaneState → EndMove → Type 0
MovesB s t move = EndStep Responder (server_core s.server) move (server_core t.server)

steps_b : (s t : LaneState) (event : DiskEvent) (gave : List ℕ) → IsOwnStep event → ServerStep s.server (at_server s) (reach_of s) gave event t.server t.memory → MovesB s t (move_of B (core_event event))
steps_b s t (OnWire (Joined B lost)) gave own step = server_begins s.server t.server step.2
steps_b s t (OnWire (Took B packet opens)) gave own step = server_hears s.server (at_server s) packet t.server opens step.0 step.1
steps_b s t (OnWire (Sent B packet opens)) gave own step = server_says s.server (at_server s) packet opens t.server step.0
steps_b s t (OnWire (Blocked B)) gave own step = server_waits s.server (at_server s) t.server step.0
steps_b s t (OnWire (Idle B)) gave own step = server_same s.server t.server step.1
steps_b s t (OnWire (Reset B cause packet lost)) gave own step =
    subst (λ (by : Giver). MovesB s t (reset_move by cause packet)) (sym own)
    (server_fails s.server (at_server s) (reach_of s) cause packet t.memory step.0, server_begins s.server t.server step.2)
steps_b s t (Works (Desc slot bytes)) gave own step = server_fetched s.server (at_server s) (reach_of s) slot bytes t.server t.memory step.0
steps_b s t (Works (Moved unit fault)) gave own step = server_moved s.server (at_server s) (reach_of s) unit fault t.server t.memory step.0
steps_b s t (Works (Stored operation block count failed)) gave own step = server_stored s.server (at_server s) operation block count failed gave t.server step.0
steps_b s t (Works (Finished slot status)) gave own step = server_finished s.server (at_server s) (reach_of s) slot status t.server t.memory step.0
steps_b s t _ gave own step = absurd step

pub step_b : (s : LaneState) (event : DiskEvent) (t : LaneState) → LaneStep s event t → EndStep Responder (server_core s.server) (move_of B (core_event event)) (server_core t.server)
step_b s event t step = by event (lane_view s event t step).server
  where
    by : (event : DiskEvent) → ServerView s t event → MovesB s t (move_of B (core_event event))
    by _ (ServerActs event gave own does) = steps_b s t event gave own does
    by _ (ServerCalled cause begins is) = subst (MovesB s t) (sym begins) (server_begins s.server t.server is)
    by _ (ServerRenewed cause renews is) = subst (MovesB s t) (sym renews) (server_renews s.server t.server is)
    by _ (ServerStopped is) = server_renews s.server t.server is
    by _ (ServerStays event beside is) = subst (MovesB s t) (sym (beside_stays B event beside)) (server_same s.server t.server is)

-- WHAT WAS SAID AND HEARD is the same
pub transcript_same : (l : TranscriptLog) (event : DiskEvent) → transcript_after l (core_event event) ≡ after_transcript l event
transcript_same l (Switches Stopped) = refl
transcript_same l _ = refl
