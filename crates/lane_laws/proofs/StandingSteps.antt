-- Each event of a lane may stand where the conditions on requests say, and keeps what its requests and its log are to each other.
use Rattle.std.proofs.Common.{◌≡◌, ℕ, List, sym, ap, subst, arith}
use Rattle.ldc_queue.specs.declared.end.End.TheVariants.{A}
use Rattle.lane_models.specs.TranscriptLog.{TranscriptLog}
use Rattle.lane_models.specs.WireEvent.{Blocked, Idle, Joined, Reset, Sent, Took, WireEvent}
use Rattle.lane_models.specs.WireLog.{wire_moved}
use Rattle.lane_laws.specs.WorkLog.{WorkLog, work_wired}
use Rattle.lane_models.specs.ClientState.{ClientState, joined_client}
use Rattle.lane_models.specs.DiskEvent.{OnWire}
use Rattle.lane_models.specs.LaneState.{LaneState}
use Rattle.lane_models.specs.LaneStep.{WireStep}
use Rattle.lane_laws.proofs.LaneViews.{ClientActs, ClientCalled, ClientStays, ClientView, at_client, lane_view}
use Rattle.lane_models.specs.ClientStep.{ClientStep}
use Rattle.lane_laws.proofs.Requesting.{KeepsRequests, held_kept, joined_kept, sent_kept, stays_kept, took_kept}
use Rattle.lane_laws.proofs.Ruling.{client_may}
use Rattle.lane_models.specs.ClientRule.{client_rule}

-- what the wire's events leave of the log of requests
pub record LogKeeps (w x : WorkLog) : Type 0 where
  pub issued : x.issued ≡ w.issued
  pub done : x.done ≡ w.done
  pub stopped : x.stopped ≡ w.stopped

pub wired_keeps : (slots : ℕ) (transcript : TranscriptLog) (w : WorkLog) (event : WireEvent) → LogKeeps w (work_wired slots transcript w event)
wired_keeps slots transcript w event = grind arith

-- WHAT A STEP ON THE WIRE leaves of the client's requests, and what it makes of the wire
pub record OnlyWire (s : LaneState) (event : WireEvent) (t : LaneState) : Type 0 where
  pub wire : t.wire ≡ wire_moved s.wire event
  pub kept : KeepsRequests s.client t.client

pub same_client : (c t : ClientState) → t ≡ c → KeepsRequests c t
same_client c t is = subst (KeepsRequests c) (sym is) (stays_kept c)

pub joined_client_kept : (c t : ClientState) → t ≡ joined_client c → KeepsRequests c t
joined_client_kept c t is = subst (KeepsRequests c) (sym is) (joined_kept c)

pub client_kept : (s : LaneState) (event : WireEvent) (t : ClientState) (new : List ℕ) → ClientStep s.client (at_client s) s.memory (OnWire event) t new → KeepsRequests s.client t
client_kept s (Joined A lost) t new step = joined_client_kept s.client t step.2
client_kept s (Took A packet opens) t new step = took_kept s.client packet t step.1
client_kept s (Sent A packet opens) t new step = sent_kept s.client (at_client s) s.memory packet opens t new step
client_kept s (Blocked A) t new step = held_kept s.client (at_client s) (client_rule s.client (at_client s)) t (client_may s.client (at_client s)) step.0
client_kept s (Idle A) t new step = same_client s.client t step.1
client_kept s (Reset A cause packet lost) t new step = joined_client_kept s.client t step.2
client_kept s _ t new step = absurd step

pub wire_only : (s : LaneState) (event : WireEvent) (t : LaneState) → WireStep s event t → OnlyWire s event t
wire_only s event t step = let view = lane_view s (OnWire event) t step in record { wire = ap (λ (x : LaneState). x.wire) view.is; kept = by event view.client }
  where
    by : (event : WireEvent) → ClientView s t (OnWire event) → KeepsRequests s.client t.client
    by event (ClientActs _ own does) = client_kept s event t.client t.memory does
    by _ (ClientCalled cause begins is) = joined_client_kept s.client t.client is
    by event (ClientStays _ beside is) = same_client s.client t.client is

-- TURNS: only a server that runs makes a step
