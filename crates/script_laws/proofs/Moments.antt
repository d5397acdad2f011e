-- A lane stands as its log says behind each front of the entries, forged or not.
use Rattle.std.proofs.Common.{◌≡◌, ℕ, false, List, ◌++◌, ap, ◌∙◌, subst}
use Rattle.runs.specs.Lawful.{log_of}
use Rattle.runs.specs.Run.{Run, run_split}
use Rattle.world_parts.specs.lane_models.DiskEvent.{DiskEvent}
use Rattle.world_parts.specs.lane_laws.DiskLog.{after, nothing_yet}
use Rattle.world_parts.specs.lane_models.LaneState.{IsShape, LaneState, Shape, fresh}
use Rattle.world_parts.specs.lane_models.LaneStep.{LaneStep}
use Rattle.world_parts.specs.lane_models.WireLog.{WireLog}
use Rattle.world_parts.proofs.lane_laws.AgreementRuns.{run_agrees}
use Rattle.world_parts.proofs.lane_laws.CountsFollow.{counts_in_turn}
use Rattle.world_parts.proofs.lane_laws.NearOrder.{near_in_order}
use Rattle.world_parts.proofs.lane_laws.OneSession.{one_session}
use Rattle.world_parts.proofs.lane_laws.SlotsAlong.{run_order}
use Rattle.world_parts.proofs.lane_laws.HeardFront.{both_up}
use Rattle.world_parts.proofs.world_laws.Moving.{happened_both}
use Rattle.world_parts.specs.world_laws.Along.{happened}
use Rattle.world_parts.specs.world_laws.Settle.{SettleEntry}
use Rattle.script_laws.proofs.Hearing.{hears_a_front}
use Rattle.script_laws.specs.Lanes.{LaneMoment, StandsAt, StandsUnforged}

-- AFTER EVENTS of a lane
stands_unforged : (shape : Shape) (events : List DiskEvent) (s : LaneState) → IsShape shape
    → Run LaneStep (fresh shape) events s → (log_of after (nothing_yet shape) events).wire.forged ≡ false
    → StandsUnforged s (log_of after (nothing_yet shape) events)
stands_unforged shape events s sound run clean =
    let unforged : s.wire.forged ≡ false = ap (λ (w : WireLog). w.forged) (run_agrees shape events s sound run).wire ∙ clean in
    record {
      hears = λ e up. hears_a_front shape events s e sound run unforged up;
      sessions = λ client server.
          let up = both_up shape events s sound run unforged client server in
          record {
            client_up = up.0;
            server_up = up.1;
            one = one_session shape events s sound run unforged client server;
          };
      counts = λ k d client server. counts_in_turn shape events s k d sound run clean client server;
      slots = λ k client. run_order shape events s k sound run clean client;
      near = near_in_order shape events s sound run clean;
    }

pub stands_at : (shape : Shape) (events : List DiskEvent) (s : LaneState) → IsShape shape
    → Run LaneStep (fresh shape) events s → StandsAt s (log_of after (nothing_yet shape) events)
stands_at shape events s sound run = record {
  agrees = run_agrees shape events s sound run;
  unforged = stands_unforged shape events s sound run;
}

-- BEHIND A FRONT
pub moment : (shape : Shape) (x : ℕ) (before behind : List SettleEntry) (last : LaneState) → IsShape shape
    → Run LaneStep (fresh shape) (happened x (before ++ behind)) last → LaneMoment shape x before behind last
moment shape x before behind last sound run =
    let front : List DiskEvent = happened x before in
    let rest : List DiskEvent = happened x behind in
    let whole : Run LaneStep (fresh shape) (front ++ rest) last =
    subst (λ (events : List DiskEvent). Run LaneStep (fresh shape) events last) (happened_both x before behind) run in
    let parts = run_split LaneStep (fresh shape) last front rest whole in
    record {
      state = parts.0;
      reached = parts.1;
      leads = parts.2;
      stands = stands_at shape front parts.0 sound parts.1;
    }
