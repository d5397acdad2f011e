-- A tick that resets the client begins its lane anew.
use Rattle.std.proofs.Common.{◌≡◌, ℕ, Option, List, ap, ◌∙◌, subst}
use Rattle.runs.specs.Run.{Run}
use Rattle.ldc_queue.specs.declared.end.ChannelState.{ChannelState}
use Rattle.ldc_queue.specs.declared.end.End.{End}
use Rattle.ldc_queue.specs.declared.end.End.TheVariants.{A, B}
use Rattle.vio_tag.specs.declared.cause.Cause.{Cause}
use Rattle.lane_models.specs.WireEvent.{ByTick, Giver, Reset, giver}
use Rattle.lane_models.specs.WireLog.{lossy_behind}
use Rattle.lane_models.specs.ClientState.{is_finished}
use Rattle.lane_models.specs.DiskEvent.{DiskEvent, OnWire}
use Rattle.lane_models.specs.LaneState.{IsShape, LaneState, Shape, fresh}
use Rattle.lane_models.specs.LaneStep.{LaneStep, ResetBy}
use Rattle.lane_laws.proofs.RemainingRuns.{resets_fall, resets_remain}
use Rattle.lane_laws.specs.TickBegins.{TickBegins}

by_tick : (e : End) (shape : Shape) (events : List DiskEvent) (s : LaneState) (cause : Cause) (packet : Option (List ℕ)) (lost : ℕ) (t : LaneState) → IsShape shape
    → Run LaneStep (fresh shape) events s → LaneStep s (OnWire (Reset e cause packet lost)) t → ResetBy ByTick e s cause packet lost t → TickBegins s t
by_tick A shape events s cause packet lost t sound run step ticks = record {
  unfinished = ticks.0;
  anew = ap (λ (x : LaneState). is_finished x.client) ticks.1.2;
  pending = ap (λ (x : LaneState). x.client.pending) ticks.1.2;
  forged = ap (λ (x : LaneState). x.wire.forged) ticks.1.2;
  stopped = ap (λ (x : LaneState). x.stopped) ticks.1.2;
  whole = λ up. ap (λ (x : LaneState). x.wire.lossy) ticks.1.2 ∙ ap (λ (x : ChannelState). lossy_behind x s.wire.lossy) up;
  remains = λ up. resets_remain shape events s A cause packet lost t sound run up step;
  falls = λ up lossy. resets_fall shape events s A cause packet lost t sound run up lossy step;
}
by_tick B shape events s cause packet lost t sound run step ticks = absurd ticks

pub tick_begins : (shape : Shape) (events : List DiskEvent) (s : LaneState) (e : End) (cause : Cause) (packet : Option (List ℕ)) (lost : ℕ) (t : LaneState) → IsShape shape
    → Run LaneStep (fresh shape) events s → giver cause ≡ ByTick → LaneStep s (OnWire (Reset e cause packet lost)) t → TickBegins s t
tick_begins shape events s e cause packet lost t sound run by step =
    by_tick e shape events s cause packet lost t sound run step (subst (λ (g : Giver). ResetBy g e s cause packet lost t) by step)
