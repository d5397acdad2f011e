-- On a lane that nobody forged the counts of two open sessions stand in their order.
use Rattle.std.proofs.Common.{◌≡◌, false, Some, List, length, sym, ap, ◌∙◌, arith}
use Rattle.runs.specs.Lawful.{log_of}
use Rattle.runs.specs.Run.{Run}
use Rattle.ldc_queue.specs.declared.end.ChannelState.TheVariants.{Up}
use Rattle.lane_models.specs.DiskEvent.{DiskEvent}
use Rattle.lane_models.proofs.Apart.{some_same}
use Rattle.lane_laws.specs.DiskLog.{DiskLog, after, nothing_yet}
use Rattle.lane_models.specs.LaneState.{IsShape, LaneState, Shape, fresh}
use Rattle.lane_models.specs.LaneStep.{LaneStep}
use Rattle.lane_models.specs.WireLog.{WireLog}
use Rattle.lane_laws.specs.WorkLog.{ClientCounts, ServerCounts}
use Rattle.lane_laws.proofs.Agreeing.{always_agree, client_some, server_open}
use Rattle.lane_laws.proofs.LaneCounting.{Knows, run_knows}
use Rattle.lane_laws.proofs.SlotsAlong.{announced_in}
use Rattle.lane_laws.proofs.SlotsStepping.{if_server, work_first}
use Rattle.lane_laws.specs.CountsOrdered.{CountsOrdered}
use Rattle.lane_laws.specs.RingAgreed.{OneRing}
use Rattle.lane_laws.proofs.HeardFront.{both_up}

pub counts_in_turn : (shape : Shape) (events : List DiskEvent) (s : LaneState) (k : ClientCounts) (d : ServerCounts) → IsShape shape
    → Run LaneStep (fresh shape) events s → (log_of after (nothing_yet shape) events).wire.forged ≡ false
    → (log_of after (nothing_yet shape) events).work.client ≡ Some k → (log_of after (nothing_yet shape) events).work.server ≡ Some d → CountsOrdered k d
counts_in_turn shape events s k d sound run clean client server =
    let l : DiskLog = log_of after (nothing_yet shape) events in
    let knows : Knows s l = run_knows shape events s sound run in
    let counted = knows.counted in
    let wire = knows.all.stands.wire in
    let ups = both_up shape events s sound run (ap (λ (w : WireLog). w.forged) wire ∙ clean)
    (client_some s.client.session l.work.done l.work.client k client counted.client.agrees)
    (server_open s.server.session s.server.work l.work.server d server counted.server.agrees) in
    let up : l.wire.wire.end_b ≡ Up = ap (λ (w : WireLog). w.wire.end_b) (sym wire) ∙ ups.1 in
    let one : OneRing s l.work d = if_server (OneRing s l.work) l.work.server d server ((always_agree shape sound events s run clean).ring up) in
    let both : Some one.client ≡ Some k = sym one.open_is ∙ client in
    let same : one.client ≡ k = some_same both in
    let acked : one.client.acked ≡ k.acked = ap (λ (c : ClientCounts). c.acked) same in
    let announced : one.client.announced ≡ k.announced = ap (λ (c : ClientCounts). c.announced) same in
    record {
      acknowledged = omega (arith, acked, one.acked);
      answered = one.answered;
      finished = work_first s.server.session s.server.work l.work.server d server counted.server.agrees;
      fetched = one.descs;
      asked = omega (arith, announced, one.announced);
      announced = announced_in (length s.client.pending) s.client.session l.work.done l.work.client k client counted.client.agrees knows.all.sound.counts;
    }
