-- Along every run each end works only where it is up.
use Rattle.std.proofs.Common.{List, subst}
use Rattle.runs.specs.Lawful.{Lawful}
use Rattle.runs.specs.Run.{Run}
use Rattle.ldc_queue.specs.declared.end.End.{End}
use Rattle.ldc_queue.specs.declared.end.End.TheVariants.{A, B}
use Rattle.lane_models.specs.ClientRule as client_rules
use Rattle.lane_models.specs.DiskEvent.{Desc, DiskEvent, Done, Misplaced, Published, Works}
use Rattle.lane_laws.specs.DiskLog.{DiskLog, after, nothing_yet}
use Rattle.lane_models.specs.LaneState.{IsShape, LaneState, Shape, fresh}
use Rattle.lane_models.specs.LaneStep.{LaneStep}
use Rattle.lane_models.specs.ServerRule as server_rules
use Rattle.lane_models.specs.WireAt.{IsUp}
use Rattle.lane_models.specs.WireLog.{WireLog}
use Rattle.lane_laws.specs.WorkLaws.{WorksAt}
use Rattle.lane_laws.proofs.WorkNumbers.{Grounded}
use Rattle.lane_laws.proofs.WorkRuns.{grounded_lawful}
use Rattle.lane_laws.proofs.TableRuns.{client_known, server_known}

-- THE END IS UP in its lane, and so it is by the log
in_log : (e : End) (s : LaneState) (l : DiskLog) → Grounded s l → IsUp e s.wire.wire → IsUp e l.wire.wire
in_log e s l grounded up = subst (λ (w : WireLog). IsUp e w.wire) grounded.knows.all.stands.wire up

works_at : (s : LaneState) (l : DiskLog) (event : DiskEvent) (t : LaneState) → Grounded s l → LaneStep s event t → WorksAt l event
works_at s l (Works (Published id)) t grounded step =
    in_log A s l grounded (client_known s (client_rules.Publishes step.step.session step.step.request) step.step.rule).0
works_at s l (Works (Done id operation status bytes)) t grounded step =
    in_log A s l grounded (client_known s (client_rules.Completes step.step.session) step.step.rule).0
works_at s l (Works (Desc slot bytes)) t grounded step =
    let f = step.1.step.1.0 in in_log B s l grounded (server_known s (server_rules.Fetches f.session) f.rule).0
works_at s l (Works Misplaced) t grounded step = absurd step
works_at s l (Works _) t grounded step =
    let f = step.1.step.1.0 in in_log B s l grounded (server_known s (server_rules.Serves f.session f.work) f.rule).0
works_at s l _ t grounded step = tt

-- ALONG EVERY RUN
pub works_lawful : (shape : Shape) (events : List DiskEvent) (s : LaneState) → IsShape shape → Run LaneStep (fresh shape) events s
    → Lawful WorksAt after (nothing_yet shape) events
works_lawful = grounded_lawful WorksAt works_at
