-- Where nobody forged and nothing was lost, two ends that rest have finished: both sessions are open, and nothing is pending.
use Rattle.std.proofs.Common.{◌≡◌, true, false, Option, Some, None, List, refl, sym, ap, ◌∙◌, subst, arith}
use Rattle.std.specs.Prelude.{is_some}
use Rattle.runs.specs.Lawful.{log_of}
use Rattle.runs.specs.Run.{Run}
use Rattle.lane_models.specs.Sayings.{heard, said}
use Rattle.lane_models.specs.TranscriptLog.{TranscriptLog}
use Rattle.lane_laws.specs.DiskLog.{DiskLog, after, nothing_yet}
use Rattle.lane_laws.specs.QuietLaws.{ClientIsIdle, IsLogAtRest, ServerIsIdle}
use Rattle.lane_laws.specs.WorkLaws.{IfClient, IfServer}
use Rattle.lane_laws.specs.WorkLog.{ClientCounts, ServerCounts}
use Rattle.lane_models.specs.ClientRule as client_rules
use Rattle.lane_models.specs.DiskEvent.{DiskEvent}
use Rattle.lane_models.specs.LaneState.{IsShape, LaneState, Shape, fresh}
use Rattle.lane_models.specs.LaneStep.{LaneStep}
use Rattle.lane_models.specs.ServerRule as server_rules
use Rattle.lane_laws.proofs.Ruling.{client_may, server_may}
use Rattle.lane_laws.specs.Counted.{acked_of, announced_of, range_sum}
use Rattle.lane_laws.specs.RuleFacts.{ClientMay, ServerMay}
use Rattle.lane_laws.proofs.Counting.{OfClient, OfServer, of_client, of_server}
use Rattle.lane_models.proofs.Apart.{none_is_some}
use Rattle.lane_models.proofs.EndsAtRest.{none_waits}
use Rattle.lane_laws.proofs.IdleLaw.{idle_client, idle_server}
use Rattle.lane_laws.proofs.IdleRules.{ServerIdles, client_idles, server_idles}
use Rattle.lane_laws.proofs.RuleTests.{ClientIdles}
use Rattle.lane_laws.proofs.LaneChannel.{answers_of, asks_of, lane_meets}
use Rattle.lane_models.proofs.AtRest as core
use Rattle.lane_models.proofs.AtRest.{HeardAll, heard_all, rests_open}
use Rattle.lane_models.specs.Sides.{sides_of}
use Rattle.lane_laws.specs.ChannelEnds.{core_of}
use Rattle.lane_laws.proofs.WorkNumbers.{Grounded, order_of}
use Rattle.lane_laws.proofs.LaneViews.{at_client, at_server}

-- TWO ENDS AT REST: resting is the next step of each
pub record BothRest (s : LaneState) : Type 0 where
  pub client : client_rules.client_rule s.client (at_client s) ≡ client_rules.Idles
  pub server : server_rules.server_rule s.server (at_server s) ≡ server_rules.Idles

both_quiet : (s : LaneState) (transcript : TranscriptLog) → BothRest s → s.wire.lossy ≡ false → core.BothRest (sides_of (core_of s) transcript)
both_quiet s transcript rest whole =
    let client : ClientIdles s.client (at_client s) = client_idles s.client (at_client s) rest.client in
    let server : ServerIdles s.server (at_server s) = server_idles s.server (at_server s) rest.server in
    record {
      whole = whole;
      up = subst (ClientMay s.client (at_client s)) rest.client (client_may s.client (at_client s));
      peer_up = subst (ServerMay s.server (at_server s)) rest.server (server_may s.server (at_server s));
      waits = none_waits s.wire.wire.to_a client.rests.first;
      peer_waits = none_waits s.wire.wire.to_b server.first;
      quiet = client.rests.free;
      peer_quiet = server.free;
      owed = client.rests.owed;
      peer_owed = server.owed;
    }

-- an open session is one
pub some_is : {X : Type 0} (o : Option X) → is_some o ≡ true → (x : X) × (o ≡ Some x)
some_is {X} None now = absurd (cc now)
some_is {X} (Some x) now = (x, refl)

-- THE COUNTS of both sessions are one
finished_all : (s : LaneState) (l : DiskLog) → Grounded s l → BothRest s → HeardAll (sides_of (core_of s) l.transcript) → is_some s.client.session ≡ true → is_some s.server.session ≡ true → IsLogAtRest l
finished_all s l grounded rest all client_open server_open =
    let c = some_is s.client.session client_open in
    let v = some_is s.server.session server_open in
    let client = grounded.knows.counted.client in
    let server = grounded.knows.counted.server in
    let k : OfClient c.0 l.work.done l.work.client = of_client s.client.session c.0 l.work.done l.work.client c.1 client.agrees in
    let d : OfServer v.0 s.server.work l.work.server = of_server s.server.session v.0 s.server.work l.work.server v.1 server.agrees in
    let order = order_of l.shape.slots s.server.session v.0 l.work.server d.counts l.transcript.b v.1 d.is server.order in
    let idle_c : ClientIsIdle l k.counts = subst (λ (o : Option ClientCounts). IfClient o (ClientIsIdle l)) k.is (idle_client s l grounded (client_idles s.client (at_client s) rest.client)) in
    let idle_v : ServerIsIdle d.counts = subst (λ (o : Option ServerCounts). IfServer o ServerIsIdle) d.is (idle_server s l grounded (server_idles s.server (at_server s) rest.server)) in
    let announced : c.0.announced ≡ range_sum l.shape.slots 1 (said l.transcript.a) = sym (ap announced_of c.1) ∙ client.announced in
    let acked : c.0.acked ≡ range_sum l.shape.slots 2 (heard l.transcript.a) = sym (ap acked_of c.1) ∙ client.acked in
    let asked : d.counts.asked ≡ c.0.announced = order.asked ∙ ap (range_sum l.shape.slots 1) (sym all.to_theirs) ∙ sym announced in
    let answered : d.counts.answered ≡ c.0.acked = order.answered ∙ ap (range_sum l.shape.slots 2) all.to_mine ∙ sym acked in
    record {
      finished = omega (arith, idle_c.completed, idle_c.published, idle_c.announced, idle_v.fetched, idle_v.answered, asked, answered, k.agree.announced, k.agree.acked);
      client_open = λ none. none_is_some (sym none ∙ k.is);
      server_open = λ none. none_is_some (sym none ∙ d.is);
    }

-- THE LAW of two ends at rest
pub record Finished (s : LaneState) (l : DiskLog) : Type 0 where
  pub at_rest : IsLogAtRest l
  pub client : is_some s.client.session ≡ true
  pub server : is_some s.server.session ≡ true

pub quiet_ends : (shape : Shape) (events : List DiskEvent) (s : LaneState) → IsShape shape → Run LaneStep (fresh shape) events s → s.wire.forged ≡ false → s.wire.lossy ≡ false
    → Grounded s (log_of after (nothing_yet shape) events) → BothRest s → Finished s (log_of after (nothing_yet shape) events)
quiet_ends shape events s sound run clean whole grounded rest =
    let l = log_of after (nothing_yet shape) events in
    let quiet = both_quiet s l.transcript rest whole in
    let on = lane_meets shape events s sound run clean in
    let sides = sides_of (core_of s) l.transcript in
    let opened = rests_open (asks_of shape) (answers_of shape) sides on.stand on.meets quiet in
    record {
      at_rest = finished_all s l grounded rest (heard_all sides quiet on.meets.converse on.meets.links) opened.0 opened.1;
      client = opened.0;
      server = opened.1;
    }
