-- An end that rests has nothing to do, as the log counts it.
use Rattle.std.proofs.Common.{◌≡◌, ℕ, zero, suc, ◌-◌, ◌≤◌, false, Option, Some, None, List, [], ◌∷◌, length, sym, ap, ◌∙◌, subst, arith, length-drop}
use Rattle.std.specs.Prelude.{nat_lt, slice_get}
use Rattle.std.proofs.lemmas.Bool.Decides.{nat_tests}
use Rattle.ldc_queue.specs.declared.end.End.{End}
use Rattle.ldc_queue.specs.declared.end.End.TheVariants.{A, B}
use Rattle.ldc_queue.specs.Wire.{waiting_for}
use Rattle.vdisk_msg.specs.declared.request.Request.{Request}
use Rattle.lane_models.specs.WireEvent.{Idle}
use Rattle.lane_models.specs.WireLog.{WireLog}
use Rattle.lane_models.proofs.Apart.{some_same}
use Rattle.lane_models.proofs.EndsAtRest.{none_waits}
use Rattle.lane_laws.specs.Agreement.{ClientAgrees}
use Rattle.lane_laws.specs.DiskLog.{DiskLog}
use Rattle.lane_laws.specs.QuietLaws.{ClientIsIdle, EndIsIdle, IdleAt, ServerIsIdle}
use Rattle.lane_laws.specs.WorkLaws.{IfClient, IfServer}
use Rattle.lane_laws.specs.WorkLog.{ClientCounts}
use Rattle.lane_models.specs.ClientState.{ClientSession}
use Rattle.lane_models.specs.DiskEvent.{DiskEvent, OnWire}
use Rattle.lane_models.specs.LaneState.{LaneState}
use Rattle.lane_models.specs.LaneStep.{EndOnWire, LaneStep}
use Rattle.lane_laws.proofs.Sharing.{in_order}
use Rattle.lane_laws.specs.Sound.{SessionInOrder}
use Rattle.lane_laws.proofs.Counting.{of_client}
use Rattle.lane_laws.proofs.IdleRules.{ServerIdles, client_idles, server_idles}
use Rattle.lane_laws.proofs.RuleTests.{ClientIdles}
use Rattle.lane_laws.proofs.WorkNumbers.{Grounded}
use Rattle.lane_laws.proofs.LaneViews.{at_client, at_server}

pub not_below : (a b : ℕ) → nat_lt a b ≡ false → b ≤ a
not_below a b test = grind (arith, nat_tests, test)

pub past_all : (requests : List Request) (n : ℕ) → slice_get requests n ≡ None → length requests ≤ n
past_all [] n none = omega arith
past_all (one ∷ requests) zero none = absurd (cc)
past_all (one ∷ requests) (suc n) none = omega (arith, past_all requests n none)

-- the session of the log is the state's
pub some_client : (o : Option ClientSession) (done : ℕ) (k : Option ClientCounts) (P : ClientCounts → Type 0) → ClientAgrees o done k
    → ((session : ClientSession) (c : ClientCounts) → o ≡ Some session → k ≡ Some c → P c) → IfClient k P
some_client o done k P agrees holds = grind arith

pub idle_client : (s : LaneState) (l : DiskLog) → Grounded s l → ClientIdles s.client (at_client s) → IfClient l.work.client (ClientIsIdle l)
idle_client s l grounded idles =
    some_client s.client.session l.work.done l.work.client (ClientIsIdle l) grounded.knows.counted.client.agrees (λ session c is has.
    let of = of_client s.client.session session l.work.done l.work.client is grounded.knows.counted.client.agrees in
    let both : Some of.counts ≡ Some c = sym of.is ∙ has in
    let same : of.counts ≡ c = some_same both in
    let order : SessionInOrder (length s.client.pending) session =
    in_order (length s.client.pending) s.client.session session is grounded.knows.all.sound.counts in
    let stand = grounded.knows.all.stands.requests in
    let acked = not_below session.completed session.acked (idles.rests.completed session is) in
    let has_done = idles.session session is in
    let announced = not_below session.announced session.published has_done.announced in
    let published = past_all s.client.pending (session.published - session.completed) has_done.published in
    subst (ClientIsIdle l) same (record {
      published = omega (arith, of.agree.base, of.agree.published, of.agree.completed, published, order.published, order.completed, order.acked, order.announced, ap length stand.pending, length-drop l.work.done l.work.issued, stand.done);
      announced = omega (arith, of.agree.announced, of.agree.published, announced, order.announced);
      completed = omega (arith, of.agree.completed, of.agree.acked, acked, order.completed);
    }))

-- a server without a range has finished and answered all
pub idle_server : (s : LaneState) (l : DiskLog) → Grounded s l → ServerIdles s.server (at_server s) → IfServer l.work.server ServerIsIdle
idle_server s l grounded idles = grind arith

pub same_waiting : (e : End) (s : LaneState) (l : DiskLog) → Grounded s l → waiting_for e s.wire.wire ≡ [] → waiting_for e l.wire.wire ≡ []
same_waiting e s l grounded none = ap (λ (w : WireLog). waiting_for e w.wire) (sym grounded.knows.all.stands.wire) ∙ none

idle_end : (e : End) (s : LaneState) (l : DiskLog) (t : LaneState) → Grounded s l → EndOnWire e s (Idle e) t → (waiting_for e l.wire.wire ≡ []) × EndIsIdle e l
idle_end A s l t grounded step =
    let idles = client_idles s.client (at_client s) step.step.0 in
    (same_waiting A s l grounded (none_waits (waiting_for A s.wire.wire) idles.rests.first), idle_client s l grounded idles)
idle_end B s l t grounded step =
    let idles = server_idles s.server (at_server s) step.1.step.1.0 in
    (same_waiting B s l grounded (none_waits (waiting_for B s.wire.wire) idles.first), idle_server s l grounded idles)

pub idle_at : (s : LaneState) (l : DiskLog) (event : DiskEvent) (t : LaneState) → Grounded s l → LaneStep s event t → IdleAt l event
idle_at s l (OnWire (Idle e)) t grounded step = idle_end e s l t grounded step
idle_at s l _ t grounded step = tt
