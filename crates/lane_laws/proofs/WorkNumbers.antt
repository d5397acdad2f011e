-- Each event of the work has the number that the log has for it; and what ends a session without a packet has its ground in the ring.
use Rattle.std.proofs.Common.{◌≡◌, ◌≢◌, ℕ, ◌-◌, ◌%◌, ◌<◌, ◌≤◌, Option, Some, None, List, length, sym, ap, ◌∙◌, subst, arith, length-drop}
use Rattle.std.proofs.lemmas.Bool.Decides.{nat_tests}
use Rattle.ldc_queue.specs.Transcript.{Utterance}
use Rattle.lane_laws.specs.DiskLog.{DiskLog}
use Rattle.lane_laws.specs.WorkLaws.{InClient, InServer, MayComplete, MayFetch, MayPublish, WorkNumbersAt}
use Rattle.lane_laws.specs.WorkLog.{ClientCounts, ServerCounts}
use Rattle.lane_models.specs.ClientStep.{ClientCompletes, ClientPublishes}
use Rattle.lane_models.specs.DiskEvent.{Desc, DiskEvent, Done, Misplaced, Published, Works}
use Rattle.lane_models.specs.LaneState.{IsShape, LaneState}
use Rattle.lane_models.specs.LaneStep.{LaneStep, reach}
use Rattle.lane_models.specs.Seeing.{Seen}
use Rattle.lane_laws.specs.Agreement.{WorkAgrees}
use Rattle.lane_models.specs.Ranges.{wrapped}
use Rattle.lane_models.specs.ServerRule as server
use Rattle.lane_models.specs.ServerState.{ServerSession, Work}
use Rattle.lane_models.specs.ServerStep.{ServerFetches}
use Rattle.lane_models.specs.ServerWork.{slot_at}
use Rattle.cookie_copy.specs.Reach.{Reach}
use Rattle.lane_laws.proofs.LaneCounting.{Knows}
use Rattle.lane_laws.specs.Counted.{InServerOrder, ServerOrder}
use Rattle.lane_laws.proofs.Ruling.{client_may}
use Rattle.lane_laws.proofs.RulesFree.{ServerFree, server_free}
use Rattle.lane_laws.proofs.RuleTests.{ServesFree}
use Rattle.lane_laws.proofs.Sharing.{in_order}
use Rattle.lane_laws.specs.RuleFacts.{ClientMay}
use Rattle.lane_laws.specs.Sound.{SessionInOrder}
use Rattle.lane_models.proofs.LinkResets.{other_number}
use Rattle.lane_laws.proofs.Counting.{OfClient, OfServer, of_client, of_server, slot_of_count}
pub use Rattle.lane_laws.proofs.LaneViews.{at_client, at_server}
use Rattle.lane_laws.proofs.Requesting.{got_below}
use Rattle.lane_laws.proofs.ServerPutCounting.{work_most}

-- what is known of a lane whose log has a sound shape
pub record Grounded (s : LaneState) (l : DiskLog) : Type 0 where
  pub knows : Knows s l
  pub sound : IsShape l.shape

pub in_client : (k : Option ClientCounts) (c : ClientCounts) (P : ClientCounts → Type 0) → k ≡ Some c → P c → InClient k P
in_client k c P is holds = subst (λ (o : Option ClientCounts). InClient o P) (sym is) holds

pub in_server : (d : Option ServerCounts) (c : ServerCounts) (P : ServerCounts → Type 0) → d ≡ Some c → P c → InServer d P
in_server d c P is holds = subst (λ (o : Option ServerCounts). InServer o P) (sym is) holds

-- an id that is published
publishes : (s t : LaneState) (l : DiskLog) (at : Seen) (id : ℕ) → Grounded s l → ClientPublishes s.client at s.memory id t.client t.memory → InClient l.work.client (MayPublish l id)
publishes s t l at id grounded step =
    let may = subst (ClientMay s.client at) step.rule (client_may s.client at) in
    let open_one = may.1 in
    let stand = grounded.knows.all.stands.requests in
    let of : OfClient step.session l.work.done l.work.client =
    of_client s.client.session step.session l.work.done l.work.client open_one grounded.knows.counted.client.agrees in
    let order : SessionInOrder (length s.client.pending) step.session =
    in_order (length s.client.pending) s.client.session step.session open_one grounded.knows.all.sound.counts in
    let within = got_below s.client.pending (step.session.published - step.session.completed) step.request may.2 in
    in_client l.work.client of.counts (MayPublish l id) of.is (record {
      next = omega (arith, step.id_is, of.agree.base, of.agree.published);
      accepted = omega (arith, step.id_is, within, ap length stand.pending, length-drop l.work.done l.work.issued, stand.done, of.agree.completed, of.agree.base, order.completed, order.acked, order.announced);
      pending = omega (arith, step.id_is, of.agree.completed, of.agree.base, order.completed, order.acked, order.announced);
    })

-- one that is done
completes : (s t : LaneState) (l : DiskLog) (at : Seen) (id operation status : ℕ) (bytes : List ℕ) → Grounded s l
    → ClientCompletes s.client at s.memory id operation status bytes t.client t.memory → InClient l.work.client (MayComplete id)
completes s t l at id operation status bytes grounded step = grind (arith, client_may)

pub order_of : (slots : ℕ) (o : Option ServerSession) (session : ServerSession) (d : Option ServerCounts) (c : ServerCounts) (turns : List Utterance) → o ≡ Some session → d ≡ Some c
    → ServerOrder slots o d turns → InServerOrder slots session c turns
order_of slots o session d c turns is has order =
    subst (λ (x : Option ServerCounts). ServerOrder slots (Some session) x turns) has (subst (λ (x : Option ServerSession). ServerOrder slots x d turns) is order)

pub record Serving (s : LaneState) (l : DiskLog) (session : ServerSession) : Type 0 where
  pub of : OfServer session s.server.work l.work.server
  pub order : InServerOrder l.shape.slots session of.counts l.transcript.b
  pub finished : of.counts.finished ≤ of.counts.asked
  pub unfinished : of.counts.finished ≢ of.counts.asked

pub serving : (s : LaneState) (l : DiskLog) (session : ServerSession) → Grounded s l → ServesFree s.server session → Serving s l session
serving s l session grounded free =
    let of : OfServer session s.server.work l.work.server =
    of_server s.server.session session s.server.work l.work.server free.session_is grounded.knows.counted.server.agrees in
    let order : InServerOrder l.shape.slots session of.counts l.transcript.b =
    order_of l.shape.slots s.server.session session l.work.server of.counts l.transcript.b free.session_is of.is grounded.knows.counted.server.order in
    record {
      of = of;
      order = order;
      finished = omega (arith, work_most s.server.work of.counts of.work_agrees, order.descs);
      unfinished = λ same. other_number session.finished session.asked free.unfinished (of.agree.finished ∙ ap wrapped same ∙ sym of.agree.asked);
    }

pub slot_in_log : (s : LaneState) (l : DiskLog) (session : ServerSession) (count number : ℕ) → Grounded s l → s.server.session ≡ Some session → count ≡ wrapped number
    → count % s.server.handshake.draft.peer_slots ≡ number % l.shape.slots
slot_in_log s l session count number grounded is wraps = grind (arith, slot_of_count)

pub fetches_next : (s : LaneState) (l : DiskLog) (session : ServerSession) → Grounded s l → ServerFree s.server (server.Fetches session) → (now : Serving s l session)
    → MayFetch l (slot_at s.server session.descs) now.of.counts
fetches_next s l session grounded free now =
    let idle : WorkAgrees None now.of.counts = subst (λ (w : Option Work). WorkAgrees w now.of.counts) free.1 now.of.work_agrees in
    record {
      nothing_owed = idle.0;
      next = slot_in_log s l session session.descs now.of.counts.descs grounded free.0.session_is now.of.agree.descs;
      asked = below now.of.counts.descs now.of.counts.asked now.order.descs (λ same. now.unfinished (sym idle.1 ∙ same));
    }
  where
    below : (a b : ℕ) → a ≤ b → a ≢ b → a < b
    below a b most other = grind (arith, nat_tests, most, other)

fetches : (s t : LaneState) (l : DiskLog) (at : Seen) (reached : Reach) (slot : ℕ) (bytes : List ℕ) → Grounded s l
    → ServerFetches s.server at reached slot bytes t.server t.memory → InServer l.work.server (MayFetch l slot)
fetches s t l at reached slot bytes grounded step =
    let free : ServerFree s.server (server.Fetches step.session) = subst (ServerFree s.server) step.rule (server_free s.server at) in
    let now : Serving s l step.session = serving s l step.session grounded free.0 in
    in_server l.work.server now.of.counts (MayFetch l slot) now.of.is
    (subst (λ (n : ℕ). MayFetch l n now.of.counts) (sym step.slot_is) (fetches_next s l step.session grounded free now))

pub numbers_at : (s : LaneState) (l : DiskLog) (event : DiskEvent) (t : LaneState) → Grounded s l → LaneStep s event t → WorkNumbersAt l event
numbers_at s l (Works (Published id)) t grounded step = publishes s t l (at_client s) id grounded step.step
numbers_at s l (Works (Done id operation status bytes)) t grounded step = completes s t l (at_client s) id operation status bytes grounded step.step
numbers_at s l (Works (Desc slot bytes)) t grounded step = fetches s t l (at_server s) (reach s (at_server s).both) slot bytes grounded step.1.step.1.0
numbers_at s l (Works Misplaced) t grounded step = absurd step
numbers_at s l _ t grounded step = tt
