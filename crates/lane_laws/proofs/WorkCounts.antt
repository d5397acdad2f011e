-- Each other event of a lane leaves the near counts standing to the log.
use Rattle.std.proofs.Common.{◌≡◌, ℕ, ◌+◌, ◌-◌, ◌<◌, ◌≤◌, ◌⊎◌, Option, Some, None, List, inl, inr, refl, sym, ap, ◌∙◌, subst, arith}
use Rattle.std.specs.Prelude.{max}
use Rattle.std.proofs.lemmas.Option.{slice_get_within}
use Rattle.ldc_queue.specs.declared.end.ChannelState.{ChannelState}
use Rattle.ldc_queue.specs.declared.end.ChannelState.TheVariants.{Up}
use Rattle.ldc_queue.specs.declared.end.End.TheVariants.{A}
use Rattle.ldc_queue.specs.Wire.{Wire}
use Rattle.lane_models.specs.WireLog.{WireLog}
use Rattle.lane_models.proofs.Apart.{some_same}
use Rattle.lane_laws.specs.DiskLog.{DiskLog, after}
use Rattle.lane_laws.specs.RingLog.{Done as IsDone}
use Rattle.lane_laws.specs.WorkLaws.{IfServer}
use Rattle.lane_laws.specs.WorkLog.{ClientCounts, ServerCounts, change_server}
use Rattle.lane_models.specs.ClientRule as client_rules
use Rattle.lane_models.specs.ClientState.{ClientSession, ClientState}
use Rattle.lane_models.specs.DiskEvent.{Admitted, Asks, Calm, Desc, DiskEvent, Done, Finished, Misplaced, Moved, Published, Calms, Stored, Switched, Switches, Worked, Works}
use Rattle.lane_models.specs.LaneState.{LaneState, NearCounts}
use Rattle.lane_models.specs.LaneStep.{LaneStep, CalmStep, SwitchedStep, WorkStep}
use Rattle.lane_models.specs.Seeing.{seen}
use Rattle.lane_laws.proofs.RingClientSteps.{completes_slot, in_order, publishing, since_base}
use Rattle.lane_laws.proofs.RingSessions.{of_client}
use Rattle.lane_laws.proofs.RingWork.{some_slots, turn_in}
use Rattle.lane_laws.proofs.Ruling.{client_may, server_may}
use Rattle.lane_laws.proofs.SlotsOrdered.{finished_more}
use Rattle.lane_laws.specs.RuleFacts.{ClientMay}
use Rattle.lane_laws.specs.SlotsInOrder.{ServerAt, SlotsIn}
use Rattle.lane_laws.proofs.LiveCounts.{KIs, counts_while, kis_client, kis_server}
use Rattle.lane_laws.proofs.PlacedViews.{IsLive, live, live_or_not, placed}
use Rattle.lane_laws.proofs.Standing.{Before, NearStands, ever_count}
use Rattle.lane_laws.proofs.LaneViews.{calm_same}

-- THE SERVER'S WORK but for the end: what is finished stays, and so does the client
by_server : (s : LaneState) (l : DiskLog) (event : DiskEvent) (t : LaneState) (g : ServerCounts → ServerCounts) → Before s l → (after l event).wire ≡ l.wire → (after l event).work.client ≡ l.work.client
    → (after l event).work.done ≡ l.work.done → (after l event).work.server ≡ change_server g l.work.server → ((d : ServerCounts) → (g d).finished ≡ d.finished) → t.client ≡ s.client
    → t.near.k ≡ s.near.k → t.near.m ≡ s.near.m → NearStands t (after l event)
by_server s l event t g before wire client done server same client_same k m = grind (arith, kis_server)

-- A REQUEST IS PUBLISHED
published_near : (s : LaneState) (l : DiskLog) (id : ℕ) (t : LaneState) → Before s l → WorkStep s (Published id) t → NearStands t (after l (Works (Published id)))
published_near s l id t before step =
    let at = seen A s.shape.entries s.wire.wire in
    let p = step.step in
    let may : ClientMay s.client at (client_rules.Publishes p.session p.request) = subst (ClientMay s.client at) p.rule (client_may s.client at) in
    let of_k = of_client s l p.session may.1 before.known.agree in
    let new = publishing s l id p.session p.request before.known may.1 of_k p.id_is may.2 in
    let within = slice_get_within l.work.issued id p.request new.accepted in
    let ever : t.client.ever_published ≡ max s.client.ever_published (id + 1) = ap (λ (c : ClientState). c.ever_published) p.is in
    let next : t.client.next_id ≡ s.client.next_id = ap (λ (c : ClientState). c.next_id) p.is in
    let session : t.client.session ≡ Some (record p.session { published = p.session.published + 1 }) = ap (λ (c : ClientState). c.session) p.is in
    let near : t.near ≡ s.near = ap (λ (x : LaneState). x.near) step.is in
    let k : t.near.k ≡ s.near.k = ap (λ (x : NearCounts). x.k) near in
    let m : t.near.m ≡ s.near.m = ap (λ (x : NearCounts). x.m) near in
    let few = before.near.m in
    let first = before.near.ever.done_first in
    let most = before.near.ever.most in
    let issued = before.known.stands.requests.next in
    let id_is = p.id_is in
    record {
      k = subst (λ (j : ℕ). KIs (counts_while l.wire.wire.end_b l.work.server) (after l (Works (Published id))).work.client l.work.done j) (sym k)
          (kis_client (counts_while l.wire.wire.end_b l.work.server) _ l.work.client l.work.done s.near.k (λ c. refl) before.near.k);
      m = omega (arith, few, m, ever);
      ever = record {
        done_first = omega (arith, first, ever);
        most = omega (arith, most, ever, next, within, issued);
        session = λ other is.
            let both : Some (record p.session { published = p.session.published + 1 }) ≡ Some other = sym session ∙ is in
            let same : record p.session { published = p.session.published + 1 } ≡ other = some_same both in
            subst (λ (x : ClientSession). x.base + x.published ≤ t.client.ever_published) same (omega (arith, ever, id_is));
      };
    }

-- THE FIRST IS DONE: the server finished it
rests_zero : (w : Wire) (server : Option ServerCounts) (finished descs : ℕ) → ServerAt w server finished descs → w.end_a ≡ Up → counts_while w.end_b server ≡ None → finished ≡ 0
rests_zero w server finished descs at up none = (at.rests up (λ b. let now : counts_while Up server ≡ None = subst (λ (x : ChannelState). counts_while x server ≡ None) b none in now)).0

if_some : (server : Option ServerCounts) (d : ServerCounts) (finished descs : ℕ) → server ≡ Some d → IfServer server (λ x. (finished ≡ x.finished) × (descs ≡ x.descs)) → finished ≡ d.finished
if_some server d finished descs is holds = grind arith

in_ring : (done base slots : ℕ) → base ≤ done → 1 ≤ slots → base + (done - base) < done + slots
in_ring done base slots based some = omega arith

pub completed_some : (s : LaneState) (l : DiskLog) (id operation status : ℕ) (bytes : List ℕ) (t : LaneState) → Before s l → WorkStep s (Done id operation status bytes) t → 1 ≤ s.near.k
completed_some s l id operation status bytes t before step =
    let at = seen A s.shape.entries s.wire.wire in
    let found = completes_slot s l id operation status bytes t before.known step in
    let k = found.0 in
    let n = l.shape.slots in
    let some = some_slots s l before.known in
    let turn = turn_in s l k before.known found.1.open_is in
    let here : SlotsIn n l.work l.wire.wire l.ring (Some k) = subst (SlotsIn n l.work l.wire.wire l.ring) found.1.open_is before.order in
    let first = here.2.each (l.work.done - k.base) (IsDone id status) (since_base l.work.done k.base turn.based) (in_ring l.work.done k.base n turn.based some) found.1.done_is in
    let less : l.work.done - k.base < here.0 =
    finished_more k.base k.announced k.published here.0 here.1 (l.work.done - k.base) id status (IsDone id status) refl first in
    let may : ClientMay s.client at (client_rules.Completes step.step.session) = subst (ClientMay s.client at) step.step.rule (client_may s.client at) in
    let up : l.wire.wire.end_a ≡ Up = subst (λ (w : WireLog). w.wire.end_a ≡ Up) before.known.stands.wire may.0 in
    by_live k here.0 here.1 less found.1.open_is here.3 up (live_or_not l.wire.wire.end_b l.work.server)
  where
    by_live : (k : ClientCounts) (finished descs : ℕ) → l.work.done - k.base < finished → l.work.client ≡ Some k → ServerAt l.wire.wire l.work.server finished descs → l.wire.wire.end_a ≡ Up
        → (counts_while l.wire.wire.end_b l.work.server ≡ None) ⊎ IsLive l.wire.wire.end_b l.work.server → 1 ≤ s.near.k
    by_live k finished descs less open_is at up (inl none) =
        let zero = rests_zero l.wire.wire l.work.server finished descs at up none in absurd (omega (arith, less, zero))
    by_live k finished descs less open_is at up (inr is) =
        let on = live s l is.counts before is.up is.there in
        let counts = if_some l.work.server is.counts finished descs is.there (at.works is.up) in
        let two : Some k ≡ Some on.one.client = sym open_is ∙ on.one.open_is in
        let one : k ≡ on.one.client = some_same two in
        let base : k.base ≡ on.one.client.base = ap (λ (c : ClientCounts). c.base) one in
        let number = on.number in
        let turn = turn_in s l k before.known open_is in
        omega (arith, less, counts, base, number, turn.based)

done_k : (q : Option ServerCounts) (o : Option ClientCounts) (done k : ℕ) → 1 ≤ k → KIs q o done k → KIs q o (done + 1) (k - 1)
done_k q o done k some is = grind arith

completed_near : (s : LaneState) (l : DiskLog) (id operation status : ℕ) (bytes : List ℕ) (t : LaneState) → Before s l → WorkStep s (Done id operation status bytes) t
    → NearStands t (after l (Works (Done id operation status bytes)))
completed_near s l id operation status bytes t before step =
    let at = seen A s.shape.entries s.wire.wire in
    let c = step.step in
    let some = completed_some s l id operation status bytes t before step in
    let may : ClientMay s.client at (client_rules.Completes c.session) = subst (ClientMay s.client at) c.rule (client_may s.client at) in
    let of_k = of_client s l c.session may.1 before.known.agree in
    let order = in_order s l c.session before.known may.1 in
    let ever : t.client.ever_published ≡ s.client.ever_published = ap (λ (x : ClientState). x.ever_published) c.is in
    let next : t.client.next_id ≡ s.client.next_id = ap (λ (x : ClientState). x.next_id) c.is in
    let session : t.client.session ≡ Some (record c.session { completed = c.session.completed + 1 }) = ap (λ (x : ClientState). x.session) c.is in
    let near : t.near ≡ record { k = s.near.k - 1; m = s.near.m - 1; u = s.near.u } = ap (λ (x : LaneState). x.near) step.is in
    let k : t.near.k ≡ s.near.k - 1 = ap (λ (x : NearCounts). x.k) near in
    let m : t.near.m ≡ s.near.m - 1 = ap (λ (x : NearCounts). x.m) near in
    let few = before.near.m in
    let most = before.near.ever.most in
    let published = before.near.ever.session c.session may.1 in
    let more = may.2 in
    let acked = order.acked in
    let announced = order.announced in
    let done = of_k.agree.completed in
    let base = of_k.agree.base in
    record {
      k = subst (λ (j : ℕ). KIs (counts_while l.wire.wire.end_b l.work.server) l.work.client (l.work.done + 1) j) (sym k)
          (done_k (counts_while l.wire.wire.end_b l.work.server) l.work.client l.work.done s.near.k some before.near.k);
      m = omega (arith, few, m, ever);
      ever = record {
        done_first = omega (arith, ever, published, more, acked, announced, done, base);
        most = omega (arith, most, ever, next);
        session = λ other is.
            let both : Some (record c.session { completed = c.session.completed + 1 }) ≡ Some other = sym session ∙ is in
            let same : record c.session { completed = c.session.completed + 1 } ≡ other = some_same both in
            subst (λ (x : ClientSession). x.base + x.published ≤ t.client.ever_published) same (omega (arith, ever, published));
      };
    }

-- A DESCRIPTOR GETS ITS STATUS
finished_near : (s : LaneState) (l : DiskLog) (slot status : ℕ) (t : LaneState) → Before s l → WorkStep s (Finished slot status) t → NearStands t (after l (Works (Finished slot status)))
finished_near s l slot status t before step = grind (arith, server_may, placed)

pub near_work : (s : LaneState) (l : DiskLog) (event : Worked) (t : LaneState) → Before s l → WorkStep s event t → NearStands t (after l (Works event))
near_work s l (Published id) t before step = published_near s l id t before step
near_work s l (Done id operation status bytes) t before step = completed_near s l id operation status bytes t before step
near_work s l (Desc slot bytes) t before step =
    by_server s l (Works (Desc slot bytes)) t _ before refl refl refl refl (λ d. refl) (ap (λ (x : LaneState). x.client) step.1.is) (ap (λ (x : LaneState). x.near.k) step.1.is) (ap (λ (x : LaneState). x.near.m) step.1.is)
near_work s l (Moved unit fault) t before step =
    by_server s l (Works (Moved unit fault)) t _ before refl refl refl refl (λ d. refl) (ap (λ (x : LaneState). x.client) step.1.is) (ap (λ (x : LaneState). x.near.k) step.1.is) (ap (λ (x : LaneState). x.near.m) step.1.is)
near_work s l (Stored operation block count failed) t before step =
    by_server s l (Works (Stored operation block count failed)) t _ before refl refl refl refl (λ d. refl) (ap (λ (x : LaneState). x.client) step.1.is) (ap (λ (x : LaneState). x.near.k) step.1.is)
    (ap (λ (x : LaneState). x.near.m) step.1.is)
near_work s l (Finished slot status) t before step = finished_near s l slot status t before step
near_work s l Misplaced t before step = absurd step

-- REQUESTS, turns, and what changes nothing
same_near : (s t : LaneState) (l n : DiskLog) → Before s l → t ≡ s → n.wire.wire ≡ l.wire.wire → n.work.server ≡ l.work.server → n.work.client ≡ l.work.client → n.work.done ≡ l.work.done → NearStands t n
same_near s t l n before is wire server client done = grind arith

pub near_asked : (s : LaneState) (l : DiskLog) (event : Admitted) (t : LaneState) → Before s l → LaneStep s (Asks event) t → NearStands t (after l (Asks event))
near_asked s l event t before step = grind arith

pub near_turned : (s : LaneState) (l : DiskLog) (event : Switched) (t : LaneState) → Before s l → SwitchedStep s event t → NearStands t (after l (Switches event))
near_turned s l event t before step = grind (arith, ever_count)

pub near_calm : (s : LaneState) (l : DiskLog) (event : Calm) (t : LaneState) → Before s l → CalmStep s event t → NearStands t (after l (Calms event))
near_calm s l event t before step = same_near s t l (after l (Calms event)) before (calm_same s event t step) refl refl refl refl
