-- What a request that is published or done, and a descriptor that gets its status, are to a lane's view.
use Rattle.std.proofs.Common.{◌≡◌, ℕ, ◌+◌, ◌-◌, ◌*◌, ◌%◌, ◌^◌, ◌<◌, ◌≤◌, Some, None, List, [], ◌∷◌, drop, length, refl, sym, ap, ◌∙◌, subst, arith}
use Rattle.std.specs.Prelude.{slice_get}
use Rattle.std.proofs.lemmas.Nat.{mod_below}
use Rattle.ldc_queue.specs.declared.end.End.TheVariants.{A, B}
use Rattle.vdisk_msg.proofs.Written.{is_admitted}
use Rattle.vdisk_msg.specs.declared.request.Request.{Request}
use Rattle.lane_models.proofs.Apart.{some_same}
use Rattle.lane_laws.specs.DiskLog.{DiskLog}
use Rattle.lane_models.specs.ClientRule as client_rules
use Rattle.lane_models.specs.ClientState.{ClientState}
use Rattle.lane_models.specs.ClientStep.{completed_slot}
use Rattle.lane_models.specs.DiskEvent.{Done, Finished, Published as PublishedEvent, Works}
use Rattle.lane_models.specs.LaneState.{LaneState, NearCounts, pages_of, risen}
use Rattle.lane_models.specs.LaneStep.{WorkStep, reach}
use Rattle.lane_models.specs.Seeing.{seen}
use Rattle.lane_models.specs.ServerRule as server_rules
use Rattle.lane_models.specs.ServerState.{ServerState}
use Rattle.lane_models.specs.ServerWork.{with_done}
use Rattle.lane_laws.proofs.MemorySteps.{got_sound}
use Rattle.lane_laws.proofs.RingEnds.{work_below}
use Rattle.lane_laws.proofs.RingWork.{at_work, numbered}
use Rattle.lane_laws.proofs.StandingRuns.{slots_is as slots_are}
use Rattle.lane_laws.proofs.Ruling.{client_may, server_may}
use Rattle.lane_laws.specs.RingAgreed.{ring_in}
use Rattle.lane_laws.specs.RingSlots.{HoldsIssued}
use Rattle.lane_laws.specs.RuleFacts.{ClientMay, ServerMay}
use Rattle.lane_laws.specs.LaneView.{view_of, work_while}
use Rattle.lane_laws.proofs.BehindRing.{ended_behind, freed_behind, published_behind, ring_end}
use Rattle.lane_laws.proofs.Changes.{Completed, Ended, Published, filled}
use Rattle.lane_laws.proofs.PlacedViews.{placed}
use Rattle.lane_laws.proofs.ServerChanges.{serves_now, server_view}
use Rattle.lane_laws.proofs.Standing.{Before}
use Rattle.lane_laws.proofs.WireChanges.{Changed, view_is}
use Rattle.lane_laws.proofs.WorkCounts.{completed_some}

-- A REQUEST IS PUBLISHED
pub published_changes : (s : LaneState) (l : DiskLog) (id : ℕ) (t : LaneState) → Before s l → WorkStep s (PublishedEvent id) t → Changed s (Works (PublishedEvent id)) t
published_changes s l id t before step =
    let at = seen A s.shape.entries s.wire.wire in
    let p = step.step in
    let may : ClientMay s.client at (client_rules.Publishes p.session p.request) = subst (ClientMay s.client at) p.rule (client_may s.client at) in
    let n = s.client.slots in
    let slot = p.session.published % n in
    let below = mod_below p.session.published n before.known.memory.some in
    let small = (is_admitted s.client.blocks p.request (got_sound s.client.blocks s.client.pending (p.session.published - p.session.completed) p.request before.known.memory.sound may.2)).most in
    let behind : drop (ring_end n) t.memory ≡ filled p.request (32768 * slot) (view_of s).buffers =
    ap (drop (ring_end n)) p.written_is ∙ published_behind p.request n slot id s.memory small below before.known.memory.long in
    let near : t.near ≡ s.near = ap (λ (x : LaneState). x.near) step.is in
    let slots : t.client.slots ≡ n = ap (λ (c : ClientState). c.slots) p.is in
    record {
      kind = Published;
      change = record {
        session = p.session;
        request = p.request;
        there = may.1;
        next = may.2;
        is =
            view_is (view_of t) s.client.pending n (Some (record p.session { published = p.session.published + 1 })) (work_while s.wire.wire.end_b s.server.work) s.near.k s.near.m s.near.u
            (filled p.request (32768 * slot) (view_of s).buffers) (ap (λ (c : ClientState). c.pending) p.is) slots (ap (λ (c : ClientState). c.session) p.is)
            (ap (λ (x : LaneState). work_while x.wire.wire.end_b x.server.work) step.is) (ap (λ (x : NearCounts). x.k) near) (ap (λ (x : NearCounts). x.m) near) (ap (λ (x : NearCounts). x.u) near)
            (ap (λ (m : ℕ). drop (ring_end m) t.memory) slots ∙ behind);
      };
      still = λ image next same. same;
      content = λ content. refl;
    }

-- THE FIRST IS DONE
pub front_split : (pending : List Request) (request : Request) → slice_get pending 0 ≡ Some request → pending ≡ request ∷ drop 1 pending
front_split [] request is = absurd (cc is)
front_split (first ∷ pending) request is = let same : first ≡ request = some_same is in ap (λ (r : Request). r ∷ pending) same

pub done_changes : (s : LaneState) (l : DiskLog) (id operation status : ℕ) (bytes : List ℕ) (t : LaneState) → Before s l → WorkStep s (Done id operation status bytes) t
    → Changed s (Works (Done id operation status bytes)) t
done_changes s l id operation status bytes t before step =
    let at = seen A s.shape.entries s.wire.wire in
    let c = step.step in
    let may : ClientMay s.client at (client_rules.Completes c.session) = subst (ClientMay s.client at) c.rule (client_may s.client at) in
    let n = s.client.slots in
    let slot = completed_slot s.client c.session in
    let below = mod_below c.session.completed n before.known.memory.some in
    let behind : drop (ring_end n) t.memory ≡ (view_of s).buffers = ap (drop (ring_end n)) c.freed ∙ freed_behind n slot s.memory below before.known.memory.long in
    let near : t.near ≡ record { k = s.near.k - 1; m = s.near.m - 1; u = s.near.u } = ap (λ (x : LaneState). x.near) step.is in
    let slots : t.client.slots ≡ n = ap (λ (x : ClientState). x.slots) c.is in
    record {
      kind = Completed;
      change = record {
        session = c.session;
        request = c.request;
        behind = drop 1 s.client.pending;
        there = may.1;
        front = front_split s.client.pending c.request c.front;
        finished = completed_some s l id operation status bytes t before step;
        is =
            view_is (view_of t) (drop 1 s.client.pending) n (Some (record c.session { completed = c.session.completed + 1 })) (work_while s.wire.wire.end_b s.server.work) (s.near.k - 1) (s.near.m - 1) s.near.u
            (view_of s).buffers (ap (λ (x : ClientState). x.pending) c.is) slots (ap (λ (x : ClientState). x.session) c.is) (ap (λ (x : LaneState). work_while x.wire.wire.end_b x.server.work) step.is)
            (ap (λ (x : NearCounts). x.k) near) (ap (λ (x : NearCounts). x.m) near) (ap (λ (x : NearCounts). x.u) near) (ap (λ (m : ℕ). drop (ring_end m) t.memory) slots ∙ behind);
      };
      still = λ image next same. same;
      content = λ content. refl;
    }

-- A DESCRIPTOR GETS ITS STATUS
small_finished : (finished same descs asked : ℕ) → finished ≡ same → descs ≡ same + 1 → descs ≤ asked → asked < 2 ^ 64 → finished < 2 ^ 64
small_finished finished same descs asked is single few small = omega arith

pub risen_one : (k now pending slots : ℕ) → now ≡ risen k 1 → k ≤ pending → pending ≤ slots → slots ≤ 256 → now ≡ k + 1
risen_one k now pending slots is few within most = omega arith

pub finished_changes : (s : LaneState) (l : DiskLog) (slot status : ℕ) (t : LaneState) → Before s l → WorkStep s (Finished slot status) t → Changed s (Works (Finished slot status)) t
finished_changes s l slot status t before step =
    let at = seen B s.shape.entries s.wire.wire in
    let known = before.known in
    let r = reach s at.both in
    let f = step.1.step.1.0 in
    let may : ServerMay s.server at (server_rules.Serves f.session f.work) = subst (ServerMay s.server at) f.rule (server_may s.server at) in
    let serves = serves_now s l f.work before may.0 may.2 in
    let on = serves.on in
    let work = at_work s l f.session known may.0 may.1 in
    let d = work.of.counts in
    let single = on.has.one in
    let same_d : on.at.of.counts ≡ d = let two : Some on.at.of.counts ≡ Some d = sym on.at.of.open_is ∙ work.of.open_is in some_same two in
    let slots = slots_are s l known.stands in
    let descs = on.at.one.descs in
    let fits = on.at.one.small in
    let d_finished : d.finished ≡ on.at.of.counts.finished = ap (λ x. x.finished) (sym same_d) in
    let next : slot ≡ d.finished % l.shape.slots = f.slot_is ∙ numbered s l f.session work f.session.finished d.finished known.stands work.of.agree.finished (small_finished d.finished on.at.of.counts.finished on.at.of.counts.descs on.at.of.counts.asked d_finished single descs fits) in
    let place : slot ≡ on.at.of.counts.finished % l.shape.slots = next ∙ ap (λ (m : ℕ). m % l.shape.slots) d_finished in
    let below : slot < l.shape.slots = subst (λ (n : ℕ). n < l.shape.slots) (sym next) (work_below s l d known) in
    let holds : HoldsIssued (ring_in l) slot on.id 2 0 f.work.bytes = subst (λ (j : ℕ). HoldsIssued (ring_in l) j on.id 2 0 f.work.bytes) (sym place) on.holds in
    let new = with_done s.server r slot f.work status in
    let ended = ended_behind (ring_in l) s.server r (pages_of l.shape) slot on.id status f.work (work.reaches at.both) below holds f.status_written f.done_written in
    let behind : drop (ring_end s.client.slots) t.memory ≡ (view_of s).buffers =
    ap (drop (ring_end s.client.slots)) f.written_is ∙ subst (λ (m : ℕ). drop (ring_end m) new ≡ drop (ring_end m) s.memory) (sym slots) ended in
    let near : t.near ≡ record { k = risen s.near.k 1; m = s.near.m; u = 0 } = ap (λ (x : LaneState). x.near) step.1.is in
    let finished = (placed s l before).finished in
    let pending = known.sound.pending in
    let few = known.sound.slots in
    let k_is : t.near.k ≡ risen s.near.k 1 = ap (λ (x : NearCounts). x.k) near in
    let k : t.near.k ≡ s.near.k + 1 = risen_one s.near.k t.near.k (length s.client.pending) s.client.slots k_is finished pending few in
    record {
      kind = Ended;
      change = record {
        session = on.live.session;
        work = f.work;
        status = status;
        request = on.request;
        there = on.live.there;
        now = serves.now;
        ends = f.ends;
        next = on.next;
        is =
            server_view s t None (s.near.k + 1) 0 (view_of s).buffers (ap (λ (x : LaneState). x.client) step.1.is) (ap (λ (x : LaneState). x.wire) step.1.is) may.0 (ap (λ (x : ServerState). x.work) f.is) k
            (ap (λ (x : NearCounts). x.m) near) (ap (λ (x : NearCounts). x.u) near) behind;
      };
      still = λ image other same. same;
      content = λ content. refl;
    }
