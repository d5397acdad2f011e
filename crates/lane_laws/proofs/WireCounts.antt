-- Each event of the wire leaves the near counts standing to the log.
use Rattle.std.proofs.Common.{◌≡◌, ℕ, ◌+◌, ◌-◌, ◌≤◌, true, false, Option, Some, None, List, refl, sym, ap, ◌∙◌, subst, arith}
use Rattle.ldc_queue.specs.declared.end.ChannelState.{ChannelState}
use Rattle.ldc_queue.specs.declared.end.ChannelState.TheVariants.{Up}
use Rattle.ldc_queue.specs.declared.end.End.TheVariants.{A, B}
use Rattle.ldc_queue.specs.Wire.{peer_behind}
use Rattle.lane_models.specs.WireEvent.{Injected, Joined, Lost, Reset, Sent, Took, WireEvent}
use Rattle.lane_models.proofs.Apart.{some_same}
use Rattle.lane_laws.specs.DiskLog.{DiskLog, after}
use Rattle.lane_laws.specs.WorkLaws.{IfServer}
use Rattle.lane_laws.specs.WorkLog.{ClientCounts, ServerCounts}
use Rattle.lane_models.specs.ClientState.{ClientSession, opened_session}
use Rattle.lane_models.specs.DiskEvent.{OnWire}
use Rattle.lane_models.specs.LaneState.{LaneState, NearCounts}
use Rattle.lane_models.specs.LaneStep.{WireStep, near_on_wire}
use Rattle.lane_models.specs.Seeing.{seen}
use Rattle.lane_laws.proofs.RingLeaves.{OpensNot}
use Rattle.lane_laws.proofs.RingWork.{turn_in}
use Rattle.lane_laws.proofs.SlotsStepping.{StepFacts, work_first}
use Rattle.lane_laws.proofs.StandingSteps.{wire_only, wired_keeps}
use Rattle.lane_laws.specs.RingAgreed.{OneRing}
use Rattle.lane_laws.specs.Standing.{LaneInvariant, SessionStands}
use Rattle.lane_laws.proofs.EverStanding.{ever_left}
use Rattle.lane_laws.proofs.Leaving.{client_opened}
use Rattle.lane_laws.proofs.LiveCounts.{KIs, counts_while, kis_client, kis_none, kis_server, not_live, not_up, peer_not_live, zero_where}
use Rattle.lane_laws.proofs.QuietWire.{wire_quiet}
use Rattle.lane_laws.proofs.Standing.{Before, EverStands, NearStands, ever_count}
use Rattle.lane_laws.proofs.RingWire.{published_of}

-- A SERVER'S SESSION opens: what is done was done before it
took_opens : (s : LaneState) (l : DiskLog) (packet : List ℕ) (t : LaneState) → Before s l → StepFacts s l (OnWire (Took B packet true)) t
    → KIs (counts_while (after l (OnWire (Took B packet true))).wire.wire.end_b (after l (OnWire (Took B packet true))).work.server) l.work.client l.work.done s.near.k
took_opens s l packet t before facts = grind arith

-- EACH EVENT of the wire that opens no session of the client
k_quiet : (s : LaneState) (l : DiskLog) (event : WireEvent) (t : LaneState) → Before s l → StepFacts s l (OnWire event) t → OpensNot event
    → KIs (counts_while (after l (OnWire event)).wire.wire.end_b (after l (OnWire event)).work.server) (after l (OnWire event)).work.client (after l (OnWire event)).work.done (near_on_wire s event).k
k_quiet s l (Joined A lost) t before facts not =
    let none = zero_where _ l.work.client l.work.done s.near.k (not_live l.wire.wire.end_a l.wire.wire.end_b l.work.server before.alive facts.table) before.near.k in
    let q = counts_while (peer_behind l.wire.wire.end_a l.wire.wire.end_b) l.work.server in
    subst (λ (n : ℕ). KIs q None l.work.done n) (sym none) (kis_none q None l.work.done (peer_not_live l.wire.wire.end_a l.wire.wire.end_b l.work.server before.alive))
k_quiet s l (Joined B lost) t before facts not =
    zero_where _ l.work.client l.work.done s.near.k (not_up l.wire.wire.end_b l.work.server facts.table) before.near.k
k_quiet s l (Reset A cause packet lost) t before facts not =
    kis_none (counts_while (peer_behind l.wire.wire.end_a l.wire.wire.end_b) l.work.server) None l.work.done (peer_not_live l.wire.wire.end_a l.wire.wire.end_b l.work.server before.alive)
k_quiet s l (Reset B cause packet lost) t before facts not = refl
k_quiet s l (Took A packet false) t before facts not =
    kis_client (counts_while l.wire.wire.end_b l.work.server) _ l.work.client l.work.done s.near.k (λ c. refl) before.near.k
k_quiet s l (Took A packet true) t before facts not = absurd (cc not)
k_quiet s l (Took B packet false) t before facts not =
    kis_server l.wire.wire.end_b l.work.server _ l.work.client l.work.done s.near.k (λ d. refl) before.near.k
k_quiet s l (Took B packet true) t before facts not = took_opens s l packet t before facts
k_quiet s l (Sent A packet false) t before facts not =
    kis_client (counts_while l.wire.wire.end_b l.work.server) _ l.work.client l.work.done s.near.k (λ c. refl) before.near.k
k_quiet s l (Sent A packet true) t before facts not = absurd (cc not)
k_quiet s l (Sent B packet false) t before facts not =
    kis_server l.wire.wire.end_b l.work.server _ l.work.client l.work.done s.near.k (λ d. refl) before.near.k
k_quiet s l (Sent B packet true) t before facts not = absurd (facts.sends packet refl)
k_quiet s l (Lost A packet) t before facts not = before.near.k
k_quiet s l (Injected A packet) t before facts not = before.near.k
k_quiet s l _ t before facts not = before.near.k

-- THE CLIENT'S SESSION opens: no server works on it yet
begins_k : (x : ChannelState) (q : Option ServerCounts) (o : Option ClientCounts) (new : ClientCounts) (done k : ℕ) → new.base ≡ done → ((d : ServerCounts) → x ≡ Up → q ≡ Some d → d.finished ≡ 0)
    → ((c : ClientCounts) → o ≡ Some c → c.base ≤ done) → KIs (counts_while x q) o done k → (k ≡ 0) × KIs (counts_while x q) (Some new) done k
begins_k x q o new done k same nothing based is = grind arith

pub opens_k : (s : LaneState) (l : DiskLog) (packet : List ℕ) (t : LaneState) → Before s l → StepFacts s l (OnWire (Sent A packet true)) t
    → (s.near.k ≡ 0) × KIs (counts_while l.wire.wire.end_b l.work.server) (after l (OnWire (Sent A packet true))).work.client l.work.done s.near.k
opens_k s l packet t before facts =
    begins_k l.wire.wire.end_b l.work.server l.work.client _ l.work.done s.near.k refl
    (λ d up is.
    let m = after l (OnWire (Sent A packet true)) in
    let one : OneRing t m.work d = subst (λ (q : Option ServerCounts). IfServer q (OneRing t m.work)) is (facts.agree.ring up) in
    let nothing : 0 ≡ one.client.published = ap published_of one.open_is in
    let descs = one.descs in
    let asked = one.asked in
    omega (arith, work_first t.server.session t.server.work m.work.server d is facts.agree.server, descs, asked, nothing))
    (λ c is. (turn_in s l c before.known is).based) before.near.k

-- WHAT WAS EVER PUBLISHED
near_quiet : (s : LaneState) (l : DiskLog) (event : WireEvent) (t : LaneState) → Before s l → StepFacts s l (OnWire event) t → LaneInvariant t (after l (OnWire event)) → OpensNot event → WireStep s event t
    → (near_on_wire s event).m ≤ s.client.ever_published - l.work.done → NearStands t (after l (OnWire event))
near_quiet s l event t before facts behind not step m_few =
    let m = after l (OnWire event) in
    let quiet = wire_quiet s l event t before.knows not step in
    let only = wire_only s event t step in
    let done = (wired_keeps l.shape.slots l.transcript l.work event).done in
    let ever = quiet.client.ever in
    let m_is : t.near.m ≡ (near_on_wire s event).m = ap (λ (n : NearCounts). n.m) quiet.near in
    record {
      k = subst (λ (n : ℕ). KIs (counts_while m.wire.wire.end_b m.work.server) m.work.client m.work.done n) (sym (ap (λ (n : NearCounts). n.k) quiet.near)) (k_quiet s l event t before facts not);
      m = omega (arith, m_few, m_is, ever, done);
      ever = subst (λ (n : ℕ). EverStands n t.client) (sym done)
          (ever_left l.work.done s.client t.client quiet.client only.kept.next before.known.stands.requests.session
          (subst (λ (n : ℕ). SessionStands n t.client.session) done behind.requests.session) before.near.ever);
    }

near_opens : (s : LaneState) (l : DiskLog) (packet : List ℕ) (t : LaneState) → Before s l → StepFacts s l (OnWire (Sent A packet true)) t → LaneInvariant t (after l (OnWire (Sent A packet true)))
    → WireStep s (Sent A packet true) t → NearStands t (after l (OnWire (Sent A packet true)))
near_opens s l packet t before facts behind step =
    let m = after l (OnWire (Sent A packet true)) in
    let opened = client_opened s.client (seen A s.shape.entries s.wire.wire) s.memory packet t.client t.memory step.step in
    let only = wire_only s (Sent A packet true) t step in
    let same : t.near ≡ s.near = ap (λ (x : LaneState). x.near) step.is in
    let ever = opened.ever in
    let m_few = before.near.m in
    let first = before.near.ever.done_first in
    let most = before.near.ever.most in
    let next = only.kept.next in
    let base : l.work.done ≡ opened.base + 0 = subst (SessionStands l.work.done) opened.session behind.requests.session in
    record {
      k = subst (λ (n : ℕ). KIs (counts_while m.wire.wire.end_b m.work.server) m.work.client m.work.done n) (sym (ap (λ (n : NearCounts). n.k) same)) (opens_k s l packet t before facts).1;
      m = let m_is : t.near.m ≡ s.near.m = ap (λ (n : NearCounts). n.m) same in omega (arith, m_few, m_is, ever);
      ever = record {
        done_first = omega (arith, first, ever);
        most = omega (arith, most, ever, next);
        session = λ session is.
            let both : Some (opened_session opened.base) ≡ Some session = sym opened.session ∙ is in
            let one : opened_session opened.base ≡ session = some_same both in
            subst (λ (x : ClientSession). x.base + x.published ≤ t.client.ever_published) one (omega (arith, base, first, ever));
      };
    }

pub near_wire : (s : LaneState) (l : DiskLog) (event : WireEvent) (t : LaneState) → Before s l → StepFacts s l (OnWire event) t → LaneInvariant t (after l (OnWire event)) → WireStep s event t
    → NearStands t (after l (OnWire event))
near_wire s l (Sent A packet true) t before facts behind step = near_opens s l packet t before facts behind step
near_wire s l (Sent A packet false) t before facts behind step = near_quiet s l (Sent A packet false) t before facts behind refl step before.near.m
near_wire s l (Took A packet opens) t before facts behind step = near_quiet s l (Took A packet opens) t before facts behind step.step.2 step before.near.m
near_wire s l (Reset e cause packet lost) t before facts behind step =
    near_quiet s l (Reset e cause packet lost) t before facts behind tt step (let is = ever_count s l before.known.stands in omega (arith, is))
near_wire s l event t before facts behind step = near_quiet s l event t before facts behind tt step before.near.m
