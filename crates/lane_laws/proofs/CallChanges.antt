-- What resets, an opening session, requests, turns and calm calls are to a lane's view.
use Rattle.std.proofs.Common.{◌≡◌, ℕ, true, false, Option, Some, None, List, [], ◌∷◌, ◌++◌, drop, refl, sym, ap, ◌∙◌, subst, arith}
use Rattle.ldc_queue.specs.declared.end.End.{End}
use Rattle.ldc_queue.specs.declared.end.End.TheVariants.{A, B}
use Rattle.ldc_queue.specs.Wire.{peer_behind}
use Rattle.vio_tag.specs.declared.cause.Cause.{Cause}
use Rattle.lane_models.specs.WireEvent.{Reset, Sent, Took, WireEvent}
use Rattle.lane_models.specs.WireLog.{WireLog, wire_moved}
use Rattle.lane_models.proofs.Apart.{ends_differ, some_same}
use Rattle.lane_laws.specs.DiskLog.{DiskLog, after}
use Rattle.lane_laws.specs.WorkLaws.{IfServer}
use Rattle.lane_laws.specs.WorkLog.{ServerCounts}
use Rattle.lane_models.specs.ClientState.{ClientSession, ClientState, opened_session}
use Rattle.lane_models.specs.DiskEvent.{Accepted, Admitted, Asks, Calm, DiskEvent, Full, Off, OnWire, Refused, Calms, Started, Stopped, Switched, Switches}
use Rattle.lane_models.specs.LaneState.{LaneState, NearCounts}
use Rattle.lane_models.specs.LaneStep.{LaneStep, CalmStep, SwitchedStep, WireStep}
use Rattle.lane_models.specs.Seeing.{seen}
use Rattle.lane_models.specs.ServerState.{Work}
use Rattle.lane_laws.proofs.RingWire.{published_of, sent_clears, wire_same}
use Rattle.lane_laws.proofs.SlotsStepping.{StepFacts}
use Rattle.lane_laws.proofs.StandingSteps.{wire_only}
use Rattle.lane_laws.specs.RingAgreed.{OneRing}
use Rattle.lane_laws.specs.Contents.{ContentsStand}
use Rattle.lane_laws.specs.ImageStep.{content_after}
use Rattle.lane_laws.specs.LaneView.{view_of, work_while}
use Rattle.lane_laws.proofs.BehindRing.{cleared_behind, ring_end}
use Rattle.lane_laws.proofs.Changes.{Asked, Opened, Rested}
use Rattle.lane_laws.proofs.Leaving.{client_opened, keeps_same}
use Rattle.lane_laws.proofs.PlacedViews.{working}
use Rattle.lane_laws.proofs.QuietWire.{wire_quiet, work_on_wire}
use Rattle.lane_laws.proofs.Standing.{Before}
use Rattle.lane_laws.proofs.WireChanges.{Changed, buffers_same, disturbed, reset_drops, view_is, wire_rests}
use Rattle.lane_laws.proofs.WireCounts.{opens_k}
use Rattle.lane_laws.proofs.LaneViews.{calm_same as calm}

-- A RESET
wire_resets : (e : End) (s : LaneState) (l : DiskLog) (cause : Cause) (packet : Option (List ℕ)) (lost : ℕ) (t : LaneState) → Before s l → ContentsStand (view_of s)
    → (after l (OnWire (Reset e cause packet lost))).wire.forged ≡ false → (e ≡ B → work_on_wire (Reset e cause packet lost) s.server.work ≡ None)
    → (e ≡ A → work_on_wire (Reset e cause packet lost) s.server.work ≡ s.server.work)
    → (e ≡ A → (wire_moved s.wire (Reset e cause packet lost)).wire.end_b ≡ peer_behind s.wire.wire.end_a s.wire.wire.end_b) → WireStep s (Reset e cause packet lost) t
    → Changed s (OnWire (Reset e cause packet lost)) t
wire_resets e s l cause packet lost t before contents clean gone same peer step =
    let event : WireEvent = Reset e cause packet lost in
    let quiet = wire_quiet s l event t before.knows tt step in
    let only = wire_only s event t step in
    let work : work_while t.wire.wire.end_b t.server.work ≡ None =
    ap (λ (w : WireLog). work_while w.wire.end_b t.server.work) only.wire ∙ ap (work_while (wire_moved s.wire event).wire.end_b) quiet.work
    ∙ reset_drops e s l (work_on_wire event s.server.work) before gone same (wire_moved s.wire event).wire peer in
    disturbed s l (OnWire event) t before contents (λ content. refl) only.kept.pending only.kept.slots (wire_same s l event t tt before.known step clean) work quiet.near quiet.client.keeps

-- THE CLIENT'S SESSION OPENS
idle_opening : (s : LaneState) (l : DiskLog) (packet : List ℕ) (t : LaneState) (o : Option Work) → Before s l → StepFacts s l (OnWire (Sent A packet true)) t
    → work_while s.wire.wire.end_b s.server.work ≡ o → o ≡ None
idle_opening s l packet t None before facts is = refl
idle_opening s l packet t (Some work) before facts is =
    let on = working s l work before is in
    let d = on.at.of.counts in
    let m = after l (OnWire (Sent A packet true)) in
    let one : OneRing t m.work d = subst (λ (q : Option ServerCounts). IfServer q (OneRing t m.work)) on.at.of.open_is (facts.agree.ring on.at.up) in
    let nothing : 0 ≡ one.client.published = ap published_of one.open_is in
    let descs = one.descs in
    let asked = one.asked in
    let single = on.has.one in
    absurd (omega (arith, nothing, descs, asked, single))

wire_opens : (s : LaneState) (l : DiskLog) (packet : List ℕ) (t : LaneState) → Before s l → StepFacts s l (OnWire (Sent A packet true)) t → WireStep s (Sent A packet true) t
    → Changed s (OnWire (Sent A packet true)) t
wire_opens s l packet t before facts step =
    let opened = client_opened s.client (seen A s.shape.entries s.wire.wire) s.memory packet t.client t.memory step.step in
    let only = wire_only s (Sent A packet true) t step in
    let near : t.near ≡ s.near = ap (λ (x : LaneState). x.near) step.is in
    let memory = (sent_clears s packet true t.client t.memory step.step).is in
    let behind : drop (ring_end s.client.slots) t.memory ≡ drop (ring_end s.client.slots) s.memory =
    ap (drop (ring_end s.client.slots)) memory ∙ cleared_behind s.client.slots s.memory before.known.memory.long in
    record {
      kind = Opened;
      change = record {
        nothing = λ session is.
            let both : Some (opened_session opened.base) ≡ Some session = sym opened.session ∙ is in
            let one : opened_session opened.base ≡ session = some_same both in
            ap (λ (x : ClientSession). x.published) (sym one);
        unfinished = (opens_k s l packet t before facts).0;
        idle = idle_opening s l packet t (work_while s.wire.wire.end_b s.server.work) before facts refl;
        is =
            view_is (view_of t) s.client.pending s.client.slots t.client.session (work_while s.wire.wire.end_b s.server.work) s.near.k s.near.m s.near.u (view_of s).buffers only.kept.pending only.kept.slots refl
            (ap (λ (x : LaneState). work_while x.wire.wire.end_b x.server.work) step.is) (ap (λ (n : NearCounts). n.k) near) (ap (λ (n : NearCounts). n.m) near) (ap (λ (n : NearCounts). n.u) near)
            (buffers_same s t only.kept.slots behind);
      };
      still = λ image next same. same;
      content = λ content. refl;
    }

-- EACH EVENT of the wire
pub wire_changes : (s : LaneState) (l : DiskLog) (event : WireEvent) (t : LaneState) → Before s l → ContentsStand (view_of s) → StepFacts s l (OnWire event) t
    → (after l (OnWire event)).wire.forged ≡ false → WireStep s event t → Changed s (OnWire event) t
wire_changes s l (Sent A packet true) t before contents facts clean step = wire_opens s l packet t before facts step
wire_changes s l (Sent A packet false) t before contents facts clean step = wire_rests s l (Sent A packet false) t before facts clean refl tt step
wire_changes s l (Took A packet opens) t before contents facts clean step = wire_rests s l (Took A packet opens) t before facts clean step.step.2 tt step
wire_changes s l (Reset A cause packet lost) t before contents facts clean step = wire_resets A s l cause packet lost t before contents clean (λ is. ends_differ is) (λ is. refl) (λ is. refl) step
wire_changes s l (Reset B cause packet lost) t before contents facts clean step = wire_resets B s l cause packet lost t before contents clean (λ is. refl) (λ is. ends_differ (sym is)) (λ is. ends_differ (sym is)) step
wire_changes s l event t before contents facts clean step = wire_rests s l event t before facts clean tt tt step

-- WHAT CHANGES NOTHING of it
parts_same : (s : LaneState) (event : DiskEvent) (t : LaneState) → t.client ≡ s.client → t.wire ≡ s.wire → t.server ≡ s.server → t.near ≡ s.near → t.memory ≡ s.memory
    → ((content : List ℕ) → content ≡ content_after s content event) → Changed s event t
parts_same s event t client wire server near memory content = record {
  kind = Rested;
  change = record {
    keeps = keeps_same s.client.session t.client.session (ap (λ (c : ClientState). c.session) client);
    is =
        view_is (view_of t) s.client.pending s.client.slots t.client.session (work_while s.wire.wire.end_b s.server.work) s.near.k s.near.m s.near.u (view_of s).buffers (ap (λ (c : ClientState). c.pending) client)
        (ap (λ (c : ClientState). c.slots) client) refl (ap (λ (w : WireLog). work_while w.wire.end_b t.server.work) wire ∙ ap (λ x. work_while s.wire.wire.end_b x.work) server)
        (ap (λ (n : NearCounts). n.k) near) (ap (λ (n : NearCounts). n.m) near) (ap (λ (n : NearCounts). n.u) near)
        (buffers_same s t (ap (λ (c : ClientState). c.slots) client) (ap (drop (ring_end s.client.slots)) memory));
  };
  still = λ image next same. same;
  content = content;
}

all_same : (s : LaneState) (event : DiskEvent) (t : LaneState) → t ≡ s → ((content : List ℕ) → content ≡ content_after s content event) → Changed s event t
all_same s event t is content =
    parts_same s event t (ap (λ (x : LaneState). x.client) is) (ap (λ (x : LaneState). x.wire) is) (ap (λ (x : LaneState). x.server) is) (ap (λ (x : LaneState). x.near) is) (ap (λ (x : LaneState). x.memory) is) content

-- REQUESTS
pub asks_changes : (s : LaneState) (event : Admitted) (t : LaneState) → LaneStep s (Asks event) t → Changed s (Asks event) t
asks_changes s (Refused why request) t step = all_same s (Asks (Refused why request)) t (step.1 ∙ ap (λ (c : ClientState). record s { client = c }) step.0.1) (λ content. refl)
asks_changes s (Full request) t step = all_same s (Asks (Full request)) t (step.1 ∙ ap (λ (c : ClientState). record s { client = c }) step.0.2) (λ content. refl)
asks_changes s (Accepted id request) t step =
    let client = step.0.5 in
    let near : t.near ≡ s.near = ap (λ (x : LaneState). x.near) step.1 in
    let slots : t.client.slots ≡ s.client.slots = ap (λ (c : ClientState). c.slots) client in
    record {
      kind = Asked request;
      change = record {
        is =
            view_is (view_of t) (s.client.pending ++ request ∷ []) s.client.slots s.client.session (work_while s.wire.wire.end_b s.server.work) s.near.k s.near.m s.near.u (view_of s).buffers
            (ap (λ (c : ClientState). c.pending) client) slots (ap (λ (c : ClientState). c.session) client) (ap (λ (x : LaneState). work_while x.wire.wire.end_b x.server.work) step.1)
            (ap (λ (n : NearCounts). n.k) near) (ap (λ (n : NearCounts). n.m) near) (ap (λ (n : NearCounts). n.u) near)
            (buffers_same s t slots (ap (λ (x : LaneState). drop (ring_end s.client.slots) x.memory) step.1));
      };
      still = λ image next same. same;
      content = λ content. refl;
    }

-- TURNS, and calm calls
pub turn_changes : (s : LaneState) (l : DiskLog) (event : Switched) (t : LaneState) → Before s l → ContentsStand (view_of s) → SwitchedStep s event t → Changed s (Switches event) t
turn_changes s l Stopped t before contents step =
    disturbed s l (Switches Stopped) t before contents (λ content. refl) (ap (λ (x : LaneState). x.client.pending) step.1) (ap (λ (x : LaneState). x.client.slots) step.1) (ap (λ (x : LaneState). x.memory) step.1)
    (ap (λ (x : LaneState). work_while x.wire.wire.end_b x.server.work) step.1) (ap (λ (x : LaneState). x.near) step.1)
    (keeps_same s.client.session t.client.session (ap (λ (x : LaneState). x.client.session) step.1))
turn_changes s l Started t before contents step =
    parts_same s (Switches Started) t (ap (λ (x : LaneState). x.client) step.1) (ap (λ (x : LaneState). x.wire) step.1) (ap (λ (x : LaneState). x.server) step.1) (ap (λ (x : LaneState). x.near) step.1)
    (ap (λ (x : LaneState). x.memory) step.1) (λ content. refl)
turn_changes s l Off t before contents step = all_same s (Switches Off) t step.1 (λ content. refl)

pub calm_changes : (s : LaneState) (event : Calm) (t : LaneState) → CalmStep s event t → Changed s (Calms event) t
calm_changes s event t step = all_same s (Calms event) t (calm s event t step) (λ content. refl)
