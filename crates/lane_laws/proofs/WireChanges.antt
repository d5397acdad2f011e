-- What an event of a lane is to its view: the wire's, requests, turns, and what changes nothing.
use Rattle.std.proofs.Common.{◌≡◌, ◌≢◌, ℕ, ◌-◌, ◌<◌, ◌≤◌, ◌⊎◌, false, Option, Some, None, List, drop, inl, inr, refl, sym, ap, ◌∙◌, subst, arith}
use Rattle.ldc_queue.specs.declared.end.ChannelState.{ChannelState}
use Rattle.ldc_queue.specs.declared.end.ChannelState.TheVariants.{Up}
use Rattle.ldc_queue.specs.declared.end.End.{End}
use Rattle.ldc_queue.specs.declared.end.End.TheVariants.{A, B}
use Rattle.ldc_queue.specs.Wire.{Wire, peer_behind}
use Rattle.vdisk_msg.specs.declared.request.Request.{Request}
use Rattle.lane_models.specs.WireEvent.{Reset, WireEvent}
use Rattle.lane_models.specs.WireLog.{WireLog, wire_moved}
use Rattle.lane_laws.specs.DiskLog.{DiskLog, after}
use Rattle.lane_models.specs.ClientState.{ClientSession, ever_published_count}
use Rattle.lane_models.specs.DiskEvent.{DiskEvent, OnWire}
use Rattle.lane_models.specs.LaneState.{LaneState, NearCounts}
use Rattle.lane_models.specs.LaneStep.{WireStep, near_on_wire}
use Rattle.lane_models.specs.ServerState.{Work}
use Rattle.lane_laws.proofs.RingLeaves.{OpensNot}
use Rattle.lane_laws.proofs.RingWire.{wire_same}
use Rattle.lane_laws.proofs.SlotsStepping.{StepFacts}
use Rattle.lane_laws.proofs.StandingSteps.{wire_only}
use Rattle.lane_laws.specs.Contents.{ContentsStand}
use Rattle.lane_laws.specs.ImageStep.{content_after}
use Rattle.lane_laws.specs.LaneView.{View, view_of, work_while}
use Rattle.lane_laws.proofs.BehindRing.{ring_end}
use Rattle.lane_laws.proofs.Changes.{Disturbed, ImageChange, IsChange, Keeps, Kind, Rested, content_behind}
use Rattle.lane_laws.proofs.PlacedViews.{working}
use Rattle.lane_laws.proofs.QuietWire.{wire_quiet, work_on_wire}
use Rattle.lane_laws.proofs.Standing.{Before, ever_count}
use Rattle.lane_laws.proofs.LaneViews.{calm_same as calm}

-- A VIEW by its parts
make_view : List Request → ℕ → Option ClientSession → Option Work → ℕ → ℕ → ℕ → List ℕ → View
make_view pending slots session work k m u buffers = record { pending = pending; slots = slots; session = session; work = work; k = k; m = m; u = u; buffers = buffers }

made : (w : View) → w ≡ make_view w.pending w.slots w.session w.work w.k w.m w.u w.buffers
unfolding make_view
made w = refl

same_made : (w : View) (pending : List Request) (slots : ℕ) (session : Option ClientSession) (work : Option Work) (k m u : ℕ) (buffers : List ℕ) → w.pending ≡ pending → w.slots ≡ slots
    → w.session ≡ session → w.work ≡ work → w.k ≡ k → w.m ≡ m → w.u ≡ u → w.buffers ≡ buffers
    → make_view w.pending w.slots w.session w.work w.k w.m w.u w.buffers ≡ make_view pending slots session work k m u buffers
same_made w pending slots session work k m u buffers pending_is slots_is session_is work_is k_is m_is u_is buffers_are = cc

pub view_is : (w : View) (pending : List Request) (slots : ℕ) (session : Option ClientSession) (work : Option Work) (k m u : ℕ) (buffers : List ℕ) → w.pending ≡ pending → w.slots ≡ slots
    → w.session ≡ session → w.work ≡ work → w.k ≡ k → w.m ≡ m → w.u ≡ u → w.buffers ≡ buffers
    → w ≡ record { pending = pending; slots = slots; session = session; work = work; k = k; m = m; u = u; buffers = buffers }
unfolding make_view
view_is w pending slots session work k m u buffers pending_is slots_is session_is work_is k_is m_is u_is buffers_are =
    made w ∙ same_made w pending slots session work k m u buffers pending_is slots_is session_is work_is k_is m_is u_is buffers_are

-- WHAT AN EVENT IS to a lane's view, to the image and to the content
pub record Changed (s : LaneState) (event : DiskEvent) (t : LaneState) : Type 0 where
  pub kind : Kind
  pub change : IsChange kind (view_of s) (view_of t)
  pub still : (image next : List ℕ) → next ≡ image → ImageChange kind (view_of s) (view_of t) change image next
  pub content : (content : List ℕ) → content_behind kind content s.client.pending ≡ content_after s content event

pub buffers_same : (s t : LaneState) → t.client.slots ≡ s.client.slots → drop (ring_end s.client.slots) t.memory ≡ drop (ring_end s.client.slots) s.memory → (view_of t).buffers ≡ (view_of s).buffers
buffers_same s t slots same = ap (λ (n : ℕ). drop (ring_end n) t.memory) slots ∙ same

-- NO DESCRIPTOR is in work while the client's end isn't up
idle_by : (s : LaneState) (l : DiskLog) (o : Option Work) → Before s l → work_while s.wire.wire.end_b s.server.work ≡ o → s.wire.wire.end_a ≢ Up → o ≡ None
idle_by s l None before is not = refl
idle_by s l (Some work) before is not =
    let on = working s l work before is in
    let up = before.alive on.at.of.counts on.at.up on.at.of.open_is in
    absurd (not (subst (λ (w : WireLog). w.wire.end_a ≡ Up) (sym before.known.stands.wire) up))

idle_while : (s : LaneState) (l : DiskLog) → Before s l → s.wire.wire.end_a ≢ Up → work_while s.wire.wire.end_b s.server.work ≡ None
idle_while s l before not = idle_by s l (work_while s.wire.wire.end_b s.server.work) before refl not

-- EVENTS OF THE WIRE that disturb nothing leave it
abbrev pub Undisturbed : WireEvent → Type 0
Undisturbed (Reset e cause packet lost) = ⊥
Undisturbed _ = Unit {0}

pub work_quiet : (s : LaneState) (l : DiskLog) (event : WireEvent) (t : LaneState) → Before s l → StepFacts s l (OnWire event) t → Undisturbed event
    → work_while (wire_moved s.wire event).wire.end_b (work_on_wire event s.server.work) ≡ work_while s.wire.wire.end_b s.server.work
work_quiet s l event t before facts calm = grind arith

pub near_quiet : (s : LaneState) (event : WireEvent) → Undisturbed event → near_on_wire s event ≡ s.near
near_quiet s (Reset e cause packet lost) calm = absurd calm
near_quiet s _ calm = refl

pub wire_rests : (s : LaneState) (l : DiskLog) (event : WireEvent) (t : LaneState) → Before s l → StepFacts s l (OnWire event) t → (after l (OnWire event)).wire.forged ≡ false → OpensNot event → Undisturbed event
    → WireStep s event t → Changed s (OnWire event) t
wire_rests s l event t before facts clean not calm step =
    let quiet = wire_quiet s l event t before.knows not step in
    let only = wire_only s event t step in
    let near : t.near ≡ s.near = quiet.near ∙ near_quiet s event calm in
    let memory = wire_same s l event t not before.known step clean in
    let work : work_while t.wire.wire.end_b t.server.work ≡ work_while s.wire.wire.end_b s.server.work =
    ap (λ (w : WireLog). work_while w.wire.end_b t.server.work) only.wire ∙ ap (work_while (wire_moved s.wire event).wire.end_b) quiet.work ∙ work_quiet s l event t before facts calm in
    record {
      kind = Rested;
      change = record {
        keeps = quiet.client.keeps;
        is =
            view_is (view_of t) s.client.pending s.client.slots t.client.session (work_while s.wire.wire.end_b s.server.work) s.near.k s.near.m s.near.u (view_of s).buffers only.kept.pending only.kept.slots refl work
            (ap (λ (n : NearCounts). n.k) near) (ap (λ (n : NearCounts). n.m) near) (ap (λ (n : NearCounts). n.u) near) (buffers_same s t only.kept.slots (ap (drop (ring_end s.client.slots)) memory));
      };
      still = λ image next same. same;
      content = λ content. refl;
    }

-- A RESET, and a stop, drop the descriptor in work
k_below : (s : LaneState) (l : DiskLog) → Before s l → s.near.k ≤ s.client.ever_published - l.work.done
k_below s l before = grind arith

u_below : (s : LaneState) (l : DiskLog) (o : Option Work) → Before s l → ContentsStand (view_of s) → work_while s.wire.wire.end_b s.server.work ≡ o
    → (s.near.u ≡ 0) ⊎ (s.near.k < s.client.ever_published - l.work.done)
u_below s l None before contents is = inl (contents.none is)
u_below s l (Some work) before contents is =
    let on = working s l work before is in
    let published = before.near.ever.session on.live.session on.live.there in
    let done = on.live.agree.completed in
    let base = on.live.agree.base in
    inr (omega (arith, published, on.served, done, base))

pub disturbed : (s : LaneState) (l : DiskLog) (event : DiskEvent) (t : LaneState) → Before s l → ContentsStand (view_of s) → ((content : List ℕ) → content ≡ content_after s content event)
    → t.client.pending ≡ s.client.pending → t.client.slots ≡ s.client.slots → t.memory ≡ s.memory → work_while t.wire.wire.end_b t.server.work ≡ None
    → t.near ≡ record { k = 0; m = ever_published_count s.client; u = 0 } → Keeps s.client.session t.client.session
    → Changed s event t
disturbed s l event t before contents content pending slots memory work near keeps =
    let p = ever_published_count s.client in
    let is = ever_count s l before.known.stands in
    let few = before.near.m in
    record {
      kind = Disturbed p;
      change = record {
        keeps = keeps;
        finished = let below = k_below s l before in omega (arith, below, is);
        before = omega (arith, few, is);
        working = by_u (u_below s l (work_while s.wire.wire.end_b s.server.work) before contents refl);
        is =
            view_is (view_of t) s.client.pending s.client.slots t.client.session None 0 p 0 (view_of s).buffers pending slots refl work
            (ap (λ (n : NearCounts). n.k) near) (ap (λ (n : NearCounts). n.m) near) (ap (λ (n : NearCounts). n.u) near) (buffers_same s t slots (ap (drop (ring_end s.client.slots)) memory));
      };
      still = λ image next same. same;
      content = content;
    }
  where
    by_u : (s.near.u ≡ 0) ⊎ (s.near.k < s.client.ever_published - l.work.done) → (s.near.u ≡ 0) ⊎ (s.near.k < ever_published_count s.client)
    by_u (inl zero) = inl zero
    by_u (inr below) = let count = ever_count s l before.known.stands in inr (omega (arith, below, count))

peer_idle : (s : LaneState) (l : DiskLog) → Before s l → work_while (peer_behind s.wire.wire.end_a s.wire.wire.end_b) s.server.work ≡ None
peer_idle s l before = grind (arith, idle_while)

-- a server that has no work serves none
pub none_works : (x : ChannelState) → work_while x None ≡ None
none_works Up = refl
none_works _ = refl

pub reset_drops : (e : End) (s : LaneState) (l : DiskLog) (work : Option Work) → Before s l → (e ≡ B → work ≡ None) → (e ≡ A → work ≡ s.server.work) → (next : Wire)
    → (e ≡ A → next.end_b ≡ peer_behind s.wire.wire.end_a s.wire.wire.end_b) → work_while next.end_b work ≡ None
reset_drops A s l work before gone same next peer =
    ap (λ (x : ChannelState). work_while x work) (peer refl) ∙ ap (work_while (peer_behind s.wire.wire.end_a s.wire.wire.end_b)) (same refl) ∙ peer_idle s l before
reset_drops B s l work before gone same next peer = ap (work_while next.end_b) (gone refl) ∙ none_works next.end_b
