-- Each event of a lane that nobody forged leaves the slots of its ring in their order.
use Rattle.std.proofs.Common.{◌≡◌, ℕ, ◌+◌, ◌-◌, ◌%◌, ◌<◌, ◌≤◌, Bool, true, false, Option, Some, None, List, [], set, refl, sym, ap, ◌∙◌, subst, arith}
use Rattle.ldc_queue.specs.declared.end.ChannelState.{ChannelState}
use Rattle.ldc_queue.specs.declared.end.ChannelState.TheVariants.{Up}
use Rattle.ldc_queue.specs.declared.end.End.TheVariants.{A, B}
use Rattle.ldc_queue.specs.Wire.{closed, Wire, configured, peer_behind, upset}
use Rattle.lane_models.specs.WireEvent.{Injected, Joined, Lost, Reset, Sent, Took, WireEvent}
use Rattle.lane_laws.specs.Agreement.{ServerAgrees, WorkAgrees}
use Rattle.lane_laws.specs.DiskLog.{DiskLog, after}
use Rattle.lane_models.specs.Messages.{range_ended}
use Rattle.lane_laws.specs.RingLog.{Accepted as IsAccepted, Done as IsDone, SlotLog, fetched_at, finished_at, freed_at, id_at, published_at}
use Rattle.lane_laws.specs.WorkLaws.{IfServer}
use Rattle.lane_laws.specs.WorkLog.{ClientCounts, ServerCounts, WorkLog, change_client, change_server, length_in, one_in}
use Rattle.lane_models.specs.ClientRule as client_rules
use Rattle.lane_models.specs.DiskEvent.{Accepted, Asks, Desc, DiskEvent, Done, Finished, Misplaced, Moved, OnWire, Published, Stopped, Stored, Switches, Worked, Works}
use Rattle.lane_models.specs.LaneState.{LaneState}
use Rattle.lane_models.specs.LaneStep.{LaneStep, WorkStep}
use Rattle.lane_models.specs.Sayings.{half_heard, half_said}
use Rattle.lane_models.specs.Seeing.{seen}
use Rattle.lane_models.specs.ServerRule as server_rules
use Rattle.lane_models.specs.ServerState.{ServerSession, Work}
use Rattle.lane_laws.proofs.RingClientSteps.{completes_slot, publishing}
use Rattle.lane_laws.proofs.RingEnds.{has_work}
use Rattle.lane_laws.proofs.RingSessions.{of_client}
use Rattle.lane_laws.proofs.RingWork.{Known, at_work, fetched_counts, fetched_next, finished_small, more_published, numbered, some_slots, turn_in}
use Rattle.lane_laws.proofs.RulesFree.{ServerFree, server_free}
use Rattle.lane_laws.proofs.Ruling.{client_may, server_may}
use Rattle.lane_laws.proofs.SlotsOrdered.{announced_slots, cleared_slots, completed_slots, fetched_slots, finished_more, finished_slots, published_slots}
use Rattle.lane_laws.specs.RingAgreed.{OneRing, SessionsAgree}
use Rattle.lane_laws.specs.RuleFacts.{ClientMay, ServerMay}
use Rattle.lane_laws.specs.SlotsInOrder.{ServerAt, SlotsIn, SlotsInOrder, SlotsOf}
use Rattle.lane_laws.specs.TableStands.{TableAt}
use Rattle.lane_models.proofs.Apart.{some_same, true_is_false}

-- what is known of an event
pub record StepFacts (s : LaneState) (l : DiskLog) (event : DiskEvent) (t : LaneState) : Type 0 where
  pub known : Known s l
  pub agree : SessionsAgree t (after l event)
  pub table : TableAt l event
  -- a server whose session is open has a client that is up; its session opens where it had none
  pub alive : (d : ServerCounts) → (after l event).wire.wire.end_b ≡ Up → (after l event).work.server ≡ Some d → (after l event).wire.wire.end_a ≡ Up
  pub opens : (packet : List ℕ) → event ≡ OnWire (Took B packet true) → l.work.server ≡ None
  pub sends : (packet : List ℕ) → event ≡ OnWire (Sent B packet true) → ⊥
  -- what is announced is published
  pub announced : (k : ClientCounts) → (after l event).work.client ≡ Some k → k.announced ≤ k.published
  -- what a client that is up has heard acknowledged the server finished
  pub acked : (k : ClientCounts) (finished descs : ℕ) → (after l event).work.client ≡ Some k → (after l event).wire.wire.end_a ≡ Up
      → ServerAt (after l event).wire.wire (after l event).work.server finished descs → k.acked ≤ finished

-- THE CLIENT'S COUNTS change but for the base and what is published
keep_client : (n : ℕ) (w : WorkLog) (wire : Wire) (ring : List SlotLog) (f : ClientCounts → ClientCounts) (o : Option ClientCounts) → ((k : ClientCounts) → (f k).base ≡ k.base)
    → ((k : ClientCounts) → (f k).published ≡ k.published)
    → ((k : ClientCounts) → o ≡ Some k → (k.announced ≤ (f k).announced) × ((f k).announced ≤ (f k).published))
    → ((k : ClientCounts) (finished descs : ℕ) → o ≡ Some k → ServerAt wire w.server finished descs → k.acked ≤ finished → (f k).acked ≤ finished)
    → SlotsIn n w wire ring o → SlotsIn n w wire ring (change_client f o)
keep_client n w wire ring f None base published announced acked slots = tt
keep_client n w wire ring f (Some k) base published announced acked slots =
    let told = announced k refl in
    let same = published k in (
      slots.0,
      slots.1,
      subst (λ (b : ℕ). SlotsOf n w.done b (f k).announced (f k).published slots.0 slots.1 ring) (sym (base k))
          (subst (λ (p : ℕ). SlotsOf n w.done k.base (f k).announced p slots.0 slots.1 ring) (sym same)
          (announced_slots n w.done k.base k.announced k.published slots.0 slots.1 (f k).announced ring told.0 (omega (arith, told.1, same)) slots.2)),
      slots.3,
      acked k slots.0 slots.1 refl slots.3 slots.4,
    )

-- the server's side changes
keep_server : (n : ℕ) (w x : WorkLog) (wire next : Wire) (ring : List SlotLog) (o : Option ClientCounts) → x.done ≡ w.done
    → ((finished descs : ℕ) → ServerAt wire w.server finished descs → ServerAt next x.server finished descs) → SlotsIn n w wire ring o → SlotsIn n x next ring o
keep_server n w x wire next ring o done at slots = grind arith

at_changed : (wire : Wire) (q : Option ServerCounts) (g : ServerCounts → ServerCounts) (finished descs : ℕ) → ((d : ServerCounts) → ((g d).finished ≡ d.finished) × ((g d).descs ≡ d.descs))
    → ServerAt wire q finished descs → ServerAt wire (change_server g q) finished descs
at_changed wire q g finished descs same at = grind arith

pub upset_not : (x : ChannelState) → upset x ≡ Up → ⊥
upset_not Up is = absurd (cc)
upset_not _ is = absurd (cc)

pub behind_up : (x y : ChannelState) → peer_behind x y ≡ Up → (y ≡ Up) × (x ≡ Up → ⊥)
behind_up x y is = grind arith

at_begun : (wire : Wire) (q : Option ServerCounts) (finished descs : ℕ) → ServerAt wire q finished descs → ServerAt (configured B wire) None finished descs
at_begun wire q finished descs at = grind arith

at_closed : (wire : Wire) (q : Option ServerCounts) (finished descs : ℕ) → ServerAt wire q finished descs → ServerAt (closed B wire) None finished descs
at_closed wire q finished descs at = grind arith

same_at : (wire next : Wire) (q : Option ServerCounts) (finished descs : ℕ) → next.end_a ≡ wire.end_a → next.end_b ≡ wire.end_b → ServerAt wire q finished descs → ServerAt next q finished descs
same_at wire next q finished descs a b at = record { works = λ up. at.works (sym b ∙ up); rests = λ up none. at.rests (sym a ∙ up) (λ now. none (b ∙ now)) }

-- A SESSION OF THE SERVER opens: it has done nothing yet
at_opened : (wire : Wire) (sid finished descs : ℕ) → wire.end_b ≡ Up → (wire.end_b ≡ Up → wire.end_a ≡ Up) → ServerAt wire None finished descs
    → ServerAt wire (Some (record { sid = sid; asked = 0; descs = 0; finished = 0; answered = 0; desc = []; owed = [] })) finished descs
at_opened wire sid finished descs up alive at = grind arith

-- A SESSION OF THE CLIENT opens: no server works on it yet
opens_at_rest : (wire : Wire) (q : Option ServerCounts) → ((d : ServerCounts) → q ≡ Some d → wire.end_b ≡ Up → (0 ≡ d.finished) × (0 ≡ d.descs)) → ServerAt wire q 0 0
opens_at_rest wire q nothing = grind arith

pub work_first : (o : Option ServerSession) (w : Option Work) (q : Option ServerCounts) (d : ServerCounts) → q ≡ Some d → ServerAgrees o w q → d.finished ≤ d.descs
work_first o w q d is agrees = grind arith

pub if_server : (P : ServerCounts → Type 0) (q : Option ServerCounts) (d : ServerCounts) → q ≡ Some d → IfServer q P → P d
if_server P q d is holds = subst (λ (x : Option ServerCounts). IfServer x P) is holds

-- THE WIRE
opened_slots : (s : LaneState) (l : DiskLog) (packet : List ℕ) (t : LaneState) → StepFacts s l (OnWire (Sent A packet true)) t → SlotsInOrder (after l (OnWire (Sent A packet true)))
opened_slots s l packet t facts =
    let m = after l (OnWire (Sent A packet true)) in (
      0,
      0,
      cleared_slots l.shape.slots l.work.done,
      opens_at_rest m.wire.wire m.work.server (λ d is up.
          let one = if_server (OneRing t m.work) m.work.server d is (facts.agree.ring up) in
          let first = work_first t.server.session t.server.work m.work.server d is facts.agree.server in
          let published : one.client.published ≡ 0 = let both : m.work.client ≡ Some one.client = one.open_is in published_of both in
          let none : d.descs ≡ 0 = omega (arith, one.descs, one.asked, published) in
          (omega (arith, first, none), sym none)),
      omega arith,
    )
  where
    published_of : {sid base : ℕ} {c : ClientCounts} → Some (record { sid = sid; base = base; published = 0; announced = 0; infos = 0; acked = 0 }) ≡ Some c → c.published ≡ 0
    published_of {sid} {base} {c} is = let same : record { sid = sid; base = base; published = 0; announced = 0; infos = 0; acked = 0 } ≡ c = some_same is in ap (λ (x : ClientCounts). x.published) (sym same)

took_server : (opens : Bool) (s : LaneState) (l : DiskLog) (packet : List ℕ) (t : LaneState) → StepFacts s l (OnWire (Took B packet opens)) t → SlotsInOrder l
    → SlotsInOrder (after l (OnWire (Took B packet opens)))
took_server false s l packet t facts slots =
    let m = after l (OnWire (Took B packet false)) in
    keep_server l.shape.slots l.work m.work l.wire.wire m.wire.wire l.ring l.work.client refl
    (λ finished descs at. same_at l.wire.wire m.wire.wire m.work.server finished descs refl refl (at_changed l.wire.wire l.work.server _ finished descs (λ d. (refl, refl)) at)) slots
took_server true s l packet t facts slots =
    let m = after l (OnWire (Took B packet true)) in
    let none : l.work.server ≡ None = facts.opens packet refl in
    keep_server l.shape.slots l.work m.work l.wire.wire m.wire.wire l.ring l.work.client refl
    (λ finished descs at. at_opened m.wire.wire _ finished descs facts.table.0 (λ up. facts.alive _ up refl)
    (same_at l.wire.wire m.wire.wire None finished descs refl refl (subst (λ (q : Option ServerCounts). ServerAt l.wire.wire q finished descs) none at))) slots

wire_slots : (s : LaneState) (l : DiskLog) (event : WireEvent) (t : LaneState) → LaneStep s (OnWire event) t → StepFacts s l (OnWire event) t → SlotsInOrder l
    → SlotsInOrder (after l (OnWire event))
wire_slots s l (Joined A lost) t step facts slots = tt
wire_slots s l (Joined B lost) t step facts slots =
    keep_server l.shape.slots l.work (after l (OnWire (Joined B lost))).work l.wire.wire (after l (OnWire (Joined B lost))).wire.wire l.ring l.work.client refl (λ finished descs at. at_begun l.wire.wire l.work.server finished descs at) slots
wire_slots s l (Reset A cause packet lost) t step facts slots = tt
wire_slots s l (Reset B cause packet lost) t step facts slots =
    keep_server l.shape.slots l.work (after l (OnWire (Reset B cause packet lost))).work l.wire.wire (after l (OnWire (Reset B cause packet lost))).wire.wire l.ring l.work.client refl (λ finished descs at. at_begun l.wire.wire l.work.server finished descs at) slots
wire_slots s l (Took A packet false) t step facts slots =
    let adds : ClientCounts → ClientCounts =
    λ (c : ClientCounts). record c { acked = c.acked + length_in l.shape.slots (range_ended 2 (half_heard l.transcript.a) packet) } in
    keep_client l.shape.slots (after l (OnWire (Took A packet false))).work (after l (OnWire (Took A packet false))).wire.wire l.ring adds l.work.client (λ k. refl) (λ k. refl)
    (λ k is. (omega arith, facts.announced (adds k) (ap (change_client adds) is)))
    (λ k finished descs is at most. facts.acked (adds k) finished descs (ap (change_client adds) is) facts.table.0 at)
    (keep_server l.shape.slots l.work (after l (OnWire (Took A packet false))).work l.wire.wire (after l (OnWire (Took A packet false))).wire.wire l.ring l.work.client refl (λ finished descs at. same_at l.wire.wire (after l (OnWire (Took A packet false))).wire.wire l.work.server finished descs refl refl at) slots)
wire_slots s l (Took A packet true) t step facts slots = true_is_false (step.step.2)
wire_slots s l (Took B packet opens) t step facts slots = took_server opens s l packet t facts slots
wire_slots s l (Sent A packet true) t step facts slots = opened_slots s l packet t facts
wire_slots s l (Sent A packet false) t step facts slots =
    let adds : ClientCounts → ClientCounts =
    λ (c : ClientCounts). record c {
      announced = c.announced + length_in l.shape.slots (range_ended 1 (half_said l.transcript.a) packet);
      infos = c.infos + one_in (range_ended 1 (half_said l.transcript.a) packet);
    } in
    keep_client l.shape.slots (after l (OnWire (Sent A packet false))).work (after l (OnWire (Sent A packet false))).wire.wire l.ring adds l.work.client (λ k. refl) (λ k. refl)
    (λ k is. (omega arith, facts.announced (adds k) (ap (change_client adds) is)))
    (λ k finished descs is at most. most)
    (keep_server l.shape.slots l.work (after l (OnWire (Sent A packet false))).work l.wire.wire (after l (OnWire (Sent A packet false))).wire.wire l.ring l.work.client refl (λ finished descs at. same_at l.wire.wire (after l (OnWire (Sent A packet false))).wire.wire l.work.server finished descs refl refl at) slots)
wire_slots s l (Sent B packet true) t step facts slots = absurd (facts.sends packet refl)
wire_slots s l (Sent B packet false) t step facts slots =
    keep_server l.shape.slots l.work (after l (OnWire (Sent B packet false))).work l.wire.wire (after l (OnWire (Sent B packet false))).wire.wire l.ring l.work.client refl
    (λ finished descs at. same_at l.wire.wire (after l (OnWire (Sent B packet false))).wire.wire (after l (OnWire (Sent B packet false))).work.server finished descs refl refl (at_changed l.wire.wire l.work.server _ finished descs (λ d. (refl, refl)) at)) slots
wire_slots s l (Lost A packet) t step facts slots = keep_server l.shape.slots l.work (after l (OnWire (Lost A packet))).work l.wire.wire (after l (OnWire (Lost A packet))).wire.wire l.ring l.work.client refl (λ finished descs at. same_at l.wire.wire (after l (OnWire (Lost A packet))).wire.wire l.work.server finished descs refl refl at) slots
wire_slots s l (Injected A packet) t step facts slots = keep_server l.shape.slots l.work (after l (OnWire (Injected A packet))).work l.wire.wire (after l (OnWire (Injected A packet))).wire.wire l.ring l.work.client refl (λ finished descs at. same_at l.wire.wire (after l (OnWire (Injected A packet))).wire.wire l.work.server finished descs refl refl at) slots
wire_slots s l event t step facts slots =
    keep_server l.shape.slots l.work (after l (OnWire event)).work l.wire.wire (after l (OnWire event)).wire.wire l.ring l.work.client refl
    (λ finished descs at. same_at l.wire.wire (after l (OnWire event)).wire.wire l.work.server finished descs refl refl at) slots

-- THE WORK: a request is published
published_in : (s : LaneState) (l : DiskLog) (id : ℕ) (t : LaneState) → Known s l → WorkStep s (Published id) t → SlotsInOrder l → SlotsInOrder (after l (Works (Published id)))
published_in s l id t known step slots =
    let at = seen A s.shape.entries s.wire.wire in
    let p = step.step in
    let may : ClientMay s.client at (client_rules.Publishes p.session p.request) = subst (ClientMay s.client at) p.rule (client_may s.client at) in
    let of_k = of_client s l p.session may.1 known.agree in
    let k = of_k.counts in
    let new = publishing s l id p.session p.request known may.1 of_k p.id_is may.2 in
    let turn = turn_in s l k known of_k.open_is in
    let here : SlotsIn l.shape.slots l.work l.wire.wire l.ring (Some k) = subst (SlotsIn l.shape.slots l.work l.wire.wire l.ring) of_k.open_is slots in
    let m = after l (Works (Published id)) in
    let behind : SlotsIn l.shape.slots m.work l.wire.wire (published_at l.shape.slots (Some k) id l.ring) (Some (record k { published = k.published + 1 })) = (
      here.0,
      here.1,
      published_slots l.shape.slots l.work.done k.base k.announced k.published here.0 here.1 id l.ring known.ring.holds.long turn.based (omega (arith, new.since, new.number)) new.turn new.number here.2,
      here.3,
      here.4,
    ) in
    subst (λ (o : Option ClientCounts). SlotsIn l.shape.slots m.work l.wire.wire (published_at l.shape.slots o id l.ring) (change_client (λ (c : ClientCounts). record c { published = c.published + 1 }) o))
    (sym of_k.open_is) behind

-- one is done
completed_in : (s : LaneState) (l : DiskLog) (id operation status : ℕ) (bytes : List ℕ) (t : LaneState) → Known s l → WorkStep s (Done id operation status bytes) t → SlotsInOrder l
    → SlotsInOrder (after l (Works (Done id operation status bytes)))
completed_in s l id operation status bytes t known step slots =
    let found = completes_slot s l id operation status bytes t known step in
    let k = found.0 in
    let n = l.shape.slots in
    let some = some_slots s l known in
    let turn = turn_in s l k known found.1.open_is in
    let here : SlotsIn n l.work l.wire.wire l.ring (Some k) = subst (SlotsIn n l.work l.wire.wire l.ring) found.1.open_is slots in
    let first = here.2.each (l.work.done - k.base) (IsDone id status) (omega (arith, turn.based)) (omega (arith, turn.based, some)) found.1.done_is in
    let less : l.work.done - k.base < here.0 =
    finished_more k.base k.announced k.published here.0 here.1 (l.work.done - k.base) id status (IsDone id status) refl first in
    let m = after l (Works (Done id operation status bytes)) in
    let behind : SlotsIn n m.work l.wire.wire (freed_at n l.work (Some k) l.ring) (Some k) = (
      here.0,
      here.1,
      completed_slots n l.work.done k.base k.announced k.published here.0 here.1 l.ring known.ring.holds.long some turn.based turn.turn (omega (arith, less, turn.based)) here.2,
      here.3,
      here.4,
    ) in
    subst (λ (o : Option ClientCounts). SlotsIn n m.work l.wire.wire (freed_at n l.work o l.ring) o) (sym found.1.open_is) behind

-- a descriptor is fetched
at_counts : (wire : Wire) (q : Option ServerCounts) (g : ServerCounts → ServerCounts) (d : ServerCounts) (finished descs : ℕ) → q ≡ Some d → wire.end_b ≡ Up → finished ≡ (g d).finished → descs ≡ (g d).descs
    → ServerAt wire (change_server g q) finished descs
at_counts wire q g d finished descs is up same_finished same_descs = grind arith

fetched_in : (s : LaneState) (l : DiskLog) (slot : ℕ) (bytes : List ℕ) (t : LaneState) → Known s l → SessionsAgree t (after l (Works (Desc slot bytes))) → WorkStep s (Desc slot bytes) t
    → SlotsInOrder l → SlotsInOrder (after l (Works (Desc slot bytes)))
fetched_in s l slot bytes t known agree step slots =
    let at = seen B s.shape.entries s.wire.wire in
    let f = step.1.step.1.0 in
    let n = l.shape.slots in
    let next = fetched_next s l slot bytes t known agree step in
    let d = next.work.of.counts in
    let k = next.work.one.client in
    let free : ServerFree s.server (server_rules.Fetches f.session) = subst (ServerFree s.server) f.rule (server_free s.server at) in
    let none : WorkAgrees None d = subst (λ (w : Option Work). WorkAgrees w d) free.1 next.work.of.work in
    let turn = turn_in s l k known next.work.one.open_is in
    let here : SlotsIn n l.work l.wire.wire l.ring (Some k) = subst (SlotsIn n l.work l.wire.wire l.ring) next.work.one.open_is slots in
    let counts = if_server (λ (x : ServerCounts). (here.0 ≡ x.finished) × (here.1 ≡ x.descs)) l.work.server d next.work.of.open_is (here.3.works next.work.up) in
    let same : here.0 ≡ here.1 = counts.0 ∙ sym none.1 ∙ sym counts.1 in
    let before : SlotsOf n l.work.done k.base k.announced k.published here.1 here.1 l.ring = subst (λ (x : ℕ). SlotsOf n l.work.done k.base k.announced k.published x here.1 l.ring) same here.2 in
    let id = k.base + d.descs in
    let place : slot ≡ here.1 % n = next.ready.next ∙ ap (λ (x : ℕ). x % n) (sym counts.1) in
    let table : fetched_at n l.work l.work.server slot l.ring ≡ set l.ring (here.1 % n) (IsAccepted id) =
    ap (λ (q : Option ServerCounts). fetched_at n l.work q slot l.ring) next.work.of.open_is
    ∙ ap (λ (o : Option ClientCounts). set l.ring slot (IsAccepted (id_at o d.descs))) next.work.one.open_is
    ∙ ap (λ (x : ℕ). set l.ring x (IsAccepted id)) place in
    let m = after l (Works (Desc slot bytes)) in
    let one_more : OneRing t m.work (fetched_counts l bytes d) =
    subst (λ (q : Option ServerCounts). IfServer (change_server (fetched_counts l bytes) q) (OneRing t m.work)) next.work.of.open_is (agree.ring next.work.up) in
    let two : Some k ≡ Some one_more.client = sym next.work.one.open_is ∙ one_more.open_is in
    let same_client : k ≡ one_more.client = some_same two in
    let named : one_more.client.announced ≡ k.announced = ap (λ (c : ClientCounts). c.announced) (sym same_client) in
    let more : here.1 < k.announced =
    subst (λ (x : ℕ). x < k.announced) (sym counts.1) (more_published d.descs d.asked one_more.client.announced k.announced one_more.descs one_more.announced named) in
    let of = fetched_slots n l.work.done k.base k.announced k.published here.1 id l.ring known.ring.holds.long turn.based turn.turn more (ap (λ (x : ℕ). k.base + x) (sym counts.1)) before in
    let behind : SlotsIn n m.work l.wire.wire (fetched_at n l.work l.work.server slot l.ring) (Some k) = (
      here.1,
      here.1 + 1,
      subst (λ (r : List SlotLog). SlotsOf n l.work.done k.base k.announced k.published here.1 (here.1 + 1) r) (sym table) of,
      at_counts l.wire.wire l.work.server _ d here.1 (here.1 + 1) next.work.of.open_is next.work.up (sym same ∙ counts.0) (ap (λ (x : ℕ). x + 1) counts.1),
      omega (arith, here.4, same),
    ) in
    subst (SlotsIn n m.work l.wire.wire (fetched_at n l.work l.work.server slot l.ring)) (sym next.work.one.open_is) behind

-- and gets its status
finished_in : (s : LaneState) (l : DiskLog) (slot status : ℕ) (t : LaneState) → Known s l → WorkStep s (Finished slot status) t → SlotsInOrder l
    → SlotsInOrder (after l (Works (Finished slot status)))
finished_in s l slot status t known step slots =
    let at = seen B s.shape.entries s.wire.wire in
    let f = step.1.step.1.0 in
    let n = l.shape.slots in
    let may : ServerMay s.server at (server_rules.Serves f.session f.work) = subst (ServerMay s.server at) f.rule (server_may s.server at) in
    let work = at_work s l f.session known may.0 may.1 in
    let d = work.of.counts in
    let k = work.one.client in
    let has = has_work s l f.session f.work known work may.2 in
    let turn = turn_in s l k known work.one.open_is in
    let here : SlotsIn n l.work l.wire.wire l.ring (Some k) = subst (SlotsIn n l.work l.wire.wire l.ring) work.one.open_is slots in
    let counts = if_server (λ (x : ServerCounts). (here.0 ≡ x.finished) × (here.1 ≡ x.descs)) l.work.server d work.of.open_is (here.3.works work.up) in
    let next : slot ≡ d.finished % n =
    f.slot_is ∙ numbered s l f.session work f.session.finished d.finished known.stands work.of.agree.finished (finished_small d.finished d.descs d.asked has.one work.one.descs work.one.small) in
    let same : here.1 ≡ here.0 + 1 = counts.1 ∙ has.one ∙ ap (λ (x : ℕ). x + 1) (sym counts.0) in
    let before : SlotsOf n l.work.done k.base k.announced k.published here.0 (here.0 + 1) l.ring =
    subst (λ (x : ℕ). SlotsOf n l.work.done k.base k.announced k.published here.0 x l.ring) same here.2 in
    let id = k.base + d.finished in
    let of = finished_slots n l.work.done k.base k.announced k.published here.0 id status l.ring known.ring.holds.long turn.based turn.turn (ap (λ (x : ℕ). k.base + x) (sym counts.0)) before in
    let place : slot ≡ here.0 % n = next ∙ ap (λ (x : ℕ). x % n) (sym counts.0) in
    let table : finished_at n l.work l.work.server slot status l.ring ≡ set l.ring (here.0 % n) (IsDone id status) =
    ap (λ (q : Option ServerCounts). finished_at n l.work q slot status l.ring) work.of.open_is
    ∙ ap (λ (o : Option ClientCounts). set l.ring slot (IsDone (id_at o d.finished) status)) work.one.open_is
    ∙ ap (λ (x : ℕ). set l.ring x (IsDone id status)) place in
    let m = after l (Works (Finished slot status)) in
    let behind : SlotsIn n m.work l.wire.wire (finished_at n l.work l.work.server slot status l.ring) (Some k) = (
      here.0 + 1,
      here.0 + 1,
      subst (λ (r : List SlotLog). SlotsOf n l.work.done k.base k.announced k.published (here.0 + 1) (here.0 + 1) r) (sym table) of,
      at_counts l.wire.wire l.work.server _ d (here.0 + 1) (here.0 + 1) work.of.open_is work.up (ap (λ (x : ℕ). x + 1) counts.0) (sym same ∙ counts.1),
      omega (arith, here.4),
    ) in
    subst (SlotsIn n m.work l.wire.wire (finished_at n l.work l.work.server slot status l.ring)) (sym work.one.open_is) behind

work_slots : (s : LaneState) (l : DiskLog) (event : Worked) (t : LaneState) → WorkStep s event t → StepFacts s l (Works event) t → SlotsInOrder l → SlotsInOrder (after l (Works event))
work_slots s l (Published id) t step facts slots = published_in s l id t facts.known step slots
work_slots s l (Done id operation status bytes) t step facts slots = completed_in s l id operation status bytes t facts.known step slots
work_slots s l (Desc slot bytes) t step facts slots = fetched_in s l slot bytes t facts.known facts.agree step slots
work_slots s l (Finished slot status) t step facts slots = finished_in s l slot status t facts.known step slots
work_slots s l (Moved unit fault) t step facts slots =
    keep_server l.shape.slots l.work (after l (Works (Moved unit fault))).work l.wire.wire l.wire.wire l.ring l.work.client refl
    (λ finished descs at. at_changed l.wire.wire l.work.server _ finished descs (λ d. (refl, refl)) at) slots
work_slots s l (Stored operation block count failed) t step facts slots =
    keep_server l.shape.slots l.work (after l (Works (Stored operation block count failed))).work l.wire.wire l.wire.wire l.ring l.work.client refl
    (λ finished descs at. at_changed l.wire.wire l.work.server _ finished descs (λ d. (refl, refl)) at) slots
work_slots s l Misplaced t step facts slots = absurd step

-- EACH EVENT
pub event_slots : (s : LaneState) (l : DiskLog) (event : DiskEvent) (t : LaneState) → LaneStep s event t → StepFacts s l event t → SlotsInOrder l → SlotsInOrder (after l event)
event_slots s l (OnWire event) t step facts slots = wire_slots s l event t step facts slots
event_slots s l (Works event) t step facts slots = work_slots s l event t step facts slots
event_slots s l (Switches Stopped) t step facts slots =
    keep_server l.shape.slots l.work (after l (Switches Stopped)).work l.wire.wire (closed B l.wire.wire) l.ring l.work.client refl (λ finished descs at. at_closed l.wire.wire l.work.server finished descs at) slots
event_slots s l (Asks (Accepted id request)) t step facts slots = slots
event_slots s l event t step facts slots = slots
