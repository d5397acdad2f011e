-- What a unit that is read or stored, a fetched descriptor, and the end of one are to a lane's view.
use Rattle.std.proofs.Common.{◌≡◌, ℕ, ◌+◌, ◌*◌, ◌/◌, ◌^◌, ◌<◌, ◌≤◌, Bool, false, Option, Some, None, List, drop, length, refl, sym, ap, ◌∙◌, subst, arith}
use Rattle.std.specs.Prelude.{slice_get, ◌==◌, if◌then◌else◌}
use Rattle.ldc_queue.specs.declared.end.End.TheVariants.{B}
use Rattle.vdisk_msg.proofs.Written.{requested_is_sound}
use Rattle.vdisk_msg.specs.Check.{first_defect}
use Rattle.vdisk_msg.specs.declared.desc.DiskDesc.{DiskDesc}
use Rattle.vdisk_msg.specs.declared.request.Request.{Request}
use Rattle.vdisk_msg.specs.declared.request.Request.TheVariants.{Flush, Read, Write}
use Rattle.vdisk_msg.specs.Descriptor as slot_says
use Rattle.vdisk_msg.specs.Requested.{block_of, descriptor_of, size_of}
use Rattle.vdisk_msg.specs.Requests.{operation_of}
use Rattle.vio_bytes.specs.Place.{put_at}
use Rattle.vio_bytes.specs.Range.{range_at}
use Rattle.lane_models.proofs.Apart.{some_same}
use Rattle.lane_laws.specs.Agreement.{WorkAgrees}
use Rattle.lane_laws.specs.DiskLog.{DiskLog}
use Rattle.lane_laws.specs.WorkLog.{ClientCounts}
use Rattle.lane_models.specs.DiskEvent.{Desc, Stored as StoredUnit, Works}
use Rattle.lane_models.specs.LaneState.{LaneState, NearCounts, pages_of, risen}
use Rattle.lane_models.specs.LaneStep.{ServerWorks, WorkStep, reach, stored_blocks}
use Rattle.lane_models.specs.Seeing.{seen}
use Rattle.lane_models.specs.ServerRule as server_rules
use Rattle.lane_models.specs.ServerState.{Ends, Flushes, Gives, Progress, Reads, ServerState, Work, Writes}
use Rattle.lane_models.specs.ServerWork.{StoresIn, first_progress, gathers_next, header_of, unit_length, with_word}
use Rattle.lane_laws.proofs.RingServer.{header_long}
use Rattle.lane_laws.proofs.RingWork.{fetched_next}
use Rattle.lane_laws.proofs.StandingRuns.{slots_is as slots_are}
use Rattle.lane_laws.proofs.RulesFree.{ServerFree, server_free}
use Rattle.lane_laws.proofs.Ruling.{server_may}
use Rattle.lane_laws.proofs.SlotBytes.{reads_back, stated}
use Rattle.lane_laws.proofs.RingSessions.{sizes_of}
use Rattle.lane_laws.proofs.RingClientSteps.{got_at}
use Rattle.lane_laws.proofs.SlotsStepping.{StepFacts}
use Rattle.lane_laws.specs.RingAgreed.{ring_in}
use Rattle.lane_laws.specs.RuleFacts.{ServerMay}
use Rattle.lane_laws.specs.Contents.{ContentsStand, ProgressIs}
use Rattle.lane_laws.specs.ImageStep.{StoreDoes, UnitDoes}
use Rattle.lane_laws.specs.LaneView.{view_of, work_while}
use Rattle.lane_laws.proofs.BehindRing.{ring_end, word_behind}
use Rattle.lane_laws.proofs.Changes.{Fetched, Flushed, ImageChange, IsChange, Kind, Looked, Stored, content_behind, first_of}
use Rattle.lane_laws.proofs.PlacedViews.{live}
use Rattle.lane_laws.proofs.ServerChanges.{ServesNow, server_view, serves_now}
use Rattle.lane_laws.proofs.Standing.{Before}
use Rattle.lane_laws.proofs.WireChanges.{Changed, none_works}
use Rattle.lane_laws.proofs.WorkSteps.{unit_blocks}

-- A UNIT THAT IS STORED, with what the store gave in the step
pub record StoredChange (s : LaneState) (gave : List ℕ) (block : ℕ) (t : LaneState) : Type 0 where
  pub kind : Kind
  pub change : IsChange kind (view_of s) (view_of t)
  pub does : (image next : List ℕ) → StoreDoes false s.server.work block gave image next → ImageChange kind (view_of s) (view_of t) change image next
  pub content : (content : List ℕ) → content_behind kind content s.client.pending ≡ content

-- what is known of the step beside its unit
record StoreParts (s : LaneState) (l : DiskLog) (work : Work) (operation count : ℕ) (next : Progress) (t : LaneState) : Type 0 where
  client : t.client ≡ s.client
  wire : t.wire ≡ s.wire
  k : t.near.k ≡ s.near.k
  m : t.near.m ≡ s.near.m
  u : t.near.u ≡ stored_blocks operation count false s.near.u
  work_is : t.server.work ≡ Some (record work { progress = next })
  memory : t.memory ≡ s.memory
  held : s.server.work ≡ Some work

does_of : (o : Option Work) (work : Work) (p : Progress) (block : ℕ) (gave image next : List ℕ) → o ≡ Some work → work.progress ≡ p → StoreDoes false o block gave image next → UnitDoes p block gave image next
does_of o work p block gave image next is progress does = grind arith

blocks_other : (operation count u one : ℕ) → operation ≡ one → (one == 2) ≡ false → stored_blocks operation count false u ≡ u
blocks_other operation count u one is test = ap (λ (n : ℕ). if n == 2 then risen u count else u) is ∙ ap (λ (b : Bool). if b then risen u count else u) test

blocks_stored : (operation count u : ℕ) → operation ≡ 2 → u + count ≤ 65536 → stored_blocks operation count false u ≡ u + count
blocks_stored operation count u is few = grind arith

read_change : (s : LaneState) (l : DiskLog) (u : ℕ) (work : Work) (operation block count : ℕ) (gave : List ℕ) (next : Progress) (t : LaneState) → (serves : ServesNow s l work) → work.progress ≡ Reads u
    → StoresIn (Reads u) work operation block count false gave next → StoreParts s l work operation count next t → (request : Request) → serves.on.request ≡ request → ProgressIs (Reads u) s.near.u request
    → StoredChange s gave block t
read_change s l u work operation block count gave next t serves progress stores parts (Write first n fill) is fits = absurd fits
read_change s l u work operation block count gave next t serves progress stores parts Flush is fits = absurd fits
read_change s l u work operation block count gave next t serves progress stores parts (Read first n) is fits =
    let on = serves.on in
    let says = serves.facts.says in
    let block_is : block ≡ first + 16 * u = stores.0.block_is ∙ ap (λ (b : ℕ). b + 16 * u) (says.offset ∙ ap block_of is) in
    record {
      kind = Looked;
      change = record {
        session = on.live.session;
        unit = u;
        gave = gave;
        block = first;
        count = n;
        serves = record {
          work = work;
          there = on.live.there;
          now = serves.now;
          progress = progress;
          next = on.next ∙ ap (λ (q : Request). Some q) is;
          is =
              server_view s t (Some (record work { progress = Gives u gave })) s.near.k s.near.u (view_of s).buffers parts.client parts.wire serves.up
              (parts.work_is ∙ ap (λ (p : Progress). Some (record work { progress = p })) stores.2) parts.k parts.m
              (parts.u ∙ blocks_other operation count s.near.u 1 stores.0.operation_is refl) (ap (drop (ring_end s.client.slots)) parts.memory);
        };
        long = stores.1 ∙ ap (λ (m : ℕ). unit_length m u) (says.size ∙ ap size_of is);
      };
      does = λ image other done.
          let unit = does_of s.server.work work (Reads u) block gave image other parts.held progress done in
          (unit.0 ∙ ap (λ (b : ℕ). range_at (512 * b) (length gave) image) block_is, unit.1);
      content = λ content. refl;
    }

write_change : (s : LaneState) (l : DiskLog) (u : ℕ) (bytes : List ℕ) (work : Work) (operation block count : ℕ) (gave : List ℕ) (next : Progress) (t : LaneState) → (serves : ServesNow s l work)
    → work.progress ≡ Writes u bytes → StoresIn (Writes u bytes) work operation block count false gave next → StoreParts s l work operation count next t → (request : Request) → serves.on.request ≡ request
    → ProgressIs (Writes u bytes) s.near.u request → (size_of request ≤ 32768) → StoredChange s gave block t
write_change s l u bytes work operation block count gave next t serves progress stores parts (Read first n) is fits small = absurd fits
write_change s l u bytes work operation block count gave next t serves progress stores parts Flush is fits small = absurd fits
write_change s l u bytes work operation block count gave next t serves progress stores parts (Write first n fill) is fits small =
    let on = serves.on in
    let says = serves.facts.says in
    let block_is : block ≡ first + 16 * u = stores.0.block_is ∙ ap (λ (b : ℕ). b + 16 * u) (says.offset ∙ ap block_of is) in
    let long = unit_blocks n u fill bytes fits.1 fits.2 in
    let count_is = stores.0.count_is in
    let few : s.near.u + count ≤ 65536 = omega (arith, fits.0, fits.1, long, count_is, small) in
    record {
      kind = Stored;
      change = record {
        session = on.live.session;
        unit = u;
        bytes = bytes;
        block = first;
        count = n;
        fill = fill;
        serves = record {
          work = work;
          there = on.live.there;
          now = serves.now;
          progress = progress;
          next = on.next ∙ ap (λ (q : Request). Some q) is;
          is =
              server_view s t (Some (record work { progress = gathers_next (512 * n) u })) s.near.k (s.near.u + length bytes / 512) (view_of s).buffers parts.client parts.wire serves.up
              (parts.work_is ∙ ap (λ (p : Progress). Some (record work { progress = p })) (stores.2 ∙ ap (λ (m : ℕ). gathers_next m u) (says.size ∙ ap size_of is))) parts.k parts.m
              (parts.u ∙ blocks_stored operation count s.near.u stores.0.operation_is few ∙ ap (λ (m : ℕ). s.near.u + m) count_is) (ap (drop (ring_end s.client.slots)) parts.memory);
        };
      };
      does = λ image other done.
          does_of s.server.work work (Writes u bytes) block gave image other parts.held progress done ∙ ap (λ (b : ℕ). put_at (512 * b) bytes image) block_is;
      content = λ content. refl;
    }

flush_change : (s : LaneState) (l : DiskLog) (work : Work) (operation block count : ℕ) (gave : List ℕ) (next : Progress) (t : LaneState) → (serves : ServesNow s l work) → work.progress ≡ Flushes
    → StoresIn Flushes work operation block count false gave next → StoreParts s l work operation count next t → (request : Request) → serves.on.request ≡ request → ProgressIs Flushes s.near.u request
    → StoredChange s gave block t
flush_change s l work operation block count gave next t serves progress stores parts (Read first n) is fits = absurd fits
flush_change s l work operation block count gave next t serves progress stores parts (Write first n fill) is fits = absurd fits
flush_change s l work operation block count gave next t serves progress stores parts Flush is fits =
    let on = serves.on in
    record {
      kind = Flushed;
      change = record {
        session = on.live.session;
        serves = record {
          work = work;
          there = on.live.there;
          now = serves.now;
          progress = progress;
          next = on.next ∙ ap (λ (q : Request). Some q) is;
          is =
              server_view s t (Some (record work { progress = Ends 0 })) s.near.k s.near.u (view_of s).buffers parts.client parts.wire serves.up
              (parts.work_is ∙ ap (λ (p : Progress). Some (record work { progress = p })) stores.4) parts.k parts.m
              (parts.u ∙ blocks_other operation count s.near.u 3 stores.0 refl) (ap (drop (ring_end s.client.slots)) parts.memory);
        };
      };
      does = λ image other done. does_of s.server.work work Flushes block gave image other parts.held progress done;
      content = λ content. refl;
    }

stores_by : (p : Progress) (s : LaneState) (l : DiskLog) (work : Work) (operation block count : ℕ) (gave : List ℕ) (next : Progress) (t : LaneState) → (serves : ServesNow s l work) → work.progress ≡ p
    → StoresIn p work operation block count false gave next → StoreParts s l work operation count next t → ProgressIs p s.near.u serves.on.request → StoredChange s gave block t
stores_by (Reads u) s l work operation block count gave next t serves progress stores parts fits = read_change s l u work operation block count gave next t serves progress stores parts serves.on.request refl fits
stores_by (Writes u bytes) s l work operation block count gave next t serves progress stores parts fits =
    write_change s l u bytes work operation block count gave next t serves progress stores parts serves.on.request refl fits serves.facts.small
stores_by Flushes s l work operation block count gave next t serves progress stores parts fits = flush_change s l work operation block count gave next t serves progress stores parts serves.on.request refl fits
stores_by _ s l work operation block count gave next t serves progress stores parts fits = absurd stores

pub stored_changes : (s : LaneState) (l : DiskLog) (operation block count : ℕ) (gave : List ℕ) (t : LaneState) → Before s l → ContentsStand (view_of s)
    → ServerWorks s gave (StoredUnit operation block count false) t → StoredChange s gave block t
stored_changes s l operation block count gave t before contents step =
    let at = seen B s.shape.entries s.wire.wire in
    let m = step.step.1.0 in
    let may : ServerMay s.server at (server_rules.Serves m.session m.work) = subst (ServerMay s.server at) m.rule (server_may s.server at) in
    let serves = serves_now s l m.work before may.0 may.2 in
    stores_by m.work.progress s l m.work operation block count gave m.next t serves refl m.stores
    (record {
      client = ap (λ (x : LaneState). x.client) step.is;
      wire = ap (λ (x : LaneState). x.wire) step.is;
      k = ap (λ (x : LaneState). x.near.k) step.is;
      m = ap (λ (x : LaneState). x.near.m) step.is;
      u = ap (λ (x : LaneState). x.near.u) step.is;
      work_is = ap (λ (x : ServerState). x.work) m.is;
      memory = step.step.1.1;
      held = may.2;
    })
    (contents.work m.work serves.now serves.on.request serves.on.next)

-- A DESCRIPTOR IS FETCHED
first_progress_is : (blocks : ℕ) (desc : DiskDesc) (request : Request) → first_defect desc blocks 0x0e ≡ None → desc.operation ≡ operation_of request → first_progress blocks desc ≡ first_of request
first_progress_is blocks desc request sound operation = grind arith

descriptor_is : (id : ℕ) (request : Request) (slot slots : ℕ) → stated id request slot slots 2 0 ≡ descriptor_of id request slot slots
unfolding descriptor_of
descriptor_is id request slot slots = refl

asks_operation : (id : ℕ) (request : Request) (slot slots : ℕ) → (descriptor_of id request slot slots).operation ≡ operation_of request
unfolding descriptor_of
asks_operation id request slot slots = refl

fetched_place : (done k id first descs base finished : ℕ) → id ≡ first + descs → first ≡ base → base + finished ≡ done + k → descs ≡ finished → done + k ≡ id
fetched_place done k id first descs base finished number same at none = omega arith

ready_small : 2 < 2 ^ 8
ready_small = omega arith

pub fetched_changes : (s : LaneState) (l : DiskLog) (slot : ℕ) (bytes : List ℕ) (t : LaneState) → Before s l → StepFacts s l (Works (Desc slot bytes)) t → WorkStep s (Desc slot bytes) t
    → Changed s (Works (Desc slot bytes)) t
fetched_changes s l slot bytes t before facts step =
    let at = seen B s.shape.entries s.wire.wire in
    let known = before.known in
    let r = reach s at.both in
    let f = step.1.step.1.0 in
    let next = fetched_next s l slot bytes t known facts.agree step in
    let d = next.work.of.counts in
    let free : ServerFree s.server (server_rules.Fetches f.session) = subst (ServerFree s.server) f.rule (server_free s.server at) in
    let may : ServerMay s.server at (server_rules.Fetches f.session) = subst (ServerMay s.server at) f.rule (server_may s.server at) in
    let none : WorkAgrees None d = subst (λ (w : Option Work). WorkAgrees w d) free.1 next.work.of.work in
    let on = live s l d before next.work.up next.work.of.open_is in
    let two : Some next.work.one.client ≡ Some on.one.client = sym next.work.one.open_is ∙ on.one.open_is in
    let same : next.work.one.client ≡ on.one.client = some_same two in
    let base : next.work.one.client.base ≡ on.one.client.base = ap (λ (c : ClientCounts). c.base) same in
    let ready = next.ready in
    let request = ready.holds.request in
    let place : l.work.done + s.near.k ≡ ready.id = fetched_place l.work.done s.near.k ready.id next.work.one.client.base d.descs on.one.client.base d.finished ready.number base on.number none.1 in
    let sizes = sizes_of s l slot known.pages ready.below in
    let read = reads_back (ring_in l) slot ready.id 2 0 bytes sizes ready_small ready.holds ∙ descriptor_is ready.id request slot l.shape.slots in
    let sound : first_defect (slot_says.disk_desc_of bytes) s.server.blocks 0x0e ≡ None =
    ap (λ (n : ℕ). first_defect (slot_says.disk_desc_of bytes) n 0x0e) before.knows.counted.server.blocks
    ∙ ap (λ (x : DiskDesc). first_defect x l.shape.blocks 0x0e) read ∙ requested_is_sound l.shape.blocks ready.id request slot l.shape.slots ready.holds.admitted in
    let operation : (slot_says.disk_desc_of bytes).operation ≡ operation_of request = ap (λ (x : DiskDesc). x.operation) read ∙ asks_operation ready.id request slot l.shape.slots in
    let reaches = next.work.reaches at.both in
    let slots = slots_are s l known.stands in
    let new = with_word s.server r slot 0 (header_of 3 bytes) in
    let behind : drop (ring_end s.client.slots) t.memory ≡ (view_of s).buffers =
    ap (drop (ring_end s.client.slots)) f.marked_is
    ∙ subst (λ (n : ℕ). drop (ring_end n) new ≡ drop (ring_end n) s.memory) (sym slots)
    (word_behind s.server r (pages_of l.shape) l.shape.slots slot 0 (header_of 3 bytes) reaches ready.below (omega arith) (header_long 3 bytes) f.marked) in
    let near : t.near ≡ s.near = ap (λ (x : LaneState). x.near) step.1.is in
    record {
      kind = Fetched;
      change = record {
        request = request;
        work = record { bytes = bytes; progress = first_progress s.server.blocks (slot_says.disk_desc_of bytes) };
        idle = ap (work_while s.wire.wire.end_b) free.1 ∙ none_works s.wire.wire.end_b;
        next = ap (λ (xs : List Request). slice_get xs s.near.k) known.stands.requests.pending ∙ got_at l.work.issued l.work.done s.near.k ∙ ap (slice_get l.work.issued) place ∙ ready.holds.accepted;
        first = first_progress_is s.server.blocks (slot_says.disk_desc_of bytes) request sound operation;
        is =
            server_view s t (Some (record { bytes = bytes; progress = first_progress s.server.blocks (slot_says.disk_desc_of bytes) })) s.near.k s.near.u (view_of s).buffers (ap (λ (x : LaneState). x.client) step.1.is)
            (ap (λ (x : LaneState). x.wire) step.1.is) may.0 (ap (λ (x : ServerState). x.work) f.is) (ap (λ (n : NearCounts). n.k) near) (ap (λ (n : NearCounts). n.m) near) (ap (λ (n : NearCounts). n.u) near) behind;
      };
      still = λ image other same_image. same_image;
      content = λ content. refl;
    }
