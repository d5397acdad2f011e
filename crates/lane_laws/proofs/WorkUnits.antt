-- A unit of the descriptor in work: its cookies are those of its request's buffer, and its copies are answered.
use Rattle.std.proofs.Common.{◌≡◌, ℕ, ◌+◌, ◌*◌, ◌%◌, ◌<◌, ◌≤◌, Bool, true, None, List, drop, take, length, refl, sym, ap, ◌∙◌, subst, arith}
use Rattle.std.specs.Prelude.{◌&&◌}
use Rattle.cookie_copy.specs.declared.fault.Access.{Access}
use Rattle.cookie_copy.specs.declared.fault.Access.TheVariants as access
use Rattle.cookie_copy.specs.Faults.{first_copy_fault, is_up}
use Rattle.cookie_copy.specs.Moved.{moved_in, moved_out}
use Rattle.ldc_queue.specs.declared.end.ChannelState.{ChannelState}
use Rattle.ldc_queue.specs.declared.end.ChannelState.TheVariants.{Up}
use Rattle.ldc_queue.specs.declared.end.End.TheVariants.{B}
use Rattle.vdisk_msg.specs.declared.request.Request.{Request}
use Rattle.vdisk_msg.specs.Requested.{buffer_cookies, buffer_place, cookie_count, size_of}
use Rattle.vio_bytes.specs.Place.{put_at}
use Rattle.vio_bytes.specs.Range.{range_at}
use Rattle.lane_models.specs.WireLog.{WireLog}
use Rattle.lane_laws.specs.DiskLog.{DiskLog}
use Rattle.lane_models.specs.LaneState.{LaneState, pages_of}
use Rattle.lane_models.specs.LaneStep.{reach}
use Rattle.lane_models.specs.Seeing.{seen}
use Rattle.lane_models.specs.ServerState.{Work}
use Rattle.lane_models.specs.ServerWork.{data_cookies}
use Rattle.lane_laws.proofs.RingEnds.{work_below}
use Rattle.lane_laws.proofs.RingSessions.{sizes_of}
use Rattle.lane_laws.proofs.RingWork.{memory_is}
use Rattle.lane_laws.proofs.StandingRuns.{slots_is as slots_are}
use Rattle.lane_laws.proofs.SlotBytes.{fetched_cookies, request_size}
use Rattle.lane_laws.specs.MemoryStands.{memory_long}
use Rattle.lane_laws.specs.RingAgreed.{ring_in}
use Rattle.lane_laws.specs.LaneView.{place_of, view_of}
use Rattle.lane_laws.proofs.BehindRing.{ring_end}
use Rattle.lane_laws.proofs.PlacedViews.{Working}
use Rattle.lane_laws.proofs.Standing.{Before}
use Rattle.lane_laws.proofs.UnitCopies.{WorkSays, says, unit_answered, unit_gathered, unit_given}

pub record UnitFacts (s : LaneState) (l : DiskLog) (work : Work) (on : Working s l work) : Type 0 where
  pub below : on.at.of.counts.finished % l.shape.slots < l.shape.slots
  pub cookies : data_cookies work
      ≡ take (cookie_count (size_of on.request)) (buffer_cookies (buffer_place l.shape.slots (on.at.of.counts.finished % l.shape.slots)) (size_of on.request))
  pub says : WorkSays work on.request
  pub both : (seen B s.shape.entries s.wire.wire).both ≡ true
  pub place : 32768 * (on.at.of.counts.finished % l.shape.slots) ≡ place_of s.client.slots on.live.session s.near.k
  pub long : length s.memory ≡ memory_long l.shape.slots
  pub slots : s.client.slots ≡ l.shape.slots
  pub small : size_of on.request ≤ 32768

pub both_are : (a b : ChannelState) → a ≡ Up → b ≡ Up → (is_up a && is_up b) ≡ true
both_are a b first second = rw (first, second) refl

pub unit_facts : (s : LaneState) (l : DiskLog) (work : Work) → Before s l → (on : Working s l work) → UnitFacts s l work on
unit_facts s l work before on =
    let known = before.known in
    let d = on.at.of.counts in
    let slot = d.finished % l.shape.slots in
    let below = work_below s l d known in
    let sizes = sizes_of s l slot known.pages below in
    let slots = slots_are s l known.stands in
    let up_a : s.wire.wire.end_a ≡ Up = subst (λ (w : WireLog). w.wire.end_a ≡ Up) (sym known.stands.wire) (before.alive d on.at.up on.at.of.open_is) in
    let up_b : s.wire.wire.end_b ≡ Up = subst (λ (w : WireLog). w.wire.end_b ≡ Up) (sym known.stands.wire) on.at.up in
    record {
      below = below;
      cookies = fetched_cookies (ring_in l) slot on.id work.bytes sizes on.holds
          ∙ ap (λ (r : Request). take (cookie_count (size_of r)) (buffer_cookies (buffer_place l.shape.slots slot) (size_of r))) on.of_holds;
      says = subst (WorkSays work) on.of_holds (says (ring_in l) slot on.id work sizes on.holds);
      both = both_are s.wire.wire.end_a s.wire.wire.end_b up_a up_b;
      place = ap (λ (n : ℕ). 32768 * (n % l.shape.slots)) (sym on.number) ∙ ap (λ (n : ℕ). 32768 * ((on.live.session.completed + s.near.k) % n)) (sym slots);
      long = memory_is s l known;
      slots = slots;
      small = subst (λ (r : Request). size_of r ≤ 32768) on.of_holds (request_size (ring_in l) slot on.id 2 0 work.bytes on.holds);
    }

-- A COPY is answered
pages_room : (s : LaneState) (l : DiskLog) (work : Work) (on : Working s l work) → UnitFacts s l work on
    → buffer_place l.shape.slots (on.at.of.counts.finished % l.shape.slots) + size_of on.request ≤ 8192 * pages_of l.shape
pages_room s l work on facts =
    let below = facts.below in
    let small = facts.small in
    omega (arith, below, small)

pub answered : (kind : Access) (s : LaneState) (l : DiskLog) (work : Work) (u n : ℕ) → Before s l → (on : Working s l work) → UnitFacts s l work on → size_of on.request % 8 ≡ 0
    → 8192 * u + n ≤ size_of on.request → n % 8 ≡ 0
    → first_copy_fault (seen B s.shape.entries s.wire.wire).both kind s.table (data_cookies work) (8192 * u) n ≡ None
answered kind s l work u n before on facts whole within even =
    let slot = on.at.of.counts.finished % l.shape.slots in
    let at : buffer_place l.shape.slots slot % 8 ≡ 0 = omega arith in
    ap (λ (up : Bool). first_copy_fault up kind s.table (data_cookies work) (8192 * u) n) facts.both
    ∙ unit_answered kind s.table (pages_of l.shape) (buffer_place l.shape.slots slot) (size_of on.request) u n (data_cookies work) before.known.pages.identity whole at
    (pages_room s l work on facts) within even facts.cookies

-- what is copied in, and where what is copied out goes
pub copied_in : (s : LaneState) (l : DiskLog) (work : Work) (u n : ℕ) → Before s l → (on : Working s l work) → UnitFacts s l work on → 8192 * u + n ≤ size_of on.request
    → first_copy_fault (seen B s.shape.entries s.wire.wire).both access.Read s.table (data_cookies work) (8192 * u) n ≡ None
    → moved_in s.table s.memory (data_cookies work) (8192 * u) n ≡ range_at (place_of s.client.slots on.live.session s.near.k + 8192 * u) n (view_of s).buffers
copied_in s l work u n before on facts within none =
    let slot = on.at.of.counts.finished % l.shape.slots in
    unit_gathered (reach s (seen B s.shape.entries s.wire.wire).both) (pages_of l.shape) l.shape.slots slot (size_of on.request) u n (data_cookies work) before.known.pages.identity facts.small facts.below facts.long within
    facts.cookies none
    ∙ ap (λ (p : ℕ). range_at (p + 8192 * u) n (drop (ring_end l.shape.slots) s.memory)) facts.place
    ∙ ap (λ (m : ℕ). range_at (place_of s.client.slots on.live.session s.near.k + 8192 * u) n (drop (ring_end m) s.memory)) (sym facts.slots)

pub copied_out : (s : LaneState) (l : DiskLog) (work : Work) (u : ℕ) (bytes : List ℕ) → Before s l → (on : Working s l work) → UnitFacts s l work on
    → first_copy_fault (seen B s.shape.entries s.wire.wire).both access.Write s.table (data_cookies work) (8192 * u) (length bytes) ≡ None
    → drop (ring_end s.client.slots) (moved_out s.table s.memory (data_cookies work) (8192 * u) bytes)
    ≡ put_at (place_of s.client.slots on.live.session s.near.k + 8192 * u) bytes (view_of s).buffers
copied_out s l work u bytes before on facts none =
    let slot = on.at.of.counts.finished % l.shape.slots in
    let new = moved_out s.table s.memory (data_cookies work) (8192 * u) bytes in
    ap (λ (m : ℕ). drop (ring_end m) new) facts.slots
    ∙ unit_given (reach s (seen B s.shape.entries s.wire.wire).both) (pages_of l.shape) l.shape.slots slot (size_of on.request) u bytes (data_cookies work) before.known.pages.identity facts.small facts.below facts.long
    facts.cookies none
    ∙ ap (λ (p : ℕ). put_at (p + 8192 * u) bytes (drop (ring_end l.shape.slots) s.memory)) facts.place
    ∙ ap (λ (m : ℕ). put_at (place_of s.client.slots on.live.session s.near.k + 8192 * u) bytes (drop (ring_end m) s.memory)) (sym facts.slots)
