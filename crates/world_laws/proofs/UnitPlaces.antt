-- A unit that a server stores lies within the blocks of its descriptor, and they within the disk, also where somebody forges packets and memory
-- and where the store fails.
use Rattle.std.proofs.Common.{◌≡◌, ◌⊎◌, ℕ, ◌+◌, ◌*◌, ◌/◌, ◌%◌, ◌<◌, ◌≤◌, Bool, true, false, Option, Some, None, List, drop, take, length, inl, inr, refl, ap, subst, arith}
use Rattle.std.specs.Prelude.{if◌then◌else◌, not}
use Rattle.std.proofs.lemmas.Bool.{and_parts, eqb-true, leb-true}
use Rattle.vdisk_msg.specs.Check.{first_defect, moves_data}
use Rattle.vdisk_msg.specs.declared.desc.DescFault.TheVariants as fault
use Rattle.vdisk_msg.specs.declared.desc.DiskDesc.{DiskDesc}
use Rattle.vdisk_msg.specs.Pieces.{unit_count}
use Rattle.vio_bytes.proofs.Putting.{drop-put_at, length-put_at, take-put_at}
use Rattle.vio_bytes.specs.Place.{put_at}
use Rattle.vio_io.specs.Stores.{KeepsOutside}
use Rattle.lane_laws.specs.DiskLog.{DiskLog}
use Rattle.lane_models.specs.DiskEvent.{Stored}
use Rattle.lane_models.specs.LaneState.{LaneState}
use Rattle.lane_models.specs.LaneStep.{ServerWorks}
use Rattle.lane_models.specs.Served.{StoreDoes, StoreDoesIn, StoreWrites, place_in}
use Rattle.lane_models.specs.ServerState.{Ends, Flushes, Gathers, Gives, Progress, Reads, ServerState, Work, Writes}
use Rattle.lane_models.specs.ServerStep.{ServerStores}
use Rattle.lane_models.specs.ServerWork.{StoresIn, desc_of, unit_length}
use Rattle.lane_laws.proofs.RulesFree.{ServerFree, server_free}
use Rattle.lane_laws.specs.Counted.{UnitFits, UnitIn}
use Rattle.lane_laws.proofs.WorkNumbers.{at_server}
use Rattle.lane_laws.specs.Units.{UnitIs, WorkIs}
use Rattle.world_laws.proofs.Checking.{CheckedBy, IsChecked, ServesChecked}

-- A DESCRIPTOR without a defect that moves data: its blocks are whole, and within the disk
record FitsDisk (desc : DiskDesc) (blocks : ℕ) : Type 0 where
  whole : desc.size % 512 ≡ 0
  within : desc.offset + desc.size / 512 ≤ blocks

checked_if : (allowed moves cookies size within : Bool)
    → (if not allowed then Some fault.Operation else if not moves then None else if not cookies then Some fault.Cookies else if not size then Some fault.Size else if not within then Some fault.Range else None) ≡ None
    → moves ≡ true → (size ≡ true) × (within ≡ true)
checked_if allowed moves cookies size within none is = grind arith

fits_disk : (desc : DiskDesc) (blocks : ℕ) → first_defect desc blocks 0x0e ≡ None → moves_data desc.operation ≡ true → FitsDisk desc blocks
fits_disk desc blocks none moves = grind (arith, checked_if, eqb-true, and_parts, leb-true)

-- WHAT A UNIT WROTE: nothing outside of its descriptor's blocks
pub record Wrote (desc : DiskDesc) (first : ℕ) (store : List ℕ) (told : Option (List ℕ)) : Type 0 where
  pub now : List ℕ
  pub told_is : told ≡ Some now
  pub long : length now ≡ length store
  pub at : ℕ
  pub past : ℕ
  pub before : take at now ≡ take at store
  pub behind : drop past now ≡ drop past store
  pub begins : 512 * (first + desc.offset) ≤ at
  pub ends : past ≤ 512 * (first + desc.offset) + desc.size
  pub writes : desc.operation ≡ 2

abbrev pub Stores : DiskDesc → ℕ → List ℕ → Option (List ℕ) → Type 0
Stores desc first store told = (told ≡ Some store) ⊎ Wrote desc first store told

kept : (desc : DiskDesc) (first at n : ℕ) (store : List ℕ) (told : Option (List ℕ)) → KeepsOutside (Some store) told at n → 512 * (first + desc.offset) ≤ at
    → at + n ≤ 512 * (first + desc.offset) + desc.size → desc.operation ≡ 2 → Wrote desc first store told
kept desc first at n store None keeps begins ends writes = absurd keeps
kept desc first at n store (Some now) keeps begins ends writes =
    record { now = now; told_is = refl; long = keeps.0; at = at; past = at + n; before = keeps.1; behind = keeps.2; begins = begins; ends = ends; writes = writes }

put_keeps : (at : ℕ) (bytes store now : List ℕ) → now ≡ put_at at bytes store → at + length bytes ≤ length store → KeepsOutside (Some store) (Some now) at (length bytes)
put_keeps at bytes store now is room = grind (arith, length-put_at, take-put_at, drop-put_at)

write_keeps : (failed : Bool) (store : List ℕ) (told : Option (List ℕ)) (at : ℕ) (bytes : List ℕ) → StoreWrites failed (Some store) told at bytes → at + length bytes ≤ length store
    → KeepsOutside (Some store) told at (length bytes)
write_keeps failed store told at bytes does room = grind (arith, length-put_at, take-put_at, drop-put_at)

unit_inside : (first offset size unit block n place : ℕ) → block ≡ offset + 16 * unit → n ≡ unit_length size unit → unit < unit_count size → place ≡ 512 * (first + block)
    → (512 * (first + offset) ≤ place) × (place + n ≤ 512 * (first + offset) + size)
unit_inside first offset size unit block n place block_is long within is =
    (omega (arith, block_is, is), omega (arith, block_is, long, within, is))

-- BY ITS PROGRESS
by_progress : (p : Progress) (s : ServerState) (work : Work) (operation block count : ℕ) (failed : Bool) (gave : List ℕ) (next : Progress) (store : List ℕ) (told : Option (List ℕ))
    → UnitIn (unit_count (desc_of work).size) p → UnitIs (desc_of work) p → CheckedBy s.blocks (desc_of work) p → 512 * (s.first + s.blocks) ≤ length store
    → StoresIn p work operation block count failed gave next → StoreDoesIn p s block failed gave (Some store) told → Stores (desc_of work) s.first store told
by_progress (Reads u) s work operation block count true gave next store told inside is checked room stores does = inl does
by_progress (Reads u) s work operation block count false gave next store told inside is checked room stores does = inl does.1
by_progress (Writes u bytes) s work operation block count failed gave next store told inside is checked room stores does =
    let desc = desc_of work in
    let fits = fits_disk desc s.blocks checked (ap moves_data is.0) in
    let places = unit_inside s.first desc.offset desc.size u block (length bytes) (place_in s block) stores.0.block_is is.1 inside refl in
    let within = fits.within in
    let whole = fits.whole in
    let upto = places.1 in
    let few : place_in s block + length bytes ≤ length store = omega (arith, upto, within, whole, room) in
    inr (kept desc s.first (place_in s block) (length bytes) store told (write_keeps failed store told (place_in s block) bytes does few) places.0 places.1 is.0)
by_progress Flushes s work operation block count failed gave next store told inside is checked room stores does = inl does
by_progress (Gives u bytes) s work operation block count failed gave next store told inside is checked room stores does = absurd stores
by_progress (Gathers u) s work operation block count failed gave next store told inside is checked room stores does = absurd stores
by_progress (Ends status) s work operation block count failed gave next store told inside is checked room stores does = absurd stores

-- A STEP that stores
pub record StoredAt (s : LaneState) (operation block count : ℕ) (failed : Bool) (gave : List ℕ) (t : LaneState) (store : List ℕ) (told : Option (List ℕ)) : Type 0 where
  pub step : ServerStores s.server (at_server s) operation block count failed gave t.server
  pub serves : s.server.work ≡ Some step.work
  pub stores : Stores (desc_of step.work) s.server.first store told
  pub within : (desc_of step.work).operation ≡ 2 → 512 * (desc_of step.work).offset + (desc_of step.work).size ≤ 512 * s.server.blocks

checked_within : (p : Progress) (blocks : ℕ) (desc : DiskDesc) (work : Work) (operation block count : ℕ) (failed : Bool) (gave : List ℕ) (next : Progress) → CheckedBy blocks desc p
    → StoresIn p work operation block count failed gave next → desc.operation ≡ 2 → 512 * desc.offset + desc.size ≤ 512 * blocks
checked_within p blocks desc work operation block count failed gave next checked stores two = grind (arith, fits_disk)

pub stored_at : (s : LaneState) (l : DiskLog) (operation block count : ℕ) (failed : Bool) (gave : List ℕ) (t : LaneState) (store : List ℕ) (told : Option (List ℕ)) → ServesChecked s l
    → 512 * (s.server.first + s.server.blocks) ≤ length store → ServerWorks s gave (Stored operation block count failed) t
    → StoreDoes s.server.work s.server block failed gave (Some store) told → StoredAt s operation block count failed gave t store told
stored_at s l operation block count failed gave t store told along room step does =
    let m : ServerStores s.server (at_server s) operation block count failed gave t.server = step.step.1.0 in
    let serves = (subst (ServerFree s.server) m.rule (server_free s.server (at_server s))).1 in
    let inside : UnitIn (unit_count (desc_of m.work).size) m.work.progress = subst UnitFits serves along.serves.grounded.knows.counted.server.unit in
    let is : UnitIs (desc_of m.work) m.work.progress = subst WorkIs serves along.serves.work in
    let checked : CheckedBy s.server.blocks (desc_of m.work) m.work.progress = subst (IsChecked s.server.blocks) serves along.checks in
    let here : StoreDoesIn m.work.progress s.server block failed gave (Some store) told =
    subst (λ (o : Option Work). StoreDoes o s.server block failed gave (Some store) told) serves does in
    record {
      step = m;
      serves = serves;
      stores = by_progress m.work.progress s.server m.work operation block count failed gave m.next store told inside is checked room m.stores here;
      within = checked_within m.work.progress s.server.blocks (desc_of m.work) m.work operation block count failed gave m.next checked m.stores;
    }
