-- The image of a disk is a region of a store: a server's step with its store is a step of the image, and leaves what lies around it.
use Rattle.std.proofs.Common.{◌≡◌, ℕ, ◌+◌, ◌*◌, ◌≤◌, false, Option, Some, List, drop, take, length, refl, sym, ap, ◌∙◌, subst, arith}
use Rattle.std.specs.Prelude.{⊤}
use Rattle.vdisk_msg.specs.declared.request.Request.{Request}
use Rattle.vdisk_msg.specs.declared.request.Request.TheVariants.{Flush, Read, Write}
use Rattle.vdisk_msg.specs.Requested.{block_of, size_of}
use Rattle.vio_bytes.proofs.Putting.{drop-put_at, take-put_at}
use Rattle.vio_bytes.proofs.Ranges.{range_at-put_at_part, range_at-range_at}
use Rattle.vio_bytes.specs.Place.{put_at}
use Rattle.vio_bytes.specs.Range.{range_at}
use Rattle.ldc_queue.specs.declared.end.End.TheVariants.{B}
use Rattle.lane_laws.specs.DiskLog.{DiskLog}
use Rattle.lane_models.specs.DiskEvent.{Stored as StoredUnit}
use Rattle.lane_models.specs.LaneState.{LaneState, Shape}
use Rattle.lane_models.specs.LaneStep.{ServerWorks}
use Rattle.lane_models.specs.Seeing.{seen}
use Rattle.lane_models.specs.Served as served
use Rattle.lane_models.specs.ServerRule as server_rules
use Rattle.lane_models.specs.ServerState.{Progress, Reads, ServerState, Work, Writes}
use Rattle.lane_models.specs.ServerWork.{StoresIn, unit_length}
use Rattle.lane_laws.proofs.MemorySteps.{got_sound}
use Rattle.lane_laws.proofs.Ruling.{server_may}
use Rattle.lane_laws.specs.RuleFacts.{ServerMay}
use Rattle.lane_laws.specs.Contents.{ContentsStand, ProgressIs}
use Rattle.lane_laws.specs.ImageStep.{SameAround, StoreDoes, UnitDoes, WorkDoes, region_of}
use Rattle.lane_laws.specs.LaneView.{view_of}
use Rattle.lane_laws.proofs.BlockWrites.{admitted_blocks}
use Rattle.lane_laws.proofs.ServerChanges.{ServesNow, serves_now}
use Rattle.lane_laws.proofs.Standing.{Before}
use Rattle.lane_laws.proofs.WorkSteps.{unit_blocks}

-- A UNIT lies within the disk
abbrev WithinDisk : Progress → ℕ → List ℕ → ℕ → Type 0
WithinDisk (Reads unit) block gave blocks = 512 * block + length gave ≤ 512 * blocks
WithinDisk (Writes unit bytes) block gave blocks = 512 * block + length bytes ≤ 512 * blocks
WithinDisk _ block gave blocks = ⊤

read_within : (s : LaneState) (l : DiskLog) (u : ℕ) (work : Work) (operation block count : ℕ) (gave : List ℕ) (next : Progress) → (before : Before s l) → (serves : ServesNow s l work)
    → StoresIn (Reads u) work operation block count false gave next → (request : Request) → serves.on.request ≡ request → ProgressIs (Reads u) s.near.u request
    → 512 * block + length gave ≤ 512 * s.client.blocks
read_within s l u work operation block count gave next before serves stores (Write first n fill) is fits = absurd fits
read_within s l u work operation block count gave next before serves stores Flush is fits = absurd fits
read_within s l u work operation block count gave next before serves stores (Read first n) is fits =
    let on = serves.on in
    let says = serves.facts.says in
    let got = on.next ∙ ap (λ (q : Request). Some q) is in
    let within = (admitted_blocks s.client.blocks first n (got_sound s.client.blocks s.client.pending s.near.k (Read first n) before.known.memory.sound got)).2 in
    let block_is : block ≡ first + 16 * u = stores.0.block_is ∙ ap (λ (b : ℕ). b + 16 * u) (says.offset ∙ ap block_of is) in
    let long : length gave ≡ unit_length (512 * n) u = stores.1 ∙ ap (λ (m : ℕ). unit_length m u) (says.size ∙ ap size_of is) in
    omega (arith, within, block_is, long, fits.1)

write_within : (s : LaneState) (l : DiskLog) (u : ℕ) (bytes : List ℕ) (work : Work) (operation block count : ℕ) (gave : List ℕ) (next : Progress) → (before : Before s l) → (serves : ServesNow s l work)
    → StoresIn (Writes u bytes) work operation block count false gave next → (request : Request) → serves.on.request ≡ request → ProgressIs (Writes u bytes) s.near.u request
    → 512 * block + length bytes ≤ 512 * s.client.blocks
write_within s l u bytes work operation block count gave next before serves stores (Read first n) is fits = absurd fits
write_within s l u bytes work operation block count gave next before serves stores Flush is fits = absurd fits
write_within s l u bytes work operation block count gave next before serves stores (Write first n fill) is fits =
    let on = serves.on in
    let says = serves.facts.says in
    let got = on.next ∙ ap (λ (q : Request). Some q) is in
    let within = (admitted_blocks s.client.blocks first n (got_sound s.client.blocks s.client.pending s.near.k (Write first n fill) before.known.memory.sound got)).2 in
    let block_is : block ≡ first + 16 * u = stores.0.block_is ∙ ap (λ (b : ℕ). b + 16 * u) (says.offset ∙ ap block_of is) in
    let long = unit_blocks n u fill bytes fits.1 fits.2 in
    omega (arith, within, block_is, long, fits.1)

within_by : (p : Progress) (s : LaneState) (l : DiskLog) (work : Work) (operation block count : ℕ) (gave : List ℕ) (next : Progress) → (before : Before s l) → (serves : ServesNow s l work)
    → StoresIn p work operation block count false gave next → ProgressIs p s.near.u serves.on.request → WithinDisk p block gave s.client.blocks
within_by (Reads u) s l work operation block count gave next before serves stores fits = read_within s l u work operation block count gave next before serves stores serves.on.request refl fits
within_by (Writes u bytes) s l work operation block count gave next before serves stores fits = write_within s l u bytes work operation block count gave next before serves stores serves.on.request refl fits
within_by _ s l work operation block count gave next before serves stores fits = tt

-- IN THE REGION
pub record InRegion (shape : Shape) (work : Option Work) (block : ℕ) (gave store new : List ℕ) : Type 0 where
  pub does : StoreDoes false work block gave (region_of shape store) (region_of shape new)
  pub around : SameAround shape store new

unchanged : (store new : List ℕ) → Some new ≡ Some store → new ≡ store
unchanged store new is = cc is

pub around_same : (shape : Shape) (store new : List ℕ) → new ≡ store → SameAround shape store new
around_same shape store new is = record { before = ap (take (512 * shape.first)) is; behind = ap (drop (512 * (shape.first + shape.blocks))) is }

unit_region : (p : Progress) (shape : Shape) (s : ServerState) (work : Work) (block : ℕ) (gave store new : List ℕ) → work.progress ≡ p → s.first ≡ shape.first
    → 512 * (shape.first + shape.blocks) ≤ length store → WithinDisk p block gave shape.blocks → served.StoreDoesIn p s block false gave (Some store) (Some new)
    → UnitDoes p block gave (region_of shape store) (region_of shape new) × SameAround shape store new
unit_region (Reads u) shape s work block gave store new is first room within does =
    let same = unchanged store new does.1 in
    let place : served.place_in s block ≡ 512 * shape.first + 512 * block = omega (arith, first) in (
      (
        does.0 ∙ ap (λ (p : ℕ). range_at p (length gave) store) place ∙ sym (range_at-range_at (512 * block) (length gave) (512 * shape.first) (512 * shape.blocks) store within),
        ap (region_of shape) same,
      ),
      around_same shape store new same,
    )
unit_region (Writes u bytes) shape s work block gave store new is first room within does =
    let place : served.place_in s block ≡ 512 * shape.first + 512 * block = omega (arith, first) in
    let put : new ≡ put_at (512 * shape.first + 512 * block) bytes store = does ∙ ap (λ (p : ℕ). put_at p bytes store) place in (
      ap (region_of shape) put ∙ range_at-put_at_part (512 * block) (512 * shape.first) (512 * shape.blocks) bytes store within (omega (arith, room)),
      record {
        before = ap (take (512 * shape.first)) put ∙ take-put_at (512 * shape.first + 512 * block) (512 * shape.first) bytes store (omega arith) (omega (arith, room, within));
        behind = ap (drop (512 * (shape.first + shape.blocks))) put
            ∙ drop-put_at (512 * shape.first + 512 * block) (512 * (shape.first + shape.blocks)) bytes store (omega (arith, within)) (omega (arith, within, room));
      },
    )
unit_region _ shape s work block gave store new is first room within does = let same = unchanged store new does in (ap (region_of shape) same, around_same shape store new same)

pub store_region : (shape : Shape) (s : LaneState) (l : DiskLog) (operation block count : ℕ) (gave store new : List ℕ) (t : LaneState) → Before s l → ContentsStand (view_of s) → s.server.first ≡ shape.first
    → s.client.blocks ≡ shape.blocks → 512 * (shape.first + shape.blocks) ≤ length store → ServerWorks s gave (StoredUnit operation block count false) t
    → served.StoreDoes s.server.work s.server block false gave (Some store) (Some new) → InRegion shape s.server.work block gave store new
store_region shape s l operation block count gave store new t before contents first blocks room step does =
    let at = seen B s.shape.entries s.wire.wire in
    let m = step.step.1.0 in
    let may : ServerMay s.server at (server_rules.Serves m.session m.work) = subst (ServerMay s.server at) m.rule (server_may s.server at) in
    let serves = serves_now s l m.work before may.0 may.2 in
    let within : WithinDisk m.work.progress block gave shape.blocks =
    subst (WithinDisk m.work.progress block gave) blocks
    (within_by m.work.progress s l m.work operation block count gave m.next before serves m.stores (contents.work m.work serves.now serves.on.request serves.on.next)) in
    let here : served.StoreDoes (Some m.work) s.server block false gave (Some store) (Some new) =
    subst (λ (o : Option Work). served.StoreDoes o s.server block false gave (Some store) (Some new)) may.2 does in
    let both = unit_region m.work.progress shape s.server m.work block gave store new refl first room within here in
    record {
      does = subst (λ (o : Option Work). WorkDoes o block gave (region_of shape store) (region_of shape new)) (sym may.2) both.0;
      around = both.1;
    }
