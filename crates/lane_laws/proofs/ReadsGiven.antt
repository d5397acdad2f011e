-- What was read, as a server copies a unit out, reads one of the image, and ends a descriptor.
use Rattle.std.proofs.Common.{◌≡◌, ℕ, ◌+◌, ◌*◌, ◌/◌, ◌%◌, ◌<◌, ◌≤◌, List, length, Option, Some, None, inl, inr, sym, ap, ◌∙◌, subst, arith}
use Rattle.std.specs.Prelude.{slice_get, nat_lt}
use Rattle.std.proofs.lemmas.Bool.{cases_lt}
use Rattle.std.proofs.lemmas.Nat.{mod_below}
use Rattle.vdisk_msg.specs.declared.request.Request.{Request}
use Rattle.vdisk_msg.specs.declared.request.Request.TheVariants.{Flush, Read, Write}
use Rattle.vdisk_msg.specs.Pieces.{unit_count}
use Rattle.vio_bytes.proofs.Ranges.{range_at-range_at}
use Rattle.vio_bytes.specs.Place.{put_at}
use Rattle.vio_bytes.specs.Range.{range_at}
use Rattle.lane_models.specs.ClientState.{ClientSession}
use Rattle.lane_models.specs.ServerState.{Ends, Flushes, Gathers, Gives, Progress, Reads, Writes}
use Rattle.lane_models.specs.ServerWork.{gathers_next, reads_next, unit_length}
use Rattle.lane_models.proofs.Apart.{some_same}
use Rattle.lane_laws.proofs.MemorySteps.{got_sound}
use Rattle.lane_laws.specs.Blocks.{block_at}
use Rattle.lane_laws.specs.Contents.{ContentsStand, ProgressIs}
use Rattle.lane_laws.specs.LaneView.{View, place_of}
use Rattle.lane_laws.specs.NearContent.{IsAmong, NearContent, Shows}
use Rattle.lane_laws.specs.ReadsNear.{BlocksShow, DoneShow, UnitsShow, WorkShows}
use Rattle.lane_laws.proofs.BlockWrites.{admitted_blocks}
use Rattle.lane_laws.proofs.Buffers.{other_buffer, other_slot}
use Rattle.lane_laws.proofs.Changes.{Finishes, Flushing, Gathering, Giving, Placed, Reading, Storing}
use Rattle.lane_laws.proofs.ReadsWork.{blocks_moved, given_next, work_served}
use Rattle.lane_laws.proofs.WorkSteps.{more_units, no_more_units}

-- A UNIT IS COPIED OUT
unit_of : (v w : View) → (change : Giving v w) → ContentsStand v → ProgressIs (Gives change.unit change.bytes) v.u (Read change.block change.count)
unit_of v w change stand =
    let serves = change.serves in
    subst (λ (p : Progress). ProgressIs p v.u (Read change.block change.count)) serves.progress (stand.work serves.work serves.now (Read change.block change.count) serves.next)

read_same : (one count other n : ℕ) → Read one count ≡ Read other n → (one ≡ other) × (count ≡ n)
read_same one count other n is = (cc is, cc is)

pub work_given : (blocks : ℕ) (content : List ℕ) (v w : View) → Placed blocks v → ContentsStand v → (change : Giving v w) → WorkShows content v
    → WorkShows content (record v {
      work = Some (record change.serves.work { progress = reads_next (512 * change.count) change.unit });
      buffers = put_at (place_of v.slots change.session v.k + 8192 * change.unit) change.bytes v.buffers;
    })
work_given blocks content v w placed stand change shows =
    let serves = change.serves in
    let c = change.session in
    let unit = change.unit in
    let count = change.count in
    let place = place_of v.slots c v.k in
    let is = unit_of v w change stand in
    let some = is.1 in
    let long = is.2 in
    let most = (admitted_blocks blocks change.block count (got_sound blocks v.pending v.k (Read change.block count) placed.sound serves.next)).1 in
    let below = mod_below (c.completed + v.k) v.slots placed.some in
    let all = placed.room in
    let room : place + 8192 * unit + length change.bytes ≤ length v.buffers = omega (arith, below, all, most, long, some) in
    work_served content c (Gives unit change.bytes) (reads_next (512 * count) unit) (Read change.block count) v.u (put_at (place + 8192 * unit) change.bytes v.buffers) v w serves
    (λ block n same old.
    let one = read_same change.block count block n same in
    subst (λ (x : ℕ). UnitsShow (reads_next (512 * count) unit) content v.pending v.m v.k block x place (put_at (place + 8192 * unit) change.bytes v.buffers)) one.1
    (given_next (nat_lt (unit + 1) (unit_count (512 * count))) content v.pending v.m v.k block count unit place change.bytes v.buffers
    (λ no_more. let end = no_more_units count unit no_more in omega (arith, end, long, some)) (λ more. let next = more_units count unit more in omega (arith, next, long)) room
    (subst (λ (x : ℕ). UnitsShow (Gives unit change.bytes) content v.pending v.m v.k block x place v.buffers) (sym one.1) old))) shows

pub done_given : (blocks : ℕ) (content : List ℕ) (v w : View) → Placed blocks v → ContentsStand v → (change : Giving v w) → DoneShow content v
    → DoneShow content (record v {
      work = Some (record change.serves.work { progress = reads_next (512 * change.count) change.unit });
      buffers = put_at (place_of v.slots change.session v.k + 8192 * change.unit) change.bytes v.buffers;
    })
done_given blocks content v w placed stand change done = λ session is i below block count got.
    let serves = change.serves in
    let c = change.session in
    let unit = change.unit in
    let both : Some c ≡ Some session = sym serves.there ∙ is in
    let same : c ≡ session = some_same both in
    let slot = (c.completed + v.k) % v.slots in
    let slot_below = mod_below (c.completed + v.k) v.slots placed.some in
    let new = put_at (place_of v.slots c v.k + 8192 * unit) change.bytes v.buffers in
    let now = unit_of v w change stand in
    let some = now.1 in
    let long = now.2 in
    let most = (admitted_blocks blocks change.block change.count (got_sound blocks v.pending v.k (Read change.block change.count) placed.sound serves.next)).1 in
    let few = placed.few in
    let served = placed.serves serves.work serves.now in
    let short = (admitted_blocks blocks block count (got_sound blocks v.pending i (Read block count) placed.sound got)).1 in
    let apart = other_slot v.slots c.completed i v.k below (omega (arith, served, few)) in
    subst (λ (x : ClientSession). BlocksShow content v.pending v.m i block count (place_of v.slots x i) new) same
    (blocks_moved content v.pending v.m i block count (place_of v.slots c i) v.buffers new
    (λ b less.
    other_buffer v.slots ((c.completed + i) % v.slots) slot (place_of v.slots c i + 512 * b) 512 (place_of v.slots c v.k + 8192 * unit) change.bytes v.buffers apart slot_below placed.room (omega arith)
    (omega (arith, less, short)) (omega arith) (omega (arith, long, most, some)))
    (done c serves.there i below block count got))

-- A UNIT IS READ of an image that is near
read_blocks : (blocks : ℕ) (content : List ℕ) (pending : List Request) (k m u block count unit : ℕ) (image gave : List ℕ) → NearContent blocks content pending k m u image
    → slice_get pending k ≡ Some (Read block count) → block + count ≤ blocks → 16 * unit < count → length gave ≡ unit_length (512 * count) unit
    → gave ≡ range_at (512 * (block + 16 * unit)) (length gave) image → BlocksShow content pending m k (block + 16 * unit) (length gave / 512) 0 gave
read_blocks blocks content pending k m u block count unit image gave near is fits some long gave_is = λ b below.
    let number = block + 16 * unit + b in
    let at : 512 * (block + 16 * unit) + (0 + 512 * b) ≡ 512 * number = omega arith in
    let bytes : range_at (0 + 512 * b) 512 gave ≡ block_at number image =
    ap (range_at (0 + 512 * b) 512) gave_is
    ∙ range_at-range_at (0 + 512 * b) 512 (512 * (block + 16 * unit)) (length gave) image (omega (arith, below))
    ∙ ap (λ (p : ℕ). range_at p 512 image) at in
    subst (λ (x : List ℕ). Shows content pending k m number x) (sym bytes)
    (near.others number (omega (arith, below, long, some, fits)) (λ among. subst (λ (o : Option Request). IsAmong o u number) is among))

pub work_read : (blocks : ℕ) (content : List ℕ) (v w : View) (image : List ℕ) → Placed blocks v → ContentsStand v → NearContent blocks content v.pending v.k v.m v.u image
    → (change : Reading v w) → change.gave ≡ range_at (512 * (change.block + 16 * change.unit)) (length change.gave) image → WorkShows content v
    → WorkShows content (record v { work = Some (record change.serves.work { progress = Gives change.unit change.gave }) })
work_read blocks content v w image placed stand near change gave_is shows =
    let serves = change.serves in
    let unit = change.unit in
    let count = change.count in
    let fits = (admitted_blocks blocks change.block count (got_sound blocks v.pending v.k (Read change.block count) placed.sound serves.next)).2 in
    let is : ProgressIs (Reads unit) v.u (Read change.block count) =
    subst (λ (p : Progress). ProgressIs p v.u (Read change.block count)) serves.progress (stand.work serves.work serves.now (Read change.block count) serves.next) in
    work_served content change.session (Reads unit) (Gives unit change.gave) (Read change.block count) v.u v.buffers v w serves
    (λ block n same old.
    let one = read_same change.block count block n same in (
      old,
      subst (λ (x : ℕ). BlocksShow content v.pending v.m v.k (x + 16 * unit) (length change.gave / 512) 0 change.gave) one.0
          (read_blocks blocks content v.pending v.k v.m v.u change.block count unit image change.gave near serves.next fits is.1 change.long gave_is),
    )) shows

-- A WRITE'S UNIT, AND A FLUSH: no read is in work
pub work_gathered : (content : List ℕ) (v w : View) → (change : Gathering v w) → WorkShows content v
    → WorkShows content (record v { work = Some (record change.serves.work { progress = Writes change.unit change.bytes }) })
work_gathered content v w change shows =
    work_served content change.session (Gathers change.unit) (Writes change.unit change.bytes) (Write change.block change.count change.fill) v.u v.buffers v w change.serves (λ block n same old. tt) shows

pub work_stored : (content : List ℕ) (v w : View) → (change : Storing v w) → WorkShows content v
    → WorkShows content (record v { work = Some (record change.serves.work { progress = gathers_next (512 * change.count) change.unit }); u = v.u + length change.bytes / 512 })
work_stored content v w change shows = grind arith

pub work_flushed : (content : List ℕ) (v w : View) → (change : Flushing v w) → WorkShows content v → WorkShows content (record v { work = Some (record change.serves.work { progress = Ends 0 }) })
work_flushed content v w change shows = work_served content change.session Flushes (Ends 0) Flush v.u v.buffers v w change.serves (λ block n same old. absurd (cc same)) shows

-- THE END
pub done_finished : (content : List ℕ) (v w : View) → (change : Finishes v w) → DoneShow content v → WorkShows content v → DoneShow content (record v { work = None; k = v.k + 1; u = 0 })
done_finished content v w change done shows = λ session is i below block count got.
    elim (cases_lt i v.k) [
      | inl less ↦ done session is i less block count got
      | inr past ↦
          let here : v.k ≡ i = omega (arith, past, below) in
          let last : slice_get v.pending v.k ≡ Some (Read block count) = ap (slice_get v.pending) here ∙ got in
          let show : BlocksShow content v.pending v.m v.k block count (place_of v.slots session v.k) v.buffers =
          subst (λ (p : Progress). UnitsShow p content v.pending v.m v.k block count (place_of v.slots session v.k) v.buffers) change.ends (shows session is change.work change.now block count last) in
          subst (λ (n : ℕ). BlocksShow content v.pending v.m n block count (place_of v.slots session n) v.buffers) here show
    ]
