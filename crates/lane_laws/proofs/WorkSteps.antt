-- What a server does of a descriptor leaves the buffers of writes as they are, and the descriptor going on as its request has it.
use Rattle.std.proofs.Common.{◌≡◌, ◌≢◌, ℕ, ◌+◌, ◌-◌, ◌*◌, ◌/◌, ◌%◌, ◌<◌, ◌≤◌, min, Bool, true, false, List, length, Some, None, inl, inr, refl, sym, ap, ◌∙◌, subst, arith}
use Rattle.std.specs.Prelude.{slice_get, if◌then◌else◌, nat_lt}
use Rattle.std.proofs.lemmas.Bool.{cases_lt}
use Rattle.std.proofs.lemmas.Bool.Decides.{nat_tests}
use Rattle.std.proofs.lemmas.Nat.{mod_below}
use Rattle.std.proofs.lemmas.Option.{slice_get_within}
use Rattle.vdisk_msg.proofs.Repeated.{length-repeated}
use Rattle.vdisk_msg.proofs.Written.{is_admitted}
use Rattle.vdisk_msg.specs.declared.request.Fill.{Fill}
use Rattle.vdisk_msg.specs.declared.request.Request.{Request}
use Rattle.vdisk_msg.specs.declared.request.Request.TheVariants.{Flush, Read, Write}
use Rattle.vdisk_msg.specs.Pieces.{unit_count}
use Rattle.vdisk_msg.specs.Requested.{size_of}
use Rattle.vdisk_msg.specs.Requests.{defect, written}
use Rattle.vio_bytes.proofs.Ranges.{length-range_at, range_at-range_at}
use Rattle.vio_bytes.specs.Place.{put_at}
use Rattle.vio_bytes.specs.Range.{range_at}
use Rattle.lane_models.specs.ClientState.{ClientSession}
use Rattle.lane_models.specs.ServerState.{Ends, Flushes, Gathers, Gives, Progress, Reads, Work, Writes}
use Rattle.lane_models.specs.ServerWork.{gathers_next, reads_next, unit_length}
use Rattle.lane_models.proofs.Apart.{some_same}
use Rattle.lane_laws.proofs.MemorySteps.{got_sound}
use Rattle.lane_laws.specs.Contents.{ContentsStand, HoldsWritten, ProgressIs, WritesStand}
use Rattle.lane_laws.specs.LaneView.{View, place_of}
use Rattle.lane_laws.proofs.BlockWrites.{admitted_blocks}
use Rattle.lane_laws.proofs.Buffers.{other_buffer, other_slot}
use Rattle.lane_laws.proofs.Changes.{Asked, Completed, Disturbed, Ended, Fetched, Fetches, Finishes, Flushed, Flushing, Gathered, Gathering, Given, Giving, IsChange, Kind, Looked, Opened, Placed, Published, Reading, Rested, Serves, Stored, Storing, first_of}
use Rattle.lane_laws.proofs.ContentsSteps.{accepts_contents, completes_contents, disturbs_contents, opens_contents, publishes_contents, rests_contents}
use Rattle.lane_laws.proofs.SlotBytes.{same_request as same_got}

-- A DESCRIPTOR IS FETCHED
first_is : (blocks : ℕ) (request : Request) (u : ℕ) → defect blocks request ≡ None → u ≡ 0 → ProgressIs (first_of request) u request
first_is blocks request u admitted none = grind arith

pub fetches_contents : (blocks : ℕ) (v w : View) → Placed blocks v → Fetches v w → ContentsStand v → ContentsStand w
fetches_contents blocks v w placed change stand =
    let request = change.request in
    subst ContentsStand (sym change.is) (record {
      writes = stand.writes;
      work = λ work is other got.
          let same : change.work ≡ work = some_same is in
          let one : request ≡ other = same_got v.pending v.k request other change.next got in
          let progress : first_of request ≡ work.progress = sym change.first ∙ ap (λ (x : Work). x.progress) same in
          subst (λ (r : Request). ProgressIs work.progress v.u r) one
          (subst (λ (p : Progress). ProgressIs p v.u request) progress
          (first_is blocks request v.u (got_sound blocks v.pending v.k request placed.sound change.next) (stand.none change.idle)));
      none = λ none. absurd (cc none);
    })

-- AND GOES ON
serves_contents : (session : ClientSession) (from to : Progress) (request : Request) (u : ℕ) (buffers : List ℕ) (v w : View) → (change : Serves session from to request u buffers v w)
    → WritesStand (record v { work = Some (record change.work { progress = to }); u = u; buffers = buffers }) → (ProgressIs from v.u request → ProgressIs to u request) → ContentsStand v → ContentsStand w
serves_contents session from to request u buffers v w change writes goes stand = grind arith

-- a write's unit is copied in: its bytes are the write's
pub unit_within : (count unit : ℕ) → 16 * unit < count → 8192 * unit + unit_length (512 * count) unit ≤ 512 * count
unit_within count unit more = omega (arith, more)

gathered_bytes : (place count unit : ℕ) (fill : Fill) (buffers : List ℕ) → 16 * unit < count → range_at place (512 * count) buffers ≡ written fill count
    → range_at (place + 8192 * unit) (unit_length (512 * count) unit) buffers ≡ range_at (8192 * unit) (unit_length (512 * count) unit) (written fill count)
gathered_bytes place count unit fill buffers more holds = grind (arith, range_at-range_at)

pub gathering_contents : (blocks : ℕ) (v w : View) → Placed blocks v → Gathering v w → ContentsStand v → ContentsStand w
gathering_contents blocks v w placed change stand =
    let serves = change.serves in
    let c = change.session in
    let held = stand.writes c serves.there v.k (placed.served c serves.there serves.work serves.now) (Write change.block change.count change.fill) serves.next in
    serves_contents c (Gathers change.unit) (Writes change.unit change.bytes) (Write change.block change.count change.fill) v.u v.buffers v w serves stand.writes
    (λ is. (is.0, is.1, change.bytes_are ∙ gathered_bytes (place_of v.slots c v.k) change.count change.unit change.fill v.buffers is.1 held)) stand

-- a read's unit is copied out, into its own buffer
given_other : (slots a b q : ℕ) (other : Request) (bytes buffers : List ℕ) → a ≢ b → b < slots → 32768 * slots ≤ length buffers → size_of other ≤ 32768 → 32768 * b ≤ q
    → q + length bytes ≤ 32768 * b + 32768 → HoldsWritten (32768 * a) other buffers → HoldsWritten (32768 * a) other (put_at q bytes buffers)
given_other slots a b q (Read block count) bytes buffers apart below room fits start inside holds = tt
given_other slots a b q Flush bytes buffers apart below room fits start inside holds = tt
given_other slots a b q (Write block count fill) bytes buffers apart below room fits start inside holds =
    other_buffer slots a b (32768 * a) (512 * count) q bytes buffers apart below room (omega arith) (omega (arith, fits)) start inside ∙ holds

read_holds : (place block count : ℕ) (other : Request) (buffers : List ℕ) → Read block count ≡ other → HoldsWritten place other buffers
read_holds place block count other buffers is = subst (λ (r : Request). HoldsWritten place r buffers) is tt

writes_given : (blocks : ℕ) (v : View) (c : ClientSession) (work : Work) (block count unit : ℕ) (bytes : List ℕ) → Placed blocks v → v.session ≡ Some c → v.work ≡ Some work
    → slice_get v.pending v.k ≡ Some (Read block count) → 8192 * unit + length bytes ≤ 32768 → WritesStand v
    → (session : ClientSession) → v.session ≡ Some session → (i : ℕ) → session.completed + i < session.published → (other : Request) → slice_get v.pending i ≡ Some other
    → HoldsWritten (place_of v.slots session i) other (put_at (place_of v.slots c v.k + 8192 * unit) bytes v.buffers)
writes_given blocks v c work block count unit bytes placed there now next fits stand session is i below other got =
    let both : Some c ≡ Some session = sym there ∙ is in
    let same : c ≡ session = some_same both in
    let completed : session.completed ≡ c.completed = ap (λ (x : ClientSession). x.completed) (sym same) in
    let slot = (c.completed + v.k) % v.slots in
    let slot_below : slot < v.slots = mod_below (c.completed + v.k) v.slots placed.some in
    let few = placed.few in
    let served = placed.serves work now in
    let within = slice_get_within v.pending i other got in
    let small = (is_admitted blocks other (got_sound blocks v.pending i other placed.sound got)).most in
    let new : List ℕ = put_at (32768 * slot + 8192 * unit) bytes v.buffers in
    let old : HoldsWritten (place_of v.slots c i) other v.buffers =
    subst (λ (x : ClientSession). HoldsWritten (place_of v.slots x i) other v.buffers) (sym same) (stand session is i below other got) in
    let kept : (c.completed + i) % v.slots ≢ slot → HoldsWritten (place_of v.slots c i) other new =
    λ apart. given_other v.slots ((c.completed + i) % v.slots) slot (32768 * slot + 8192 * unit) other bytes v.buffers apart slot_below placed.room small (omega arith) (omega (arith, fits)) old in
    subst (λ (x : ClientSession). HoldsWritten (place_of v.slots x i) other new) same
    (elim (cases_lt i v.k) [
      | inl less ↦ kept (other_slot v.slots c.completed i v.k less (omega (arith, served, few)))
      | inr past ↦ elim (cases_lt v.k i) [
        | inl more ↦ kept (λ one. other_slot v.slots c.completed v.k i more (omega (arith, within, few)) (sym one))
        | inr equal ↦
            let here : i ≡ v.k = omega (arith, past, equal) in
            read_holds (place_of v.slots c i) block count other new (same_got v.pending v.k (Read block count) other next (subst (λ (n : ℕ). slice_get v.pending n ≡ Some other) here got))
      ]
    ])

-- the next unit of a read, or its end
pub more_units : (count unit : ℕ) → nat_lt (unit + 1) (unit_count (512 * count)) ≡ true → 16 * (unit + 1) < count
more_units count unit is = let less : unit + 1 < unit_count (512 * count) = grind (arith, nat_tests) in omega (arith, less)

pub no_more_units : (count unit : ℕ) → nat_lt (unit + 1) (unit_count (512 * count)) ≡ false → count ≤ 16 * (unit + 1)
no_more_units count unit is = let past : unit_count (512 * count) ≤ unit + 1 = grind (arith, nat_tests) in omega (arith, past)

reads_on : (b : Bool) (block count unit u : ℕ) → (b ≡ true → 16 * (unit + 1) < count) → u ≡ 0 → ProgressIs (if b then Reads (unit + 1) else Ends 0) u (Read block count)
reads_on true block count unit u more none = (none, more refl)
reads_on false block count unit u more none = (none, refl)

pub giving_contents : (blocks : ℕ) (v w : View) → Placed blocks v → Giving v w → ContentsStand v → ContentsStand w
giving_contents blocks v w placed change stand =
    let serves = change.serves in
    let c = change.session in
    let unit = change.unit in
    let count = change.count in
    let request : Request = Read change.block count in
    let now : ProgressIs (Gives unit change.bytes) v.u request =
    subst (λ (p : Progress). ProgressIs p v.u request) serves.progress (stand.work serves.work serves.now request serves.next) in
    let most = (admitted_blocks blocks change.block count (got_sound blocks v.pending v.k request placed.sound serves.next)).1 in
    let inside = unit_within count unit now.1 in
    serves_contents c (Gives unit change.bytes) (reads_next (512 * count) unit) request v.u (put_at (place_of v.slots c v.k + 8192 * unit) change.bytes v.buffers) v w serves
    (writes_given blocks v c serves.work change.block count unit change.bytes placed serves.there serves.now serves.next (omega (arith, now.2, inside, most)) stand.writes)
    (λ is. reads_on (nat_lt (unit + 1) (unit_count (512 * count))) change.block count unit v.u (more_units count unit) is.0) stand

-- a unit is read
pub reading_contents : (v w : View) → Reading v w → ContentsStand v → ContentsStand w
reading_contents v w change stand =
    serves_contents change.session (Reads change.unit) (Gives change.unit change.gave) (Read change.block change.count) v.u v.buffers v w change.serves stand.writes
    (λ is. (is.0, is.1, change.long)) stand

-- or stored
gathers_on : (b : Bool) (block count unit u : ℕ) (fill : Fill) → (b ≡ true → 16 * (unit + 1) < count) → (b ≡ false → count ≤ 16 * (unit + 1)) → 16 * unit < count
    → u ≡ 16 * unit + min 16 (count - 16 * unit) → ProgressIs (if b then Gathers (unit + 1) else Ends 0) u (Write block count fill)
gathers_on true block count unit u fill more last some is = let next = more refl in (omega (arith, is, next), next)
gathers_on false block count unit u fill more last some is = let end = last refl in (omega (arith, is, end, some), refl)

pub unit_blocks : (count unit : ℕ) (fill : Fill) (bytes : List ℕ) → 16 * unit < count → bytes ≡ range_at (8192 * unit) (unit_length (512 * count) unit) (written fill count)
    → length bytes ≡ 512 * min 16 (count - 16 * unit)
unit_blocks count unit fill bytes more is = grind (arith, length-range_at, length-repeated)

pub storing_contents : (v w : View) → Storing v w → ContentsStand v → ContentsStand w
storing_contents v w change stand =
    let unit = change.unit in
    let count = change.count in
    serves_contents change.session (Writes unit change.bytes) (gathers_next (512 * count) unit) (Write change.block count change.fill) (v.u + length change.bytes / 512) v.buffers v w change.serves stand.writes
    (λ is.
    let long = unit_blocks count unit change.fill change.bytes is.1 is.2 in
    gathers_on (nat_lt (unit + 1) (unit_count (512 * count))) change.block count unit (v.u + length change.bytes / 512) change.fill (more_units count unit) (no_more_units count unit) is.1
    (omega (arith, is.0, long))) stand

-- the image is flushed
pub flushing_contents : (v w : View) → Flushing v w → ContentsStand v → ContentsStand w
flushing_contents v w change stand = serves_contents change.session Flushes (Ends 0) Flush v.u v.buffers v w change.serves stand.writes (λ is. (is, refl)) stand

-- THE END
pub finishes_contents : (v w : View) → Finishes v w → ContentsStand v → ContentsStand w
finishes_contents v w change stand = grind arith

-- EACH KIND
pub kind_contents : (kind : Kind) (blocks : ℕ) (v w : View) → Placed blocks v → IsChange kind v w → ContentsStand v → ContentsStand w
kind_contents Rested blocks v w placed change stand = rests_contents v w change stand
kind_contents Opened blocks v w placed change stand = opens_contents v w change stand
kind_contents (Disturbed p) blocks v w placed change stand = disturbs_contents p v w change stand
kind_contents (Asked request) blocks v w placed change stand = accepts_contents blocks request v w placed change stand
kind_contents Published blocks v w placed change stand = publishes_contents blocks v w placed change stand
kind_contents Completed blocks v w placed change stand = completes_contents v w change stand
kind_contents Fetched blocks v w placed change stand = fetches_contents blocks v w placed change stand
kind_contents Gathered blocks v w placed change stand = gathering_contents blocks v w placed change stand
kind_contents Given blocks v w placed change stand = giving_contents blocks v w placed change stand
kind_contents Looked blocks v w placed change stand = reading_contents v w change stand
kind_contents Stored blocks v w placed change stand = storing_contents v w change stand
kind_contents Flushed blocks v w placed change stand = flushing_contents v w change stand
kind_contents Ended blocks v w placed change stand = finishes_contents v w change stand
