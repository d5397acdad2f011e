-- What was read goes on to show the content as buffers are filled and a server works.
use Rattle.std.proofs.Common.{◌≡◌, ◌≢◌, ℕ, ◌+◌, ◌-◌, ◌*◌, ◌/◌, ◌%◌, ◌<◌, ◌≤◌, Bool, true, false, List, length, Some, inl, inr, refl, sym, ap, ◌∙◌, subst, arith}
use Rattle.std.specs.Prelude.{slice_get, if◌then◌else◌}
use Rattle.std.proofs.lemmas.Bool.{cases_lt}
use Rattle.std.proofs.lemmas.Nat.{mod_below}
use Rattle.std.proofs.lemmas.Option.{slice_get_within}
use Rattle.vdisk_msg.proofs.Repeated.{length-repeated}
use Rattle.vdisk_msg.proofs.Written.{is_admitted}
use Rattle.vdisk_msg.specs.declared.request.Request.{Request}
use Rattle.vdisk_msg.specs.declared.request.Request.TheVariants.{Flush, Read, Write}
use Rattle.vdisk_msg.specs.Requested.{size_of}
use Rattle.vdisk_msg.specs.Requests.{written}
use Rattle.vio_bytes.proofs.Ranges.{range_at-put_at_inside, range_at-put_at_outside}
use Rattle.vio_bytes.specs.Place.{put_at}
use Rattle.vio_bytes.specs.Range.{range_at}
use Rattle.lane_models.specs.ClientState.{ClientSession}
use Rattle.lane_models.specs.ServerState.{Ends, Gives, Progress, Reads}
use Rattle.lane_laws.proofs.MemorySteps.{got_sound}
use Rattle.lane_laws.specs.Contents.{ContentsStand, ProgressIs}
use Rattle.lane_laws.specs.LaneView.{View, place_of}
use Rattle.lane_laws.specs.NearContent.{Shows}
use Rattle.lane_laws.specs.ReadsNear.{BlocksShow, DoneShow, UnitsShow, WorkShows}
use Rattle.lane_laws.proofs.BlockWrites.{admitted_blocks}
use Rattle.lane_laws.proofs.Buffers.{other_buffer, other_slot}
use Rattle.lane_laws.proofs.Changes.{Fetches, Placed, Publishes, Serves, filled}
use Rattle.lane_laws.proofs.ContentsSteps.{same_place}
use Rattle.lane_models.proofs.Apart.{some_same}

-- OTHER BYTES that are the same where the blocks stand
pub blocks_moved : (content : List ℕ) (pending : List Request) (m k block n place : ℕ) (buffers new : List ℕ)
    → ((b : ℕ) → b < n → range_at (place + 512 * b) 512 new ≡ range_at (place + 512 * b) 512 buffers) → BlocksShow content pending m k block n place buffers → BlocksShow content pending m k block n place new
blocks_moved content pending m k block n place buffers new same show = λ b below. subst (λ (x : List ℕ). Shows content pending k m (block + b) x) (sym (same b below)) (show b below)

units_moved : (progress : Progress) (content : List ℕ) (pending : List Request) (m k u block count place : ℕ) (buffers new : List ℕ) → ProgressIs progress u (Read block count)
    → ((b : ℕ) → b < count → range_at (place + 512 * b) 512 new ≡ range_at (place + 512 * b) 512 buffers) → UnitsShow progress content pending m k block count place buffers
    → UnitsShow progress content pending m k block count place new
units_moved progress content pending m k u block count place buffers new is same show = grind arith

-- A REQUEST IS PUBLISHED, into a buffer of its own
filled_other : (slots a b p n : ℕ) (request : Request) (buffers : List ℕ) → a ≢ b → b < slots → 32768 * slots ≤ length buffers → size_of request ≤ 32768 → 32768 * a ≤ p → p + n ≤ 32768 * a + 32768
    → range_at p n (filled request (32768 * b) buffers) ≡ range_at p n buffers
filled_other slots a b p n (Read block count) buffers apart below room small from within = refl
filled_other slots a b p n (Write block count fill) buffers apart below room small from within =
    other_buffer slots a b p n (32768 * b) (written fill count) buffers apart below room from within (omega arith) (omega (arith, small, length-repeated fill 0 (512 * count)))
filled_other slots a b p n Flush buffers apart below room small from within = refl

-- what a place below the next to publish has of the buffers stays
publish_leaves : (blocks : ℕ) (v w : View) → Placed blocks v → (change : Publishes v w) → (i block count b : ℕ) → change.session.completed + i < change.session.published
    → slice_get v.pending i ≡ Some (Read block count) → b < count
    → range_at (place_of v.slots change.session i + 512 * b) 512 (filled change.request (32768 * (change.session.published % v.slots)) v.buffers)
    ≡ range_at (place_of v.slots change.session i + 512 * b) 512 v.buffers
publish_leaves blocks v w placed change i block count b before got below =
    let c = change.session in
    let slot = c.published % v.slots in
    let j = c.published - c.completed in
    let first = placed.published c change.there in
    let number : c.completed + j ≡ c.published = omega (arith, first) in
    let within = slice_get_within v.pending j change.request change.next in
    let few = placed.few in
    let apart : (c.completed + i) % v.slots ≢ slot =
    subst (λ (n : ℕ). (c.completed + i) % v.slots ≢ n % v.slots) number (other_slot v.slots c.completed i j (omega (arith, before, number)) (omega (arith, within, few))) in
    let small = (is_admitted blocks change.request (got_sound blocks v.pending j change.request placed.sound change.next)).most in
    let most = (admitted_blocks blocks block count (got_sound blocks v.pending i (Read block count) placed.sound got)).1 in
    filled_other v.slots ((c.completed + i) % v.slots) slot (place_of v.slots c i + 512 * b) 512 change.request v.buffers apart (mod_below c.published v.slots placed.some) placed.room small (omega arith)
    (omega (arith, below, most))

pub done_published : (blocks : ℕ) (content : List ℕ) (v w : View) → Placed blocks v → (change : Publishes v w) → DoneShow content v
    → DoneShow content (record v { session = Some (record change.session { published = change.session.published + 1 }); buffers = filled change.request (32768 * (change.session.published % v.slots)) v.buffers })
done_published blocks content v w placed change done = λ session is i below block count got.
    let c = change.session in
    let new = filled change.request (32768 * (c.published % v.slots)) v.buffers in
    let same : record c { published = c.published + 1 } ≡ session = some_same is in
    let completed : session.completed ≡ c.completed = ap (λ (x : ClientSession). x.completed) (sym same) in
    let first = placed.published c change.there in
    subst (λ (p : ℕ). BlocksShow content v.pending v.m i block count p new) (sym (same_place v.slots i session c completed))
    (blocks_moved content v.pending v.m i block count (place_of v.slots c i) v.buffers new (λ b less. publish_leaves blocks v w placed change i block count b (omega (arith, below, first)) got less)
    (done c change.there i below block count got))

pub work_published : (blocks : ℕ) (content : List ℕ) (v w : View) → Placed blocks v → ContentsStand v → (change : Publishes v w) → WorkShows content v
    → WorkShows content (record v { session = Some (record change.session { published = change.session.published + 1 }); buffers = filled change.request (32768 * (change.session.published % v.slots)) v.buffers })
work_published blocks content v w placed stand change shows = λ session is work now block count got.
    let c = change.session in
    let new = filled change.request (32768 * (c.published % v.slots)) v.buffers in
    let same : record c { published = c.published + 1 } ≡ session = some_same is in
    let completed : session.completed ≡ c.completed = ap (λ (x : ClientSession). x.completed) (sym same) in
    subst (λ (p : ℕ). UnitsShow work.progress content v.pending v.m v.k block count p new) (sym (same_place v.slots v.k session c completed))
    (units_moved work.progress content v.pending v.m v.k v.u block count (place_of v.slots c v.k) v.buffers new (stand.work work now (Read block count) got)
    (λ b less. publish_leaves blocks v w placed change v.k block count b (placed.served c change.there work now) got less) (shows c change.there work now block count got))

-- A DESCRIPTOR IS FETCHED: nothing of a read is moved yet
pub work_fetched : (content : List ℕ) (v w : View) → (change : Fetches v w) → WorkShows content (record v { work = Some change.work })
work_fetched content v w change = grind arith

-- AND GOES ON
pub work_served : (content : List ℕ) (session : ClientSession) (from to : Progress) (request : Request) (u : ℕ) (buffers : List ℕ) (v w : View) → (change : Serves session from to request u buffers v w)
    → ((block count : ℕ) → request ≡ Read block count → UnitsShow from content v.pending v.m v.k block count (place_of v.slots session v.k) v.buffers
    → UnitsShow to content v.pending v.m v.k block count (place_of v.slots session v.k) buffers)
    → WorkShows content v → WorkShows content (record v { work = Some (record change.work { progress = to }); u = u; buffers = buffers })
work_served content session from to request u buffers v w change goes shows = grind arith

-- a read's unit is copied out
given_blocks : (content : List ℕ) (pending : List Request) (m k block unit n place : ℕ) (bytes buffers : List ℕ) → n ≤ 16 * unit + length bytes / 512 → place + 8192 * unit + length bytes ≤ length buffers
    → BlocksShow content pending m k block (16 * unit) place buffers → BlocksShow content pending m k (block + 16 * unit) (length bytes / 512) 0 bytes
    → BlocksShow content pending m k block n place (put_at (place + 8192 * unit) bytes buffers)
given_blocks content pending m k block unit n place bytes buffers most room before held = λ b below.
    elim (cases_lt b (16 * unit)) [
      | inl less ↦
          subst (λ (x : List ℕ). Shows content pending k m (block + b) x)
          (sym (range_at-put_at_outside (place + 512 * b) 512 (place + 8192 * unit) bytes buffers (omega (arith, room)) (inl (omega (arith, less))))) (before b less)
      | inr past ↦
          let d = b - 16 * unit in
          let at : place + 512 * b ≡ place + 8192 * unit + 512 * d = omega (arith, past) in
          let zero_at : 512 * d ≡ 0 + 512 * d = omega arith in
          let number : block + 16 * unit + d ≡ block + b = omega (arith, past) in
          let bytes_are : range_at (0 + 512 * d) 512 bytes ≡ range_at (place + 512 * b) 512 (put_at (place + 8192 * unit) bytes buffers) =
          sym (ap (λ (p : ℕ). range_at p 512 (put_at (place + 8192 * unit) bytes buffers)) at
          ∙ range_at-put_at_inside (512 * d) 512 (place + 8192 * unit) bytes buffers (omega (arith, past, below, most)) (omega (arith, room))
          ∙ ap (λ (p : ℕ). range_at p 512 bytes) zero_at) in
          subst (λ (n : ℕ). Shows content pending k m n (range_at (place + 512 * b) 512 (put_at (place + 8192 * unit) bytes buffers))) number
          (subst (λ (x : List ℕ). Shows content pending k m (block + 16 * unit + d) x) bytes_are (held d (omega (arith, past, below, most))))
    ]

pub given_next : (more : Bool) (content : List ℕ) (pending : List Request) (m k block count unit place : ℕ) (bytes buffers : List ℕ)
    → (more ≡ false → count ≤ 16 * unit + length bytes / 512) → (more ≡ true → 16 * (unit + 1) ≤ 16 * unit + length bytes / 512) → place + 8192 * unit + length bytes ≤ length buffers
    → UnitsShow (Gives unit bytes) content pending m k block count place buffers
    → UnitsShow (if more then Reads (unit + 1) else Ends 0) content pending m k block count place (put_at (place + 8192 * unit) bytes buffers)
given_next true content pending m k block count unit place bytes buffers last next room show =
    given_blocks content pending m k block unit (16 * (unit + 1)) place bytes buffers (next refl) room show.0 show.1
given_next false content pending m k block count unit place bytes buffers last next room show = given_blocks content pending m k block unit count place bytes buffers (last refl) room show.0 show.1
