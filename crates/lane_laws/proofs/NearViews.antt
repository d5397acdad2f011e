-- EACH KIND OF CHANGE leaves the image near, and what was read.
use Rattle.std.proofs.Common.{◌≡◌, ℕ, suc, ◌+◌, ◌-◌, ◌*◌, ◌/◌, ◌<◌, ◌⊎◌, List, ◌∷◌, length, Option, Some, None, inl, inr, refl, sym, ap, ◌∙◌, subst, arith}
use Rattle.vdisk_msg.specs.declared.request.Request.{Request}
use Rattle.vdisk_msg.specs.declared.request.Request.TheVariants.{Write}
use Rattle.vdisk_msg.specs.Requests.{AreSound, after_request, written}
use Rattle.vio_bytes.proofs.Putting.{length-put_at}
use Rattle.vio_bytes.specs.Place.{put_at}
use Rattle.vio_bytes.specs.Range.{range_at}
use Rattle.lane_models.specs.ServerState.{Ends, Progress, Work, Writes}
use Rattle.lane_models.specs.ServerWork.{unit_length}
use Rattle.lane_laws.proofs.MemorySteps.{got_sound}
use Rattle.lane_laws.specs.Contents.{ContentsStand, ProgressIs}
use Rattle.lane_laws.specs.ImageStep.{front_done}
use Rattle.lane_laws.specs.LaneView.{View}
use Rattle.lane_laws.specs.Near.{NearView}
use Rattle.lane_laws.specs.NearContent.{NearContent}
use Rattle.lane_laws.proofs.BlockWrites.{admitted_blocks, after_long}
use Rattle.lane_laws.proofs.Changes.{Accepts, Asked, Completed, Completes, Disturbed, Disturbs, Ended, Fetched, Fetches, Finishes, Flushed, Flushing, Gathered, Gathering, Given, Giving, ImageChange, IsChange, Kind, Looked, Opened, Opens, Placed, Published, Publishes, Reading, Rested, Unchanged, Stored, Storing, content_behind}
use Rattle.lane_laws.proofs.NearSteps.{near_accepted, near_disturbed, near_done, near_finished, near_stored}
use Rattle.lane_laws.proofs.ReadsGiven.{done_finished, done_given, work_flushed, work_gathered, work_given, work_read, work_stored}
use Rattle.lane_laws.proofs.ReadsSteps.{done_accepted, done_completed, done_kept, work_accepted, work_completed, work_kept}
use Rattle.lane_laws.proofs.ReadsWork.{done_published, work_fetched, work_published}
use Rattle.lane_laws.proofs.WorkSteps.{unit_blocks}

pub rests_near : (blocks : ℕ) (content : List ℕ) (v w : View) (image : List ℕ) → Unchanged v w → NearView blocks content v image → NearView blocks content w image
rests_near blocks content v w image change near =
    subst (λ (x : View). NearView blocks content x image) (sym change.is) (record {
      content_long = near.content_long;
      image_long = near.image_long;
      image_near = near.image_near;
      done = done_kept content v w.session change.keeps near.done;
      work = work_kept content v w.session change.keeps near.work;
    })

pub opens_near : (blocks : ℕ) (content : List ℕ) (v w : View) (image : List ℕ) → Opens v w → NearView blocks content v image → NearView blocks content w image
opens_near blocks content v w image change near = grind arith

pub disturbs_near : (blocks : ℕ) (content : List ℕ) (p : ℕ) (v w : View) (image : List ℕ) → AreSound blocks v.pending → Disturbs p v w → NearView blocks content v image → NearView blocks content w image
disturbs_near blocks content p v w image sound change near =
    subst (λ (x : View). NearView blocks content x image) (sym change.is) (record {
      content_long = near.content_long;
      image_long = near.image_long;
      image_near = near_disturbed blocks content v.pending v.k v.m v.u p image sound near.content_long change.finished change.before change.working near.image_near;
      done = λ session is i below block count got. absurd (omega (arith, below));
      work = λ session is work now block count got. absurd (cc now);
    })

-- no blocks are stored where nothing is in work, and what is in work is pending
pub stored_or_pending : (blocks : ℕ) (v : View) (o : Option Work) → v.work ≡ o → Placed blocks v → ContentsStand v → (v.u ≡ 0) ⊎ (v.k < length v.pending)
stored_or_pending blocks v None is placed stand = inl (stand.none is)
stored_or_pending blocks v (Some work) is placed stand = inr (placed.serves work is)

pub accepts_near : (blocks : ℕ) (content : List ℕ) (request : Request) (v w : View) (image : List ℕ) → Placed blocks v → ContentsStand v → Accepts request v w → NearView blocks content v image
    → NearView blocks content w image
accepts_near blocks content request v w image placed stand change near =
    subst (λ (x : View). NearView blocks content x image) (sym change.is) (record {
      content_long = near.content_long;
      image_long = near.image_long;
      image_near = near_accepted blocks content v.pending request v.k v.m v.u image placed.finished (stored_or_pending blocks v v.work refl placed stand) near.image_near;
      done = done_accepted blocks content request v placed near.done;
      work = work_accepted blocks content request v placed near.work;
    })

pub publishes_near : (blocks : ℕ) (content : List ℕ) (v w : View) (image : List ℕ) → Placed blocks v → ContentsStand v → Publishes v w → NearView blocks content v image → NearView blocks content w image
publishes_near blocks content v w image placed stand change near =
    subst (λ (x : View). NearView blocks content x image) (sym change.is) (record {
      content_long = near.content_long;
      image_long = near.image_long;
      image_near = near.image_near;
      done = done_published blocks content v w placed change near.done;
      work = work_published blocks content v w placed stand change near.work;
    })

pub completes_near : (blocks : ℕ) (content : List ℕ) (v w : View) (image : List ℕ) → AreSound blocks v.pending → (change : Completes v w) → NearView blocks content v image
    → NearView blocks (after_request content change.request) w image
completes_near blocks content v w image sound change near =
    let some = change.finished in
    let last : v.k ≡ suc (v.k - 1) = omega (arith, some) in
    let request = change.request in
    let front : AreSound blocks (request ∷ change.behind) = subst (AreSound blocks) change.front sound in
    subst (λ (x : View). NearView blocks (after_request content request) x image) (sym change.is) (record {
      content_long = after_long blocks content request front.0 near.content_long;
      image_long = near.image_long;
      image_near =
          near_done blocks content request change.behind (v.k - 1) v.m v.u image
          (subst (λ (n : ℕ). NearContent blocks content (request ∷ change.behind) n v.m v.u image) last
          (subst (λ (xs : List Request). NearContent blocks content xs v.k v.m v.u image) change.front near.image_near));
      done = done_completed content v (w, change) near.done;
      work = work_completed content v (w, change) near.work;
    })

pub fetches_near : (blocks : ℕ) (content : List ℕ) (v w : View) (image : List ℕ) → Fetches v w → NearView blocks content v image → NearView blocks content w image
fetches_near blocks content v w image change near =
    subst (λ (x : View). NearView blocks content x image) (sym change.is) (record {
      content_long = near.content_long;
      image_long = near.image_long;
      image_near = near.image_near;
      done = near.done;
      work = work_fetched content v w change;
    })

pub gathering_near : (blocks : ℕ) (content : List ℕ) (v w : View) (image : List ℕ) → Gathering v w → NearView blocks content v image → NearView blocks content w image
gathering_near blocks content v w image change near =
    subst (λ (x : View). NearView blocks content x image) (sym change.serves.is) (record {
      content_long = near.content_long;
      image_long = near.image_long;
      image_near = near.image_near;
      done = near.done;
      work = work_gathered content v w change near.work;
    })

pub giving_near : (blocks : ℕ) (content : List ℕ) (v w : View) (image : List ℕ) → Placed blocks v → ContentsStand v → Giving v w → NearView blocks content v image → NearView blocks content w image
giving_near blocks content v w image placed stand change near =
    subst (λ (x : View). NearView blocks content x image) (sym change.serves.is) (record {
      content_long = near.content_long;
      image_long = near.image_long;
      image_near = near.image_near;
      done = done_given blocks content v w placed stand change near.done;
      work = work_given blocks content v w placed stand change near.work;
    })

pub reading_near : (blocks : ℕ) (content : List ℕ) (v w : View) (image next : List ℕ) → Placed blocks v → ContentsStand v → (change : Reading v w) → ImageChange Looked v w change image next
    → NearView blocks content v image → NearView blocks content w next
reading_near blocks content v w image next placed stand change does near =
    subst (λ (i : List ℕ). NearView blocks content w i) (sym does.1)
    (subst (λ (x : View). NearView blocks content x image) (sym change.serves.is) (record {
      content_long = near.content_long;
      image_long = near.image_long;
      image_near = near.image_near;
      done = near.done;
      work = work_read blocks content v w image placed stand near.image_near change does.0 near.work;
    }))

-- the unit that is stored, in blocks
pub storing_near : (blocks : ℕ) (content : List ℕ) (v w : View) (image next : List ℕ) → Placed blocks v → ContentsStand v → (change : Storing v w) → ImageChange Stored v w change image next
    → NearView blocks content v image → NearView blocks content w next
storing_near blocks content v w image next placed stand change does near =
    let serves = change.serves in
    let unit = change.unit in
    let count = change.count in
    let block = change.block in
    let bytes = change.bytes in
    let request : Request = Write block count change.fill in
    let is : ProgressIs (Writes unit bytes) v.u request =
    subst (λ (p : Progress). ProgressIs p v.u request) serves.progress (stand.work serves.work serves.now request serves.next) in
    let stored = is.0 in
    let some = is.1 in
    let long = unit_blocks count unit change.fill bytes some is.2 in
    let n = length bytes / 512 in
    let whole : unit_length (512 * count) unit ≡ 512 * n = omega (arith, long, some) in
    let from : 8192 * unit ≡ 512 * v.u = omega (arith, stored) in
    let unit_is : bytes ≡ range_at (512 * v.u) (512 * n) (written change.fill count) =
    is.2 ∙ ap (λ (m : ℕ). range_at (8192 * unit) m (written change.fill count)) whole ∙ ap (λ (p : ℕ). range_at p (512 * n) (written change.fill count)) from in
    let fits = (admitted_blocks blocks block count (got_sound blocks v.pending v.k request placed.sound serves.next)).2 in
    let image_long = near.image_long in
    let image_is : next ≡ put_at (512 * (block + v.u)) (range_at (512 * v.u) (512 * n) (written change.fill count)) image =
    does ∙ ap (λ (u : ℕ). put_at (512 * (block + u)) bytes image) (sym stored) ∙ ap (λ (x : List ℕ). put_at (512 * (block + v.u)) x image) unit_is in
    subst (λ (x : View). NearView blocks content x next) (sym serves.is) (record {
      content_long = near.content_long;
      image_long = ap length does ∙ length-put_at (512 * (block + 16 * unit)) bytes image (omega (arith, long, some, fits, image_long)) ∙ near.image_long;
      image_near =
          subst (λ (i : List ℕ). NearContent blocks content v.pending v.k v.m (v.u + n) i) (sym image_is)
          (near_stored blocks content v.pending v.k v.m v.u n block count change.fill image serves.next fits (omega (arith, stored, some, long)) near.image_long near.image_near);
      done = near.done;
      work = work_stored content v w change near.work;
    })

pub flushing_near : (blocks : ℕ) (content : List ℕ) (v w : View) (image : List ℕ) → Flushing v w → NearView blocks content v image → NearView blocks content w image
flushing_near blocks content v w image change near =
    subst (λ (x : View). NearView blocks content x image) (sym change.serves.is) (record {
      content_long = near.content_long;
      image_long = near.image_long;
      image_near = near.image_near;
      done = near.done;
      work = work_flushed content v w change near.work;
    })

pub finishes_near : (blocks : ℕ) (content : List ℕ) (v w : View) (image : List ℕ) → AreSound blocks v.pending → ContentsStand v → Finishes v w → NearView blocks content v image
    → NearView blocks content w image
finishes_near blocks content v w image sound stand change near =
    let is : ProgressIs (Ends change.status) v.u change.request =
    subst (λ (p : Progress). ProgressIs p v.u change.request) change.ends (stand.work change.work change.now change.request change.next) in
    subst (λ (x : View). NearView blocks content x image) (sym change.is) (record {
      content_long = near.content_long;
      image_long = near.image_long;
      image_near = near_finished blocks content v.pending v.k v.m v.u image change.request sound near.content_long change.next is.0 near.image_near;
      done = done_finished content v w change near.done near.work;
      work = λ session here work now block count got. absurd (cc now);
    })

-- EACH KIND
same_image : (blocks : ℕ) (content : List ℕ) (w : View) (image next : List ℕ) → next ≡ image → NearView blocks content w image → NearView blocks content w next
same_image blocks content w image next is near = subst (λ (i : List ℕ). NearView blocks content w i) (sym is) near

pub kind_near : (kind : Kind) (blocks : ℕ) (content : List ℕ) (v w : View) (image next : List ℕ) → Placed blocks v → ContentsStand v → (change : IsChange kind v w)
    → ImageChange kind v w change image next → NearView blocks content v image → NearView blocks (content_behind kind content v.pending) w next
kind_near Rested blocks content v w image next placed stand change does near = same_image blocks content w image next does (rests_near blocks content v w image change near)
kind_near Opened blocks content v w image next placed stand change does near = same_image blocks content w image next does (opens_near blocks content v w image change near)
kind_near (Disturbed p) blocks content v w image next placed stand change does near =
    same_image blocks content w image next does (disturbs_near blocks content p v w image placed.sound change near)
kind_near (Asked request) blocks content v w image next placed stand change does near =
    same_image blocks content w image next does (accepts_near blocks content request v w image placed stand change near)
kind_near Published blocks content v w image next placed stand change does near = same_image blocks content w image next does (publishes_near blocks content v w image placed stand change near)
kind_near Completed blocks content v w image next placed stand change does near =
    subst (λ (xs : List Request). NearView blocks (front_done content xs) w next) (sym change.front)
    (same_image blocks (after_request content change.request) w image next does (completes_near blocks content v w image placed.sound change near))
kind_near Fetched blocks content v w image next placed stand change does near = same_image blocks content w image next does (fetches_near blocks content v w image change near)
kind_near Gathered blocks content v w image next placed stand change does near = same_image blocks content w image next does (gathering_near blocks content v w image change near)
kind_near Given blocks content v w image next placed stand change does near = same_image blocks content w image next does (giving_near blocks content v w image placed stand change near)
kind_near Looked blocks content v w image next placed stand change does near = reading_near blocks content v w image next placed stand change does near
kind_near Stored blocks content v w image next placed stand change does near = storing_near blocks content v w image next placed stand change does near
kind_near Flushed blocks content v w image next placed stand change does near = same_image blocks content w image next does (flushing_near blocks content v w image change near)
kind_near Ended blocks content v w image next placed stand change does near =
    same_image blocks content w image next does (finishes_near blocks content v w image placed.sound stand change near)
