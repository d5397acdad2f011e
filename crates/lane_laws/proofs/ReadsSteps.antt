-- Each kind of change leaves what was read showing the content at its place.
use Rattle.std.proofs.Common.{◌≡◌, ℕ, suc, ◌+◌, ◌-◌, ◌*◌, ◌%◌, ◌<◌, List, [], ◌∷◌, ◌++◌, length, Option, Some, sym, ap, ◌∙◌, subst, arith}
use Rattle.std.specs.Prelude.{slice_get}
use Rattle.vdisk_msg.specs.declared.request.Request.{Request}
use Rattle.vdisk_msg.specs.declared.request.Request.TheVariants.{Read}
use Rattle.vdisk_msg.specs.Requests.{after_request}
use Rattle.lane_models.specs.ClientState.{ClientSession}
use Rattle.lane_models.specs.ServerState.{Ends, Gives, Progress, Reads}
use Rattle.lane_laws.specs.LaneView.{View, place_of}
use Rattle.lane_laws.specs.NearContent.{Shows}
use Rattle.lane_laws.specs.ReadsNear.{BlocksShow, DoneShow, UnitsShow, WorkShows}
use Rattle.lane_laws.proofs.Changes.{Completes, Keeps, Placed}
use Rattle.lane_laws.proofs.ContentsSteps.{next_got, same_place}
use Rattle.lane_laws.proofs.NearSteps.{get_within}
use Rattle.lane_laws.proofs.PendingWrites.{shows_done, shows_pushed}
use Rattle.lane_models.proofs.Apart.{some_same}

-- WHAT SHOWS goes on to show
units_map : (progress : Progress) (content other : List ℕ) (pending after : List Request) (m n k i block count place : ℕ) (buffers : List ℕ)
    → ((b : ℕ) (bytes : List ℕ) → Shows content pending k m b bytes → Shows other after i n b bytes) → UnitsShow progress content pending m k block count place buffers
    → UnitsShow progress other after n i block count place buffers
units_map (Reads unit) content other pending after m n k i block count place buffers f show = λ b below. f (block + b) _ (show b below)
units_map (Gives unit bytes) content other pending after m n k i block count place buffers f show =
    (λ b below. f (block + b) _ (show.0 b below), λ b below. f (block + 16 * unit + b) _ (show.1 b below))
units_map (Ends status) content other pending after m n k i block count place buffers f show = λ b below. f (block + b) _ (show b below)
units_map _ content other pending after m n k i block count place buffers f show = tt

-- NOTHING changes but the session
pub done_kept : (content : List ℕ) (v : View) (o : Option ClientSession) → Keeps v.session o → DoneShow content v → DoneShow content (record v { session = o })
done_kept content v o keeps done = λ session is i below block count got.
    let from = keeps session is in
    subst (λ (p : ℕ). BlocksShow content v.pending v.m i block count p v.buffers) (sym (same_place v.slots i session from.was from.completed)) (done from.was from.there i below block count got)

pub work_kept : (content : List ℕ) (v : View) (o : Option ClientSession) → Keeps v.session o → WorkShows content v → WorkShows content (record v { session = o })
work_kept content v o keeps shows = λ session is work now block count got.
    let from = keeps session is in
    subst (λ (p : ℕ). UnitsShow work.progress content v.pending v.m v.k block count p v.buffers) (sym (same_place v.slots v.k session from.was from.completed))
    (shows from.was from.there work now block count got)

-- A REQUEST IS ACCEPTED
pub done_accepted : (blocks : ℕ) (content : List ℕ) (request : Request) (v : View) → Placed blocks v → DoneShow content v → DoneShow content (record v { pending = v.pending ++ request ∷ [] })
done_accepted blocks content request v placed done = λ session is i below block count got.
    let finished = placed.finished in
    let within : i < length v.pending = omega (arith, below, finished) in
    let old = done session is i below block count (sym (get_within v.pending request i within) ∙ got) in
    λ b less. shows_pushed content request v.pending i v.m (block + b) _ (omega (arith, within)) (old b less)

pub work_accepted : (blocks : ℕ) (content : List ℕ) (request : Request) (v : View) → Placed blocks v → WorkShows content v → WorkShows content (record v { pending = v.pending ++ request ∷ [] })
work_accepted blocks content request v placed shows = λ session is work now block count got.
    let within = placed.serves work now in
    let old = shows session is work now block count (sym (get_within v.pending request v.k within) ∙ got) in
    units_map work.progress content content v.pending (v.pending ++ request ∷ []) v.m v.m v.k v.k block count (place_of v.slots session v.k) v.buffers
    (λ b bytes. shows_pushed content request v.pending v.k v.m b bytes (omega (arith, within))) old

-- THE FIRST IS DONE
pub done_completed : (content : List ℕ) (v : View) → (change : (w : View) × Completes v w) → DoneShow content v
    → DoneShow (after_request content change.1.request) (record v {
      pending = change.1.behind;
      session = Some (record change.1.session { completed = change.1.session.completed + 1 });
      k = v.k - 1;
      m = v.m - 1;
    })
done_completed content v change done = λ session is i below block count got.
    let c = change.1.session in
    let same : record c { completed = c.completed + 1 } ≡ session = some_same is in
    let completed : session.completed ≡ c.completed + 1 = ap (λ (x : ClientSession). x.completed) (sym same) in
    let number : session.completed + i ≡ c.completed + suc i = omega (arith, completed) in
    let old = done c change.1.there (suc i) (omega (arith, below)) block count (next_got v.pending change.1.request change.1.behind i (Read block count) change.1.front got) in
    let place : place_of v.slots c (suc i) ≡ place_of v.slots session i = ap (λ (n : ℕ). 32768 * (n % v.slots)) (sym number) in
    let front : BlocksShow content (change.1.request ∷ change.1.behind) v.m (suc i) block count (place_of v.slots session i) v.buffers =
    subst (λ (p : ℕ). BlocksShow content (change.1.request ∷ change.1.behind) v.m (suc i) block count p v.buffers) place
    (subst (λ (xs : List Request). BlocksShow content xs v.m (suc i) block count (place_of v.slots c (suc i)) v.buffers) change.1.front old) in
    λ b less. shows_done content change.1.request change.1.behind i v.m (block + b) _ (front b less)

pub work_completed : (content : List ℕ) (v : View) → (change : (w : View) × Completes v w) → WorkShows content v
    → WorkShows (after_request content change.1.request) (record v {
      pending = change.1.behind;
      session = Some (record change.1.session { completed = change.1.session.completed + 1 });
      k = v.k - 1;
      m = v.m - 1;
    })
work_completed content v change shows = λ session is work now block count got.
    let c = change.1.session in
    let some = change.1.finished in
    let i = v.k - 1 in
    let last : v.k ≡ suc i = omega (arith, some) in
    let same : record c { completed = c.completed + 1 } ≡ session = some_same is in
    let completed : session.completed ≡ c.completed + 1 = ap (λ (x : ClientSession). x.completed) (sym same) in
    let number : session.completed + i ≡ c.completed + v.k = omega (arith, completed, last) in
    let old = shows c change.1.there work now block count (ap (slice_get v.pending) last ∙ next_got v.pending change.1.request change.1.behind i (Read block count) change.1.front got) in
    let place : place_of v.slots c v.k ≡ place_of v.slots session i = ap (λ (n : ℕ). 32768 * (n % v.slots)) (sym number) in
    let front : UnitsShow work.progress content (change.1.request ∷ change.1.behind) v.m (suc i) block count (place_of v.slots session i) v.buffers =
    subst (λ (n : ℕ). UnitsShow work.progress content (change.1.request ∷ change.1.behind) v.m n block count (place_of v.slots session i) v.buffers) last
    (subst (λ (p : ℕ). UnitsShow work.progress content (change.1.request ∷ change.1.behind) v.m v.k block count p v.buffers) place
    (subst (λ (xs : List Request). UnitsShow work.progress content xs v.m v.k block count (place_of v.slots c v.k) v.buffers) change.1.front old)) in
    units_map work.progress content (after_request content change.1.request) (change.1.request ∷ change.1.behind) change.1.behind v.m (v.m - 1) (suc i) i block count (place_of v.slots session i) v.buffers
    (λ b bytes. shows_done content change.1.request change.1.behind i v.m b bytes) front
