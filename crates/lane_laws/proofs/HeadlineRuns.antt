-- Along every run of a lane with its image: what completed reads show, and what the image holds.
use Rattle.std.proofs.Common.{◌≡◌, ℕ, zero, suc, ◌+◌, ◌-◌, ◌*◌, ◌≤◌, ◌⊎◌, false, Some, List, [], ◌∷◌, drop, take, length, inl, inr, refl, sym, ap, ◌∙◌, subst, arith}
use Rattle.std.specs.Prelude.{slice_get, ⊤}
use Rattle.std.proofs.lemmas.List.{drop_all, take-append-le, take_all}
use Rattle.runs.specs.Lawful.{log_of, run_lawful}
use Rattle.runs.specs.Run.{Run}
use Rattle.vdisk_msg.specs.declared.request.Request.{Request}
use Rattle.vdisk_msg.specs.declared.request.Request.TheVariants.{Flush, Read, Write}
use Rattle.vdisk_msg.specs.Requests.{AreSound}
use Rattle.lane_models.specs.WireLog.{WireLog}
use Rattle.lane_laws.specs.DiskLog.{DiskLog, after, nothing_yet}
use Rattle.lane_models.specs.DiskEvent.{DiskEvent, Done, Works}
use Rattle.lane_models.specs.LaneState.{IsShape, LaneState, Shape, fresh}
use Rattle.lane_models.specs.LaneStep.{LaneStep}
use Rattle.lane_laws.proofs.RingClientSteps.{got_at}
use Rattle.lane_laws.proofs.RingRuns.{before as clean_before}
use Rattle.lane_laws.specs.Standing.{LaneInvariant, RequestsStand}
use Rattle.lane_laws.specs.Blocks.{after_requests, block_at}
use Rattle.lane_laws.specs.Headline.{CompletionShows, HoldsDone, Imaged, ImagedStep, LastWrite, LaterWrite, PendingWrite, ShowsLast, done_content, fresh_image}
use Rattle.lane_laws.specs.ImageStep.{content_after, front_done}
use Rattle.lane_laws.specs.Near.{FrontShows, ImageHolds, IsNear}
use Rattle.lane_laws.specs.NearContent.{PendingPuts}
use Rattle.lane_laws.proofs.BlockWrites.{after_append, take_more}
use Rattle.lane_laws.proofs.Completions.{run_shows}
use Rattle.lane_laws.proofs.Disturbing.{run_later}
use Rattle.lane_laws.proofs.Holding.{run_holds, run_settled}
use Rattle.lane_laws.proofs.FailedRuns.{failed_before}
use Rattle.lane_laws.proofs.LaneRuns.{AlongContents, contents_step, run_contents}
use Rattle.lane_laws.proofs.LastWrites.{last_write}
use Rattle.lane_laws.proofs.NearRuns.{fresh_is_near, run_near, run_step}
use Rattle.lane_laws.proofs.Statuses.{run_done_zero}
use Rattle.lane_laws.proofs.MemorySteps.{sound_push}

-- THE CONTENT of what is done, after an event
front_content : (first : List ℕ) (issued : List Request) (done : ℕ) (pending : List Request) → pending ≡ drop done issued → 1 ≤ length pending
    → front_done (after_requests first (take done issued)) pending ≡ after_requests first (take (done + 1) issued)
front_content first issued done [] is some = absurd (omega (arith, some))
front_content first issued done (request ∷ pending) is some =
    let got : slice_get issued done ≡ Some request =
    let place : done + 0 ≡ done = omega arith in
    ap (slice_get issued) (sym place) ∙ sym (got_at issued done 0) ∙ ap (λ (xs : List Request). slice_get xs 0) (sym is) in
    let next : done + 1 ≡ suc done = omega arith in
    sym (after_append first (take done issued) request) ∙ ap (after_requests first) (sym (take_more issued done request got)) ∙ ap (λ (n : ℕ). after_requests first (take n issued)) (sym next)

-- what an event does to it is what it does to the content
behind_done : (first : List ℕ) (s : LaneState) (l : DiskLog) (event : DiskEvent) (t : LaneState) → RequestsStand s.client l.work → LaneStep s event t
    → content_after s (done_content first l) event ≡ done_content first (after l event)
behind_done first s l event t stands step = grind (arith, take-append-le, front_content)

-- EACH REQUEST that was accepted was admitted
sound_take : (blocks : ℕ) (requests : List Request) (n : ℕ) → AreSound blocks requests → AreSound blocks (take n requests)
sound_take blocks requests zero sound = tt
sound_take blocks [] (suc n) sound = tt
sound_take blocks (one ∷ requests) (suc n) sound = (sound.0, sound.1, sound_take blocks requests n sound.2)

blocks_are : (shape : Shape) (s : LaneState) (l : DiskLog) → l.shape ≡ shape → LaneInvariant s l → s.client.blocks ≡ shape.blocks
blocks_are shape s l disk stands = stands.blocks ∙ ap (λ (x : Shape). x.blocks) (stands.shape ∙ disk)

sound_behind : (blocks : ℕ) (s : LaneState) (l : DiskLog) (event : DiskEvent) (t : LaneState) → s.client.blocks ≡ blocks → AreSound blocks l.work.issued → LaneStep s event t
    → AreSound blocks (after l event).work.issued
sound_behind blocks s l event t same sound step = grind (arith, sound_push)

-- ALONG A RUN with the image
record AlongImage (shape : Shape) (first : List ℕ) (a : Imaged) (l : DiskLog) : Type 0 where
  holds : AlongContents shape a.lane l
  disk : l.shape ≡ shape
  sound : AreSound shape.blocks l.work.issued
  near : l.wire.forged ≡ false → a.lane.failed ≡ false → IsNear (done_content first l) a.lane a.image

image_step : (shape : Shape) (first : List ℕ) → IsShape shape → (a : Imaged) (l : DiskLog) (event : DiskEvent) (b : Imaged) → AlongImage shape first a l → ImagedStep a event b
    → ⊤ × AlongImage shape first b (after l event)
image_step shape first sound a l event b along step =
    let behind = (contents_step shape sound a.lane l event b.lane along.holds step.0).1 in (
      tt,
      record {
        holds = behind;
        disk = along.disk;
        sound = sound_behind shape.blocks a.lane l event b.lane (blocks_are shape a.lane l along.disk along.holds.along.all.stands) along.sound step.0;
        near = λ clean well.
            let run = along.holds.along in
            let before = along.near (clean_before l event clean) (failed_before a.lane event b.lane step.0 well) in
            let unforged : b.lane.wire.forged ≡ false = ap (λ (w : WireLog). w.forged) behind.along.all.stands.wire ∙ clean in
            subst (λ (c : List ℕ). IsNear c b.lane b.image) (behind_done first a.lane l event b.lane along.holds.along.all.stands.requests step.0)
            (run_near shape run.events a.lane event b.lane (done_content first l) a.image b.image sound run.run step.0 unforged well step.1 before);
      },
    )

along_image : (shape : Shape) (first : List ℕ) (events : List DiskEvent) (a : Imaged) → IsShape shape → length first ≡ 512 * shape.blocks → Run ImagedStep (fresh_image shape first) events a
    → AlongImage shape first a (log_of after (nothing_yet shape) events)
along_image shape first events a sound long run =
    (run_lawful ImagedStep (λ (l : DiskLog) (e : DiskEvent). ⊤) after (AlongImage shape first) (image_step shape first sound) (fresh_image shape first) a (nothing_yet shape) events
    (record { holds = run_contents shape [] (fresh shape) sound refl; disk = refl; sound = tt; near = λ clean well. fresh_is_near shape first long }) run).1

pub lane_run : (a : Imaged) (events : List DiskEvent) (b : Imaged) → Run ImagedStep a events b → Run LaneStep a.lane events b.lane
lane_run a [] b run = ap (λ (x : Imaged). x.lane) run
lane_run a (event ∷ events) b run = (run.0.lane, run.1.0, lane_run run.0 events b run.2)

-- A COMPLETION
pending_at : (l : DiskLog) (pending : List Request) (place : ℕ) (request : Request) → pending ≡ drop l.work.done l.work.issued → slice_get pending place ≡ Some request
    → slice_get l.work.issued (l.work.done + place) ≡ Some request
pending_at l pending place request is got = sym (got_at l.work.issued l.work.done place) ∙ ap (λ (xs : List Request). slice_get xs place) (sym is) ∙ got

later_write : (l : DiskLog) (m b : ℕ) (bytes : List ℕ) (request : Request) (behind : List Request) → request ∷ behind ≡ drop l.work.done l.work.issued
    → (m ≡ 0) ⊎ (l.work.done + m ≤ l.work.disturbed_below) → PendingPuts behind 0 (m - 1) b bytes → LaterWrite l b bytes
later_write l m b bytes request behind is (inl none) puts = let below = puts.below in absurd (omega (arith, below, none))
later_write l m b bytes request behind is (inr few) puts =
    let below = puts.below in
    record {
      id = l.work.done + suc puts.place;
      request = puts.request;
      behind = omega arith;
      disturbed = omega (arith, below, few);
      accepted = pending_at l (request ∷ behind) (suc puts.place) puts.request is puts.there;
      puts = puts.puts;
    }

shown_block : (blocks : ℕ) (first : List ℕ) (l : DiskLog) (m b : ℕ) (bytes : List ℕ) (request : Request) (behind : List Request) → AreSound blocks l.work.issued → length first ≡ 512 * blocks
    → request ∷ behind ≡ drop l.work.done l.work.issued → (m ≡ 0) ⊎ (l.work.done + m ≤ l.work.disturbed_below)
    → (bytes ≡ block_at b (done_content first l)) ⊎ PendingPuts behind 0 (m - 1) b bytes → LastWrite first (take l.work.done l.work.issued) b bytes ⊎ LaterWrite l b bytes
shown_block blocks first l m b bytes request behind sound long is later (inl same) =
    inl (subst (LastWrite first (take l.work.done l.work.issued) b) (sym same)
    (last_write blocks first (take l.work.done l.work.issued) b (sound_take blocks l.work.issued l.work.done sound) long))
shown_block blocks first l m b bytes request behind sound long is later (inr puts) = inr (later_write l m b bytes request behind is later puts)

shows_last : (blocks : ℕ) (first : List ℕ) (l : DiskLog) (m : ℕ) (bytes : List ℕ) (request : Request) (behind : List Request) → AreSound blocks l.work.issued → length first ≡ 512 * blocks
    → request ∷ behind ≡ drop l.work.done l.work.issued → (m ≡ 0) ⊎ (l.work.done + m ≤ l.work.disturbed_below) → FrontShows (done_content first l) (request ∷ behind) m bytes
    → ShowsLast first l request bytes
shows_last blocks first l m bytes (Read block count) behind sound long is later shows =
    (shows.0, λ b below. shown_block blocks first l m (block + b) (block_at b bytes) (Read block count) behind sound long is later (shows.1 b below))
shows_last blocks first l m bytes (Write block count fill) behind sound long is later shows = shows
shows_last blocks first l m bytes Flush behind sound long is later shows = shows

front_last : (blocks : ℕ) (first : List ℕ) (l : DiskLog) (m status : ℕ) (bytes : List ℕ) (pending : List Request) → AreSound blocks l.work.issued → length first ≡ 512 * blocks
    → pending ≡ drop l.work.done l.work.issued → (m ≡ 0) ⊎ (l.work.done + m ≤ l.work.disturbed_below) → status ≡ 0 → FrontShows (done_content first l) pending m bytes
    → CompletionShows first l status bytes
front_last blocks first l m status bytes [] sound long is later none shows = absurd shows
front_last blocks first l m status bytes (request ∷ behind) sound long is later none shows = record {
  request = request;
  accepted = let place : l.work.done + 0 ≡ l.work.done = omega arith in ap (slice_get l.work.issued) (sym place) ∙ pending_at l (request ∷ behind) 0 request is refl;
  succeeds = none;
  shows = shows_last blocks first l m bytes request behind sound long is later shows;
}

pub run_completion : (shape : Shape) (first : List ℕ) (events : List DiskEvent) (a : Imaged) (id operation status : ℕ) (bytes : List ℕ) (b : Imaged) → IsShape shape → length first ≡ 512 * shape.blocks
    → Run ImagedStep (fresh_image shape first) events a → ImagedStep a (Works (Done id operation status bytes)) b → b.lane.wire.forged ≡ false → b.lane.failed ≡ false
    → CompletionShows first (log_of after (nothing_yet shape) events) status bytes
run_completion shape first events a id operation status bytes b sound long run step unforged well =
    let l = log_of after (nothing_yet shape) events in
    let event : DiskEvent = Works (Done id operation status bytes) in
    let along = along_image shape first events a sound long run in
    let lane = lane_run (fresh_image shape first) events a run in
    let here = run_step shape events a.lane event b.lane sound lane step.0 unforged well in
    let stands = here.at.before.known.stands in
    let clean = clean_before l event here.clean in
    let still = failed_before a.lane event b.lane step.0 well in
    let before : a.lane.wire.forged ≡ false = ap (λ (w : WireLog). w.forged) stands.wire ∙ clean in
    let near = along.near clean still in
    let later = run_later shape events a.lane sound lane before in
    front_last shape.blocks first l a.lane.near.m status bytes a.lane.client.pending along.sound long stands.requests.pending later.later
    (run_done_zero shape events a.lane id operation status bytes b.lane sound lane step.0 unforged well)
    (run_shows shape events a.lane id operation status bytes b.lane (done_content first l) a.image sound lane step.0 unforged well near)

-- THE IMAGE
pending_write : (l : DiskLog) (b : ℕ) (bytes : List ℕ) (pending : List Request) → pending ≡ drop l.work.done l.work.issued → PendingPuts pending 0 (length pending) b bytes → PendingWrite l b bytes
pending_write l b bytes pending is puts = record {
  id = l.work.done + puts.place;
  request = puts.request;
  pending = omega arith;
  accepted = pending_at l pending puts.place puts.request is puts.there;
  puts = puts.puts;
}

pub run_image : (shape : Shape) (first : List ℕ) (events : List DiskEvent) (a : Imaged) → IsShape shape → length first ≡ 512 * shape.blocks → Run ImagedStep (fresh_image shape first) events a
    → a.lane.wire.forged ≡ false → a.lane.failed ≡ false → HoldsDone shape.blocks first (log_of after (nothing_yet shape) events) a.image
run_image shape first events a sound long run unforged well =
    let l = log_of after (nothing_yet shape) events in
    let along = along_image shape first events a sound long run in
    let lane = lane_run (fresh_image shape first) events a run in
    let stands = along.holds.along.all.stands in
    let clean : l.wire.forged ≡ false = sym (ap (λ (w : WireLog). w.forged) stands.wire) ∙ unforged in
    let holds = run_holds shape events a.lane (done_content first l) a.image sound lane unforged well (along.near clean well) in
    let here : ImageHolds shape.blocks (done_content first l) a.lane.client.pending a.image =
    subst (λ (n : ℕ). ImageHolds n (done_content first l) a.lane.client.pending a.image) (blocks_are shape a.lane l along.disk stands) holds in
    λ b below. by_block l b stands.requests (here b below)
  where
    by_block : (l : DiskLog) (b : ℕ) → RequestsStand a.lane.client l.work
        → (block_at b a.image ≡ block_at b (done_content first l)) ⊎ PendingPuts a.lane.client.pending 0 (length a.lane.client.pending) b (block_at b a.image)
        → (block_at b a.image ≡ block_at b (done_content first l)) ⊎ PendingWrite l b (block_at b a.image)
    by_block l b requests (inl same) = inl same
    by_block l b requests (inr puts) = inr (pending_write l b (block_at b a.image) a.lane.client.pending requests.pending puts)

pub run_all_done : (shape : Shape) (first : List ℕ) (events : List DiskEvent) (a : Imaged) → IsShape shape → length first ≡ 512 * shape.blocks → Run ImagedStep (fresh_image shape first) events a
    → a.lane.wire.forged ≡ false → a.lane.failed ≡ false → (log_of after (nothing_yet shape) events).work.done ≡ length (log_of after (nothing_yet shape) events).work.issued
    → a.image ≡ after_requests first (log_of after (nothing_yet shape) events).work.issued
run_all_done shape first events a sound long run unforged well all =
    let l = log_of after (nothing_yet shape) events in
    let along = along_image shape first events a sound long run in
    let lane = lane_run (fresh_image shape first) events a run in
    let stands = along.holds.along.all.stands in
    let clean : l.wire.forged ≡ false = sym (ap (λ (w : WireLog). w.forged) stands.wire) ∙ unforged in
    let none : a.lane.client.pending ≡ [] = stands.requests.pending ∙ drop_all l.work.done l.work.issued (omega (arith, all)) in
    run_settled shape events a.lane (done_content first l) a.image sound lane unforged well (along.near clean well) none
    ∙ ap (after_requests first) (take_all l.work.done l.work.issued (omega (arith, all)))
