-- Each disk of a world that nobody forged and whose store didn't fail has its own image, whatever became of the others.
use Rattle.std.proofs.Common.{◌≡◌, ℕ, ◌+◌, ◌*◌, ◌≤◌, Bool, true, false, Option, Some, List, [], ◌∷◌, ◌++◌, length, slice_get, refl, sym, ap, ◌∙◌, subst, arith}
use Rattle.std.proofs.lemmas.List.{append-nil}
use Rattle.std.proofs.lemmas.Bool.{eq-eqb, eqb-false, eqb-true}
use Rattle.std.specs.Prelude.{◌==◌, if◌then◌else◌}
use Rattle.runs.specs.Run.{Run, run_push}
use Rattle.disk_law.specs.ListState.{ImageState}
use Rattle.lane_models.specs.DiskEvent.{DiskEvent}
use Rattle.lane_models.specs.LaneState.{IsShape, LaneState, Shape, fresh}
use Rattle.lane_models.specs.LaneStep.{LaneStep}
use Rattle.lane_laws.specs.Headline.{Imaged, ImagedStep, fresh_image}
use Rattle.lane_laws.specs.ImageStep.{ImageStep, region_of}
use Rattle.lane_laws.proofs.FailedRuns.{failed_before}
use Rattle.lane_laws.proofs.RegionRuns.{run_served}
use Rattle.world_laws.proofs.Moving.{happened_both}
use Rattle.world_laws.specs.Along.{happened}
use Rattle.world_laws.specs.Settle.{OfLane, SettleEntry}
use Rattle.world_laws.proofs.Along.{fresh_there, lane_step}
use Rattle.lane_kinds.proofs.Places.{get_other, get_set}
use Rattle.world_laws.specs.World.{IsWorld, LaneMoves, OneMoves, WorldState, WorldStep, blocks_in, fresh_world}
use Rattle.world_laws.specs.OwnImage.{OwnImage}
use Rattle.world_laws.specs.Stays.{StaysAround}
use Rattle.world_laws.proofs.BehindDisks.{still_holds}
use Rattle.world_laws.proofs.ImageKeeping.{region_apart, some_is}
use Rattle.world_laws.proofs.Forging.{forged_before}
use Rattle.world_laws.proofs.ShapePlaces.{shapes_apart}
use Rattle.world_laws.proofs.WorldRuns.{LaneAt, along_world, lane_at, step_around}

-- what happened to a lane in an entry of its own, and in one of another
own_event : (k : ℕ) (event : DiskEvent) → happened k (OfLane k event ∷ []) ≡ event ∷ []
own_event k event = ap (λ (c : Bool). (if c then event ∷ [] else []) ++ []) (eq-eqb k k refl)

other_event : (j k : ℕ) (event : DiskEvent) → (j == k) ≡ false → happened k (OfLane j event ∷ []) ≡ []
other_event j k event test = ap (λ (c : Bool). (if c then event ∷ [] else []) ++ []) test

-- A STEP OF ITS OWN lane is one of the image
still : (i j : ImageState) (store now : List ℕ) → i.told ≡ Some store → j.told ≡ Some now → j ≡ i → now ≡ store
still i j store now told told_now same = some_is now store (sym told_now ∙ ap (λ (x : ImageState). x.told) same ∙ told)

own_step : (shape : Shape) (events : List DiskEvent) (s : LaneState) (event : DiskEvent) (t : LaneState) (i j : ImageState) (store now : List ℕ) → IsShape shape → Run LaneStep (fresh shape) events s
    → LaneMoves s i event t j → i.told ≡ Some store → j.told ≡ Some now → 512 * (shape.first + shape.blocks) ≤ length store → t.wire.forged ≡ false → t.failed ≡ false
    → ImageStep s event t (region_of shape store) (region_of shape now)
own_step shape events s event t i j store now sound run moves told told_now room unforged well = grind (arith, run_served, some_is)

-- the run so far, and one more step
own_push : (shape : Shape) (first : List ℕ) (events : List DiskEvent) (s : LaneState) (event : DiskEvent) (t : LaneState) (told later : Option (List ℕ)) (now : List ℕ)
    → (before : OwnImage shape first events s told) → later ≡ Some now → LaneStep s event t → ImageStep s event t (region_of shape before.now) (region_of shape now)
    → OwnImage shape first (events ++ event ∷ []) t later
own_push shape first events s event t told later now before told_now step image = record {
  now = now;
  told_is = told_now;
  run = run_push ImagedStep (fresh_image shape (region_of shape first)) (record { lane = s; image = region_of shape before.now }) (record { lane = t; image = region_of shape now }) events event before.run (step, image);
}

-- the same image, where another's step left the region
abbrev pub of_lane : LaneState → List ℕ → Imaged
of_lane s image = record { lane = s; image = image }

own_stays : (shape : Shape) (first : List ℕ) (events : List DiskEvent) (s : LaneState) (told later : Option (List ℕ)) (now : List ℕ) → (before : OwnImage shape first events s told)
    → later ≡ Some now → region_of shape now ≡ region_of shape before.now → OwnImage shape first events s later
own_stays shape first events s told later now before told_now same = grind arith

-- ALONG A RUN of the world
module _ (shapes : List Shape) (image : ImageState) (first : List ℕ) (k : ℕ) (shape : Shape) (world : IsWorld shapes image) (told : image.told ≡ Some first) (there : slice_get shapes k ≡ Some shape) where
  abbrev HasImage : List SettleEntry → WorldState → Type 0
  HasImage past w = (s : LaneState) → slice_get w.lanes k ≡ Some s → s.wire.forged ≡ false → s.failed ≡ false → OwnImage shape first (happened k past) s w.image.told

  -- its own lane's
  lane_own : (past : List SettleEntry) (w : WorldState) (event : DiskEvent) (v : WorldState) → Run WorldStep (fresh_world shapes image) past w → (one : OneMoves w k event v)
      → LaneAt shapes past w k event v one → HasImage past w → one.after.wire.forged ≡ false → one.after.failed ≡ false
      → OwnImage shape first (happened k past ++ event ∷ []) one.after v.image.told
  lane_own past w event v run one at has unforged well =
      let same : at.shape ≡ shape = some_is at.shape shape (sym at.there ∙ there) in
      let lane_run : Run LaneStep (fresh shape) (happened k past) one.lane = subst (λ (x : Shape). Run LaneStep (fresh x) (happened k past) one.lane) same at.run in
      let sound : IsShape shape = subst IsShape same at.sound in
      let step : LaneStep one.lane event one.after = lane_step one.lane w.image event one.after v.image one.moves in
      let before : OwnImage shape first (happened k past) one.lane w.image.told =
      has one.lane one.there (forged_before one.lane event one.after step unforged) (failed_before one.lane event one.after step well) in
      let room = still_holds shapes image first before.now past w world told run before.told_is in
      let around : StaysAround at.shape before.now v.image.told = step_around shapes image past w k event v before.now world run one before.told_is room at in
      let ends : shape.first + shape.blocks ≤ blocks_in shapes = subst (λ (x : Shape). x.first + x.blocks ≤ blocks_in shapes) same at.ends in
      own_push shape first (happened k past) one.lane event one.after w.image.told v.image.told around.now before around.told_is step
      (own_step shape (happened k past) one.lane event one.after w.image v.image before.now around.now sound lane_run one.moves before.told_is around.told_is (omega (arith, room, ends)) unforged well)

  -- another's
  other_own : (past : List SettleEntry) (w : WorldState) (j : ℕ) (event : DiskEvent) (v : WorldState) → Run WorldStep (fresh_world shapes image) past w → (one : OneMoves w j event v)
      → LaneAt shapes past w j event v one → HasImage past w → (j ≡ k → ⊥) → (s : LaneState) → slice_get v.lanes k ≡ Some s → s.wire.forged ≡ false → s.failed ≡ false
      → OwnImage shape first (happened k past) s v.image.told
  other_own past w j event v run one at has other s now unforged well =
      let before_there : slice_get w.lanes k ≡ Some s = sym (get_other w.lanes j k one.after other) ∙ ap (λ (xs : List LaneState). slice_get xs k) (sym one.lanes) ∙ now in
      let before : OwnImage shape first (happened k past) s w.image.told = has s before_there unforged well in
      let room = still_holds shapes image first before.now past w world told run before.told_is in
      let around : StaysAround at.shape before.now v.image.told = step_around shapes image past w j event v before.now world run one before.told_is room at in
      own_stays shape first (happened k past) s w.image.told v.image.told around.now before around.told_is
      (region_apart at.shape shape before.now around.now around.around (shapes_apart 0 shapes j k at.shape shape world.shapes_are at.there there other))

  -- an event of its own lane, and one of another
  own_here : (past : List SettleEntry) (w : WorldState) (event : DiskEvent) (v : WorldState) → Run WorldStep (fresh_world shapes image) past w → OneMoves w k event v → HasImage past w
      → HasImage (past ++ OfLane k event ∷ []) v
  own_here past w event v run one has = λ s now unforged well.
      let is : s ≡ one.after = some_is s one.after (sym now ∙ ap (λ (xs : List LaneState). slice_get xs k) one.lanes ∙ get_set w.lanes k one.lane one.after one.there) in
      let same : happened k (past ++ OfLane k event ∷ []) ≡ happened k past ++ event ∷ [] =
      happened_both k past (OfLane k event ∷ []) ∙ ap (λ (l : List DiskEvent). happened k past ++ l) (own_event k event) in
      subst (λ (l : List DiskEvent). OwnImage shape first l s v.image.told) (sym same)
      (subst (λ (x : LaneState). OwnImage shape first (happened k past ++ event ∷ []) x v.image.told) (sym is)
      (lane_own past w event v run one (lane_at shapes image past w k event v world run one) has (ap (λ (x : LaneState). x.wire.forged) (sym is) ∙ unforged) (ap (λ (x : LaneState). x.failed) (sym is) ∙ well)))

  event_own : (past : List SettleEntry) (w : WorldState) (j : ℕ) (event : DiskEvent) (v : WorldState) → Run WorldStep (fresh_world shapes image) past w → OneMoves w j event v → HasImage past w
      → (b : Bool) → (j == k) ≡ b → HasImage (past ++ OfLane j event ∷ []) v
  event_own past w j event v run one has true test =
      let own : j ≡ k = eqb-true j k test in
      subst (λ (n : ℕ). HasImage (past ++ OfLane n event ∷ []) v) (sym own) (own_here past w event v run (subst (λ (n : ℕ). OneMoves w n event v) own one) has)
  event_own past w j event v run one has false test = λ s now unforged well.
      let other : j ≡ k → ⊥ = eqb-false j k test in
      let same : happened k (past ++ OfLane j event ∷ []) ≡ happened k past =
      happened_both k past (OfLane j event ∷ []) ∙ ap (λ (l : List DiskEvent). happened k past ++ l) (other_event j k event test) ∙ append-nil (happened k past) in
      subst (λ (l : List DiskEvent). OwnImage shape first l s v.image.told) (sym same)
      (other_own past w j event v run one (lane_at shapes image past w j event v world run one) has other s now unforged well)

  -- a settle's answer leaves all
  answer_own : (past : List SettleEntry) (w : WorldState) (entry : SettleEntry) (v : WorldState) → happened k (entry ∷ []) ≡ [] → v ≡ w → HasImage past w → HasImage (past ++ entry ∷ []) v
  answer_own past w entry v none is has = grind (arith, happened_both, append-nil, slice_get)

  image_step : (past : List SettleEntry) (w : WorldState) (entry : SettleEntry) (v : WorldState) → Run WorldStep (fresh_world shapes image) past w → WorldStep w entry v → HasImage past w
      → HasImage (past ++ entry ∷ []) v
  image_step past w (OfLane j event) v run step has = event_own past w j event v run step has (j == k) refl
  image_step past w x v run step has = answer_own past w x v refl step has

  first_own : HasImage [] (fresh_world shapes image)
  first_own = grind (arith, some_is, fresh_there)

  pub has_own : (entries : List SettleEntry) (w : WorldState) → Run WorldStep (fresh_world shapes image) entries w → (s : LaneState) → slice_get w.lanes k ≡ Some s → s.wire.forged ≡ false
      → s.failed ≡ false → OwnImage shape first (happened k entries) s w.image.told
  has_own entries w run s now unforged well = along_world (fresh_world shapes image) HasImage image_step first_own entries w run s now unforged well
