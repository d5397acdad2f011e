-- Along every run of a world each lane is run by what the journal says happened to it.
use Rattle.std.proofs.Common.{◌≡◌, ℕ, zero, suc, ◌+◌, List, [], ◌∷◌, length, map, slice_get, Some, refl, sym, ap, ◌∙◌, subst, arith}
use Rattle.std.proofs.lemmas.List.{length-map}
use Rattle.std.proofs.lemmas.Option.{slice_get-map, slice_get_within}
use Rattle.std.specs.Option.{option_map}
use Rattle.runs.specs.Run.{Run}
use Rattle.disk_law.specs.ListState.{ImageState}
use Rattle.lane_models.specs.DiskEvent.{DiskEvent}
use Rattle.lane_models.specs.LaneState.{IsShape, LaneState, Shape, fresh}
use Rattle.lane_models.specs.LaneStep.{LaneStep}
use Rattle.lane_models.specs.Reached.{IsReached}
use Rattle.lane_kinds.proofs.Moving.{lane_steps, told_moves}
use Rattle.world_laws.proofs.DiskLaws.{disk_reads, disk_silent, gives_nothing}
use Rattle.world_laws.specs.DiskKind.{disk_kind}
use Rattle.world_laws.proofs.Moving.{moved_reached, moves_on, nothing_moves, stay}
use Rattle.world_laws.specs.Along.{LanesMove, event_at, happened}
use Rattle.world_laws.specs.Rounds.{Each}
use Rattle.world_laws.specs.Settle.{OfLane, SettleEntry, disk_entries}
use Rattle.lane_kinds.proofs.Places.{get_within}
use Rattle.world_laws.proofs.LaneLists.{lane_moved, many_moved}
use Rattle.world_laws.specs.WorldAlong.{LanesRun}
use Rattle.world_laws.specs.World.{AreShapes, LaneMoves, WorldState, WorldStep, fresh_world}

-- an event over the image is a step of the lane
pub lane_step : (s : LaneState) (i : ImageState) (event : DiskEvent) (t : LaneState) (j : ImageState) → LaneMoves s i event t j → LaneStep s event t
lane_step s i event t j moves = grind arith

-- EACH ENTRY moves all lanes, and so does a run
pub entry_moves : (w : WorldState) (entry : SettleEntry) (v : WorldState) → WorldStep w entry v → LanesMove 0 w.lanes (entry ∷ []) v.lanes
entry_moves w (OfLane k event) v step =
    told_moves disk_kind disk_entries event_at disk_reads disk_silent 0 k w.lanes event v.lanes
    (lane_steps disk_kind gives_nothing k w.lanes step.lane event step.after v.lanes step.there (lane_step step.lane w.image event step.after v.image step.moves) step.lanes).step
entry_moves w entry v step =
    subst (λ (x : WorldState). LanesMove 0 w.lanes (entry ∷ []) x.lanes) (sym step) (nothing_moves 0 w.lanes (entry ∷ []) (λ j. refl))

pub run_moves : (w : WorldState) (entries : List SettleEntry) (v : WorldState) → Run WorldStep w entries v → LanesMove 0 w.lanes entries v.lanes
run_moves w [] v run = subst (λ (x : WorldState). LanesMove 0 w.lanes [] x.lanes) run (stay 0 w.lanes)
run_moves w (entry ∷ entries) v run =
    moves_on 0 w.lanes run.0.lanes v.lanes (entry ∷ []) entries (entry_moves w entry run.0 run.1) (run_moves run.0 entries v run.2)

-- each lane, between any two worlds of a run
pub lane_runs : (w : WorldState) (entries : List SettleEntry) (v : WorldState) (k : ℕ) (s t : LaneState) → Run WorldStep w entries v → slice_get w.lanes k ≡ Some s → slice_get v.lanes k ≡ Some t
    → Run LaneStep s (happened k entries) t
lane_runs w entries v k s t run there after = lane_moved 0 k k w.lanes entries v.lanes s t (omega (arith)) (run_moves w entries v run) there after

pub many_stay : (w : WorldState) (entries : List SettleEntry) (v : WorldState) → Run WorldStep w entries v → length v.lanes ≡ length w.lanes
many_stay w entries v run = many_moved 0 w.lanes entries v.lanes (run_moves w entries v run)

-- FROM A FRESH WORLD
pub fresh_there : (shapes : List Shape) (k : ℕ) (shape : Shape) → slice_get shapes k ≡ Some shape → slice_get (map fresh shapes) k ≡ Some (fresh shape)
fresh_there shapes k shape there = slice_get-map fresh shapes k ∙ ap (option_map fresh) there

pub lanes_run : (shapes : List Shape) (image : ImageState) (entries : List SettleEntry) (w : WorldState) → Run WorldStep (fresh_world shapes image) entries w → LanesRun shapes entries w
lanes_run shapes image entries w run = record {
  many = many_stay (fresh_world shapes image) entries w run ∙ length-map shapes fresh;
  each = λ k shape s of_shape there. lane_runs (fresh_world shapes image) entries w k (fresh shape) s run (fresh_there shapes k shape of_shape) there;
}

-- each shape has its lane
pub lane_at : (shapes : List Shape) (image : ImageState) (entries : List SettleEntry) (w : WorldState) (k : ℕ) (shape : Shape) → Run WorldStep (fresh_world shapes image) entries w
    → slice_get shapes k ≡ Some shape → (s : LaneState) × (slice_get w.lanes k ≡ Some s)
lane_at shapes image entries w k shape run there =
    let within = slice_get_within shapes k shape there in
    let many = (lanes_run shapes image entries w run).many in
    get_within w.lanes k (omega (arith, within, many))

pub shape_at : (first : ℕ) (shapes : List Shape) (k : ℕ) (shape : Shape) → AreShapes first shapes → slice_get shapes k ≡ Some shape → IsShape shape
shape_at first [] k shape are there = absurd (cc there)
shape_at first (x ∷ shapes) zero shape are there = let same : x ≡ shape = cc there in subst IsShape same are.0
shape_at first (x ∷ shapes) (suc k) shape are there = shape_at (first + x.blocks) shapes k shape are.2 there

-- EACH LANE IS REACHED, and stays it
pub fresh_reached : (first : ℕ) (shapes : List Shape) → AreShapes first shapes → Each IsReached (map fresh shapes)
fresh_reached first [] are = tt
fresh_reached first (shape ∷ shapes) are = (record { shape = shape; sound = are.0; events = []; run = refl }, fresh_reached (first + shape.blocks) shapes are.2)

pub stay_reached : (w : WorldState) (entries : List SettleEntry) (v : WorldState) → Each IsReached w.lanes → Run WorldStep w entries v → Each IsReached v.lanes
stay_reached w entries v all run = moved_reached 0 w.lanes entries v.lanes all (run_moves w entries v run)

pub world_reached : (first : ℕ) (shapes : List Shape) (image : ImageState) (entries : List SettleEntry) (w : WorldState) → AreShapes first shapes → Run WorldStep (fresh_world shapes image) entries w
    → Each IsReached w.lanes
world_reached first shapes image entries w are run = stay_reached (fresh_world shapes image) entries w (fresh_reached first shapes are) run
