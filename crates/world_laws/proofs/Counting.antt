-- The next ids of a world's lanes together are as many as requests that its journal says were accepted.
use Rattle.std.proofs.Common.{◌≡◌, ℕ, suc, ◌+◌, ◌≤◌, List, [], ◌∷◌, ◌++◌, length, map, slice_get, slice_set, Some, refl, sym, ap, ◌∙◌, arith}
use Rattle.std.proofs.lemmas.List.{length-append}
use Rattle.runs.specs.Run.{Run, run_push}
use Rattle.disk_law.specs.Issued.{issued}
use Rattle.disk_law.specs.ListState.{ImageState}
use Rattle.lane_models.specs.DiskEvent.{DiskEvent}
use Rattle.lane_models.specs.LaneState.{LaneState, Shape, fresh}
use Rattle.lane_models.specs.LaneStep.{LaneStep}
use Rattle.lane_models.specs.Reached.{IsReached}
use Rattle.world_laws.specs.Rounds.{Each}
use Rattle.world_laws.specs.Settle.{OfLane, SettleEntry}
use Rattle.world_laws.proofs.Along.{fresh_reached, lane_step, stay_reached}
use Rattle.world_laws.proofs.LaneLists.{each_there}
use Rattle.world_laws.specs.World.{AreShapes, WorldState, WorldStep, fresh_world}
use Rattle.world_laws.proofs.Filtered.{filter_both}
use Rattle.world_laws.proofs.RequestLog.{issued_both, next_is}
use Rattle.world_laws.specs.Accepted.{accepted_in, accepts, next_ids}
use Rattle.world_laws.specs.Requests.{requests_of}

-- ONE EVENT of a lane
issued_more : (events : List DiskEvent) (event : DiskEvent) → length (issued (requests_of (events ++ event ∷ []))) ≡ length (issued (requests_of events)) + accepts event
issued_more events event = grind (arith, filter_both, issued_both, length-append)

pub next_counts : (s : LaneState) (event : DiskEvent) (t : LaneState) → IsReached s → LaneStep s event t → t.client.next_id ≡ s.client.next_id + accepts event
next_counts s event t at step =
    next_is at.shape (at.events ++ event ∷ []) t at.sound (run_push LaneStep (fresh at.shape) s t at.events event at.run step)
    ∙ issued_more at.events event ∙ ap (λ (n : ℕ). n + accepts event) (sym (next_is at.shape at.events s at.sound at.run))

-- THE SUM after one lane's event
sum_set : (lanes : List LaneState) (k : ℕ) (s t : LaneState) (more : ℕ) → slice_get lanes k ≡ Some s → t.client.next_id ≡ s.client.next_id + more → next_ids (slice_set lanes k t) ≡ next_ids lanes + more
sum_set (x ∷ lanes) (suc k) s t more there is = let rest = sum_set lanes k s t more there is in omega (arith, rest)
sum_set lanes k s t more there is = grind arith

pub run_counts : (w : WorldState) (entries : List SettleEntry) (v : WorldState) → Each IsReached w.lanes → Run WorldStep w entries v → next_ids v.lanes ≡ next_ids w.lanes + accepted_in entries
run_counts w [] v all run = let same = ap (λ (x : WorldState). next_ids x.lanes) run in omega (arith, same)
run_counts w (OfLane k event ∷ entries) v all run =
    let moves = run.1 in
    let step = lane_step moves.lane w.image event moves.after run.0.image moves.moves in
    let one = sum_set w.lanes k moves.lane moves.after (accepts event) moves.there (next_counts moves.lane event moves.after (each_there IsReached w.lanes k moves.lane all moves.there) step) in
    let now = ap next_ids moves.lanes in
    let rest = run_counts run.0 entries v (stay_reached w (OfLane k event ∷ []) run.0 all (run.0, moves, refl)) run.2 in
    omega (arith, one, now, rest)
run_counts w (entry ∷ entries) v all run = grind (arith, run_counts run.0 entries v)

none_yet : (shapes : List Shape) → next_ids (map fresh shapes) ≡ 0
none_yet [] = refl
none_yet (shape ∷ shapes) = let rest = none_yet shapes in omega (arith, rest)

pub world_counts : (shapes : List Shape) (image : ImageState) (entries : List SettleEntry) (w : WorldState) → AreShapes 0 shapes → Run WorldStep (fresh_world shapes image) entries w
    → next_ids w.lanes ≡ accepted_in entries
world_counts shapes image entries w are run =
    let all = run_counts (fresh_world shapes image) entries w (fresh_reached 0 shapes are) run in
    let none = none_yet shapes in
    omega (arith, all, none)

-- NO MORE THAN ENTRIES
accepts_most : (event : DiskEvent) → accepts event ≤ 1
accepts_most event = grind arith

accepted_most : (entries : List SettleEntry) → accepted_in entries ≤ length entries
accepted_most [] = omega (arith)
accepted_most (OfLane k event ∷ entries) = let one = accepts_most event in let rest = accepted_most entries in omega (arith, one, rest)
accepted_most (x ∷ entries) = let rest = accepted_most entries in omega (arith, rest)

part_of_sum : (lanes : List LaneState) (k : ℕ) (s : LaneState) → slice_get lanes k ≡ Some s → s.client.next_id ≤ next_ids lanes
part_of_sum (x ∷ lanes) (suc k) s there = let rest = part_of_sum lanes k s there in omega (arith, rest)
part_of_sum lanes k s there = grind arith

pub next_most : (shapes : List Shape) (image : ImageState) (entries : List SettleEntry) (w : WorldState) (k : ℕ) (s : LaneState) → AreShapes 0 shapes
    → Run WorldStep (fresh_world shapes image) entries w → slice_get w.lanes k ≡ Some s → s.client.next_id ≤ length entries
next_most shapes image entries w k s are run there =
    let part = part_of_sum w.lanes k s there in
    let sum = world_counts shapes image entries w are run in
    let most = accepted_most entries in
    omega (arith, part, sum, most)
