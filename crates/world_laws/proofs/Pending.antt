-- How many requests are pending on all lanes of a world, by its journal.
use Rattle.std.proofs.Common.{◌≡◌, ℕ, suc, ◌+◌, List, [], ◌∷◌, length, slice_get, Some, refl, ap, ◌∙◌, subst, arith, length-drop}
use Rattle.std.proofs.lemmas.Option.{slice_get_within}
use Rattle.runs.specs.Run.{Run}
use Rattle.disk_law.specs.Issued.{completed, issued, pending_count}
use Rattle.disk_law.specs.ListState.{ImageState}
use Rattle.lane_models.specs.LaneState.{LaneState, Shape}
use Rattle.lane_kinds.proofs.Places.{get_within}
use Rattle.vdisk_msg.specs.declared.request.Request.{Request}
use Rattle.world_laws.proofs.Along.{lanes_run, shape_at}
use Rattle.world_laws.proofs.RequestLog.{pending_are}
use Rattle.world_laws.specs.Along.{happened}
use Rattle.world_laws.specs.Requests.{pending_of, requests_of}
use Rattle.world_laws.specs.Settle.{SettleEntry, pending_on}
use Rattle.world_laws.specs.World.{AreShapes, WorldState, WorldStep, fresh_world}

abbrev pending_at : ℕ → List SettleEntry → ℕ
pending_at k entries = pending_count (requests_of (happened k entries))

-- THE SUM of lanes, from this number on
pending_sum : (k : ℕ) (lanes : List LaneState) (entries : List SettleEntry)
    → ((i : ℕ) (s : LaneState) → slice_get lanes i ≡ Some s → length s.client.pending ≡ pending_at (k + i) entries) → pending_on lanes ≡ pending_of k (length lanes) entries
pending_sum k [] entries each = refl
pending_sum k (s ∷ lanes) entries each =
    let first : length s.client.pending ≡ pending_at k entries = subst (λ (n : ℕ). length s.client.pending ≡ pending_at n entries) (own k) (each 0 s refl) in
    let rest : pending_on lanes ≡ pending_of (k + 1) (length lanes) entries =
    pending_sum (k + 1) lanes entries
    (λ i t there. subst (λ (n : ℕ). length t.client.pending ≡ pending_at n entries) (further k i) (each (suc i) t there)) in
    omega (arith, first, rest)
  where
    own : (k : ℕ) → k + 0 ≡ k
    own k = omega (arith)

    further : (k i : ℕ) → k + suc i ≡ (k + 1) + i
    further k i = omega (arith)

-- A LANE of a world
lane_pending : (shapes : List Shape) (image : ImageState) (entries : List SettleEntry) (w : WorldState) (i : ℕ) (s : LaneState) → AreShapes 0 shapes → Run WorldStep (fresh_world shapes image) entries w
    → slice_get w.lanes i ≡ Some s → length s.client.pending ≡ pending_at i entries
lane_pending shapes image entries w i s are run there =
    let lanes = lanes_run shapes image entries w run in
    let shape = get_within shapes i (omega (arith, slice_get_within w.lanes i s there, lanes.many)) in
    ap (λ (l : List Request). length l)
    (pending_are shape.0 (happened i entries) s (shape_at 0 shapes i shape.0 are shape.1) (lanes.each i shape.0 s shape.1 there))
    ∙ length-drop (length (completed (requests_of (happened i entries)))) (issued (requests_of (happened i entries)))

pub world_pending : (shapes : List Shape) (image : ImageState) (entries : List SettleEntry) (w : WorldState) → AreShapes 0 shapes → Run WorldStep (fresh_world shapes image) entries w
    → pending_on w.lanes ≡ pending_of 0 (length shapes) entries
world_pending shapes image entries w are run =
    pending_sum 0 w.lanes entries (λ i s there. subst (λ (n : ℕ). length s.client.pending ≡ pending_at n entries) (own i) (lane_pending shapes image entries w i s are run there))
    ∙ ap (λ (n : ℕ). pending_of 0 n entries) (lanes_run shapes image entries w run).many
  where
    own : (i : ℕ) → i ≡ 0 + i
    own i = omega (arith)
