-- The table that grants each page of a lane's memory stays as it began, whoever meddles.
use Rattle.std.proofs.Common.{◌≡◌, ℕ, ◌<◌, ◌≤◌, List, Option, Some, None, sym, ap, ◌∙◌, subst, arith}
use Rattle.std.proofs.lemmas.List.FromFn.{get_or-map-range_with_len, length-map-range_with_len}
use Rattle.std.proofs.lemmas.List.{get_or_past}
use Rattle.std.specs.Prelude.{slice_index_or, [], ◌∷◌}
use Rattle.runs.specs.Run.{Run}
use Rattle.cookie_copy.specs.Identity.{IsIdentity, own_entry}
use Rattle.map_table.specs.declared.table.Entry.{Entry}
use Rattle.lane_models.specs.DiskEvent.{DiskEvent}
use Rattle.lane_models.specs.OwnMemory.{own_table}
use Rattle.lane_models.specs.LaneState.{IsShape, LaneState, Shape, fresh, pages_of}
use Rattle.lane_models.specs.LaneStep.{LaneStep}
use Rattle.lane_laws.proofs.LaneViews.{lane_view}

-- an event leaves the shape and the table
pub record SamePages (s t : LaneState) : Type 0 where
  pub shape : t.shape ≡ s.shape
  pub table : t.table ≡ s.table

same_lane : (s t : LaneState) → t ≡ s → SamePages s t
same_lane s t is = record { shape = ap (λ (x : LaneState). x.shape) is; table = ap (λ (x : LaneState). x.table) is }

pub same_pages : (s : LaneState) (event : DiskEvent) (t : LaneState) → LaneStep s event t → SamePages s t
same_pages s event t step =
    let view = lane_view s event t step in
    record { shape = ap (λ (x : LaneState). x.shape) view.is; table = ap (λ (x : LaneState). x.table) view.is }

-- THE TABLE as it began
own_within : (pages index : ℕ) → index < pages → slice_index_or (own_table pages) index None ≡ Some (own_entry index)
own_within pages index below = grind (arith, get_or-map-range_with_len)

own_past : (pages index : ℕ) → pages ≤ index → slice_index_or (own_table pages) index None ≡ None
own_past pages index past = search (get_or_past, length-map-range_with_len)

pub own_is_identity : (pages : ℕ) → pages ≤ 1028 → IsIdentity (own_table pages) pages
own_is_identity pages few = record { few = few; each = own_within pages; others = own_past pages }

pub few_pages : (shape : Shape) → IsShape shape → pages_of shape ≤ 1028
few_pages shape sound = omega (arith, sound.most_slots)

-- ALONG EVERY RUN
run_pages : (events : List DiskEvent) (s t : LaneState) → Run LaneStep s events t → SamePages s t
run_pages [] s t run = same_lane s t (sym run)
run_pages (event ∷ events) s t run =
    let first = same_pages s event run.0 run.1 in
    let rest = run_pages events run.0 t run.2 in
    record { shape = rest.shape ∙ first.shape; table = rest.table ∙ first.table }

pub pages_stay : (shape : Shape) (events : List DiskEvent) (s : LaneState) → IsShape shape → Run LaneStep (fresh shape) events s → IsIdentity s.table (pages_of s.shape)
pages_stay shape events s sound run =
    let same = run_pages events (fresh shape) s run in
    subst (λ (table : List (Option Entry)). IsIdentity table (pages_of s.shape)) (sym same.table)
    (subst (λ (x : Shape). IsIdentity (own_table (pages_of shape)) (pages_of x)) (sym same.shape) (own_is_identity (pages_of shape) (few_pages shape sound)))
