-- One event of one lane in a world: what it does to the world, which part of the journal it gives, and how many
-- requests were accepted.
use Rattle.std.proofs.Common.{◌≡◌, ℕ, zero, suc, ◌+◌, ◌-◌, ◌^◌, ◌<◌, ◌≤◌, Bool, true, false, cond, List, [], ◌∷◌, ◌++◌, length, slice_get, slice_set, get_or, Some, refl, sym, ap, subst, ◌∙◌, arith}
use Rattle.std.proofs.lemmas.List.Sums.{count_by-le-length, sum_by_push}
use Rattle.disk_law.specs.ListState.{ImageState}
use Rattle.world_parts.specs.lane_models.DiskEvent.{DiskEvent}
use Rattle.world_parts.specs.lane_models.LaneState.{LaneState}
use Rattle.ldc_queue.specs.declared.end.End.{End}
use Rattle.world_parts.specs.world_laws.Settle.{OfLane, SettleEntry}
use Rattle.world_parts.proofs.world_laws.Along.{lane_step}
use Rattle.world_parts.specs.domain_laws.Lines.{Line, Nothing}
use Rattle.world_parts.specs.world_laws.World.{LaneMoves, OneMoves, WorldState, WorldStep}
use Rattle.ldom_entries.specs.JournalState.{JournalState}
use Rattle.world_parts.specs.WorldEvents.{world_event}
use Rattle.ldom_report.specs.Report.{accepted_count, is_accepted}
use Rattle.ldom_entries.specs.declared.entry.Entry.{Entry}
use Rattle.recorded_lanes.proofs.Adding.{none_adds, one_adds}
use Rattle.recorded_lanes.proofs.Leaving.{entry_left, left_of, none_accepted}
use Rattle.recorded_lanes.proofs.Telling.{entry_tells, none_more}
use Rattle.recorded_lanes.specs.OneLane.{EndSteps, LaneSteps, RecordedBut, Records}
use Rattle.recorded_lanes.specs.Resting.{left_out}
use Rattle.world_parts.proofs.world_laws.LoopKeeping.{issued_set, next_is}
use Rattle.world_parts.specs.world_laws.Issued.{issued_on, next_behind}
use Rattle.recorded_lanes.specs.Steps.{MakesQuietStep, MakesStep, moment}
use Rattle.domain_script.specs.LaneKinds.{disk_lane}
use Rattle.world_parts.specs.Parts.{Adds}

-- A LANE BY ITS NUMBER
pub there_at : (lanes : List LaneState) (k : ℕ) (s : LaneState) → k < length lanes → s ≡ get_or lanes k s
    → slice_get lanes k ≡ Some s
there_at [] k s within is = absurd (omega (arith, within))
there_at (x ∷ lanes) zero s within is = ap (λ (y : LaneState). Some y) (sym is)
there_at (x ∷ lanes) (suc k) s within is = there_at lanes k s (omega (arith, within)) is

pub length_set : {X : Type 0} (xs : List X) (k : ℕ) (x : X) → length (slice_set xs k x) ≡ length xs
length_set [] k x = refl
length_set (y ∷ xs) zero x = refl
length_set (y ∷ xs) (suc k) x = ap suc (length_set xs k x)

pub many_same : (w v : WorldState) (k : ℕ) (event : DiskEvent) → OneMoves w k event v → length v.lanes ≡ length w.lanes
many_same w v k event moves = ap (λ (l : List LaneState). length l) moves.lanes ∙ length_set w.lanes k moves.after

-- HOW MANY WERE ACCEPTED
pub count_push : (old new : List Entry) (x : Entry) → new ≡ old ++ x ∷ []
    → accepted_count new ≡ accepted_count old + cond (is_accepted x) 1 0
count_push old new x grew =
    ap (λ (l : List Entry). accepted_count l) grew ∙ sum_by_push (λ y. cond (is_accepted y) 1 0) old x

issued_moves : (w v : WorldState) (k : ℕ) (event : DiskEvent) (more : ℕ) → OneMoves w k event v
    → ((n : ℕ) → next_behind event n ≡ n + more) → issued_on v.lanes ≡ issued_on w.lanes + more
issued_moves w v k event more at next =
    let set = issued_set w.lanes k at.lane at.after at.there in
    let step = lane_step at.lane w.image event at.after v.image at.moves in
    let is = next_is at.lane event at.after step in
    omega (arith, set, is, next at.lane.client.next_id, ap issued_on at.lanes)

pub agrees_after : (line : Line) (w v : WorldState) (k : ℕ) (event : DiskEvent) (x : Entry) (old new : List Entry)
    → OneMoves w k event v → world_event line x ≡ Some (OfLane k event)
    → new ≡ old ++ x ∷ [] → accepted_count old ≡ issued_on w.lanes → accepted_count new ≡ issued_on v.lanes
agrees_after line w v k event x old new at says grew agrees =
    let issued = issued_moves w v k event (cond (is_accepted x) 1 0) at (entry_tells line x k event says) in
    omega (arith, count_push old new x grew, issued, agrees)

issued_there : (lanes : List LaneState) (k : ℕ) (s : LaneState) → slice_get lanes k ≡ Some s
    → s.client.next_id ≤ issued_on lanes
issued_there [] k s there = absurd (cc there)
issued_there (x ∷ lanes) zero s there =
    let same : x ≡ s = cc there in omega (arith, ap (λ (y : LaneState). y.client.next_id) same)
issued_there (x ∷ lanes) (suc k) s there = omega (arith, issued_there lanes k s there)

-- a journal is never so long that the ids run out
pub few_issued : (old : List Entry) (lanes : List LaneState) (k : ℕ) (s : LaneState) → slice_get lanes k ≡ Some s
    → accepted_count old ≡ issued_on lanes → length old < 2 ^ 63
    → s.client.next_id < 2 ^ 64 - 1
few_issued old lanes k s there agrees few =
    omega (arith, issued_there lanes k s there, agrees, few, count_by-le-length is_accepted old)

-- ONE LANE is set by its event
pub one_moves : (w v : WorldState) (k : ℕ) (s t : LaneState) (event : DiskEvent) (j : ImageState)
    → slice_get w.lanes k ≡ Some s → LaneMoves s w.image event t j
    → v ≡ record { lanes = slice_set w.lanes k t; image = j } → OneMoves w k event v
one_moves w v k s t event j there moves is = record {
  lane = s;
  there = there;
  after = t;
  moves = subst (λ (i : ImageState). LaneMoves s w.image event t i) (sym (ap (λ (x : WorldState). x.image) is)) moves;
  lanes = ap (λ (x : WorldState). x.lanes) is;
}

-- A STEP OF AN END
pub end_steps : (in_settle : Bool) (w v : WorldState) (k : ℕ) (e : End) (s t : LaneState) (old : JournalState)
    (calm : Bool) (new : JournalState) (j : ImageState) → slice_get w.lanes k ≡ Some s
    → LaneSteps in_settle k e s w.image old calm new t j
    → v ≡ record { lanes = slice_set w.lanes k t; image = j } → EndSteps in_settle k e w old calm new v
end_steps in_settle w v k e s t old calm new j there at is = record {
  event = at.event;
  of_end = at.of_end;
  moves = one_moves w v k s t at.event j there at.moves is;
  leaves = at.leaves;
}

-- one that is recorded, after a journal with these entries
module _ (k : ℕ) (event : DiskEvent) (old new : JournalState) (first : List Entry) (same : old.entries ≡ first) where
  put_behind : (put : Records k event old new) → new.entries ≡ first ++ put.entry ∷ []
  put_behind put = put.puts.entries ∙ ap (λ (l : List Entry). l ++ put.entry ∷ []) same

  recorded_adds : Records k event old new → (line : Line) → Adds line first new.entries (OfLane k event ∷ [])
  recorded_adds put line =
      one_adds line first new.entries put.entry (OfLane k event) (put_behind put) (put.says line)

  recorded_agrees : (w v : WorldState) → Records k event old new → OneMoves w k event v
      → accepted_count first ≡ issued_on w.lanes → accepted_count new.entries ≡ issued_on v.lanes
  recorded_agrees w v put moves agrees =
      agrees_after Nothing w v k event put.entry first new.entries moves (put.says Nothing) (put_behind put) agrees

  -- or left out
  left_adds : (out : Bool) → RecordedBut out k event old new → (line : Line)
      → Adds line first new.entries (left_of out k event)
  left_adds true stays line =
      none_adds line first new.entries (ap (λ (j : JournalState). j.entries) stays ∙ same)
  left_adds false put line = recorded_adds put line

  left_agrees : (w v : WorldState) (out : Bool) → left_out event ≡ out → RecordedBut out k event old new
      → OneMoves w k event v → accepted_count first ≡ issued_on w.lanes
      → accepted_count new.entries ≡ issued_on v.lanes
  left_agrees w v true is stays moves agrees =
      let next : (n : ℕ) → next_behind event n ≡ n + 0 = λ n. none_accepted event n is ∙ none_more n in
      omega (
        arith,
        issued_moves w v k event 0 moves next,
        ap (λ (j : JournalState). accepted_count j.entries) stays,
        ap (λ (l : List Entry). accepted_count l) same,
        agrees,
      )
  left_agrees w v false is put moves agrees = recorded_agrees w v put moves agrees

module _ (w v : WorldState) (k : ℕ) (e : End) (old : JournalState) (calm : Bool) (new : JournalState)
    (first : List Entry) (same : old.entries ≡ first) where
  pub makes_step : EndSteps false k e w old calm new v → MakesStep WorldStep (disk_lane k) e (moment w first) (moment v new.entries)
  makes_step at = record {
    event = at.event;
    of_end = at.of_end;
    moves = at.moves;
    adds = recorded_adds k at.event old new first same at.leaves.recorded;
  }

  pub step_agrees : EndSteps false k e w old calm new v → accepted_count first ≡ issued_on w.lanes
      → accepted_count new.entries ≡ issued_on v.lanes
  step_agrees at agrees = recorded_agrees k at.event old new first same w v at.leaves.recorded at.moves agrees

  -- in a settle
  pub makes_quiet_step : EndSteps true k e w old calm new v → MakesQuietStep WorldStep (disk_lane k) e (moment w first) calm (moment v new.entries)
  makes_quiet_step at = record {
    event = at.event;
    of_end = at.of_end;
    moves = at.moves;
    calm_is = at.leaves.calm_is;
    adds = λ line. subst (λ (l : List SettleEntry). Adds line first new.entries l) (sym (entry_left k at.event))
        (left_adds k at.event old new first same (left_out at.event) at.leaves.recorded line);
  }

  pub quiet_step_agrees : EndSteps true k e w old calm new v → accepted_count first ≡ issued_on w.lanes
      → accepted_count new.entries ≡ issued_on v.lanes
  quiet_step_agrees at agrees =
      left_agrees k at.event old new first same w v (left_out at.event) refl at.leaves.recorded at.moves agrees

pub steps_many : (in_settle : Bool) (w v : WorldState) (k : ℕ) (e : End) (old : JournalState) (calm : Bool)
    (new : JournalState) → EndSteps in_settle k e w old calm new v → length v.lanes ≡ length w.lanes
steps_many in_settle w v k e old calm new at = many_same w v k at.event at.moves
