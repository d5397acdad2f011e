-- A world by its parts: lanes over an image, and one lane of them set; and what a line asked of that lane.
use Rattle.std.proofs.Common.{◌≡◌, ℕ, ◌<◌, List, [], ◌∷◌, ◌++◌, length, slice_get, slice_set, get_or, Some, sym, ap, subst, ◌∙◌}
use Rattle.disk_law.specs.ListState.{ImageState}
use Rattle.domain_script.specs.LaneKinds.{disk_lane}
use Rattle.world_parts.specs.lane_models.DiskEvent.{DiskEvent}
use Rattle.world_parts.specs.lane_models.LaneState.{LaneState}
use Rattle.world_parts.specs.world_laws.Settle.{OfLane}
use Rattle.world_parts.specs.domain_laws.Lines.{Line}
use Rattle.world_parts.specs.world_laws.World.{OneMoves, WorldState, WorldStep}
use Rattle.ldom_entries.specs.declared.entry.Entry.{Entry}
use Rattle.ldom_report.specs.Report.{accepted_count}
use Rattle.recorded_lanes.proofs.Adding.{one_adds}
use Rattle.recorded_lanes.proofs.Lifting.{agrees_after, many_same, one_moves, there_at}
use Rattle.recorded_lanes.specs.OneLane.{LaneAnswers}
use Rattle.world_parts.specs.world_laws.Issued.{issued_on}
use Rattle.recorded_lanes.specs.Steps.{MakesAnswer, moment}

abbrev pub over : List LaneState → ImageState → WorldState
over lanes image = record { lanes = lanes; image = image }

-- the lane that is borrowed is that with this number
pub lane_there : (w : WorldState) (lanes : List LaneState) (image : ImageState) (k : ℕ) (s : LaneState)
    → over lanes image ≡ w → k < length w.lanes → s ≡ get_or lanes k s → slice_get w.lanes k ≡ Some s
lane_there w lanes image k s is within at =
    let same : lanes ≡ w.lanes = ap (λ (x : WorldState). x.lanes) is in
    subst (λ (l : List LaneState). slice_get l k ≡ Some s) same
    (there_at lanes k s (subst (λ (l : List LaneState). k < length l) (sym same) within) at)

-- so it is the one that is there
pub lane_is : (w : WorldState) (lanes : List LaneState) (image : ImageState) (k : ℕ) (s x : LaneState)
    → over lanes image ≡ w → k < length w.lanes → s ≡ get_or lanes k s → slice_get w.lanes k ≡ Some x → x ≡ s
lane_is w lanes image k s x is within at found = let there = lane_there w lanes image k s is within at in cc

-- and the world after a call of it
pub one_set : (w : WorldState) (lanes : List LaneState) (image behind : ImageState) (k : ℕ) (t : LaneState)
    → over lanes image ≡ w
    → over (slice_set lanes k t) behind ≡ over (slice_set w.lanes k t) behind
one_set w lanes image behind k t is = ap (λ (x : WorldState). over (slice_set x.lanes k t) behind) is

pub lane_set : (w : WorldState) (lanes : List LaneState) (image : ImageState) (k : ℕ) (t : LaneState)
    → over lanes image ≡ w → over (slice_set lanes k t) image ≡ over (slice_set w.lanes k t) w.image
lane_set w lanes image k t is = ap (λ (x : WorldState). over (slice_set x.lanes k t) x.image) is

-- a step of it, over the image as it was
pub image_there : (w : WorldState) (lanes : List LaneState) (image : ImageState) (P : ImageState → Type 0)
    → over lanes image ≡ w → P image → P w.image
image_there w lanes image P is holds = subst P (ap (λ (x : WorldState). x.image) is) holds

-- WHAT A LINE ASKED of a lane, and whose entry was put last
module _ (w : WorldState) (lanes : List LaneState) (image : ImageState) (k : ℕ) (s t : LaneState) (x : Entry)
    (old mid new : List Entry) (is : over lanes image ≡ w) (within : k < length w.lanes) (at : s ≡ get_or lanes k s)
    (same : mid ≡ old) (grew : new ≡ mid ++ x ∷ []) where
  put_last : new ≡ old ++ x ∷ []
  put_last = grew ∙ ap (λ (l : List Entry). l ++ x ∷ []) same

  answer_moves : (line : Line) (Answers : DiskEvent → Type 0) (answer : LaneAnswers line k Answers s x t)
      → OneMoves w k answer.event (over (slice_set lanes k t) image)
  answer_moves line Answers answer =
      one_moves w (over (slice_set lanes k t) image) k s t answer.event w.image (lane_there w lanes image k s is within at)
      (answer.moves w.image) (lane_set w lanes image k t is)

  pub answer_made : (line : Line) (Answers : DiskEvent → Type 0) → LaneAnswers line k Answers s x t
      → MakesAnswer WorldStep (disk_lane k) line Answers (moment w old) (moment (over (slice_set lanes k t) image) new)
  answer_made line Answers answer = record {
    event = answer.event;
    answers = answer.answers;
    moves = answer_moves line Answers answer;
    adds = one_adds line old new x (OfLane k answer.event) put_last answer.says;
  }

  pub answer_many : (line : Line) (Answers : DiskEvent → Type 0) → LaneAnswers line k Answers s x t
      → length (slice_set lanes k t) ≡ length w.lanes
  answer_many line Answers answer =
      many_same w (over (slice_set lanes k t) image) k answer.event (answer_moves line Answers answer)

  pub answer_agrees : (line : Line) (Answers : DiskEvent → Type 0) → LaneAnswers line k Answers s x t
      → accepted_count old ≡ issued_on w.lanes → accepted_count new ≡ issued_on (slice_set lanes k t)
  answer_agrees line Answers answer agrees =
      agrees_after line w (over (slice_set lanes k t) image) k answer.event x old new (answer_moves line Answers answer)
      answer.says put_last agrees

-- what the search goes by for the calls of a lane
pub ruleset answered = (answer_made, answer_many)
