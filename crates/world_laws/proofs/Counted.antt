-- On a lane that nobody forged there are no more completions with the status 5 than calls of the store that failed.
use Rattle.std.proofs.Common.{◌≡◌, ◌≤◌, ◌+◌, Bool, false, cond, List, [], ◌∷◌, ◌++◌, arith}
use Rattle.std.specs.List.{count_by}
use Rattle.std.proofs.lemmas.List.Sums.{sum_by-append, sum_by-cons}
use Rattle.runs.specs.Lawful.{Lawful, log_of}
use Rattle.runs.specs.Run.{Run}
use Rattle.lane_laws.specs.DiskLog.{DiskLog, after, nothing_yet}
use Rattle.lane_models.specs.DiskEvent.{DiskEvent}
use Rattle.lane_models.specs.LaneState.{IsShape, LaneState, Shape, fresh}
use Rattle.lane_models.specs.LaneStep.{LaneStep}
use Rattle.world_laws.proofs.Fives.{event_fives, nothing_to_tell, to_tell}
use Rattle.world_laws.proofs.LawFacts.{Facts, clean_before, log_clean, run_facts}
use Rattle.world_laws.specs.Failures.{is_failed_done, is_failed_store}

-- A COUNT over more
pub count_more : {X : Type 0} (is : X → Bool) (x : X) (xs : List X) → count_by is (x ∷ xs) ≡ cond (is x) 1 0 + count_by is xs
count_more is x xs = sum_by-cons (λ y. cond (is y) 1 0) x xs

pub count_behind : {X : Type 0} (is : X → Bool) (xs ys : List X) → count_by is (xs ++ ys) ≡ count_by is xs + count_by is ys
count_behind is xs ys = sum_by-append (λ y. cond (is y) 1 0) xs ys

-- ALONG A RUN: what was told and what is yet to be told is no more than what failed and what was to be told before
counted_along : (l : DiskLog) (events : List DiskEvent) → Lawful Facts after l events → (log_of after l events).wire.forged ≡ false
    → count_by is_failed_done events + to_tell (log_of after l events) ≤ count_by is_failed_store events + to_tell l
counted_along l [] facts clean = omega arith
counted_along l (event ∷ events) facts clean =
    let first = event_fives l event facts.0 (clean_before l (event ∷ events) clean) in
    let rest = counted_along (after l event) events facts.1 clean in
    omega (arith, first, rest, count_more is_failed_done event events, count_more is_failed_store event events)

pub lane_counted : (shape : Shape) (events : List DiskEvent) (s : LaneState) → IsShape shape → Run LaneStep (fresh shape) events s → s.wire.forged ≡ false
    → count_by is_failed_done events ≤ count_by is_failed_store events
lane_counted shape events s sound run clean =
    omega (
      arith,
      counted_along (nothing_yet shape) events (run_facts shape events s sound run) (log_clean shape events s sound run clean),
      nothing_to_tell shape,
    )
