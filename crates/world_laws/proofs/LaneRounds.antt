-- One lane in a round: it stays reached, and what its two steps keep; and what stands where both are calm.
use Rattle.std.proofs.Common.{◌≡◌, true, false, [], ◌∷◌, ◌++◌, arith}
use Rattle.std.specs.Prelude.{◌&&◌}
use Rattle.runs.specs.Run.{run_keeps, run_push}
use Rattle.ldc_queue.specs.declared.end.End.{End}
use Rattle.ldc_queue.specs.declared.end.End.TheVariants.{A, B}
use Rattle.lane_models.specs.WireAt.{IsUp}
use Rattle.lane_models.specs.DiskEvent.{DiskEvent}
use Rattle.lane_models.specs.LaneState.{LaneState, fresh}
use Rattle.lane_models.specs.LaneStep.{LaneStep}
use Rattle.lane_models.specs.Reached.{IsReached}
use Rattle.lane_kinds.proofs.Sums.{and_left, and_right}
use Rattle.lane_laws.proofs.CalmEnds.{calm_are_idle, calm_are_still, calm_have_finished}
use Rattle.lane_laws.proofs.StepKeeps.{step_keeps}
use Rattle.lane_laws.specs.CalmEnds.{HaveFinished, IsCalm, IsStep, StepKeeps}
use Rattle.world_laws.specs.Ended.{IsStillBehind}
use Rattle.world_laws.specs.DiskKind.{is_calm}
use Rattle.world_laws.specs.Rounds.{LaneRound, MakesRound, is_quiet}
use Rattle.world_laws.specs.Sums.{IsUnforged}

-- CALM, as a test and as a condition
calm_is : (e : End) (event : DiskEvent) → IsStep e event → is_calm event ≡ true → IsCalm e event
calm_is e event own now = grind arith

pub is_calm_where : (e : End) (event : DiskEvent) → IsCalm e event → is_calm event ≡ true
is_calm_where e event calm = grind arith

pub reached_on : (s : LaneState) (event : DiskEvent) (t : LaneState) → IsReached s → LaneStep s event t → IsReached t
reached_on s event t at step = record {
  shape = at.shape;
  sound = at.sound;
  events = at.events ++ event ∷ [];
  run = run_push LaneStep (fresh at.shape) s t at.events event at.run step;
}

pub round_reached : (s : LaneState) (r : LaneRound) (t : LaneState) → IsReached s → MakesRound s r t → IsReached t
round_reached s r t at made = run_keeps LaneStep IsReached (λ x event y step from. reached_on x event y from step) s t r made.run at

-- ITS TWO STEPS
pub record TwoSteps (s : LaneState) (client server : DiskEvent) (t : LaneState) : Type 0 where
  pub between : LaneState
  pub first : LaneStep s client between
  pub of_client : IsStep A client
  pub second : LaneStep between server t
  pub of_server : IsStep B server

pub two_steps : (s : LaneState) (client server : DiskEvent) (t : LaneState) → MakesRound s (client ∷ server ∷ []) t → TwoSteps s client server t
two_steps s client server t made = grind arith

pub round_keeps : (s : LaneState) (r : LaneRound) (t : LaneState) → MakesRound s r t → StepKeeps s t
round_keeps s (client ∷ server ∷ []) t made =
    let at : TwoSteps s client server t = two_steps s client server t made in
    let one : StepKeeps s at.between = step_keeps s A client at.between at.first at.of_client in
    let two : StepKeeps at.between t = step_keeps at.between B server t at.second at.of_server in
    grind arith
round_keeps s [] t made = absurd made.of_turn
round_keeps s (client ∷ []) t made = absurd made.of_turn
round_keeps s (client ∷ server ∷ other ∷ events) t made = absurd made.of_turn

-- WHERE IT IS QUIET both its ends are still; a lane that nobody forged and whose server runs is as it was, and where it lost nothing it is finished
pub record IsQuietBy (s : LaneState) (r : LaneRound) (t : LaneState) : Type 0 where
  pub still : IsStillBehind s r t
  pub same : IsReached s → IsUnforged s → s.stopped ≡ false → t ≡ s
  pub finished : IsReached s → IsUnforged s → s.wire.lossy ≡ false → s.stopped ≡ false → HaveFinished t

two_calm : (s : LaneState) (client server : DiskEvent) (t : LaneState) → TwoSteps s client server t → IsCalm A client → IsCalm B server → IsQuietBy s (client ∷ server ∷ []) t
two_calm s client server t at one two = record {
  still = λ shape events sound run. calm_are_still shape events s A client at.between server t sound run at.first one at.second two;
  same = λ from clean runs. (calm_are_idle from.shape from.events s A client at.between server t from.sound from.run clean runs at.first one at.second two).2;
  finished = λ from clean whole runs. calm_have_finished from.shape from.events s A client at.between server t from.sound from.run clean whole runs at.first one at.second two;
}

pub quiet_by : (s : LaneState) (r : LaneRound) (t : LaneState) → MakesRound s r t → is_quiet r ≡ true → IsQuietBy s r t
quiet_by s (client ∷ server ∷ []) t made quiet =
    let at : TwoSteps s client server t = two_steps s client server t made in
    two_calm s client server t at (calm_is A client at.of_client (and_left (is_calm client) (is_calm server && true) quiet))
    (calm_is B server at.of_server (and_left (is_calm server) true (and_right (is_calm client) (is_calm server && true) quiet)))
quiet_by s [] t made quiet = absurd made.of_turn
quiet_by s (client ∷ []) t made quiet = absurd made.of_turn
quiet_by s (client ∷ server ∷ other ∷ events) t made quiet = absurd made.of_turn

pub quiet_up : (s : LaneState) (r : LaneRound) (t : LaneState) → IsReached s → MakesRound s r t → is_quiet r ≡ true → IsUp A t.wire.wire
quiet_up s r t at made quiet = ((quiet_by s r t made quiet).still at.shape at.events at.sound at.run).client.up

pub quiet_same : (s : LaneState) (r : LaneRound) (t : LaneState) → IsReached s → IsUnforged s → s.stopped ≡ false → MakesRound s r t → is_quiet r ≡ true → t ≡ s
quiet_same s r t at clean runs made quiet = (quiet_by s r t made quiet).same at clean runs

pub quiet_finished : (s : LaneState) (r : LaneRound) (t : LaneState) → IsReached s → IsUnforged s → s.wire.lossy ≡ false → s.stopped ≡ false → MakesRound s r t → is_quiet r ≡ true → HaveFinished t
quiet_finished s r t at clean whole runs made quiet = (quiet_by s r t made quiet).finished at clean whole runs

pub quiet_still : (s : LaneState) (r : LaneRound) (t : LaneState) → MakesRound s r t → is_quiet r ≡ true → IsStillBehind s r t
quiet_still s r t made quiet = (quiet_by s r t made quiet).still
