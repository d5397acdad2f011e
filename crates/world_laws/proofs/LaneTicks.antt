-- One lane at the tick after a quiet round: what remains falls where nobody forged, and nothing is lost any more after it.
use Rattle.std.proofs.Common.{◌≡◌, ◌<◌, ◌⊎◌, inl, inr, Bool, true, false, None, refl, sym, arith}
use Rattle.std.specs.Prelude.{if◌then◌else◌}
use Rattle.ldc_queue.specs.declared.end.End.TheVariants.{A}
use Rattle.vio_tag.specs.declared.cause.Cause.TheVariants as the_cause
use Rattle.lane_models.specs.ClientState.{is_finished}
use Rattle.lane_models.specs.LaneState.{LaneState}
use Rattle.lane_models.specs.LaneStep.{LaneStep}
use Rattle.lane_models.specs.Reached.{IsReached}
use Rattle.lane_laws.proofs.TickSteps.{tick_begins}
use Rattle.lane_laws.specs.Remaining.{remaining}
use Rattle.lane_laws.specs.TickBegins.{TickBegins}
use Rattle.world_laws.proofs.LaneRounds.{quiet_finished, quiet_same, quiet_up, round_keeps, round_reached}
use Rattle.world_laws.specs.Rounds.{LaneRound, MakesRound, is_quiet}
use Rattle.world_laws.specs.Sums.{IsUnforged}
use Rattle.world_laws.specs.DiskKind.{tick, waits_on}

pub either : (b : Bool) → (b ≡ true) ⊎ (b ≡ false)
either true = inl refl
either false = inr refl

pub waits_where : (finished stopped : Bool) → (if finished then false else if stopped then false else true) ≡ true → (finished ≡ false) × (stopped ≡ false)
waits_where true stopped waits = absurd (cc waits)
waits_where false true waits = absurd (cc waits)
waits_where false false waits = (refl, refl)

pub gets_where : (had waits : Bool) → (if had then false else waits) ≡ true → (had ≡ false) × (waits ≡ true)
gets_where true waits gets = absurd (cc gets)
gets_where false waits gets = (refl, gets)

pub rests_where : (finished stopped : Bool) → (if finished then false else if stopped then false else true) ≡ false → stopped ≡ false → finished ≡ true
rests_where true stopped rests runs = refl
rests_where false true rests runs = sym runs
rests_where false false rests runs = absurd (cc rests)

pub tick_at : (s t : LaneState) → IsReached s → LaneStep s tick t → TickBegins s t
tick_at s t at step = tick_begins at.shape at.events s A the_cause.Tick None 0 t at.sound at.run refl step

-- a quiet lane that waits lost a packet
waits_lossy : (s : LaneState) (r : LaneRound) (t : LaneState) → IsReached s → IsUnforged s → MakesRound s r t → is_quiet r ≡ true → s.stopped ≡ false → is_finished t.client ≡ false
    → (s.wire.lossy ≡ true) ⊎ (s.wire.lossy ≡ false) → t.wire.lossy ≡ true
waits_lossy s r t given clean made quiet runs unfinished also = grind (arith, quiet_same, quiet_finished)

pub tick_falls : (s : LaneState) (r : LaneRound) (t u : LaneState) → IsReached s → IsUnforged s → MakesRound s r t → is_quiet r ≡ true → waits_on t ≡ true → LaneStep t tick u → remaining u < remaining t
tick_falls s r t u given clean made quiet waits step = grind (arith, round_keeps, waits_where, tick_at, round_reached, quiet_up, quiet_same, quiet_finished, either)

pub tick_whole : (s : LaneState) (r : LaneRound) (t u : LaneState) → IsReached s → MakesRound s r t → is_quiet r ≡ true → LaneStep t tick u → u.wire.lossy ≡ false
tick_whole s r t u at made quiet step = (tick_at t u (round_reached s r t at made) step).whole (quiet_up s r t at made quiet)
