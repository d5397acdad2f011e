-- Each step of an end of a lane that nobody forged lowers what remains, or is calm and leaves it.
use Rattle.std.proofs.Common.{◌≡◌, ℕ, ◌≤◌, ◌<◌, ◌⊎◌, inl, inr, false, Option, List, ap, subst, arith}
use Rattle.runs.specs.Run.{Run}
use Rattle.ldc_queue.specs.declared.end.End.{End}
use Rattle.ldc_queue.specs.declared.end.End.TheVariants.{A, B}
use Rattle.vio_tag.specs.declared.cause.Cause.{Cause}
use Rattle.lane_models.specs.WireAt.{IsUp}
use Rattle.lane_models.specs.WireEvent.{Blocked, ByStep, Giver, Idle, Joined, Reset, Sent, Took, WireEvent, giver}
use Rattle.lane_models.specs.DiskEvent.{DiskEvent, Misplaced, Off, OnWire, Switches, Works}
use Rattle.lane_models.specs.LaneState.{IsShape, LaneState, Shape, fresh}
use Rattle.lane_models.specs.LaneStep.{EndOnWire, LaneStep, ResetBy}
use Rattle.lane_laws.proofs.FallsByTaking.{took_falls}
use Rattle.lane_laws.proofs.IdleRuns.{client_same, server_same}
use Rattle.lane_laws.proofs.RemainingBlocked.{blocked_stays}
use Rattle.lane_laws.proofs.RemainingRuns.{resets_fall, steps_fall}
use Rattle.lane_laws.specs.Remaining.{remaining}
use Rattle.lane_laws.proofs.OwnResets.{own_reset}
use Rattle.lane_laws.specs.CalmEnds.{IsCalm, IsStep, IsWireStep}

-- it does nothing and leaves what remains, or lowers it
abbrev pub FallsOrCalm : End → LaneState → DiskEvent → LaneState → Type 0
FallsOrCalm e s event t = (IsCalm e event × (remaining t ≤ remaining s)) ⊎ (remaining t < remaining s)

same_remains : (s t : LaneState) → t ≡ s → remaining t ≤ remaining s
same_remains s t is = omega (arith, ap remaining is)

pub idles : (e : End) (s t : LaneState) → LaneStep s (OnWire (Idle e)) t → t ≡ s
idles A s t step = client_same s t step
idles B s t step = server_same s t step

-- AN END THAT RESETS ITSELF is up
resets_up : (e : End) (s : LaneState) (cause : Cause) (packet : Option (List ℕ)) (lost : ℕ) (t : LaneState) → EndOnWire e s (Reset e cause packet lost) t → IsUp e s.wire.wire
resets_up e s cause packet lost t step = grind arith

own_falls : (shape : Shape) (events : List DiskEvent) (s : LaneState) (e : End) (cause : Cause) (packet : Option (List ℕ)) (lost : ℕ) (t : LaneState) → IsShape shape → Run LaneStep (fresh shape) events s
    → s.wire.forged ≡ false → giver cause ≡ ByStep → LaneStep s (OnWire (Reset e cause packet lost)) t → remaining t < remaining s
own_falls shape events s e cause packet lost t sound run clean by step =
    resets_fall shape events s e cause packet lost t sound run (resets_up e s cause packet lost t (subst (λ (g : Giver). ResetBy g e s cause packet lost t) by step))
    (own_reset shape events s e cause packet lost t sound run clean by step).lossy step

-- EACH STEP
wire_falls : (shape : Shape) (events : List DiskEvent) (s : LaneState) (e : End) (event : WireEvent) (t : LaneState) → IsShape shape → Run LaneStep (fresh shape) events s → s.wire.forged ≡ false
    → LaneStep s (OnWire event) t → IsWireStep e event → FallsOrCalm e s (OnWire event) t
wire_falls shape events s e (Joined d lost) t sound run clean step own = inr (steps_fall shape events s (OnWire (Joined d lost)) t sound run step tt)
wire_falls shape events s e (Took d packet opens) t sound run clean step own = inr (took_falls shape events s d packet opens t sound run clean step)
wire_falls shape events s e (Sent d packet opens) t sound run clean step own = inr (steps_fall shape events s (OnWire (Sent d packet opens)) t sound run step tt)
wire_falls shape events s e (Idle d) t sound run clean step own = inl (own, same_remains s t (idles d s t step))
wire_falls shape events s e (Blocked d) t sound run clean step own = inl (own, blocked_stays shape events s d t sound run step)
wire_falls shape events s e (Reset d cause packet lost) t sound run clean step own = inr (own_falls shape events s d cause packet lost t sound run clean own.1 step)
wire_falls shape events s e _ t sound run clean step own = absurd own

pub step_falls : (shape : Shape) (events : List DiskEvent) (s : LaneState) (e : End) (event : DiskEvent) (t : LaneState) → IsShape shape → Run LaneStep (fresh shape) events s → s.wire.forged ≡ false
    → LaneStep s event t → IsStep e event → (IsCalm e event × (remaining t ≤ remaining s)) ⊎ (remaining t < remaining s)
step_falls shape events s e (OnWire event) t sound run clean step own = wire_falls shape events s e event t sound run clean step own
step_falls shape events s e (Works Misplaced) t sound run clean step own = absurd step
step_falls shape events s e (Works event) t sound run clean step own = inr (steps_fall shape events s (Works event) t sound run step tt)
step_falls shape events s B (Switches Off) t sound run clean step own = inl (tt, same_remains s t step.1)
step_falls shape events s A _ t sound run clean step own = absurd own
step_falls shape events s B _ t sound run clean step own = absurd own
