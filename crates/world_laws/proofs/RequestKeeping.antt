-- Which events forge, and which stop a server: all others keep a lane as it is in this.
use Rattle.std.proofs.Common.{◌≡◌, ℕ, List, Option, refl, ap, ◌∙◌, arith}
use Rattle.std.specs.Prelude.{⊤}
use Rattle.ldc_queue.specs.declared.end.End.{End}
use Rattle.ldc_queue.specs.declared.end.End.TheVariants.{A, B}
use Rattle.lane_models.specs.WireEvent.{Giver, Injected, Poked, Reset, WireEvent}
use Rattle.lane_models.specs.WireLog.{wire_moved}
use Rattle.vio_tag.specs.declared.cause.Cause.{Cause}
use Rattle.lane_models.specs.DiskEvent.{DiskEvent, OnWire, Calms, Stopped, Switches, Worked, Works, Calm}
use Rattle.lane_models.specs.LaneState.{LaneState}
use Rattle.lane_models.specs.LaneStep.{EndOnWire, LaneStep, ResetBy}
use Rattle.world_laws.specs.Sums.{IsUnforged}
use Rattle.world_laws.specs.Running.{IsRunning}

-- WHO FORGES injects a packet or writes into a memory
abbrev pub IsOnWireHonest : WireEvent → Type 0
IsOnWireHonest (Injected e packet) = ⊥
IsOnWireHonest (Poked e at bytes) = ⊥
IsOnWireHonest _ = ⊤

abbrev pub IsHonest : DiskEvent → Type 0
IsHonest (OnWire event) = IsOnWireHonest event
IsHonest _ = ⊤

-- all but a stop
abbrev pub KeepsOn : DiskEvent → Type 0
KeepsOn (Switches Stopped) = ⊥
KeepsOn _ = ⊤

-- WHAT AN EVENT ON THE WIRE does to the wire; it stops no server and calls no store
pub record OnlyWire (s : LaneState) (event : WireEvent) (t : LaneState) : Type 0 where
  pub wire : t.wire ≡ wire_moved s.wire event
  pub stopped : t.stopped ≡ s.stopped
  pub failed : t.failed ≡ s.failed

-- a lane that is made of another by no more than that
only : (s : LaneState) (event : WireEvent) (t made : LaneState) → t ≡ made → made.wire ≡ wire_moved s.wire event → made.stopped ≡ s.stopped → made.failed ≡ s.failed → OnlyWire s event t
only s event t made is wire stopped failed = grind arith

end_only : (e : End) (s : LaneState) (event : WireEvent) (t : LaneState) → EndOnWire e s event t → OnlyWire s event t
end_only A s event t step = only s event t _ step.is refl refl refl
end_only B s event t step = only s event t _ step.1.is refl refl refl

reset_only : (by : Giver) (e : End) (s : LaneState) (cause : Cause) (packet : Option (List ℕ)) (lost : ℕ) (t : LaneState) → ResetBy by e s cause packet lost t → OnlyWire s (Reset e cause packet lost) t
reset_only by e s cause packet lost t step = grind (arith, end_only, only)

poked_only : (e : End) (s : LaneState) (at : ℕ) (bytes : List ℕ) (t : LaneState) → LaneStep s (OnWire (Poked e at bytes)) t → OnlyWire s (Poked e at bytes) t
poked_only A s at bytes t step = only s (Poked A at bytes) t _ step.1 refl refl refl
poked_only B s at bytes t step = absurd step

pub wire_only : (s : LaneState) (event : WireEvent) (t : LaneState) → LaneStep s (OnWire event) t → OnlyWire s event t
wire_only s event t step = grind (arith, end_only, reset_only, only, poked_only)

-- THE OTHER EVENTS leave both
record LeavesBoth (s t : LaneState) : Type 0 where
  pub wire : t.wire ≡ s.wire
  pub stopped : t.stopped ≡ s.stopped

as_it_was : (s t : LaneState) → t ≡ s → LeavesBoth s t
as_it_was s t is = record { wire = ap (λ (x : LaneState). x.wire) is; stopped = ap (λ (x : LaneState). x.stopped) is }

work_leaves : (s : LaneState) (event : Worked) (t : LaneState) → LaneStep s (Works event) t → LeavesBoth s t
work_leaves s event t step = grind arith

-- an event of rest leaves all
pub rest_same : (s : LaneState) (event : Calm) (t : LaneState) → LaneStep s (Calms event) t → t ≡ s
rest_same s event t step = grind arith

-- AN HONEST EVENT forges nothing
pub same_forged : (s : LaneState) (event : DiskEvent) (t : LaneState) → IsHonest event → LaneStep s event t → t.wire.forged ≡ s.wire.forged
same_forged s event t honest step = grind (arith, wire_only, work_leaves, as_it_was, rest_same)

pub stays_unforged : (s : LaneState) (event : DiskEvent) (t : LaneState) → IsHonest event → LaneStep s event t → IsUnforged s → IsUnforged t
stays_unforged s event t honest step clean = same_forged s event t honest step ∙ clean

-- AND EACH BUT A STOP leaves its server running
pub stays_running : (s : LaneState) (event : DiskEvent) (t : LaneState) → KeepsOn event → LaneStep s event t → IsRunning s → IsRunning t
stays_running s event t on step runs = grind (arith, wire_only, work_leaves, as_it_was, rest_same)
