-- Which calls an event of a script makes of a lane, by its kind.
use Rattle.std.proofs.Common.{ℕ, ◌≡◌, ◌≤◌, List, length, take, sym, subst, arith}
use Rattle.std.proofs.lemmas.List.{length-take}
use Rattle.domain_script.specs.declared.event.Side.{Side}
use Rattle.domain_script.specs.declared.fields.LaneKind.{LaneKind}
use Rattle.domain_script.specs.declared.fields.LaneKind.TheVariants as kinds
use Rattle.recorded_lanes.specs.OnePort.{IsCallOf}
use Rattle.recorded_lanes.specs.declared.calls.LaneCall.TheVariants as lane

pub reset_of_lane : (kind : LaneKind) (side : Side) → IsCallOf kind (lane.Reset side)
reset_of_lane kinds.Port side = tt
reset_of_lane _ side = tt

pub lose_of_lane : (kind : LaneKind) (side : Side) → IsCallOf kind (lane.Lose side)
lose_of_lane kinds.Port side = tt
lose_of_lane _ side = tt

pub tick_of_lane : (kind : LaneKind) → IsCallOf kind lane.Tick
tick_of_lane kinds.Port = tt
tick_of_lane _ = tt

pub inject_of_lane : (kind : LaneKind) (side : Side) (packet : _) → IsCallOf kind (lane.Inject side packet)
inject_of_lane kinds.Port side packet = tt
inject_of_lane _ side packet = tt

pub restart_of_disk : (kind : LaneKind) → kind ≡ kinds.Disk → IsCallOf kind lane.Restart
restart_of_disk kind is = subst (λ (k : LaneKind). IsCallOf k lane.Restart) (sym is) tt

-- as few bytes as a line says are what a poke is given
pub few_taken : (n : ℕ) (bytes : List ℕ) → n ≤ 16 → length (take n bytes) ≤ 16
few_taken n bytes few = omega (arith, few, length-take n bytes)

-- what the search goes by for the lines of a script
pub ruleset calls_on = (reset_of_lane, lose_of_lane, tick_of_lane, inject_of_lane, restart_of_disk, few_taken)
