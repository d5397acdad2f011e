-- How many disks and ports a world has: a run keeps both numbers, and so does a line. Of other kinds it has none.
use Rattle.std.proofs.Common.{◌≡◌, ◌≢◌, ◌∷◌, [], List, length, Result, Ok, Err, refl, sym, ap, ◌∙◌, arith}
use Rattle.std.specs.Prelude.{OnErr, OnOk}
use Rattle.runs.specs.Run.{Run}
use Rattle.domain_script.specs.declared.fields.LaneKind.{LaneKind}
use Rattle.domain_script.specs.declared.fields.LaneKind.TheVariants as kinds
use Rattle.ldom_entries.specs.declared.entry.Entry.{Entry}
use Rattle.recorded_lanes.proofs.Lifting.{many_same}
use Rattle.recorded_lanes.proofs.world_parts.domain_laws.Running.{disks_run, ports_many, ports_run}
use Rattle.recorded_lanes.specs.world_parts.Lines.{number_of_kind}
use Rattle.recorded_lanes.specs.world_parts.Parts.{Fits, FitsSoFar}
use Rattle.recorded_lanes.specs.world_parts.WorldKinds.{in_world}
use Rattle.recorded_lanes.specs.world_parts.domain_laws.Domain.{DomainState, DomainStep}
use Rattle.recorded_lanes.specs.world_parts.domain_laws.Lines.{Line}
use Rattle.recorded_lanes.specs.world_parts.world_laws.Settle.{OfLane, SettleEntry}
use Rattle.recorded_lanes.specs.world_parts.world_laws.World.{WorldState, WorldStep}
use Rattle.ldom_world.specs.TurnsMade.{SameNumbers}

step_many : (w : WorldState) (x : SettleEntry) (v : WorldState) → WorldStep w x v → length v.lanes ≡ length w.lanes
step_many w (OfLane k event) v moves = many_same w v k event moves
step_many w _ v same = ap (λ (x : WorldState). length x.lanes) same

-- A RUN of a world keeps the number of lanes, and so does a line
pub run_many : (w v : WorldState) (entries : List SettleEntry) → Run WorldStep w entries v
    → length v.lanes ≡ length w.lanes
run_many w v [] run = ap (λ (x : WorldState). length x.lanes) (sym run)
run_many w v (x ∷ entries) run = run_many run.0 v entries run.2 ∙ step_many w x run.0 run.1

same_numbers : (w v : DomainState) (entries : List SettleEntry) → Run DomainStep w entries v → SameNumbers w v
same_numbers w v entries run = record {
  disks = run_many w.first v.first entries (disks_run w entries v run);
  ports = ports_many w.second entries v.second (ports_run w entries v run);
}

pub fits_many : (w v : DomainState) (line : Line) (old new : List Entry) → Fits w line old new v → SameNumbers w v
fits_many w v line old new fits = same_numbers w v fits.entries fits.moves.run

pub begun_many : (w v : DomainState) (line : Line) (old new : List Entry) → FitsSoFar w line old new v → SameNumbers w v
begun_many w v line old new so_far = same_numbers w v so_far.entries so_far.begins.run

pub line_many : {E : Type 0} (w v : DomainState) (line : Line) (old new : List Entry) (result : Result Unit E)
    → OnOk result (Fits w line old new v) → OnErr result (FitsSoFar w line old new v)
    → SameNumbers w v
line_many w v line old new (Ok done) fits so_far = fits_many w v line old new fits
line_many w v line old new (Err fault) fits so_far = begun_many w v line old new so_far

-- OF A KIND that is neither disks nor ports a world has none. What is asked of lanes by their kind goes by it.
pub none_in_world : (kind : LaneKind) (w : DomainState) → kind ≢ kinds.Disk → kind ≢ kinds.Port
    → (in_world kind).lanes w ≡ []
none_in_world kinds.Disk w disk port = absurd (disk refl)
none_in_world _ w disk port = grind arith

-- AS MANY LANES of a kind as before, where there are as many disks and as many ports
pub numbers_stay : (kind : LaneKind) (w v : DomainState) → SameNumbers w v → number_of_kind kind v ≡ number_of_kind kind w
numbers_stay kinds.Disk w v many = many.disks
numbers_stay _ w v many = grind (arith, many.ports)
