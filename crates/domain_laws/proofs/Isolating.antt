-- An entry of one disk leaves every other disk and all ports as they were; one of a port leaves all disks and their image, and of the other
-- ports all but a frame that goes to them. So do all entries of one lane together.
use Rattle.std.proofs.Common.{◌≡◌, ◌≢◌, ℕ, List, [], ◌∷◌, length, slice_get, refl, sym, ap, ◌∙◌, subst}
use Rattle.runs.specs.Run.{Run}
use Rattle.lane_kinds.proofs.Places.{get_other}
use Rattle.lane_kinds.specs.Lanes.{EachOf}
use Rattle.lane_models.specs.DiskEvent.{DiskEvent}
use Rattle.lane_models.specs.LaneState.{LaneState}
use Rattle.lane_models.specs.PortState.{PortState}
use Rattle.switch_laws.proofs.Forwarding.{leaves_others}
use Rattle.switch_laws.specs.Events.{SwitchEvent}
use Rattle.world_laws.proofs.Along.{many_stay}
use Rattle.world_laws.specs.Settle.{OfLane, OfPort, SettleEntry}
use Rattle.world_laws.specs.World.{OneMoves, WorldState}
use Rattle.domain_laws.specs.Along.{IsOfDisk, IsOfPort, LeavesDisks, OnlyDisk, OnlyPort}
use Rattle.domain_laws.specs.Domain.{DomainState, DomainStep}

-- A DISK
pub one_disk : (k : ℕ) (event : DiskEvent) (w v : WorldState) → OneMoves w k event v → LeavesDisks k w.lanes v.lanes
one_disk k event w v step = record {
  many = many_stay w (OfLane k event ∷ []) v (v, step, refl);
  others = λ j other. ap (λ (l : List LaneState). slice_get l j) step.lanes ∙ get_other w.lanes k j step.after (λ same. other (sym same));
}

pub only_disk : (k : ℕ) (event : DiskEvent) (w v : DomainState) → DomainStep w (OfLane k event) v → OnlyDisk k w v
only_disk k event w v step = record { disks = one_disk k event w.first v.first step.of_first; switch_stays = step.of_second }

disk_then : (k : ℕ) (w m v : DomainState) → OnlyDisk k w m → OnlyDisk k m v → OnlyDisk k w v
disk_then k w m v one two = record {
  disks = record { many = two.disks.many ∙ one.disks.many; others = λ j other. two.disks.others j other ∙ one.disks.others j other };
  switch_stays = two.switch_stays ∙ one.switch_stays;
}

disk_entry : (k : ℕ) (entry : SettleEntry) (w v : DomainState) → IsOfDisk k entry → DomainStep w entry v → OnlyDisk k w v
disk_entry k (OfLane j event) w v own step = subst (λ (i : ℕ). OnlyDisk i w v) own (only_disk j event w v step)
disk_entry k _ w v own step = absurd own

nothing : (k : ℕ) (w v : DomainState) → w ≡ v → OnlyDisk k w v
nothing k w v same = record {
  disks = record { many = ap (λ (x : DomainState). length x.first.lanes) (sym same); others = λ j other. ap (λ (x : DomainState). slice_get x.first.lanes j) (sym same) };
  switch_stays = ap (λ (x : DomainState). x.second) (sym same);
}

pub disk_part : (k : ℕ) (part : List SettleEntry) (w v : DomainState) → EachOf (IsOfDisk k) part → Run DomainStep w part v → OnlyDisk k w v
disk_part k [] w v own run = nothing k w v run
disk_part k (entry ∷ part) w v own run = disk_then k w run.0 v (disk_entry k entry w run.0 own.0 run.1) (disk_part k part run.0 v own.1 run.2)

-- A PORT
pub only_port : (k : ℕ) (event : SwitchEvent) (w v : DomainState) → DomainStep w (OfPort k event) v → OnlyPort k event w v
only_port k event w v step = record { disks_stay = step.of_first; ports = leaves_others k w.second event v.second step.of_second.entry.step }

pub port_part : (k : ℕ) (part : List SettleEntry) (w v : DomainState) → EachOf (IsOfPort k) part → Run DomainStep w part v → v.first ≡ w.first
port_part k [] w v own run = ap (λ (x : DomainState). x.first) (sym run)
port_part k (OfPort j event ∷ part) w v own run = port_part k part run.0 v own.1 run.2 ∙ run.1.of_first
port_part k (_ ∷ part) w v own run = absurd own.0
