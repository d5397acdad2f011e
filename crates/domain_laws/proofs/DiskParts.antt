-- What a settle over disks and ports says of the disks: its part leads each of them, and what leads disks by themselves leads them here by
-- the entries of disks alone.
use Rattle.std.proofs.Common.{◌≡◌, ℕ, Bool, true, false, List, [], ◌∷◌, ◌++◌, refl, ap}
use Rattle.runs.specs.Run.{Run}
use Rattle.lane_models.specs.DiskEvent.{DiskEvent}
use Rattle.lane_models.specs.LaneState.{LaneState}
use Rattle.lane_models.specs.LaneStep.{LaneStep}
use Rattle.lane_kinds.proofs.Both.{first_ends, first_leads}
use Rattle.lane_kinds.proofs.BothFronts.{first_fronts_lead, lanes_skip_fronts}
use Rattle.lane_kinds.proofs.FirstKept.{Tells, kept}
use Rattle.lane_kinds.proofs.Leading.{front_leads, part_leads, rounds_lead}
use Rattle.lane_kinds.proofs.Moving.{lanes_skip}
use Rattle.lane_kinds.specs.Both.{OnFirst, Skips}
use Rattle.lane_kinds.specs.Fronts.{SettleFront}
use Rattle.lane_kinds.specs.LaneFronts.{fronts_of}
use Rattle.lane_kinds.specs.Laws.{AnswersLead, FrontsLead, Leads}
use Rattle.lane_kinds.specs.Settles.{GoesOn, SettlePart, entries_of_rounds}
use Rattle.switch_laws.proofs.PortTurns.{turn_steps}
use Rattle.switch_laws.specs.Ports.{ports}
use Rattle.world_laws.proofs.DiskLaws as disk_laws
use Rattle.world_laws.proofs.Moving as moving
use Rattle.world_laws.specs.Along.{LanesMove, event_at, happened}
use Rattle.world_laws.specs.Begun.{fronts as disk_fronts}
use Rattle.world_laws.specs.DiskKind.{disk_kind}
use Rattle.world_laws.specs.Settle.{OfLane, OfPort, SettleEntry, UnsettledPort, disk_entries, disks}
use Rattle.domain_laws.proofs.LineEntries.{AllRound, AllSettling}
use Rattle.domain_laws.specs.Domain.{Lanes, lanes, port_entries, switch}
use Rattle.domain_laws.specs.Lines.{fronts}

-- ENTRIES OF DISKS, and the answer
abbrev pub is_of_disks : SettleEntry → Bool
is_of_disks (OfPort k event) = false
is_of_disks (UnsettledPort k) = false
is_of_disks _ = true

abbrev pub of_disks : List SettleEntry → List SettleEntry
of_disks part = kept is_of_disks part

pub disks_told : Tells disk_kind disk_entries ports port_entries is_of_disks
disks_told = record {
  own = λ k event. refl;
  own_left = λ k. refl;
  answer = refl;
  other = λ k event. refl;
  other_left = λ k. refl;
  own_steps = disk_laws.turn_steps;
  other_steps = turn_steps;
}

-- the others say nothing of a disk
pub same_happened : (x : ℕ) (part : List SettleEntry) → happened x (of_disks part) ≡ happened x part
same_happened x [] = refl
same_happened x (OfLane k event ∷ part) = ap (λ (l : List DiskEvent). event_at x (OfLane k event) ++ l) (same_happened x part)
same_happened x (entry ∷ part) = same_happened x part

-- EACH DISK is led by the whole part
skips : Skips switch (LanesMove 0)
skips = lanes_skip LaneStep event_at ports port_entries (λ j k event. refl) (λ j k. refl)

pub disks_lead : Leads lanes (OnFirst (LanesMove 0))
disks_lead = first_leads disks switch (LanesMove 0) moving.leads skips

pub disks_end : AnswersLead lanes (OnFirst (LanesMove 0))
disks_end = first_ends disks switch (LanesMove 0) moving.leads skips moving.ends

disks_begin : FrontsLead lanes fronts (OnFirst (LanesMove 0))
disks_begin =
    first_fronts_lead disks switch disk_fronts (fronts_of ports port_entries) (LanesMove 0) moving.leads moving.fronts_move
    (lanes_skip_fronts ports port_entries turn_steps LaneStep event_at (λ j k event. refl))

pub rounds_move_disks : (w : AllSettling) (rounds : List AllRound) (v : AllSettling) → Run (GoesOn lanes) w rounds v → LanesMove 0 w.lanes.first (entries_of_rounds rounds) v.lanes.first
rounds_move_disks w rounds v run = rounds_lead lanes (OnFirst (LanesMove 0)) disks_lead w rounds v run

pub part_moves_disks : (start : Lanes) (part : List SettleEntry) (behind : Lanes) → SettlePart lanes start part behind → LanesMove 0 start.first part behind.first
part_moves_disks start part behind settle = part_leads lanes (OnFirst (LanesMove 0)) disks_lead disks_end start part behind settle

pub begun_moves_disks : (start : Lanes) (part : List SettleEntry) (behind : Lanes) → SettleFront lanes fronts start part behind → LanesMove 0 start.first part behind.first
begun_moves_disks start part behind at = front_leads lanes (OnFirst (LanesMove 0)) disks_lead fronts disks_begin disks_end start part behind at
