-- Each lane is run by what the part of a settle, or a front of it, says happened to it: a step that leaves no entry left the lane as it was.
use Rattle.std.proofs.Common.{◌≡◌, ℕ, ◌+◌, List, [], ◌∷◌, ◌++◌}
use Rattle.runs.specs.Run.{Run, run_append}
use Rattle.lane_models.specs.LaneState.{LaneState, fresh}
use Rattle.lane_models.specs.DiskEvent.{DiskEvent}
use Rattle.lane_models.specs.LaneStep.{LaneStep}
use Rattle.lane_models.specs.Reached.{IsReached}
use Rattle.lane_kinds.proofs.LaneFronts.{fronts_lead}
use Rattle.lane_kinds.proofs.Leading.{front_leads, part_leads}
use Rattle.lane_kinds.proofs.Moving as kind
use Rattle.lane_kinds.proofs.Moving.{both_move, lanes_end, lanes_lead, none_move, nothing_move}
use Rattle.lane_kinds.specs.Laws.{AnswersLead, FrontsLead, Leads}
use Rattle.world_laws.proofs.DiskLaws.{disk_reads, disk_silent}
use Rattle.world_laws.specs.Along.{LanesMove, event_at, happened}
use Rattle.world_laws.specs.Begun.{SettleFront, fronts}
use Rattle.world_laws.specs.DiskKind.{disk_kind}
use Rattle.world_laws.specs.Rounds.{Each}
use Rattle.world_laws.specs.Settle.{SettleEntry, SettlePart, Settled, disk_entries, disks}

pub happened_both : (k : ℕ) (before behind : List SettleEntry) → happened k (before ++ behind) ≡ happened k before ++ happened k behind
happened_both k before behind = kind.happened_both event_at k before behind

-- ONE PART BEHIND ANOTHER, and none
pub moves_on : (j : ℕ) (lanes between behind : List LaneState) (before part : List SettleEntry) → LanesMove j lanes before between → LanesMove j between part behind
    → LanesMove j lanes (before ++ part) behind
moves_on j lanes between behind before part one two = both_move LaneStep event_at j lanes between behind before part one two

pub stay : (j : ℕ) (lanes : List LaneState) → LanesMove j lanes [] lanes
stay j lanes = none_move LaneStep event_at j lanes

pub nothing_moves : (j : ℕ) (lanes : List LaneState) (part : List SettleEntry) → ((k : ℕ) → happened k part ≡ []) → LanesMove j lanes part lanes
nothing_moves j lanes part none = nothing_move LaneStep event_at j lanes part none

-- ALL ROUNDS
pub leads : Leads disks (LanesMove 0)
leads = lanes_lead disk_kind disk_entries event_at disk_reads disk_silent

pub ends : AnswersLead disks (LanesMove 0)
ends = lanes_end disk_kind disk_entries event_at disk_reads disk_silent

pub settled_moves : (lanes : List LaneState) → LanesMove 0 lanes (Settled ∷ []) lanes
settled_moves lanes = ends.answer lanes

pub fronts_move : FrontsLead disks fronts (LanesMove 0)
fronts_move = fronts_lead disk_kind disk_entries event_at disk_reads disk_silent

pub part_moves : (start : List LaneState) (part : List SettleEntry) (behind : List LaneState) → SettlePart start part behind → LanesMove 0 start part behind
part_moves start part behind settle = part_leads disks (LanesMove 0) leads ends start part behind settle

pub begun_moves : (start : List LaneState) (part : List SettleEntry) (behind : List LaneState) → SettleFront start part behind → LanesMove 0 start part behind
begun_moves start part behind at = front_leads disks (LanesMove 0) leads fronts fronts_move ends start part behind at

-- and so it stays reached
reached_along : (s : LaneState) (events : List DiskEvent) (t : LaneState) → IsReached s → Run LaneStep s events t → IsReached t
reached_along s events t at run = record {
  shape = at.shape;
  sound = at.sound;
  events = at.events ++ events;
  run = run_append LaneStep (fresh at.shape) s t at.events events at.run run;
}

pub moved_reached : (j : ℕ) (lanes : List LaneState) (part : List SettleEntry) (behind : List LaneState) → Each IsReached lanes → LanesMove j lanes part behind → Each IsReached behind
moved_reached j [] part [] reached move = tt
moved_reached j (s ∷ lanes) part (t ∷ behind) reached move = (reached_along s (happened j part) t reached.0 move.0, moved_reached (j + 1) lanes part behind reached.1 move.1)
moved_reached j [] part (t ∷ behind) reached move = absurd move
moved_reached j (s ∷ lanes) part [] reached move = absurd move
