-- The part of a settle over disks and ports runs the ports, entry by entry.
use Rattle.std.proofs.Common.{◌≡◌, ℕ, List, [], ◌∷◌, refl, sym, subst}
use Rattle.std.specs.Prelude.{⊤}
use Rattle.runs.specs.Run.{Run}
use Rattle.lane_kinds.proofs.Both.{second_ends, second_leads}
use Rattle.lane_kinds.proofs.EntriesEach.{first_each}
use Rattle.lane_kinds.proofs.EntryRuns.{entries_end, entries_lead, lanes_leave, names_each, round_each}
use Rattle.lane_kinds.proofs.LaneFronts as fronts
use Rattle.lane_kinds.proofs.LaneFronts.{lanes_each, of_both}
use Rattle.lane_kinds.proofs.Leading.{part_leads}
use Rattle.lane_kinds.specs.Both.{OnSecond}
use Rattle.lane_kinds.specs.Lanes.{EachOf, EntryOf}
use Rattle.lane_kinds.specs.Laws.{AnswersLead, Leads}
use Rattle.lane_kinds.specs.Settles.{SettlePart}
use Rattle.lane_models.specs.PortState.{OnLane, PortState, Receives}
use Rattle.switch_laws.proofs.PortTurns.{silence, turn_steps}
use Rattle.switch_laws.specs.Events.{OnPort, SwitchEvent, Switched}
use Rattle.switch_laws.specs.Ports.{ports}
use Rattle.world_laws.specs.DiskKind.{disk_kind}
use Rattle.world_laws.specs.Settle.{OfPort, SettleEntry, disk_entries, disks}
use Rattle.domain_laws.specs.Domain.{IsOwnEvent, Lanes, PortsStep, lanes, port_entries, switch}

-- EACH ENTRY moves the ports, whether it is an event of a port's own or not
abbrev Moves : List PortState → SettleEntry → List PortState → Type 0
Moves w (OfPort k event) v = EntryOf ports k w event v
Moves w _ v = v ≡ w

leads : Leads lanes (OnSecond (Run Moves))
leads =
    second_leads disks switch (Run Moves) (entries_lead ports port_entries Moves silence (λ w k s. tt) (λ k w event v at. at) (λ k w. refl) (λ w. refl))
    (lanes_leave Moves disk_kind disk_entries (λ k event w. refl) (λ k w. refl))

ends : AnswersLead lanes (OnSecond (Run Moves))
ends =
    second_ends disks switch (Run Moves) (entries_lead ports port_entries Moves silence (λ w k s. tt) (λ k w event v at. at) (λ k w. refl) (λ w. refl))
    (lanes_leave Moves disk_kind disk_entries (λ k event w. refl) (λ k w. refl))
    (entries_end ports port_entries Moves silence (λ w k s. tt) (λ k w event v at. at) (λ k w. refl) (λ w. refl)) refl

-- AND IT IS ONE
abbrev OwnEntry : SettleEntry → Type 0
OwnEntry (OfPort k event) = IsOwnEvent event
OwnEntry _ = ⊤

step_own : (k : ℕ) (event : SwitchEvent) → ports.IsStep event → OwnEntry (port_entries.of_lane k event)
step_own k (OnPort (OnLane event)) step = tt
step_own k (OnPort (Receives frame)) step = absurd step.1
step_own k (Switched frame out full) step = tt

own_leads : Leads lanes (λ w part v. EachOf OwnEntry part)
own_leads = record {
  none = λ w. tt;
  both = λ w m v one two first second. of_both OwnEntry one two first second;
  round = λ w r v made. of_both OwnEntry (disks.leaves r.first) (switch.leaves r.second) (round_each disk_kind disk_entries OwnEntry (λ k event. tt) 0 r.first)
      (lanes_each OwnEntry ports port_entries turn_steps step_own w.second r.second v.second made.of_second);
  ticks = λ w m v ticks. of_both OwnEntry (disks.ticks_leave w.first m.first) (switch.ticks_leave w.second m.second)
      (fronts.ticks_each OwnEntry disk_kind disk_entries (λ k s. tt) 0 w.first m.first) (fronts.ticks_each OwnEntry ports port_entries (λ k s. tt) 0 w.second m.second);
}

own_ends : AnswersLead lanes (λ w part v. EachOf OwnEntry part)
own_ends = record {
  answer = λ w. (tt, tt);
  names = λ r w part more is. first_each OwnEntry part more (subst (EachOf OwnEntry) (sym is)
      (of_both OwnEntry (disks.names r.first w.first) (switch.names r.second w.second) (names_each disk_kind disk_entries OwnEntry (λ k. tt) 0 r.first w.first)
      (names_each ports port_entries OwnEntry (λ k. tt) 0 r.second w.second)));
}

own_run : (part : List SettleEntry) (w v : List PortState) → EachOf OwnEntry part → Run Moves w part v → Run PortsStep w part v
own_run [] w v own run = run
own_run (OfPort k event ∷ part) w v own run = (run.0, record { own = own.0; entry = run.1 }, own_run part run.0 v own.1 run.2)
own_run (_ ∷ part) w v own run = (run.0, run.1, own_run part run.0 v own.1 run.2)

pub ports_by_part : (start : Lanes) (part : List SettleEntry) (behind : Lanes) → SettlePart lanes start part behind → Run PortsStep start.second part behind.second
ports_by_part start part behind settle =
    own_run part start.second behind.second (part_leads lanes (λ w part v. EachOf OwnEntry part) own_leads own_ends start part behind settle)
    (part_leads lanes (OnSecond (Run Moves)) leads ends start part behind settle)
