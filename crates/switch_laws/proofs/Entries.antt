-- The part of a settle is a run of the switch, entry by entry.
use Rattle.std.proofs.Common.{ℕ, List, refl}
use Rattle.runs.specs.Run.{Run}
use Rattle.lane_kinds.proofs.EntryRuns.{entries_end, entries_lead}
use Rattle.lane_kinds.proofs.Leading.{part_leads}
use Rattle.lane_kinds.specs.Lanes.{EntryOf}
use Rattle.lane_kinds.specs.Laws.{AnswersLead, Leads}
use Rattle.lane_kinds.specs.Settles.{SettlePart}
use Rattle.port_laws.specs.PortState.{PortState}
use Rattle.switch_laws.specs.Events.{SwitchEvent}
use Rattle.switch_laws.specs.Ports.{OfPort, SwitchEntry, of_ports, ports, switch}
use Rattle.switch_laws.specs.Run.{SwitchMoves}
use Rattle.switch_laws.proofs.PortTurns.{silence}

one_entry : (k : ℕ) (lanes : List PortState) (event : SwitchEvent) (behind : List PortState) → EntryOf ports k lanes event behind → SwitchMoves lanes (OfPort k event) behind
one_entry k lanes event behind at = at.step

leads : Leads switch (Run SwitchMoves)
leads = entries_lead ports of_ports SwitchMoves silence (λ lanes k s. tt) one_entry (λ k w. refl) (λ w. refl)

ends : AnswersLead switch (Run SwitchMoves)
ends = entries_end ports of_ports SwitchMoves silence (λ lanes k s. tt) one_entry (λ k w. refl) (λ w. refl)

pub part_runs : (start : List PortState) (part : List SwitchEntry) (behind : List PortState) → SettlePart switch start part behind → Run SwitchMoves start part behind
part_runs start part behind settle = part_leads switch (Run SwitchMoves) leads ends start part behind settle
