-- Where a settle ends settled both ends of each lane are still, by the log of what its part says happened to it.
use Rattle.std.proofs.Common.{◌≡◌, ℕ, ◌+◌, true, List, [], ◌∷◌, ◌++◌, slice_get, Some, refl, sym, ap, ◌∙◌, subst, arith, append_assoc, append-nil}
use Rattle.std.specs.Prelude.{⊤}
use Rattle.world_parts.specs.world_laws.Rounds.{are_quiet}
use Rattle.runs.specs.Lawful.{log_of}
use Rattle.runs.specs.Run.{Run, run_append}
use Rattle.world_parts.specs.lane_laws.DiskLog.{after, nothing_yet}
use Rattle.world_parts.specs.lane_models.DiskEvent.{DiskEvent}
use Rattle.world_parts.specs.lane_models.LaneState.{IsShape, LaneState, Shape, fresh}
use Rattle.world_parts.specs.lane_models.LaneStep.{LaneStep}
use Rattle.lane_kinds.proofs.Lanes.{own_turns}
use Rattle.world_parts.proofs.world_laws.DiskLaws.{gives_nothing}
use Rattle.world_parts.specs.world_laws.DiskKind.{disk_kind}
use Rattle.world_parts.proofs.world_laws.Moving.{happened_both, leads}
use Rattle.world_parts.specs.world_laws.Along.{happened}
use Rattle.lane_kinds.proofs.Sums.{and_left}
use Rattle.lane_kinds.specs.Settles.{Settles, begin, entries_of_rounds}
use Rattle.world_parts.specs.switch_laws.Ports.{ports}
use Rattle.world_parts.specs.world_laws.Settle.{OfPort, SettleEntry, Settled, round_entries}
use Rattle.lane_kinds.proofs.EntryRuns.{round_each}
use Rattle.world_parts.proofs.domain_laws.DiskParts.{rounds_move_disks}
use Rattle.world_parts.proofs.domain_laws.LineEntries.{EachEntry}
use Rattle.world_parts.specs.domain_laws.Domain.{Lanes, lanes, port_entries, switch}
use Rattle.world_parts.proofs.world_laws.LaneLists.{lane_moved}
use Rattle.script_laws.proofs.Stillness.{calm_round, still_by}
use Rattle.script_laws.proofs.TicksStand.{MovedTo, QuietAt, moved_to, quiet_at}
use Rattle.script_laws.specs.Still.{AreStillBy}

-- the answer says nothing of a lane
pub answered : (x : ℕ) (part : List SettleEntry) → happened x part ≡ happened x (part ++ Settled ∷ [])
answered x part = sym (happened_both x part (Settled ∷ []) ∙ append-nil (happened x part))

-- nor do entries of ports
abbrev IsOfPorts : SettleEntry → Type 0
IsOfPorts (OfPort k event) = ⊤
IsOfPorts _ = ⊥

none_of_ports : (x : ℕ) (part : List SettleEntry) → EachEntry IsOfPorts part → happened x part ≡ []
none_of_ports x [] each = refl
none_of_ports x (OfPort k event ∷ part) each = none_of_ports x part each.1
none_of_ports x (entry ∷ part) each = absurd each.0

same_part : (x : ℕ) (part one two other so_far : List SettleEntry) → part ≡ one ++ (two ++ other) ++ Settled ∷ []
    → part ≡ so_far ++ Settled ∷ [] → happened x other ≡ [] → happened x one ++ happened x two ≡ happened x so_far
same_part x part one two other so_far first second none = grind (arith, happened_both, append-nil, answered)

own : (x : ℕ) → x ≡ 0 + x
own x = omega (arith)

pub settled_still : (start : Lanes) (part : List SettleEntry) (behind : Lanes)
    (at : Settles lanes start part behind) (so_far : List SettleEntry) → part ≡ so_far ++ Settled ∷ [] → (x : ℕ)
    (s : LaneState) → slice_get start.first x ≡ Some s → (shape : Shape) (events : List DiskEvent) → IsShape shape
    → Run LaneStep (fresh shape) events s
    → AreStillBy (log_of after (nothing_yet shape) (events ++ happened x so_far))
settled_still start part behind at so_far is x s there shape events sound run =
    let rounds : List SettleEntry = entries_of_rounds at.rounds in
    let steps = at.steps.first in
    let now = at.now.lanes.first in
    let last : List SettleEntry = round_entries 0 steps in
    let other : List SettleEntry = switch.leaves at.steps.second in
    let quiet : are_quiet steps ≡ true = and_left (are_quiet steps) (switch.quiet at.steps.second) at.last.quiet in
    let m : MovedTo x rounds s now =
    moved_to start.first rounds now x s (rounds_move_disks (begin lanes start) at.rounds at.now at.run) there in
    let q : QuietAt x m.lane behind.first =
    quiet_at now steps behind.first x m.lane
    (own_turns disk_kind gives_nothing now steps behind.first at.last.made.of_first) quiet m.there in
    let moved : Run LaneStep m.lane (happened x last) q.lane =
    lane_moved 0 x x now last behind.first m.lane q.lane (own x)
    (leads.round now steps behind.first at.last.made.of_first) m.there q.there in
    let still = still_by shape (events ++ happened x rounds) m.lane q.round q.lane x last sound
    (run_append LaneStep (fresh shape) s m.lane events (happened x rounds) run m.run) q.made q.quiet
    (calm_round 0 steps quiet) moved in
    subst (λ (l : List DiskEvent). AreStillBy (log_of after (nothing_yet shape) l))
    (append_assoc events (happened x rounds) (happened x last)
    ∙ ap (λ (l : List DiskEvent). events ++ l) (same_part x part rounds last other so_far at.is is
    (none_of_ports x other (round_each ports port_entries IsOfPorts (λ k event. tt) 0 at.steps.second)))) still
