-- The lines of a quiet journal as lines of lanes, and what a report says of them.
use Rattle.std.proofs.Common.{◌≡◌, ℕ, ◌<◌, List, [], ◌∷◌, ◌++◌, length, map, refl, ap, ◌∙◌, arith, append_assoc}
use Rattle.std.specs.List.{flat_map}
use Rattle.runs.specs.Run.{Run}
use Rattle.world_parts.specs.lane_models.WireEvent.{Reset}
use Rattle.world_parts.specs.lane_models.DiskEvent.{Asks, Done, Full, OnWire, Refused, Works}
use Rattle.domain_script.specs.declared.event.DiskDecl.{DiskDecl}
use Rattle.domain_script.specs.declared.event.Event.{Event}
use Rattle.world_parts.specs.world_laws.Settle.{OfLane, OfPort, SettleEntry, UnsettledPort}
use Rattle.disk_law.specs.ListState.{ImageState}
use Rattle.world_parts.specs.lane_models.LaneState.{Shape}
use Rattle.world_parts.specs.switch_laws.Events.{SwitchEvent}
use Rattle.world_parts.specs.domain_laws.Domain.{DomainState, fresh_domain}
use Rattle.lane_kinds.proofs.EntriesEach.{first_each}
use Rattle.world_parts.proofs.domain_laws.LeftOver.{NamesBelow, lines_below, port_within}
use Rattle.world_parts.proofs.domain_laws.LineEntries.{EachEntry}
use Rattle.world_parts.proofs.domain_laws.ScriptEntries.{lines_run}
use Rattle.world_parts.specs.domain_laws.Lines.{Line, entries_of_lines}
use Rattle.world_parts.specs.domain_laws.Lines as lane_lines
use Rattle.ldom_entries.specs.declared.entry.Entry.{Entry}
use Rattle.script_laws.proofs.EntryByEntry.{IsOfDisks, part_same}
use Rattle.script_laws.proofs.LaneReport.{SaysSame, says_append, told_append, told_lanes}
use Rattle.world_parts.specs.Lines.{EventStep, line_of}
use Rattle.world_parts.specs.domain_laws.Quiet.{AreQuiet, lines_of, shown_of}
use Rattle.world_parts.specs.world_laws.Shown.{is_shown, shown, shown_if}

-- LINES OF LANES by which the world was led as by these lines, and which say the same in a report
pub record ThroughLanes (w : DomainState) (lines : List (Event × List Entry)) (v : DomainState) : Type 0 where
  pub lanes : List (Line × List SettleEntry)
  pub lines_are : lines_of lanes ≡ map line_of (map (λ (l : Event × List Entry). l.0) lines)
  pub run : Run lane_lines.LineStep w lanes v
  pub same : (disk : DiskDecl) → EachEntry IsOfDisks (entries_of_lines lanes)
      → SaysSame disk (flat_map (λ (l : Event × List Entry). l.1) lines) (entries_of_lines lanes)

each_rest : (P : SettleEntry → Type 0) (one two : List SettleEntry) → EachEntry P (one ++ two) → EachEntry P two
each_rest P [] two all = all
each_rest P (x ∷ one) two all = each_rest P one two all.1

pub through_lanes : (w : DomainState) (lines : List (Event × List Entry)) (v : DomainState)
    → AreQuiet (map line_of (map (λ (l : Event × List Entry). l.0) lines)) → Run EventStep w lines v
    → ThroughLanes w lines v
through_lanes w [] v quiet run = record { lanes = []; lines_are = refl; run = run; same = λ disk of. (refl, refl) }
through_lanes w (line ∷ lines) v quiet run =
    let step = run.1 in
    let rest : ThroughLanes run.0 lines v = through_lanes run.0 lines v quiet.1 run.2 in
    record {
      lanes = (line_of line.0, step.entries) ∷ rest.lanes;
      lines_are = ap (λ (l : List Line). line_of line.0 ∷ l) rest.lines_are;
      run = (run.0, step.moves, rest.run);
      same = λ disk of. says_append disk line.1 (flat_map (λ (l : Event × List Entry). l.1) lines) step.entries
          (entries_of_lines rest.lanes) (part_same disk (line_of line.0) line.1 step.entries (first_each IsOfDisks step.entries (entries_of_lines rest.lanes) of) quiet.0 step.says)
          (rest.same disk (each_rest IsOfDisks step.entries (entries_of_lines rest.lanes) of));
    }

-- WHERE THERE IS NO PORT no entry is of one
no_number : (k : ℕ) → k < 0 → ⊥
no_number k less = omega (arith, less)

disks_alone : (n : ℕ) (front entries all : List SettleEntry) → front ++ entries ≡ all
    → ((before : List SettleEntry) (k : ℕ) (event : SwitchEvent) (behind : List SettleEntry) → before ++ OfPort k event ∷ behind ≡ all → ⊥)
    → NamesBelow n 0 entries → EachEntry IsOfDisks entries
disks_alone n front [] all is none below = tt
disks_alone n front (OfPort k event ∷ entries) all is none below = absurd (none front k event entries is)
disks_alone n front (UnsettledPort k ∷ entries) all is none below = absurd (no_number k below.0)
disks_alone n front (entry ∷ entries) all is none below =
    (tt, disks_alone n (front ++ entry ∷ []) entries all (append_assoc front (entry ∷ []) entries ∙ is) none below.1)

pub of_disks : (shapes : List Shape) (image : ImageState) (lines : List (Line × List SettleEntry)) (v : DomainState)
    → Run lane_lines.LineStep (fresh_domain shapes image []) lines v → EachEntry IsOfDisks (entries_of_lines lines)
of_disks shapes image lines v run =
    let entries : List SettleEntry = entries_of_lines lines in
    disks_alone (length shapes) [] entries entries refl
    (λ before k event behind is. no_number k (port_within shapes image [] entries v before k event behind (lines_run (fresh_domain shapes image []) lines v run) is))
    (lines_below shapes image [] lines v run)

-- WHAT IS SHOWN tells all that a report tells, but for how many requests were accepted
one_shown : (disk : DiskDecl) (x : SettleEntry) → told_lanes disk (x ∷ []) ≡ told_lanes disk (shown_if (is_shown x) x)
one_shown disk (OfLane k (Asks (Full request))) = refl
one_shown disk (OfLane k (Asks (Refused why request))) = refl
one_shown disk (OfLane k (Works (Done id operation status bytes))) = refl
one_shown disk (OfLane k (OnWire (Reset e cause packet lost))) = refl
one_shown disk (OfLane k event) = refl
one_shown disk _ = refl

part_shown : (disk : DiskDecl) (part : List SettleEntry) → told_lanes disk part ≡ told_lanes disk (shown part)
part_shown disk [] = refl
part_shown disk (x ∷ part) =
    told_append disk (x ∷ []) (shown_if (is_shown x) x) part (shown part) (one_shown disk x) (part_shown disk part)

pub all_shown : (disk : DiskDecl) (lines : List (Line × List SettleEntry))
    → told_lanes disk (entries_of_lines lines) ≡ told_lanes disk (shown_of lines)
all_shown disk [] = refl
all_shown disk (line ∷ lines) =
    told_append disk line.1 (shown line.1) (entries_of_lines lines) (shown_of lines) (part_shown disk line.1)
    (all_shown disk lines)
