-- A script runs a world by the parts of its lines, and a condition on each entry of each line's part is one on all entries of the script.
use Rattle.std.proofs.Common.{ℕ, List, [], ◌∷◌, ◌++◌, length, ◌∙◌}
use Rattle.std.proofs.lemmas.List.{length-map}
use Rattle.runs.specs.Run.{Run, run_append}
use Rattle.disk_law.specs.ListState.{ImageState}
use Rattle.lane_models.specs.LaneState.{Shape, fresh}
use Rattle.lane_kinds.specs.Lanes.{EachOf}
use Rattle.lane_models.specs.NetLaneState.{NetShape}
use Rattle.lane_models.specs.PortState.{fresh_port}
use Rattle.world_laws.proofs.Along.{many_stay}
use Rattle.world_laws.specs.Settle.{SettleEntry}
use Rattle.domain_laws.proofs.LineEntries.{AnswersHave, AreSoMany, CallsHave, EachEntry, NamesHave, StepsHave, TicksHave, begins_each, each_both, line_each}
use Rattle.domain_laws.proofs.Running.{disks_run, ports_many, ports_run}
use Rattle.domain_laws.specs.Domain.{DomainState, DomainStep, fresh_domain, lanes_in}
use Rattle.domain_laws.specs.Lines.{Line, LineBegins, LineStep, entries_of_lines}

-- A SCRIPT runs the world by the parts of its lines
pub lines_run : (w : DomainState) (lines : List (Line × List SettleEntry)) (v : DomainState) → Run LineStep w lines v → Run DomainStep w (entries_of_lines lines) v
lines_run w [] v run = run
lines_run w (line ∷ lines) v run = run_append DomainStep w run.0 v line.1 (entries_of_lines lines) run.1.run (lines_run run.0 lines v run.2)

-- also where its last line was cut
pub cut_run : (w : DomainState) (lines : List (Line × List SettleEntry)) (v : DomainState) (line : Line) (part : List SettleEntry) (u : DomainState) → Run LineStep w lines v
    → LineBegins v line part u → Run DomainStep w (entries_of_lines lines ++ part) u
cut_run w lines v line part u run begun = run_append DomainStep w v u (entries_of_lines lines) part (lines_run w lines v run) begun.run

-- AS MANY LANES of each kind, which it leaves
pub many_kept : (n m : ℕ) (w : DomainState) (part : List SettleEntry) (v : DomainState) → Run DomainStep w part v → AreSoMany n m (lanes_in w) → AreSoMany n m (lanes_in v)
many_kept n m w part v run many = record {
  of_first = many_stay w.first part v.first (disks_run w part v run) ∙ many.of_first;
  of_second = ports_many w.second part v.second (ports_run w part v run) ∙ many.of_second;
}

pub fresh_many : (shapes : List Shape) (image : ImageState) (nets : List NetShape) → AreSoMany (length shapes) (length nets) (lanes_in (fresh_domain shapes image nets))
fresh_many shapes image nets = record { of_first = length-map shapes fresh; of_second = length-map nets fresh_port }

-- EACH ENTRY of it, by what holds of each of its lines
module _ (P : SettleEntry → Type 0) (steps : StepsHave P) (ticks : TicksHave P) (n m : ℕ) (names : NamesHave P n m) (asked : AnswersHave P) (Holds : Line → Type 0)
    (calls : (line : Line) → Holds line → CallsHave P line) where
  pub lines_each : (w : DomainState) (lines : List (Line × List SettleEntry)) (v : DomainState) → AreSoMany n m (lanes_in w) → EachOf (λ (line : Line × List SettleEntry). Holds line.0) lines
      → Run LineStep w lines v → EachEntry P (entries_of_lines lines)
  lines_each w [] v many hold run = tt
  lines_each w (line ∷ lines) v many hold run =
      each_both P line.1 (entries_of_lines lines)
      (line_each P steps ticks n m names asked line.0 (calls line.0 hold.0) (lanes_in w) line.1 (lanes_in run.0) many run.1.part_of)
      (lines_each run.0 lines v (many_kept n m w line.1 run.0 run.1.run many) hold.1 run.2)

  pub cut_each : (w : DomainState) (lines : List (Line × List SettleEntry)) (v : DomainState) (line : Line) (part : List SettleEntry) (u : DomainState) → AreSoMany n m (lanes_in w)
      → EachOf (λ (line : Line × List SettleEntry). Holds line.0) lines → Run LineStep w lines v → LineBegins v line part u → EachEntry P (entries_of_lines lines ++ part)
  cut_each w lines v line part u many hold run begun =
      each_both P (entries_of_lines lines) part (lines_each w lines v many hold run)
      (begins_each P steps ticks n m names line (lanes_in v) part (lanes_in u) (many_kept n m w (entries_of_lines lines) v (lines_run w lines v run) many) begun.begins)
