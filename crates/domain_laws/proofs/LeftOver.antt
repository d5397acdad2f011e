-- Each lane that an entry names is one of the world's, of its kind: those of events, and those that a settle leaves over.
use Rattle.std.proofs.Common.{◌≡◌, ℕ, ◌<◌, List, [], ◌∷◌, ◌++◌, length, map, sym, subst, arith}
use Rattle.std.specs.Prelude.{⊤}
use Rattle.runs.specs.Run.{Run, run_split}
use Rattle.disk_law.specs.ListState.{ImageState}
use Rattle.lane_models.specs.DiskEvent.{DiskEvent}
use Rattle.lane_models.specs.LaneState.{Shape}
use Rattle.lane_kinds.specs.Lanes.{EachOf}
use Rattle.lane_models.specs.NetLaneState.{NetShape}
use Rattle.lane_models.specs.PortState.{fresh_port}
use Rattle.switch_laws.specs.Events.{SwitchEvent}
use Rattle.world_laws.proofs.WorldWords.{entry_within}
use Rattle.world_laws.specs.Settle.{OfLane, OfPort, SettleEntry, Unsettled, UnsettledPort}
use Rattle.world_laws.specs.World.{AreShapes}
use Rattle.domain_laws.proofs.LineEntries.{AnswersHave, CallsHave, EachEntry, NamesHave, StepsHave, TicksHave, each_at}
use Rattle.domain_laws.proofs.Running.{disks_run, fresh_many as fresh_ports, ports_run}
use Rattle.domain_laws.proofs.ScriptEntries.{cut_each, fresh_many, lines_each}
use Rattle.domain_laws.specs.Domain.{DomainState, DomainStep, PortsStep, fresh_domain}
use Rattle.domain_laws.specs.Lines.{Line, LineBegins, LineStep, entries_of_lines}

-- WHAT A PART NAMES as left over stands below these numbers, of disks and of ports
abbrev pub IsBelow : ℕ → ℕ → SettleEntry → Type 0
IsBelow n m (Unsettled k) = k < n
IsBelow n m (UnsettledPort k) = k < m
IsBelow n m _ = ⊤

abbrev pub NamesBelow : ℕ → ℕ → List SettleEntry → Type 0
NamesBelow n m part = EachEntry (IsBelow n m) part

pub named_below : (n m : ℕ) (before : List SettleEntry) (k : ℕ) (behind : List SettleEntry) → NamesBelow n m (before ++ Unsettled k ∷ behind) → k < n
named_below n m before k behind below = each_at (IsBelow n m) before (Unsettled k) behind below

pub port_named_below : (n m : ℕ) (before : List SettleEntry) (k : ℕ) (behind : List SettleEntry) → NamesBelow n m (before ++ UnsettledPort k ∷ behind) → k < m
port_named_below n m before k behind below = each_at (IsBelow n m) before (UnsettledPort k) behind below

-- A SCRIPT, and one whose last line was cut
module _ (shapes : List Shape) (image : ImageState) (nets : List NetShape) where
  abbrev Below : SettleEntry → Type 0
  Below = IsBelow (length shapes) (length nets)

  steps : StepsHave Below
  steps = record { of_disk = λ k e event own. tt; of_port = λ k e event own. tt }

  ticks : TicksHave Below
  ticks = record { of_disk = λ k. tt; of_port = λ k s. tt }

  names : NamesHave Below (length shapes) (length nets)
  names = record { of_disk = λ k less. less; of_port = λ k less. less; answer = tt }

  asked : AnswersHave Below
  asked = record { request = λ k asked event answers. tt; frame = λ k given event answers. tt; group = λ k address event answers. tt }

  calls : (line : Line) → ⊤ → CallsHave Below line
  calls line any = record { of_disk = λ k call event is answers. tt; of_port = λ k call event is answers. tt }

  any_lines : (lines : List (Line × List SettleEntry)) → EachOf (λ (line : Line × List SettleEntry). ⊤) lines
  any_lines [] = tt
  any_lines (line ∷ lines) = (tt, any_lines lines)

  pub lines_below : (lines : List (Line × List SettleEntry)) (w : DomainState) → Run LineStep (fresh_domain shapes image nets) lines w
      → NamesBelow (length shapes) (length nets) (entries_of_lines lines)
  lines_below lines w run =
      lines_each Below steps ticks (length shapes) (length nets) names asked (λ line. ⊤) calls (fresh_domain shapes image nets) lines w (fresh_many shapes image nets) (any_lines lines) run

  pub cut_below : (lines : List (Line × List SettleEntry)) (w : DomainState) (line : Line) (part : List SettleEntry) (v : DomainState)
      → Run LineStep (fresh_domain shapes image nets) lines w → LineBegins w line part v → NamesBelow (length shapes) (length nets) (entries_of_lines lines ++ part)
  cut_below lines w line part v run begun =
      cut_each Below steps ticks (length shapes) (length nets) names asked (λ line. ⊤) calls (fresh_domain shapes image nets) lines w line part v (fresh_many shapes image nets) (any_lines lines)
      run begun

  -- by their places
  pub unsettled_within : (lines : List (Line × List SettleEntry)) (w : DomainState) (before : List SettleEntry) (k : ℕ) (behind : List SettleEntry)
      → Run LineStep (fresh_domain shapes image nets) lines w → before ++ Unsettled k ∷ behind ≡ entries_of_lines lines → k < length shapes
  unsettled_within lines w before k behind run is =
      named_below (length shapes) (length nets) before k behind (subst (NamesBelow (length shapes) (length nets)) (sym is) (lines_below lines w run))

  pub port_unsettled_within : (lines : List (Line × List SettleEntry)) (w : DomainState) (before : List SettleEntry) (k : ℕ) (behind : List SettleEntry)
      → Run LineStep (fresh_domain shapes image nets) lines w → before ++ UnsettledPort k ∷ behind ≡ entries_of_lines lines → k < length nets
  port_unsettled_within lines w before k behind run is =
      port_named_below (length shapes) (length nets) before k behind (subst (NamesBelow (length shapes) (length nets)) (sym is) (lines_below lines w run))

  pub begun_within : (lines : List (Line × List SettleEntry)) (w : DomainState) (line : Line) (part : List SettleEntry) (v : DomainState) (before : List SettleEntry) (k : ℕ)
      (behind : List SettleEntry) → Run LineStep (fresh_domain shapes image nets) lines w → LineBegins w line part v
      → before ++ Unsettled k ∷ behind ≡ entries_of_lines lines ++ part → k < length shapes
  begun_within lines w line part v before k behind run begun is =
      named_below (length shapes) (length nets) before k behind (subst (NamesBelow (length shapes) (length nets)) (sym is) (cut_below lines w line part v run begun))

  pub port_begun_within : (lines : List (Line × List SettleEntry)) (w : DomainState) (line : Line) (part : List SettleEntry) (v : DomainState) (before : List SettleEntry) (k : ℕ)
      (behind : List SettleEntry) → Run LineStep (fresh_domain shapes image nets) lines w → LineBegins w line part v
      → before ++ UnsettledPort k ∷ behind ≡ entries_of_lines lines ++ part → k < length nets
  port_begun_within lines w line part v before k behind run begun is =
      port_named_below (length shapes) (length nets) before k behind (subst (NamesBelow (length shapes) (length nets)) (sym is) (cut_below lines w line part v run begun))

  -- EVENTS along any run
  pub disk_within : (entries : List SettleEntry) (w : DomainState) (before : List SettleEntry) (k : ℕ) (event : DiskEvent) (behind : List SettleEntry) → AreShapes 0 shapes
      → Run DomainStep (fresh_domain shapes image nets) entries w → before ++ OfLane k event ∷ behind ≡ entries → k < length shapes
  disk_within entries w before k event behind are run is =
      entry_within shapes image entries w.first before k event behind are (disks_run (fresh_domain shapes image nets) entries w run) is

  few_ports : (k n m : ℕ) → k < n → n ≡ m → k < m
  few_ports k n m less is = omega (arith, less, is)

  pub port_within : (entries : List SettleEntry) (w : DomainState) (before : List SettleEntry) (k : ℕ) (event : SwitchEvent) (behind : List SettleEntry)
      → Run DomainStep (fresh_domain shapes image nets) entries w → before ++ OfPort k event ∷ behind ≡ entries → k < length nets
  port_within entries w before k event behind run is =
      let ports : Run PortsStep (map fresh_port nets) (before ++ OfPort k event ∷ behind) w.second =
      subst (λ (l : List SettleEntry). Run PortsStep (map fresh_port nets) l w.second) (sym is) (ports_run (fresh_domain shapes image nets) entries w run) in
      let split = run_split PortsStep (map fresh_port nets) w.second before (OfPort k event ∷ behind) ports in
      few_ports k (length split.0) (length nets) split.2.1.entry.within (fresh_ports nets before split.0 split.1)
