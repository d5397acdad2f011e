-- A condition on each entry of a part. Each entry of a line's part has it where each step of an end and each tick has it, and what may come of
-- requests, frames, groups and calls. In a settle the names of lanes that are left over must have it too, and its answer.
use Rattle.std.proofs.Common.{◌≡◌, ℕ, ◌<◌, List, [], ◌∷◌, ◌++◌, Bool, length, replicate, refl, sym, ap, subst}
use Rattle.std.specs.Prelude.{if◌then◌else◌, ⊤}
use Rattle.runs.specs.Run.{Run}
use Rattle.ldc_queue.specs.declared.end.End.{End}
use Rattle.vdisk_msg.specs.declared.request.Request.{Request}
use Rattle.lane_models.specs.DiskEvent.{DiskEvent}
use Rattle.lane_models.specs.LaneState.{LaneState}
use Rattle.lane_kinds.proofs.EntriesEach.{HaveEach, both_ends_have, both_fronts_have, both_kinds, ends_have, entry_has, fronts_have, lanes_have}
use Rattle.lane_kinds.proofs.LaneFronts.{front_each, lanes_each, of_both}
use Rattle.lane_kinds.proofs.Leading.{few_lead, front_leads, part_leads, rounds_lead, steps_lead}
use Rattle.lane_kinds.specs.Both.{BothHold, Two}
use Rattle.lane_kinds.specs.Fronts.{SettleFront}
use Rattle.lane_kinds.specs.LaneFronts.{RoundFront, fronts_of}
use Rattle.lane_kinds.specs.Lanes.{EachOf, MakeRound}
use Rattle.lane_kinds.specs.Laws.{AnswersLead, FrontsLead, Leads}
use Rattle.lane_kinds.specs.Settles.{GoesOn, SettleRound, Settles, Settling, entries_of_rounds, most_rounds}
use Rattle.lane_laws.specs.CalmEnds.{IsStep}
use Rattle.lane_models.specs.PortState.{PortState}
use Rattle.switch_laws.proofs.PortTurns.{silence, turn_steps}
use Rattle.switch_laws.specs.Events.{SwitchEvent}
use Rattle.switch_laws.specs.Ports.{IsStepOf as IsPortStep, is_silent, ports, tick as port_tick}
use Rattle.world_laws.proofs.DiskLaws as disk_laws
use Rattle.world_laws.proofs.DiskLaws.{disk_reads, disk_silent}
use Rattle.world_laws.specs.Along.{event_at}
use Rattle.world_laws.specs.Begun.{fronts as disk_fronts}
use Rattle.world_laws.specs.DiskKind.{disk_kind, tick}
use Rattle.world_laws.specs.Rounds.{LaneRound}
use Rattle.world_laws.specs.Settle.{OfLane, OfPort, SettleEntry, Settled, Unsettled, UnsettledPort, disk_entries, disks, entry_of}
use Rattle.domain_laws.proofs.Running.{port_reads}
use Rattle.domain_laws.specs.Along.{port_said}
use Rattle.domain_laws.specs.Domain.{Lanes, lanes, port_entries, switch}
use Rattle.domain_laws.specs.Lines.{AnswersCall, AnswersFrame, AnswersGroup, AnswersOn, AnswersOnPort, AnswersPortCall, AnswersRequest, AreSteps, Asked, BeginsPart, Call, Calls, DiskLane, EndTurn, IsStepOf, Joins, LaneName, Line, Nothing, OneEntry, OnePortEntry, PartOf, PortLane, Rounds, Sends, Steps, fronts, turn, turns_of}
use Rattle.domain_laws.specs.Lines as script

abbrev pub EachEntry : (SettleEntry → Type 0) → List SettleEntry → Type 0
EachEntry = EachOf

-- a condition on events of disks, and one on those of ports
abbrev pub OnEvent : (DiskEvent → Type 0) → (SwitchEvent → Type 0) → SettleEntry → Type 0
OnEvent P Q (OfLane k event) = P event
OnEvent P Q (OfPort k event) = Q event
OnEvent P Q _ = ⊤

-- WHAT COMES OF A CALL is one event, and has what each part of one event has
by_port_answer : (Holds : List SettleEntry → Type 0) (lane : LaneName) (call : Call) (part : List SettleEntry)
    → ((k : ℕ) (event : SwitchEvent) → lane ≡ PortLane k → AnswersPortCall call event → Holds (OfPort k event ∷ [])) → AnswersOnPort lane call part → Holds part
by_port_answer Holds (PortLane k) call part port one = subst Holds (sym one.is) (port k one.event refl one.answers)
by_port_answer Holds lane call part port one = absurd one

pub by_answer : (Holds : List SettleEntry → Type 0) (lane : LaneName) (call : Call) (part : List SettleEntry)
    → ((k : ℕ) (event : DiskEvent) → lane ≡ DiskLane k → AnswersCall call event → Holds (OfLane k event ∷ []))
    → ((k : ℕ) (event : SwitchEvent) → lane ≡ PortLane k → AnswersPortCall call event → Holds (OfPort k event ∷ [])) → AnswersOn lane call part → Holds part
by_answer Holds (DiskLane k) call part disk port one = subst Holds (sym one.is) (disk k one.event refl one.answers)
by_answer Holds lane call part disk port one = by_port_answer Holds lane call part port one

-- EACH STEP of an end has it, and each tick
pub record StepsHave (P : SettleEntry → Type 0) : Type 0 where
  pub of_disk : (k : ℕ) (e : End) (event : DiskEvent) → IsStep e event → P (OfLane k event)
  pub of_port : (k : ℕ) (e : End) (event : SwitchEvent) → IsPortStep e event → P (OfPort k event)

pub record TicksHave (P : SettleEntry → Type 0) : Type 0 where
  pub of_disk : (k : ℕ) → P (OfLane k tick)
  pub of_port : (k : ℕ) (s : PortState) → P (OfPort k (port_tick s))

-- the names of these lanes, so many of each kind, and the answer of a settle
pub record NamesHave (P : SettleEntry → Type 0) (n m : ℕ) : Type 0 where
  pub of_disk : (k : ℕ) → k < n → P (Unsettled k)
  pub of_port : (k : ℕ) → k < m → P (UnsettledPort k)
  pub answer : P Settled

-- what may come of a request, of a frame and of a group, and of the calls of this line
pub record AnswersHave (P : SettleEntry → Type 0) : Type 0 where
  pub request : (k : ℕ) (asked : Request) (event : DiskEvent) → AnswersRequest asked event → P (OfLane k event)
  pub frame : (k : ℕ) (given : List ℕ) (event : SwitchEvent) → AnswersFrame given event → P (OfPort k event)
  pub group : (k : ℕ) (address : List ℕ) (event : SwitchEvent) → AnswersGroup address event → P (OfPort k event)

pub record CallsHave (P : SettleEntry → Type 0) (line : Line) : Type 0 where
  pub of_disk : (k : ℕ) (call : Call) (event : DiskEvent) → line ≡ Calls (DiskLane k) call → AnswersCall call event → P (OfLane k event)
  pub of_port : (k : ℕ) (call : Call) (event : SwitchEvent) → line ≡ Calls (PortLane k) call → AnswersPortCall call event → P (OfPort k event)

-- SO MANY LANES of each kind, and a settle over them
abbrev SoManyDisks : ℕ → List LaneState → Type 0
SoManyDisks n w = length w ≡ n

abbrev SoManyPorts : ℕ → List PortState → Type 0
SoManyPorts m w = length w ≡ m

abbrev pub AreSoMany : ℕ → ℕ → Lanes → Type 0
AreSoMany n m = BothHold (SoManyDisks n) (SoManyPorts m)

pub as_many : (w : Lanes) → AreSoMany (length w.first) (length w.second) w
as_many w = record { of_first = refl; of_second = refl }

abbrev pub AllSettling : Type 0
AllSettling = Settling Lanes (Two (List Bool) (List Bool))

abbrev pub AllRound : Type 0
AllRound = SettleRound (Two (List LaneRound) (List (List SwitchEvent))) SettleEntry

module _ (P : SettleEntry → Type 0) where
  -- PARTS
  pub each_both : (one two : List SettleEntry) → EachEntry P one → EachEntry P two → EachEntry P (one ++ two)
  each_both one two first second = of_both P one two first second

  pub each_as : (one two : List SettleEntry) → one ≡ two → EachEntry P two → EachEntry P one
  each_as one two is each = subst (EachEntry P) (sym is) each

  -- one of them has it
  pub each_at : (before : List SettleEntry) (entry : SettleEntry) (behind : List SettleEntry) → EachEntry P (before ++ entry ∷ behind) → P entry
  each_at [] entry behind each = each.0
  each_at (other ∷ before) entry behind each = each_at before entry behind each.1

  pub each_in : (part before : List SettleEntry) (entry : SettleEntry) (behind : List SettleEntry) → part ≡ before ++ entry ∷ behind → EachEntry P part → P entry
  each_in part before entry behind is each = each_at before entry behind (each_as (before ++ entry ∷ behind) part (sym is) each)

  pub one_each : (k : ℕ) (Answers : DiskEvent → Type 0) (part : List SettleEntry) → ((event : DiskEvent) → Answers event → P (OfLane k event)) → OneEntry k Answers part → EachEntry P part
  one_each k Answers part each one = each_as part (OfLane k one.event ∷ []) one.is (each one.event one.answers, tt)

  pub one_port_each : (k : ℕ) (Answers : SwitchEvent → Type 0) (part : List SettleEntry) → ((event : SwitchEvent) → Answers event → P (OfPort k event)) → OnePortEntry k Answers part
      → EachEntry P part
  one_port_each k Answers part each one = each_as part (OfPort k one.event ∷ []) one.is (each one.event one.answers, tt)

  pub entry_each : (k : ℕ) (event : DiskEvent) → P (OfLane k event) → EachEntry P (entry_of k event)
  entry_each k event has = entry_has P (disk_kind.is_silent event) (OfLane k event) has

  pub port_entry_each : (k : ℕ) (event : SwitchEvent) → P (OfPort k event) → EachEntry P (if is_silent event then [] else OfPort k event ∷ [])
  port_entry_each k event has = entry_has P (is_silent event) (OfPort k event) has

  -- STEPS
  module _ (steps : StepsHave P) where
    of_step : (lane : LaneName) (side : End) (entry : SettleEntry) → IsStepOf lane side entry → P entry
    of_step (DiskLane k) side (OfLane j event) is = steps.of_disk j side event is.1
    of_step (PortLane k) side (OfPort j event) is = steps.of_port j side event is.1
    of_step _ side _ is = absurd is

    pub steps_each : (turns : List EndTurn) (part : List SettleEntry) → AreSteps turns part → EachEntry P part
    steps_each [] [] are = tt
    steps_each (next ∷ turns) (entry ∷ part) are = (of_step next.lane next.side entry are.0, steps_each turns part are.1)
    steps_each [] (entry ∷ part) are = absurd are
    steps_each (next ∷ turns) [] are = absurd are

    disk_step : (k : ℕ) (event : DiskEvent) → disk_kind.IsStep event → P (OfLane k event)
    disk_step k event own = steps.of_disk k own.0 event own.1

    port_step : (k : ℕ) (event : SwitchEvent) → ports.IsStep event → P (OfPort k event)
    port_step k event own = steps.of_port k own.0 event own.1

    -- a round, and a front of one, of disks and of ports
    pub disks_each : (w : List LaneState) (rounds : List LaneRound) (v : List LaneState) → MakeRound disk_kind w rounds v → EachEntry P (disks.leaves rounds)
    disks_each w rounds v made = lanes_each P disk_kind disk_entries disk_laws.turn_steps disk_step w rounds v made

    pub ports_each : (w : List PortState) (turns : List (List SwitchEvent)) (v : List PortState) → MakeRound ports w turns v → EachEntry P (switch.leaves turns)
    ports_each w turns v made = lanes_each P ports port_entries turn_steps port_step w turns v made

    pub disks_begun : (w : List LaneState) (part : List SettleEntry) (v : List LaneState) → RoundFront disk_kind disk_entries w part v → EachEntry P part
    disks_begun w part v front = front_each P disk_kind disk_entries disk_laws.turn_steps disk_step w part v front

    pub ports_begun : (w : List PortState) (part : List SettleEntry) (v : List PortState) → RoundFront ports port_entries w part v → EachEntry P part
    ports_begun w part v front = front_each P ports port_entries turn_steps port_step w part v front

    -- AND TICKS
    module _ (ticks : TicksHave P) where
      -- A SETTLE, which leaves the lanes as many
      module _ (n m : ℕ) where
        abbrev Over : Lanes → List SettleEntry → Lanes → Type 0
        Over = HaveEach (AreSoMany n m) P

        disks_have : Leads disks (HaveEach (SoManyDisks n) P)
        disks_have = lanes_have P disk_kind disk_entries n event_at disk_reads disk_silent disk_laws.turn_steps disk_step (λ k s. ticks.of_disk k)

        ports_have : Leads switch (HaveEach (SoManyPorts m) P)
        ports_have = lanes_have P ports port_entries m port_said port_reads silence turn_steps port_step ticks.of_port

        leads : Leads lanes Over
        leads = both_kinds P disks switch (SoManyDisks n) (SoManyPorts m) disks_have ports_have

        fronts_lead : FrontsLead lanes fronts Over
        fronts_lead =
            both_fronts_have P disks switch (SoManyDisks n) (SoManyPorts m) disks_have ports_have disk_fronts (fronts_of ports port_entries)
            (fronts_have P disk_kind disk_entries n event_at disk_reads disk_silent disk_laws.turn_steps disk_step (λ k s. ticks.of_disk k))
            (fronts_have P ports port_entries m port_said port_reads silence turn_steps port_step ticks.of_port)

      -- rounds that were made, a settle before its answer, and a front that didn't run out of rounds
      pub rounds_each : (w : AllSettling) (rounds : List AllRound) (v : AllSettling) → Run (GoesOn lanes) w rounds v → EachEntry P (entries_of_rounds rounds)
      rounds_each w rounds v run =
          let n = length w.lanes.first in
          let m = length w.lanes.second in
          (rounds_lead lanes (Over n m) (leads n m) w rounds v run (as_many w.lanes)).0

      pub settled_each : (start : Lanes) (part : List SettleEntry) (behind : Lanes) (at : Settles lanes start part behind) → EachEntry P (entries_of_rounds at.rounds ++ lanes.leaves at.steps)
      settled_each start part behind at =
          let n = length start.first in
          let m = length start.second in
          (steps_lead lanes (Over n m) (leads n m) start part behind at (as_many start)).0

      pub few_each : (start : Lanes) (part : List SettleEntry) (behind : Lanes) (at : SettleFront lanes fronts start part behind) → length at.rounds < most_rounds lanes start → EachEntry P part
      few_each start part behind at few =
          let n = length start.first in
          let m = length start.second in
          (few_lead lanes (Over n m) (leads n m) fronts (fronts_lead n m) start part behind at few (as_many start)).0

      -- with its answer, and with names of these lanes
      module _ (n m : ℕ) (names : NamesHave P n m) where
        ends : AnswersLead lanes (Over n m)
        ends =
            both_ends_have P disks switch (SoManyDisks n) (SoManyPorts m) (ends_have P disk_kind disk_entries n names.of_disk names.answer)
            (ends_have P ports port_entries m names.of_port names.answer)

        -- A LINE, by what may come of what it asks, and of the calls of this line
        pub line_each : AnswersHave P → (line : Line) → CallsHave P line → (w : Lanes) (part : List SettleEntry) (behind : Lanes) → AreSoMany n m w → PartOf line w part behind
            → EachEntry P part
        line_each asked Nothing called w part behind many is = each_as part [] is tt
        line_each asked (Asked k request) called w part behind many one = one_each k (AnswersRequest request) part (asked.request k request) one
        line_each asked (Sends k frame) called w part behind many one = one_port_each k (AnswersFrame frame) part (asked.frame k frame) one
        line_each asked (Joins k address) called w part behind many one = one_port_each k (AnswersGroup address) part (asked.group k address) one
        line_each asked (Steps lane e count) called w part behind many are = steps_each (replicate count (turn lane e)) part are
        line_each asked (Rounds count) called w part behind many are = steps_each (turns_of count w) part are
        line_each asked script.Settles called w part behind many settle = (part_leads lanes (Over n m) (leads n m) ends w part behind settle many).0
        line_each asked (Calls lane call) called w part behind many one =
            by_answer (EachEntry P) lane call part (λ k event is answers. (called.of_disk k call event (ap (λ (x : LaneName). Calls x call) is) answers, tt))
            (λ k event is answers. (called.of_port k call event (ap (λ (x : LaneName). Calls x call) is) answers, tt)) one

        pub begins_each : (line : Line) (w : Lanes) (part : List SettleEntry) (behind : Lanes) → AreSoMany n m w → BeginsPart line w part behind → EachEntry P part
        begins_each (Steps lane e count) w part behind many first = steps_each first.made part first.steps
        begins_each (Rounds count) w part behind many first = steps_each first.made part first.steps
        begins_each script.Settles w part behind many front = (front_leads lanes (Over n m) (leads n m) fronts (fronts_lead n m) ends w part behind front many).0
        begins_each Nothing w part behind many is = each_as part [] is tt
        begins_each (Asked k request) w part behind many is = each_as part [] is tt
        begins_each (Sends k frame) w part behind many is = each_as part [] is tt
        begins_each (Joins k address) w part behind many is = each_as part [] is tt
        begins_each (Calls lane call) w part behind many is = each_as part [] is tt
