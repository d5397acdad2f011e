-- A line that is for one lane has entries of that lane alone, and leaves all others.
use Rattle.std.proofs.Common.{◌≡◌, ◌≢◌, ℕ, zero, suc, Bool, true, false, Option, Some, List, [], ◌∷◌, ◌++◌, replicate, slice_get, refl, sym, ap, ◌∙◌, subst, append-nil, append_assoc}
use Rattle.std.proofs.lemmas.Bool.{eqb-true}
use Rattle.std.specs.Int.{bit_at}
use Rattle.std.specs.Prelude.{◌==◌, if◌then◌else◌}
use Rattle.runs.specs.Run.{Run, run_push, run_split}
use Rattle.disk_law.specs.ListState.{ImageState}
use Rattle.lane_models.specs.DiskEvent.{DiskEvent}
use Rattle.lane_models.specs.LaneState.{Shape}
use Rattle.lane_kinds.proofs.EntriesEach.{first_each}
use Rattle.lane_kinds.specs.Lanes.{EachOf, own_or}
use Rattle.ldc_queue.specs.declared.end.End.{End}
use Rattle.lane_models.specs.NetLaneState.{NetShape}
use Rattle.lane_models.specs.PortState.{PortState}
use Rattle.switch_laws.specs.Events.{OnPort, SwitchEvent, SwitchStep, Switched}
use Rattle.switch_laws.specs.Ports.{gets, gift}
use Rattle.world_laws.proofs.BehindDisks.{world_around}
use Rattle.world_laws.proofs.LaneStores.{all_stays}
use Rattle.world_laws.specs.Settle.{OfLane, OfPort, SettleEntry}
use Rattle.world_laws.specs.Stays.{StaysAround}
use Rattle.world_laws.specs.World.{IsWorld, WorldState, WorldStep, fresh_world}
use Rattle.domain_laws.proofs.Isolating.{disk_part, port_part}
use Rattle.domain_laws.proofs.LineEntries.{EachEntry, by_answer, each_as, one_each, one_port_each}
use Rattle.domain_laws.proofs.Running.{disks_run, port_moved, ports_many, ports_run}
use Rattle.domain_laws.proofs.ScriptEntries.{lines_run}
use Rattle.domain_laws.specs.Along.{IsOfDisk, IsOfPort, OnlyDisk, port_happened, port_said}
use Rattle.domain_laws.specs.Domain.{DomainState, DomainStep, Lanes, PortsStep, fresh_domain, lanes_in}
use Rattle.domain_laws.specs.Frames.{frames_put, put_in}
use Rattle.domain_laws.specs.Isolation.{IsFor, OnlyPortPart}
use Rattle.domain_laws.specs.Lines.{AnswersFrame, AnswersGroup, AnswersRequest, AreFirstSteps, AreSteps, Asked, BeginsPart, Calls, DiskLane, EndTurn, IsStepOf, Joins, LaneName, Line, LineBegins, LineMoves, LineStep, Nothing, PartOf, PortLane, Rounds, Sends, Settles, Steps, entries_of_lines, turn}

-- AN ENTRY of the lane
abbrev IsOfPortLane : LaneName → SettleEntry → Type 0
IsOfPortLane (PortLane k) entry = IsOfPort k entry
IsOfPortLane lane entry = ⊥

abbrev pub IsOf : LaneName → SettleEntry → Type 0
IsOf (DiskLane k) entry = IsOfDisk k entry
IsOf lane entry = IsOfPortLane lane entry

own_event : (lane : LaneName) (k : ℕ) (event : DiskEvent) → DiskLane k ≡ lane → IsOf lane (OfLane k event)
own_event lane k event same = subst (λ (x : LaneName). IsOf x (OfLane k event)) same refl

own_port_event : (lane : LaneName) (k : ℕ) (event : SwitchEvent) → PortLane k ≡ lane → IsOf lane (OfPort k event)
own_port_event lane k event same = subst (λ (x : LaneName). IsOf x (OfPort k event)) same refl

own_step : (lane : LaneName) (side : End) (entry : SettleEntry) → IsStepOf lane side entry → IsOf lane entry
own_step (DiskLane k) side (OfLane j event) is = is.0
own_step (PortLane k) side (OfPort j event) is = is.0
own_step _ side _ is = absurd is

-- TURNS of the lane
abbrev AreOf : LaneName → List EndTurn → Type 0
AreOf lane turns = EachOf (λ (next : EndTurn). next.lane ≡ lane) turns

own_steps : (lane : LaneName) (turns : List EndTurn) (part : List SettleEntry) → AreOf lane turns → AreSteps turns part → EachEntry (IsOf lane) part
own_steps lane [] [] own are = tt
own_steps lane (next ∷ turns) (entry ∷ part) own are =
    (subst (λ (x : LaneName). IsOf x entry) own.0 (own_step next.lane next.side entry are.0), own_steps lane turns part own.1 are.1)
own_steps lane [] (entry ∷ part) own are = absurd are
own_steps lane (next ∷ turns) [] own are = absurd are

own_turns : (lane other : LaneName) (e : End) (count : ℕ) → other ≡ lane → AreOf lane (replicate count (turn other e))
own_turns lane other e zero same = tt
own_turns lane other e (suc count) same = (same, own_turns lane other e count same)

first_steps : (lane other : LaneName) (e : End) (count : ℕ) (part : List SettleEntry) → other ≡ lane → AreFirstSteps (replicate count (turn other e)) part → EachEntry (IsOf lane) part
first_steps lane other e count part same first =
    own_steps lane first.made part
    (first_each (λ (next : EndTurn). next.lane ≡ lane) first.made first.left (subst (AreOf lane) first.turns_are (own_turns lane other e count same))) first.steps

-- THE PART of such a line has entries of that lane alone, and so has a front of it
entries_of : (lane : LaneName) (line : Line) (w : Lanes) (part : List SettleEntry) (behind : Lanes) → IsFor lane line → PartOf line w part behind → EachEntry (IsOf lane) part
entries_of lane (Asked k request) w part behind same one = one_each (IsOf lane) k (AnswersRequest request) part (λ event answers. own_event lane k event same) one
entries_of lane (Sends k frame) w part behind same one = one_port_each (IsOf lane) k (AnswersFrame frame) part (λ event answers. own_port_event lane k event same) one
entries_of lane (Joins k address) w part behind same one = one_port_each (IsOf lane) k (AnswersGroup address) part (λ event answers. own_port_event lane k event same) one
entries_of lane (Steps other e count) w part behind same are = own_steps lane (replicate count (turn other e)) part (own_turns lane other e count same) are
entries_of lane (Calls other call) w part behind same one =
    by_answer (EachEntry (IsOf lane)) other call part (λ k event is answers. (own_event lane k event (sym is ∙ same), tt))
    (λ k event is answers. (own_port_event lane k event (sym is ∙ same), tt)) one
entries_of lane Nothing w part behind same is = absurd same
entries_of lane (Rounds count) w part behind same is = absurd same
entries_of lane Settles w part behind same is = absurd same

begun_of : (lane : LaneName) (line : Line) (w : Lanes) (part : List SettleEntry) (behind : Lanes) → IsFor lane line → BeginsPart line w part behind → EachEntry (IsOf lane) part
begun_of lane (Asked k request) w part behind same is = each_as (IsOf lane) part [] is tt
begun_of lane (Sends k frame) w part behind same is = each_as (IsOf lane) part [] is tt
begun_of lane (Joins k address) w part behind same is = each_as (IsOf lane) part [] is tt
begun_of lane (Steps other e count) w part behind same first = first_steps lane other e count part same first
begun_of lane (Calls other call) w part behind same is = each_as (IsOf lane) part [] is tt
begun_of lane Nothing w part behind same is = absurd same
begun_of lane (Rounds count) w part behind same is = absurd same
begun_of lane Settles w part behind same is = absurd same

-- FRAMES that stand last in the out queue of another port
none_got : (s t : PortState) → s ≡ t → t ≡ record s { queue = s.queue ++ [] }
none_got s t same = sym same ∙ ap (λ (q : List (List ℕ)). record s { queue = q }) (sym (append-nil s.queue))

gift_got : (c : Bool) (frame : List ℕ) (s t : PortState) → Run SwitchStep s (gift c frame) t → t ≡ record s { queue = s.queue ++ (if c then frame ∷ [] else []) }
gift_got true frame s t run = sym run.2 ∙ run.1.1.2
gift_got false frame s t run = none_got s t run

event_got : (j : ℕ) (event : SwitchEvent) (s t : PortState) → Run SwitchStep s (gets j event) t → t ≡ record s { queue = s.queue ++ put_in j event }
event_got j (Switched frame out full) s t run = gift_got (bit_at out j == 1) frame s t run
event_got j (OnPort event) s t run = none_got s t run

gifts_alone : (c : Bool) (event : SwitchEvent) (gifts : List SwitchEvent) → (c ≡ true → ⊥) → own_or c event gifts ≡ gifts
gifts_alone true event gifts other = absurd (other refl)
gifts_alone false event gifts other = refl

part_got : (k j : ℕ) (part : List SettleEntry) (s t : PortState) → j ≢ k → EachEntry (IsOfPort k) part → Run SwitchStep s (port_happened j part) t
    → t ≡ record s { queue = s.queue ++ frames_put j part }
part_got k j [] s t other own run = none_got s t run
part_got k j (OfPort i event ∷ part) s t other own run =
    let split = run_split SwitchStep s t (port_said j (OfPort i event)) (port_happened j part) run in
    let m : PortState = split.0 in
    let alone : own_or (j == i) event (gets j event) ≡ gets j event = gifts_alone (j == i) event (gets j event) (λ same. other (eqb-true j i same ∙ own.0)) in
    let one : m ≡ record s { queue = s.queue ++ put_in j event } = event_got j event s m (subst (λ (l : List SwitchEvent). Run SwitchStep s l m) alone split.1) in
    let rest : t ≡ record m { queue = m.queue ++ frames_put j part } = part_got k j part m t other own.1 split.2 in
    rest ∙ ap (λ (x : PortState). record x { queue = x.queue ++ frames_put j part }) one
    ∙ ap (λ (q : List (List ℕ)). record s { queue = q }) (append_assoc s.queue (put_in j event) (frames_put j part))
part_got k j (_ ∷ part) s t other own run = absurd own.0

only_port_part : (k : ℕ) (part : List SettleEntry) (w v : DomainState) → EachEntry (IsOfPort k) part → Run DomainStep w part v → OnlyPortPart k part w v
only_port_part k part w v own run =
    let ports : Run PortsStep w.second part v.second = ports_run w part v run in
    record {
      disks_stay = port_part k part w v own run;
      many = ports_many w.second part v.second ports;
      others = λ j s t other there after. part_got k j part s t other own (port_moved w.second part v.second j s t ports there after);
    }

-- A LINE, and a front of one
pub disk_line : (w : DomainState) (line : Line) (part : List SettleEntry) (v : DomainState) (k : ℕ) → IsFor (DiskLane k) line → LineMoves w line part v → OnlyDisk k w v
disk_line w line part v k own moves = disk_part k part w v (entries_of (DiskLane k) line (lanes_in w) part (lanes_in v) own moves.part_of) moves.run

pub disk_begun : (w : DomainState) (line : Line) (part : List SettleEntry) (v : DomainState) (k : ℕ) → IsFor (DiskLane k) line → LineBegins w line part v → OnlyDisk k w v
disk_begun w line part v k own begun = disk_part k part w v (begun_of (DiskLane k) line (lanes_in w) part (lanes_in v) own begun.begins) begun.run

pub port_line : (w : DomainState) (line : Line) (part : List SettleEntry) (v : DomainState) (k : ℕ) → IsFor (PortLane k) line → LineMoves w line part v → OnlyPortPart k part w v
port_line w line part v k own moves = only_port_part k part w v (entries_of (PortLane k) line (lanes_in w) part (lanes_in v) own moves.part_of) moves.run

pub port_begun : (w : DomainState) (line : Line) (part : List SettleEntry) (v : DomainState) (k : ℕ) → IsFor (PortLane k) line → LineBegins w line part v → OnlyPortPart k part w v
port_begun w line part v k own begun = only_port_part k part w v (begun_of (PortLane k) line (lanes_in w) part (lanes_in v) own begun.begins) begun.run

-- AROUND ITS REGION the image stays
both_around : (shape : Shape) (store : List ℕ) (told now : Option (List ℕ)) → (first : StaysAround shape store told) → StaysAround shape first.now now → StaysAround shape store now
both_around shape store told now first second = record {
  now = second.now;
  told_is = second.told_is;
  long = second.long ∙ first.long;
  around = record {
    before = second.around.before ∙ first.around.before;
    behind = second.around.behind ∙ first.around.behind;
  };
}

module _ (shapes : List Shape) (image : ImageState) (nets : List NetShape) (first : List ℕ) (world : IsWorld shapes image) (is_told : image.told ≡ Some first) where
  entries_around : (k : ℕ) (shape : Shape) → slice_get shapes k ≡ Some shape → (past : List SettleEntry) (w : WorldState) (store : List ℕ) (entries : List SettleEntry) (v : WorldState)
      → Run WorldStep (fresh_world shapes image) past w → w.image.told ≡ Some store → EachEntry (IsOfDisk k) entries → Run WorldStep w entries v → StaysAround shape store v.image.told
  entries_around k shape there past w store [] v before now each run = all_stays shape store v.image.told (ap (λ (x : WorldState). x.image.told) (sym run) ∙ now)
  entries_around k shape there past w store (OfLane j event ∷ entries) v before now each run =
      let own : slice_get shapes j ≡ Some shape = subst (λ (n : ℕ). slice_get shapes n ≡ Some shape) (sym each.0) there in
      let one : StaysAround shape store run.0.image.told = world_around shapes image first store past w j event run.0 shape world is_told before run.1 own now in
      both_around shape store run.0.image.told v.image.told one
      (entries_around k shape there (past ++ OfLane j event ∷ []) run.0 one.now entries v
      (run_push WorldStep (fresh_world shapes image) w run.0 past (OfLane j event) before run.1) one.told_is each.1 run.2)
  entries_around k shape there past w store (_ ∷ entries) v before now each run = absurd each.0

  own_around : (lines : List (Line × List SettleEntry)) (w : DomainState) (part : List SettleEntry) (v : DomainState) (k : ℕ) (shape : Shape) (store : List ℕ)
      → Run LineStep (fresh_domain shapes image nets) lines w → Run DomainStep w part v → EachEntry (IsOfDisk k) part → slice_get shapes k ≡ Some shape → w.first.image.told ≡ Some store
      → StaysAround shape store v.first.image.told
  own_around lines w part v k shape store run moves own there now =
      let start = fresh_domain shapes image nets in
      entries_around k shape there (entries_of_lines lines) w.first store part v.first (disks_run start (entries_of_lines lines) w (lines_run start lines w run)) now own
      (disks_run w part v moves)

  pub line_around : (lines : List (Line × List SettleEntry)) (w : DomainState) (line : Line) (part : List SettleEntry) (v : DomainState) (k : ℕ) (shape : Shape) (store : List ℕ)
      → Run LineStep (fresh_domain shapes image nets) lines w → LineMoves w line part v → IsFor (DiskLane k) line → slice_get shapes k ≡ Some shape → w.first.image.told ≡ Some store
      → StaysAround shape store v.first.image.told
  line_around lines w line part v k shape store run moves own there now =
      own_around lines w part v k shape store run moves.run (entries_of (DiskLane k) line (lanes_in w) part (lanes_in v) own moves.part_of) there now

  pub begun_around : (lines : List (Line × List SettleEntry)) (w : DomainState) (line : Line) (part : List SettleEntry) (v : DomainState) (k : ℕ) (shape : Shape) (store : List ℕ)
      → Run LineStep (fresh_domain shapes image nets) lines w → LineBegins w line part v → IsFor (DiskLane k) line → slice_get shapes k ≡ Some shape → w.first.image.told ≡ Some store
      → StaysAround shape store v.first.image.told
  begun_around lines w line part v k shape store run begun own there now =
      own_around lines w part v k shape store run begun.run (begun_of (DiskLane k) line (lanes_in w) part (lanes_in v) own begun.begins) there now
