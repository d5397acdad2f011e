-- Quiet lines one after another over a world of one disk and no port: what they show, and where they lead, is the plain list's.
use Rattle.std.proofs.Common.{◌≡◌, ℕ, List, [], ◌∷◌, ◌++◌, length, refl, sym, ap, ◌∙◌, subst}
use Rattle.runs.specs.Run.{Run}
use Rattle.disk_law.specs.ListState.{ImageState}
use Rattle.lane_models.specs.DiskEvent.{Accepted, Asks, DiskEvent, Full, Refused}
use Rattle.lane_models.specs.LaneState.{LaneState, Shape}
use Rattle.lane_kinds.proofs.NoneBeside.{IsNone, empty, first_part, list_none}
use Rattle.lane_kinds.specs.Settles as settle
use Rattle.lane_models.specs.PortState.{PortState}
use Rattle.switch_laws.specs.Ports.{ports}
use Rattle.vdisk_msg.specs.declared.request.Request.{Request}
use Rattle.world_laws.proofs.NoFaults.{part_before}
use Rattle.world_laws.proofs.PlainAsked.{Answered, accepted_answer, answered_plain, full_answer, refused_answer, stands_at}
use Rattle.world_laws.proofs.PlainSettle.{LaneOne, RestsAt, lane_one, settle_plain}
use Rattle.world_laws.proofs.PlainWorld.{fresh_rests, plain_world}
use Rattle.world_laws.proofs.Regions.{IsFirstShape}
use Rattle.world_laws.proofs.Undisturbed.{Stands}
use Rattle.world_laws.specs.Plain.{Plain, untouched}
use Rattle.world_laws.specs.Quiet.{IsAtFront}
use Rattle.world_laws.specs.Settle.{OfLane, SettleEntry, SettlePart, disks}
use Rattle.world_laws.specs.Shown.{shown}
use Rattle.world_laws.specs.World.{LaneMoves, OneMoves, WorldState, WorldStep}
use Rattle.domain_laws.specs.Domain.{DomainState, DomainStep, fresh_domain, lanes, lanes_in, port_entries, switch}
use Rattle.domain_laws.specs.Lines.{AnswersRequest, Asked, Line, LineMoves, LineStep, Nothing, Settles}
use Rattle.domain_laws.specs.PlainLines.{plain_journal, plain_line, plain_run, plain_shows}
use Rattle.domain_laws.specs.Quiet.{AreQuiet, IsQuiet, RunsPlainly, RunsQuietly, lines_of, shown_of}
use Rattle.domain_laws.proofs.Running.{disks_run, ports_many, ports_run}

-- WHERE THERE IS NO PORT there is none behind any part, and a settle is one of the disks
still_none : (w : DomainState) (part : List SettleEntry) (v : DomainState) → w.second ≡ [] → Run DomainStep w part v → v.second ≡ []
still_none w part v none run = empty v.second (ports_many w.second part v.second (ports_run w part v run) ∙ ap (λ (l : List PortState). length l) none)

pub disks_settle : (w : DomainState) (part : List SettleEntry) (v : DomainState) → w.second ≡ [] → settle.SettlePart lanes (lanes_in w) part (lanes_in v) → SettlePart w.first.lanes part v.first.lanes
disks_settle w part v none settle = first_part disks switch (IsNone ports port_entries) (list_none ports port_entries) (lanes_in w) part (lanes_in v) none settle

-- THE PLAIN LIST beside a world without a port
record PlainBeside (shape : Shape) (p : Plain) (w : DomainState) : Type 0 where
  at : RestsAt shape p w.first
  none : w.second ≡ []

record LineIsPlain (shape : Shape) (p : Plain) (line : Line) (part : List SettleEntry) (v : DomainState) : Type 0 where
  shows : shown part ≡ plain_shows shape p line
  rests : PlainBeside shape (plain_line shape p line) v

-- A LINE that does nothing
nothing_line : (shape : Shape) (p : Plain) (w : DomainState) (part : List SettleEntry) (v : DomainState) → PlainBeside shape p w → LineMoves w Nothing part v → LineIsPlain shape p Nothing part v
nothing_line shape p w part v rests moves =
    let same : w ≡ v = subst (λ (xs : List SettleEntry). Run DomainStep w xs v) moves.part_of moves.run in
    record { shows = ap shown moves.part_of; rests = subst (PlainBeside shape p) same rests }

-- ONE THAT ASKS: each answer leaves the image
record AnsweredOver (shape : Shape) (p : Plain) (request : Request) (event : DiskEvent) (t : LaneState) (i j : ImageState) : Type 0 where
  answered : Answered shape p request event t
  image : j ≡ i

each_answer : (shape : Shape) (p : Plain) (s : LaneState) (request : Request) (event : DiskEvent) (t : LaneState) (i j : ImageState) → IsFirstShape shape → Stands shape p s p.content
    → AnswersRequest request event → LaneMoves s i event t j → AnsweredOver shape p request event t i j
each_answer shape p s request (Asks (Accepted id same)) t i j front stands answers moves = record {
  answered = subst (λ (r : Request). Answered shape p r (Asks (Accepted id same)) t) answers (accepted_answer shape p s id same t front stands moves.0);
  image = moves.1;
}
each_answer shape p s request (Asks (Full same)) t i j front stands answers moves = record {
  answered = subst (λ (r : Request). Answered shape p r (Asks (Full same)) t) answers (full_answer shape p s same t front stands moves.0);
  image = moves.1;
}
each_answer shape p s request (Asks (Refused why same)) t i j front stands answers moves = record {
  answered = subst (λ (r : Request). Answered shape p r (Asks (Refused why same)) t) answers (refused_answer shape p s why same t front stands moves.0);
  image = moves.1;
}
each_answer shape p s request _ t i j front stands answers moves = absurd answers

one_entry : (w : WorldState) (event : DiskEvent) (v : WorldState) → Run WorldStep w (OfLane 0 event ∷ []) v → OneMoves w 0 event v
one_entry w event v run = subst (OneMoves w 0 event) run.2 run.1

asked_line : (shape : Shape) (p : Plain) (w : DomainState) (request : Request) (part : List SettleEntry) (v : DomainState) → IsFirstShape shape → PlainBeside shape p w
    → LineMoves w (Asked 0 request) part v → LineIsPlain shape p (Asked 0 request) part v
asked_line shape p w request part v front rests moves =
    let entry = moves.part_of in
    let s = rests.at.beside.lane in
    let run : Run WorldStep w.first (OfLane 0 entry.event ∷ []) v.first = subst (λ (xs : List SettleEntry). Run WorldStep w.first xs v.first) entry.is (disks_run w part v moves.run) in
    let one : LaneOne s w.first entry.event v.first = lane_one s w.first 0 entry.event v.first rests.at.beside.lanes refl (one_entry w.first entry.event v.first run) in
    let all : AnsweredOver shape p request entry.event one.behind w.first.image v.first.image =
    each_answer shape p s request entry.event one.behind w.first.image v.first.image front (stands_at shape p w.first rests.at) entry.answers one.moves in
    let plain = answered_plain shape p w.first request entry.event v.first rests.at one all.image all.answered in
    record { shows = ap shown entry.is ∙ plain.shows; rests = record { at = plain.rests; none = still_none w part v rests.none moves.run } }

-- EACH QUIET LINE
settles_line : (shape : Shape) (p : Plain) (w : DomainState) (part : List SettleEntry) (v : DomainState) → IsFirstShape shape → PlainBeside shape p w → LineMoves w Settles part v
    → v.first.image.faults ≡ 0 → LineIsPlain shape p Settles part v
settles_line shape p w part v front rests moves well =
    let plain = settle_plain shape p w.first part v.first front rests.at (disks_settle w part v rests.none moves.part_of) (disks_run w part v moves.run) well in
    record { shows = plain.shows; rests = record { at = plain.rests; none = still_none w part v rests.none moves.run } }

quiet_line : (shape : Shape) (p : Plain) (w : DomainState) (line : Line) (part : List SettleEntry) (v : DomainState) → IsFirstShape shape → PlainBeside shape p w → IsQuiet line
    → LineMoves w line part v → v.first.image.faults ≡ 0 → LineIsPlain shape p line part v
quiet_line shape p w Nothing part v front rests quiet moves well = nothing_line shape p w part v rests moves
quiet_line shape p w (Asked k request) part v front rests quiet moves well =
    let zeroth : LineMoves w (Asked 0 request) part v = subst (λ (n : ℕ). LineMoves w (Asked n request) part v) quiet moves in
    subst (λ (n : ℕ). LineIsPlain shape p (Asked n request) part v) (sym quiet) (asked_line shape p w request part v front rests zeroth)
quiet_line shape p w Settles part v front rests quiet moves well = settles_line shape p w part v front rests moves well
quiet_line shape p w _ part v front rests quiet moves well = absurd quiet

-- LINES one after another
record LinesArePlain (shape : Shape) (p : Plain) (lines : List (Line × List SettleEntry)) (v : DomainState) : Type 0 where
  shows : shown_of lines ≡ plain_journal shape p (lines_of lines)
  rests : PlainBeside shape (plain_run shape p (lines_of lines)) v

joined : (one two three four : List SettleEntry) → one ≡ two → three ≡ four → one ++ three ≡ two ++ four
joined one two three four first second = ap (λ (xs : List SettleEntry). xs ++ three) first ∙ ap (λ (xs : List SettleEntry). two ++ xs) second

-- an image without faults at the end had none before
pub lines_before : (w : DomainState) (lines : List (Line × List SettleEntry)) (v : DomainState) → Run LineStep w lines v → v.first.image.faults ≡ 0 → w.first.image.faults ≡ 0
lines_before w [] v run none = ap (λ (x : DomainState). x.first.image.faults) run ∙ none
lines_before w (line ∷ lines) v run none = part_before w.first line.1 run.0.first (disks_run w line.1 run.0 run.1.run) (lines_before run.0 lines v run.2 none)

lines_plain : (shape : Shape) (p : Plain) (w : DomainState) (lines : List (Line × List SettleEntry)) (v : DomainState) → IsFirstShape shape → PlainBeside shape p w → AreQuiet (lines_of lines)
    → Run LineStep w lines v → v.first.image.faults ≡ 0 → LinesArePlain shape p lines v
lines_plain shape p w [] v front rests quiet run well = record { shows = refl; rests = subst (PlainBeside shape p) run rests }
lines_plain shape p w (line ∷ lines) v front rests quiet run well =
    let still : run.0.first.image.faults ≡ 0 = lines_before run.0 lines v run.2 well in
    let first : LineIsPlain shape p line.0 line.1 run.0 = quiet_line shape p w line.0 line.1 run.0 front rests quiet.0 run.1 still in
    let rest : LinesArePlain shape (plain_line shape p line.0) lines v = lines_plain shape (plain_line shape p line.0) run.0 lines v front first.rests quiet.1 run.2 well in
    record {
      shows = joined (shown line.1) (plain_shows shape p line.0) (shown_of lines) (plain_journal shape (plain_line shape p line.0) (lines_of lines)) first.shows rest.shows;
      rests = rest.rests;
    }

pub quiet_lines : (shape : Shape) (image : ImageState) (first : List ℕ) (lines : List (Line × List SettleEntry)) (w : DomainState) → IsAtFront shape image first
    → RunsQuietly shape image lines w → RunsPlainly shape first lines w
quiet_lines shape image first lines w front runs =
    let disk : IsFirstShape shape = record { sound = front.sound; place = front.place } in
    let all : LinesArePlain shape (untouched first) lines w =
    lines_plain shape (untouched first) (fresh_domain (shape ∷ []) image []) lines w disk (record { at = fresh_rests shape image first front; none = refl }) runs.quiet runs.run runs.well in
    record { shows = all.shows; ends = plain_world shape (plain_run shape (untouched first) (lines_of lines)) w.first disk all.rests.at; no_port = all.rests.none }
