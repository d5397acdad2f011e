-- A whole run, put together from its declarations and its other lines.
use Rattle.std.proofs.Common.{◌≡◌, ◌≢◌, inl, inr, ℕ, ◌+◌, ◌<◌, Bool, true, false, List, [], ◌∷◌, ◌++◌, length, refl, sym, ◌∙◌, ap, subst, length-append, arith, Option, Some, None, IsTrue, ◌↔◌}
use Rattle.std.specs.Io.KnownBytes.{IsAtEnd, Keeps, prepend_known}
use Rattle.runs.specs.Run.{Run, run_append, run_push}
use Rattle.vio_io.specs.declared.host.AttachFault.{AttachFault}
use Rattle.vio_io.specs.declared.host.AttachFault.TheVariants.{Failed, Memory}
use Rattle.disk_law.specs.ListState.{ImageState}
use Rattle.domain_script.specs.declared.event.Event.{Event}
use Rattle.script_reader.specs.declared.lines.LinesStop.TheVariants.{Going}
use Rattle.script_reader.specs.LinesState.{AllFed, LinesState, to_come}
use Rattle.domain_script.specs.Declarations.{Declared}
use Rattle.domain_script.specs.NamesState.{NamesState, declared_by, noted}
use Rattle.domain_script.proofs.ScriptLemmas.{taken-append}
use Rattle.domain_script.proofs.Spelling.{declared_first, port_declared_first}
use Rattle.ldom_entries.specs.declared.entry.Entry.{Entry}
use Rattle.ldom_report.specs.declared.status.Status.{Status}
use Rattle.ldom_report.specs.declared.status.Status.TheVariants as status
use Rattle.world_parts.specs.Endings.{EndsSo, JournalIs, ending}
use Rattle.script_laws.specs.Going.{RunAt, RunsAll, RunsLines, run_at}
use Rattle.ldom_report.specs.Stops.{IsReaders}
use Rattle.script_laws.specs.Attached.{AreOpening, AttachesAt, ImageStands, IsCutOff, is_opening}
use Rattle.script_laws.specs.Behind.{StandsBehind}
use Rattle.script_laws.specs.Opening.{OpensOrStops, Opens, OpensAndStops}
use Rattle.world_parts.specs.Lines.{EventStep, line_of}
use Rattle.world_parts.specs.Parts.{Fits, FitsSoFar}
use Rattle.ldom_report.specs.LinesEnd.{counted_lines}
use Rattle.script_laws.specs.Reading.{IsDeclaredOut, StopsAt}
use Rattle.script_laws.specs.Replayed.{FaultsAre, Replayed, Stopped, attach_status, ended_status, start_of}
use Rattle.script_laws.specs.LanesStand.{LanesStand}
use Rattle.script_laws.specs.Script.{ReadSoFar}
use Rattle.domain_script.specs.ScriptEvents.{AllSpell, no_names}
use Rattle.world_parts.specs.Script.{BeginBelow, FitsScript, ScriptParts, entries_in, events_in, events_of, journal_of}
use Rattle.world_parts.specs.domain_laws.Domain.{DomainState, Lanes, lanes_in}
use Rattle.script_reader.proofs.FedLines.{fed_both}
use Rattle.script_laws.proofs.LineCases.{none_begun, noted_disks, noted_ports, silent, stays_ended}
use Rattle.script_laws.proofs.LineLists.{all_behind, behind_ends, behind_lines, below_both, below_push, by_readers, entries_push, events_behind, events_both, journal_behind, whole_ends}
use Rattle.script_laws.proofs.ReadLemmas.{opening_halves, other_line, read_none}
use Rattle.script_laws.proofs.RunLemmas.{keeps_same, line_starts, line_step}

spell_append : (xs ys : List (List ℕ)) (a b c : NamesState) (es fs : List Event) → AllSpell xs a es b → AllSpell ys b fs c → AllSpell (xs ++ ys) a (es ++ fs) c
spell_append (x ∷ xs) ys a b c (e ∷ es) fs first second = (first.0, spell_append xs ys (noted a e) b c es fs first.1 second)
spell_append xs ys a b c es fs first second = grind arith

-- after the declarations no disk is declared
same_disks : (texts : List (List ℕ)) (before after : NamesState) (events : List Event) → before.ended ≡ true → AllSpell texts before events after
    → after.disks ≡ before.disks
same_disks (x ∷ xs) before after (e ∷ es) ended spell =
    grind (arith, stays_ended, noted_disks, declared_first, same_disks xs (noted before e) after es (stays_ended before e ended) spell.1)
same_disks texts before after events ended spell = grind arith

same_ports : (texts : List (List ℕ)) (before after : NamesState) (events : List Event) → before.ended ≡ true → AllSpell texts before events after
    → after.ports ≡ before.ports
same_ports (x ∷ xs) before after (e ∷ es) ended spell =
    grind (arith, stays_ended, noted_ports, port_declared_first, same_ports xs (noted before e) after es (stays_ended before e ended) spell.1)
same_ports texts before after events ended spell = grind arith

same_declared : (before after : NamesState) → after.disks ≡ before.disks → after.ports ≡ before.ports → declared_by after ≡ declared_by before
same_declared before after disks ports = grind arith

-- before a line was read, what is to come is what the source has left
pub from_start : (lines : LinesState) (left : Option (List ℕ)) → lines.held ≡ [] → to_come lines left ≡ left
from_start lines None none = refl
from_start lines (Some bytes) none = ap (λ (l : List ℕ). Some (l ++ bytes)) none

-- DECLARATIONS give no entry
abbrev pub opening_lines : List Event → List (Event × List Entry)
opening_lines [] = []
opening_lines (event ∷ events) = (event, []) ∷ opening_lines events

opening_events : (events : List Event) → events_in (opening_lines events) ≡ events
opening_events [] = refl
opening_events (event ∷ events) = ap (λ (l : List Event). event ∷ l) (opening_events events)

opening_entries : (events : List Event) → entries_in (opening_lines events) ≡ []
opening_entries [] = refl
opening_entries (event ∷ events) = opening_entries events

opening_run : (s : DomainState) (events : List Event) → AreOpening events → Run EventStep s (opening_lines events) s
opening_run s [] are = refl
opening_run s (event ∷ events) are = (s, silent s event are.0, opening_run s events are.1)

opening_below : (events : List Event) → BeginBelow 0 (opening_lines events)
opening_below [] = tt
opening_below (event ∷ events) = (omega arith, opening_below events)

-- and then a line with its part
abbrev pub first_lines : List Event → Event → List Entry → List (Event × List Entry)
first_lines opening event part = opening_lines opening ++ (event, part) ∷ []

first_events : (opening : List Event) (event : Event) (part : List Entry)
    → events_in (first_lines opening event part) ≡ opening ++ event ∷ []
first_events opening event part = grind (arith, events_both, opening_events)

first_entries : (opening : List Event) (event : Event) (part : List Entry)
    → entries_in (first_lines opening event part) ≡ part
first_entries opening event part = grind (arith, entries_push, opening_entries)

first_below : (opening : List Event) (event : Event) (part : List Entry)
    → BeginBelow 0 (first_lines opening event part)
first_below opening event part = grind (arith, opening_entries, below_push, opening_below)

-- the parts where only declarations were read, and where memory was wanted at the line behind them
abbrev pub declared_parts : List Event → ScriptParts
declared_parts opening = record { whole = opening_lines opening; cut = None }

abbrev pub begun_parts : List Event → Event → List Entry → ScriptParts
begun_parts opening event part = record { whole = opening_lines opening; cut = Some (event, part) }

declared_fit : (s : DomainState) (opening : List Event) → AreOpening opening
    → FitsScript 0 s (declared_parts opening) s
declared_fit s opening are =
    record { middle = s; run = opening_run s opening are; last = refl; begin_below = opening_below opening }

none_start : (s : DomainState) (opening : List Event) (event : Event) → AreOpening opening
    → FitsScript 0 s (begun_parts opening event []) s
none_start s opening event are = record {
  middle = s;
  run = opening_run s opening are;
  last = record { entries = []; says = refl; begins = record { begins = none_begun event (lanes_in s); run = refl } };
  begin_below = first_below opening event [];
}

-- a line came that is neither blank nor a declaration
not_opening : (opening : List Event) (event : Event) → is_opening event ≡ false → AreOpening (opening ++ event ∷ []) → ⊥
not_opening opening event other are = let halves = opening_halves opening (event ∷ []) are in cc (halves.1.0, other)

-- what was read, its events said otherwise
abbrev read_as : (start left : Option (List ℕ)) (events all : List Event) (names : NamesState) (count : ℕ)
    → all ≡ events → ReadSoFar start left events names count → ReadSoFar start left all names count
read_as start left events all names count is read = record {
  texts = read.texts;
  taken = read.taken;
  spell = subst (λ (l : List Event). AllSpell read.texts no_names l names) (sym is) read.spell;
  counts = read.counts;
}

abbrev stopped_as : (start now : Option (List ℕ)) (why ended : Status) (events all : List Event) (names : NamesState)
    (entries number lines : ℕ) → all ≡ events
    → (stopped : Stopped start now why events names entries lines)
    → StopsAt ended stopped.left stopped.held now names stopped.count number
    → (ended ≡ status.SourceFault → AllFed start stopped.left stopped.read.texts)
    → lines ≡ counted_lines ended stopped.count → Stopped start now ended all names number lines
stopped_as start now why ended events all names entries number lines is stopped stop feeds counted = record {
  left = stopped.left;
  count = stopped.count;
  read = read_as start stopped.left events all names stopped.count is stopped.read;
  held = stopped.held;
  stop = stop;
  feeds = feeds;
  lines_are = counted;
}

-- a run that stopped after the first such line
abbrev stopped_behind : (start now : Option (List ℕ)) (reader : LinesState) (event : Event) (names : NamesState) (why : Status) → why ≢ status.SourceFault → (opens : Opens start reader now event names)
    → (all : List Event) → all ≡ opens.opening ++ event ∷ []
    → (entries : ℕ) → StopsAt why (to_come reader now) reader.held now names reader.number entries → reader.number ≡ counted_lines why reader.number
    → Stopped start now why all names entries reader.number
stopped_behind start now reader event names why other opens all all_is entries stops is = record {
  left = to_come reader now;
  count = reader.number;
  read = read_as start (to_come reader now) (opens.opening ++ event ∷ []) all names reader.number all_is opens.read;
  held = reader.held;
  stop = stops;
  feeds = λ failed. absurd (other failed);
  lines_are = is;
}

-- THE FIRST EVENT that isn't a declaration, and the lines after it
module _ (start now : Option (List ℕ)) (reader : LinesState) (began : Option (List ℕ)) (event : Event) (names : NamesState) (s m : DomainState)
    (journal : List Entry) (why : Status) (after : RunAt) (readers : IsReaders why)
    (opens : Opens start reader began event names) (fits : Fits s (line_of event) [] journal m)
    (runs : RunsLines (to_come reader began) now (run_at names journal m reader.number) why after)
    (going : why ≡ status.SourceFault → reader.stop ≡ Going) where
  abbrev front : List (Event × List Entry)
  front = first_lines opens.opening event fits.adds.part

  abbrev parts : ScriptParts
  parts = behind_lines front runs.parts

  front_run : Run EventStep s front m
  front_run =
      run_push EventStep s s m (opening_lines opens.opening) (event, fits.adds.part) (opening_run s opens.opening opens.are)
      (line_step s event [] journal m fits)

  entries_are : entries_in front ≡ journal
  entries_are = first_entries opens.opening event fits.adds.part ∙ sym fits.adds.grew

  events_are : events_of parts ≡ (opens.opening ++ event ∷ []) ++ events_of runs.parts
  events_are = grind (arith, events_behind, first_events)

  all_fit : FitsScript 0 s parts after.world
  all_fit = record {
    middle = runs.fits.middle;
    run = run_append EventStep s m runs.fits.middle front runs.parts.whole front_run runs.fits.run;
    last = runs.fits.last;
    begin_below = grind (arith, entries_are, front_run, all_behind, below_both, first_below);
  }

  pub runs_all : RunsAll start now names s why after
  runs_all =
      let count : reader.number + length runs.read.texts ≡ length (opens.read.texts ++ runs.read.texts) = omega (arith, opens.read.counts, length-append opens.read.texts runs.read.texts) in
      record {
        parts = parts;
        stopped = record {
          left = runs.left;
          count = reader.number + length runs.read.texts;
          read = record {
            texts = opens.read.texts ++ runs.read.texts;
            taken = taken-append start (to_come reader began) runs.left opens.read.texts runs.read.texts opens.read.taken
                (record { taken = runs.read.taken; short = runs.read.short; few = omega (arith, runs.read.few) }) (omega (arith, runs.read.few, opens.read.counts));
            spell = subst (λ (l : List Event). AllSpell (opens.read.texts ++ runs.read.texts) no_names l after.names) (sym events_are)
                (spell_append opens.read.texts runs.read.texts no_names names after.names (opens.opening ++ event ∷ []) (events_of runs.parts) opens.read.spell runs.read.spell);
            counts = count;
          };
          held = runs.held;
          stop = runs.stop;
          feeds = λ failed. fed_both start (to_come reader began) runs.left opens.read.texts runs.read.texts (opens.feeds (going failed)) (runs.feeds failed);
          lines_are = runs.counted;
        };
        journal_is = record {
          is = journal_behind front runs.parts ∙ ap (λ (l : List Entry). l ++ journal_of runs.parts) entries_are ∙ sym runs.grew;
          fits = all_fit;
          ends = behind_ends front runs.parts why readers runs.ends;
        };
        wanted = runs.wanted;
        declared = same_declared names after.names (same_disks runs.read.texts names after.names (events_of runs.parts) opens.ended runs.read.spell)
            (same_ports runs.read.texts names after.names (events_of runs.parts) opens.ended runs.read.spell);
        attached = λ _ are. not_opening opens.opening event (other_line event opens.other)
            (opening_halves (opens.opening ++ event ∷ []) (events_of runs.parts) (subst AreOpening events_are are)).0;
      }

-- memory was wanted in the midst of that first event
pub runs_first_cut : (start now : Option (List ℕ)) (reader : LinesState) (event : Event) (names : NamesState) (s t : DomainState) (journal : List Entry)
    → Opens start reader now event names → FitsSoFar s (line_of event) [] journal t
    → RunsAll start now names s status.NoMemory (run_at names journal t reader.number)
runs_first_cut start now reader event names s t journal opens fits =
    let are : events_of (begun_parts opens.opening event fits.adds.part) ≡ opens.opening ++ event ∷ [] =
    first_events opens.opening event fits.adds.part in
    record {
      parts = begun_parts opens.opening event fits.adds.part;
      stopped = stopped_behind start now reader event names status.NoMemory (λ failed. cc failed) opens
          (events_of (begun_parts opens.opening event fits.adds.part)) are (length journal)
          (inr (inl (opens.ended, opens.held)), keeps_same (to_come reader now), tt) refl;
      journal_is = record {
        is = first_entries opens.opening event fits.adds.part ∙ sym fits.adds.grew;
        fits = record {
          middle = s;
          run = opening_run s opens.opening opens.are;
          last = line_starts s event [] journal t fits;
          begin_below = first_below opens.opening event fits.adds.part;
        };
        ends = tt;
      };
      wanted = λ _. other_line event opens.other;
      declared = refl;
      attached = λ _ opening. not_opening opens.opening event (other_line event opens.other) (subst AreOpening are opening);
    }

-- nothing but declarations
abbrev declared_stopped : (start now : Option (List ℕ)) (why ended : Status) (names : NamesState) (lines : ℕ)
    → (opens : OpensAndStops start now why names lines)
    → StopsAt ended opens.stopped.left opens.stopped.held now names opens.stopped.count 0
    → (ended ≡ status.SourceFault → AllFed start opens.stopped.left opens.stopped.read.texts)
    → lines ≡ counted_lines ended opens.stopped.count
    → Stopped start now ended (events_of (declared_parts opens.opening)) names 0 lines
declared_stopped start now why ended names lines opens stop feeds counted =
    stopped_as start now why ended opens.opening (events_of (declared_parts opens.opening)) names 0 0 lines
    (opening_events opens.opening) opens.stopped stop feeds counted

pub runs_none_more : (start now : Option (List ℕ)) (names : NamesState) (s : DomainState) (lines : ℕ) → OpensAndStops start now status.Done names lines → RunsAll start now names s status.Done (run_at names [] s lines)
runs_none_more start now names s lines opens = record {
  parts = declared_parts opens.opening;
  stopped = declared_stopped start now status.Done status.Done names lines opens opens.stopped.stop opens.stopped.feeds opens.stopped.lines_are;
  journal_is = record { is = opening_entries opens.opening; fits = declared_fit s opens.opening opens.are; ends = refl };
  wanted = λ wanted. cc wanted;
  declared = refl;
  attached = λ other. absurd (other refl);
}

-- HOW A RUN ENDED, whether the image failed or not
pub ended_as : (P : Status → Type 0) (why : Status) (faulty : Bool) → IsReaders why → (P status.Done → P status.StoreFault) → P why → P (ended_status why faulty)
ended_as P why faulty readers also = grind (arith, by_readers)

ended_stop : (why : Status) (faulty : Bool) (names : NamesState) (left now : Option (List ℕ)) (held : List ℕ) (count entries : ℕ) → IsReaders why → StopsAt why left held now names count entries
    → StopsAt (ended_status why faulty) left held now names count entries
ended_stop why faulty names left now held count entries readers = ended_as (λ (w : Status). StopsAt w left held now names count entries) why faulty readers (λ stop. stop)

ended_count : (why : Status) (faulty : Bool) (count : ℕ) → IsReaders why → counted_lines why count ≡ counted_lines (ended_status why faulty) count
ended_count why faulty count readers = ended_as (λ (w : Status). counted_lines why count ≡ counted_lines w count) why faulty readers (λ is. is) refl

ended_journal : (why : Status) (faulty : Bool) (s t : DomainState) (parts : ScriptParts) (journal : List Entry) → IsReaders why
    → JournalIs (ending why) s parts journal t → JournalIs (ending (ended_status why faulty)) s parts journal t
ended_journal why faulty s t parts journal readers =
    ended_as (λ (w : Status). JournalIs (ending w) s parts journal t) why faulty readers (λ is. is)

ended_faults : {D : Type 0} (image : D) (why : Status) (faulty : Bool) (faults : ℕ) → IsReaders why → (IsTrue faulty ↔ (0 < faults)) → FaultsAre (ended_status why faulty) (Some image) faults
ended_faults image why faulty faults readers tells = grind (arith, by_readers)

-- a run in a world has an image
ended_image : {D : Type 0} (image : D) (why : Status) (faulty : Bool) (parts : ScriptParts) (rest : Option (List ℕ)) (journal : List Entry) → IsReaders why
    → (why ≢ status.Done → AreOpening (events_of parts) → ⊥) → (why ≡ status.NoMemory → IsCutOff parts)
    → ImageStands (ended_status why faulty) parts rest journal (Some image)
ended_image image why faulty parts rest journal readers = grind (arith, by_readers)

-- and its lanes
ended_lanes : {D : Type 0} (image : D) (why : Status) (faulty : Bool) (lanes : Lanes) (t : DomainState) → IsReaders why → lanes ≡ lanes_in t
    → LanesStand (ended_status why faulty) (Some image) (Some lanes) t
ended_lanes image why faulty lanes t readers left = grind (arith, by_readers)

-- a run that ended in its declarations has neither
opening_lanes : (D : Type 0) (why : Status) (t : DomainState) → IsReaders why → LanesStand {D = D} why None None t
opening_lanes D why t readers = by_readers (λ (w : Status). LanesStand {D = D} w None None t) refl (λ at fault. refl) refl (λ at kind. refl) refl why readers

opening_image : (D : Type 0) (why : Status) (parts : ScriptParts) (rest : Option (List ℕ)) → IsReaders why → why ≢ status.Done → AreOpening (events_of parts)
    → ImageStands {D = D} why parts rest [] None
opening_image D why parts rest readers other are = grind (arith, by_readers)

opening_faults : {D : Type 0} (image : Option D) (why : Status) (faults : ℕ) → IsReaders why → why ≢ status.Done → FaultsAre why image faults
opening_faults image why faults readers =
    by_readers (λ (w : Status). w ≢ status.Done → FaultsAre w image faults) (λ other. absurd (other refl)) (λ at fault other. tt) (λ other. tt) (λ at kind other. tt) (λ other. tt) why readers

-- nor has one whose image couldn't be attached, or for whose lanes there was no memory
refused_lanes : (D : Type 0) (fault : AttachFault) (t : DomainState) → LanesStand {D = D} (attach_status fault) None None t
refused_lanes D Failed t = refl
refused_lanes D Memory t = refl

refused_image : (D : Type 0) (fault : AttachFault) (all : ScriptParts) (rest : Option (List ℕ)) → AttachesAt (events_of all) rest
    → ImageStands {D = D} (attach_status fault) all rest [] None
refused_image D Failed all rest at = (refl, at)
refused_image D Memory all rest at = (refl, inr at)

refused_faults : {D : Type 0} (fault : AttachFault) (image : Option D) (faults : ℕ) → FaultsAre (attach_status fault) image faults
refused_faults Failed image faults = tt
refused_faults Memory image faults = tt

refused_ends : (fault : AttachFault) (all : ScriptParts) → journal_of all ≡ [] → EndsSo (ending (attach_status fault)) all
refused_ends Failed all none = none
refused_ends Memory all none = tt

refused_stop : (fault : AttachFault) (left now : Option (List ℕ)) (held : List ℕ) (names : NamesState) (count : ℕ) → IsDeclaredOut left held names → Keeps left (prepend_known held now)
    → StopsAt (attach_status fault) left held now names count 0
refused_stop Failed left now held names count declared kept = (declared, kept, tt)
refused_stop Memory left now held names count declared kept = (inr declared, kept, tt)

refused_unfailed : (fault : AttachFault) → attach_status fault ≢ status.SourceFault
refused_unfailed Failed failed = cc failed
refused_unfailed Memory failed = cc failed

refused_count : (fault : AttachFault) (count : ℕ) → count ≡ counted_lines (attach_status fault) count
refused_count Failed count = refl
refused_count Memory count = refl

nothing_held : (start now : Option (List ℕ)) → now ≡ start → Keeps start (prepend_known [] now)
nothing_held None now same = tt
nothing_held (Some bytes) now same = subst (λ (o : Option (List ℕ)). Keeps (Some bytes) (prepend_known [] o)) (sym same) refl

-- where the lines end at which an image is attached
declared_attaches : (opening : List Event) (rest : Option (List ℕ)) → AreOpening opening → IsAtEnd rest
    → AttachesAt (events_of (declared_parts opening)) rest
declared_attaches opening rest are end =
    subst (λ (l : List Event). AttachesAt l rest) (sym (opening_events opening)) (inl (are, end))

begun_attaches : (opening : List Event) (event : Event) (rest : Option (List ℕ)) → AreOpening opening
    → is_opening event ≡ false → AttachesAt (events_of (begun_parts opening event [])) rest
begun_attaches opening event rest are other =
    inr (record { opening = opening; are = are; event = event; other = other; events_are = first_events opening event [] })

-- where nothing stood between
nothing_between : (seen image : ImageState) → seen ≡ image → StandsBehind seen image
nothing_between seen image is = grind arith

module _ {D : Type 0} (seen : D → ImageState) (start now : Option (List ℕ)) (gives : ℕ → Option (List ℕ)) where
  -- A RUN in a world that ended
  pub replayed_of : (why : Status) (faulty : Bool) (names : NamesState) (s : DomainState) (after : RunAt) (image : D) (lanes : Lanes) → IsReaders why → RunsAll start now names s why after → s ≡ start_of names gives
      → StandsBehind (seen image) after.world.first.image → lanes ≡ lanes_in after.world → (IsTrue faulty ↔ (0 < after.world.first.image.faults))
      → Replayed seen start now gives (ended_status why faulty) after.count after.names after.journal (Some image) (Some lanes)
  replayed_of why faulty names s after image lanes readers runs begins told left tells =
      let begin : s ≡ start_of after.names gives = begins ∙ ap (λ (d : Declared). start_of (record { disks = d.disks; ports = d.ports; ended = true }) gives) (sym runs.declared) in
      record {
        parts = runs.parts;
        stopped = stopped_as start now why (ended_status why faulty) (events_of runs.parts) (events_of runs.parts) after.names (length after.journal) (length after.journal) after.count refl runs.stopped
            (ended_stop why faulty after.names runs.stopped.left now runs.stopped.held runs.stopped.count (length after.journal) readers runs.stopped.stop)
            (ended_as (λ (w : Status). w ≡ status.SourceFault → AllFed start runs.stopped.left runs.stopped.read.texts) why faulty readers (λ _ failed. cc failed) runs.stopped.feeds)
            (runs.stopped.lines_are ∙ ended_count why faulty runs.stopped.count readers);
        final = after.world;
        journal_is = ended_journal why faulty (start_of after.names gives) after.world runs.parts after.journal readers
            (subst (λ (x : DomainState). JournalIs (ending why) x runs.parts after.journal after.world) begin runs.journal_is);
        image_is = told;
        faults_are = ended_faults image why faulty after.world.first.image.faults readers tells;
        image_stands = ended_image image why faulty runs.parts runs.stopped.left after.journal readers runs.attached runs.wanted;
        lanes_stand = ended_lanes image why faulty lanes after.world readers left;
      }

  -- one that ended before an image was attached: in its declarations
  pub replayed_unattached : (why : Status) (names : NamesState) (lines : ℕ) → IsReaders why → why ≢ status.Done → OpensAndStops start now why names lines → Replayed seen start now gives why lines names [] None None
  replayed_unattached why names lines readers other opens = record {
    parts = declared_parts opens.opening;
    stopped = declared_stopped start now why why names lines opens opens.stopped.stop opens.stopped.feeds opens.stopped.lines_are;
    final = start_of names gives;
    journal_is = record {
      is = opening_entries opens.opening;
      fits = declared_fit (start_of names gives) opens.opening opens.are;
      ends = whole_ends (opening_lines opens.opening) why readers;
    };
    image_is = tt;
    faults_are = opening_faults None why (start_of names gives).first.image.faults readers other;
    image_stands = opening_image D why (declared_parts opens.opening) opens.stopped.left readers other
        (subst AreOpening (sym (opening_events opens.opening)) opens.are);
    lanes_stand = opening_lanes D why (start_of names gives) readers;
  }

  -- one whose image couldn't be attached, or for whose lanes there was no memory
  pub replayed_refused : (fault : AttachFault) (reader : LinesState) (first : Option Event) (names : NamesState)
      → OpensOrStops start reader now first names → Replayed seen start now gives (attach_status fault) reader.number names [] None None
  replayed_refused fault reader None names opened =
      let parts : ScriptParts = declared_parts opened.opening in
      record {
        parts = parts;
        stopped = declared_stopped start now status.Done (attach_status fault) names reader.number opened
            (refused_stop fault opened.stopped.left now opened.stopped.held names opened.stopped.count (inr opened.stopped.stop.0) opened.stopped.stop.1)
            (λ failed. absurd (refused_unfailed fault failed))
            (opened.stopped.lines_are ∙ refused_count fault opened.stopped.count);
        final = start_of names gives;
        journal_is = record {
          is = opening_entries opened.opening;
          fits = declared_fit (start_of names gives) opened.opening opened.are;
          ends = refused_ends fault parts (opening_entries opened.opening);
        };
        image_is = tt;
        faults_are = refused_faults {D = D} fault None (start_of names gives).first.image.faults;
        image_stands = refused_image D fault parts opened.stopped.left
            (declared_attaches opened.opening opened.stopped.left opened.are opened.stopped.stop.0);
        lanes_stand = refused_lanes D fault (start_of names gives);
      }
  replayed_refused fault reader (Some event) names opened =
      let parts : ScriptParts = begun_parts opened.opening event [] in
      record {
        parts = parts;
        stopped = stopped_behind start now reader event names (attach_status fault) (refused_unfailed fault) opened (events_of parts) (first_events opened.opening event []) 0
            (refused_stop fault (to_come reader now) now reader.held names reader.number (inl (opened.ended, opened.held)) (keeps_same (to_come reader now))) (refused_count fault reader.number);
        final = start_of names gives;
        journal_is = record {
          is = first_entries opened.opening event [];
          fits = none_start (start_of names gives) opened.opening event opened.are;
          ends = refused_ends fault parts (first_entries opened.opening event []);
        };
        image_is = tt;
        faults_are = refused_faults {D = D} fault None (start_of names gives).first.image.faults;
        image_stands = refused_image D fault parts (to_come reader now)
            (begun_attaches opened.opening event (to_come reader now) opened.are (other_line event opened.other));
        lanes_stand = refused_lanes D fault (start_of names gives);
      }

  -- one whose image is too short
  pub replayed_short : (need have : ℕ) (reader : LinesState) (first : Option Event) (names : NamesState) (image : D) → seen image ≡ (start_of names gives).first.image
      → OpensOrStops start reader now first names → Replayed seen start now gives (status.ImageSize need have) reader.number names [] (Some image) None
  replayed_short need have reader None names image told opened =
      let parts : ScriptParts = declared_parts opened.opening in
      record {
        parts = parts;
        stopped = declared_stopped start now status.Done (status.ImageSize need have) names reader.number opened (inr opened.stopped.stop.0, opened.stopped.stop.1, tt) (λ failed. cc failed) opened.stopped.lines_are;
        final = start_of names gives;
        journal_is = record {
          is = opening_entries opened.opening;
          fits = declared_fit (start_of names gives) opened.opening opened.are;
          ends = opening_entries opened.opening;
        };
        image_is = nothing_between (seen image) (start_of names gives).first.image told;
        faults_are = tt;
        image_stands = (refl, declared_attaches opened.opening opened.stopped.left opened.are opened.stopped.stop.0);
        lanes_stand = refl;
      }
  replayed_short need have reader (Some event) names image told opened =
      let parts : ScriptParts = begun_parts opened.opening event [] in
      record {
        parts = parts;
        stopped = stopped_behind start now reader event names (status.ImageSize need have) (λ failed. cc failed) opened (events_of parts) (first_events opened.opening event []) 0
            (inl (opened.ended, opened.held), keeps_same (to_come reader now), tt) refl;
        final = start_of names gives;
        journal_is = record {
          is = first_entries opened.opening event [];
          fits = none_start (start_of names gives) opened.opening event opened.are;
          ends = first_entries opened.opening event [];
        };
        image_is = nothing_between (seen image) (start_of names gives).first.image told;
        faults_are = tt;
        image_stands = (refl, begun_attaches opened.opening event (to_come reader now) opened.are (other_line event opened.other));
        lanes_stand = refl;
      }

  -- one for which there was no memory to read a line
  pub replayed_none : (names : NamesState) → names ≡ no_names → now ≡ start → Replayed seen start now gives status.NoMemory 0 names [] None None
  replayed_none names is same = record {
    parts = declared_parts [];
    stopped = record { left = start; count = 0; read = read_none start names 0 is refl; held = []; stop = (inl (refl, refl), nothing_held start now same, tt); feeds = λ failed. cc failed; lines_are = refl };
    final = start_of names gives;
    journal_is = record { is = refl; fits = declared_fit (start_of names gives) [] tt; ends = tt };
    image_is = tt;
    faults_are = tt;
    image_stands = (refl, inl tt);
    lanes_stand = refl;
  }

  -- the same run, its parts said otherwise
  pub replayed_as : (why ended : Status) (lines number : ℕ) (names now_named : NamesState) (journal entries : List Entry) (image disk : Option D) (stand left : Option Lanes)
      → ended ≡ why → number ≡ lines → now_named ≡ names → entries ≡ journal → disk ≡ image → left ≡ stand
      → Replayed seen start now gives why lines names journal image stand → Replayed seen start now gives ended number now_named entries disk left
  replayed_as why ended lines number names now_named journal entries image disk stand left status_is lines_are names_are journal_is image_is lanes_are replayed =
      grind arith
