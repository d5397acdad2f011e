-- A script's lines run one after another.
use Rattle.std.proofs.Common.{◌≡◌, ◌≢◌, inl, inr, true, false, ℕ, ◌+◌, ◌<◌, ◌≤◌, List, [], ◌∷◌, ◌++◌, length, refl, sym, ◌∙◌, ap, subst, append_assoc, length-append, arith, Option, Some, None}
use Rattle.std.specs.Io.KnownBytes.{Keeps, prepend_known}
use Rattle.std.proofs.lemmas.List.{append-nil}
use Rattle.runs.specs.Run.{Run, run_push}
use Rattle.domain_script.specs.declared.event.Event.{Event}
use Rattle.domain_script.specs.NamesState.{NamesState}
use Rattle.domain_script.specs.ScriptEvents.{AllSpell}
use Rattle.ldom_entries.specs.declared.entry.Entry.{Entry}
use Rattle.ldom_report.specs.declared.status.Status.{Status}
use Rattle.ldom_report.specs.declared.status.Status.TheVariants as status
use Rattle.ldom_report.specs.Stops.{IsReaders}
use Rattle.script_reader.specs.declared.lines.LinesStop.{LinesStop}
use Rattle.script_reader.specs.declared.lines.LinesStop.TheVariants.{Going}
use Rattle.script_reader.specs.LinesState.{AllFed}
use Rattle.script_laws.specs.Attached.{is_opening}
use Rattle.script_laws.specs.Going.{ReadsOn, RunAt, RunsLines, run_at}
use Rattle.world_parts.specs.Lines.{LineStarts, EventStep, line_of}
use Rattle.world_parts.specs.Parts.{Fits, FitsSoFar}
use Rattle.ldom_report.specs.LinesEnd.{counted_lines}
use Rattle.script_laws.specs.Reading.{HoldsLess, ReadsEvent, StopsAt}
use Rattle.world_parts.specs.domain_laws.Domain.{DomainState}
use Rattle.world_parts.specs.Script.{BeginBelow, entries_in, events_in}
use Rattle.domain_script.proofs.ScriptLemmas.{short-append, takes-append, takes_none}
use Rattle.script_reader.proofs.FedLines.{fed_more, fed_none}
use Rattle.script_laws.proofs.LineLists.{below_push, entries_push, events_both, whole_ends}
use Rattle.script_laws.proofs.ReadLemmas.{spell_more}

-- the part of a line that was run, and of one that began
pub line_step : (m : DomainState) (event : Event) (mid new : List Entry) (t : DomainState) → (fits : Fits m (line_of event) mid new t) → EventStep m (event, fits.adds.part) t
line_step m event mid new t fits = record { entries = fits.entries; says = fits.adds.says; moves = fits.moves }

pub line_starts : (m : DomainState) (event : Event) (mid new : List Entry) (t : DomainState) → (fits : FitsSoFar m (line_of event) mid new t) → LineStarts m (event, fits.adds.part) t
line_starts m event mid new t fits = record { entries = fits.entries; says = fits.adds.says; begins = fits.begins }

-- no line was read yet
abbrev on_none : (start : Option (List ℕ)) (names : NamesState) (number : ℕ) → number ≤ 20000 → ReadsOn start start names number [] names
on_none start names number few = record { texts = []; taken = takes_none start; short = tt; few = omega (arith, few); spell = refl }

-- one more line was read
abbrev on_more : {stop : LinesStop} (start rest left : Option (List ℕ)) (before names after : NamesState) (number count next : ℕ) (events all : List Event) (event : Event)
    → (read : ReadsOn start rest before number events names) → count ≡ number + length read.texts → ReadsEvent stop rest left names event after
    → next ≡ count + 1 → next ≤ 20000 → all ≡ events ++ event ∷ [] → ReadsOn start left before number all after
on_more start rest left before names after number count next events all event read counts reads is few all_is = record {
  texts = read.texts ++ reads.text ∷ [];
  taken = takes-append start rest left read.texts (reads.text ∷ []) read.taken reads.taken;
  short = short-append read.texts (reads.text ∷ []) read.short (reads.short, tt);
  few = omega (arith, few, is, counts, length-append read.texts (reads.text ∷ []));
  spell = subst (λ (l : List Event). AllSpell (read.texts ++ reads.text ∷ []) before l after) (sym all_is)
      (spell_more read.texts reads.text before names after events event read.spell reads.spells reads.noted_is);
}

-- the lines that were run so far, each with its line feed where the reader goes on
pub record RunsSoFar (stop : LinesStop) (start rest : Option (List ℕ)) (before now : RunAt) : Type 0 where
  pub lines : List (Event × List Entry)
  pub read : ReadsOn start rest before.names before.count (events_in lines) now.names
  pub grew : now.journal ≡ before.journal ++ entries_in lines
  pub run : Run EventStep before.world lines now.world
  pub below : BeginBelow (length before.journal) lines
  pub counts : now.count ≡ before.count + length read.texts
  pub feeds : stop ≡ Going → AllFed start rest read.texts

pub runs_none : (stop : LinesStop) (start : Option (List ℕ)) (before : RunAt) → before.count ≤ 20000 → RunsSoFar stop start start before before
runs_none stop start before few = record {
  lines = [];
  read = on_none start before.names before.count few;
  grew = sym (append-nil before.journal);
  run = refl;
  below = tt;
  counts = omega arith;
  feeds = λ _. fed_none start;
}

-- what stands before a line, by what stood before the first
below_here : (old mid part : List Entry) → mid ≡ old ++ part → length mid < 2000000 → length old + length part < 2000000
below_here old mid part grew below = omega (arith, below, ap (λ (l : List Entry). length l) grew, length-append old part)

-- one more line with its part
module _ (lines : List (Event × List Entry)) (event : Event) (part : List Entry) where
  pub more_events : events_in (lines ++ (event, part) ∷ []) ≡ events_in lines ++ event ∷ []
  more_events = events_both lines ((event, part) ∷ [])

  pub more_entries : (old mid new : List Entry) → mid ≡ old ++ entries_in lines → new ≡ mid ++ part
      → new ≡ old ++ entries_in (lines ++ (event, part) ∷ [])
  more_entries old mid new so_far grew = grind (arith, append_assoc, entries_push)

pub runs_more : (was stop : LinesStop) (start rest left : Option (List ℕ)) (before mid after : RunAt) (event : Event) → RunsSoFar was start rest before mid
    → ReadsEvent stop rest left mid.names event after.names → after.count ≡ mid.count + 1 → after.count ≤ 20000 → length mid.journal < 2000000
    → Fits mid.world (line_of event) mid.journal after.journal after.world → RunsSoFar stop start left before after
runs_more was stop start rest left before mid after event so_far reads is few below fits = record {
  lines = so_far.lines ++ (event, fits.adds.part) ∷ [];
  read = on_more start rest left before.names mid.names after.names before.count mid.count after.count (events_in so_far.lines)
      (events_in (so_far.lines ++ (event, fits.adds.part) ∷ [])) event so_far.read so_far.counts reads is few
      (more_events so_far.lines event fits.adds.part);
  grew = more_entries so_far.lines event fits.adds.part before.journal mid.journal after.journal so_far.grew fits.adds.grew;
  run = run_push EventStep before.world mid.world after.world so_far.lines (event, fits.adds.part) so_far.run
      (line_step mid.world event mid.journal after.journal after.world fits);
  below = below_push (length before.journal) so_far.lines (event, fits.adds.part) so_far.below
      (below_here before.journal mid.journal (entries_in so_far.lines) so_far.grew below);
  counts = omega (arith, is, so_far.counts, length-append so_far.read.texts (reads.text ∷ []));
  feeds = fed_more stop start rest left so_far.read.texts reads.text so_far.read.taken reads.ends;
}

-- no further line is taken up: a source fails where the reader goes on
pub runs_stop : (stop : LinesStop) (start rest now : Option (List ℕ)) (held : List ℕ) (before here : RunAt) (names : NamesState) (journal : List Entry) (lines : ℕ) (why : Status)
    → IsReaders why → RunsSoFar stop start rest before here → StopsAt why rest held now here.names here.count (length here.journal) → (why ≡ status.SourceFault → stop ≡ Going)
    → why ≢ status.NoMemory → lines ≡ counted_lines why here.count → names ≡ here.names → journal ≡ here.journal → RunsLines start now before why (run_at names journal here.world lines)
runs_stop stop start rest now held before here names journal lines why readers so_far stops going other is names_are journal_is =
    subst (λ (n : NamesState). RunsLines start now before why (run_at n journal here.world lines)) (sym names_are)
    (subst (λ (l : List Entry). RunsLines start now before why (run_at here.names l here.world lines)) (sym journal_is) (record {
      parts = record { whole = so_far.lines; cut = None };
      left = rest;
      read = so_far.read;
      grew = so_far.grew;
      fits = record { middle = here.world; run = so_far.run; last = refl; begin_below = so_far.below };
      ends = whole_ends so_far.lines why readers;
      wanted = λ wanted. absurd (other wanted);
      held = held;
      stop = subst (λ (n : ℕ). StopsAt why rest held now here.names n (length here.journal)) so_far.counts stops;
      feeds = λ failed. so_far.feeds (going failed);
      counted = is ∙ ap (λ (n : ℕ). counted_lines why n) so_far.counts;
    }))

pub keeps_same : (o : Option (List ℕ)) → Keeps o o
keeps_same None = tt
keeps_same (Some bytes) = refl

-- memory was wanted in the midst of a line
pub runs_cut : {was stop : LinesStop} (start rest now : Option (List ℕ)) (held : List ℕ) (before mid after : RunAt) (event : Event) → RunsSoFar was start rest before mid
    → ReadsEvent stop rest (prepend_known held now) mid.names event after.names → after.count ≡ mid.count + 1 → after.count ≤ 20000 → length mid.journal < 2000000
    → FitsSoFar mid.world (line_of event) mid.journal after.journal after.world → is_opening event ≡ false → after.names.ended ≡ true → HoldsLess held
    → RunsLines start now before status.NoMemory after
runs_cut start rest now held before mid after event so_far reads is few below fits other ended short = record {
  parts = record { whole = so_far.lines; cut = Some (event, fits.adds.part) };
  left = prepend_known held now;
  read = on_more start rest (prepend_known held now) before.names mid.names after.names before.count mid.count after.count (events_in so_far.lines)
      (events_in (so_far.lines ++ (event, fits.adds.part) ∷ [])) event so_far.read so_far.counts reads is few
      (more_events so_far.lines event fits.adds.part);
  grew = more_entries so_far.lines event fits.adds.part before.journal mid.journal after.journal so_far.grew fits.adds.grew;
  fits = grind (arith, line_starts, below_push, below_here);
  ends = tt;
  wanted = λ _. other;
  held = held;
  stop = (inr (inl (ended, short)), keeps_same (prepend_known held now), tt);
  feeds = λ failed. cc failed;
  counted = omega (arith, is, so_far.counts, length-append so_far.read.texts (reads.text ∷ []));
}
