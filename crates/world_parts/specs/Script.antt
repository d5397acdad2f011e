-- What became of the lines of a script: each with its part of the journal.
use Rattle.std.specs.Prelude.{◌≡◌, ℕ, ◌+◌, ◌<◌, List, [], ◌∷◌, ◌++◌, length, map, Option, Some, None}
use Rattle.std.specs.List.{flat_map}
use Rattle.runs.specs.Run.{Run}
use Rattle.domain_script.specs.declared.event.Event.{Event}
use Rattle.domain_laws.specs.Domain.{DomainState}
use Rattle.ldom_report.specs.LinesEnd.{most_entries}
use Rattle.ldom_entries.specs.declared.entry.Entry.{Entry}
use Rattle.world_parts.specs.Lines.{LineStarts, EventStep}

-- THE LINES that were taken up, each with its part of the journal: those that gave all of it; and after them the one,
-- if any, at which the run ended early, with what it gave: for want of memory, or as no image could be attached
pub record ScriptParts : Type 0 where
  pub whole : List (Event × List Entry)
  pub cut : Option (Event × List Entry)

abbrev pub with_last : List (Event × List Entry) → Option (Event × List Entry) → List (Event × List Entry)
with_last lines None = lines
with_last lines (Some last) = lines ++ last ∷ []

abbrev pub all_lines : ScriptParts → List (Event × List Entry)
all_lines parts = with_last parts.whole parts.cut

-- what lines say, and their parts one after another
abbrev pub events_in : List (Event × List Entry) → List Event
events_in lines = map (λ l. l.0) lines

abbrev pub entries_in : List (Event × List Entry) → List Entry
entries_in lines = flat_map (λ l. l.1) lines

-- the script that was run, and its journal
abbrev pub events_of : ScriptParts → List Event
events_of parts = events_in (all_lines parts)

abbrev pub journal_of : ScriptParts → List Entry
journal_of parts = entries_in (all_lines parts)

-- where so many entries stand before the first of these lines, each begins with fewer than the most
abbrev pub BeginBelow : ℕ → List (Event × List Entry) → Type 0
BeginBelow entries [] = Unit {0}
BeginBelow entries (line ∷ lines) = (entries < most_entries) × BeginBelow (entries + length line.1) lines

-- of a line that was cut off only the steps were made that it has
abbrev pub LastStarts : DomainState → Option (Event × List Entry) → DomainState → Type 0
LastStarts w None v = v ≡ w
LastStarts w (Some last) v = LineStarts w last v

-- AFTER SO MANY ENTRIES the lines lead the world from one state to another, one after the other.
pub record FitsScript (entries : ℕ) (s : DomainState) (parts : ScriptParts) (t : DomainState) : Type 0 where
  pub middle : DomainState
  pub run : Run EventStep s parts.whole middle
  pub last : LastStarts middle parts.cut t
  pub begin_below : BeginBelow entries (all_lines parts)
