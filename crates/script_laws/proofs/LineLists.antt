-- Lists of lines with their parts, one after another, of which the last may be cut off; and how they end.
use Rattle.std.proofs.Common.{◌≡◌, ℕ, ◌+◌, ◌<◌, List, [], ◌∷◌, ◌++◌, length, Option, Some, None, refl, ◌∙◌, ap, append_assoc, length-append, arith}
use Rattle.std.proofs.lemmas.List.{append-nil, map-append}
use Rattle.std.proofs.lemmas.List.Concat.{flat_map-append}
use Rattle.domain_script.specs.declared.event.Event.{Event}
use Rattle.domain_script.specs.declared.event.LineFault.{LineFault}
use Rattle.ldom_entries.specs.declared.entry.Entry.{Entry}
use Rattle.ldom_report.specs.declared.status.LimitKind.{LimitKind}
use Rattle.ldom_report.specs.declared.status.Status.{Status}
use Rattle.ldom_report.specs.declared.status.Status.TheVariants as status
use Rattle.ldom_report.specs.Stops.{IsReaders}
use Rattle.world_parts.specs.Endings.{EndsSo, ending}
use Rattle.world_parts.specs.Lines.{EventStep}
use Rattle.world_parts.specs.Script.{BeginBelow, FitsScript, ScriptParts, all_lines, entries_in, events_in, events_of, journal_of, with_last}
use Rattle.world_parts.specs.domain_laws.Domain.{DomainState}
use Rattle.runs.specs.Run.{Run}

-- ONE AFTER ANOTHER
pub events_both : (xs ys : List (Event × List Entry)) → events_in (xs ++ ys) ≡ events_in xs ++ events_in ys
events_both xs ys = map-append (λ (l : Event × List Entry). l.0) xs ys

pub entries_both : (xs ys : List (Event × List Entry)) → entries_in (xs ++ ys) ≡ entries_in xs ++ entries_in ys
entries_both xs ys = flat_map-append (λ (l : Event × List Entry). l.1) xs ys

pub entries_push : (lines : List (Event × List Entry)) (line : Event × List Entry)
    → entries_in (lines ++ line ∷ []) ≡ entries_in lines ++ line.1
entries_push lines line =
    entries_both lines (line ∷ []) ∙ ap (λ (l : List Entry). entries_in lines ++ l) (append-nil line.1)

pub last_both : (xs ys : List (Event × List Entry)) (cut : Option (Event × List Entry))
    → with_last (xs ++ ys) cut ≡ xs ++ with_last ys cut
last_both xs ys None = refl
last_both xs ys (Some last) = append_assoc xs ys (last ∷ [])

-- some whole lines before others
abbrev pub behind_lines : List (Event × List Entry) → ScriptParts → ScriptParts
behind_lines lines parts = record { whole = lines ++ parts.whole; cut = parts.cut }

pub all_behind : (lines : List (Event × List Entry)) (parts : ScriptParts)
    → all_lines (behind_lines lines parts) ≡ lines ++ all_lines parts
all_behind lines parts = last_both lines parts.whole parts.cut

pub events_behind : (lines : List (Event × List Entry)) (parts : ScriptParts)
    → events_of (behind_lines lines parts) ≡ events_in lines ++ events_of parts
events_behind lines parts = ap events_in (all_behind lines parts) ∙ events_both lines (all_lines parts)

pub journal_behind : (lines : List (Event × List Entry)) (parts : ScriptParts)
    → journal_of (behind_lines lines parts) ≡ entries_in lines ++ journal_of parts
journal_behind lines parts = ap entries_in (all_behind lines parts) ∙ entries_both lines (all_lines parts)

-- where none was cut off the whole lines are all
pub record RanWhole (entries : ℕ) (s : DomainState) (parts : ScriptParts) (t : DomainState) : Type 0 where
  pub run : Run EventStep s parts.whole t
  pub lines_are : all_lines parts ≡ parts.whole

pub ran_whole : (entries : ℕ) (s : DomainState) (parts : ScriptParts) (t : DomainState) → parts.cut ≡ None
    → FitsScript entries s parts t → RanWhole entries s parts t
ran_whole entries s parts t none given = grind arith

-- lines that begin below the most, and then others
pub below_both : (entries : ℕ) (lines more : List (Event × List Entry)) → BeginBelow entries lines
    → BeginBelow (entries + length (entries_in lines)) more → BeginBelow entries (lines ++ more)
below_both entries (line ∷ lines) more first second = grind (arith, length-append, below_both (entries + length line.1) lines more first.1)
below_both entries lines more first second = grind arith

pub below_push : (entries : ℕ) (lines : List (Event × List Entry)) (line : Event × List Entry)
    → BeginBelow entries lines → entries + length (entries_in lines) < 2000000
    → BeginBelow entries (lines ++ line ∷ [])
below_push entries lines line first below = below_both entries lines (line ∷ []) first (below, tt)

-- WHAT HOLDS OF EACH STATUS with which reading ends
pub by_readers : (P : Status → Type 0) → P status.Done → ((at : ℕ) (fault : LineFault) → P (status.Script at fault))
    → P status.SourceFault → ((at : ℕ) (kind : LimitKind) → P (status.Limit at kind)) → P status.NoMemory
    → (why : Status) → IsReaders why → P why
by_readers P done script source limit memory why readers = grind arith

-- where none was cut off, and where more lines stand before
pub whole_ends : (lines : List (Event × List Entry)) (why : Status) → IsReaders why
    → EndsSo (ending why) (record { whole = lines; cut = None })
whole_ends lines why readers = grind (arith, by_readers)

pub behind_ends : (lines : List (Event × List Entry)) (parts : ScriptParts) (why : Status) → IsReaders why
    → EndsSo (ending why) parts → EndsSo (ending why) (behind_lines lines parts)
behind_ends lines parts why readers = grind (arith, by_readers)
