-- Why the reader of a run gave no line, by what it holds then.
use Rattle.std.proofs.Common.{◌≡◌, ℕ, ◌+◌, List, Option, ap, ◌∙◌}
use Rattle.std.specs.Io.KnownBytes.{prepend_known}
use Rattle.domain_script.specs.NamesState.{NamesState}
use Rattle.ldom_report.specs.declared.status.LimitKind.TheVariants.{Lines, Bytes, Entries}
use Rattle.ldom_report.specs.declared.stop.Stop.{Stop}
use Rattle.ldom_report.specs.declared.stop.Stop.TheVariants as stops
use Rattle.ldom_report.specs.Stops.{StopsReading, stop_status}
use Rattle.script_laws.specs.Reading.{StopsAt}
use Rattle.script_reader.specs.LinesState.{HoldsFew, LinesState, to_come}

pub reader_stops : (stop : Stop) (rest now : Option (List ℕ)) (lines : LinesState) (names : NamesState) (count entries : ℕ)
    → StopsReading stop rest (to_come lines now) lines.held count → lines.number ≡ count → HoldsFew lines
    → StopsAt (stop_status stop lines.number) rest lines.held now names count entries
reader_stops stops.End rest now lines names count entries why same few = (why.0, why.1, tt)
reader_stops stops.Source rest now lines names count entries why same few = (why.0, why.1, tt)
reader_stops (stops.Limit Lines) rest now lines names count entries why same few =
    ((ap (λ (n : ℕ). n + 1) same, why.0), why.1, few.last (same ∙ why.0.0))
reader_stops (stops.Limit Bytes) rest now lines names count entries why same few =
    ((ap (λ (n : ℕ). n + 1) same, why.0), why.1, few.all)
reader_stops (stops.Limit Entries) rest now lines names count entries why same few = absurd why.0
reader_stops stops.Memory rest now lines names count entries why same few = absurd why
reader_stops (stops.Faulty fault) rest now lines names count entries why same few = absurd why
reader_stops stops.Entries rest now lines names count entries why same few = absurd why
