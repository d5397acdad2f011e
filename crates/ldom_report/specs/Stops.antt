-- Why no further line of a source is taken up.
use Rattle.std.specs.Prelude.{◌≡◌, ◌≢◌, ◌⊎◌, ℕ, ◌+◌, ◌-◌, List, Option, ⊤}
use Rattle.std.specs.Io.KnownBytes.{IsAtEnd, Keeps}
use Rattle.vio_io.specs.Causes.{next_count}
use Rattle.script_reader.specs.declared.lines.LinesFault.{LinesFault}
use Rattle.script_reader.specs.declared.lines.LinesFault.TheVariants as reader
use Rattle.script_reader.specs.declared.lines.LinesStop.{LinesStop}
use Rattle.script_reader.specs.declared.lines.LinesStop.TheVariants.{Ended}
use Rattle.domain_script.specs.Pieces.{DecidesNothing}
use Rattle.ldom_report.specs.declared.status.LimitKind.TheVariants as limit
use Rattle.ldom_report.specs.declared.status.Status.{Status}
use Rattle.ldom_report.specs.declared.status.Status.TheVariants as status
use Rattle.ldom_report.specs.declared.stop.Stop.{Stop}
use Rattle.ldom_report.specs.declared.stop.Stop.TheVariants.{End, Source, Limit, Memory, Faulty, Entries}
use Rattle.ldom_report.specs.LinesEnd.{IsPast}

-- a fault of the reader
abbrev pub stop_of : LinesFault → Stop
stop_of reader.Source = Source
stop_of reader.Long = Limit limit.Bytes
stop_of reader.Many = Limit limit.Lines

-- how a run or a dump ends where its lines stop so, after that many were read
abbrev pub stop_status : Stop → ℕ → Status
stop_status End lines = status.Done
stop_status Source lines = status.SourceFault
stop_status (Limit kind) lines = status.Limit (lines + 1) kind
stop_status Memory lines = status.NoMemory
stop_status (Faulty fault) lines = status.Script lines fault
stop_status Entries lines = status.Limit lines limit.Entries

-- how many lines the report counts where they stop so, after that many were read
abbrev pub stop_lines : Stop → ℕ → ℕ
stop_lines Entries lines = lines - 1
stop_lines other lines = lines

-- Why the reader gave no line after so many: `rest` was to come, which `left` is now, and all that was taken is kept. Where
-- the source failed, no line is whole in what is held, and no limit is met.
abbrev pub StopsReading : Stop → Option (List ℕ) → Option (List ℕ) → List ℕ → ℕ → Type 0
StopsReading End rest left held count = IsAtEnd rest × Keeps rest left
StopsReading Source rest left held count = DecidesNothing count held × Keeps rest left
StopsReading (Limit kind) rest left held count = IsPast kind rest count × Keeps rest left
StopsReading Memory rest left held count = ⊥
StopsReading (Faulty fault) rest left held count = ⊥
StopsReading Entries rest left held count = ⊥

-- a status with which reading ends
abbrev pub IsReaders : Status → Type 0
IsReaders status.Done = ⊤
IsReaders (status.Script line fault) = ⊤
IsReaders status.SourceFault = ⊤
IsReaders (status.Limit line kind) = ⊤
IsReaders status.NoMemory = ⊤
IsReaders status.Usage = ⊥
IsReaders status.SinkFault = ⊥
IsReaders status.HostFault = ⊥
IsReaders status.StoreFault = ⊥
IsReaders (status.ImageSize need have) = ⊥

-- Where a reader stands whose lines stop so: it ended at the end, and not where its source failed or a limit was passed. A
-- line that is taken up and not run may have been the last.
abbrev pub ReaderStandsAt : Stop → LinesStop → Type 0
ReaderStandsAt End lines = lines ≡ Ended
ReaderStandsAt Source lines = lines ≢ Ended
ReaderStandsAt (Limit kind) lines = lines ≢ Ended
ReaderStandsAt Memory lines = ⊤
ReaderStandsAt (Faulty fault) lines = ⊤
ReaderStandsAt Entries lines = ⊤

-- the source said once that it is at its end, or not at all
abbrev pub AtMostOnce : ℕ → ℕ → Type 0
AtMostOnce before now = (now ≡ before) ⊎ (now ≡ next_count before)

-- How often the source of a run or a dump that ended so said that it is at its end. It said so once where all was read. Not
-- where it failed or a line was past a limit, and else at most once: a line without a line feed may have been the last.
abbrev pub EndsTold : Status → ℕ → ℕ → Type 0
EndsTold status.Done before now = now ≡ next_count before
EndsTold status.StoreFault before now = now ≡ next_count before
EndsTold status.SourceFault before now = now ≡ before
EndsTold (status.Limit line limit.Lines) before now = now ≡ before
EndsTold (status.Limit line limit.Bytes) before now = now ≡ before
EndsTold other before now = AtMostOnce before now
