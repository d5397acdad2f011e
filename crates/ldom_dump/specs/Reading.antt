-- Why no further line of a dump is decoded.
use Rattle.std.specs.Prelude.{◌≡◌, ℕ, ◌+◌, ◌<◌, ◌≤◌, List, [], length, Option, ⊤}
use Rattle.std.specs.Io.KnownBytes.{IsAtEnd, Keeps, prepend_known}
use Rattle.domain_script.specs.declared.event.LineFault.{LineFault}
use Rattle.domain_script.specs.declared.event.LineFault.TheVariants.{Hex}
use Rattle.domain_script.specs.Pieces.{DecidesNothing}
use Rattle.domain_script.specs.ScriptLines.{TakesLine}
use Rattle.ldom_report.specs.declared.status.LimitKind.TheVariants as limit
use Rattle.ldom_report.specs.declared.status.Status.{Status}
use Rattle.ldom_report.specs.declared.status.Status.TheVariants as status
use Rattle.ldom_report.specs.declared.stop.Stop.{Stop}
use Rattle.ldom_report.specs.declared.stop.Stop.TheVariants.{Faulty}
use Rattle.ldom_report.specs.LinesEnd.{IsPast}
use Rattle.ldom_dump.specs.Decoded.{SpellsBytes}
use Rattle.ldom_dump.specs.Whole.{IsDigits}
use Rattle.script_reader.specs.declared.lines.LinesStop.{LinesStop}
use Rattle.script_reader.specs.LinesState.{LineEnds, most_of_a_read}
use Rattle.domain_script.specs.Limits.{most_line_bytes, most_lines}

-- the next line spells these 64 bytes, and ended as the reader behind it says
pub record ReadsBytes (stop : LinesStop) (rest left : Option (List ℕ)) (bytes : List ℕ) : Type 0 where
  pub line : List ℕ
  pub taken : TakesLine rest left line
  pub short : length line ≤ most_line_bytes
  pub ends : LineEnds stop rest left line
  pub digits : SpellsBytes line bytes

-- the next line isn't 128 lower-case hexadecimal digits
pub record IsNoDigits (rest left : Option (List ℕ)) (fault : LineFault) : Type 0 where
  pub line : List ℕ
  pub taken : TakesLine rest left line
  pub short : length line ≤ most_line_bytes
  pub nothing : (bytes : List ℕ) → SpellsBytes line bytes → ⊥
  pub hex : fault ≡ Hex

-- the next line was taken, and it is 128 lower-case hexadecimal digits
pub record TakesDigits (rest left : Option (List ℕ)) : Type 0 where
  pub line : List ℕ
  pub taken : TakesLine rest left line
  pub digits : IsDigits line

-- WHY no further line is decoded after so many, where `rest` is to come after them: it isn't digits, a limit is met, it is at
-- its end, the source failed, while no line is whole in what is held, or the sink, behind a line that there may be. Memory is
-- wanted before a byte is taken.
abbrev pub HasDumpReason : Status → Option (List ℕ) → Option (List ℕ) → List ℕ → ℕ → Type 0
HasDumpReason (status.Script at fault) rest left held count = (at ≡ count + 1) × (at ≤ most_lines) × IsNoDigits rest left fault
HasDumpReason (status.Limit at kind) rest left held count = (at ≡ count + 1) × IsPast kind rest count
HasDumpReason status.Done rest left held count = IsAtEnd rest
HasDumpReason status.SourceFault rest left held count = DecidesNothing count held
HasDumpReason status.SinkFault rest left held count = count < most_lines
HasDumpReason status.NoMemory rest left held count = (count ≡ 0) × (held ≡ [])
HasDumpReason status.StoreFault rest left held count = ⊥
HasDumpReason (status.ImageSize need have) rest left held count = ⊥
HasDumpReason status.HostFault rest left held count = ⊥
HasDumpReason status.Usage rest left held count = ⊥

-- WHAT IS LEFT of it: all, but that a line was read which isn't digits, or one of digits behind which the sink failed
abbrev pub DumpLeaves : Status → Option (List ℕ) → Option (List ℕ) → Type 0
DumpLeaves (status.Script at fault) rest left = (line : List ℕ) × TakesLine rest left line
DumpLeaves status.SinkFault rest left = TakesDigits rest left
DumpLeaves why rest left = Keeps rest left

-- both, where `held` and then what the source has are left
pub record DumpStops (why : Status) (rest : Option (List ℕ)) (held : List ℕ) (now : Option (List ℕ)) (count : ℕ) : Type 0 where
  pub reason : HasDumpReason why rest (prepend_known held now) held count
  pub left : DumpLeaves why rest (prepend_known held now)

-- HOW MUCH OF IT is held: behind a line that was taken less than one read gives, and where none was, the beginning of one and what
-- one read gave, or that alone
abbrev pub DumpHolds : Status → List ℕ → Type 0
DumpHolds (status.Script at fault) held = length held < most_of_a_read
DumpHolds status.SinkFault held = length held < most_of_a_read
DumpHolds (status.Limit at limit.Bytes) held = length held ≤ most_line_bytes + most_of_a_read
DumpHolds (status.Limit at limit.Lines) held = length held ≤ most_of_a_read
DumpHolds why held = ⊤

-- less than one read gives is held behind a line that was taken and spells nothing
abbrev pub HoldsBehind : Stop → List ℕ → Type 0
HoldsBehind (Faulty fault) held = length held < most_of_a_read
HoldsBehind stop held = ⊤
