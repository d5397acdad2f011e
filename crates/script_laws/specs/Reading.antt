-- One line of a script after another, and why no further one is taken up.
use Rattle.std.specs.Prelude.{◌≡◌, ◌⊎◌, ℕ, ◌+◌, ◌<◌, ◌≤◌, true, List, [], length, Option, Some, ⊤}
use Rattle.std.specs.Io.KnownBytes.{IsAtEnd, Keeps, prepend_known}
use Rattle.domain_script.specs.declared.event.Event.{Event}
use Rattle.domain_script.specs.declared.event.LineFault.{LineFault}
use Rattle.domain_script.specs.Faults.{first_fault}
use Rattle.domain_script.specs.NamesState.{NamesState, noted}
use Rattle.domain_script.specs.Pieces.{DecidesNothing}
use Rattle.domain_script.specs.ScriptLines.{TakesLine}
use Rattle.domain_script.specs.Spells.{Spells}
use Rattle.ldom_report.specs.LinesEnd.{IsPast, most_entries}
use Rattle.ldom_report.specs.declared.status.LimitKind.TheVariants as limit
use Rattle.ldom_report.specs.declared.status.Status.{Status}
use Rattle.ldom_report.specs.declared.status.Status.TheVariants as status
use Rattle.script_reader.specs.declared.lines.LinesStop.{LinesStop}
use Rattle.script_reader.specs.LinesState.{LineEnds, most_of_a_read}
use Rattle.domain_script.specs.Limits.{most_line_bytes, most_lines}

-- the next line spells this event, and ended as the reader behind it says
pub record ReadsEvent (stop : LinesStop) (rest left : Option (List ℕ)) (names : NamesState) (event : Event)
    (after : NamesState) : Type 0 where
  pub text : List ℕ
  pub taken : TakesLine rest left text
  pub short : length text ≤ most_line_bytes
  pub ends : LineEnds stop rest left text
  pub spells : Spells text names event
  pub noted_is : after ≡ noted names event

-- the next line has a fault, and this is its first
pub record IsFaulty (rest left : Option (List ℕ)) (names : NamesState) (fault : LineFault) : Type 0 where
  pub text : List ℕ
  pub taken : TakesLine rest left text
  pub short : length text ≤ most_line_bytes
  pub first : first_fault text names ≡ Some fault

-- a line came next, whatever it spells
pub record IsRead (rest left : Option (List ℕ)) : Type 0 where
  pub text : List ℕ
  pub taken : TakesLine rest left text
  pub short : length text ≤ most_line_bytes

-- behind a line that was taken up less is held than one read gives
abbrev pub HoldsLess : List ℕ → Type 0
HoldsLess held = length held < most_of_a_read

-- THE DECLARATIONS ARE BEHIND: a line that isn't one was taken up; or nothing is to come
abbrev pub IsDeclaredOut : Option (List ℕ) → List ℕ → NamesState → Type 0
IsDeclaredOut rest held names = ((names.ended ≡ true) × HoldsLess held) ⊎ IsAtEnd rest

-- Memory was wanted before a byte was taken, or behind the declarations.
abbrev pub WantsMemory : Option (List ℕ) → List ℕ → NamesState → ℕ → Type 0
WantsMemory rest held names count = ((count ≡ 0) × (held ≡ [])) ⊎ IsDeclaredOut rest held names

-- WHY no line is taken up after so many, where the journal has so many entries: `rest` is to come, of which `left` is
-- left. Where the source failed, no line is whole in what it gave and is in no line, and no limit is met. The image is
-- attached, and found too short, behind the declarations.
abbrev pub HasReason : Status → Option (List ℕ) → Option (List ℕ) → List ℕ → NamesState → ℕ → ℕ → Type 0
HasReason (status.Script at fault) rest left held names count entries = (at ≡ count + 1) × (at ≤ most_lines) × (entries < most_entries) × IsFaulty rest left names fault
HasReason (status.Limit at limit.Entries) rest left held names count entries = (at ≡ count + 1) × (at ≤ most_lines) × (most_entries ≤ entries)
HasReason (status.Limit at kind) rest left held names count entries = (at ≡ count + 1) × IsPast kind rest count
HasReason status.Done rest left held names count entries = IsAtEnd rest
HasReason status.StoreFault rest left held names count entries = IsAtEnd rest
HasReason status.SourceFault rest left held names count entries = DecidesNothing count held
HasReason status.HostFault rest left held names count entries = IsDeclaredOut rest held names
HasReason (status.ImageSize need have) rest left held names count entries = IsDeclaredOut rest held names
HasReason status.NoMemory rest left held names count entries = WantsMemory rest held names count
HasReason status.Usage rest left held names count entries = ⊥
HasReason status.SinkFault rest left held names count entries = ⊥

-- WHAT IS LEFT: a line with a fault, or one that begins with too many entries, was taken; else all stays to come
abbrev pub LeavesUnread : Status → Option (List ℕ) → Option (List ℕ) → Type 0
LeavesUnread (status.Script at fault) rest left = IsRead rest left
LeavesUnread (status.Limit at limit.Entries) rest left = IsRead rest left
LeavesUnread _ rest left = Keeps rest left

-- HOW MUCH OF IT is held: where no line was taken, the beginning of one and what one read gave, or that alone
abbrev pub HoldsUnread : Status → List ℕ → Type 0
HoldsUnread (status.Script at fault) held = HoldsLess held
HoldsUnread (status.Limit at limit.Entries) held = HoldsLess held
HoldsUnread (status.Limit at limit.Bytes) held = length held ≤ most_line_bytes + most_of_a_read
HoldsUnread (status.Limit at limit.Lines) held = length held ≤ most_of_a_read
HoldsUnread _ held = ⊤

-- all three, where that which is left is what is `held` and what the source has left
abbrev pub StopsAt : Status → Option (List ℕ) → List ℕ → Option (List ℕ) → NamesState → ℕ → ℕ → Type 0
StopsAt why rest held now names count entries = HasReason why rest (prepend_known held now) held names count entries × LeavesUnread why rest (prepend_known held now) × HoldsUnread why held
