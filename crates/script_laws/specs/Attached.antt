-- Where a script's image is attached, and whether a run has one.
use Rattle.std.specs.Prelude.{◌≡◌, ◌↔◌, ℕ, ◌⊎◌, Bool, true, false, IsTrue, List, [], ◌∷◌, ◌++◌, Option, Some, None, IsNone, IsSome, IsSomeAnd, ⊤}
use Rattle.std.specs.Io.KnownBytes.{IsAtEnd}
use Rattle.domain_script.specs.declared.event.Event.{Event}
use Rattle.domain_script.specs.declared.event.Event.TheVariants as line
use Rattle.ldom_entries.specs.declared.entry.Entry.{Entry}
use Rattle.ldom_report.specs.declared.status.Status.{Status}
use Rattle.ldom_report.specs.declared.status.Status.TheVariants as status
use Rattle.world_parts.specs.Script.{ScriptParts, events_of}

-- whether a line is blank or a declaration
abbrev pub is_opening : Event → Bool
is_opening line.Blank = true
is_opening (line.Disk disk) = true
is_opening (line.Net port) = true
is_opening other = false

-- blank lines and declarations
abbrev pub AreOpening : List Event → Type 0
AreOpening [] = ⊤
AreOpening (event ∷ events) = IsTrue (is_opening event) × AreOpening events

-- such lines, and then the first other one
pub record EndsOpening (events : List Event) : Type 0 where
  pub opening : List Event
  pub are : AreOpening opening
  pub event : Event
  pub other : is_opening event ≡ false
  pub events_are : events ≡ opening ++ event ∷ []

-- The image is attached after these lines: the last of them is the first that is neither blank nor a declaration, or none
-- of them is and nothing is to come.
abbrev pub AttachesAt : List Event → Option (List ℕ) → Type 0
AttachesAt events rest = (AreOpening events × IsAtEnd rest) ⊎ EndsOpening events

-- the last of these lines was cut off, which is neither blank nor a declaration
abbrev pub IsCutOff : ScriptParts → Type 0
IsCutOff parts = IsSomeAnd parts.cut (λ last. is_opening last.0 ≡ false)

-- Whether there is an image where a run ended so after these lines: exactly where one was attached. At `HostFault`
-- attaching it failed, and at `ImageSize` it is too short; for want of memory it may have failed, where no step was made
-- yet: the host's count tells (`Gave`). Over an image memory is wanted by the work of a line alone: so never at the end.
abbrev pub ImageStands : {D : Type 0} → Status → ScriptParts → Option (List ℕ) → List Entry → Option D → Type 0
ImageStands status.Done parts rest journal image = IsSome image
ImageStands status.StoreFault parts rest journal image = IsSome image
ImageStands status.HostFault parts rest journal image = IsNone image × AttachesAt (events_of parts) rest
ImageStands (status.ImageSize need have) parts rest journal image = IsSome image × AttachesAt (events_of parts) rest
ImageStands status.NoMemory parts rest journal None = (journal ≡ []) × (AreOpening (events_of parts) ⊎ AttachesAt (events_of parts) rest)
ImageStands status.NoMemory parts rest journal (Some image) = IsCutOff parts
ImageStands (status.Script at fault) parts rest journal image = IsNone image ↔ AreOpening (events_of parts)
ImageStands (status.Limit at kind) parts rest journal image = IsNone image ↔ AreOpening (events_of parts)
ImageStands status.SourceFault parts rest journal image = IsNone image ↔ AreOpening (events_of parts)
ImageStands status.Usage parts rest journal image = ⊥
ImageStands status.SinkFault parts rest journal image = ⊥
