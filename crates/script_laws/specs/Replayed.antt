-- What a run did with its script, up to where it stopped.
use Rattle.std.specs.Prelude.{◌≡◌, ℕ, ◌<◌, Bool, if◌then◌else◌, List, length, Option, IfSome, IsSome, ⊤}
use Rattle.disk_law.specs.ListState.{ImageState}
use Rattle.domain_script.specs.declared.event.Event.{Event}
use Rattle.domain_script.specs.NamesState.{NamesState}
use Rattle.ldom_entries.specs.declared.entry.Entry.{Entry}
use Rattle.ldom_report.specs.declared.status.Status.{Status}
use Rattle.ldom_report.specs.declared.status.Status.TheVariants as status
use Rattle.vio_io.specs.declared.host.AttachFault.{AttachFault}
use Rattle.vio_io.specs.declared.host.AttachFault.TheVariants.{Failed, Memory}
use Rattle.ldom_report.specs.LinesEnd.{counted_lines}
use Rattle.script_reader.specs.LinesState.{AllFed}
use Rattle.script_laws.specs.Attached.{ImageStands}
use Rattle.script_laws.specs.Behind.{StandsBehind}
use Rattle.world_parts.specs.Endings.{JournalIs, ending}
use Rattle.world_parts.specs.domain_laws.Domain.{DomainState, Lanes}
use Rattle.script_laws.specs.Reading.{StopsAt}
use Rattle.script_laws.specs.LanesStand.{LanesStand}
use Rattle.script_laws.specs.Script.{ReadSoFar}
use Rattle.disk_law.specs.ListState.{attached}
use Rattle.world_parts.specs.Declared.{bytes_needed, nets_of, world_of}
use Rattle.world_parts.specs.Script.{ScriptParts, events_of}

-- These events were read, and then no further line was taken up, where the journal has so many entries; the report counts
-- so many lines. The source has `now` left, and what was taken from it and is in no line is held. Where the source
-- failed, each line that was taken up had its line feed.
pub record Stopped (start now : Option (List ℕ)) (why : Status) (events : List Event) (names : NamesState) (entries lines : ℕ) : Type 0 where
  pub left : Option (List ℕ)
  pub count : ℕ
  pub read : ReadSoFar start left events names count
  pub held : List ℕ
  pub stop : StopsAt why left held now names count entries
  pub feeds : why ≡ status.SourceFault → AllFed start left read.texts
  pub lines_are : lines ≡ counted_lines why count

-- why a run ended where no image was attached
abbrev pub attach_status : AttachFault → Status
attach_status Failed = status.HostFault
attach_status Memory = status.NoMemory

-- the image's faults by how the run ended: at the input's end there is an image, and they tell `StoreFault` from `Done`
abbrev pub FaultsAre : {D : Type 0} → Status → Option D → ℕ → Type 0
FaultsAre status.Done image faults = IsSome image × (faults ≡ 0)
FaultsAre status.StoreFault image faults = IsSome image × (0 < faults)
FaultsAre other image faults = ⊤

-- the status of a run that came so far, by whether the image failed: at the input's end that is `StoreFault`
abbrev pub ended_status : Status → Bool → Status
ended_status status.Done faulty = if faulty then status.StoreFault else status.Done
ended_status other faulty = other

-- the world as a run begins, over what attaching gives for so many bytes
abbrev pub start_of : NamesState → (ℕ → Option (List ℕ)) → DomainState
start_of names gives = world_of names.disks (nets_of names.ports) (attached (gives (bytes_needed names.disks)))

-- A run: its script was read up to where it stopped, its journal is one part for each line, and the image and the lanes are
-- what the journal makes of the image that was attached and of fresh lanes, but that reads may have been spared the image.
-- The source has `now` left. `seen` is what contracts see of an image.
pub record Replayed {D : Type 0} (seen : D → ImageState) (script now : Option (List ℕ)) (gives : ℕ → Option (List ℕ))
    (why : Status) (lines : ℕ) (names : NamesState) (journal : List Entry) (image : Option D) (lanes : Option Lanes) : Type 0 where
  -- its lines with their parts, of which all that is said of the run speaks
  pub parts : ScriptParts
  pub stopped : Stopped script now why (events_of parts) names (length journal) lines
  pub final : DomainState
  pub journal_is : JournalIs (ending why) (start_of names gives) parts journal final
  pub image_is : IfSome image (λ disk. StandsBehind (seen disk) final.first.image)
  pub faults_are : FaultsAre why image final.first.image.faults
  pub image_stands : ImageStands why parts stopped.left journal image
  pub lanes_stand : LanesStand why image lanes final
