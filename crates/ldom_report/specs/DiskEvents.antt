-- What the entries of a journal say of the requests of disks. `said` alone lists the kinds of entry: laws of a disk read its events.
use Rattle.std.specs.Prelude.{ℕ, ◌==◌, if◌then◌else◌, List, Option, Some, None}
use Rattle.std.specs.List.{filter_map}
use Rattle.vdisk_msg.specs.declared.request.Request.{Request}
use Rattle.disk_law.specs.ListStep.{ListEvent, Accepted, Full, Refused, Done}
use Rattle.disk_law.specs.Requests.{Defect, BadCount, BadRange}
use Rattle.domain_script.specs.declared.event.Event.{Event}
use Rattle.domain_script.specs.declared.event.Event.TheVariants as line
use Rattle.domain_script.specs.LaneKinds.{disk_of}
use Rattle.ldom_entries.specs.declared.entry.Entry.{Entry}
use Rattle.ldom_entries.specs.declared.entry.Entry.TheVariants as entry
use Rattle.ldom_entries.specs.declared.entry.Who.{Who}
use Rattle.ldom_entries.specs.declared.entry.Who.TheVariants.{End, Lane}
use Rattle.ldom_entries.specs.declared.entry.Why.{Why}
use Rattle.ldom_entries.specs.declared.entry.Why.TheVariants.{Count, Range, Length, Groups}

-- the defect for which a request is refused; the others are why a frame or a group is
abbrev pub defect_of : Why → Option Defect
defect_of Count = Some BadCount
defect_of Range = Some BadRange
defect_of Length = None
defect_of Groups = None

-- why a request wasn't taken up
pub data Refusal : Type 0 where
  NoRoom : Refusal
  Defective : (defect : Defect) → Refusal

-- what such a request is for its disk
abbrev pub refused : Refusal → Request → ListEvent
refused NoRoom request = Full request
refused (Defective defect) request = Refused defect request

-- what an entry says of disks
pub data Said : Type 0 where
  -- this became of the disk with this number
  BecameOf : (disk : ℕ) (event : ListEvent) → Said
  -- a request of this disk, that of the entry's line, wasn't taken up
  NotTaken : (disk : ℕ) (refusal : Refusal) → Said
  Nothing : Said

abbrev pub not_taken_on : Option ℕ → Refusal → Said
not_taken_on None refusal = Nothing
not_taken_on (Some disk) refusal = NotTaken disk refusal

abbrev pub not_taken : Who → Refusal → Said
not_taken (Lane lane) refusal = not_taken_on (disk_of lane) refusal
not_taken (End e) refusal = Nothing

abbrev pub not_taken_for : Who → Option Defect → Said
not_taken_for who None = Nothing
not_taken_for who (Some defect) = not_taken who (Defective defect)

abbrev pub said : Entry → Said
said (entry.Accepted disk id request) = BecameOf disk (Accepted id request)
said (entry.Full who) = not_taken who NoRoom
said (entry.Refused who why) = not_taken_for who (defect_of why)
said (entry.Done disk id operation status bytes) = BecameOf disk (Done id operation status bytes.items)
said other = Nothing

-- the request that a line asks
abbrev pub request_asked : Event → Option Request
request_asked (line.Issue disk request) = Some request
request_asked other = None

-- the event where it is of the disk x
abbrev pub for_disk : ℕ → ℕ → ListEvent → Option ListEvent
for_disk x disk event = if disk == x then Some event else None

-- what becomes of the request, if there is one, where it is of the disk x
abbrev pub refused_for : ℕ → ℕ → Refusal → Option Request → Option ListEvent
refused_for x disk refusal None = None
refused_for x disk refusal (Some request) = for_disk x disk (refused refusal request)

-- what was said of the disk x, where this request was asked
abbrev pub said_of : ℕ → Option Request → Said → Option ListEvent
said_of x asked (BecameOf disk event) = for_disk x disk event
said_of x asked (NotTaken disk refusal) = refused_for x disk refusal asked
said_of x asked Nothing = None

-- what an entry that came in the part of a line is for the disk x, if anything
abbrev pub disk_event : ℕ → Event → Entry → Option ListEvent
disk_event x asked entry = said_of x (request_asked asked) (said entry)

-- what happened_to to the disk x in the part of a line
abbrev pub happened_to : ℕ → Event → List Entry → List ListEvent
happened_to x asked part = filter_map (disk_event x asked) part

-- what the journal tells of the disk x, whatever its lines asked: which requests were accepted and completed
abbrev pub history : ℕ → List Entry → List ListEvent
history x entries = happened_to x line.Blank entries

-- what was said of whichever disk, whatever was asked
abbrev pub said_of_any : Said → Option ListEvent
said_of_any (BecameOf disk event) = Some event
said_of_any (NotTaken disk refusal) = None
said_of_any Nothing = None

-- what the journal tells of all disks together
abbrev pub whole_history : List Entry → List ListEvent
whole_history entries = filter_map (λ entry. said_of_any (said entry)) entries
