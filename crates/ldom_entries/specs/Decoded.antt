-- The entries by their headers and by what stands beside them.
use Rattle.std.specs.Prelude.{◌≡◌, ℕ, Bool, true, false, List, [], ◌∷◌, Option, Some, None, slice_index_or}
use Rattle.domain_script.specs.declared.event.EndName.{EndName}
use Rattle.domain_script.specs.declared.event.Side.TheVariants.{Client, Server}
use Rattle.domain_script.specs.declared.fields.LaneKind.{LaneKind}
use Rattle.vdisk_msg.specs.declared.request.Request.{Request}
use Rattle.vdisk_msg.specs.declared.request.Request.TheVariants.{Flush}
use Rattle.vio_tag.specs.declared.cause.Cause.{Cause}
use Rattle.vio_tag.specs.declared.cause.Cause.TheVariants.{Asked}
use Rattle.ldom_entries.specs.Beside.{Lists, Share, HoldsShare, nothing, rest_of, share_of}
use Rattle.kept_requests.specs.Bytes.{BytesState, filled}
use Rattle.ldom_entries.specs.declared.entry.Entry.{Entry}
use Rattle.ldom_entries.specs.declared.entry.Entry.TheVariants as entry
use Rattle.ldom_entries.specs.declared.entry.Who.{Who}
use Rattle.ldom_entries.specs.declared.entry.Who.TheVariants.{Lane as OfLane, End as OfEnd}
use Rattle.ldom_entries.specs.declared.header.EndMark.{EndMark}
use Rattle.ldom_entries.specs.declared.header.Header.{Header}
use Rattle.ldom_entries.specs.declared.header.Header.TheVariants as header
use Rattle.ldom_entries.specs.declared.header.Part.{Part}
use Rattle.ldom_entries.specs.declared.header.Part.TheVariants as the_part

-- the end with this mark, of the lane with this number; and the lane of this kind, or one of its ends
abbrev pub end_at : EndMark → ℕ → EndName
end_at at number = record { lane = record { kind = at.kind; number = number }; side = at.side }

abbrev pub who_at : LaneKind → ℕ → Part → Who
who_at kind number the_part.Lane = OfLane (record { kind = kind; number = number })
who_at kind number the_part.Client = OfEnd (end_at (record { side = Client; kind = kind }) number)
who_at kind number the_part.Server = OfEnd (end_at (record { side = Server; kind = kind }) number)

-- the first number beside an entry, and the second; its packet; its descriptor; its request; its cause; its frame; itself
abbrev pub first_number : Lists → ℕ
first_number l = slice_index_or l.numbers 0 0

abbrev pub second_number : Lists → ℕ
second_number l = slice_index_or l.numbers 1 0

abbrev pub packet_in : Lists → List ℕ
packet_in l = slice_index_or l.packets 0 []

abbrev pub descriptor_in : Lists → List ℕ
descriptor_in l = slice_index_or l.descriptors 0 []

abbrev pub request_in : Lists → Request
request_in l = slice_index_or l.requests 0 Flush

abbrev pub cause_in : Lists → Cause
cause_in l = slice_index_or l.causes 0 Asked

abbrev pub frame_in : Lists → BytesState
frame_in l = filled (slice_index_or l.frames 0 [])

abbrev pub whole_in : Lists → Entry
whole_in l = slice_index_or l.wholes 0 entry.Settled

-- what only some have
abbrev pub read_in : Bool → Lists → BytesState
read_in true l = slice_index_or l.reads 0 (filled [])
read_in false l = filled []

abbrev pub packet_where : Bool → Lists → Option (List ℕ)
packet_where true l = Some (packet_in l)
packet_where false l = None

abbrev pub one_where : Bool → ℕ
one_where true = 1
one_where false = 0

-- so many of each list, and no frame and nothing whole; so many numbers and packets, and nothing else; a frame with so
-- many numbers; one that is kept whole
abbrev pub these : ℕ → ℕ → ℕ → ℕ → ℕ → ℕ → Share
these numbers packets descriptors reads requests causes = record {
  numbers = numbers;
  packets = packets;
  descriptors = descriptors;
  reads = reads;
  requests = requests;
  causes = causes;
  frames = 0;
  wholes = 0;
}

abbrev pub needs : ℕ → ℕ → Share
needs numbers packets = these numbers packets 0 0 0 0

abbrev pub framed : ℕ → Share
framed numbers = record (needs numbers 0) { frames = 1 }

abbrev pub a_whole : Share
a_whole = record (needs 0 0) { wholes = 1 }

-- HOW MUCH STANDS BESIDE A HEADER
abbrev pub share : Header → Share
share (header.Accepted disk) = these 1 0 0 0 1 0
share (header.Full part kind number) = needs 0 0
share (header.Refused part kind why number) = needs 0 0
share (header.Queued port) = framed 1
share (header.Lost at number) = needs 0 1
share (header.Injected at number) = needs 0 1
share (header.Stopped disk) = needs 0 0
share (header.Started disk) = needs 0 0
share (header.Calm part kind number) = needs 0 0
share header.Settled = needs 0 0
share (header.Unsettled part kind number) = needs 0 0
share (header.Idle at number) = needs 0 0
share (header.Off at number) = needs 0 0
share (header.Blocked at number) = needs 0 0
share (header.Joined at number) = needs 1 0
share (header.Took at opens number) = needs 0 1
share (header.Sent at opens number) = needs 0 1
share (header.Published at number) = needs 1 0
share (header.Done operation read disk) = these 2 0 0 (one_where read) 0 0
share (header.Desc at number) = these 1 0 1 0 0 0
share (header.Moved at number) = needs 1 0
share (header.NotMoved at fault number) = needs 1 0
share (header.Stored at operation number) = needs 2 0
share (header.NotStored at operation number) = needs 2 0
share (header.Finished at number) = needs 2 0
share (header.Frame at number) = framed 0
share (header.Switched at number) = framed 2
share (header.Reset at packet number) = these 1 (one_where packet) 0 0 0 1
share header.Whole = a_whole

-- THE ENTRY of a header and what stands beside it
abbrev pub entry_of : Header → Lists → Entry
entry_of (header.Accepted disk) l = entry.Accepted disk (first_number l) (request_in l)
entry_of (header.Full part kind number) l = entry.Full (who_at kind number part)
entry_of (header.Refused part kind why number) l = entry.Refused (who_at kind number part) why
entry_of (header.Queued port) l = entry.Queued port (first_number l) (frame_in l)
entry_of (header.Lost at number) l = entry.Lost (end_at at number) (packet_in l)
entry_of (header.Injected at number) l = entry.Injected (end_at at number) (packet_in l)
entry_of (header.Stopped disk) l = entry.Stopped disk
entry_of (header.Started disk) l = entry.Started disk
entry_of (header.Calm part kind number) l = entry.Calm (who_at kind number part)
entry_of header.Settled l = entry.Settled
entry_of (header.Unsettled part kind number) l = entry.Unsettled (who_at kind number part)
entry_of (header.Idle at number) l = entry.Idle (end_at at number)
entry_of (header.Off at number) l = entry.Off (end_at at number)
entry_of (header.Blocked at number) l = entry.Blocked (end_at at number)
entry_of (header.Joined at number) l = entry.Joined (end_at at number) (first_number l)
entry_of (header.Took at opens number) l = entry.Took (end_at at number) (packet_in l) opens
entry_of (header.Sent at opens number) l = entry.Sent (end_at at number) (packet_in l) opens
entry_of (header.Published at number) l = entry.Published (end_at at number) (first_number l)
entry_of (header.Done operation read disk) l = entry.Done disk (first_number l) operation (second_number l) (read_in read l)
entry_of (header.Desc at number) l = entry.Desc (end_at at number) (first_number l) (descriptor_in l)
entry_of (header.Moved at number) l = entry.Moved (end_at at number) (first_number l) None
entry_of (header.NotMoved at fault number) l = entry.Moved (end_at at number) (first_number l) (Some fault)
entry_of (header.Stored at operation number) l = entry.Stored (end_at at number) operation (first_number l) (second_number l) false
entry_of (header.NotStored at operation number) l = entry.Stored (end_at at number) operation (first_number l) (second_number l) true
entry_of (header.Finished at number) l = entry.Finished (end_at at number) (first_number l) (second_number l)
entry_of (header.Frame at number) l = entry.Frame (end_at at number) (frame_in l)
entry_of (header.Switched at number) l = entry.Switched (end_at at number) (first_number l) (second_number l) (frame_in l)
entry_of (header.Reset at packet number) l = entry.Reset (end_at at number) (cause_in l) (packet_where packet l) (first_number l)
entry_of header.Whole l = whole_in l

-- the same, which takes its share from the front of the lists
abbrev pub first_entry : Header → Lists → Entry
first_entry h l = entry_of h (share_of (share h) l)

-- THE ENTRIES, in order: each takes its share from the front of the lists
abbrev pub entries_of : List Header → Lists → List Entry
entries_of [] l = []
entries_of (h ∷ headers) l = first_entry h l ∷ entries_of headers (rest_of (share h) l)

-- each finds its share, and nothing is left after the last
abbrev pub AreComplete : List Header → Lists → Type 0
AreComplete [] l = l ≡ nothing
AreComplete (h ∷ headers) l = HoldsShare (share h) l × AreComplete headers (rest_of (share h) l)

-- the kind of a header's entry, which doesn't ask what stands beside it; for an entry that is kept whole, one that may be seen
abbrev pub kind_of : Header → Entry
kind_of h = entry_of h nothing
