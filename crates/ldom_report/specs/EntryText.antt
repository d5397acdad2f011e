-- The line of an entry.
use Rattle.std.specs.Prelude.{ℕ, Bool, true, false, ◌==◌, ◌&&◌, if◌then◌else◌, List, [], ◌++◌, take, Option, Some, codes, count_ones, decimal}
use Rattle.std.specs.List.{flat_map}
use Rattle.hex.specs.Hex.{encode_lower}
use Rattle.cookie_copy.specs.declared.fault.CopyFault.{CopyFault}
use Rattle.vio_tag.specs.CauseText.{cause_text}
use Rattle.vio_tag.specs.declared.cause.Cause.{Cause}
use Rattle.domain_script.specs.Declarations.{Declared}
use Rattle.domain_script.specs.declared.event.EndName.{EndName}
use Rattle.domain_script.specs.LaneKinds.{disk_lane, port_lane}
use Rattle.vdisk_msg.specs.declared.request.Request.{Request}
use Rattle.vdisk_msg.specs.declared.request.Request.TheVariants.{Read, Write, Flush}
use Rattle.ldom_entries.specs.declared.entry.Entry.{Entry}
use Rattle.ldom_entries.specs.declared.entry.Entry.TheVariants as entry
use Rattle.ldom_report.specs.declared.status.Mode.{Mode}
use Rattle.ldom_report.specs.declared.status.Mode.TheVariants.{Run, Trace, EndOnly}
use Rattle.kept_requests.specs.BlockWord.{blocks_text}
pub use Rattle.ldom_entries.specs.Seen.{is_seen, may_be_seen}
pub use Rattle.line_words.specs.LineNames.{end_name, end_text, id_text, lane_name, number_text, who_name}
pub use Rattle.line_words.specs.LineWords.{failed_word, fault_word, opens_text, operation_word, side_text, why_word}

-- a range of blocks: the first, and how many
abbrev pub range_text : ℕ → ℕ → List ℕ
range_text block count = decimal block ++ codes " " ++ decimal count

-- what a request asks, a write's word in hexadecimal digits
abbrev pub request_text : Request → List ℕ
request_text (Read block count) = codes " read " ++ range_text block count
request_text (Write block count fill) = codes " write " ++ range_text block count ++ codes " " ++ encode_lower (take fill.len fill.bytes)
request_text Flush = codes " flush"

-- the kind of an entry and its end, and bytes after them
abbrev pub bytes_text : List ℕ → Declared → EndName → List ℕ → List ℕ
bytes_text kind declared e bytes = end_text kind declared e ++ codes " " ++ encode_lower bytes

-- a unit that was copied
abbrev pub moved_text : Declared → EndName → ℕ → Option CopyFault → List ℕ
moved_text declared e unit fault = number_text (codes "moved ") declared e unit ++ codes " " ++ fault_word fault

-- a call of the store: what it asked, and how it ended
abbrev pub call_text : Declared → EndName → ℕ → ℕ → ℕ → List ℕ
call_text declared e operation block count = end_text (codes "stored ") declared e ++ codes " " ++ operation_word operation ++ codes " " ++ range_text block count

abbrev pub stored_text : Declared → EndName → ℕ → ℕ → ℕ → Bool → List ℕ
stored_text declared e operation block count failed = call_text declared e operation block count ++ codes " " ++ failed_word failed

-- how many frames a reset lost, where it lost some; and, in a trace, the packet that it took
abbrev pub lost_text : ℕ → List ℕ
lost_text lost = if lost == 0 then [] else codes " lost=" ++ decimal lost

abbrev pub took_text : Mode → Option (List ℕ) → List ℕ
took_text Trace (Some packet) = codes " took=" ++ encode_lower packet
took_text mode packet = []

abbrev pub reset_text : Mode → Declared → EndName → Cause → Option (List ℕ) → ℕ → List ℕ
reset_text mode declared e cause packet lost = end_text (codes "reset ") declared e ++ codes " " ++ cause_text cause ++ lost_text lost ++ took_text mode packet

-- a completion, but for the words of its blocks
abbrev pub done_text : Declared → ℕ → ℕ → ℕ → ℕ → List ℕ
done_text declared disk id operation status = id_text (codes "done ") declared (disk_lane disk) id ++ codes " " ++ operation_word operation ++ codes " " ++ decimal status

-- a frame that the switch dropped, as its address is that of no port; and one that it dropped for so many ports whose
-- queues were full. A set of ports is a number, each port a bit.
abbrev pub unknown_text : Declared → EndName → List ℕ
unknown_text declared e = end_text (codes "dropped ") declared e ++ codes " unknown"

abbrev pub full_text : Declared → EndName → ℕ → List ℕ
full_text declared e full = end_text (codes "dropped ") declared e ++ codes " full " ++ decimal (count_ones full)

-- the ports that have the frame, and those that were full
abbrev pub sets_text : Declared → EndName → ℕ → ℕ → List ℕ
sets_text declared e out full = number_text (codes "switched ") declared e out ++ codes " " ++ decimal full

-- A frame that was dropped for some ports has two lines, of which a run shows the second.
abbrev pub first_line : Mode → List ℕ → List ℕ
first_line Trace line = line ++ codes "\n"
first_line mode line = []

abbrev pub switched_text : Mode → Declared → EndName → ℕ → ℕ → List ℕ
switched_text mode declared e out full =
    if full == 0 then (if out == 0 then unknown_text declared e else sets_text declared e out full)
    else first_line mode (sets_text declared e out full) ++ full_text declared e full

-- what stands after the head of a line: the words of its blocks after a read with status 0, and the bytes of a poke or of
-- a frame
abbrev pub tail_text : Entry → List ℕ
tail_text (entry.Done disk id operation status bytes) = if (operation == 1) && (status == 0) then blocks_text bytes.items else []
tail_text (entry.Queued port id bytes) = encode_lower bytes.items
tail_text (entry.Poked e at bytes) = encode_lower bytes.items
tail_text (entry.Frame e bytes) = encode_lower bytes.items
tail_text other = []

-- AN ENTRY'S LINE before the words of a read, or the bytes of a poke or a frame, and the line feed. What lists the kinds
-- of entry: this and `meaning`, and in the code `push_whole` those that are kept whole, and `push_front` the others.
abbrev pub head_text : Mode → Declared → Entry → List ℕ
head_text mode declared (entry.Accepted disk id request) = id_text (codes "accepted ") declared (disk_lane disk) id ++ request_text request
head_text mode declared (entry.Full who) = codes "full " ++ who_name declared who
head_text mode declared (entry.Refused who why) = codes "refused " ++ who_name declared who ++ codes " " ++ why_word why
head_text mode declared (entry.Queued port id bytes) = id_text (codes "queued ") declared (port_lane port) id ++ codes " "
head_text mode declared (entry.Member port address) = codes "member " ++ lane_name declared (port_lane port) ++ codes " " ++ encode_lower address
head_text mode declared (entry.Lost e packet) = bytes_text (codes "lost ") declared e packet
head_text mode declared (entry.Injected e packet) = bytes_text (codes "injected ") declared e packet
head_text mode declared (entry.Poked e at bytes) = number_text (codes "poked ") declared e at ++ codes " "
head_text mode declared (entry.Stopped disk) = codes "stopped " ++ lane_name declared (disk_lane disk)
head_text mode declared (entry.Started disk) = codes "started " ++ lane_name declared (disk_lane disk)
head_text mode declared (entry.Calm who) = codes "calm " ++ who_name declared who
head_text mode declared entry.Settled = codes "settled"
head_text mode declared (entry.Unsettled who) = codes "unsettled " ++ who_name declared who
head_text mode declared (entry.Idle e) = end_text (codes "idle ") declared e
head_text mode declared (entry.Off e) = end_text (codes "off ") declared e
head_text mode declared (entry.Blocked e) = end_text (codes "blocked ") declared e
head_text mode declared (entry.Joined e lost) = end_text (codes "joined ") declared e ++ codes " lost=" ++ decimal lost
head_text mode declared (entry.Took e packet opens) = bytes_text (codes "took ") declared e packet ++ opens_text opens
head_text mode declared (entry.Sent e packet opens) = bytes_text (codes "sent ") declared e packet ++ opens_text opens
head_text mode declared (entry.Published e id) = number_text (codes "published ") declared e id
head_text mode declared (entry.Done disk id operation status bytes) = done_text declared disk id operation status
head_text mode declared (entry.Desc e slot bytes) = number_text (codes "desc ") declared e slot ++ codes " " ++ encode_lower bytes
head_text mode declared (entry.Moved e unit fault) = moved_text declared e unit fault
head_text mode declared (entry.Stored e operation block count failed) = stored_text declared e operation block count failed
head_text mode declared (entry.Finished e slot status) = number_text (codes "finished ") declared e slot ++ codes " " ++ decimal status
head_text mode declared (entry.Frame e bytes) = end_text (codes "frame ") declared e ++ codes " "
head_text mode declared (entry.Switched e out full bytes) = switched_text mode declared e out full
head_text mode declared (entry.Reset e cause packet lost) = reset_text mode declared e cause packet lost

-- an entry's line, or its two lines
abbrev pub line_text : Mode → Declared → Entry → List ℕ
line_text mode declared entry = head_text mode declared entry ++ tail_text entry ++ codes "\n"

-- whether a mode shows an entry
abbrev pub shows : Mode → Entry → Bool
shows Run entry = is_seen entry
shows Trace entry = true
shows EndOnly entry = false

-- Whether an entry is looked into for a mode: what may be kept whole may turn out not to be shown.
abbrev pub may_show : Mode → Entry → Bool
may_show Run entry = may_be_seen entry
may_show Trace entry = true
may_show EndOnly entry = false

-- an entry's line where the mode shows it
abbrev pub entry_lines : Mode → Declared → Entry → List ℕ
entry_lines mode declared entry = if shows mode entry then line_text mode declared entry else []

-- the lines of a report before its end line
abbrev pub report_entries : Mode → Declared → List Entry → List ℕ
report_entries mode declared entries = flat_map (entry_lines mode declared) entries
