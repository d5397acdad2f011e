-- The entry that is read.
use Rattle.std.specs.Prelude.{[]}
use Rattle.kept_requests.specs.Bytes.{filled}
use Rattle.ldom_entries.specs.declared.entry.Entry.{Entry}
use Rattle.ldom_entries.specs.declared.entry.Entry.TheVariants as entry
use Rattle.ldom_entries.specs.declared.entry_ref.EntryRef.{EntryRef}
use Rattle.ldom_entries.specs.declared.entry_ref.EntryRef.TheVariants as shown

-- the entry that was put, by what is read of it
abbrev pub told : EntryRef → Entry
told (shown.Accepted disk id request) = entry.Accepted disk id request.now
told (shown.Full who) = entry.Full who
told (shown.Refused who why) = entry.Refused who why
told (shown.Queued port id bytes) = entry.Queued port id (filled bytes.now)
told (shown.Lost e packet) = entry.Lost e packet
told (shown.Injected e packet) = entry.Injected e packet
told (shown.Stopped disk) = entry.Stopped disk
told (shown.Started disk) = entry.Started disk
told (shown.Calm who) = entry.Calm who
told shown.Settled = entry.Settled
told (shown.Unsettled who) = entry.Unsettled who
told (shown.Idle e) = entry.Idle e
told (shown.Off e) = entry.Off e
told (shown.Blocked e) = entry.Blocked e
told (shown.Joined e lost) = entry.Joined e lost
told (shown.Took e packet opens) = entry.Took e packet opens
told (shown.Sent e packet opens) = entry.Sent e packet opens
told (shown.Published e id) = entry.Published e id
told (shown.Done disk id operation status) = entry.Done disk id operation status (filled [])
told (shown.Read disk id operation status bytes) = entry.Done disk id operation status bytes.now
told (shown.Desc e slot bytes) = entry.Desc e slot bytes
told (shown.Moved e unit fault) = entry.Moved e unit fault
told (shown.Stored e operation block count failed) = entry.Stored e operation block count failed
told (shown.Finished e slot status) = entry.Finished e slot status
told (shown.Frame e bytes) = entry.Frame e (filled bytes.now)
told (shown.Switched e out full bytes) = entry.Switched e out full (filled bytes.now)
told (shown.Reset e cause packet lost) = entry.Reset e cause packet lost
told (shown.Whole e) = e.now
