-- What the entries of a journal say of the lanes of disks and ports. `meaning` alone lists the kinds of entry: laws of
-- lanes go by what an entry means.
use Rattle.std.specs.Prelude.{ℕ, List}
use Rattle.ldc_queue.specs.declared.end.End.{End}
use Rattle.ldc_queue.specs.declared.end.End.TheVariants.{A, B}
use Rattle.lane_models.specs.WireEvent.{WireEvent}
use Rattle.lane_models.specs.WireEvent as wire
use Rattle.lane_models.specs.DiskEvent.{DiskEvent, Asks, Works}
use Rattle.lane_models.specs.DiskEvent as disk
use Rattle.domain_script.specs.declared.event.EndName.{EndName}
use Rattle.domain_script.specs.declared.event.Side.{Side}
use Rattle.domain_script.specs.declared.event.Side.TheVariants.{Client, Server}
use Rattle.ldom_entries.specs.declared.entry.Entry.{Entry}
use Rattle.ldom_entries.specs.declared.entry.Entry.TheVariants as entry
use Rattle.ldom_entries.specs.declared.entry.Who.{Who}
use Rattle.ldom_entries.specs.declared.entry.Why.{Why}

-- the end of a channel that a side has
abbrev pub end_of : Side → End
end_of Client = A
end_of Server = B

-- what the guest of a port is given: a frame, under this id; or a group
pub data GuestGets : Type 0 where
  GetsFrame : (id : ℕ) (frame : List ℕ) → GuestGets
  GetsGroup : (address : List ℕ) → GuestGets

-- WHAT AN ENTRY MEANS, whatever line it came in: an event on the channel of an end, of the work of a server, or of a
-- disk as a whole; a request that a disk's client put into its ring, or a frame that an end of a port did; what the guest
-- of a port is given; a frame that a guest takes; one that the switch takes, with the ports that have it and those that
-- were full; what found no room, or was refused; what changes nothing; what a settle leaves over, or that it leaves nothing
pub data Meaning : Type 0 where
  AtWire : (e : EndName) (event : WireEvent) → Meaning
  AtServer : (e : EndName) (event : DiskEvent) → Meaning
  AtLane : (k : ℕ) (event : DiskEvent) → Meaning
  Publishes : (e : EndName) (id : ℕ) → Meaning
  AtPort : (k : ℕ) (gets : GuestGets) → Meaning
  TakesFrame : (e : EndName) (frame : List ℕ) → Meaning
  Switches : (e : EndName) (frame : List ℕ) (out full : ℕ) → Meaning
  NoRoomFor : (who : Who) → Meaning
  Refuses : (who : Who) (why : Why) → Meaning
  ChangesNothing : (who : Who) → Meaning
  LeavesOver : (who : Who) → Meaning
  LeavesNothing : Meaning

-- what each kind of entry means
abbrev pub meaning : Entry → Meaning
meaning (entry.Accepted k id request) = AtLane k (Asks (disk.Accepted id request))
meaning (entry.Full who) = NoRoomFor who
meaning (entry.Refused who why) = Refuses who why
meaning (entry.Queued k id bytes) = AtPort k (GetsFrame id bytes.items)
meaning (entry.Member k address) = AtPort k (GetsGroup address)
meaning (entry.Lost e packet) = AtWire e (wire.Lost (end_of e.side) packet)
meaning (entry.Injected e packet) = AtWire e (wire.Injected (end_of e.side) packet)
meaning (entry.Poked e at bytes) = AtWire e (wire.Poked (end_of e.side) at bytes.items)
meaning (entry.Stopped k) = AtLane k (disk.Switches disk.Stopped)
meaning (entry.Started k) = AtLane k (disk.Switches disk.Started)
meaning (entry.Calm who) = ChangesNothing who
meaning entry.Settled = LeavesNothing
meaning (entry.Unsettled who) = LeavesOver who
meaning (entry.Idle e) = AtWire e (wire.Idle (end_of e.side))
meaning (entry.Off e) = AtServer e (disk.Switches disk.Off)
meaning (entry.Blocked e) = AtWire e (wire.Blocked (end_of e.side))
meaning (entry.Joined e lost) = AtWire e (wire.Joined (end_of e.side) lost)
meaning (entry.Took e packet opens) = AtWire e (wire.Took (end_of e.side) packet opens)
meaning (entry.Sent e packet opens) = AtWire e (wire.Sent (end_of e.side) packet opens)
meaning (entry.Published e id) = Publishes e id
meaning (entry.Done k id operation status bytes) = AtLane k (Works (disk.Done id operation status bytes.items))
meaning (entry.Desc e slot bytes) = AtServer e (Works (disk.Desc slot bytes))
meaning (entry.Moved e unit fault) = AtServer e (Works (disk.Moved unit fault))
meaning (entry.Stored e operation block count failed) = AtServer e (Works (disk.Stored operation block count failed))
meaning (entry.Finished e slot status) = AtServer e (Works (disk.Finished slot status))
meaning (entry.Frame e bytes) = TakesFrame e bytes.items
meaning (entry.Switched e out full bytes) = Switches e bytes.items out full
meaning (entry.Reset e cause packet lost) = AtWire e (wire.Reset (end_of e.side) cause packet lost)
