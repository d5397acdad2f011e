-- What an event must be so that it can be told in words.
use Rattle.std.specs.Prelude.{◌≡◌, ℕ, ◌%◌, ◌<◌, ◌≤◌, List, length, ⊤}
use Rattle.vdisk_msg.specs.Requests.{IsOperation}
use Rattle.vio_tag.specs.declared.cause.Cause.{Cause}
use Rattle.vio_tag.specs.declared.cause.Cause.TheVariants as the_cause
use Rattle.lane_models.specs.WireEvent.{Joined, Reset}
use Rattle.lane_models.specs.DiskEvent.{DiskEvent, Done, OnWire, Stored, Works}

-- at least one block, and whole ones
abbrev pub AreBlocks : List ℕ → Type 0
AreBlocks bytes = (0 < length bytes) × (length bytes % 512 ≡ 0)

-- what a read carries that succeeded
abbrev pub ReadsBlocks : ℕ → ℕ → List ℕ → Type 0
ReadsBlocks operation status bytes = operation ≡ 1 → status ≡ 0 → AreBlocks bytes

-- a copy is refused for one of six faults, by their numbers
abbrev pub NamesFault : Cause → Type 0
NamesFault (the_cause.Copy fault) = (1 ≤ fault) × (fault ≤ 6)
NamesFault _ = ⊤

-- AN EVENT THAT HAS WORDS: its operation and its cause have names, what it carries is blocks, and no frames are lost by it
abbrev pub HasWords : DiskEvent → Type 0
HasWords (Works (Done id operation status bytes)) = IsOperation operation × ReadsBlocks operation status bytes
HasWords (Works (Stored operation block count failed)) = IsOperation operation
HasWords (OnWire (Joined e lost)) = lost ≡ 0
HasWords (OnWire (Reset e cause packet lost)) = NamesFault cause × (lost ≡ 0)
HasWords _ = ⊤
