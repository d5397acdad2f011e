-- What an entry needs so that its line can be written.
use Rattle.std.specs.Prelude.{◌≡◌, ℕ, ◌%◌, ◌<◌, List, length, ⊤}
use Rattle.vdisk_msg.specs.Requests.{IsOperation}
use Rattle.domain_script.specs.LaneKinds.{disk_lane, port_lane}
use Rattle.domain_script.specs.Declarations.{Declared}
use Rattle.ldom_entries.specs.declared.entry.Entry.{Entry}
use Rattle.ldom_entries.specs.declared.entry.Entry.TheVariants as entry
use Rattle.ldom_report.specs.LaneEvents.{Meaning, AtWire, AtServer, AtLane, Publishes, AtPort, TakesFrame, Switches, NoRoomFor, Refuses, ChangesNothing, LeavesOver, LeavesNothing, meaning}
pub use Rattle.line_words.specs.HasFault.{HasFault}
pub use Rattle.line_words.specs.IsDeclared.{IsDeclared, IsEnd, IsLane}

-- the operation is one of the three, and a read with status 0 carries one block of 512 bytes or more
pub record IsCompletion (operation status : ℕ) (bytes : List ℕ) : Type 0 where
  pub one : IsOperation operation
  pub some : operation ≡ 1 → status ≡ 0 → 0 < length bytes
  pub blocks : operation ≡ 1 → status ≡ 0 → length bytes % 512 ≡ 0

-- whom an entry is about is declared, by what it means
abbrev pub NamesDeclared : Declared → Meaning → Type 0
NamesDeclared declared (AtWire e event) = IsEnd declared e
NamesDeclared declared (AtServer e event) = IsEnd declared e
NamesDeclared declared (AtLane k event) = IsLane declared (disk_lane k)
NamesDeclared declared (Publishes e id) = IsEnd declared e
NamesDeclared declared (AtPort k gets) = IsLane declared (port_lane k)
NamesDeclared declared (TakesFrame e frame) = IsEnd declared e
NamesDeclared declared (Switches e frame out full) = IsEnd declared e
NamesDeclared declared (NoRoomFor who) = IsDeclared declared who
NamesDeclared declared (Refuses who why) = IsDeclared declared who
NamesDeclared declared (ChangesNothing who) = IsDeclared declared who
NamesDeclared declared (LeavesOver who) = IsDeclared declared who
NamesDeclared declared LeavesNothing = ⊤

-- the values of an entry have their words: all have but these
abbrev pub HasValues : Entry → Type 0
HasValues (entry.Done disk id operation status bytes) = IsCompletion operation status bytes.items
HasValues (entry.Stored e operation block count failed) = IsOperation operation
HasValues (entry.Reset e cause packet lost) = HasFault cause
HasValues other = ⊤

-- WHAT THE ENTRY NAMES IS DECLARED, and its values have their words
abbrev pub HasWords : Declared → Entry → Type 0
HasWords declared entry = NamesDeclared declared (meaning entry) × HasValues entry
