-- What a script may declare.
use Rattle.std.specs.Prelude.{ℕ, ◌≤◌, List, length, map}
use Rattle.vio_bytes.specs.Powers.{IsPowerOfTwo}
use Rattle.domain_script.specs.declared.event.DiskDecl.{DiskDecl}
use Rattle.domain_script.specs.declared.event.PortDecl.{PortDecl}
use Rattle.domain_script.specs.declared.fields.LaneKind.{LaneKind}
use Rattle.domain_script.specs.declared.fields.LaneKind.TheVariants as lanes
use Rattle.script_words.specs.declared.spelled.Name.{Name}
use Rattle.script_words.specs.Addresses.{IsAddress}
use Rattle.domain_script.specs.Firsts.{AllDiffer, AreAll}

-- a disk within the limits
pub record IsDisk (disk : DiskDecl) : Type 0 where
  pub some_blocks : 1 ≤ disk.blocks
  pub most_blocks : disk.blocks ≤ 65536
  pub least_ring : 2 ≤ disk.ring
  pub most_ring : disk.ring ≤ 256
  pub ring_power : IsPowerOfTwo disk.ring
  pub least_queue : 8 ≤ disk.queue
  pub most_queue : disk.queue ≤ 256
  pub queue_power : IsPowerOfTwo disk.queue

-- all of them are disks within the limits
abbrev pub AreDisks : List DiskDecl → Type 0
AreDisks disks = AreAll IsDisk disks

-- a port within the limits, with an address of its own and not of a group
pub record IsPort (port : PortDecl) : Type 0 where
  pub address : IsAddress port.address
  pub least_ring : 2 ≤ port.ring
  pub most_ring : port.ring ≤ 64
  pub ring_power : IsPowerOfTwo port.ring
  pub least_queue : 8 ≤ port.queue
  pub most_queue : port.queue ≤ 256
  pub queue_power : IsPowerOfTwo port.queue

-- all of them are ports within the limits
abbrev pub ArePorts : List PortDecl → Type 0
ArePorts ports = AreAll IsPort ports

-- their addresses, of which no two are one
abbrev pub addresses : List PortDecl → List (List ℕ)
addresses ports = map (λ (port : PortDecl). port.address) ports

abbrev pub AddressesDiffer : List PortDecl → Type 0
AddressesDiffer ports = AllDiffer (addresses ports)

-- WHAT A SCRIPT DECLARES, each in the order of declaration
pub record Declared : Type 0 where
  pub disks : List DiskDecl
  pub ports : List PortDecl

-- WHAT A KIND OF LANES IS to a script: its place among the kinds, its declarations and their names. No other definition
-- lists the kinds.
pub record KindDeclared : Type 1 where
  pub place : ℕ
  pub Decl : Type 0
  pub among : Declared → List Decl
  pub name : Decl → Name

abbrev pub declared_as : LaneKind → KindDeclared
declared_as lanes.Disk = record { place = 0; Decl = DiskDecl; among = λ all. all.disks; name = λ disk. disk.name }
declared_as lanes.Port = record { place = 1; Decl = PortDecl; among = λ all. all.ports; name = λ port. port.name }

-- how many of a kind, and their names
abbrev pub number_of_kind : LaneKind → Declared → ℕ
number_of_kind kind all = length ((declared_as kind).among all)

abbrev pub names_of_kind : LaneKind → Declared → List Name
names_of_kind kind all = map (declared_as kind).name ((declared_as kind).among all)

-- at most eight of each kind, all within the limits, and no two ports with one address
pub record AreDeclared (all : Declared) : Type 0 where
  pub disks : AreDisks all.disks
  pub few_disks : length all.disks ≤ 8
  pub ports : ArePorts all.ports
  pub few_ports : length all.ports ≤ 8
  pub differ : AddressesDiffer all.ports
