-- The names that a script has declared so far.
use Rattle.std.specs.Prelude.{◌≡◌, ℕ, ◌<◌, Bool, true, false, List, [], ◌∷◌, ◌++◌, slice_get, Option, Some, ⊤}
use Rattle.domain_script.specs.declared.event.DiskDecl.{DiskDecl}
use Rattle.domain_script.specs.declared.event.PortDecl.{PortDecl}
use Rattle.domain_script.specs.declared.event.Event.{Event}
use Rattle.domain_script.specs.declared.event.Event.TheVariants.{Blank, Disk, Net}
use Rattle.domain_script.specs.declared.event.Lane.{Lane}
use Rattle.script_words.specs.declared.spelled.Name.{Name}
use Rattle.domain_script.specs.declared.fields.LaneKind.{LaneKind}
use Rattle.domain_script.specs.declared.fields.LaneKind.TheVariants as lanes
use Rattle.domain_script.specs.Declarations.{Declared, addresses, names_of_kind, number_of_kind}
use Rattle.domain_script.specs.Firsts.{IsFirst, IsNoneOf}
use Rattle.script_words.specs.Limits.{most_of_a_kind}

pub record NamesState : Type 0 where
  -- each in the order of declaration
  pub disks : List DiskDecl
  pub ports : List PortDecl
  -- a line came that is neither blank nor a declaration
  pub ended : Bool

-- what is declared
abbrev pub declared_by : NamesState → Declared
declared_by names = record { disks = names.disks; ports = names.ports }

-- how many lanes of a kind are declared
abbrev pub count_of : LaneKind → NamesState → ℕ
count_of kind names = number_of_kind kind (declared_by names)

-- the lane is declared
abbrev pub IsLane : NamesState → Lane → Type 0
IsLane names lane = lane.number < count_of lane.kind names

-- the names of the lanes of a kind, and that of a lane which is declared
abbrev pub names_of : LaneKind → NamesState → List Name
names_of kind names = names_of_kind kind (declared_by names)

abbrev pub lane_name : NamesState → Lane → Option Name
lane_name names lane = slice_get (names_of lane.kind names) lane.number

-- no lane has this name
abbrev pub IsNameFree : NamesState → Name → Type 0
IsNameFree names name = IsNoneOf name (names_of lanes.Disk names) × IsNoneOf name (names_of lanes.Port names)

-- the lane is the first with this name; disks come before ports
abbrev pub IsNoneBefore : NamesState → Name → LaneKind → Type 0
IsNoneBefore names name lanes.Port = IsNoneOf name (names_of lanes.Disk names)
IsNoneBefore names name _ = ⊤

abbrev pub IsNamed : NamesState → Name → Lane → Type 0
IsNamed names name lane = IsNoneBefore names name lane.kind × IsFirst name (names_of lane.kind names) lane.number

-- no two lanes have one name
abbrev pub NamesDiffer : NamesState → Type 0
NamesDiffer names = (a b : Lane) (name : Name) → lane_name names a ≡ Some name → lane_name names b ≡ Some name → a ≡ b

-- a lane of this kind may still be declared under this name: the declarations haven't ended, fewer than eight of the
-- kind stand, and the name isn't taken
pub record CanDeclare (names : NamesState) (kind : LaneKind) (name : Name) : Type 0 where
  pub open_still : names.ended ≡ false
  pub few : count_of kind names < most_of_a_kind
  pub free : IsNameFree names name

-- no port has this address
abbrev pub IsFreeAddress : NamesState → List ℕ → Type 0
IsFreeAddress names address = IsNoneOf address (addresses names.ports)

-- the event may come: a declaration only where one may still stand
abbrev pub CanNote : NamesState → Event → Type 0
CanNote names (Disk disk) = CanDeclare names lanes.Disk disk.name
CanNote names (Net port) = CanDeclare names lanes.Port port.name × IsFreeAddress names port.address
CanNote names event = Unit {0}

-- the names after an event: any but a blank and a declaration ends the declarations
abbrev pub noted : NamesState → Event → NamesState
noted names Blank = names
noted names (Disk disk) = record { disks = names.disks ++ disk ∷ []; ports = names.ports; ended = names.ended }
noted names (Net port) = record { disks = names.disks; ports = names.ports ++ port ∷ []; ended = names.ended }
noted names event = record { disks = names.disks; ports = names.ports; ended = true }
