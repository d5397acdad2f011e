-- The world that a script's declarations make.
use Rattle.std.specs.Prelude.{ℕ, ◌+◌, ◌*◌, ◌≤◌, List, [], ◌∷◌, map}
use Rattle.domain_script.specs.declared.event.DiskDecl.{DiskDecl}
use Rattle.domain_script.specs.declared.event.PortDecl.{PortDecl}
use Rattle.disk_law.specs.ListState.{ImageState}
use Rattle.domain_laws.specs.lane_models.NetLaneState.{NetShape}
use Rattle.domain_laws.specs.Domain.{DomainState, fresh_domain}
use Rattle.domain_laws.specs.lane_models.LaneState.{LaneState, Shape}

-- a disk from this block of the image on
abbrev pub shape_of : ℕ → DiskDecl → Shape
shape_of first disk = record { first = first; blocks = disk.blocks; slots = disk.ring; entries = disk.queue }

-- one after another
abbrev pub shapes_of : ℕ → List DiskDecl → List Shape
shapes_of first [] = []
shapes_of first (disk ∷ disks) = shape_of first disk ∷ shapes_of (first + disk.blocks) disks

-- a port
abbrev pub net_of : PortDecl → NetShape
net_of port = record { address = port.address; slots = port.ring; entries = port.queue }

abbrev pub nets_of : List PortDecl → List NetShape
nets_of ports = map net_of ports

-- the blocks of all disks together
abbrev pub blocks_of : List DiskDecl → ℕ
blocks_of [] = 0
blocks_of (disk ∷ disks) = disk.blocks + blocks_of disks

-- how many bytes they need
abbrev pub bytes_needed : List DiskDecl → ℕ
bytes_needed disks = 512 * blocks_of disks

-- THE WORLD of disks over an image, beside these ports of one switch, before anything was asked
abbrev pub world_of : List DiskDecl → List NetShape → ImageState → DomainState
world_of disks nets image = fresh_domain (shapes_of 0 disks) image nets

-- the lane's disk lies within an image of so many bytes
abbrev pub LiesWithin : ℕ → LaneState → Type 0
LiesWithin size s = 512 * (s.shape.first + s.shape.blocks) ≤ size
