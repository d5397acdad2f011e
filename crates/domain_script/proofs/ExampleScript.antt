-- How a client gets the events of a script that it knows byte for byte.
use Rattle.std.proofs.Common.{ℕ, List, [], ◌∷◌, replicate, true}
use Rattle.std.specs.Prelude.{codes}
use Rattle.std.specs.Fmt.{digits}
use Rattle.std.specs.Int.RustNames.{count_ones}
use Rattle.script_words.specs.vdisk_msg.declared.request.Fill.{Fill}
use Rattle.script_words.specs.vdisk_msg.declared.request.Request.TheVariants.{Read, Write}
use Rattle.domain_script.specs.declared.event.DiskDecl.{DiskDecl}
use Rattle.script_words.specs.declared.spelled.Piece.{Piece}
use Rattle.domain_script.specs.declared.event.PortDecl.{PortDecl}
use Rattle.domain_script.specs.declared.event.Event.TheVariants.{Blank, Disk, Net, Issue, Send, Join, Settle, Step, Round, Restart, Stop, Tick, Poke}
use Rattle.domain_script.specs.declared.event.Side.TheVariants.{Client, Server}
use Rattle.domain_script.specs.ScriptEvents.{AllSpell, no_names}
use Rattle.domain_script.specs.ScriptLines.{script_lines}
use Rattle.domain_script.proofs.ComputedEvents.{events_spelled}
use Rattle.domain_script.specs.LaneKinds.{disk_lane, port_lane}

abbrev bytes : List ℕ
bytes = codes "disk d0 64 8 16\nwrite d0 3 2 ab\nread d0 2 3\nsettle\n"

abbrev disk : DiskDecl
disk = record { name = record { len = 2; bytes = 100 ∷ 48 ∷ 0 ∷ 0 ∷ 0 ∷ 0 ∷ 0 ∷ 0 ∷ [] }; blocks = 64; ring = 8; queue = 16 }

abbrev word : Fill
word = record { len = 1; bytes = 171 ∷ replicate 1023 0 }

one_write_one_read : AllSpell (script_lines bytes) no_names (Disk disk ∷ Issue 0 (Write 3 2 word) ∷ Issue 0 (Read 2 3) ∷ Settle ∷ []) (record { disks = disk ∷ []; ports = []; ended = true })
unfolding digits count_ones
one_write_one_read = events_spelled (script_lines bytes) no_names

-- two disks, and rows of their lanes
abbrev other_bytes : List ℕ
other_bytes = codes "disk d0 64 8 16\n# and\ndisk e 1 2 8\nstep e.c 12\nround 100\nrestart d0.s\nstop e\ntick e\n"

abbrev other_disk : DiskDecl
other_disk = record { name = record { len = 1; bytes = 101 ∷ replicate 7 0 }; blocks = 1; ring = 2; queue = 8 }

rows_of_two_disks : AllSpell (script_lines other_bytes) no_names
    (Disk disk ∷ Blank ∷ Disk other_disk ∷ Step (record { lane = disk_lane 1; side = Client }) 12 ∷ Round 100
    ∷ Restart (record { lane = disk_lane 0; side = Server }) ∷ Stop 1 ∷ Tick (disk_lane 1) ∷ [])
    (record { disks = disk ∷ other_disk ∷ []; ports = []; ended = true })
unfolding digits count_ones
rows_of_two_disks = events_spelled (script_lines other_bytes) no_names

-- a disk and two ports, and rows of them
abbrev bytes_of_ports : List ℕ
bytes_of_ports =
    codes "net p0 020000000001 8 16\ndisk d0 64 8 16\nnet p1 0200000000fe 2 8\nsend p1 00ff\njoin p0 010000000001\nstep p0.s 3\ntick p1\npoke p1.s 0 ab\nrestart d0.s\n"

abbrev first_port : PortDecl
first_port = record { name = record { len = 2; bytes = 112 ∷ 48 ∷ replicate 6 0 }; address = 2 ∷ 0 ∷ 0 ∷ 0 ∷ 0 ∷ 1 ∷ []; ring = 8; queue = 16 }

abbrev second_port : PortDecl
second_port = record { name = record { len = 2; bytes = 112 ∷ 49 ∷ replicate 6 0 }; address = 2 ∷ 0 ∷ 0 ∷ 0 ∷ 0 ∷ 254 ∷ []; ring = 2; queue = 8 }

abbrev frame : Piece
frame = record { len = 2; bytes = 0 ∷ 255 ∷ replicate 1538 0 }

rows_of_ports : AllSpell (script_lines bytes_of_ports) no_names
    (Net first_port ∷ Disk disk ∷ Net second_port ∷ Send 1 frame ∷ Join 0 (1 ∷ 0 ∷ 0 ∷ 0 ∷ 0 ∷ 1 ∷ []) ∷ Step (record { lane = port_lane 0; side = Server }) 3
    ∷ Tick (port_lane 1) ∷ Poke (record { lane = port_lane 1; side = Server }) 0 word ∷ Restart (record { lane = disk_lane 0; side = Server }) ∷ [])
    (record { disks = disk ∷ []; ports = first_port ∷ second_port ∷ []; ended = true })
unfolding digits count_ones
rows_of_ports = events_spelled (script_lines bytes_of_ports) no_names
