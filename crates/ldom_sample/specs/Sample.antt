-- THE SAMPLE SCRIPT of a number: a disk, 4,000 lines that are made from draws, and a settle.
use Rattle.std.specs.Prelude.{ℕ, zero, suc, ◌+◌, ◌*◌, ◌/◌, ◌%◌, ◌==◌, ◌≤◌, nat_lt, if◌then◌else◌, Bool, false, true, List, [], ◌∷◌, ◌++◌, length, replicate, map}
use Rattle.std.specs.List.{range_with_len}
use Rattle.vdisk_msg.specs.declared.request.Fill.{Fill}
use Rattle.vdisk_msg.specs.declared.request.Request.TheVariants.{Read, Write}
use Rattle.domain_script.specs.declared.event.DiskDecl.{DiskDecl}
use Rattle.domain_script.specs.declared.event.EndName.{EndName}
use Rattle.domain_script.specs.declared.event.Event.{Event}
use Rattle.domain_script.specs.declared.event.Event.TheVariants as line
use Rattle.domain_script.specs.LaneKinds.{disk_lane}
use Rattle.domain_script.specs.declared.event.Side.TheVariants.{Client, Server}
use Rattle.domain_script.specs.Limits.{most_lines}
use Rattle.domain_script.specs.NamesState.{NamesState}
use Rattle.domain_script.specs.Printed.{line_text}
use Rattle.domain_script.specs.ScriptEvents.{AllSpell, no_names}
use Rattle.domain_script.specs.ScriptLines.{AreShort, fed}

-- THE DRAWS: the number itself comes before the first, and each follows from the one before it
abbrev pub next_draw : ℕ → ℕ
next_draw x = (1103515245 * x + 12345) % 2147483648

unfoldable pub draw : ℕ → ℕ → ℕ
draw n zero = n
draw n (suc k) = next_draw (draw n k)

-- the disk `d0`, of 1,024 blocks, with a ring of 64 slots and queues of 64 entries; and the names that its line
-- declares, before the declarations have ended and after it
abbrev pub sample_disk : DiskDecl
sample_disk = record { name = record { len = 2; bytes = 100 ∷ 48 ∷ 0 ∷ 0 ∷ 0 ∷ 0 ∷ 0 ∷ 0 ∷ [] }; blocks = 1024; ring = 64; queue = 64 }

abbrev pub sample_names : Bool → NamesState
sample_names ended = record { disks = sample_disk ∷ []; ports = []; ended = ended }

abbrev pub client : EndName
client = record { lane = disk_lane 0; side = Client }

abbrev pub server : EndName
server = record { lane = disk_lane 0; side = Server }

-- a word of one byte
abbrev pub one_byte : ℕ → Fill
one_byte byte = record { len = 1; bytes = byte ∷ replicate 1023 0 }

-- A LINE takes two draws. The first says of which kind it is, and how many blocks a request has. The second says where
-- it begins, what a write writes, and how many steps or rounds there are.
abbrev pub blocks_of : ℕ → ℕ
blocks_of first = 1 + first / 1048576 % 64

abbrev pub block_of : ℕ → ℕ
block_of second = second / 65536 % 960

abbrev pub turns_of : ℕ → ℕ
turns_of second = 1 + second / 65536 % 16

abbrev pub disturbance : ℕ → ℕ → Event
disturbance kind turns =
    if kind == 0 then line.Reset client
    else (if kind == 1 then line.Restart server
    else (if kind == 2 then line.Lose client
    else line.Round turns))

abbrev pub event_of_kind : ℕ → ℕ → ℕ → Event
event_of_kind kind first second =
    if nat_lt kind 3 then line.Issue 0 (Write (block_of second) (blocks_of first) (one_byte (second / 256 % 256)))
    else (if nat_lt kind 5 then line.Issue 0 (Read (block_of second) (blocks_of first))
    else (if kind == 5 then line.Step client (turns_of second)
    else (if kind == 6 then line.Step server (turns_of second)
    else disturbance (second / 65536 % 8) (turns_of second))))

abbrev pub drawn_event : ℕ → ℕ → Event
drawn_event first second = event_of_kind (first / 65536 % 8) first second

-- the line with this number, from 0
abbrev pub line_event : ℕ → ℕ → Event
line_event n k = drawn_event (draw n (2 * k + 1)) (draw n (2 * k + 2))

-- THE EVENTS of so many lines that are drawn, and of all lines
unfoldable pub drawn_events : ℕ → ℕ → List Event
drawn_events n count = map (line_event n) (range_with_len 0 count)

abbrev pub sample_events : ℕ → List Event
sample_events n = line.Disk sample_disk ∷ drawn_events n 4000 ++ line.Settle ∷ []

-- THE TEXT: of each event its one line, each with its line feed
abbrev pub sample_line : Event → List ℕ
sample_line event = line_text (sample_names false) event

abbrev pub sample_text : ℕ → List ℕ
sample_text n = fed (map sample_line (sample_events n))

-- THESE LINES spell the events, and none is past a limit
pub record SpellSample (n : ℕ) (texts : List (List ℕ)) : Type 0 where
  pub spelled : AllSpell texts no_names (sample_events n) (sample_names true)
  pub few : length texts ≤ most_lines
  pub short : AreShort texts
