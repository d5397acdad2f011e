-- The lane and the end that a word names, where it names one.
use Rattle.std.specs.Prelude.{ℕ, suc, ◌-◌, ◌==◌, ◌&&◌, ◌||◌, not, if◌then◌else◌, Bool, true, false, List, [], ◌∷◌, length, take, drop, codes, Option, Some, None, option_and_then, option_map}
use Rattle.std.specs.Option.{option_or}
use Rattle.std.specs.Str.{bytes_eq}
use Rattle.domain_script.specs.declared.event.EndName.{EndName}
use Rattle.domain_script.specs.declared.event.Lane.{Lane}
use Rattle.script_words.specs.declared.spelled.Name.{Name}
use Rattle.domain_script.specs.declared.event.Side.{Side}
use Rattle.domain_script.specs.declared.event.Side.TheVariants.{Client, Server}
use Rattle.domain_script.specs.declared.fields.EndKind.{EndKind}
use Rattle.domain_script.specs.declared.fields.EndKind.TheVariants as ends
use Rattle.domain_script.specs.declared.fields.LaneKind.{LaneKind}
use Rattle.domain_script.specs.declared.fields.LaneKind.TheVariants as lanes
use Rattle.domain_script.specs.NamesState.{NamesState, names_of}
use Rattle.script_words.specs.Words.{is_name, name_of}
use Rattle.domain_script.specs.LaneKinds.{lane_at, number_if}

-- whether two names are one, and the number of the first that is this one
abbrev pub same_name : Name → Name → Bool
same_name name other = (other.len == name.len) && bytes_eq other.bytes name.bytes

abbrev pub number_named : Name → List Name → Option ℕ
number_named name [] = None
number_named name (other ∷ others) = if same_name name other then Some 0 else option_map (λ k. suc k) (number_named name others)

-- the first lane with a name; disks come before ports
abbrev pub among : NamesState → Name → LaneKind → Option Lane
among names name kind = option_map (lane_at kind) (number_named name (names_of kind names))

abbrev pub first_named : NamesState → Name → Option Lane
first_named names name = option_or (among names name lanes.Disk) (among names name lanes.Port)

-- the lane that a word names, and the number of the lane of a kind
abbrev pub lane_named : NamesState → List ℕ → Option Lane
lane_named names word = if is_name word then first_named names (name_of word) else None

abbrev pub kind_named : LaneKind → NamesState → List ℕ → Option ℕ
kind_named kind names word = option_and_then (number_if kind) (lane_named names word)

-- how the side of an end stands after its lane's name
abbrev pub side_text : Side → List ℕ
side_text Client = codes ".c"
side_text Server = codes ".s"

-- the last two bytes of a word, those before them, and the side that two bytes spell
abbrev pub last_two : List ℕ → List ℕ
last_two word = drop (length word - 2) word

abbrev pub before_two : List ℕ → List ℕ
before_two word = take (length word - 2) word

abbrev pub side_of : List ℕ → Option Side
side_of bytes = if bytes_eq bytes (side_text Client) then Some Client else (if bytes_eq bytes (side_text Server) then Some Server else None)

-- the end that a word names: a lane's name, and a side after it
abbrev pub end_at : Side → Lane → EndName
end_at side lane = record { lane = lane; side = side }

abbrev pub end_named : NamesState → List ℕ → Option EndName
end_named names word = option_and_then (λ side. option_map (end_at side) (lane_named names (before_two word))) (side_of (last_two word))

-- whether it names one of a kind
abbrev pub is_server : Side → Bool
is_server Client = false
is_server Server = true

abbrev pub is_disk : LaneKind → Bool
is_disk lanes.Disk = true
is_disk _ = false

abbrev pub is_of_kind : EndKind → EndName → Bool
is_of_kind ends.Any end = true
is_of_kind ends.DiskServer end = is_disk end.lane.kind && is_server end.side
is_of_kind ends.WithMemory end = not (is_disk end.lane.kind) || not (is_server end.side)

abbrev pub some_of_kind : EndKind → Option EndName → Bool
some_of_kind kind None = false
some_of_kind kind (Some end) = is_of_kind kind end
