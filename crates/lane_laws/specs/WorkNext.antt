-- What comes next of a descriptor in work: its operation and what it owes tell it, but for the bytes that are held of a unit.
use Rattle.std.specs.Prelude.{ℕ, ◌==◌, if◌then◌else◌, List, [], ◌∷◌}
use Rattle.vdisk_msg.specs.Pieces.{Finishes, Moves, Piece, Stores}
use Rattle.lane_models.specs.ServerState.{Ends, Flushes, Gathers, Gives, Progress, Reads, Writes}
use Rattle.lane_models.specs.ServerWork.{unit_length}

-- A unit is read from the store and then given, or gathered and then written to the store. A flush has no unit.
abbrev pub stores_next : ℕ → ℕ → Progress
stores_next operation unit = if operation == 1 then Reads unit else if operation == 2 then Writes unit [] else Flushes

abbrev pub moves_next : ℕ → ℕ → Progress
moves_next operation unit = if operation == 1 then Gives unit [] else Gathers unit

abbrev pub next_by : ℕ → List Piece → Progress
next_by operation [] = Ends 0
next_by operation (Stores unit ∷ rest) = stores_next operation unit
next_by operation (Moves unit ∷ rest) = moves_next operation unit
next_by operation (Finishes status ∷ rest) = Ends status

-- the bytes that are held of a unit, the progress without them, and how many they are: all of the unit
abbrev pub bytes_held : Progress → List ℕ
bytes_held (Gives unit bytes) = bytes
bytes_held (Writes unit bytes) = bytes
bytes_held _ = []

abbrev pub without_bytes : Progress → Progress
without_bytes (Reads unit) = Reads unit
without_bytes (Gives unit bytes) = Gives unit []
without_bytes (Gathers unit) = Gathers unit
without_bytes (Writes unit bytes) = Writes unit []
without_bytes Flushes = Flushes
without_bytes (Ends status) = Ends status

abbrev pub count_held : ℕ → Progress → ℕ
count_held size (Gives unit bytes) = unit_length size unit
count_held size (Writes unit bytes) = unit_length size unit
count_held size _ = 0
