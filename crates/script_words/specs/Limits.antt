-- How much a script may have.
use Rattle.std.specs.Prelude.{ℕ, ◌<◌, ◌≤◌}

-- its lines, and those of a dump
abbrev pub most_lines : ℕ
most_lines = 20000

-- the bytes of a line, without its line feed
abbrev pub most_line_bytes : ℕ
most_line_bytes = 3100

-- the lanes of a kind
abbrev pub most_of_a_kind : ℕ
most_of_a_kind = 8

-- the bytes of a packet, of an address, of the word that a write repeats, and of a frame that is handed to a guest
abbrev pub packet_bytes : ℕ
packet_bytes = 64

abbrev pub address_bytes : ℕ
address_bytes = 6

abbrev pub most_of_a_fill : ℕ
most_of_a_fill = 1024

abbrev pub most_of_a_piece : ℕ
most_of_a_piece = 1540

-- the steps of a line, and its rounds
abbrev pub most_repeats : ℕ
most_repeats = 100

-- how many steps or rounds a line may ask for
abbrev pub AreRepeats : ℕ → Type 0
AreRepeats count = (0 < count) × (count ≤ most_repeats)
