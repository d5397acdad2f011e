-- The message that a packet ends, read by its fields.
use Rattle.std.specs.Prelude.{ℕ, ◌&&◌, ◌==◌, Bool, true, false, List, ◌++◌, Option, Some, None}
use Rattle.vio_bytes.specs.Place.{number_at}
use Rattle.ldc_queue.specs.Fragments.{fragment_at, is_part}

-- where this had come before, the message is whole with the last part
abbrev pub whole_with : Bool → List ℕ → Option (List ℕ)
whole_with true message = Some message
whole_with false message = None

abbrev pub ended_by : List ℕ → List ℕ → Option (List ℕ)
ended_by half packet = whole_with (is_part packet && (fragment_at packet).stop) (half ++ (fragment_at packet).bytes)

-- the fields of a message, DRING_DATA's after its tag
abbrev pub subtype_of : List ℕ → ℕ
subtype_of message = number_at 1 1 message

abbrev pub sid_of : List ℕ → ℕ
sid_of message = number_at 4 4 message

abbrev pub seq_of : List ℕ → ℕ
seq_of message = number_at 8 8 message

abbrev pub start_slot_of : List ℕ → ℕ
start_slot_of message = number_at 4 24 message

abbrev pub end_slot_of : List ℕ → ℕ
end_slot_of message = number_at 4 28 message

-- DRING_DATA, INFO 1 or ACK 2
abbrev pub is_range : ℕ → List ℕ → Bool
is_range subtype message = number_at 2 2 message == 0x0042 && subtype_of message == subtype

-- the range that the packet ends, if it ends one of the subtype
abbrev pub range_if : Bool → List ℕ → Option (List ℕ)
range_if true message = Some message
range_if false message = None

abbrev pub range_in : ℕ → Option (List ℕ) → Option (List ℕ)
range_in subtype None = None
range_in subtype (Some message) = range_if (is_range subtype message) message

abbrev pub range_ended : ℕ → List ℕ → List ℕ → Option (List ℕ)
range_ended subtype half packet = range_in subtype (ended_by half packet)

-- the sid of a session that opens: of the message by which it opens
abbrev pub sid_in : Option (List ℕ) → ℕ
sid_in None = 0
sid_in (Some message) = sid_of message

abbrev pub opening_sid : List ℕ → List ℕ → ℕ
opening_sid half packet = sid_in (ended_by half packet)
