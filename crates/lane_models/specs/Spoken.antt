-- What a message of a port's session says, read by its fields.
use Rattle.std.specs.Prelude.{ℕ, ◌==◌, if◌then◌else◌, List, take}
use Rattle.vio_bytes.specs.Place.{number_at}
use Rattle.vio_tag.specs.Spelling.{addresses_at}
use Rattle.lane_models.specs.Messages.{subtype_of}

pub data Spoken : Type 0 where
  -- DRING_DATA INFO and ACK, MCAST_INFO INFO, ACK and NACK
  RangeInfo : Spoken
  RangeAck : Spoken
  GroupsInfo : Spoken
  GroupsAck : Spoken
  GroupsNack : Spoken
  Other : Spoken

abbrev pub range_spoken : ℕ → Spoken
range_spoken subtype = if subtype == 1 then RangeInfo else if subtype == 2 then RangeAck else Other

abbrev pub groups_spoken : ℕ → Spoken
groups_spoken subtype =
    if subtype == 1 then GroupsInfo else if subtype == 2 then GroupsAck else if subtype == 4 then GroupsNack else Other

-- by its envelope, DRING_DATA 0x0042 or MCAST_INFO 0x0101, and its subtype
abbrev pub spoken_by : (envelope subtype : ℕ) → Spoken
spoken_by envelope subtype =
    if envelope == 0x0042 then range_spoken subtype
    else if envelope == 0x0101 then groups_spoken subtype
    else Other

abbrev pub spoken : List ℕ → Spoken
spoken message = spoken_by (number_at 2 2 message) (subtype_of message)

-- the state of a range, and what is said of groups
abbrev pub state_of : List ℕ → ℕ
state_of message = number_at 1 32 message

abbrev pub set_of : List ℕ → ℕ
set_of message = number_at 1 8 message

abbrev pub count_of : List ℕ → ℕ
count_of message = number_at 1 9 message

abbrev pub seven_of : List ℕ → List (List ℕ)
seven_of message = addresses_at 10 7 message

abbrev pub addresses_of : List ℕ → List (List ℕ)
addresses_of message = take (count_of message) (seven_of message)
