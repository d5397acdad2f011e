-- The frames that are kept, each under a key.
use Rattle.std.specs.Prelude.{◌≡◌, ◌≢◌, ℕ, zero, suc, ◌+◌, ◌-◌, List, [], Option, Some, None, IsSome, count_by, if◌then◌else◌, is_some, nat_lt, slice_index_or}
use Rattle.std.specs.Option.{option_map_or}
use Rattle.vnet_switch.specs.declared.kept_frames.KeptFrame.{KeptFrame}

pub record FrameSlots : Type 0 where
  -- the frame or nothing at each key from 0 on
  pub slots : List (Option KeptFrame)
  -- the key of the next one
  pub next_key : ℕ
  -- how many may be kept
  pub room : ℕ

abbrev pub fresh_frames : ℕ → FrameSlots
fresh_frames room = record { slots = []; next_key = 0; room = room }

abbrev pub slot_at : List (Option KeptFrame) → ℕ → Option KeptFrame
slot_at slots key = slice_index_or slots key None

-- a frame is kept under the key
abbrev pub IsFrameKept : List (Option KeptFrame) → ℕ → Type 0
IsFrameKept slots key = IsSome (slot_at slots key)

abbrev pub kept_count : List (Option KeptFrame) → ℕ
kept_count slots = count_by is_some slots

-- the bytes under a key, and how many queues name them; none where nothing is kept
abbrev pub bytes_at : List (Option KeptFrame) → ℕ → List ℕ
bytes_at slots key = option_map_or (λ frame. frame.bytes) (slot_at slots key) []

abbrev pub names_at : List (Option KeptFrame) → ℕ → ℕ
names_at slots key = option_map_or (λ frame. frame.names) (slot_at slots key) 0

-- one queue fewer names the frame, which leaves with the last one
abbrev pub unnamed : Option KeptFrame → Option KeptFrame
unnamed None = None
unnamed (Some frame) = if nat_lt 1 frame.names then Some (record frame { names = frame.names - 1 }) else None

-- the frame is kept under the next key, named by so many queues, and all others are as they were
pub record KeepsFrame (old : FrameSlots) (bytes : List ℕ) (names : ℕ) (new : FrameSlots) : Type 0 where
  pub it : slot_at new.slots old.next_key ≡ Some (record { bytes = bytes; names = names })
  pub others : (key : ℕ) → key ≢ old.next_key → slot_at new.slots key ≡ slot_at old.slots key
  pub count : kept_count new.slots ≡ kept_count old.slots + 1
  pub room : new.room ≡ old.room

-- a frame that no queue names isn't kept
abbrev pub KeepsNamed : FrameSlots → List ℕ → ℕ → FrameSlots → Type 0
KeepsNamed old bytes zero new = new ≡ old
KeepsNamed old bytes (suc names) new = KeepsFrame old bytes (suc names) new
