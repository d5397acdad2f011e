-- The memory of an end of a port, and what the end reaches of its peer's.
use Rattle.std.specs.Prelude.{ℕ, ◌+◌, ◌*◌, ◌≤◌, List, length, Option}
use Rattle.cookie_copy.specs.Faults.{both_up}
use Rattle.cookie_copy.specs.Reach.{Reach}
use Rattle.ldc_queue.specs.ChannelView.{ChannelView}
use Rattle.map_table.specs.declared.table.Entry.{Entry}

-- it has the page of the ring, and 2,048 bytes for each slot
abbrev pub HoldsRing : ℕ → List ℕ → Type 0
HoldsRing slots memory = 8192 + 2048 * slots ≤ length memory

-- what the end's copies work on: the peer's table and memory
abbrev pub reach_over : ChannelView → List (Option Entry) → List ℕ → Reach
reach_over c table memory = record { both = both_up c.wire; table = table; memory = memory }
