-- What a piece of a descriptor reaches by the channel, and what a call of the store does to it.
use Rattle.std.specs.Prelude.{◌≡◌, ℕ, ◌==◌, Bool, if◌then◌else◌, List, Option}
use Rattle.cookie_copy.specs.Faults.{both_up}
use Rattle.ldc_queue.specs.ChannelView.{ChannelView}
use Rattle.map_table.specs.declared.table.Entry.{Entry}
use Rattle.vio_io.specs.Causes.{FaultsAfter, next_count}
use Rattle.vio_io.specs.declared.store.Store.{Ghosts}
use Rattle.cookie_copy.specs.Reach.{Reach}

-- what the server reaches by the channel: the client's memory, by its table
abbrev pub reach_over : ChannelView → List (Option Entry) → List ℕ → Reach
reach_over c table memory = record { both = both_up c.wire; table = table; memory = memory }

-- ONE CALL of a store, which failed exactly where this says so. The operation 2 is one write of it and 3 one flush, and
-- no other writes or flushes it.
pub record CalledOnce {D : Type 0} (store : Ghosts D) (operation : ℕ) (failed : Bool) (old new : D) : Type 0 where
  pub calls : store.calls new ≡ next_count (store.calls old)
  pub flushes : store.flushes new ≡ (if operation == 3 then next_count (store.flushes old) else store.flushes old)
  pub writes : store.writes new ≡ (if operation == 2 then next_count (store.writes old) else store.writes old)
  pub faults : FaultsAfter failed (store.faults old) (store.faults new)
