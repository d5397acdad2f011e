-- The journal of a run.
use Rattle.std.specs.Prelude.{◌≡◌, ℕ, ◌+◌, List, [], ◌∷◌, ◌++◌}
use Rattle.ldom_entries.specs.declared.entry.Entry.{Entry}

pub record JournalState : Type 0 where
  -- in the order in which they came
  pub entries : List Entry
  -- how many more it can hold
  pub room : ℕ

-- an entry was put last, into room that was there
pub record PutsEntry (s : JournalState) (entry : Entry) (t : JournalState) : Type 0 where
  pub entries : t.entries ≡ s.entries ++ entry ∷ []
  pub room : t.room + 1 ≡ s.room
