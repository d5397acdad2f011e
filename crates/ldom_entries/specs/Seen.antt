-- The entries that a user of the disks and ports sees, and a reading that passes over the others.
use Rattle.std.specs.Prelude.{◌≡◌, ℕ, Bool, true, false, ◌==◌, not, List, [], ◌∷◌, ◌++◌, ◌||◌, All, ⊤}
use Rattle.domain_script.specs.declared.event.Side.{Side}
use Rattle.domain_script.specs.declared.event.Side.TheVariants.{Client, Server}
use Rattle.ldom_entries.specs.Whole.{is_whole}
use Rattle.ldom_entries.specs.declared.entry.Entry.{Entry}
use Rattle.ldom_entries.specs.declared.entry.Entry.TheVariants as entry

-- the guest's end of a lane
abbrev pub is_guests : Side → Bool
is_guests Client = true
is_guests Server = false

-- a frame for these ports was dropped: it is for none, or the queues of some were full
abbrev pub is_dropped : ℕ → ℕ → Bool
is_dropped out full = (out == 0) || not (full == 0)

-- the entries that a user of the disks and ports sees
abbrev pub is_seen : Entry → Bool
is_seen (entry.Full who) = true
is_seen (entry.Refused who why) = true
is_seen entry.Settled = true
is_seen (entry.Unsettled who) = true
is_seen (entry.Done disk id operation status bytes) = true
is_seen (entry.Frame e bytes) = is_guests e.side
is_seen (entry.Switched e out full bytes) = is_dropped out full
is_seen (entry.Reset e cause packet lost) = true
is_seen other = false

-- an entry that may be seen: one that may be kept whole isn't looked into
abbrev pub may_be_seen : Entry → Bool
may_be_seen entry = is_whole entry || is_seen entry

-- of `old` there is `new` left: what was passed over can't be seen
pub record PassesUnseen (old new : List Entry) : Type 0 where
  pub passed : List Entry
  pub are : old ≡ passed ++ new
  pub unseen : All (λ entry. may_be_seen entry ≡ false) passed

-- the first of the entries may be seen, where there is one
abbrev pub BeginsSeen : List Entry → Type 0
BeginsSeen [] = ⊤
BeginsSeen (first ∷ others) = may_be_seen first ≡ true
