-- How the journal keeps an entry.
use Rattle.std.specs.Prelude.{◌≡◌, Bool, true, false, List, [], ◌∷◌, ⊤}
use Rattle.ldom_entries.specs.declared.entry.Entry.{Entry}
use Rattle.ldom_entries.specs.declared.entry.Entry.TheVariants as entry

-- Whether an entry is of a kind that may be kept whole. What comes with a step of an end, or for each disk of a settle,
-- may come millions of times, and what tells of a line of a script about as often as there are such lines: these are
-- kept in a few bytes. A group and a poke are kept as they are, as any other kind would be: they need no headers of their
-- own. So is a frame of a port that is handed over with memory of its own, and not one that is lent.
abbrev pub is_whole : Entry → Bool
is_whole (entry.Accepted disk id request) = false
is_whole (entry.Full who) = false
is_whole (entry.Refused who why) = false
is_whole (entry.Lost e packet) = false
is_whole (entry.Injected e packet) = false
is_whole (entry.Stopped disk) = false
is_whole (entry.Started disk) = false
is_whole (entry.Calm who) = false
is_whole entry.Settled = false
is_whole (entry.Unsettled who) = false
is_whole (entry.Idle e) = false
is_whole (entry.Off e) = false
is_whole (entry.Blocked e) = false
is_whole (entry.Joined e lost) = false
is_whole (entry.Took e packet opens) = false
is_whole (entry.Sent e packet opens) = false
is_whole (entry.Published e id) = false
is_whole (entry.Done disk id operation status bytes) = false
is_whole (entry.Desc e slot bytes) = false
is_whole (entry.Moved e unit fault) = false
is_whole (entry.Stored e operation block count failed) = false
is_whole (entry.Finished e slot status) = false
is_whole (entry.Reset e cause packet lost) = false
is_whole other = true

-- each of these entries may be kept whole
abbrev pub AreKeptWhole : List Entry → Type 0
AreKeptWhole [] = ⊤
AreKeptWhole (first ∷ others) = (is_whole first ≡ true) × AreKeptWhole others
