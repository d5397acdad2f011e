-- That each descriptor which a server ended got the status 0, as the log has it.
use Rattle.std.specs.Prelude.{◌≡◌, ℕ, List, [], ◌∷◌, ⊤}
use Rattle.lane_laws.specs.DiskLog.{DiskLog}
use Rattle.lane_laws.specs.RingLog.{Done, SlotLog}
use Rattle.lane_laws.specs.WorkLog.{Opened}

-- in a slot of the ring
abbrev pub IsZero : SlotLog → Type 0
IsZero (Done id status) = status ≡ 0
IsZero _ = ⊤

abbrev pub RingZero : List SlotLog → Type 0
RingZero [] = ⊤
RingZero (slot ∷ slots) = IsZero slot × RingZero slots

-- in each session that the server opened
abbrev pub AllZero : List ℕ → Type 0
AllZero [] = ⊤
AllZero (status ∷ statuses) = (status ≡ 0) × AllZero statuses

abbrev pub OpenedZero : List Opened → Type 0
OpenedZero [] = ⊤
OpenedZero (session ∷ sessions) = AllZero session.statuses × OpenedZero sessions

pub record StatusesZero (l : DiskLog) : Type 0 where
  pub ring : RingZero l.ring
  pub opened : OpenedZero l.work.opened
