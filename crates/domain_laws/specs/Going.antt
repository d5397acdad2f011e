-- The rounds of a settle over disks and ports that were made and go on, so many, with what they left in the journal. The one marks say which
-- lanes had a tick, and the others which were quiet in the last of them.
use Rattle.std.specs.Prelude.{ℕ, false, List, replicate}
use Rattle.lane_kinds.specs.LanesMade.{Marks, first_marks}
use Rattle.lane_kinds.specs.RoundsMade.{GoneSaid}
use Rattle.lane_kinds.specs.Settles as settle
use Rattle.world_laws.specs.Settle.{SettleEntry}
use Rattle.domain_laws.specs.Domain.{DomainState, Lanes, lanes, lanes_in}
use Rattle.domain_laws.specs.RoundMade.{OfBoth, said}

abbrev pub GoneOf : ℕ → Marks → Marks → Lanes → List SettleEntry → Lanes → Type 0
GoneOf count had quiet start entries now = GoneSaid lanes said count (first_marks now had) (first_marks now quiet) start entries now

abbrev pub GoneOn : DomainState → ℕ → List SettleEntry → Marks → Marks → DomainState → Type 0
GoneOn start count entries had quiet now = OfBoth (GoneOf count had quiet) start entries now

-- so many rounds may be made, by what is asked of disks and ports as the settle begins: 4,096, and 64 for each request and frame
abbrev pub most_rounds : DomainState → ℕ
most_rounds w = settle.most_rounds lanes (lanes_in w)

-- no lane had a tick
abbrev pub no_marks : DomainState → Marks
no_marks w = lanes.unmarked (lanes_in w)

abbrev pub fresh_marks : ℕ → Marks
fresh_marks most = record { first = replicate most false; second = replicate most false }
