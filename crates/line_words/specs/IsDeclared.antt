-- What a name in an entry's line needs so that it can be written.
use Rattle.std.specs.Prelude.{◌<◌}
use Rattle.domain_script.specs.declared.event.EndName.{EndName}
use Rattle.domain_script.specs.declared.event.Lane.{Lane}
use Rattle.domain_script.specs.Declarations.{Declared, number_of_kind}
use Rattle.ldom_entries.specs.declared.entry.Who.{Who}
use Rattle.ldom_entries.specs.declared.entry.Who.TheVariants.{Lane as OfLane, End as OfEnd}

-- what is named is declared: a lane, an end
abbrev pub IsLane : Declared → Lane → Type 0
IsLane declared lane = lane.number < number_of_kind lane.kind declared

abbrev pub IsEnd : Declared → EndName → Type 0
IsEnd declared e = IsLane declared e.lane

abbrev pub IsDeclared : Declared → Who → Type 0
IsDeclared declared (OfLane lane) = IsLane declared lane
IsDeclared declared (OfEnd e) = IsEnd declared e
