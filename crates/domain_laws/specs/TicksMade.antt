-- Which disks, and then which ports, got their tick so far, after a round in which all lanes were quiet. And a front of the ticks.
use Rattle.std.specs.Prelude.{ℕ, Bool, List, length, take}
use Rattle.lane_kinds.specs.LaneFronts.{TickFront}
use Rattle.lane_kinds.specs.Lanes as kind
use Rattle.lane_kinds.specs.LanesMade as made
use Rattle.lane_kinds.specs.LanesMade.{Marks, first_marks}
use Rattle.lane_kinds.specs.Rounds.{tick_marks}
use Rattle.lane_kinds.specs.RoundsMade as rounds
use Rattle.lane_kinds.specs.WorldMade.{LaneTicked}
use Rattle.lane_models.specs.PortState.{PortState}
use Rattle.switch_laws.specs.Ports.{ports}
use Rattle.world_laws.specs.DiskKind.{disk_kind}
use Rattle.world_laws.specs.Settle.{SettleEntry, disk_entries}
use Rattle.domain_laws.specs.Domain.{DomainState, Lanes, lanes, port_entries}
use Rattle.domain_laws.specs.Lines.{fronts}
use Rattle.domain_laws.specs.RoundMade.{OfBoth, OfDisks, OfPorts, disks_in_world, ports_in_world}

-- whether a port gets a tick, where this mark says whether it had one
abbrev pub port_gets_tick : PortState → Bool → Bool
port_gets_tick s had = kind.gets_tick ports s had

-- THIS DISK got a tick, or it gets none; and this port
abbrev pub DiskTicked : ℕ → Bool → Bool → DomainState → List SettleEntry → DomainState → Type 0
DiskTicked k had get w entries v = LaneTicked disks_in_world k had get w entries v

abbrev pub PortTicked : ℕ → Bool → Bool → DomainState → List SettleEntry → DomainState → Type 0
PortTicked k had get w entries v = LaneTicked ports_in_world k had get w entries v

-- THE FIRST DISKS, so many, had their ticks, where these marks say which had one before; `some` says whether any got one. And the first ports.
abbrev pub DiskTicksUpTo : ℕ → DomainState → List Bool → List SettleEntry → Bool → List Bool → DomainState → Type 0
DiskTicksUpTo k start had entries some have now = OfDisks (made.TicksUpTo disk_kind disk_entries k (tick_marks had some have)) start entries now

abbrev pub PortTicksUpTo : ℕ → DomainState → List Bool → List SettleEntry → Bool → List Bool → DomainState → Type 0
PortTicksUpTo k start had entries some have now = OfPorts (made.TicksUpTo ports port_entries k (tick_marks had some have)) start entries now

-- memory was wanted among them
abbrev pub DiskTicksBegun : DomainState → List Bool → List SettleEntry → DomainState → Type 0
DiskTicksBegun start had entries now = OfDisks (λ w part v. TickFront disk_kind disk_entries 0 w (take (length w) had) part v) start entries now

abbrev pub PortTicksBegun : DomainState → List Bool → List SettleEntry → DomainState → Type 0
PortTicksBegun start had entries now = OfPorts (λ w part v. TickFront ports port_entries 0 w (take (length w) had) part v) start entries now

-- ALL OF BOTH had theirs; or memory was wanted among the ticks, or behind them for the answer
abbrev pub TicksOf : Marks → Bool → Marks → Lanes → List SettleEntry → Lanes → Type 0
TicksOf had some have w part v = rounds.TicksMade lanes (tick_marks (first_marks w had) some (first_marks w have)) w part v

abbrev pub TicksMade : DomainState → Marks → List SettleEntry → Bool → Marks → DomainState → Type 0
TicksMade start had entries some have now = OfBoth (TicksOf had some have) start entries now

abbrev pub TicksBegun : DomainState → Marks → List SettleEntry → DomainState → Type 0
TicksBegun start had entries now = OfBoth (λ w part v. fronts.OfTicks w (first_marks w had) part v) start entries now
