-- The loops over disks, and those over ports: a round, its ticks and its names go on by the next lane.
use Rattle.std.proofs.Common.{◌≡◌, ℕ, ◌+◌, ◌<◌, ◌≤◌, Bool, false, List, [], ◌++◌, length, slice_get, slice_set, Some}
use Rattle.std.specs.Prelude.{◌&&◌, ◌||◌}
use Rattle.lane_models.specs.LaneState.{LaneState}
use Rattle.lane_kinds.proofs.WorldMade as made
use Rattle.ldc_queue.specs.declared.end.End.TheVariants.{A, B}
use Rattle.lane_models.specs.PortState.{PortState}
use Rattle.world_laws.specs.Settle.{SettleEntry}
use Rattle.world_laws.specs.Ticks.{gets_tick}
use Rattle.domain_laws.specs.Domain.{DomainState}
use Rattle.domain_laws.specs.NamesMade.{DisksNamed, PortsNamed, disk_name, port_name}
use Rattle.domain_laws.specs.RoundMade.{DiskMade, DisksBegun, DisksUpTo, PortMade, PortsBegun, PortsUpTo, disks_in_world, ports_in_world}
use Rattle.domain_laws.specs.TicksMade.{DiskTicked, DiskTicksBegun, DiskTicksUpTo, PortTicked, PortTicksBegun, PortTicksUpTo, port_gets_tick}
use Rattle.domain_laws.proofs.LoopKinds.{disk_begins, disk_runs, disk_turn, port_begins, port_runs, port_turn}

-- OVER DISKS
pub disk_round_begins : (w : DomainState) (quiet : List Bool) → DisksUpTo 0 w [] quiet w
disk_round_begins w quiet = made.round_begins disks_in_world disk_runs w quiet

pub disk_round_goes_on : (k : ℕ) (start w m v : DomainState) (entries one two : List SettleEntry) (quiet marks : List Bool) (calm still : Bool) → DisksUpTo k start entries quiet w → DiskMade k A w one calm m → DiskMade k B m two still v → k < length quiet → marks ≡ slice_set quiet k (calm && still) → DisksUpTo (k + 1) start (entries ++ (one ++ two)) marks v
disk_round_goes_on k start w m v entries one two quiet marks calm still up first second less is = made.round_goes_on disks_in_world disk_runs A B disk_turn k start w m v entries one two quiet marks calm still up first second less is

pub disk_round_wants : (k : ℕ) (start now : DomainState) (entries : List SettleEntry) (quiet : List Bool) → DisksUpTo k start entries quiet now → DisksBegun start entries now
disk_round_wants k start now entries quiet up = made.round_wants disks_in_world disk_runs k start now entries quiet up

pub disk_turn_wants : (k : ℕ) (start w v : DomainState) (entries one : List SettleEntry) (quiet : List Bool) (calm : Bool) → DisksUpTo k start entries quiet w → DiskMade k A w one calm v → DisksBegun start (entries ++ one) v
disk_turn_wants k start w v entries one quiet calm up step = made.turn_wants disks_in_world disk_runs A disk_begins k start w v entries one quiet calm up step

pub disk_ticks_begin : (w : DomainState) (had : List Bool) → DiskTicksUpTo 0 w had [] false had w
disk_ticks_begin w had = made.ticks_begin disks_in_world disk_runs w had

pub disk_gets_none : (k : ℕ) (had : Bool) (w : DomainState) (lane : LaneState) → slice_get w.first.lanes k ≡ Some lane → gets_tick lane had ≡ false → DiskTicked k had false w [] w
disk_gets_none k had w lane there gets = made.lane_gets_none disks_in_world disk_runs k had w lane there gets

pub disk_ticks_go_on : (k : ℕ) (start w v : DomainState) (entries one : List SettleEntry) (had have : List Bool) (some mark get : Bool) → DiskTicksUpTo k start had entries some have w → slice_get have k ≡ Some mark → DiskTicked k mark get w one v → k < length have → DiskTicksUpTo (k + 1) start had (entries ++ one) (some || get) (slice_set have k (mark || get)) v
disk_ticks_go_on k start w v entries one had have some mark get up now next less = made.ticks_go_on disks_in_world disk_runs k start w v entries one had have some mark get up now next less

pub disk_ticks_want : (k : ℕ) (start now : DomainState) (had have : List Bool) (entries : List SettleEntry) (some : Bool) → DiskTicksUpTo k start had entries some have now → k ≤ length start.first.lanes → DiskTicksBegun start had entries now
disk_ticks_want k start now had have entries some up within = made.ticks_want disks_in_world disk_runs k start now had have entries some up within

pub disk_names_begin : (w : DomainState) (quiet : List Bool) → DisksNamed 0 w quiet []
disk_names_begin w quiet = made.names_begin disks_in_world disk_runs w quiet

pub disk_names_go_on : (k : ℕ) (w : DomainState) (quiet : List Bool) (entries one : List SettleEntry) (calm : Bool) (lane : LaneState) → DisksNamed k w quiet entries → slice_get w.first.lanes k ≡ Some lane → slice_get quiet k ≡ Some calm → one ≡ disk_name k calm lane → DisksNamed (k + 1) w quiet (entries ++ one)
disk_names_go_on k w quiet entries one calm lane up there mark is = made.names_go_on disks_in_world disk_runs k w quiet entries one calm lane up there mark is

-- OVER PORTS
pub port_round_begins : (w : DomainState) (quiet : List Bool) → PortsUpTo 0 w [] quiet w
port_round_begins w quiet = made.round_begins ports_in_world port_runs w quiet

pub port_round_goes_on : (k : ℕ) (start w m v : DomainState) (entries one two : List SettleEntry) (quiet marks : List Bool) (calm still : Bool) → PortsUpTo k start entries quiet w → PortMade k A w one calm m → PortMade k B m two still v → k < length quiet → marks ≡ slice_set quiet k (calm && still) → PortsUpTo (k + 1) start (entries ++ (one ++ two)) marks v
port_round_goes_on k start w m v entries one two quiet marks calm still up first second less is = made.round_goes_on ports_in_world port_runs A B port_turn k start w m v entries one two quiet marks calm still up first second less is

pub port_round_wants : (k : ℕ) (start now : DomainState) (entries : List SettleEntry) (quiet : List Bool) → PortsUpTo k start entries quiet now → PortsBegun start entries now
port_round_wants k start now entries quiet up = made.round_wants ports_in_world port_runs k start now entries quiet up

pub port_turn_wants : (k : ℕ) (start w v : DomainState) (entries one : List SettleEntry) (quiet : List Bool) (calm : Bool) → PortsUpTo k start entries quiet w → PortMade k A w one calm v → PortsBegun start (entries ++ one) v
port_turn_wants k start w v entries one quiet calm up step = made.turn_wants ports_in_world port_runs A port_begins k start w v entries one quiet calm up step

pub port_ticks_begin : (w : DomainState) (had : List Bool) → PortTicksUpTo 0 w had [] false had w
port_ticks_begin w had = made.ticks_begin ports_in_world port_runs w had

pub port_gets_none : (k : ℕ) (had : Bool) (w : DomainState) (lane : PortState) → slice_get w.second k ≡ Some lane → port_gets_tick lane had ≡ false → PortTicked k had false w [] w
port_gets_none k had w lane there gets = made.lane_gets_none ports_in_world port_runs k had w lane there gets

pub port_ticks_go_on : (k : ℕ) (start w v : DomainState) (entries one : List SettleEntry) (had have : List Bool) (some mark get : Bool) → PortTicksUpTo k start had entries some have w → slice_get have k ≡ Some mark → PortTicked k mark get w one v → k < length have → PortTicksUpTo (k + 1) start had (entries ++ one) (some || get) (slice_set have k (mark || get)) v
port_ticks_go_on k start w v entries one had have some mark get up now next less = made.ticks_go_on ports_in_world port_runs k start w v entries one had have some mark get up now next less

pub port_ticks_want : (k : ℕ) (start now : DomainState) (had have : List Bool) (entries : List SettleEntry) (some : Bool) → PortTicksUpTo k start had entries some have now → k ≤ length start.second → PortTicksBegun start had entries now
port_ticks_want k start now had have entries some up within = made.ticks_want ports_in_world port_runs k start now had have entries some up within

pub port_names_begin : (w : DomainState) (quiet : List Bool) → PortsNamed 0 w quiet []
port_names_begin w quiet = made.names_begin ports_in_world port_runs w quiet

pub port_names_go_on : (k : ℕ) (w : DomainState) (quiet : List Bool) (entries one : List SettleEntry) (calm : Bool) (lane : PortState) → PortsNamed k w quiet entries → slice_get w.second k ≡ Some lane → slice_get quiet k ≡ Some calm → one ≡ port_name k calm lane → PortsNamed (k + 1) w quiet (entries ++ one)
port_names_go_on k w quiet entries one calm lane up there mark is = made.names_go_on ports_in_world port_runs k w quiet entries one calm lane up there mark is
