use Rattle.std.proofs.Common.{◌≡◌, ◌*◌, ◌≤◌, take}
use Rattle.lane_kinds.specs.Lanes.{sum_of}
use Rattle.switch_laws.specs.Ports.{pending}
use Rattle.switched_ports.proofs.ports.Ports.pending.Given as goal

abbrev pub invariant-loop-port : goal.invariant-loop-port
invariant-loop-port l = record {
  total : l.total ≡ sum_of pending (take l.port l.self);
  few : l.total ≤ l.port * 12884901885;
}
