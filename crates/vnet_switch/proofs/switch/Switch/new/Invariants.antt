use Rattle.std.proofs.Common.{◌≡◌, ◌≤◌, ◌*◌, map, sum, take}
use Rattle.vnet_switch.specs.Queues.{fresh_port}
use Rattle.vnet_switch.proofs.switch.Switch.new.Given as goal

abbrev pub invariant-loop-count : goal.invariant-loop-count
invariant-loop-count l = record {
  ports : l.ports.items ≡ map fresh_port (take l.count-index l.slots);
  room : l.room ≡ sum (take l.count-index l.slots);
  fits : l.room ≤ l.count-index * 4294967296;
}
