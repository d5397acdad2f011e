use Rattle.std.proofs.Common.{◌≡◌, ◌+◌, ◌≤◌, length, drop}
use Rattle.lane_models.specs.Groups.{with_groups}
use Rattle.port_session.proofs.membership.with_groups.Given as goal

abbrev pub invariant-loop-address : goal.invariant-loop-address
invariant-loop-address l = record {
  list : with_groups l.groups l.named ≡ with_groups l.all.items (drop l.address-index l.named);
  few : length l.all.items ≤ 7 + l.address-index;
}
