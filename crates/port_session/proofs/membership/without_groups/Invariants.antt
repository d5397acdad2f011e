use Rattle.std.proofs.Common.{◌≡◌, ◌++◌, ◌≤◌, length, drop}
use Rattle.lane_models.specs.Groups.{without_groups}
use Rattle.port_session.proofs.membership.without_groups.Given as goal

abbrev pub invariant-loop-address : goal.invariant-loop-address
invariant-loop-address l = record {
  list : without_groups l.groups l.named ≡ l.list.items ++ without_groups (drop l.address-index l.groups) l.named;
  few : length l.list.items ≤ l.address-index;
}
