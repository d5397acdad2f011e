use Rattle.std.proofs.Common.{◌≡◌, ℕ, ◌+◌, ◌≤◌, Some, slice_get, sym, ap, ◌∙◌, arith}
use Rattle.domain_script.specs.Declarations.{IsDisk}
use Rattle.domain_script.proofs.Disks.{is_disk_at}
use Rattle.ldom_world.proofs.Declaring.{all_lanes, one_longer, first_more, lanes_more, no_more_lanes}
use Rattle.ldom_world.proofs.lanes.lanes_of.Goals as goal

pub lane_of-requires : goal.lane_of-requires
lane_of-requires c =
    is_disk_at c.args.names.now.disks c.loop-k.k c.in-Some.disk c.requires (sym c.in-Some.ensures.value)

pub loop-k-preserved : goal.loop-k-preserved
loop-k-preserved c =
    let there : slice_get c.args.names.now.disks c.loop-k.k ≡ Some c.in-Some.disk = sym c.in-Some.ensures.value in
    let limits : IsDisk c.in-Some.disk = is_disk_at c.args.names.now.disks c.loop-k.k c.in-Some.disk c.requires there in
    record {
      lanes =
          lanes_more c.args.names.now.disks c.loop-k.k c.loop-k.first c.in-Some.disk c.loop-k.lanes.items
          c.push.new.self.items c.in_ok-lane_of.field-0
          there c.loop-k.invariant.first c.loop-k.invariant.lanes c.in_ok-lane_of.ensures c.in_ok-push.ensures.items;
      first = ap (λ (n : ℕ). c.loop-k.first + n) c.from.ensures
          ∙ first_more c.args.names.now.disks c.loop-k.k c.loop-k.first c.in-Some.disk there c.loop-k.invariant.first;
      long = one_longer c.loop-k.lanes.items c.push.new.self.items c.in_ok-lane_of.field-0 c.loop-k.k
          c.in_ok-push.ensures.items c.loop-k.invariant.long;
      small = omega (arith, c.loop-k.invariant.small, limits.most_blocks, c.from.ensures);
      few = λ some. c.disk.ensures.few;
    }

pub returns-in-None-clause-lanes : goal.returns-in-None-clause-lanes
returns-in-None-clause-lanes c =
    no_more_lanes c.args.names.now.disks c.loop-k.k c.loop-k.lanes.items c.loop-k.invariant.lanes
    (sym c.in-None.ensures.value)

pub returns-clause-lanes : goal.returns-clause-lanes
returns-clause-lanes c =
    let some : 1 ≤ c.loop-k.k = omega (arith, c.loop-k-test.false) in
    all_lanes c.args.names.now.disks c.loop-k.k c.loop-k.lanes.items c.loop-k.invariant.lanes
    (omega (arith, c.loop-k.invariant.few some, c.loop-k-test.false))
