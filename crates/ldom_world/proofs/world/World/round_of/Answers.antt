use Rattle.std.proofs.Common.{arith, rules}
use Rattle.ldom_world.proofs.Lifted.{both_numbers}
use Rattle.ldom_world.proofs.NumbersStay.{numbers_stay}
use Rattle.ldom_world.proofs.SettlingLanes.{all_set}
use Rattle.ldom_world.proofs.world.World.round_of.Goals as goal

pub loop-number-preserved : goal.loop-number-preserved
loop-number-preserved g c =
    let before = c.loop-number.invariant in
    let lane = c.in_ok-calm.ensures in
    record {
      made = lane.made c.args.self.now c.args.journal.now.entries before.made;
      calm = all_set c.loop-number.number c.loop-number.quiet _ c.loop-number.all c.in_ok-calm.calm
          (search rules) lane.marked before.calm;
      many = both_numbers before.many lane.many;
      long = search rules;
      agrees = lane.agrees;
    }

pub round_of_lane-requires-clause-lane : goal.round_of_lane-requires-clause-lane
round_of_lane-requires-clause-lane g c =
    let same = numbers_stay c.args.kind c.args.self.now c.loop-number.self c.loop-number.invariant.many in
    omega (arith, same, c.count_of-number-end.ensures.count, c.loop-number-test.true)
