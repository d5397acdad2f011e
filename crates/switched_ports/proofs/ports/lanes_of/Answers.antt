use Rattle.switched_ports.proofs.Fresh.{lanes_more, shape_there}
use Rattle.switched_ports.proofs.ports.lanes_of.Goals as goal

pub new-requires : goal.new-requires
new-requires c = shape_there c.args.shapes.now c.loop-shape.shape-index _ c.requires.shapes c.loop-shape-test.true

pub loop-shape-preserved : goal.loop-shape-preserved
loop-shape-preserved c =
    lanes_more c.args.shapes.now c.loop-shape.shape-index _ c.loop-shape.lanes.items c.push.new.self.items
    c.in_ok-new.field-0
    c.loop-shape-test.true c.loop-shape.invariant c.in_ok-push.ensures.items c.in_ok-new.ensures
