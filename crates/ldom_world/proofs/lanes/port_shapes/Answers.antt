use Rattle.std.proofs.Common.{◌≡◌, ◌≤◌, List, Some, slice_get, sym, subst, ◌∙◌, arith}
use Rattle.recorded_lanes.specs.world_parts.lane_models.NetLaneState.{IsNetShape, NetShape}
use Rattle.domain_script.proofs.Disks.{is_port_at}
use Rattle.lane_kinds.specs.Lanes.{EachOf}
use Rattle.ldom_world.proofs.Declaring.{one_longer}
use Rattle.ldom_world.proofs.DeclaringPorts.{all_if_few, all_if_none, shapes_differ, shapes_more, sound_more}
use Rattle.ldom_world.proofs.lanes.port_shapes.Goals as goal

pub port_shape-requires : goal.port_shape-requires
port_shape-requires c =
    is_port_at c.args.names.now.ports c.loop-k.k c.in-Some.port c.requires (sym c.in-Some.ensures.value)

pub loop-k-preserved : goal.loop-k-preserved
loop-k-preserved c =
    let ports = c.args.names.now.ports in
    let there : slice_get ports c.loop-k.k ≡ Some c.in-Some.port = sym c.in-Some.ensures.value in
    record {
      shapes =
          shapes_more ports c.loop-k.k c.in-Some.port there c.loop-k.shapes.items c.push.new.self.items
          c.port_shape.result c.loop-k.invariant.shapes c.port_shape.ensures.made c.in_ok-push.ensures.items;
      sound = sound_more ports c.loop-k.k c.in-Some.port there c.loop-k.invariant.sound c.port_shape.ensures.sound;
      long = one_longer c.loop-k.shapes.items c.push.new.self.items c.port_shape.result c.loop-k.k
          c.in_ok-push.ensures.items c.loop-k.invariant.long;
      few = λ some. c.port.ensures.few;
      differ = λ some. c.port.ensures.differ;
    }

pub returns-in-None-clause-shapes : goal.returns-in-None-clause-shapes
returns-in-None-clause-shapes c =
    c.loop-k.invariant.shapes ∙ all_if_none c.args.names.now.ports c.loop-k.k (sym c.in-None.ensures.value)

pub returns-in-None-clause-sound : goal.returns-in-None-clause-sound
returns-in-None-clause-sound c =
    subst (λ (l : List NetShape). EachOf IsNetShape l)
    (all_if_none c.args.names.now.ports c.loop-k.k (sym c.in-None.ensures.value)) c.loop-k.invariant.sound

pub returns-in-None-clause-differ : goal.returns-in-None-clause-differ
returns-in-None-clause-differ c = shapes_differ c.args.names.now.ports c.port.ensures.differ

pub returns-clause-shapes : goal.returns-clause-shapes
returns-clause-shapes c =
    let some : 1 ≤ c.loop-k.k = omega (arith, c.loop-k-test.false) in
    c.loop-k.invariant.shapes
    ∙ all_if_few c.args.names.now.ports c.loop-k.k (omega (arith, c.loop-k.invariant.few some, c.loop-k-test.false))

pub returns-clause-sound : goal.returns-clause-sound
returns-clause-sound c =
    let some : 1 ≤ c.loop-k.k = omega (arith, c.loop-k-test.false) in
    subst (λ (l : List NetShape). EachOf IsNetShape l)
    (all_if_few c.args.names.now.ports c.loop-k.k (omega (arith, c.loop-k.invariant.few some, c.loop-k-test.false)))
    c.loop-k.invariant.sound

pub returns-clause-differ : goal.returns-clause-differ
returns-clause-differ c =
    let some : 1 ≤ c.loop-k.k = omega (arith, c.loop-k-test.false) in
    shapes_differ c.args.names.now.ports (c.loop-k.invariant.differ some)
