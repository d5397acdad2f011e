use Rattle.domain_script.specs.LaneKinds.{lane_at}
use Rattle.recorded_lanes.specs.Steps.{moment}
use Rattle.std.proofs.Common.{Bool, sym, subst}
use Rattle.std.specs.Prelude.{IfOk}
use Rattle.domain_script.specs.declared.fields.LaneKind.{LaneKind}
use Rattle.recorded_lanes.specs.ldom_report.LaneEvents.{end_of}
use Rattle.ldom_world.specs.SettleParts.{MakesQuiet}
use Rattle.ldom_world.proofs.world.World.quiet_step.Goals as goal

pub returns-in-Disk-clause-made : goal.returns-in-Disk-clause-made
returns-in-Disk-clause-made g c =
    let step = c.quiet_step in
    subst (λ (kind : LaneKind). IfOk step.result (λ (calm : Bool). MakesQuiet (lane_at kind c.args.lane.number) (end_of c.args.side) (moment c.args.self.now c.args.journal.now.entries) calm (moment step.new.world step.new.journal.entries))) (sym c.in-Disk.is) step.ensures.made

pub returns-in-Port-clause-made : goal.returns-in-Port-clause-made
returns-in-Port-clause-made g c =
    let step = c.quiet_step-in-Port in
    subst (λ (kind : LaneKind). IfOk step.result (λ (calm : Bool). MakesQuiet (lane_at kind c.args.lane.number) (end_of c.args.side) (moment c.args.self.now c.args.journal.now.entries) calm (moment step.new.world step.new.journal.entries))) (sym c.in-Port.is) step.ensures.made
