use Rattle.std.proofs.Common.{rules}
use Rattle.ldom_world.proofs.KindAdding.{lane_goes_on, second_wants}
use Rattle.ldom_world.proofs.SettlingAdds.{on_err}
use Rattle.ldom_world.proofs.world.World.round_of_lane.Goals as goal

pub returns-clause-made : goal.returns-clause-made
returns-clause-made g c =
    lane_goes_on c.args.lane.kind c.args.lane.number c.args.self.now _ _ c.args.journal.now.entries _ _ c.args.quiet.now _
    c.in_ok-client.client c.in_ok-server.server
    c.in_ok-client.ensures.made c.in_ok-server.ensures.made c.requires.place (search rules)

pub returns-in_err-server-clause-begun : goal.returns-in_err-server-clause-begun
returns-in_err-server-clause-begun g c =
    let none = c.in_err-server.ensures.same in
    let broke = second_wants c.args.lane.kind c.args.lane.number c.args.self.now c.quiet_step.new.self c.quiet_step-2.new.self
    c.args.journal.now.entries c.quiet_step.new.journal.entries c.quiet_step-2.new.journal.entries c.args.quiet.now
    c.in_ok-client.client c.in_ok-client.ensures.made none.0 none.1 in
    on_err c.from_residual-in_err-server.result broke
