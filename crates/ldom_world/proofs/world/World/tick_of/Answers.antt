use Rattle.std.proofs.Common.{rules, ◌∙◌, sym, false}
use Rattle.std.proofs.lemmas.Option.{slice_get-get_or}
use Rattle.ldom_world.proofs.SettlingLanes.{lane_of, ticked_goes_on, unticked_goes_on}
use Rattle.ldom_world.proofs.world.World.tick_of.Goals as goal

pub returns-then-not-gets_tick-clause-ticked : goal.returns-then-not-gets_tick-clause-ticked
returns-then-not-gets_tick-clause-ticked g c =
    let at = lane_of c.args.self.now c.args.lane c.requires.lane in
    let gets = c.gets_tick.ensures at.0 at.1 in
    unticked_goes_on c.args.lane.kind c.args.lane.number c.args.self.now c.args.journal.now.entries c.args.had.now at.0 _ at.1
    (slice_get-get_or c.args.had.now c.args.lane.number false c.requires.place) c.requires.place
    (sym gets ∙ c.if-not-gets_tick.true)

pub returns-clause-ticked : goal.returns-clause-ticked
returns-clause-ticked g c =
    let at = lane_of c.args.self.now c.args.lane c.requires.lane in
    let gets = c.gets_tick.ensures at.0 at.1 in
    ticked_goes_on c.args.lane.kind c.args.lane.number c.args.self.now _ c.args.journal.now.entries _ c.args.had.now _ at.0 _ at.1
    (slice_get-get_or c.args.had.now c.args.lane.number false c.requires.place) c.requires.place
    (sym gets ∙ c.if-not-gets_tick.false) (search rules) c.in_ok-call_on.ensures.fits
