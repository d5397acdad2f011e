use Rattle.std.proofs.Common.{refl, rules}
use Rattle.ldom_entries.specs.declared.entry.Entry.TheVariants as entry
use Rattle.ldom_entries.specs.declared.entry.Who.TheVariants.{Lane as OfWhole}
use Rattle.ldom_world.proofs.SettlingLanes.{counted_stays, lane_of, named_goes_on, unnamed_goes_on}
use Rattle.ldom_world.proofs.world.World.name.Goals as goal

pub returns-then-rests-clause-named : goal.returns-then-rests-clause-named
returns-then-rests-clause-named g c =
    let at = lane_of c.args.self.now c.args.lane c.requires.lane in
    unnamed_goes_on c.args.lane.kind c.args.lane.number c.args.self.now c.args.calm _ at.0 c.args.journal.now.entries at.1
    (c.rests.ensures at.0 at.1) c.if-rests.true

pub returns-clause-named : goal.returns-clause-named
returns-clause-named g c =
    let at = lane_of c.args.self.now c.args.lane c.requires.lane in
    named_goes_on c.args.lane.kind c.args.lane.number c.args.self.now c.args.calm _ at.0 c.args.journal.now.entries _ at.1
    (c.rests.ensures at.0 at.1) c.if-rests.false (search rules)

pub returns-clause-agrees : goal.returns-clause-agrees
returns-clause-agrees g c =
    counted_stays c.args.journal.now.entries _ (entry.Unsettled (OfWhole c.args.lane)) c.args.self.now c.requires.agrees refl
    (search rules)
