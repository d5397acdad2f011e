use Rattle.std.proofs.Common.{rules, ◌∙◌, ◌++◌, List, [], ◌∷◌, ap, refl}
use Rattle.ldom_entries.specs.declared.entry.Entry.{Entry}
use Rattle.ldom_entries.specs.declared.entry.Entry.TheVariants as entry
use Rattle.recorded_lanes.specs.Steps.{moment}
use Rattle.ldom_world.proofs.SettlingAdds.{on_err, turn_settles, turn_wants_answer, turn_wants_in_round, turn_wants_in_ticks}
use Rattle.ldom_world.proofs.SettlingLanes.{counted_stays}
use Rattle.ldom_world.specs.SettleParts.{marks_of}
use Rattle.ldom_world.proofs.world.World.settle_pass.Goals as goal

pub returns-in_err-settle_round-clause-breaks : goal.returns-in_err-settle_round-clause-breaks
returns-in_err-settle_round-clause-breaks g c =
    on_err c.from_residual.result
    (turn_wants_in_round (moment c.args.self.now c.args.journal.now.entries) (moment _ _) (marks_of c.args.had.now)
    (marks_of c.args.quiet.now)
    c.in_err-settle_round.ensures.begun)

pub returns-in_err-tick_lanes-clause-breaks : goal.returns-in_err-tick_lanes-clause-breaks
returns-in_err-tick_lanes-clause-breaks g c =
    let round = c.in_ok-settle_round.ensures in
    on_err c.from_residual-in_err-tick_lanes.result
    (turn_wants_in_ticks (moment c.args.self.now c.args.journal.now.entries) (moment c.settle_round.new.self c.settle_round.new.journal.entries) (moment _ _) (marks_of c.args.had.now)
    (marks_of c.args.quiet.now) _ round.made (search rules) c.in_err-tick_lanes.ensures.begun)

pub returns-in_err-reserve-clause-breaks : goal.returns-in_err-reserve-clause-breaks
returns-in_err-reserve-clause-breaks g c =
    let round = c.in_ok-settle_round.ensures in
    on_err c.from_residual-in_err-reserve.result
    (turn_wants_answer (moment c.args.self.now c.args.journal.now.entries) (moment c.settle_round.new.self c.settle_round.new.journal.entries) (moment c.tick_lanes.new.self c.tick_lanes.new.journal.entries) _ (marks_of c.args.had.now) _
    (marks_of c.args.quiet.now) _ _ round.made (search rules) c.in_ok-tick_lanes.ensures.ticked
    c.in_err-reserve.ensures.entries)

pub returns-clause-turned : goal.returns-clause-turned
returns-clause-turned g c =
    let round = c.in_ok-settle_round.ensures in
    let said = c.push.ensures.entries ∙ ap (λ (l : List Entry). l ++ entry.Settled ∷ [])
    c.in_ok-reserve.ensures.entries in
    turn_settles (moment c.args.self.now c.args.journal.now.entries) (moment c.settle_round.new.self c.settle_round.new.journal.entries) (moment c.tick_lanes.new.self c.tick_lanes.new.journal.entries) _ (marks_of c.args.had.now) _
    (marks_of c.args.quiet.now) _ _ round.made (search rules) c.in_ok-tick_lanes.ensures.ticked c.if-branch.false said

pub returns-clause-agrees : goal.returns-clause-agrees
returns-clause-agrees g c =
    let said = c.push.ensures.entries ∙ ap (λ (l : List Entry). l ++ entry.Settled ∷ [])
    c.in_ok-reserve.ensures.entries in
    counted_stays c.tick_lanes.new.journal.entries _ entry.Settled c.tick_lanes.new.self c.tick_lanes.ensures.agrees refl said
